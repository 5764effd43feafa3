-- What can come after a prepared mapping: copied data in place, or a new cluster that was filled.
use Rattle.std.proofs.Common.{◌≡◌, ◌⊎◌, ◌+◌, ◌-◌, ◌*◌, ◌/◌, ◌%◌, ◌<◌, ◌∷◌, ◌&&◌, ◌≢◌, inl, inr, ℕ, Bool, true, false, List, length, [], Option, Some, None, refl, sym, ap, ◌∙◌, subst, arith, min, Result, Ok, Err}
use Rattle.qcow2_image.proofs.Common.{slice_get, div-add-mod', div-mul-add, mod-mul-add, mod_below, pow_pos, BackingView, StorageView, is_within, HeaderFields, L2Mapping, Data, Zero, cover, known_byte, cluster_size, entries_per_cluster, IsHostCluster, IsInReach, named_run, with_new_data, is_copied_data, cover_format, size_format, IsPastLimits, ClustersToFreeEntry, ImageError, IsEntryAt, contents_in, known_in, Qcow2, Prepared, ClusterMapping, InPlace, New, run_of, of_data, of_tables, to_free, listed_run, disk_of, pending_in, cluster_of, host_begin_of, IsNewAt, IsPending, IsReadyWith, ImageInvariant, InternalCall, Ends, FindsBehind, IsSharedAt, MayGoOn, ClusterMappingsAt, StandsBehind, is_announced, pending_with_listed, IsFilled, InternalFillingStep, Mappings, IsClusterMappingAt, contents_for}
use Rattle.qcow2_metadata.specs.Entries.{count as count_of}
use Rattle.qcow2_image.proofs.Call.Refused.{back_refused, image_step_stays}
use Rattle.qcow2_image.proofs.Prepare.FirstCluster.{listed_after_same}
use Rattle.qcow2_image.proofs.Prepare.NextCluster.{within_as}
use Rattle.qcow2_image.proofs.Prepare.InternalWrites.{image_step_none}
use Rattle.qcow2_image.proofs.Images.ClusterMappings.{place_in}
use Rattle.qcow2_image.proofs.Images.Sound.{free_more}
use Rattle.qcow2_image.proofs.Images.Places.{from_image}

-- a host cluster that is in use isn't the mapping's own
not_own : {A B C : Type 0} → (C → ⊥) → (A ⊎ B) → A ⊎ (B × (C → ⊥))
not_own never (inl a) = inl a
not_own never (inr b) = inr (b, never)

module _ {S F : Type 0} (view : S → StorageView) (backing : F → BackingView) (old : Qcow2 S F) (out : Mappings) (k : ℕ) (p : Prepared) (at : slice_get out.slots k ≡ Some (Some p)) (n table : ℕ) (overwrite : Bool) (may : MayGoOn old.file.header.fields n table p)
    (sound : ImageInvariant view backing (pending_in view backing old out) old out) where
  abbrev h : HeaderFields
  h = old.file.header.fields

  abbrev count : ℕ
  count = length p.clusters.items

  pending : IsPending h out.place (known_in view old.file) (contents_in view old.file) p table
  pending = subst (IsReadyWith h out.place (known_in view old.file) (contents_in view old.file) p) may.under (sound.ready k p at).mapped

  -- where it goes on, in the guest and in the file
  pub next_is : p.guest + p.length ≡ (cluster_of h p + count) * cluster_size h
  next_is =
      let guest_is : p.guest / cluster_size h * cluster_size h + p.guest % cluster_size h ≡ p.guest = div-add-mod' p.guest (cluster_size h) in
      let both : (cluster_of h p + count) * cluster_size h ≡ cluster_of h p * cluster_size h + count * cluster_size h = omega arith in
      let whole = may.whole in
      omega arith

  pub host_is : host_begin_of h p count ≡ p.offset + p.length
  host_is = let begins = pending.begins in let whole = may.whole in omega arith

  pub next_cluster : (p.guest + p.length) / cluster_size h ≡ cluster_of h p + count
  next_cluster = let none : (cluster_of h p + count) * cluster_size h + 0 ≡ p.guest + p.length = let is = next_is in omega arith in
      ap (λ o. o / cluster_size h) (sym none) ∙ div-mul-add (cluster_of h p + count) (cluster_size h) 0 (pow_pos h.cluster_bits)

  pub next_begins : (p.guest + p.length) % cluster_size h ≡ 0
  next_begins = let none : (cluster_of h p + count) * cluster_size h + 0 ≡ p.guest + p.length = let is = next_is in omega arith in
      ap (λ o. o % cluster_size h) (sym none) ∙ mod-mul-add (cluster_of h p + count) (cluster_size h) 0 (pow_pos h.cluster_bits)

  -- its entry is in the same table
  index_is : (cluster_of h p + count) % entries_per_cluster h ≡ cluster_of h p % entries_per_cluster h + count
  index_is =
      let split : cluster_of h p / entries_per_cluster h * entries_per_cluster h + cluster_of h p % entries_per_cluster h ≡ cluster_of h p = div-add-mod' (cluster_of h p) (entries_per_cluster h) in
      let e : cluster_of h p + count ≡ cluster_of h p / entries_per_cluster h * entries_per_cluster h + (cluster_of h p % entries_per_cluster h + count) = omega arith in
      ap (λ c. c % entries_per_cluster h) e ∙ mod-mul-add (cluster_of h p / entries_per_cluster h) (entries_per_cluster h) (cluster_of h p % entries_per_cluster h + count) may.within

  pub table_is : (cluster_of h p + count) / entries_per_cluster h ≡ cluster_of h p / entries_per_cluster h
  table_is =
      let split : cluster_of h p / entries_per_cluster h * entries_per_cluster h + cluster_of h p % entries_per_cluster h ≡ cluster_of h p = div-add-mod' (cluster_of h p) (entries_per_cluster h) in
      let e : cluster_of h p + count ≡ cluster_of h p / entries_per_cluster h * entries_per_cluster h + (cluster_of h p % entries_per_cluster h + count) = omega arith in
      ap (λ c. c / entries_per_cluster h) e ∙ div-mul-add (cluster_of h p / entries_per_cluster h) (entries_per_cluster h) (cluster_of h p % entries_per_cluster h + count) may.within

  pub next_says : (cluster : ℕ) (mapping : L2Mapping) → cluster ≡ (p.guest + p.length) / cluster_size h
      → (IsEntryAt h (known_in view old.file) (cluster_of h p / entries_per_cluster h) table (cluster % entries_per_cluster h) → cluster / entries_per_cluster h ≡ cluster_of h p / entries_per_cluster h → cover h (known_in view old.file) cluster ≡ mapping)
      → cover h (known_in view old.file) (cluster_of h p + count) ≡ mapping
  next_says cluster mapping is says =
      let same : cluster ≡ cluster_of h p + count = is ∙ next_cluster in
      let index : cluster % entries_per_cluster h ≡ cluster_of h p % entries_per_cluster h + count = ap (λ c. c % entries_per_cluster h) same ∙ index_is in
      subst (λ c. cover h (known_in view old.file) c ≡ mapping) same
      (says (record { real = pending.named.real; place = pending.named.place; within = subst (λ j. j < entries_per_cluster h) (sym index) may.within }) (ap (λ c. c / entries_per_cluster h) same ∙ table_is))

  -- nothing changed
  unseen_none : InternalCall view backing old old out
  unseen_none = image_step_stays view backing out old old sound (subst (λ q. InternalFillingStep view backing (pending_in view backing old out) q old old out) (sym (listed_after_same view backing out (pending_in view backing old out) old old refl))
      (image_step_none view backing out old (pending_in view backing old out) sound))

  -- copied data elsewhere
  pub ends_elsewhere : (place : ℕ) → cover h (known_in view old.file) (cluster_of h p + count) ≡ Data place true → (place ≡ p.offset + p.length → ⊥) → InternalCall view backing old old out × Ends view old p
  ends_elsewhere place is other =
      let ends : Ends view old p = record {
        cluster = next_begins;
        because = inr (inl (place, (place, ap (cover h (known_in view old.file)) next_cluster ∙ is, (let begins = next_begins in omega arith)), other));
      } in (unseen_none, ends)

  -- ---- in place
  pub behind_in_place : cover h (known_in view old.file) (cluster_of h p + count) ≡ Data (p.offset + p.length) true → StandsBehind view backing old old out n overwrite p InPlace
  behind_in_place is = record {
    pending = pending_in view backing old out;
    image_step = image_step_none view backing out old (pending_in view backing old out) sound;
    new_data = λ c. omega arith;
    new_tables = λ c. refl;
    old_tables = λ c. refl;
    old_data = λ c. refl;
    surplus = refl;
    stands = is ∙ ap (λ b. Data b true) (sym host_is);
    filled = λ o here entered. absurd (let e : false ≡ true = entered in cc);
  }

  -- what is announced of it is what is announced of the range
  announced_here : (o : ℕ) → o / cluster_size h ≡ cluster_of h p + count → (overwrite && is_within p.guest (min n (p.length + cluster_size h)) o ≡ false)
      → is_announced (cluster_size h) (p.guest + p.length) (n - p.length) overwrite (o % cluster_size h) ≡ false
  announced_here o here opened =
      let o_is : o / cluster_size h * cluster_size h + o % cluster_size h ≡ o = div-add-mod' o (cluster_size h) in
      let there : o / cluster_size h * cluster_size h ≡ (cluster_of h p + count) * cluster_size h = ap (λ c. c * cluster_size h) here in
      let is = next_is in
      let begins = next_begins in
      let more = may.more in
      ap (λ b. overwrite && b) (sym (within_as p.guest (min n (p.length + cluster_size h)) o ((p.guest + p.length) % cluster_size h) (min (n - p.length) (cluster_size h - (p.guest + p.length) % cluster_size h)) (o % cluster_size h)
      (omega arith) (omega arith) (omega arith))) ∙ opened

  -- what was filled of it shows what the guest saw
  module _ (new : Qcow2 S F) (first : ℕ) (fills : IsFilled view backing out.place old new first (p.guest + p.length) (n - p.length) overwrite) where
    filled_here : (o : ℕ) → o / cluster_size h ≡ cluster_of h p + count → (overwrite && is_within p.guest (min n (p.length + cluster_size h)) o ≡ false)
        → known_byte (contents_for view backing out.place new (first * cluster_size h + o % cluster_size h)) ≡ (disk_of view backing out.place old).value o
    filled_here o here opened =
        let o_is : o / cluster_size h * cluster_size h + o % cluster_size h ≡ o = div-add-mod' o (cluster_size h) in
        let there : o / cluster_size h * cluster_size h ≡ (cluster_of h p + count) * cluster_size h = ap (λ c. c * cluster_size h) here in
        let is = next_is in
        let begins = next_begins in
        let guest : p.guest + p.length - (p.guest + p.length) % cluster_size h + o % cluster_size h ≡ o = omega arith in
        fills (o % cluster_size h) (mod_below o (cluster_size h) (pow_pos h.cluster_bits)) (announced_here o here opened) ∙ ap (disk_of view backing out.place old).value guest

    pub filled_there : (s : ℕ) → s ≡ cluster_size h → (o : ℕ) → o / s ≡ p.guest / s + count → (overwrite && is_within p.guest (min n (p.length + s)) o ≡ false)
        → known_byte (contents_for view backing out.place new (first * s + o % s)) ≡ (disk_of view backing out.place old).value o
    filled_there s is o = subst (λ x. o / x ≡ p.guest / x + count → (overwrite && is_within p.guest (min n (p.length + x)) o ≡ false) → known_byte (contents_for view backing out.place new (first * x + o % x)) ≡ (disk_of view backing out.place old).value o) (sym is) (filled_here o)

  -- ---- in a new cluster
  module _ (new : Qcow2 S F) (mapping : L2Mapping) (reach : IsInReach mapping) (other : is_copied_data mapping ≡ false) (covered : cover h (known_in view old.file) (cluster_of h p + count) ≡ mapping)
      (cluster_mapping : ClusterMapping) (shared : IsSharedAt view backing (pending_in view backing old out) old new out (p.guest + p.length) (n - p.length) overwrite mapping (p.offset + p.length) cluster_mapping) where
    abbrev hn : HeaderFields
    hn = new.file.header.fields

    abbrev run : ClustersToFreeEntry
    run = shared.run

    abbrev old_data : List ClustersToFreeEntry
    old_data = listed_run (named_run old.file.header.fields.cluster_bits mapping)

    size : cluster_size hn ≡ cluster_size h
    size = size_format h hn shared.gained.image_step.header

    stays_covered : cover hn (known_in view new.file) (cluster_of hn p + count) ≡ mapping
    stays_covered = ap (λ c. cover hn (known_in view new.file) (c + count)) (ap (λ s. p.guest / s) size) ∙ cover_format h hn shared.gained.image_step.header (known_in view new.file) (cluster_of h p + count) ∙ sym (shared.gained.image_step.covers (cluster_of h p + count)) ∙ covered

    place : run.first_cluster * cluster_size hn ≡ host_begin_of hn p count
    place = ap (λ s. run.first_cluster * s) size ∙ shared.place ∙ sym host_is ∙ sym (ap (λ s. p.offset - p.guest % s + count * s) size)

    stands : IsNewAt hn (known_in view new.file) (contents_in view new.file) p count (run ∷ []) old_data
    stands = record {
      first = run.first_cluster;
      is = ap (λ (e : ClustersToFreeEntry). e ∷ []) (ap (λ c. record run { count = c }) shared.gained.one ∙ ap (λ x. record run { count = 1; kind = x }) shared.gained.kind);
      place = place;
      nameable = subst (λ (x : HeaderFields). IsHostCluster x.cluster_bits run.first_cluster) (sym shared.gained.image_step.header) shared.nameable;
      entry = ap is_copied_data stays_covered ∙ other;
      reach = subst IsInReach (sym stays_covered) reach;
      drops = ap (λ (x : HeaderFields). listed_run (named_run x.cluster_bits mapping)) (sym shared.gained.image_step.header) ∙ ap (λ v. listed_run (named_run hn.cluster_bits v)) (sym stays_covered);
    }

    behind_as_new : StandsBehind view backing old new out n overwrite p (New (run ∷ []) old_data)
    behind_as_new = record {
      pending = with_new_data (pending_with_listed (pending_in view backing old out) old new) (run_of run);
      image_step = shared.gained.image_step;
      new_data = λ c.
          let as_data : to_free of_data (run ∷ []) c ≡ run_of run c = ap (λ x. of_data x (run_of run c) + 0) shared.gained.kind ∙ omega arith in
          omega arith;
      new_tables = λ c. refl;
      old_tables = λ c. let more = ap (λ l. to_free of_tables l c) shared.gained.image_step.list.is ∙ free_more of_tables old.file.free_list shared.gained.image_step.list.more c in omega arith;
      old_data = λ c. let more = ap (λ l. to_free of_data l c) shared.gained.image_step.list.is ∙ free_more of_data old.file.free_list shared.gained.image_step.list.more c in omega arith;
      surplus = refl;
      stands = from_image (λ place. IsClusterMappingAt hn place (known_in view new.file) (contents_in view new.file) p count (New (run ∷ []) old_data)) sound stands;
      filled = λ o here entered opened.
          ap (λ at. known_byte (contents_for view backing out.place new at)) (place_in hn p o count here ∙ ap (λ b. b + o % cluster_size hn) (sym place))
          ∙ filled_there new run.first_cluster (shared.gained.filled (ap (cover h (known_in view old.file)) next_cluster ∙ covered)) (cluster_size hn) size o here opened;
    }

    pub behind_new : StandsBehind view backing old new out n overwrite p cluster_mapping
    behind_new = subst (λ (x : ClusterMapping). StandsBehind view backing old new out n overwrite p x) (sym shared.is) behind_as_new

  -- ---- what was found at its place
  pub finds_shared : (new : Qcow2 S F) (mapping : L2Mapping) → IsInReach mapping → is_copied_data mapping ≡ false → (mapping ≡ Zero (Some (p.offset + p.length, true)) → ⊥) → cover h (known_in view old.file) (cluster_of h p + count) ≡ mapping
      → (r : Result (Option ClusterMapping) ImageError) → ClusterMappingsAt view backing (pending_in view backing old out) old new out (p.guest + p.length) (n - p.length) overwrite mapping (p.offset + p.length) r → FindsBehind view backing old new out n overwrite p r
  finds_shared new mapping reach other never covered (Ok (Some cluster_mapping)) is = behind_new new mapping reach other covered cluster_mapping is
  finds_shared new mapping reach other never covered (Ok None) is =
      let hn = new.file.header.fields in
      let same : cluster_size new.file.header.fields ≡ cluster_size h = size_format h new.file.header.fields is.0.header in
      let here : cover hn (known_in view new.file) ((p.guest + p.length) / cluster_size hn) ≡ mapping =
      ap (λ s. cover hn (known_in view new.file) ((p.guest + p.length) / s)) same ∙ ap (cover hn (known_in view new.file)) next_cluster
      ∙ cover_format h hn is.0.header (known_in view new.file) (cluster_of h p + count) ∙ sym (is.0.covers (cluster_of h p + count)) ∙ covered in
      let ends : Ends view new p = record {
        cluster = ap (λ s. (p.guest + p.length) % s) same ∙ next_begins;
        because = inr (inr (not_own (λ own. never (sym here ∙ own)) (subst (λ (x : HeaderFields). IsPastLimits x ((p.offset + p.length) / cluster_size x) ⊎ (count_of new.file.header.fields (known_in view new.file) ((p.offset + p.length) / cluster_size x) ≢ 0)) (sym is.0.header) is.1)));
      } in (image_step_stays view backing out old new sound is.0, ends)
  finds_shared new mapping reach other never covered (Err e) is = back_refused view backing out old new e sound is

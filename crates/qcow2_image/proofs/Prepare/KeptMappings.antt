-- A guest cluster whose zero entry keeps a host cluster is prepared there, as the first one of a range or after others.
use Rattle.std.proofs.Common.{◌≡◌, ◌+◌, ◌-◌, ◌*◌, ◌/◌, ◌%◌, ◌≤◌, ◌∷◌, ◌&&◌, inl, inr, ℕ, Bool, true, false, List, length, [], Option, Some, None, refl, sym, ap, ◌∙◌, subst, arith, IsSome, IsTrue, min}
use Rattle.qcow2_image.proofs.Common.{slice_get, cases_eq, cond-true, BackingView, StorageView, is_within, HeaderFields, cluster_size, entries_per_cluster, cover, known_byte, greatest_offset, L2Mapping, Data, Zero, Pending, guest_of, table_at, cover_format, size_format, ClustersToFreeEntry, MetadataCaches, l2_pins, l2_at, contents_in, known_in, Qcow2, Prepared, ClusterMapping, Kept, number_of, IsReadied, abstract_of, cluster_of, new_data_in, host_begin_of, is_private, meaning, of_data, of_tables, pending_in, pins_by, place_of, mapping_of_cluster, to_free, IsKeptAt, IsPending, IsReadyWith, ImageInvariant, BeginsInKept, MayGoOn, StandsBehind, HoldsTable, IsFilled, IsKeptAlone, Pins, InternalFillingStep, Mappings, IsClusterMappingAt, contents_for}
use Rattle.qcow2_image.proofs.Lemmas.{pins_own, over_all_two, filled_there, host_is, next_cluster, table_is, IsNowPending, mapping_at, prepared_by, private_inside, readied, over_all_at, place_in, mapping_here}
use Rattle.qcow2_image.proofs.Prepare.KeptClusters.{has_none, host_whole}
use Rattle.qcow2_image.proofs.Prepare.NewCluster.{filled_byte, holds_still}
use Rattle.qcow2_image.proofs.Images.Places.{from_image}

-- there is no cluster mapping after the last one
get_past : {X : Type 0} (xs : List X) → slice_get xs (length xs) ≡ None
get_past [] = refl
get_past (x ∷ xs) = get_past xs

-- ---- the first cluster of a range

-- it begins in the host cluster that is kept
pub begins_kept : (h : HeaderFields) (offset : ℕ) (first : L2Mapping) (host : ℕ) (p : Prepared) → first ≡ Zero (Some (host, true)) → p.offset ≡ host + offset % cluster_size h → BeginsInKept h offset first p
begins_kept h offset first host p is place other at =
    let both : Zero (Some (host, true)) ≡ Zero (Some (other, true)) = sym is ∙ at in
    let pair : (host, true) ≡ (other, true) = cc in
    let same : host ≡ other = ap (λ (x : ℕ × Bool). x.0) pair in
    place ∙ ap (λ b. b + offset % cluster_size h) same

pub data_keep_none : (h : HeaderFields) (offset : ℕ) (first : L2Mapping) (host : ℕ) (p : Prepared) → first ≡ Data host true → BeginsInKept h offset first p
data_keep_none h offset first host p is other at = absurd (let both : Data host true ≡ Zero (Some (other, true)) = sym is ∙ at in cc)

module _ {S F : Type 0} (view : S → StorageView) (backing : F → BackingView) (out : Mappings) (old : Qcow2 S F) (sound : ImageInvariant view backing (pending_in view backing old out) old out) (offset table host : ℕ) (holds : HoldsTable view backing old offset table)
    (unpinned : l2_pins old.file.caches table ≡ 0) (kept : cover old.file.header.fields (known_in view old.file) (offset / cluster_size old.file.header.fields) ≡ Zero (Some (host, true))) where
  abbrev before : Pending
  before = pending_in view backing old out

  -- no mapping is under its table
  pub first_alone : IsKeptAlone view backing old out offset host
  first_alone = record {
    kept = kept;
    alone = λ k q at. has_none view backing out old before sound offset table holds.entry.place k q at (λ is.
        let mine = pins_own q table is in
        let all = over_all_at pins_by out k q at table in
        let pins = sound.pinned table in
        absurd (omega (arith, mine, all, pins, unpinned)));
  }

  module _ (mid : Qcow2 S F) (image_step : InternalFillingStep view backing before before old mid out) (caches : mid.file.caches ≡ old.file.caches) (list : mid.file.free_list ≡ old.file.free_list) (like : Prepared) (one : like.clusters.items ≡ Kept ∷ []) (reach : host ≤ greatest_offset) (k length : ℕ) (overwrite : Bool)
      (free : slice_get out.slots k ≡ Some None) (filled : IsFilled view backing out.place old mid (host / cluster_size old.file.header.fields) offset length overwrite) where
    abbrev hm : HeaderFields
    hm = mid.file.header.fields

    abbrev ready : Prepared
    ready = mapping_at hm (number_of mid) table offset host like

    size : cluster_size hm ≡ cluster_size old.file.header.fields
    size = size_format old.file.header.fields hm image_step.header

    found : IsSome (l2_at mid.file.caches table)
    found = subst (λ (c : MetadataCaches S). IsSome (l2_at c table)) (sym caches) holds.new_data

    holds_now : HoldsTable view backing mid offset table
    holds_now = holds_still view backing out old mid before before offset table sound image_step holds found

    unpinned_now : l2_pins mid.file.caches table ≡ 0
    unpinned_now = ap (λ (c : MetadataCaches S). l2_pins c table) caches ∙ unpinned

    begin : host_begin_of hm ready 0 ≡ host
    begin = omega arith

    first_cluster : cluster_of hm ready + 0 ≡ offset / cluster_size hm
    first_cluster = omega arith

    stays_kept : cover hm (known_in view mid.file) (cluster_of hm ready + 0) ≡ Zero (Some (host, true))
    stays_kept = ap (cover hm (known_in view mid.file)) first_cluster ∙ ap (λ s. cover hm (known_in view mid.file) (offset / s)) size
        ∙ cover_format old.file.header.fields hm image_step.header (known_in view mid.file) (offset / cluster_size old.file.header.fields) ∙ sym (image_step.covers (offset / cluster_size old.file.header.fields)) ∙ kept

    whole : host / cluster_size old.file.header.fields * cluster_size old.file.header.fields ≡ host
    whole = host_whole view backing out old old before sound offset host length overwrite kept

    place : host / cluster_size old.file.header.fields * cluster_size hm ≡ host_begin_of hm ready 0
    place = ap (λ s. host / cluster_size old.file.header.fields * s) size ∙ whole ∙ sym begin

    stands : IsKeptAt hm (known_in view mid.file) (contents_in view mid.file) ready 0
    stands = record {
      first = host / cluster_size old.file.header.fields;
      place = place;
      nameable = let at = place in let is = begin in omega (arith, at, is, reach);
      entry = stays_kept ∙ ap (λ b. Zero (Some (b, true))) (sym begin);
    }

    stands_so : IsClusterMappingAt hm out.place (known_in view mid.file) (contents_in view mid.file) ready 0 Kept
    stands_so = from_image (λ file. IsClusterMappingAt hm file (known_in view mid.file) (contents_in view mid.file) ready 0 Kept) sound stands

    now : IsNowPending mid out ready before before.surplus
    now = record {
      new_data = λ c. let none : new_data_in like.clusters.items c ≡ 0 = ap (λ (l : List ClusterMapping). new_data_in l c) one in omega arith;
      new_tables = λ c. refl;
      old_tables = λ c. ap (λ (l : List ClustersToFreeEntry). to_free of_tables l c) (sym list);
      old_data = λ c. ap (λ (l : List ClustersToFreeEntry). to_free of_data l c) (sym list);
      surplus = refl;
    }

    module _ (new : Qcow2 S F) (pins : Pins table mid new) where
      abbrev pinned : Qcow2 S F
      pinned = record mid { file = record mid.file { caches = new.file.caches } }

      old_values : (o : ℕ) → IsTrue (is_private view backing pinned ready o) → (overwrite && is_within offset (min length (cluster_size hm - offset % cluster_size hm)) o ≡ false) → (meaning view backing out.place pinned ready).shown o ≡ (guest_of (abstract_of view backing old out)).disk.value o
      old_values o private opened =
          let here = private_inside view backing old mid out k free before image_step offset table host Kept like one holds_now unpinned_now stands_so new.file.caches pins.tables (pins.pins found unpinned_now) now o private in
          let begins : place_of hm ready o ≡ host / cluster_size old.file.header.fields * cluster_size hm + o % cluster_size hm = (place_in hm ready o 0 (here ∙ sym first_cluster)) ∙ ap (λ b. b + o % cluster_size hm) (sym place) in
          ap known_byte (cond-true _ _ _ private ∙ ap (contents_for view backing out.place mid) begins)
          ∙ filled_byte view backing out.place old mid (host / cluster_size old.file.header.fields) offset length overwrite filled (cluster_size hm) size o here opened

      pub readied_kept : IsReadied view backing old new out k offset length overwrite ready
      readied_kept =
          let more = pins.pins found unpinned_now in
          subst (λ (image : Qcow2 S F). IsReadied view backing old image out k offset length overwrite ready) (sym pins.rest)
          (readied view backing old mid out k free before image_step offset table host Kept like one holds_now unpinned_now stands_so new.file.caches pins.tables more now sound.file.caches.kept.kept.crash_invariant length overwrite
          (prepared_by view backing old mid out k free before image_step offset table host Kept like one holds_now unpinned_now stands_so new.file.caches pins.tables more now length overwrite old_values))

-- ---- the cluster after a prepared mapping
module _ {S F : Type 0} (view : S → StorageView) (backing : F → BackingView) (old : Qcow2 S F) (out : Mappings) (k : ℕ) (p : Prepared) (at : slice_get out.slots k ≡ Some (Some p)) (n table : ℕ) (overwrite : Bool) (may : MayGoOn old.file.header.fields n table p)
    (sound : ImageInvariant view backing (pending_in view backing old out) old out) where
  abbrev h : HeaderFields
  h = old.file.header.fields

  abbrev count : ℕ
  count = length p.clusters.items

  abbrev behind : Pending
  behind = pending_in view backing old out

  pending : IsPending h out.place (known_in view old.file) (contents_in view old.file) p table
  pending = subst (IsReadyWith h out.place (known_in view old.file) (contents_in view old.file) p) may.under (sound.ready k p at).mapped

  under : table_at h (known_in view old.file) ((p.guest + p.length) / cluster_size h / entries_per_cluster h) ≡ table * cluster_size h
  under =
      ap (λ c. table_at h (known_in view old.file) (c / entries_per_cluster h)) (next_cluster view backing old out k p at n table overwrite may sound)
      ∙ ap (table_at h (known_in view old.file)) (table_is view backing old out k p at n table overwrite may sound) ∙ pending.named.place

  -- only itself is under its table
  has_none_behind : mapping_of_cluster h p ((p.guest + p.length) / cluster_size h) ≡ None
  has_none_behind = ap (mapping_of_cluster h p) (next_cluster view backing old out k p at n table overwrite may sound) ∙ mapping_here h p count ∙ get_past p.clusters.items

  alone_at : (j : ℕ) (q : Prepared) → slice_get out.slots j ≡ Some (Some q) → mapping_of_cluster h q ((p.guest + p.length) / cluster_size h) ≡ None
  alone_at j q at_j = elim (cases_eq j k) [
    | inl here ↦
        let both : Some (Some q) ≡ Some (Some p) = sym at_j ∙ ap (slice_get out.slots) here ∙ at in
        let same : q ≡ p = cc in
        ap (λ (x : Prepared). mapping_of_cluster h x ((p.guest + p.length) / cluster_size h)) same ∙ has_none_behind
    | inr apart ↦ has_none view backing out old behind sound (p.guest + p.length) table under j q at_j (λ is.
        let both = over_all_two pins_by out k p j q at apart at_j table in
        let mine = pins_own p table may.under in
        let theirs = pins_own q table is in
        let once = sound.once table in
        absurd (omega (arith, both, mine, theirs, once)))
  ]

  module _ (host : ℕ) (host_here : host ≡ p.offset + p.length) (kept : cover h (known_in view old.file) ((p.guest + p.length) / cluster_size h) ≡ Zero (Some (host, true))) (reach : host ≤ greatest_offset) where
    pub behind_alone : IsKeptAlone view backing old out (p.guest + p.length) host
    behind_alone = record { kept = kept; alone = alone_at }

    module _ (new : Qcow2 S F) (image_step : InternalFillingStep view backing behind behind old new out) (list : new.file.free_list ≡ old.file.free_list) (filled : IsFilled view backing out.place old new (host / cluster_size h) (p.guest + p.length) (n - p.length) overwrite) where
      abbrev hn : HeaderFields
      hn = new.file.header.fields

      size_still : cluster_size hn ≡ cluster_size h
      size_still = size_format h hn image_step.header

      whole_there : host / cluster_size h * cluster_size h ≡ host
      whole_there = host_whole view backing out old old behind sound (p.guest + p.length) host n overwrite kept

      host_still : host_begin_of hn p count ≡ host
      host_still = ap (λ s. p.offset - p.guest % s + count * s) size_still ∙ host_is view backing old out k p at n table overwrite may sound ∙ sym host_here

      place_there : host / cluster_size h * cluster_size hn ≡ host_begin_of hn p count
      place_there = ap (λ s. host / cluster_size h * s) size_still ∙ whole_there ∙ sym host_still

      cluster_there : cover hn (known_in view new.file) (cluster_of hn p + count) ≡ Zero (Some (host, true))
      cluster_there =
          ap (λ s. cover hn (known_in view new.file) (p.guest / s + count)) size_still ∙ cover_format h hn image_step.header (known_in view new.file) (cluster_of h p + count) ∙ sym (image_step.covers (cluster_of h p + count))
          ∙ ap (cover h (known_in view old.file)) (sym (next_cluster view backing old out k p at n table overwrite may sound)) ∙ kept

      stands_there : IsKeptAt hn (known_in view new.file) (contents_in view new.file) p count
      stands_there = record {
        first = host / cluster_size h;
        place = place_there;
        nameable = let there = place_there in let is = host_still in omega (arith, there, is, reach);
        entry = cluster_there ∙ ap (λ b. Zero (Some (b, true))) (sym host_still);
      }

      pub behind_kept : StandsBehind view backing old new out n overwrite p Kept
      behind_kept = record {
        pending = behind;
        image_step = image_step;
        new_data = λ c. omega arith;
        new_tables = λ c. refl;
        old_tables = λ c. ap (λ (l : List ClustersToFreeEntry). to_free of_tables l c) (sym list);
        old_data = λ c. ap (λ (l : List ClustersToFreeEntry). to_free of_data l c) (sym list);
        surplus = refl;
        stands = from_image (λ file. IsClusterMappingAt hn file (known_in view new.file) (contents_in view new.file) p count Kept) sound stands_there;
        filled = λ o here entered opened.
            ap (λ b. known_byte (contents_for view backing out.place new b)) (place_in hn p o count here ∙ ap (λ b. b + o % cluster_size hn) (sym place_there))
            ∙ filled_there view backing old out k p at n table overwrite may sound new (host / cluster_size h) filled (cluster_size hn) size_still o here opened;
      }

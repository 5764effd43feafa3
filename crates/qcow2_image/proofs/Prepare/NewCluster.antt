-- A mapping is prepared in a new cluster, or in place.
use Rattle.std.proofs.Common.{◌≡◌, ◌+◌, ◌-◌, ◌*◌, ◌/◌, ◌%◌, ◌^◌, ◌<◌, ◌∷◌, ◌↔◌, ◌&&◌, inl, inr, ℕ, Bool, true, false, List, [], Option, Some, None, refl, sym, ap, ◌∙◌, subst, arith, IsSome, IsTrue, min, nat_le, nat_lt}
use Rattle.qcow2_image.proofs.Common.{ImageError, L2Mapping, IsInReach, named_run, IsHostCluster, is_copied_data, slice_get, cases_lt, cond-true, le-leb, lt-ltb, lt-leb, le-ltb, div-mul-add, div-add-mod', mod_below, pow_pos, BackingView, StorageView, is_within, HeaderFields, cluster_size, entries_per_cluster, l1_entry, host_offset, is_copied, cover, known_byte, Data, with_new_data, Pending, table_at, guest_of, cover_format, l1_format, size_format, l2_pins, IsEntryAt, l2_at, contents_in, known_in, Qcow2, Prepared, ClusterMapping, InPlace, New, ClustersToFreeEntry, l1_index_of, l2_index_of, number_of, IsReadied, is_announced, IsFilled, InternalFillingStep, RefusedFillingStep, HoldsAll, HoldsTable, IsGained, InternalStep, Pins, SameHeld, pending_with_listed, run_of, to_free, of_data, of_tables, new_data_in, listed_run, disk_of, pending_in, abstract_of, meaning, is_entered, is_private, cluster_of, host_begin_of, place_of, IsNewAt, IsClusterMappingAt, ImageInvariant, Mappings, contents_for}
use Rattle.qcow2_image.proofs.Lemmas.{place_in, private_shared, entry_at_format, l1_shared, listed_after_same, still_holds, taken_new_data, image_step_kept, image_step_none, image_step_then, free_more, mapping_at, one_mapping, IsNowPending, readied, prepared_by, private_inside}
use Rattle.qcow2_image.specs.declared.mapping.Place.{Place}
use Rattle.qcow2_image.proofs.Images.Places.{from_image}

-- a place within a range, both so many bytes further on
le_shift : (g a i : ℕ) → nat_le (g + a) (g + i) ≡ nat_le a i
le_shift g a i = elim (cases_lt i a) [
  | inl below ↦ lt-leb (g + a) (g + i) (omega arith) ∙ sym (lt-leb a i below)
  | inr above ↦ le-leb (g + a) (g + i) (omega arith) ∙ sym (le-leb a i above)
]

lt_shift : (g i b : ℕ) → nat_lt (g + i) (g + b) ≡ nat_lt i b
lt_shift g i b = elim (cases_lt i b) [
  | inl below ↦ lt-ltb (g + i) (g + b) (omega arith) ∙ sym (lt-ltb i b below)
  | inr above ↦ le-ltb (g + i) (g + b) (omega arith) ∙ sym (le-ltb i b above)
]

within_shift : (g a m i : ℕ) → is_within (g + a) m (g + i) ≡ is_within a m i
within_shift g a m i = let e : g + a + m ≡ g + (a + m) = omega arith in ap (λ b. b && nat_lt (g + i) (g + a + m)) (le_shift g a i) ∙ ap (λ n. nat_le a i && nat_lt (g + i) n) e ∙ ap (λ b. nat_le a i && b) (lt_shift g i (a + m))

within_cluster : (size offset m o : ℕ) → o / size ≡ offset / size → is_within offset m o ≡ is_within (offset % size) m (o % size)
within_cluster size offset m o here =
    let offset_is : offset / size * size + offset % size ≡ offset = div-add-mod' offset size in
    let o_is : o / size * size + o % size ≡ o = div-add-mod' o size in
    let same : o ≡ offset / size * size + o % size = sym o_is ∙ ap (λ c. c * size + o % size) here in
    ap (λ x. is_within x m o) (sym offset_is) ∙ ap (λ y. is_within (offset / size * size + offset % size) m y) same ∙ within_shift (offset / size * size) (offset % size) m (o % size)

-- what was filled shows what the guest saw
pub filled_byte : {S F : Type 0} (view : S → StorageView) (backing : F → BackingView) (place : Place) (old filled : Qcow2 S F) (first offset length : ℕ) (overwrite : Bool) → IsFilled view backing place old filled first offset length overwrite
    → (size : ℕ) → size ≡ cluster_size old.file.header.fields → (o : ℕ) → o / size ≡ offset / size → (overwrite && is_within offset (min length (size - offset % size)) o ≡ false)
    → known_byte (contents_for view backing place filled (first * size + o % size)) ≡ (disk_of view backing place old).value o
filled_byte view backing place old filled first offset length overwrite fills size is o here opened =
    let h = old.file.header.fields in
    let open_there : is_announced (cluster_size h) offset length overwrite (o % cluster_size h) ≡ false =
    subst (λ x. is_announced x offset length overwrite (o % x) ≡ false) is (ap (λ b. overwrite && b) (sym (within_cluster size offset (min length (size - offset % size)) o here)) ∙ opened) in
    let same_guest : o / cluster_size h ≡ offset / cluster_size h = subst (λ x. o / x ≡ offset / x) is here in
    let o_is : o / cluster_size h * cluster_size h + o % cluster_size h ≡ o = div-add-mod' o (cluster_size h) in
    let offset_is : offset / cluster_size h * cluster_size h + offset % cluster_size h ≡ offset = div-add-mod' offset (cluster_size h) in
    let product : o / cluster_size h * cluster_size h ≡ offset / cluster_size h * cluster_size h = ap (λ c. c * cluster_size h) same_guest in
    let at : offset - offset % cluster_size h + o % cluster_size h ≡ o = omega arith in
    ap (λ x. known_byte (contents_for view backing place filled (first * x + o % x))) is
    ∙ fills (o % cluster_size h) (mod_below o (cluster_size h) (pow_pos h.cluster_bits)) open_there ∙ ap (disk_of view backing place old).value at

pub not_pinned : (n : ℕ) (b : Bool) → (IsTrue b ↔ (0 < n)) → b ≡ false → n ≡ 0
not_pinned n b iff isnt = elim (cases_lt 0 n) [
  | inl some ↦ absurd (let yes : b ≡ true = iff.1 some in let e : true ≡ false = sym yes ∙ isnt in cc)
  | inr none ↦ omega arith
]

-- the first cluster of an offset has its entry in a table that is held for it
pub first_entry : {S F : Type 0} (view : S → StorageView) (backing : F → BackingView) (old : Qcow2 S F) (offset table guest bits cluster : ℕ) → cluster ≡ guest / 2 ^ bits → guest ≡ offset → bits ≡ old.file.header.fields.cluster_bits → HoldsTable view backing old offset table
    → IsEntryAt old.file.header.fields (known_in view old.file) (l1_index_of old.file.header.fields offset) table (cluster % entries_per_cluster old.file.header.fields) × (cluster / entries_per_cluster old.file.header.fields ≡ l1_index_of old.file.header.fields offset)
first_entry view backing old offset table guest bits cluster found here same holds =
    let is : cluster ≡ offset / cluster_size old.file.header.fields = found ∙ ap (λ o. o / 2 ^ bits) here ∙ ap (λ b. offset / 2 ^ b) same in (
      subst (λ g. IsEntryAt old.file.header.fields (known_in view old.file) (l1_index_of old.file.header.fields offset) table (g % entries_per_cluster old.file.header.fields)) (sym is) holds.entry,
      ap (λ g. g / entries_per_cluster old.file.header.fields) is,
    )

-- what the first cluster of an offset has, in a table that is held for it
pub first_stands : {S F : Type 0} (view : S → StorageView) (backing : F → BackingView) (old : Qcow2 S F) (p : Pending) (offset table guest bits cluster : ℕ) (first : L2Mapping) → cluster ≡ guest / 2 ^ bits → guest ≡ offset → bits ≡ old.file.header.fields.cluster_bits
    → HoldsTable view backing old offset table
    → (IsEntryAt old.file.header.fields (known_in view old.file) (l1_index_of old.file.header.fields offset) table (cluster % entries_per_cluster old.file.header.fields) → cluster / entries_per_cluster old.file.header.fields ≡ l1_index_of old.file.header.fields offset
    → cover old.file.header.fields (known_in view old.file) cluster ≡ first)
    → cover old.file.header.fields (known_in view old.file) (offset / cluster_size old.file.header.fields) ≡ first
first_stands view backing old p offset table guest bits cluster first found here same holds stands =
    let is : cluster ≡ offset / cluster_size old.file.header.fields = found ∙ ap (λ o. o / 2 ^ bits) here ∙ ap (λ b. offset / 2 ^ b) same in
    let entry = first_entry view backing old offset table guest bits cluster found here same holds in
    subst (λ g. cover old.file.header.fields (known_in view old.file) g ≡ first) is (stands entry.0 entry.1)

module _ {S F : Type 0} (view : S → StorageView) (backing : F → BackingView) (out : Mappings) where
  -- a table that is held and marked copied is named as before
  pub holds_still : (old new : Qcow2 S F) (p q : Pending) (offset table : ℕ) → ImageInvariant view backing p old out → InternalFillingStep view backing p q old new out → HoldsTable view backing old offset table → IsSome (l2_at new.file.caches table) → HoldsTable view backing new offset table
  holds_still old new p q offset table sound image_step holds new_data =
      let h = old.file.header.fields in
      let on_storage = contents_in view new.file in
      let known = known_in view new.file in
      let moved : l1_entry h on_storage (l1_index_of h offset) ≡ l1_entry h (contents_in view old.file) (l1_index_of h offset) =
      image_step.copied (l1_index_of h offset) ((λ none. holds.entry.real (ap host_offset (sym (sound.file.caches.kept.kept.crash_invariant.same_top.l1 (l1_index_of h offset))) ∙ none)), holds.copied) in
      let top : l1_entry h on_storage (l1_index_of h offset) ≡ l1_entry h known (l1_index_of h offset) =
      l1_shared h new.file.header.fields image_step.header on_storage known (l1_index_of h offset) (image_step.sound.file.caches.kept.kept.crash_invariant.same_top.l1 (l1_index_of h offset)) in
      let there : table_at h known (l1_index_of h offset) ≡ table_at h (known_in view old.file) (l1_index_of h offset) =
      ap host_offset (sym top ∙ moved ∙ sound.file.caches.kept.kept.crash_invariant.same_top.l1 (l1_index_of h offset)) in
      record {
        entry = subst (λ (x : HeaderFields). IsEntryAt new.file.header.fields known (l1_index_of x offset) table (l2_index_of x offset)) (sym image_step.header)
            (entry_at_format h new.file.header.fields image_step.header known on_storage (l1_index_of h offset) table (l2_index_of h offset)
            (record { real = λ none. holds.entry.real (sym there ∙ none); place = there ∙ holds.entry.place; within = holds.entry.within }));
        copied = subst (λ (x : HeaderFields). is_copied (l1_entry new.file.header.fields on_storage (l1_index_of x offset)) ≡ true) (sym image_step.header) (ap is_copied (l1_format h new.file.header.fields image_step.header on_storage (l1_index_of h offset) ∙ moved) ∙ holds.copied);
        new_data = new_data;
      }

  -- a refusal that changed nothing
  pub back_none : (old : Qcow2 S F) (p : Pending) → ImageInvariant view backing p old out → (e : ImageError) → RefusedFillingStep view backing p old old out e
  back_none old p sound e = inl (subst (λ q. InternalFillingStep view backing p q old old out) (sym (listed_after_same view backing out p old old refl)) (image_step_none view backing out old p sound))

  -- a cluster in place has no private bytes
  never_private : (image : Qcow2 S F) (p : Prepared) → p.clusters.items ≡ InPlace ∷ [] → (o : ℕ) → IsTrue (is_private view backing image p o) → ⊥
  never_private image p one o private =
      let shared = private_shared view backing image p o private in
      let is_one = one_mapping InPlace shared.cluster_mapping shared.index (ap (λ (l : List ClusterMapping). slice_get l shared.index) (sym one) ∙ shared.is) in
      absurd (let f : true ≡ false = sym shared.entered ∙ ap is_entered is_one.1 in cc)

  -- ---- in place
  pub readied_in_place : (old new : Qcow2 S F) (like : Prepared) → like.clusters.items ≡ InPlace ∷ [] → (k offset n table host : ℕ) (overwrite : Bool) → slice_get out.slots k ≡ Some None → ImageInvariant view backing (pending_in view backing old out) old out → HoldsTable view backing old offset table
      → l2_pins old.file.caches table ≡ 0 → cover old.file.header.fields (known_in view old.file) (offset / cluster_size old.file.header.fields) ≡ Data host true → Pins table old new
      → IsReadied view backing old new out k offset n overwrite (mapping_at old.file.header.fields (number_of old) table offset host like)
  readied_in_place old new like one k offset n table host overwrite free sound holds unpinned is pins =
      let p = mapping_at old.file.header.fields (number_of old) table offset host like in
      let q = pending_in view backing old out in
      let image_step = image_step_none view backing out old q sound in
      let begin : host_begin_of old.file.header.fields (mapping_at old.file.header.fields (number_of old) table offset host like) 0 ≡ host = omega arith in
      let first : cluster_of old.file.header.fields (mapping_at old.file.header.fields (number_of old) table offset host like) + 0 ≡ offset / cluster_size old.file.header.fields = omega arith in
      let stands : IsClusterMappingAt old.file.header.fields out.place (known_in view old.file) (contents_in view old.file) (mapping_at old.file.header.fields (number_of old) table offset host like) 0 InPlace =
      ap (cover old.file.header.fields (known_in view old.file)) first ∙ is ∙ ap (λ b. Data b true) (sym begin) in
      let now : IsNowPending old out (mapping_at old.file.header.fields (number_of old) table offset host like) q q.surplus =
      record { new_data = λ c. (let none : new_data_in like.clusters.items c ≡ 0 = ap (λ (l : List ClusterMapping). new_data_in l c) one in omega arith); new_tables = λ c. refl; old_tables = λ c. refl; old_data = λ c. refl; surplus = refl } in
      let more = pins.pins holds.new_data unpinned in
      subst (λ (image : Qcow2 S F). IsReadied view backing old image out k offset n overwrite (mapping_at old.file.header.fields (number_of old) table offset host like)) (sym pins.rest)
      (readied view backing old old out k free q image_step offset table host InPlace like one holds unpinned stands new.file.caches pins.tables more now sound.file.caches.kept.kept.crash_invariant n overwrite
      (prepared_by view backing old old out k free q image_step offset table host InPlace like one holds unpinned stands new.file.caches pins.tables more now n overwrite (λ o private. absurd (never_private old p one o private))))

  -- ---- in a new cluster
  module _ (old filled mid : Qcow2 S F) (n : ClustersToFreeEntry) (mapping : L2Mapping) (reach : IsInReach mapping) (other : is_copied_data mapping ≡ false) (taken old_data : List ClustersToFreeEntry) (taken_is : taken ≡ n ∷ []) (old_data_is : old_data ≡ listed_run (named_run old.file.header.fields.cluster_bits mapping)) (like : Prepared) (one : like.clusters.items ≡ New taken old_data ∷ []) (k offset length table host : ℕ) (overwrite : Bool) (free : slice_get out.slots k ≡ Some None) (sound : ImageInvariant view backing (pending_in view backing old out) old out)
      (holds : HoldsTable view backing old offset table) (unpinned : l2_pins old.file.caches table ≡ 0) (covered : cover old.file.header.fields (known_in view old.file) (offset / cluster_size old.file.header.fields) ≡ mapping)
      (gained : IsGained view backing (pending_in view backing old out) old filled out offset length overwrite mapping n) (nameable : IsHostCluster old.file.header.fields.cluster_bits n.first_cluster)
      (keeps : InternalStep view backing (with_new_data (pending_with_listed (pending_in view backing old out) old filled) (run_of n)) (with_new_data (pending_with_listed (pending_in view backing old out) old filled) (run_of n)) filled mid out)
      (list : mid.file.free_list ≡ filled.file.free_list) (found : IsSome (l2_at mid.file.caches table)) (host_is : host ≡ n.first_cluster * cluster_size mid.file.header.fields)
      (same : SameHeld view backing (with_new_data (pending_with_listed (pending_in view backing old out) old filled) (run_of n)) filled mid) where
    abbrev before : Pending
    before = pending_in view backing old out

    abbrev q : Pending
    q = with_new_data (pending_with_listed before old filled) (run_of n)

    all_new_data : HoldsAll view backing before out
    all_new_data c = omega arith

    pub image_step_on : InternalFillingStep view backing before q old mid out
    image_step_on = image_step_then view backing out old filled mid before q q gained.image_step
        (image_step_kept view backing out filled mid q q gained.image_step.sound (still_holds view backing out old filled before n gained.one all_new_data gained.image_step) (still_holds view backing out old filled before n gained.one all_new_data gained.image_step) keeps)

    abbrev hm : HeaderFields
    hm = mid.file.header.fields

    abbrev p : Prepared
    p = mapping_at hm (number_of mid) table offset host like

    holds_now : HoldsTable view backing mid offset table
    holds_now = holds_still old mid before q offset table sound image_step_on holds found

    unpinned_now : l2_pins mid.file.caches table ≡ 0
    unpinned_now = image_step_on.sound.pinned table ∙ sym (sound.pinned table) ∙ unpinned

    first_cluster : cluster_of hm p + 0 ≡ offset / cluster_size hm
    first_cluster = omega arith

    stays_covered : cover hm (known_in view mid.file) (cluster_of hm p + 0) ≡ mapping
    stays_covered = ap (cover hm (known_in view mid.file)) first_cluster ∙ ap (λ size. cover hm (known_in view mid.file) (offset / size)) (size_format old.file.header.fields hm image_step_on.header)
        ∙ cover_format old.file.header.fields hm image_step_on.header (known_in view mid.file) (offset / cluster_size old.file.header.fields) ∙ sym (image_step_on.covers (offset / cluster_size old.file.header.fields)) ∙ covered

    stands : IsNewAt hm (known_in view mid.file) (contents_in view mid.file) p 0 taken old_data
    stands = record {
      first = n.first_cluster;
      is = taken_is ∙ ap (λ (e : ClustersToFreeEntry). e ∷ []) (ap (λ c. record n { count = c }) gained.one ∙ ap (λ x. record n { count = 1; kind = x }) gained.kind);
      place = sym host_is ∙ omega arith;
      nameable = subst (λ (x : HeaderFields). IsHostCluster x.cluster_bits n.first_cluster) (sym image_step_on.header) nameable;
      entry = ap is_copied_data stays_covered ∙ other;
      reach = subst IsInReach (sym stays_covered) reach;
      drops = old_data_is ∙ ap (λ (x : HeaderFields). listed_run (named_run x.cluster_bits mapping)) (sym image_step_on.header) ∙ ap (λ v. listed_run (named_run hm.cluster_bits v)) (sym stays_covered);
    }

    stands_so : IsClusterMappingAt hm out.place (known_in view mid.file) (contents_in view mid.file) p 0 (New taken old_data)
    stands_so = from_image (λ file. IsClusterMappingAt hm file (known_in view mid.file) (contents_in view mid.file) p 0 (New taken old_data)) sound stands

    now : IsNowPending mid out p q before.surplus
    now = record {
      new_data = λ c.
          let mine : new_data_in like.clusters.items c ≡ to_free of_data taken c = ap (λ (l : List ClusterMapping). new_data_in l c) one ∙ omega arith in
          let as_data : to_free of_data taken c ≡ run_of n c = ap (λ l. to_free of_data l c) taken_is ∙ ap (λ x. of_data x (run_of n c) + 0) gained.kind ∙ omega arith in
          omega arith;
      new_tables = λ c. refl;
      old_tables = λ c. let same = ap (λ l. to_free of_tables l c) list in let more = ap (λ l. to_free of_tables l c) gained.image_step.list.is ∙ free_more of_tables old.file.free_list gained.image_step.list.more c in omega arith;
      old_data = λ c. let same = ap (λ l. to_free of_data l c) list in let more = ap (λ l. to_free of_data l c) gained.image_step.list.is ∙ free_more of_data old.file.free_list gained.image_step.list.more c in omega arith;
      surplus = refl;
    }

    -- its bytes are those that the guest saw
    module _ (new : Qcow2 S F) (pins : Pins table mid new) where
      abbrev pinned : Qcow2 S F
      pinned = record mid { file = record mid.file { caches = new.file.caches } }

      new_data_place : (o : ℕ) → 0 < q.new_data ((n.first_cluster * cluster_size hm + o % cluster_size hm) / cluster_size filled.file.header.fields)
      new_data_place o =
          let size : cluster_size filled.file.header.fields ≡ cluster_size hm = size_format old.file.header.fields filled.file.header.fields gained.image_step.header ∙ sym (size_format old.file.header.fields hm image_step_on.header) in
          let there = div-mul-add n.first_cluster (cluster_size hm) (o % cluster_size hm) (mod_below o (cluster_size hm) (pow_pos hm.cluster_bits)) in
          subst (λ c. 0 < q.new_data c) (sym (ap (λ x. (n.first_cluster * cluster_size hm + o % cluster_size hm) / x) size ∙ there)) (taken_new_data view backing out old filled before n gained.one all_new_data gained.image_step)

      old_values : (o : ℕ) → IsTrue (is_private view backing pinned p o) → (overwrite && is_within offset (min length (cluster_size hm - offset % cluster_size hm)) o ≡ false) → (meaning view backing out.place pinned p).shown o ≡ (guest_of (abstract_of view backing old out)).disk.value o
      old_values o private opened =
          let more = pins.pins found unpinned_now in
          let here = private_inside view backing old mid out k free q image_step_on offset table host (New taken old_data) like one holds_now unpinned_now stands_so new.file.caches pins.tables more now o private in
          let place = place_in hm p o 0 (here ∙ sym first_cluster) in
          let begin : place_of hm p o ≡ n.first_cluster * cluster_size hm + o % cluster_size hm = omega (arith, host_is, place) in
          ap known_byte (cond-true _ _ _ private ∙ ap (contents_for view backing out.place mid) begin
          ∙ from_image (λ file. contents_for view backing file mid (n.first_cluster * cluster_size hm + o % cluster_size hm) ≡ contents_for view backing file filled (n.first_cluster * cluster_size hm + o % cluster_size hm)) sound (same (n.first_cluster * cluster_size hm + o % cluster_size hm) (new_data_place o)))
          ∙ filled_byte view backing out.place old filled n.first_cluster offset length overwrite (gained.filled covered) (cluster_size hm) (ap (λ (x : HeaderFields). cluster_size x) image_step_on.header) o here opened

      pub readied_new : IsReadied view backing old new out k offset length overwrite p
      readied_new =
          let more = pins.pins found unpinned_now in
          subst (λ (image : Qcow2 S F). IsReadied view backing old image out k offset length overwrite p) (sym pins.rest)
          (readied view backing old mid out k free q image_step_on offset table host (New taken old_data) like one holds_now unpinned_now stands_so new.file.caches pins.tables more now sound.file.caches.kept.kept.crash_invariant length overwrite
          (prepared_by view backing old mid out k free q image_step_on offset table host (New taken old_data) like one holds_now unpinned_now stands_so new.file.caches pins.tables more now length overwrite old_values))

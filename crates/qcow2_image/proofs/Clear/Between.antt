-- The clusters between two offsets are cleared, as a part of a call.
use Rattle.std.proofs.Common.{◌≡◌, ◌+◌, ◌-◌, ◌*◌, ◌/◌, ◌%◌, ◌<◌, ◌≤◌, ◌∷◌, ◌++◌, ◌↔◌, inl, inr, ℕ, suc, Bool, true, false, List, [], Option, Some, None, refl, sym, ap, ◌∙◌, subst, arith, cond, mul_assoc, IsSome, IsTrue}
use Rattle.std.proofs.Math.Nat.{mul-le-mul_right}
use Rattle.qcow2_image.proofs.Common.{slice_get, cases_eq, cases_lt, div-add-mod', div-mul-add, mod-mul-add, mod_below, pow_pos, BackingView, StorageView, Bytes, HeaderFields, cluster_size, entries_per_cluster, cover, IsInReach, old_data_run, Guest, Setting, guest_of, EffectOnSound, cleared, with_disk, Pending, Disk, table_at, given_shown, guest_at, works_less, works_then, Sizes-from, l2_pins, ClustersToFreeEntry, contents_in, known_in, IsEntryAt, own_cluster, InternalCall, ClearsImageCovers, ClearsPart, ClearsTable, IsUnderMapping, IsClearable, MayClear, ReadsAll, ReadsDropped, cover_once_cleared, given_bytes_between, is_between, listed_by, setting_of, shown_by, AreCleared, ClearMode, Qcow2, Prepared, l1_index_of, l2_index_of, IsPending, IsReadyWith, abstract_of, disk_of, listed_run, pending_in, pins_by, MovesTables, CoversStay, HoldsTable, Mappings}
use Rattle.qcow2_image.proofs.Images.Apart.{pins_own}
use Rattle.qcow2_image.proofs.Clear.Cleared.{all_cleared}
use Rattle.qcow2_image.proofs.Images.Moved.{file_step_then}
use Rattle.qcow2_image.proofs.Prepare.RefusedAsPrepared.{in_same, keeper}
use Rattle.qcow2_image.proofs.Images.ClusterMappings.{over_all_at}
use Rattle.qcow2_image.proofs.Images.Places.{alone_of}

-- ---- numbers
module _ (size row : ℕ) (some : 0 < size) where
  -- products in order
  more : (a b : ℕ) → a < b → a * size + size ≤ b * size
  more a b lt = let m : (a + 1) * size ≤ b * size = mul-le-mul_right size (omega (arith, lt)) in omega (arith, m)

  module _ (from to : ℕ) (begins : from % size ≡ 0) (ends : to % size ≡ 0) (lt : from < to) where
    pub from_is : from / size * size ≡ from
    from_is = let e : from / size * size + from % size ≡ from = div-add-mod' from size in omega (arith, e, begins)

    last_is : to / size * size ≡ to
    last_is = let e : to / size * size + to % size ≡ to = div-add-mod' to size in omega (arith, e, ends)

    rising : from / size < to / size
    rising = elim (cases_lt (from / size) (to / size)) [
      | inl is ↦ is
      | inr not ↦ let m : to / size * size ≤ from / size * size = mul-le-mul_right size not in let a = from_is in let b = last_is in absurd (omega (arith, m, a, b, lt))
    ]

    between_is : to - from ≡ (to / size - from / size) * size + 0
    between_is =
        let up = rising in
        let e : to / size ≡ from / size + (to / size - from / size) = omega (arith, up) in
        let m : to / size * size ≡ (from / size + (to / size - from / size)) * size = ap (λ x. x * size) e in
        let r : (from / size + (to / size - from / size)) * size ≡ from / size * size + (to / size - from / size) * size = omega arith in
        let a = from_is in
        let b = last_is in
        omega (arith, m, r, a, b)

    pub count_is : (to - from) / size ≡ to / size - from / size
    count_is = ap (λ n. n / size) between_is ∙ div-mul-add (to / size - from / size) size 0 some

    pub some_count : 0 < (to - from) / size
    some_count = let c = count_is in let up = rising in omega (arith, c, up)

    pub to_is : (from / size + (to - from) / size) * size ≡ to
    to_is =
        let c = count_is in
        let up = rising in
        let e : from / size + (to - from) / size ≡ to / size = omega (arith, c, up) in
        ap (λ x. x * size) e ∙ last_is

    -- within a row
    module _ (rows : 0 < row) (within : to ≤ from + (size * row - from % (size * row))) where
      abbrev first : ℕ
      first = from / size

      inside : first % row * size + size ≤ row * size
      inside = more (first % row) row (mod_below first row rows)

      swapped : size * row ≡ row * size
      swapped = omega arith

      split : first ≡ first / row * row + first % row
      split = sym (div-add-mod' first row)

      place : from ≡ first / row * (size * row) + first % row * size
      place =
          let m : first * size ≡ (first / row * row + first % row) * size = ap (λ x. x * size) split in
          let r : (first / row * row + first % row) * size ≡ first / row * row * size + first % row * size = omega arith in
          let t : first / row * row * size ≡ first / row * (row * size) = mul_assoc (first / row) row size in
          let u : first / row * (row * size) ≡ first / row * (size * row) = ap (λ x. first / row * x) (sym swapped) in
          sym from_is ∙ m ∙ r ∙ ap (λ x. x + first % row * size) (t ∙ u)

      rest_is : from % (size * row) ≡ first % row * size
      rest_is = ap (λ x. x % (size * row)) place ∙ mod-mul-add (first / row) (size * row) (first % row * size) (let i = inside in let s = swapped in omega (arith, i, s, some))

      pub row_within : first % row + (to - from) / size ≤ row
      row_within = elim (cases_lt row (first % row + (to - from) / size)) [
        | inr is ↦ is
        | inl past ↦
            let over = more row (first % row + (to - from) / size) past in
            let d : (first % row + (to - from) / size) * size ≡ first % row * size + (to - from) / size * size = omega arith in
            let c : (to - from) / size * size ≡ (to / size - from / size) * size = ap (λ x. x * size) count_is in
            let b = between_is in
            let i = inside in
            let s = swapped in
            let r = rest_is in
            absurd (omega (arith, over, d, c, b, i, s, r, within, some))
      ]

-- what isn't pinned has no pins
pub no_pins : (is_pinned : Bool) (n : ℕ) → (IsTrue is_pinned ↔ (0 < n)) → is_pinned ≡ false → n ≡ 0
no_pins is_pinned n is not = elim (cases_lt 0 n) [
  | inl some ↦ absurd (let e : false ≡ true = sym not ∙ is.1 some in cc)
  | inr none ↦ omega (arith, none)
]

-- ---- entries are read one after another

module _ {S F : Type 0} (view : S → StorageView) (backing : F → BackingView) where
  pub reads_next : (how : ClearMode) (table first n : ℕ) (image : Qcow2 S F) (list list' : List ClustersToFreeEntry) → ReadsAll view backing how table first n image list → ReadsDropped view backing how table (first + n) image list list'
      → ReadsAll view backing how table first (suc n) image list'
  reads_next how table first n image list list' before next p i alone sound at here fits =
      let h = image.file.header.fields in
      let row = entries_per_cluster h in
      let so_far = before p i alone sound at here (omega (arith, fits)) in
      let split : first / row * row + first % row ≡ first = div-add-mod' first row in
      let e : first + n ≡ first / row * row + (first % row + n) = omega (arith, split) in
      let column : (first + n) % row ≡ first % row + n = ap (λ x. x % row) e ∙ mod-mul-add (first / row) row (first % row + n) (omega (arith, fits)) in
      let above : (first + n) / row ≡ first / row = ap (λ x. x / row) e ∙ div-mul-add (first / row) row (first % row + n) (omega (arith, fits)) in
      let one = next p i alone sound (record { real = at.real; place = at.place; within = subst (λ x. x < row) (sym column) (omega (arith, fits)) }) (above ∙ here) in (
        one.0 ∙ ap (λ l. l ++ listed_run (old_data_run h.cluster_bits (cover h (known_in view image.file) (first + n)) (cover_once_cleared how (cover h (known_in view image.file) (first + n))))) so_far.0,
        λ j lt. elim (cases_eq j n) [
          | inl same ↦ subst (λ x. IsInReach (cover h (known_in view image.file) (first + x))) (sym same) one.1
          | inr other ↦ so_far.1 j (omega (arith, lt, other))
        ],
      )

-- a cluster that so many clusters after one has its entry in the same table
pub entry_behind : (h : HeaderFields) (known : Bytes) (table first n k i : ℕ) → IsEntryAt h known i table (first % entries_per_cluster h) → first / entries_per_cluster h ≡ i → first % entries_per_cluster h + n ≤ entries_per_cluster h → k < n
    → IsEntryAt h known i table ((first + k) % entries_per_cluster h) × ((first + k) / entries_per_cluster h ≡ i)
entry_behind h known table first n k i at here fits lt =
    let row = entries_per_cluster h in
    let split : first / row * row + first % row ≡ first = div-add-mod' first row in
    let e : first + k ≡ first / row * row + (first % row + k) = omega (arith, split) in
    let column : (first + k) % row ≡ first % row + k = ap (λ x. x % row) e ∙ mod-mul-add (first / row) row (first % row + k) (omega (arith, fits, lt)) in
    let above : (first + k) / row ≡ first / row = ap (λ x. x / row) e ∙ div-mul-add (first / row) row (first % row + k) (omega (arith, fits, lt)) in
    (record { real = at.real; place = at.place; within = subst (λ x. x < row) (sym column) (omega (arith, fits, lt)) }, above ∙ here)

-- ---- a part before
module _ {S F : Type 0} (view : S → StorageView) (backing : F → BackingView) (out : Mappings) where
  pub covers_before : (how : ClearMode) (from to : ℕ) (h h' h'' : HeaderFields) (known known' known'' : Bytes) → MovesTables h h' → CoversStay h known h' known' → ClearsImageCovers how from to h' known' h'' known'' → ClearsImageCovers how from to h known h'' known''
  covers_before how from to h h' h'' known known' known'' format same covers g =
      let there : cover h' known' g ≡ cover h known g = sym (same g) in
      covers g ∙ ap (λ v. cond (is_between h' from to g) (cover_once_cleared how v) v) there
      ∙ ap (λ (x : HeaderFields). cond (is_between x from to g) (cover_once_cleared how (cover h known g)) (cover h known g)) format

  module _ (old mid new : Qcow2 S F) (how : ClearMode) (from to : ℕ) (first : InternalCall view backing old mid out) where
    same_setting : setting_of view backing mid ≡ setting_of view backing old
    same_setting = first.works.setting

    cleared_same : cleared (setting_of view backing mid) (disk_of view backing out.place mid) (shown_by how) from to ≡ cleared (setting_of view backing old) (disk_of view backing out.place old) (shown_by how) from to
    cleared_same = ap (λ (x : Setting). cleared x (disk_of view backing out.place mid) (shown_by how) from to) same_setting ∙ ap (λ (d : Disk). cleared (setting_of view backing old) d (shown_by how) from to) (ap (λ (g : Guest). g.disk) first.same)

    pub clears_after : ClearsPart view backing how from to mid new out → ClearsPart view backing how from to old new out
    clears_after part =
        let v = abstract_of view backing old out in
        let w = abstract_of view backing mid out in
        let x = abstract_of view backing new out in
        let given_bytes = given_bytes_between view backing out.place old how from to in
        record {
          works = works_then v w x given_bytes [] first.sound (works_less v w [] given_bytes [] (λ o value never. absurd never) (λ g u. tt) first.works) (subst (λ gs. EffectOnSound w x gs []) (ap (λ (d : Disk). given_shown d from to ∷ []) cleared_same) part.works);
          sound = part.sound;
          shows = part.shows ∙ ap (λ (d : Disk). with_disk (guest_of w) d) cleared_same ∙ ap (λ (g : Guest). with_disk g (cleared (setting_of view backing old) (disk_of view backing out.place old) (shown_by how) from to)) first.same;
          header = file_step_then old.file.header.fields mid.file.header.fields new.file.header.fields first.header part.header;
          covers = covers_before how from to old.file.header.fields mid.file.header.fields new.file.header.fields (known_in view old.file) (known_in view mid.file) (known_in view new.file) first.header first.covers part.covers;
          recorded = part.recorded;
        }

  pub whole_format : (h h' : HeaderFields) (how : ClearMode) (from to : ℕ) → MovesTables h h' → IsClearable h how from to → IsClearable h' how from to
  whole_format h h' how from to format whole = subst (λ (x : HeaderFields). IsClearable x how from to) (sym format) (record { begins = whole.begins; ends = whole.ends; within = whole.within; version = whole.version })

  -- the entries of whole clusters lie in one table
  pub fits_table : (old mid : Qcow2 S F) (how : ClearMode) (from to : ℕ) → InternalCall view backing old mid out → IsClearable old.file.header.fields how from to → from < to
      → from / cluster_size mid.file.header.fields % entries_per_cluster mid.file.header.fields + (to - from) / cluster_size mid.file.header.fields ≤ entries_per_cluster mid.file.header.fields
  fits_table old mid how from to found whole_old lt =
      let h = mid.file.header.fields in
      let whole = whole_format old.file.header.fields h how from to found.header whole_old in
      row_within (cluster_size h) (entries_per_cluster h) (pow_pos h.cluster_bits) from to whole.begins whole.ends lt (Sizes-from h (contents_in view mid.file) found.sound.file.caches.kept.kept.crash_invariant.top.header_reads).entries whole.within

  module _ (old mid b new : Qcow2 S F) (how : ClearMode) (from to table : ℕ) (found : InternalCall view backing old mid out) (holds : HoldsTable view backing mid from table) (whole_old : IsClearable old.file.header.fields how from to) (lt : from < to)
      (unpinned : l2_pins mid.file.caches table ≡ 0) (list : List ClustersToFreeEntry)
      (reads : ReadsAll view backing how table (from / cluster_size mid.file.header.fields) ((to - from) / cluster_size mid.file.header.fields) mid list)
      (clears : ClearsTable view backing how table (l2_index_of mid.file.header.fields from) ((to - from) / cluster_size mid.file.header.fields) mid b)
      (is : new ≡ record b { file = record b.file { free_list = b.file.free_list ++ list } }) where
    abbrev h : HeaderFields
    h = mid.file.header.fields

    abbrev known : Bytes
    known = known_in view mid.file

    abbrev p : Pending
    p = pending_in view backing mid out

    abbrev guest : ℕ
    guest = from / cluster_size h

    abbrev count : ℕ
    count = (to - from) / cluster_size h

    abbrev g : ℕ
    g = guest_at h (l1_index_of h from) (l2_index_of h from)

    whole : IsClearable h how from to
    whole = whole_format old.file.header.fields h how from to found.header whole_old

    some_size : 0 < cluster_size h
    some_size = pow_pos h.cluster_bits

    some_row : 0 < entries_per_cluster h
    some_row = (Sizes-from h (contents_in view mid.file) found.sound.file.caches.kept.kept.crash_invariant.top.header_reads).entries

    g_is : g ≡ guest
    g_is = div-add-mod' guest (entries_per_cluster h)

    fits : guest % entries_per_cluster h + count ≤ entries_per_cluster h
    fits = row_within (cluster_size h) (entries_per_cluster h) some_size from to whole.begins whole.ends lt some_row whole.within

    all_read : (list ≡ listed_by how h known guest count) × ((j : ℕ) → j < count → IsInReach (cover h known (guest + j)))
    all_read = reads p (l1_index_of h from) (alone_of found.sound) found.sound.file holds.entry refl fits

    may : MayClear view backing how table (l1_index_of h from) (l2_index_of h from) count mid out p
    may = record {
      sound = found.sound;
      real = holds.entry.real;
      place = holds.entry.place;
      within = fits;
      copied = holds.copied;
      found = holds.new_data;
      unpinned = unpinned;
      version = whole.version;
      reach = λ i at. subst (λ c. IsInReach (cover h known (c + i))) (sym g_is) (all_read.1 i at);
    }

    at_end : ClearsPart view backing how (g * cluster_size h) ((g + count) * cluster_size h) mid
        (record mid { file = record mid.file { caches = b.file.caches; free_list = mid.file.free_list ++ listed_by how h known g count } }) out
    at_end = all_cleared view backing how (l1_index_of h from) (l2_index_of h from) count mid b.file.caches out found.sound (clears.part out p (l1_index_of h from) may)
        (clears.recorded out p (l1_index_of h from) may (some_count (cluster_size h) (entries_per_cluster h) some_size from to whole.begins whole.ends lt))

    begins_at : g * cluster_size h ≡ from
    begins_at = ap (λ c. c * cluster_size h) g_is ∙ from_is (cluster_size h) (entries_per_cluster h) some_size from to whole.begins whole.ends lt

    ends_at : (g + count) * cluster_size h ≡ to
    ends_at = ap (λ c. (c + count) * cluster_size h) g_is ∙ to_is (cluster_size h) (entries_per_cluster h) some_size from to whole.begins whole.ends lt

    final_is : new ≡ record mid { file = record mid.file { caches = b.file.caches; free_list = mid.file.free_list ++ listed_by how h known g count } }
    final_is =
        is ∙ ap (λ (x : Qcow2 S F). record x { file = record x.file { free_list = x.file.free_list ++ list } }) clears.rest
        ∙ ap (λ (l : List ClustersToFreeEntry). record mid { file = record mid.file { caches = b.file.caches; free_list = mid.file.free_list ++ l } }) (all_read.0 ∙ ap (λ c. listed_by how h known c count) (sym g_is))

    pub clears_between : ClearsPart view backing how from to old new out
    clears_between = clears_after old mid new how from to found
        (subst (λ (x : Qcow2 S F). ClearsPart view backing how from to mid x out) (sym final_is)
        (subst (λ n. ClearsPart view backing how from n mid (record mid { file = record mid.file { caches = b.file.caches; free_list = mid.file.free_list ++ listed_by how h known g count } }) out) ends_at
        (subst (λ n. ClearsPart view backing how n ((g + count) * cluster_size h) mid (record mid { file = record mid.file { caches = b.file.caches; free_list = mid.file.free_list ++ listed_by how h known g count } }) out) begins_at at_end)))

    -- ---- counts stay meanwhile

    part : AreCleared view backing how (l1_index_of h from) (l2_index_of h from) count mid b.file.caches out p
    part = clears.part out p (l1_index_of h from) may

  -- ---- a table that is under a mapping
  module _ (old mid : Qcow2 S F) (from table : ℕ) (found : InternalCall view backing old mid out) (holds : HoldsTable view backing mid from table) where
    same_row : (guest : ℕ) → l1_index_of mid.file.header.fields guest ≡ l1_index_of old.file.header.fields guest
    same_row guest = ap (λ (h : HeaderFields). l1_index_of h guest) found.header

    pub pinned_under : 0 < l2_pins mid.file.caches table → IsUnderMapping old.file.header.fields from out
    pinned_under pinned =
        let keeps = keeper out table (subst (λ k. 0 < k) (found.sound.pinned table) pinned) in
        record {
          place = keeps.place;
          other = keeps.other;
          is_out = keeps.is_out;
          keeps_table = subst (λ (o : Option ℕ). IsSome o) (sym keeps.keeps) refl;
          same_table = sym (same_row keeps.other.guest) ∙ in_same view backing mid (pending_in view backing mid out) out found.sound from table holds keeps.other keeps.other.table keeps.keeps (found.sound.ready keeps.place keeps.other keeps.is_out).mapped ∙ same_row from;
        }

    under_as : (r : Prepared) (place : ℕ) → slice_get out.slots place ≡ Some (Some r) → (x : Option ℕ) → r.table ≡ x → IsSome x → l1_index_of old.file.header.fields r.guest ≡ l1_index_of old.file.header.fields from
        → IsReadyWith mid.file.header.fields out.place (known_in view mid.file) (contents_in view mid.file) r x → 0 < l2_pins mid.file.caches table
    under_as r place there None is some rows ready = absurd (let e : false ≡ true = some in cc)
    under_as r place there (Some u) is some rows ready =
        let h = mid.file.header.fields in
        let pending : IsPending mid.file.header.fields out.place (known_in view mid.file) (contents_in view mid.file) r u = ready in
        let row : l1_index_of mid.file.header.fields r.guest ≡ l1_index_of mid.file.header.fields from = same_row r.guest ∙ rows ∙ sym (same_row from) in
        let places : u * cluster_size mid.file.header.fields ≡ table * cluster_size mid.file.header.fields = sym pending.named.place ∙ ap (table_at mid.file.header.fields (known_in view mid.file)) row ∙ holds.entry.place in
        let tables : u ≡ table = sym (own_cluster h.cluster_bits u) ∙ ap (λ o. o / cluster_size mid.file.header.fields) places ∙ own_cluster h.cluster_bits table in
        let mine = pins_own r table (is ∙ ap Some tables) in
        let all = over_all_at pins_by out place r there table in
        let pins = found.sound.pinned table in
        omega (arith, mine, all, pins)

    pub under_pinned : IsUnderMapping old.file.header.fields from out → 0 < l2_pins mid.file.caches table
    under_pinned under = under_as under.other under.place under.is_out under.other.table refl under.keeps_table under.same_table (found.sound.ready under.place under.other under.is_out).mapped

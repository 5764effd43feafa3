-- The clusters of a prepared mapping are entered one after another, until no byte of it is private.
use Rattle.std.proofs.Common.{◌≡◌, ◌⊎◌, ◌+◌, ◌-◌, ◌*◌, ◌/◌, ◌%◌, ◌^◌, ◌<◌, ◌≤◌, ◌∷◌, ◌++◌, if◌then◌else◌, ◌==◌, inl, inr, ℕ, Bool, true, false, List, length, [], refl, sym, ap, ◌∙◌, subst, arith, min, Option, Some, None, IsSome, IsTrue}
use Rattle.qcow2_image.proofs.Common.{KeepsFileNotes, notes_none, notes_then, slice_get, slice_set, option_map_or, lookup, cases_eq, cond-true, cond-false, eq-eqb, ne_eqb, append-nil, pow_pos, slice_get_within, pow_mono, fun_ext, BackingView, StorageView, Bytes, HeaderFields, cluster_size, entries_per_cluster, rounded_down, rounded_up, IsHostCluster, Guest, Setting, guest_of, meaning_at, EffectOnSound, PreparedMapping, first_of, end_of, given_shown, given_by_commit, committed, works_less, works_then, l2_pins, MetadataCaches, Slot, MapsCachedEntry, l2_at, contents_in, known_in, ClustersToFreeEntry, PreservesHeaderCluster, Qcow2, Prepared, ClusterMapping, InPlace, Kept, New, CommitsPart, EntersAll, IsEntered, ShowsPart, ImageStays, DropsNothing, EntersMapping, old_data_by, cluster_of, host_begin_of, is_entered, pins_by, pending_in, abstract_of, meaning, is_private, IsClusterMappingAt, IsPending, IsReadyWith, ImageInvariant, Mappings, set_slot, in_image, Image}
use Rattle.qcow2_image.proofs.Call.Notes.{same_kept, table_kept}
use Rattle.std.specs.Option.{option_map}
use Rattle.qcow2_image.proofs.Call.BehindHeader.{behind_by, behind_none, behind_tables, behind_then}
use Rattle.qcow2_image.proofs.Images.Apart.{pins_own}
use Rattle.qcow2_image.proofs.Call.Called.{works_none}
use Rattle.qcow2_image.proofs.Call.Slots.{get_set_other, get_set_same, length_set, set_same, set_slot_same, set_set, set_slot_set}
use Rattle.qcow2_image.proofs.Commit.Committing.{enters_part}
use Rattle.qcow2_image.proofs.Images.ClusterMappings.{host_first, over_all_at, private_shared}
use Rattle.qcow2_image.proofs.Images.Backings.{table_is}
use Rattle.qcow2_image.proofs.Images.Places.{by_place}

-- ---- what a guest sees, in parts
-- nothing is shown anew
shows_none : (g : Guest) (k : ℕ) (m : PreparedMapping) → g.slots k ≡ Some m → ShowsPart g g k m m
shows_none g k m at = record {
  slots = λ j. elim (cases_eq j k) [
    | inl here ↦ ap g.slots here ∙ at ∙ sym (cond-true (j == k) (Some m) (g.slots j) (eq-eqb _ _ here))
    | inr other ↦ sym (cond-false (j == k) (Some m) (g.slots j) (ne_eqb _ _ other))
  ];
  size = refl;
  from = refl;
  length = refl;
  private = λ o private. (private, refl, refl);
  visible = λ o isnt. sym (cond-false (m.is_private o) (m.shown o) (g.disk.value o) isnt);
}

module _ (a b c : Guest) (k : ℕ) (ma mb mc : PreparedMapping) (first : ShowsPart a b k ma mb) where
  value_same : (o : ℕ) (x : Bool) → mb.is_private o ≡ x → (committed b.disk mb).value o ≡ (committed a.disk ma).value o
  value_same o true private = let was = first.private o private in cond-true (mb.is_private o) _ _ private ∙ was.1 ∙ sym (cond-true (ma.is_private o) _ _ was.0)
  value_same o false isnt = cond-false (mb.is_private o) _ _ isnt ∙ first.visible o isnt

  -- all of it is the same disk
  pub committed_same : committed b.disk mb ≡ committed a.disk ma
  committed_same =
      let values : (committed b.disk mb).value ≡ (committed a.disk ma).value = fun_ext (λ o. value_same o (mb.is_private o) refl) in
      λ i. record { size = first.size i; value = values i }

  pub given_same : (size : ℕ) → given_by_commit size b.disk mb ≡ given_by_commit size a.disk ma
  given_same size =
      ap (λ d. given_shown d (first_of size mb) (if mb.length == 0 then first_of size mb else end_of size mb)) committed_same
      ∙ ap (λ f. given_shown (committed a.disk ma) (rounded_down size f) (if mb.length == 0 then rounded_down size f else rounded_up size (f + mb.length))) first.from
      ∙ ap (λ l. given_shown (committed a.disk ma) (rounded_down size ma.from) (if l == 0 then rounded_down size ma.from else rounded_up size (ma.from + l))) first.length

  pub shows_then : ShowsPart b c k mb mc → ShowsPart a c k ma mc
  shows_then next = record {
    slots = λ j. elim (cases_eq j k) [
      | inl here ↦ next.slots j ∙ cond-true (j == k) (Some mc) (b.slots j) (eq-eqb _ _ here) ∙ sym (cond-true (j == k) (Some mc) (a.slots j) (eq-eqb _ _ here))
      | inr other ↦
          next.slots j ∙ cond-false (j == k) (Some mc) (b.slots j) (ne_eqb _ _ other) ∙ first.slots j ∙ cond-false (j == k) (Some mb) (a.slots j) (ne_eqb _ _ other)
          ∙ sym (cond-false (j == k) (Some mc) (a.slots j) (ne_eqb _ _ other))
    ];
    size = next.size ∙ first.size;
    from = next.from ∙ first.from;
    length = next.length ∙ first.length;
    private = λ o private. let last = next.private o private in let was = first.private o last.0 in (was.0, last.1 ∙ was.1, last.2 ∙ was.2);
    visible = λ o isnt. next.visible o isnt ∙ value_same o (mb.is_private o) refl;
  }

-- a cluster beside a range is beside the same range
outside_same : (f f' n n' s s' g : ℕ) → f' ≡ f → n' ≡ n → s' ≡ s → (g < f / s) ⊎ (f + n ≤ g * s) → (g < f' / s') ⊎ (f' + n' ≤ g * s')
outside_same f f' n n' s s' g from more size is =
    subst (λ x. (g < f' / x) ⊎ (f' + n' ≤ g * x)) (sym size) (subst (λ x. (g < f' / s) ⊎ (f' + x ≤ g * s)) (sym more) (subst (λ x. (g < x / s) ⊎ (x + n ≤ g * s)) (sym from) is))

module _ {S F : Type 0} (view : S → StorageView) (backing : F → BackingView) (out : Mappings) (k : ℕ) where
  -- ---- a commit in parts
  -- nothing is entered yet
  pub parts_none : (image : Qcow2 S F) (p : Prepared) → slice_get out.slots k ≡ Some (Some p) → ImageInvariant view backing (pending_in view backing image out) image out → CommitsPart view backing image image out k p p
  parts_none image p placed sound =
      let v = abstract_of view backing image out in
      let same : set_slot out k (Some p) ≡ out = set_slot_same out k (Some p) placed in
      let m = meaning view backing out.place image p in
      let given_bytes = given_by_commit v.setting.cluster_size (guest_of v).disk (meaning view backing out.place image p) ∷ [] in
      record {
        works = subst (λ now. EffectOnSound v (abstract_of view backing image now) given_bytes []) (sym same) (works_less v v [] given_bytes [] (λ o x never. absurd never) (λ g u. tt) (works_none v sound));
        sound = subst (λ now. ImageInvariant view backing (pending_in view backing image now) image now) (sym same) sound;
        shows = subst (λ now. ShowsPart (guest_of v) (guest_of (abstract_of view backing image now)) k m m) (sym same) (shows_none (guest_of v) k m (ap (meaning_at (meaning view backing out.place image)) placed));
        beside = λ g outside. refl;
      }

  pub parts_then : (a b c : Qcow2 S F) (p q r : Prepared) → CommitsPart view backing a b out k p q → CommitsPart view backing b c (set_slot out k (Some q)) k q r → CommitsPart view backing a c out k p r
  parts_then a b c p q r first next =
      let mid = set_slot out k (Some q) in
      let end : set_slot (set_slot out k (Some q)) k (Some r) ≡ set_slot out k (Some r) = set_slot_set out k (Some q) (Some r) in
      let va = abstract_of view backing a out in
      let vb = abstract_of view backing b mid in
      let ma = meaning view backing out.place a p in
      let mb = meaning view backing out.place b q in
      let mc = meaning view backing out.place c r in
      let given_bytes = given_by_commit va.setting.cluster_size (guest_of va).disk ma ∷ [] in
      let sizes : vb.setting.cluster_size ≡ va.setting.cluster_size = ap (λ (x : Setting). x.cluster_size) first.works.setting in
      let bytes_given : given_by_commit vb.setting.cluster_size (guest_of vb).disk mb ∷ [] ≡ given_bytes =
      ap (λ n. given_by_commit n (guest_of vb).disk mb ∷ []) sizes ∙ ap (λ g. g ∷ []) (given_same (guest_of va) (guest_of vb) (guest_of vb) k ma mb mb first.shows va.setting.cluster_size) in
      record {
        works = works_then va vb (abstract_of view backing c (set_slot out k (Some r))) given_bytes [] first.sound first.works
            (subst (λ now. EffectOnSound vb (abstract_of view backing c now) given_bytes []) end (subst (λ gs. EffectOnSound vb (abstract_of view backing c (set_slot mid k (Some r))) gs []) bytes_given next.works));
        sound = subst (λ now. ImageInvariant view backing (pending_in view backing c now) c now) end next.sound;
        shows = shows_then (guest_of va) (guest_of vb) (guest_of (abstract_of view backing c (set_slot out k (Some r)))) k ma mb mc first.shows
            (subst (λ now. ShowsPart (guest_of vb) (guest_of (abstract_of view backing c now)) k mb mc) end next.shows);
        beside = λ g outside. first.beside g outside ∙ next.beside g (outside_same p.guest q.guest p.length q.length va.setting.cluster_size vb.setting.cluster_size g first.shows.from first.shows.length sizes outside);
      }

-- ---- one cluster is entered

-- a table with a pin is held
slot_new_data : {V : Type 0} (x : Option (Slot V)) → 0 < option_map_or (λ (s : Slot V). s.pins) x 0 → IsSome (option_map (λ (s : Slot V). s.value) x)
slot_new_data None some = absurd (omega arith)
slot_new_data (Some s) some = refl

pub pinned_new_data : {S : Type 0} (caches : MetadataCaches S) (t : ℕ) → 0 < l2_pins caches t → IsSome (l2_at caches t)
pinned_new_data caches t some = slot_new_data (lookup (λ k. t == k) caches.l2.entries) some

-- the host cluster of a cluster that is entered
pub record HasFirst (h : HeaderFields) (p : Prepared) (i : ℕ) : Type 0 where
  pub first : ℕ
  pub place : first * cluster_size h ≡ host_begin_of h p i
  pub nameable : IsHostCluster h.cluster_bits first

first_as : (h : HeaderFields) (known on_storage : Bytes) (p : Prepared) (i : ℕ) (cluster_mapping : ClusterMapping) → IsTrue (is_entered cluster_mapping) → IsClusterMappingAt h Image known on_storage p i cluster_mapping → HasFirst h p i
first_as h known on_storage p i InPlace entered at = absurd (let e : false ≡ true = entered in cc)
first_as h known on_storage p i Kept entered at = record { first = at.first; place = at.place; nameable = at.nameable }
first_as h known on_storage p i (New taken old_data) entered at = record { first = at.first; place = at.place; nameable = at.nameable }

module _ {S F : Type 0} (view : S → StorageView) (backing : F → BackingView) (old new : Qcow2 S F) (i : ℕ) (p q : Prepared) (enters : EntersMapping i p q old new) (slots : List (Option Prepared)) (k : ℕ) (placed : slice_get slots k ≡ Some (Some p)) (t : ℕ) (is_table : p.table ≡ Some t)
    (sound : ImageInvariant view backing (pending_in view backing old (in_image slots)) old (in_image slots)) where
  abbrev out : Mappings
  out = in_image slots

  abbrev h : HeaderFields
  h = old.file.header.fields

  pending : IsPending h out.place (known_in view old.file) (contents_in view old.file) p t
  pending = subst (IsReadyWith h out.place (known_in view old.file) (contents_in view old.file) p) is_table (sound.ready k p placed).mapped

  stands : IsClusterMappingAt h out.place (known_in view old.file) (contents_in view old.file) p i enters.cluster_mapping
  stands = pending.each i enters.cluster_mapping enters.was

  its : HasFirst h p i
  its = first_as h (known_in view old.file) (contents_in view old.file) p i enters.cluster_mapping enters.entered stands

  found : IsSome (l2_at old.file.caches t)
  found = pinned_new_data old.file.caches t (
      let all = over_all_at pins_by out k p placed t in
      let mine = pins_own p t is_table in
      let pins = sound.pinned t in
      omega arith)

  small : cluster_size h ≤ 2 ^ 21
  small = pow_mono sound.file.caches.kept.kept.crash_invariant.top.header_reads.well_formed.in_range.cluster_bits.1

  inside : cluster_of h p % entries_per_cluster h + i < entries_per_cluster h
  inside = let lt = slice_get_within p.clusters.items i enters.cluster_mapping enters.was in let within = pending.within in omega arith

  index_is : min (cluster_of h p % entries_per_cluster h + i) (2 ^ 64 - 1) ≡ cluster_of h p % entries_per_cluster h + i
  index_is = let few = small in let lt = inside in omega arith

  cluster_is : min (p.offset / cluster_size h + i) (2 ^ 64 - 1) ≡ its.first
  cluster_is =
      let first = host_first h p i its.first its.place pending.begins in
      let near = its.nameable in
      let some : 0 < cluster_size h = pow_pos h.cluster_bits in
      let more : its.first * cluster_size h ≡ its.first + its.first * (cluster_size h - 1) = (let e : cluster_size h ≡ 1 + (cluster_size h - 1) = omega arith in ap (λ n. its.first * n) e ∙ omega arith) in
      omega arith

  made : (answer : Option (ℕ × ℕ)) × MapsCachedEntry old.file.caches enters.mid.file.caches t (cluster_of h p % entries_per_cluster h + i) its.first answer
  made =
      let entered = enters.enters.entered t is_table in (
        entered.0,
        subst (λ c. MapsCachedEntry old.file.caches enters.mid.file.caches t (cluster_of h p % entries_per_cluster h + i) c entered.0) cluster_is
            (subst (λ j. MapsCachedEntry old.file.caches enters.mid.file.caches t j (min (p.offset / cluster_size h + i) (2 ^ 64 - 1)) entered.0) index_is entered.1),
      )

  pub entered_part : CommitsPart view backing old new out k p q
  entered_part = enters_part view backing old p q t i enters.cluster_mapping is_table enters.was enters.entered enters.clusters enters.mid.file.caches enters.enters.marks enters.enters.order made.0 slots k placed sound its.first its.place its.nameable found made.1 stands q enters.mapping new
      (enters.lists ∙ ap (λ (m : Qcow2 S F). record m { file = record m.file { free_list = m.file.free_list ++ old_data_by enters.cluster_mapping } }) enters.enters.rest)

  -- a change is recorded
  pub entered_noted : IsTrue new.file.caches.is_changed
  entered_noted =
      ap (λ (m : Qcow2 S F). m.file.caches.is_changed) enters.lists ∙ enters.enters.recorded t is_table h (pending_in view backing old out) (contents_in view old.file) (cluster_of h p / entries_per_cluster h) sound.file.caches
      (record { real = pending.named.real; place = pending.named.place; within = subst (λ j. j < entries_per_cluster h) (sym index_is) inside }) found (subst (IsHostCluster h.cluster_bits) (sym cluster_is) its.nameable)

-- if each cluster is in place, nothing is private
pub all_in_place : {S F : Type 0} (view : S → StorageView) (backing : F → BackingView) (image : Qcow2 S F) (p : Prepared) → ((j : ℕ) → j < length p.clusters.items → slice_get p.clusters.items j ≡ Some InPlace) → (o : ℕ) → is_private view backing image p o ≡ false
all_in_place view backing image p each o = by_test (is_private view backing image p o) refl where
  by_test : (b : Bool) → is_private view backing image p o ≡ b → is_private view backing image p o ≡ false
  by_test false isnt = isnt
  by_test true private =
      let shared = private_shared view backing image p o private in
      let e : Some shared.cluster_mapping ≡ Some InPlace = sym shared.is ∙ each shared.index (slice_get_within p.clusters.items shared.index shared.cluster_mapping shared.is) in
      let same : shared.cluster_mapping ≡ InPlace = cc in
      absurd (let f : true ≡ false = sym shared.entered ∙ ap is_entered same in cc)

-- ---- the first clusters are entered
-- a cached table and what is to be freed change, as they may have before
rest_entered : {S F : Type 0} (old now mid new : Qcow2 S F) (more : List ClustersToFreeEntry) → now ≡ record old { file = record old.file { caches = now.file.caches; free_list = now.file.free_list } } → mid ≡ record now { file = record now.file { caches = mid.file.caches } }
    → new ≡ record mid { file = record mid.file { free_list = mid.file.free_list ++ more } } → new ≡ record old { file = record old.file { caches = new.file.caches; free_list = new.file.free_list } }
rest_entered {S} {F} old now mid new more first next last =
    let list = mid.file.free_list ++ more in
    last ∙ ap (λ (m : Qcow2 S F). record m { file = record m.file { caches = mid.file.caches; free_list = list } }) next ∙ ap (λ (m : Qcow2 S F). record m { file = record m.file { caches = mid.file.caches; free_list = list } }) first
    ∙ ap (λ (m : Qcow2 S F). record old { file = record old.file { caches = m.file.caches; free_list = m.file.free_list } }) (sym last)

module _ {S F : Type 0} (view : S → StorageView) (backing : F → BackingView) where
  pub record EntersFirst (old now : Qcow2 S F) (p q : Prepared) (n : ℕ) (entered : Bool) : Type 0 where
    pub stays : ImageStays old now
    pub rest : now ≡ record old { file = record old.file { caches = now.file.caches; free_list = now.file.free_list } }
    pub none : entered ≡ false → (now ≡ old) × (q ≡ p)
    pub mapping : q ≡ record p { clusters = q.clusters }
    pub table : q.table ≡ p.table
    pub count : length q.clusters.items ≡ length p.clusters.items
    pub in_place : (j : ℕ) → j < n → slice_get q.clusters.items j ≡ Some InPlace
    pub parts : (out : Mappings) (k : ℕ) → slice_get out.slots k ≡ Some (Some p) → IsSome p.table → ImageInvariant view backing (pending_in view backing old out) old out
        → CommitsPart view backing old now out k p q × (IsTrue entered → IsTrue now.file.caches.is_changed)
    pub notes : KeepsFileNotes view old.file now.file
    pub quiet : DropsNothing p → DropsNothing q × (now.file.free_list ≡ old.file.free_list)
    pub behind : PreservesHeaderCluster view old now

  pub first_none : (old : Qcow2 S F) (p : Prepared) → EntersFirst old old p p 0 false
  first_none old p = record {
    stays = record { image = record { number = refl; size = refl; writable = refl; lacks = refl; beside = refl }; failed = refl };
    rest = refl;
    none = λ _. (refl, refl);
    mapping = refl;
    table = refl;
    count = refl;
    in_place = λ j lt. absurd (omega arith);
    parts = λ out k placed some sound. (parts_none view backing out k old p placed sound, λ never. absurd (let e : false ≡ true = never in cc));
    notes = notes_none;
    quiet = λ none. (none, refl);
    behind = behind_none;
  }

  module _ (old now new : Qcow2 S F) (p q r : Prepared) (n : ℕ) (entered : Bool) (first : EntersFirst old now p q n entered) where
    -- the next one is in place
    pub first_false : (new ≡ now) × (r ≡ q) × (slice_get q.clusters.items n ≡ Some InPlace) → EntersFirst old new p r (n + 1) entered
    first_false same =
        subst (λ (x : Qcow2 S F). EntersFirst old x p r (n + 1) entered) (sym same.0) (subst (λ (x : Prepared). EntersFirst old now p x (n + 1) entered) (sym same.1)
        (record {
          stays = first.stays;
          rest = first.rest;
          none = first.none;
          mapping = first.mapping;
          table = first.table;
          count = first.count;
          in_place = λ j lt. elim (cases_eq j n) [
            | inl here ↦ ap (slice_get q.clusters.items) here ∙ same.2
            | inr other ↦ first.in_place j (omega arith)
          ];
          parts = first.parts;
          notes = first.notes;
          quiet = first.quiet;
          behind = first.behind;
        }))

    -- what is in place drops nothing
    left_of : (q r : Prepared) (n : ℕ) → EntersMapping n q r now new → DropsNothing q → DropsNothing r
    left_of q r n enters none i cluster_mapping at = elim (cases_eq i n) [
      | inl here ↦
          let there : Some cluster_mapping ≡ Some InPlace =
          sym at ∙ ap (λ (l : List ClusterMapping). slice_get l i) enters.clusters ∙ ap (slice_get (slice_set q.clusters.items n InPlace)) here ∙ get_set_same q.clusters.items n InPlace enters.cluster_mapping enters.was in
          let is : cluster_mapping ≡ InPlace = cc in
          ap old_data_by is
      | inr other ↦ none i cluster_mapping (sym (ap (λ (l : List ClusterMapping). slice_get l i) enters.clusters ∙ get_set_other q.clusters.items n i InPlace other) ∙ at)
    ]

    -- or it is entered
    pub first_true : EntersMapping n q r now new → ImageStays now new → EntersFirst old new p r (n + 1) true
    first_true enters stays =
        let table : r.table ≡ q.table = ap (λ (x : Prepared). x.table) enters.mapping in
        record {
          stays = record {
            image = record { number = stays.image.number ∙ first.stays.image.number; size = stays.image.size ∙ first.stays.image.size; writable = stays.image.writable ∙ first.stays.image.writable; lacks = stays.image.lacks ∙ first.stays.image.lacks; beside = stays.image.beside ∙ first.stays.image.beside };
            failed = stays.failed ∙ first.stays.failed;
          };
          rest = rest_entered old now enters.mid new (old_data_by enters.cluster_mapping) first.rest enters.enters.rest enters.lists;
          none = λ never. absurd (let e : true ≡ false = never in cc);
          mapping = enters.mapping ∙ ap (λ (x : Prepared). record x { clusters = r.clusters }) first.mapping;
          table = table ∙ first.table;
          count = ap (λ (l : List ClusterMapping). length l) enters.clusters ∙ length_set q.clusters.items n InPlace ∙ first.count;
          in_place = λ j lt. elim (cases_eq j n) [
            | inl here ↦ ap (λ (l : List ClusterMapping). slice_get l j) enters.clusters ∙ ap (slice_get (slice_set q.clusters.items n InPlace)) here ∙ get_set_same q.clusters.items n InPlace enters.cluster_mapping enters.was
            | inr other ↦ ap (λ (l : List ClusterMapping). slice_get l j) enters.clusters ∙ get_set_other q.clusters.items n j InPlace other ∙ first.in_place j (omega arith)
          ];
          parts = λ out k placed some sound.
              let before = (first.parts out k placed some sound).0 in
              let at = get_set_same out.slots k (Some q) (Some p) placed in
              let there = table_is q.table (subst (λ (x : Option ℕ). IsSome x) (sym first.table) some) in
              let next = by_place (λ (o : Mappings). slice_get o.slots k ≡ Some (Some q) → ImageInvariant view backing (pending_in view backing now o) now o → CommitsPart view backing now new o k q r × IsTrue new.file.caches.is_changed) before.sound
              (λ slots at sound. (entered_part view backing now new n q r enters slots k at there.0 there.1 sound, entered_noted view backing now new n q r enters slots k at there.0 there.1 sound)) at before.sound in
              (parts_then view backing out k old now new p q r before next.0, λ _. next.1);
          notes = notes_then first.notes (notes_then (table_kept now enters.mid (ap (λ (m : Qcow2 S F). m.file.storage) enters.enters.rest) enters.enters.marks) (same_kept enters.mid new (ap (λ (m : Qcow2 S F). m.file.storage) enters.lists) (ap (λ (m : Qcow2 S F). m.file.caches) enters.lists)));
          quiet = λ none.
              let before = first.quiet none in
              let last : new.file.free_list ≡ enters.mid.file.free_list ++ old_data_by enters.cluster_mapping = ap (λ (m : Qcow2 S F). m.file.free_list) enters.lists in
              let rest : enters.mid.file.free_list ≡ now.file.free_list = ap (λ (m : Qcow2 S F). m.file.free_list) enters.enters.rest in (
                λ i cluster_mapping at. left_of q r n enters before.0 i cluster_mapping at,
                last ∙ ap (λ l. enters.mid.file.free_list ++ l) (before.0 n enters.cluster_mapping enters.was) ∙ append-nil enters.mid.file.free_list ∙ rest ∙ before.1,
              );
          behind = behind_then first.behind (behind_then (behind_by view enters.enters.rest (behind_tables enters.enters.behind)) (behind_by view enters.lists behind_none));
        }

  pub enters_all : (old now : Qcow2 S F) (p q : Prepared) (n : ℕ) (entered : Bool) → EntersFirst old now p q n entered → n ≡ length p.clusters.items → EntersAll view backing old now p q entered
  enters_all old now p q n entered first all = λ out k placed some sound.
      let parts = first.parts out k placed some sound in
      let many = first.count in
      (record { part = parts.0; visible = all_in_place view backing now q (λ j lt. first.in_place j (omega arith)) }, parts.1)

  -- and all are in place
  pub entered_whole : (old now : Qcow2 S F) (p q : Prepared) (n : ℕ) (entered : Bool) → EntersFirst old now p q n entered → n ≡ length p.clusters.items → IsEntered p q
  entered_whole old now p q n entered first all = record { mapping = first.mapping; table = first.table; many = first.count; in_place = λ j lt. first.in_place j (omega (arith, lt, all)) }

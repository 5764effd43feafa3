-- A cluster of a prepared mapping is entered in its L2 table: its private bytes become visible.
use Rattle.std.proofs.Common.{◌≡◌, ◌≢◌, ◌⊎◌, ◌+◌, ◌-◌, ◌*◌, ◌/◌, ◌%◌, ◌<◌, ◌≤◌, ◌∷◌, ◌++◌, ◌&&◌, ◌==◌, if◌then◌else◌, inl, inr, ℕ, true, false, List, length, [], refl, sym, ap, ◌∙◌, subst, arith, cond, Bool, Option, Some, None, IsSome, IsTrue, nat_le, nat_lt}
use Rattle.qcow2_laws.specs.Beside.{StandsIfBeside}
use Rattle.qcow2_laws.proofs.BesideSteps.{stands_inside}
use Rattle.qcow2_image.proofs.Common.{slice_get, slice_set, option_map_or, cases_lt, cases_eq, cond-true, cond-false, eq-eqb, ne_eqb, lt-leb, div-mul-add, mod-mul-add, div-add-mod', pow_pos, slice_get_within, BackingView, StorageView, Bytes, one_if, HeaderFields, cluster_size, entries_per_cluster, has_data_file, rounded_up, l1_entry, l2_entry, host_offset, count, Value, known_byte, cover, entry_cover, IsHostCluster, named_run, named_by_cover-run, IsEntryHost, copied_entry, copied_host, in_cluster, named_for_tables, Data, Zero, CoverIsAligned, cover_of-copied_entry, cluster_is_host, Disk, disk, Pending, CrashInvariant, names, marks, named_by_guest, marked_by_guest, table_at, DriverState, StateInvariant, SafeStep, PreparedMapping, given_shown, given_by_commit, committed, first_of, end_of, GivenBytes, IsGiven, guest_at, EntryChanges, guest_of, entry_top, entry_counts, Takes, takes_new_data, takes_own, works_less, TouchesLess, kept_committed, Maps, pending_after, private_committed, committed_new_data, committed_old_data, Sizes-from, cover_at, beside_tables, shares, in_own, entry_safe_throughout, run_at, KeepsPinsAndNotes, data_entry, MetadataCaches, ClustersToFreeEntry, IsEntryAt, ChangesKnownEntry, MadeEntry, MapsCachedEntry, l2_at, order_of, known_of, run_in, run_before, run_after, state_in, view_in, file_invariant_of, Qcow2, Prepared, ClusterMapping, InPlace, Kept, New, CommitsPart, ShowsPart, old_data_by, to_free, of_data, of_tables, listed_run, new_data_in, new_data_by, pins_by, over_all, pending_in, abstract_of, meaning, is_entered, is_private, cluster_of, host_begin_of, mapping_of_cluster, backing_bytes, IsNewAt, IsClusterMappingAt, IsPending, IsReady, IsReadyWith, ImageInvariant, Mappings, set_slot, in_image}
use Rattle.qcow2_metadata.specs.L2Mapping.{run_has}
use Rattle.qcow2_laws.specs.GuestLaws.{Kept as HostedKept, Held as HostedHeld}
use Rattle.qcow2_image.proofs.Images.Sound.{free_more}
use Rattle.qcow2_image.proofs.Images.Apart.{apart_guests}
use Rattle.qcow2_image.proofs.Images.Ready.{still_pending, still_mapping}
use Rattle.qcow2_image.proofs.Images.Inside.{names_inside}
use Rattle.qcow2_image.proofs.Open.Reftables.{reftable_still}
use Rattle.qcow2_image.proofs.Call.Slots.{get_set_other, get_set_same, length_set, over_all_set, slot_set}
use Rattle.qcow2_image.proofs.Call.Stepped.{Steps, stepped_sound, stepped_works}
use Rattle.qcow2_image.proofs.Images.ClusterMappings.{new_data_less, over_all_at, place_in, private_is}
use Rattle.qcow2_image.proofs.Images.UngivenCovers.{touches_part, ungiven_stay, touches_own}
use Rattle.qcow2_image.proofs.Images.Places.{inside_of}
use Rattle.qcow2_image.specs.declared.mapping.Place.{Place}

-- ---- the entry of a held table changes to a held cluster
module _ (s : DriverState) (known' : Bytes) (i j entry : ℕ) (sound : StateInvariant s) (real : table_at s.header s.known i ≢ 0) (within : j < entries_per_cluster s.header)
    (c : ChangesKnownEntry s.header s.known known' i j entry) where
  same_entries : (k : ℕ) → k < entries_per_cluster s.header → k ≢ j → l2_entry s.known (table_at s.header s.known i) k ≡ l2_entry known' (table_at s.header s.known i) k
  same_entries k lt other = sym (c.others k lt other)

  same_table : table_at s.header known' i ≡ table_at s.header s.known i
  same_table = ap host_offset (sym ((entry_top s.header s.direction s.pending s.on_storage s.known known' sound i j real within c.outside same_entries).l1 i))

  pub counts_now : (k : ℕ) → count s.header s.known k ≡ count s.header known' k
  counts_now = entry_counts s.header s.direction s.pending s.on_storage s.known known' sound i j real within c.outside same_entries

  pub cover_now : cover s.header known' (guest_at s.header i j) ≡ entry_cover s.header entry
  cover_now =
      cover_at s.header known' i j (Sizes-from s.header s.on_storage sound.top.header_reads) (λ none. real (sym same_table ∙ none)) within
      ∙ ap (λ t. entry_cover s.header (l2_entry known' t j)) same_table ∙ ap (entry_cover s.header) c.is

  pub known_entry_changes : Takes s.header s.pending.new_data (cover s.header s.known (guest_at s.header i j)) (entry_cover s.header entry) → StandsIfBeside s.header (guest_at s.header i j) (entry_cover s.header entry) → EntryChanges s known' i j
  known_entry_changes takes stands = record {
    real = real;
    within = within;
    outside = c.outside;
    entries = same_entries;
    new_data = λ k. let b : names s.header known' k (guest_at s.header i j) ≡ named_by_guest s.header k (entry_cover s.header entry) = ap (named_by_guest s.header k) cover_now in let t = takes.new_data k in omega arith;
    marked = λ k.
        let b : names s.header known' k (guest_at s.header i j) ≡ named_by_guest s.header k (entry_cover s.header entry) = ap (named_by_guest s.header k) cover_now in
        let n : marks s.header known' k (guest_at s.header i j) ≡ marked_by_guest s.header k (entry_cover s.header entry) = ap (marked_by_guest s.header k) cover_now in
        let t = takes.marked k in
        omega arith;
    aligned = subst (CoverIsAligned s.header) (sym cover_now) takes.aligned;
    at_guest = subst (StandsIfBeside s.header (guest_at s.header i j)) (sym cover_now) stands;
  }

-- 1 for the one cluster of a run of one
run_one : (h : HeaderFields) (first c : ℕ) → run_at first 1 c ≡ in_cluster h c (first * cluster_size h)
run_one h first c =
    let same : first * cluster_size h / cluster_size h ≡ first = let e : first * cluster_size h ≡ first * cluster_size h + 0 = omega arith in ap (λ o. o / cluster_size h) e ∙ div-mul-add first (cluster_size h) 0 (pow_pos h.cluster_bits) in
    elim (cases_eq first c) [
      | inl here ↦ run_in first 1 c (omega arith) (omega arith) ∙ sym (cond-true {A = ℕ} _ 1 0 (eq-eqb _ _ (same ∙ here)))
      | inr other ↦ elim (cases_lt c first) [
        | inl below ↦ run_before first 1 c below
        | inr above ↦ run_after first 1 c (omega arith)
      ] ∙ sym (cond-false {A = ℕ} _ 1 0 (ne_eqb _ _ (λ e. other (sym same ∙ e))))
    ]

-- what a run has is listed, and as data
pub listed_has : (run : Option (ℕ × ℕ)) (c : ℕ) → to_free of_data (listed_run run) c ≡ run_has run c
listed_has None c = refl
listed_has (Some run) c = (let e : to_free of_data (listed_run (Some run)) c ≡ run_at run.0 run.1 c = omega arith in e) ∙ (elim (nat_le run.0 c && nat_lt c (run.0 + run.1)) as (λ (b : Bool). cond b 1 0 ≡ one_if b) [ true ↦ refl | false ↦ refl ])

pub listed_tables : (run : Option (ℕ × ℕ)) (c : ℕ) → to_free of_tables (listed_run run) c ≡ 0
listed_tables None c = refl
listed_tables (Some run) c = refl

-- a mapping has a cluster mapping for each of its whole clusters
pub ends_at : {place : Place} (h : HeaderFields) (known on_storage : Bytes) (p : Prepared) (t : ℕ) → IsPending h place known on_storage p t → rounded_up (cluster_size h) (p.guest + p.length) ≡ (cluster_of h p + length p.clusters.items) * cluster_size h
ends_at h known on_storage p t pending =
    let size = cluster_size h in
    let n = length p.clusters.items in
    let enough = pending.enough in
    let no_more = pending.no_more in
    let some : 0 < cluster_size h = pow_pos h.cluster_bits in
    let g_is : p.guest / cluster_size h * cluster_size h + p.guest % cluster_size h ≡ p.guest = div-add-mod' p.guest (cluster_size h) in
    let r : (cluster_of h p + length p.clusters.items) * cluster_size h ≡ cluster_of h p * cluster_size h + length p.clusters.items * cluster_size h = omega arith in
    let e : p.guest + p.length + cluster_size h - 1 ≡ (cluster_of h p + length p.clusters.items) * cluster_size h + (p.guest % cluster_size h + p.length + cluster_size h - 1 - length p.clusters.items * cluster_size h) = omega arith in
    ap (λ o. o / cluster_size h * cluster_size h) e ∙ ap (λ c. c * cluster_size h) (div-mul-add (cluster_of h p + length p.clusters.items) (cluster_size h) (p.guest % cluster_size h + p.length + cluster_size h - 1 - length p.clusters.items * cluster_size h) (omega arith))

-- a cluster mapping that changes, in the list of all
mapping_same : (h : HeaderFields) (p q : Prepared) (i : ℕ) → q.guest ≡ p.guest → q.clusters.items ≡ slice_set p.clusters.items i InPlace → (g : ℕ) → g ≢ cluster_of h p + i → mapping_of_cluster h q g ≡ mapping_of_cluster h p g
mapping_same h p q i same items g other =
    ap (λ x. cond (nat_le (x / cluster_size h) g) (slice_get q.clusters.items (g - x / cluster_size h)) None) same
    ∙ ap (λ (l : List ClusterMapping). cond (nat_le (cluster_of h p) g) (slice_get l (g - cluster_of h p)) None) items
    ∙ (elim (cases_lt g (cluster_of h p)) [
      | inl below ↦ let no = lt-leb (cluster_of h p) g below in cond-false (nat_le (cluster_of h p) g) _ _ no ∙ sym (cond-false (nat_le (cluster_of h p) g) _ _ no)
      | inr above ↦ ap (λ x. cond (nat_le (cluster_of h p) g) x None) (get_set_other p.clusters.items i (g - cluster_of h p) InPlace (λ e. other (omega arith)))
    ])

module _ {S F : Type 0} (view : S → StorageView) (backing : F → BackingView) (old : Qcow2 S F) (p like : Prepared) (t i : ℕ) (cluster_mapping : ClusterMapping) (is_table : p.table ≡ Some t) (was : slice_get p.clusters.items i ≡ Some cluster_mapping) (is_entered_now : IsTrue (is_entered cluster_mapping))
    (items : like.clusters.items ≡ slice_set p.clusters.items i InPlace) (caches : MetadataCaches S) (marks : KeepsPinsAndNotes old.file.caches caches) (order : order_of caches ≡ order_of old.file.caches) (answer : Option (ℕ × ℕ))
    (slots : List (Option Prepared)) (k : ℕ) (placed : slice_get slots k ≡ Some (Some p)) (sound : ImageInvariant view backing (pending_in view backing old (in_image slots)) old (in_image slots)) where
  abbrev out : Mappings
  out = in_image slots

  abbrev h : HeaderFields
  h = old.file.header.fields

  abbrev before : Pending
  before = pending_in view backing old out

  abbrev s : DriverState
  s = state_in view old.file before

  -- what is left of it
  abbrev q : Prepared
  q = record p { clusters = like.clusters }

  abbrev now : Mappings
  now = set_slot out k (Some q)

  pending : IsPending h out.place s.known s.on_storage p t
  pending = subst (IsReadyWith h out.place s.known s.on_storage p) is_table (sound.ready k p placed).mapped

  within : i < length p.clusters.items
  within = slice_get_within p.clusters.items i cluster_mapping was

  abbrev row : ℕ
  row = cluster_of h p / entries_per_cluster h

  abbrev column : ℕ
  column = cluster_of h p % entries_per_cluster h + i

  abbrev known : Bytes
  known = known_of h caches s.on_storage

  at_entry : IsEntryAt h s.known row t column
  at_entry = record { real = pending.named.real; place = pending.named.place; within = let lt = within in let inside = pending.within in omega arith }

  guest_is : guest_at h row column ≡ cluster_of h p + i
  guest_is = let e : cluster_of h p / entries_per_cluster h * entries_per_cluster h + cluster_of h p % entries_per_cluster h ≡ cluster_of h p = div-add-mod' (cluster_of h p) (entries_per_cluster h) in omega arith

  module _ (first : ℕ) (place : first * cluster_size h ≡ host_begin_of h p i) (nameable : IsHostCluster h.cluster_bits first) (found : IsSome (l2_at old.file.caches t)) (maps : MapsCachedEntry old.file.caches caches t column first answer)
      (stands : IsClusterMappingAt h out.place s.known s.on_storage p i cluster_mapping) where
    abbrev host : ℕ
    host = first * cluster_size h

    zero_more : host ≡ host + 0
    zero_more = omega arith

    host_first : host / cluster_size h ≡ first
    host_first = ap (λ o. o / cluster_size h) zero_more ∙ div-mul-add first (cluster_size h) 0 (pow_pos h.cluster_bits)

    host_aligned : host % cluster_size h ≡ 0
    host_aligned = ap (λ o. o % cluster_size h) zero_more ∙ mod-mul-add first (cluster_size h) 0 (pow_pos h.cluster_bits)

    entry : MadeEntry h old.file.caches caches s.on_storage row column (copied_entry host) answer
    entry = maps h before s.on_storage row sound.file.caches at_entry pending.copied found nameable

    -- ---- of a new cluster
    module _ (taken old_data : List ClustersToFreeEntry) (is_new : cluster_mapping ≡ New taken old_data) (new_at : IsNewAt h s.known s.on_storage p i taken old_data) where
      same_first : new_at.first ≡ first
      same_first =
          let e : new_at.first * cluster_size h ≡ new_at.first * cluster_size h + 0 = omega arith in
          sym (ap (λ o. o / cluster_size h) e ∙ div-mul-add new_at.first (cluster_size h) 0 (pow_pos h.cluster_bits)) ∙ ap (λ o. o / cluster_size h) (new_at.place ∙ sym place) ∙ host_first

      mine : (c : ℕ) → new_data_in (cluster_mapping ∷ []) c ≡ in_cluster h c host
      mine c =
          ap (λ (x : ClusterMapping). new_data_in (x ∷ []) c) is_new ∙ ap (λ l. to_free of_data l c + 0) (new_at.is ∙ ap (λ f. data_entry f 1 ∷ []) same_first)
          ∙ (let one = run_one h first c in omega arith)

      new_data_there : 0 < before.new_data (host / cluster_size h)
      new_data_there =
          let less = new_data_less p.clusters.items i cluster_mapping was (host / cluster_size h) in
          let all = over_all_at new_data_by out k p placed (host / cluster_size h) in
          let one = mine (host / cluster_size h) in
          let own : in_cluster h (host / cluster_size h) host ≡ 1 = in_own h host in
          omega arith

    -- what is so of a new cluster, and of one that a zero entry keeps
    no_table_as : (x : ClusterMapping) → cluster_mapping ≡ x → IsTrue (is_entered x) → IsClusterMappingAt h out.place s.known s.on_storage p i x → named_for_tables h s.on_storage (host / cluster_size h) ≡ 0
    no_table_as InPlace is entered at = absurd (let e : false ≡ true = entered in cc)
    no_table_as Kept is entered at = beside_tables s HostedKept ((cluster_of h p + i) * cluster_size h) host sound.file.caches.kept.kept.crash_invariant (inside_of sound) (
      host,
      (
          let e : (cluster_of h p + i) * cluster_size h ≡ (cluster_of h p + i) * cluster_size h + 0 = omega arith in
          ap (cover h s.known) (ap (λ o. o / cluster_size h) e ∙ div-mul-add (cluster_of h p + i) (cluster_size h) 0 (pow_pos h.cluster_bits)) ∙ at.entry ∙ ap (λ n. Zero (Some (n, true))) (sym place)
          ),
      (
          let e : (cluster_of h p + i) * cluster_size h ≡ (cluster_of h p + i) * cluster_size h + 0 = omega arith in
          let none : (cluster_of h p + i) * cluster_size h % cluster_size h ≡ 0 = ap (λ o. o % cluster_size h) e ∙ mod-mul-add (cluster_of h p + i) (cluster_size h) 0 (pow_pos h.cluster_bits) in
          omega arith
          ),
    )
    no_table_as (New taken old_data) is entered at = beside_tables s HostedHeld 0 host sound.file.caches.kept.kept.crash_invariant (inside_of sound) (new_data_there taken old_data is at)

    takes_as : (x : ClusterMapping) → cluster_mapping ≡ x → IsTrue (is_entered x) → IsClusterMappingAt h out.place s.known s.on_storage p i x → Takes h before.new_data (cover h s.known (guest_at h row column)) (Data host true)
    takes_as InPlace is entered at = absurd (let e : false ≡ true = entered in cc)
    takes_as Kept is entered at = (takes_own h before.new_data (cover h s.known (guest_at h row column)) host host_aligned (ap copied_host (ap (cover h s.known) guest_is ∙ at.entry) ∙ ap Some (sym place))).0
    takes_as (New taken old_data) is entered at = takes_new_data s (guest_at h row column) host sound.file.caches.kept.kept.crash_invariant host_aligned (new_data_there taken old_data is at)

    -- it isn't the header's
    host_real : host ≡ 0 → ⊥
    host_real none =
        let parts = shares h s.on_storage (host / cluster_size h) in
        let one : in_cluster h (host / cluster_size h) host ≡ 1 = in_own h host in
        let zero : in_cluster h (host / cluster_size h) 0 ≡ 1 = ap (in_cluster h (host / cluster_size h)) (sym none) ∙ one in
        let no_table = no_table_as cluster_mapping refl is_entered_now stands in
        absurd (omega arith)

    host_fits : IsEntryHost (has_data_file h) host
    host_fits = cluster_is_host h.cluster_bits first (has_data_file h) sound.file.caches.kept.kept.crash_invariant.top.header_reads.well_formed.in_range.cluster_bits.0 nameable (λ none. absurd (host_real (ap (λ c. c * cluster_size h) none ∙ omega arith)))

    abbrev covers_host : entry_cover h (copied_entry host) ≡ Data host true
    covers_host = cover_of-copied_entry h.cluster_bits (h.version == 3) (has_data_file h) host host_fits

    covered : cover h known (guest_at h row column) ≡ Data host true
    covered = cover_now s known row column (copied_entry host) sound.file.caches.kept.kept.crash_invariant at_entry.real at_entry.within entry.change ∙ covers_host

    changes : EntryChanges s known row column
    changes = known_entry_changes s known row column (copied_entry host) sound.file.caches.kept.kept.crash_invariant at_entry.real at_entry.within entry.change
        (subst (λ v. Takes h before.new_data (cover h s.known (guest_at h row column)) v) (sym covers_host) (takes_as cluster_mapping refl is_entered_now stands)) (stands_inside h (guest_at h row column) (entry_cover h (copied_entry host)) sound.stands.inside)

    abbrev values : Bytes → ℕ → Value
    values below o = known_byte (s.on_storage (host + o % cluster_size h))

    -- what is pending then
    record Made : Type 0 where
      after : Pending
      mapped : Maps (guest_at h row column) s (record s { pending = after; known = known }) values
      new_data : (c : ℕ) → after.new_data c + new_data_in (cluster_mapping ∷ []) c ≡ before.new_data c
      new_tables : (c : ℕ) → after.new_tables c ≡ 0
      old_tables : (c : ℕ) → after.old_tables c ≡ before.old_tables c + to_free of_tables (old_data_by cluster_mapping) c
      old_data : (c : ℕ) → after.old_data c ≡ before.old_data c + to_free of_data (old_data_by cluster_mapping) c
      surplus : after.surplus ≡ before.surplus

    made_as : (x : ClusterMapping) → cluster_mapping ≡ x → IsTrue (is_entered x) → IsClusterMappingAt h out.place s.known s.on_storage p i x → Made
    made_as InPlace is entered at = absurd (let e : false ≡ true = entered in cc)
    made_as Kept is entered at = record {
      after = before;
      mapped = kept_committed s known row column host sound.file.caches.kept.kept.crash_invariant (inside_of sound) changes (ap (cover h s.known) guest_is ∙ at.entry ∙ ap (λ n. Zero (Some (n, true))) (sym place)) covered;
      new_data = λ c. let none : new_data_in (cluster_mapping ∷ []) c ≡ 0 = ap (λ (x : ClusterMapping). new_data_in (x ∷ []) c) is in omega arith;
      new_tables = λ c. refl;
      old_tables = λ c. let none : to_free of_tables (old_data_by cluster_mapping) c ≡ 0 = ap (λ (x : ClusterMapping). to_free of_tables (old_data_by x) c) is in omega arith;
      old_data = λ c. let none : to_free of_data (old_data_by cluster_mapping) c ≡ 0 = ap (λ (x : ClusterMapping). to_free of_data (old_data_by x) c) is in omega arith;
      surplus = refl;
    }
    made_as (New taken old_data) is entered at =
        let new_data_host = new_data_there taken old_data is at in
        record {
          after = pending_after s known (guest_at h row column);
          mapped = private_committed s known row column sound.file.caches.kept.kept.crash_invariant changes (inside_of sound) host covered new_data_host;
          new_data = λ c.
              let left = committed_new_data s known row column sound.file.caches.kept.kept.crash_invariant changes (inside_of sound) host covered new_data_host c in
              let one = mine taken old_data is at c in
              let less = new_data_less p.clusters.items i cluster_mapping was c in
              let all = over_all_at new_data_by out k p placed c in
              omega arith;
          new_tables = λ c. refl;
          old_tables = λ c. let none : to_free of_tables (old_data_by cluster_mapping) c ≡ 0 = ap (λ (x : ClusterMapping). to_free of_tables (old_data_by x) c) is ∙ ap (λ l. to_free of_tables l c) at.drops ∙ listed_tables (named_run h.cluster_bits (cover h s.known (cluster_of h p + i))) c in omega arith;
          old_data = λ c.
              let more = committed_old_data s known row column sound.file.caches.kept.kept.crash_invariant changes (inside_of sound) host covered new_data_host c in
              let named : names h s.known c (guest_at h row column) ≡ run_has (named_run h.cluster_bits (cover h s.known (cluster_of h p + i))) c = ap (names h s.known c) guest_is ∙ names_inside h (inside_of sound) s.known c (cluster_of h p + i) ∙ named_by_cover-run (cover h s.known (cluster_of h p + i)) h c at.reach in
              let gone : to_free of_data (old_data_by cluster_mapping) c ≡ run_has (named_run h.cluster_bits (cover h s.known (cluster_of h p + i))) c =
              ap (λ (x : ClusterMapping). to_free of_data (old_data_by x) c) is ∙ ap (λ l. to_free of_data l c) at.drops ∙ listed_has (named_run h.cluster_bits (cover h s.known (cluster_of h p + i))) c in
              omega arith;
          surplus = refl;
        }

    made : Made
    made = made_as cluster_mapping refl is_entered_now stands

    abbrev final : Qcow2 S F
    final = record old { file = record old.file { caches = caches; free_list = old.file.free_list ++ old_data_by cluster_mapping } }

    same_stand : state_in view final.file made.after ≡ record s { pending = made.after; known = known }
    same_stand = ap (λ d. record s { pending = made.after; direction = d; known = known }) order

    abbrev given : Bytes → List GivenBytes
    given below = given_shown (disk known below) (guest_at h row column * cluster_size h) (guest_at h row column * cluster_size h + cluster_size h) ∷ []

    safe_step : SafeStep s (state_in view final.file made.after) given []
    safe_step = subst (λ x. SafeStep s x given []) (sym same_stand) made.mapped.safe_step

    -- ---- mappings are ready
    -- an L1 entry stays
    same_l1 : (l : ℕ) → l1_entry h known l ≡ l1_entry h s.known l
    same_l1 l = sym (safe_step.sound.same_top.l1 l) ∙ sound.file.caches.kept.kept.crash_invariant.same_top.l1 l

    still_other : (j : ℕ) (r : Prepared) → (j ≡ k → ⊥) → slice_get out.slots j ≡ Some (Some r) → (x : Option ℕ) → r.table ≡ x → IsReadyWith h out.place s.known s.on_storage r x → IsReadyWith h out.place known s.on_storage r x
    still_other j r apart there None is ready = ready
    still_other j r apart there (Some u) is ready =
        still_pending h out.place s.known s.on_storage known s.on_storage r sound.file.caches.kept.kept.crash_invariant.same_top.l1 safe_step.sound.same_top.l1 (λ l copied. refl) u
        (λ b other at. still_mapping h out.place s.known s.on_storage known s.on_storage r b
        (made.mapped.unseen.covers (cluster_of h r + b) (λ same. apart_guests view backing old out before sound k p placed t is_table pending j r apart there u is ready i b within (slice_get_within r.clusters.items b other at) (sym guest_is ∙ sym same))) other (ready.each b other at)) ready

    mapping_left : (l : ℕ) (x : ClusterMapping) → slice_get q.clusters.items l ≡ Some x → IsClusterMappingAt h out.place known s.on_storage q l x
    mapping_left l x at = elim (cases_eq l i) [
      | inl here ↦
          let e : Some x ≡ Some InPlace = sym at ∙ ap (λ (y : List ClusterMapping). slice_get y l) items ∙ ap (slice_get (slice_set p.clusters.items i InPlace)) here ∙ get_set_same p.clusters.items i InPlace cluster_mapping was in
          let same : x ≡ InPlace = cc in
          subst (λ (y : ClusterMapping). IsClusterMappingAt h out.place known s.on_storage q l y) (sym same)
          (ap (λ n. cover h known (cluster_of h p + n)) here ∙ ap (cover h known) (sym guest_is) ∙ covered ∙ ap (λ n. Data n true) (place ∙ ap (host_begin_of h p) (sym here)))
      | inr other ↦
          let there : slice_get p.clusters.items l ≡ Some x = sym (get_set_other p.clusters.items i l InPlace other) ∙ ap (λ (y : List ClusterMapping). slice_get y l) (sym items) ∙ at in
          left_as x (still_mapping h out.place s.known s.on_storage known s.on_storage p l (made.mapped.unseen.covers (cluster_of h p + l) (λ same. other (let e = guest_is in omega arith))) x (pending.each l x there))
    ] where
      left_as : (x : ClusterMapping) → IsClusterMappingAt h out.place known s.on_storage p l x → IsClusterMappingAt h out.place known s.on_storage q l x
      left_as InPlace at = at
      left_as Kept at = record { first = at.first; place = at.place; nameable = at.nameable; entry = at.entry }
      left_as (New taken old_data) at = record { first = at.first; is = at.is; place = at.place; nameable = at.nameable; entry = at.entry; reach = at.reach; drops = at.drops }

    as_many : length q.clusters.items ≡ length p.clusters.items
    as_many = ap (λ (l : List ClusterMapping). length l) items ∙ length_set p.clusters.items i InPlace

    left_pending : IsPending h out.place known s.on_storage q t
    left_pending =
        let there : table_at h known row ≡ table_at h s.known row = ap host_offset (same_l1 row) in
        record {
          some = pending.some;
          begins = pending.begins;
          enough = subst (λ n. p.guest % cluster_size h + p.length ≤ n * cluster_size h) (sym as_many) pending.enough;
          no_more = subst (λ n. n * cluster_size h < p.guest % cluster_size h + p.length + cluster_size h) (sym as_many) pending.no_more;
          within = subst (λ n. cluster_of h p % entries_per_cluster h + n ≤ entries_per_cluster h) (sym as_many) pending.within;
          named = record { real = λ none. pending.named.real (sym there ∙ none); place = there ∙ pending.named.place; within = pending.named.within };
          copied = pending.copied;
          each = mapping_left;
        }

    ready_now : (j : ℕ) (r : Prepared) → slice_get now.slots j ≡ Some (Some r) → IsReady view backing out.place final r
    ready_now j r at = elim (cases_eq j k) [
      | inl here ↦
          let e : Some (Some r) ≡ Some (Some q) = sym at ∙ ap (slice_get now.slots) here ∙ get_set_same slots k (Some q) (Some p) placed in
          let same : r ≡ q = cc in
          subst (λ (x : Prepared). IsReady view backing out.place final x) (sym same)
          (record { own = (sound.ready k p placed).own; mapped = subst (IsReadyWith h out.place known s.on_storage q) (sym is_table) left_pending })
      | inr other ↦
          let there : slice_get out.slots j ≡ Some (Some r) = sym (get_set_other slots k j (Some q) other) ∙ at in
          let ready = sound.ready j r there in
          record { own = ready.own; mapped = still_other j r other there r.table refl ready.mapped }
    ]

    same_pins : (table : ℕ) → over_all pins_by now table ≡ over_all pins_by out table
    same_pins table = let all = over_all_set pins_by out k p q placed table in omega arith

    enters_sound : ImageInvariant view backing made.after final now
    enters_sound = record {
      works = sound.works;
      file = file_invariant_of
          sound.file.honest
          (entry.sound made.after sound.file.named_blocks (subst (λ d. CrashInvariant h d made.after s.on_storage known) (sym order) made.mapped.safe_step.sound))
          (entry.named_blocks sound.file.named_blocks)
          (marks.room sound.file.room);
      l1_table = record { cluster = sound.l1_table.cluster; bits = sound.l1_table.bits; count = sound.l1_table.count; entries = sound.l1_table.entries };
      reftable = reftable_still view old.file final.file refl refl (counts_now s known row column (copied_entry host) sound.file.caches.kept.kept.crash_invariant at_entry.real at_entry.within entry.change) old.allocator sound.reftable;
      stands = sound.stands;
      below = sound.below;
      ready = ready_now;
      pinned = λ table. marks.pins table ∙ sound.pinned table ∙ sym (same_pins table);
      once = λ table. subst (λ n. n ≤ 1) (sym (same_pins table)) (sound.once table);
    }

    steps : Steps view backing old final out now given made.after
    steps = record {
      sound = enters_sound;
      only = record {
        new_data = λ c.
            let all = over_all_set new_data_by out k p q placed c in
            let less = new_data_less p.clusters.items i cluster_mapping was c in
            let mine : new_data_by q c ≡ new_data_in (slice_set p.clusters.items i InPlace) c = ap (λ (l : List ClusterMapping). new_data_in l c) items in
            let left = made.new_data c in
            omega arith;
        new_tables = made.new_tables;
        old_tables = λ c. let more = free_more of_tables old.file.free_list (old_data_by cluster_mapping) c in let is = made.old_tables c in omega arith;
        old_data = λ c. let more = free_more of_data old.file.free_list (old_data_by cluster_mapping) c in let is = made.old_data c in omega arith;
      };
      safe_step = safe_step;
      since = entry_safe_throughout (view_in view old.file) s (state_in view final.file made.after) row column given refl changes safe_step;
      header = refl;
      below = refl;
      surplus = made.surplus;
      leaks = refl;
      beside = ungiven_stay view old.file final.file before made.after sound.file.caches.kept.kept.crash_invariant safe_step.sound (given (backing_bytes view backing old.backing)) (λ g untouched. made.mapped.unseen.covers g (λ same. untouched.0 (touches_own (cluster_size h) (pow_pos h.cluster_bits) (guest_at h row column) g same)));
    }

    -- ---- what it shows
    abbrev m : PreparedMapping
    m = meaning view backing out.place old p

    abbrev below : Bytes
    below = backing_bytes view backing old.backing

    abbrev d : Disk
    d = disk s.known below

    -- its guest cluster is in place
    pub mine_in_place : (o : ℕ) → o / cluster_size h ≡ cluster_of h p + i → is_private view backing final q o ≡ false
    mine_in_place o here = private_is view backing final q o i InPlace here (ap (λ (l : List ClusterMapping). slice_get l i) items ∙ get_set_same p.clusters.items i InPlace cluster_mapping was)

    was_private : (o : ℕ) → o / cluster_size h ≡ cluster_of h p + i → IsTrue (is_private view backing old p o)
    was_private o here = private_is view backing old p o i cluster_mapping here was ∙ is_entered_now

    others_same : (o : ℕ) → o / cluster_size h ≢ cluster_of h p + i → is_private view backing final q o ≡ is_private view backing old p o
    others_same o other = ap (λ x. option_map_or is_entered x false) (mapping_same h p q i refl items (o / cluster_size h) other)

    disk_here : (o : ℕ) → o / cluster_size h ≡ cluster_of h p + i → (disk known below).value o ≡ (committed d m).value o
    disk_here o here =
        let private = was_private o here in
        ap (λ (x : Disk). x.value o) (made.mapped.shows below) ∙ cond-true _ _ _ (eq-eqb _ _ (here ∙ sym guest_is))
        ∙ ap (λ n. known_byte (s.on_storage n)) (ap (λ n. n + o % cluster_size h) place ∙ sym (place_in h p o i here))
        ∙ sym (cond-true _ _ _ private ∙ ap known_byte (cond-true _ _ _ private))

    disk_other : (o : ℕ) → o / cluster_size h ≢ cluster_of h p + i → (disk known below).value o ≡ d.value o
    disk_other o other = ap (λ (x : Disk). x.value o) (made.mapped.shows below) ∙ cond-false _ _ _ (ne_eqb _ _ (λ e. other (e ∙ guest_is)))

    private_left : (o : ℕ) → IsTrue (is_private view backing final q o) → IsTrue (is_private view backing old p o) × ((meaning view backing out.place final q).shown o ≡ m.shown o) × ((disk known below).value o ≡ d.value o)
    private_left o private = elim (cases_eq (o / cluster_size h) (cluster_of h p + i)) [
      | inl here ↦ absurd (let e : true ≡ false = sym private ∙ mine_in_place o here in cc)
      | inr other ↦
          let before_too : IsTrue (is_private view backing old p o) = sym (others_same o other) ∙ private in
          (before_too, ap known_byte (cond-true _ _ _ private ∙ sym (cond-true _ _ _ before_too)), disk_other o other)
    ]

    visible_now : (o : ℕ) → is_private view backing final q o ≡ false → (disk known below).value o ≡ (committed d m).value o
    visible_now o isnt = elim (cases_eq (o / cluster_size h) (cluster_of h p + i)) [
      | inl here ↦ disk_here o here
      | inr other ↦ disk_other o other ∙ sym (cond-false _ _ _ (sym (others_same o other) ∙ isnt))
    ]

    shows_part : ShowsPart (guest_of (abstract_of view backing old out)) (guest_of (abstract_of view backing final now)) k m (meaning view backing out.place final q)
    shows_part = record {
      slots = λ j. slot_set (meaning view backing out.place old) slots k (Some q) (Some p) placed j;
      size = ap (λ (x : Disk). x.size) (made.mapped.shows below);
      from = refl;
      length = refl;
      private = private_left;
      visible = visible_now;
    }

    -- a mapping that is out has bytes, so it gives up to the end of its clusters
    whole_count : (if m.length == 0 then first_of (cluster_size h) m else end_of (cluster_size h) m) ≡ end_of (cluster_size h) m
    whole_count = cond-false (m.length == 0) (first_of (cluster_size h) m) (end_of (cluster_size h) m) (ne_eqb m.length 0 (λ none. absurd (let some = pending.some in omega (arith, some, none))))

    -- what it gives is of what the whole mapping gives
    gives_less : (o : ℕ) (v : Value) → IsGiven (given below) o v → (v ≡ d.value o) ⊎ IsGiven (given_by_commit (cluster_size h) d m ∷ []) o v
    gives_less o v (inr never) = absurd never
    gives_less o v (inl is) =
        let lt = within in
        let all = whole_count in
        let some : 0 < cluster_size h = pow_pos h.cluster_bits in
        let g = guest_is in
        let at : guest_at h row column * cluster_size h ≡ (cluster_of h p + i) * cluster_size h = ap (λ n. n * cluster_size h) g in
        let r : (cluster_of h p + i) * cluster_size h ≡ cluster_of h p * cluster_size h + i * cluster_size h = omega arith in
        let end = ends_at h s.known s.on_storage p t pending in
        let more : length p.clusters.items ≡ i + 1 + (length p.clusters.items - i - 1) = omega arith in
        let span : (cluster_of h p + length p.clusters.items) * cluster_size h ≡ (cluster_of h p + (i + 1 + (length p.clusters.items - i - 1))) * cluster_size h = ap (λ n. (cluster_of h p + n) * cluster_size h) more in
        let parts : (cluster_of h p + (i + 1 + (length p.clusters.items - i - 1))) * cluster_size h ≡ cluster_of h p * cluster_size h + i * cluster_size h + cluster_size h + (length p.clusters.items - i - 1) * cluster_size h = omega arith in
        let from = is.0 in
        let to = is.1 in
        let o_is : o ≡ (cluster_of h p + i) * cluster_size h + (o - (cluster_of h p + i) * cluster_size h) = omega arith in
        let here : o / cluster_size h ≡ cluster_of h p + i = ap (λ n. n / cluster_size h) o_is ∙ div-mul-add (cluster_of h p + i) (cluster_size h) (o - (cluster_of h p + i) * cluster_size h) (omega arith) in
        let back : guest_at h row column * cluster_size h + (o - guest_at h row column * cluster_size h) ≡ o = omega arith in
        let back_all : cluster_of h p * cluster_size h + (o - cluster_of h p * cluster_size h) ≡ o = omega arith in
        inr (inl (omega arith, omega arith, is.2 ∙ ap (λ n. (disk known below).value n) back ∙ disk_here o here ∙ ap (λ n. (committed d m).value n) (sym back_all)))

    touches_fewer : TouchesLess (cluster_size h) (given below) (given_by_commit (cluster_size h) d m ∷ [])
    touches_fewer =
        let lt = within in
        let g = guest_is in
        let at : guest_at h row column * cluster_size h ≡ (cluster_of h p + i) * cluster_size h = ap (λ n. n * cluster_size h) g in
        let r : (cluster_of h p + i) * cluster_size h ≡ cluster_of h p * cluster_size h + i * cluster_size h = omega arith in
        let end = ends_at h s.known s.on_storage p t pending in
        let more : length p.clusters.items ≡ i + 1 + (length p.clusters.items - i - 1) = omega (arith, lt) in
        let span : (cluster_of h p + length p.clusters.items) * cluster_size h ≡ (cluster_of h p + (i + 1 + (length p.clusters.items - i - 1))) * cluster_size h = ap (λ n. (cluster_of h p + n) * cluster_size h) more in
        let parts : (cluster_of h p + (i + 1 + (length p.clusters.items - i - 1))) * cluster_size h ≡ cluster_of h p * cluster_size h + i * cluster_size h + cluster_size h + (length p.clusters.items - i - 1) * cluster_size h = omega arith in
        let all = whole_count in touches_part (cluster_size h) _ _ _ _ (omega (arith, at, r)) (omega (arith, at, r, end, span, parts, all))

    -- it is none of those beside the mapping
    beside_mine : (g : ℕ) → (g < p.guest / cluster_size h) ⊎ (p.guest + p.length ≤ g * cluster_size h) → g ≡ cluster_of h p + i → ⊥
    beside_mine g (inl below) is = omega (arith, below, is)
    beside_mine g (inr past) is =
        let lt = within in
        let none = pending.no_more in
        let f : p.guest / cluster_size h * cluster_size h + p.guest % cluster_size h ≡ p.guest = div-add-mod' p.guest (cluster_size h) in
        let at : g * cluster_size h ≡ (cluster_of h p + i) * cluster_size h = ap (λ n. n * cluster_size h) is in
        let r : (cluster_of h p + i) * cluster_size h ≡ cluster_of h p * cluster_size h + i * cluster_size h = omega arith in
        let more : length p.clusters.items ≡ i + 1 + (length p.clusters.items - i - 1) = omega (arith, lt) in
        let span : length p.clusters.items * cluster_size h ≡ (i + 1 + (length p.clusters.items - i - 1)) * cluster_size h = ap (λ n. n * cluster_size h) more in
        let parts : (i + 1 + (length p.clusters.items - i - 1)) * cluster_size h ≡ i * cluster_size h + cluster_size h + (length p.clusters.items - i - 1) * cluster_size h = omega arith in
        omega (arith, none, f, at, r, span, parts, past)

    enters_q : CommitsPart view backing old final out k p q
    enters_q = record {
      works = works_less (abstract_of view backing old out) (abstract_of view backing final now) (given below) (given_by_commit (cluster_size h) d m ∷ []) [] gives_less touches_fewer (stepped_works view backing old final out now given made.after steps);
      sound = stepped_sound view backing old final out now given made.after steps;
      shows = shows_part;
      beside = λ g outside. made.mapped.unseen.covers g (λ same. beside_mine g outside (same ∙ guest_is));
    }

    -- so it is of the mapping that is left
    pub enters_part : (left : Prepared) → left ≡ q → (new : Qcow2 S F) → new ≡ final → CommitsPart view backing old new out k p left
    enters_part left is new same = subst (λ (x : Qcow2 S F). CommitsPart view backing old x out k p left) (sym same) (subst (λ (x : Prepared). CommitsPart view backing old final out k p x) (sym is) enters_q)

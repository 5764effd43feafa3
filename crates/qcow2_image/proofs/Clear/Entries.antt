-- An entry of a cached table is cleared: the new mapping of its guest cluster, the references that it loses, and that everything else stays the same.
use Rattle.std.proofs.Common.{◌≡◌, ◌+◌, ◌*◌, ◌/◌, ◌%◌, ◌<◌, ◌≤◌, ◌==◌, ◌&&◌, ◌≢◌, inl, inr, ℕ, Bool, true, false, List, length, Option, Some, None, refl, sym, ap, ◌∙◌, subst, arith, cond, IsSome, IsTrue}
use Rattle.qcow2_laws.proofs.BesideSteps.{stands_inside}
use Rattle.qcow2_image.proofs.Common.{slice_get, eq-eqb, div-mul-add, slice_get_within, BackingView, StorageView, Bytes, HeaderFields, L2Mapping, Data, Zero, Compressed, cluster_size, entries_per_cluster, has_data_file, cover, cover_of, entry_cover, is_copied, l1_entry, l2_entry, host_offset, count, CoverIsAligned, IsInReach, named_run, is_same_run, old_data_run, copied_host, copied_kept, zero_cover, named_by_cover, copied_host_is, cover_of-0, cover_of-zero_entry, named_by_cover-run, Pending, CrashInvariant, IsZeros, MapsEntry, names, table_at, DriverState, StateInvariant, guest_at, EntryChanges, SameOtherCovers, Takes, takes_nothing, takes_own, entry_uncovered, entry_zeroed, pending_after, Sizes-from, cover_at, l2_pins, MetadataCaches, state_in, contents_in, known_in, IsEntryAt, MadeEntry, known_of, l2_at, own_cluster, file_invariant_of, ClearsEntry, cover_once_cleared, cleared_entry, is_cleared, needs_zero_entries, ClearMode, Zeros, KeptZeros, Qcow2, Prepared, ImageInvariant, IsPending, IsReadyWith, cluster_of, listed_run, of_data, pins_by, to_free, Mappings}
use Rattle.qcow2_metadata.specs.declared.l2_mapping.L2Mapping.TheVariants as M
use Rattle.qcow2_metadata.specs.L2Mapping.{run_has}
use Rattle.qcow2_image.specs.declared.discarding.ClearMode.TheVariants.{Uncovered}
use Rattle.qcow2_image.proofs.Images.Inside.{names_inside}
use Rattle.qcow2_image.proofs.Images.Apart.{pins_own, same_row}
use Rattle.qcow2_image.proofs.Commit.Committing.{cover_now, known_entry_changes, listed_has, counts_now}
use Rattle.qcow2_image.proofs.Open.Reftables.{reftable_still}
use Rattle.qcow2_image.proofs.Images.Ready.{still_pending, still_mapping}
use Rattle.qcow2_image.proofs.Images.ClusterMappings.{over_all_at}
use Rattle.qcow2_image.proofs.Images.Places.{inside_of}

zeros_are : (kept : Option ℕ) → IsZeros (zero_cover kept)
zeros_are None = tt
zeros_are (Some host) = tt

pub cleared_is : (how : ClearMode) (v : L2Mapping) → is_cleared how (cover_once_cleared how v)
cleared_is Uncovered v = refl
cleared_is Zeros v = tt
cleared_is KeptZeros v = zeros_are (copied_host v)

-- ---- what is named no longer
same_self : (run : Option (ℕ × ℕ)) → is_same_run run run ≡ true
same_self None = refl
same_self (Some r) = let a = eq-eqb r.0 r.0 refl in let b = eq-eqb r.1 r.1 refl in ap (λ x. x && r.1 == r.1) a ∙ b

-- all that was named
all_old_data : (run : Option (ℕ × ℕ)) (c : ℕ) → run_has (cond (is_same_run run None) None run) c ≡ run_has run c
all_old_data None c = refl
all_old_data (Some r) c = refl

module _ (h : HeaderFields) (c : ℕ) where
  -- it names nothing then
  gone : (v w : L2Mapping) → IsInReach v → named_run h.cluster_bits w ≡ None → named_by_cover h c w ≡ 0 → named_by_cover h c v ≡ named_by_cover h c w + run_has (old_data_run h.cluster_bits v w) c
  gone v w reach none unnamed =
      let is = named_by_cover-run v h c reach in
      let all : run_has (old_data_run h.cluster_bits v w) c ≡ run_has (named_run h.cluster_bits v) c =
      ap (λ r. run_has (cond (is_same_run (named_run h.cluster_bits v) r) None (named_run h.cluster_bits v)) c) none ∙ all_old_data (named_run h.cluster_bits v) c in
      omega arith

  -- it names what it named
  same : (v w : L2Mapping) → named_run h.cluster_bits w ≡ named_run h.cluster_bits v → named_by_cover h c w ≡ named_by_cover h c v → named_by_cover h c v ≡ named_by_cover h c w + run_has (old_data_run h.cluster_bits v w) c
  same v w runs names =
      let none : run_has (old_data_run h.cluster_bits v w) c ≡ 0 =
      ap (λ r. run_has (cond (is_same_run (named_run h.cluster_bits v) r) None (named_run h.cluster_bits v)) c) runs ∙ (ap (λ b. run_has (cond b None (named_run h.cluster_bits v)) c) (same_self (named_run h.cluster_bits v))) in
      omega arith

  kept_by : (place : ℕ) (checkpoint : Bool) (k : ℕ × Bool) → k ≡ (place, checkpoint) → IsInReach (Zero (Some k)) → named_by_cover h c (Zero (Some k)) ≡ named_by_cover h c (zero_cover (copied_kept (Some k))) + run_has (old_data_run h.cluster_bits (Zero (Some k)) (zero_cover (copied_kept (Some k)))) c
  kept_by place true k is reach =
      subst (λ (x : ℕ × Bool). named_by_cover h c (Zero (Some x)) ≡ named_by_cover h c (zero_cover (copied_kept (Some x))) + run_has (old_data_run h.cluster_bits (Zero (Some x)) (zero_cover (copied_kept (Some x)))) c) (sym is)
      (same (Zero (Some (place, true))) (Zero (Some (place, true))) refl refl)
  kept_by place false k is reach =
      subst (λ (x : ℕ × Bool). named_by_cover h c (Zero (Some x)) ≡ named_by_cover h c (zero_cover (copied_kept (Some x))) + run_has (old_data_run h.cluster_bits (Zero (Some x)) (zero_cover (copied_kept (Some x)))) c) (sym is)
      (gone (Zero (Some (place, false))) (Zero None) (subst (λ (x : ℕ × Bool). IsInReach (Zero (Some x))) is reach) refl refl)

  kept_zeros : (v : L2Mapping) → IsInReach v → named_by_cover h c v ≡ named_by_cover h c (zero_cover (copied_host v)) + run_has (old_data_run h.cluster_bits v (zero_cover (copied_host v))) c
  kept_zeros (Data host true) reach = same (Data host true) (Zero (Some (host, true))) refl refl
  kept_zeros (Data host false) reach = gone (Data host false) (Zero None) reach refl refl
  kept_zeros (Zero None) reach = gone (Zero None) (Zero None) reach refl refl
  kept_zeros (Zero (Some k)) reach = kept_by k.0 k.1 k refl reach
  kept_zeros (Compressed place sectors) reach = gone (Compressed place sectors) (Zero None) reach refl refl
  kept_zeros M.Uncovered reach = gone M.Uncovered (Zero None) reach refl refl

  -- what was named is named still, or is dropped
  pub names_cleared : (how : ClearMode) (v : L2Mapping) → IsInReach v → named_by_cover h c v ≡ named_by_cover h c (cover_once_cleared how v) + run_has (old_data_run h.cluster_bits v (cover_once_cleared how v)) c
  names_cleared Uncovered v reach = gone v M.Uncovered reach refl refl
  names_cleared Zeros v reach = gone v (Zero None) reach refl refl
  names_cleared KeptZeros v reach = kept_zeros v reach

-- ---- what a cleared entry says
entry_says : (how : ClearMode) (bits : ℕ) (has_zero external : Bool) (e : ℕ) → (IsTrue (needs_zero_entries how) → has_zero ≡ true)
    → cover_of bits has_zero external (cleared_entry how (cover_of bits has_zero external e)) ≡ cover_once_cleared how (cover_of bits has_zero external e)
entry_says Uncovered bits has_zero external e zeros = cover_of-0 bits has_zero external
entry_says Zeros bits has_zero external e zeros = ap (λ z. cover_of bits z external 1) (zeros refl) ∙ cover_of-zero_entry bits external None tt
entry_says KeptZeros bits has_zero external e zeros =
    ap (λ z. cover_of bits z external (cleared_entry KeptZeros (cover_of bits has_zero external e))) (zeros refl) ∙ cover_of-zero_entry bits external (copied_host (cover_of bits has_zero external e)) (copied_host_is bits has_zero external e)

-- the host cluster that is kept is aligned
kept_aligned : (h : HeaderFields) (v : L2Mapping) (host : ℕ) → CoverIsAligned h v → copied_host v ≡ Some host → host % cluster_size h ≡ 0
kept_aligned h (Data place true) host aligned is = let e : place ≡ host = cc in subst (λ n. n % cluster_size h ≡ 0) e aligned
kept_aligned h (Zero (Some k)) host aligned is = by_mark k.0 k.1 aligned is where
  by_mark : (place : ℕ) (checkpoint : Bool) → place % cluster_size h ≡ 0 → cond checkpoint (Some place) None ≡ Some host → host % cluster_size h ≡ 0
  by_mark place true at e = let p : place ≡ host = cc in subst (λ n. n % cluster_size h ≡ 0) p at
  by_mark place false at e = absurd cc
kept_aligned h _ host aligned is = absurd cc

takes_kept : (h : HeaderFields) (new_data : ℕ → ℕ) (v : L2Mapping) (kept : Option ℕ) → copied_host v ≡ kept → CoverIsAligned h v → Takes h new_data v (zero_cover kept)
takes_kept h new_data v None is aligned = (takes_nothing h new_data v).1
takes_kept h new_data v (Some host) is aligned = (takes_own h new_data v host (kept_aligned h v host aligned is) is).1

takes_cleared : (how : ClearMode) (h : HeaderFields) (new_data : ℕ → ℕ) (v : L2Mapping) → CoverIsAligned h v → Takes h new_data v (cover_once_cleared how v)
takes_cleared Uncovered h new_data v aligned = (takes_nothing h new_data v).0
takes_cleared Zeros h new_data v aligned = (takes_nothing h new_data v).1
takes_cleared KeptZeros h new_data v aligned = takes_kept h new_data v (copied_host v) refl aligned

-- ---- one entry of a sound image

-- one guest cluster is cleared: how it is mapped then, that no other is mapped else, and what is pending
pub record OneCleared {S F : Type 0} (view : S → StorageView) (backing : F → BackingView) (how : ClearMode) (row column : ℕ) (a c : Qcow2 S F) (out : Mappings) (p : Pending) : Type 0 where
  pub now : Pending
  pub sound_now : ImageInvariant view backing now c out
  pub turn : MapsEntry (is_cleared how) (guest_at a.file.header.fields row column) (state_in view a.file p) (state_in view c.file now)
  pub cleared : cover a.file.header.fields (known_in view c.file) (guest_at a.file.header.fields row column) ≡ cover_once_cleared how (cover a.file.header.fields (known_in view a.file) (guest_at a.file.header.fields row column))
  pub stays : (g : ℕ) → g ≢ guest_at a.file.header.fields row column → cover a.file.header.fields (known_in view a.file) g ≡ cover a.file.header.fields (known_in view c.file) g
  pub table_stays : table_at a.file.header.fields (known_in view c.file) row ≡ table_at a.file.header.fields (known_in view a.file) row
  pub counts : (k : ℕ) → count a.file.header.fields (known_in view a.file) k ≡ count a.file.header.fields (known_in view c.file) k
  pub new_data : IsInReach (cover a.file.header.fields (known_in view a.file) (guest_at a.file.header.fields row column)) → (k : ℕ) → now.new_data k ≡ p.new_data k
  pub new_tables : (k : ℕ) → now.new_tables k ≡ p.new_tables k
  pub old_tables : (k : ℕ) → now.old_tables k ≡ p.old_tables k
  pub surplus : now.surplus ≡ p.surplus
  pub old_data : IsInReach (cover a.file.header.fields (known_in view a.file) (guest_at a.file.header.fields row column)) → (k : ℕ) → now.old_data k ≡ p.old_data k
      + to_free of_data (listed_run (old_data_run a.file.header.fields.cluster_bits (cover a.file.header.fields (known_in view a.file) (guest_at a.file.header.fields row column)) (cover_once_cleared how (cover a.file.header.fields (known_in view a.file) (guest_at a.file.header.fields row column))))) k

module _ {S F : Type 0} (view : S → StorageView) (backing : F → BackingView) (a : Qcow2 S F) (out : Mappings) (p : Pending) (sound : ImageInvariant view backing p a out) (how : ClearMode) (t row column : ℕ)
    (at : IsEntryAt a.file.header.fields (known_in view a.file) row t column) (copied : is_copied (l1_entry a.file.header.fields (contents_in view a.file) row) ≡ true) (found : IsSome (l2_at a.file.caches t)) (unpinned : l2_pins a.file.caches t ≡ 0)
    (version : IsTrue (needs_zero_entries how) → 3 ≤ a.file.header.fields.version) (b : Qcow2 S F) (clears : ClearsEntry how t column a b) where
  abbrev h : HeaderFields
  h = a.file.header.fields

  abbrev s : DriverState
  s = state_in view a.file p

  abbrev caches : MetadataCaches S
  caches = b.file.caches

  abbrev known : Bytes
  known = known_of h caches s.on_storage

  abbrev guest : ℕ
  guest = guest_at h row column

  abbrev old : L2Mapping
  old = cover h s.known guest

  crash_invariant : StateInvariant s
  crash_invariant = sound.file.caches.kept.kept.crash_invariant

  abbrev word : ℕ
  word = l2_entry s.known (table_at h s.known row) column

  entry : MadeEntry h a.file.caches caches s.on_storage row column (cleared_entry how (entry_cover h word)) clears.answer
  entry = clears.cleared h p s.on_storage row sound.file.caches at copied found

  cover_was : cover h s.known guest ≡ entry_cover h word
  cover_was = cover_at h s.known row column (Sizes-from h s.on_storage crash_invariant.top.header_reads) at.real at.within

  is_third : IsTrue (needs_zero_entries how) → (h.version == 3) ≡ true
  is_third needs = elim crash_invariant.top.header_reads.well_formed.in_range.version [
    | inl second ↦ absurd (let least = version needs in omega (arith, second, least))
    | inr third ↦ eq-eqb h.version 3 third
  ]

  says : entry_cover h (cleared_entry how (entry_cover h word)) ≡ cover_once_cleared how old
  says = entry_says how h.cluster_bits (h.version == 3) (has_data_file h) word is_third ∙ ap (cover_once_cleared how) (sym cover_was)

  pub covered : cover a.file.header.fields (known_of a.file.header.fields b.file.caches (contents_in view a.file)) (guest_at a.file.header.fields row column) ≡ cover_once_cleared how (cover a.file.header.fields (known_in view a.file) (guest_at a.file.header.fields row column))
  covered = cover_now s known row column (cleared_entry how (entry_cover h word)) crash_invariant at.real at.within entry.change ∙ says

  changes : EntryChanges s known row column
  changes = known_entry_changes s known row column (cleared_entry how (entry_cover h word)) crash_invariant at.real at.within entry.change
      (subst (λ v. Takes h p.new_data old v) (sym says) (takes_cleared how h p.new_data old (crash_invariant.known_aligned guest)))
      (stands_inside h (guest_at h row column) (entry_cover h (cleared_entry how (entry_cover h word))) (inside_of sound))

  counts_stay : (k : ℕ) → count a.file.header.fields (known_in view a.file) k ≡ count a.file.header.fields (known_of a.file.header.fields b.file.caches (contents_in view a.file)) k
  counts_stay = counts_now s known row column (cleared_entry how (entry_cover h word)) crash_invariant at.real at.within entry.change

  abbrev after : Pending
  after = pending_after s known guest

  abbrev s' : DriverState
  s' = record s { pending = after; known = known }

  -- a record of both, whatever is shown there
  record Mapped : Type 0 where
    sound_then : StateInvariant s'
    covers : SameOtherCovers guest s s'

  zeros_mapped : (v : L2Mapping) → cover h known guest ≡ v → IsZeros v → Mapped
  zeros_mapped (Zero kept) is zeros = let m = entry_zeroed s known row column crash_invariant changes (inside_of sound) kept is in record { sound_then = m.safe_step.sound; covers = m.unseen.covers }
  zeros_mapped _ is zeros = absurd zeros

  mapped_as : (x : ClearMode) → is_cleared x (cover h known guest) → Mapped
  mapped_as Uncovered is = let m = entry_uncovered s known row column crash_invariant changes (inside_of sound) is in record { sound_then = m.safe_step.sound; covers = m.unseen.covers }
  mapped_as _ is = zeros_mapped (cover h known guest) refl is

  is_now : is_cleared how (cover h known guest)
  is_now = subst (is_cleared how) (sym covered) (cleared_is how old)

  mapped : Mapped
  mapped = mapped_as how is_now

  -- ---- the image
  abbrev final : Qcow2 S F
  final = record a { file = record a.file { caches = caches } }

  same_stand : state_in view final.file after ≡ s'
  same_stand = ap (λ d. record s { pending = after; direction = d; known = known }) clears.order

  same_l1 : (l : ℕ) → l1_entry h known l ≡ l1_entry h s.known l
  same_l1 l = sym (mapped.sound_then.same_top.l1 l) ∙ crash_invariant.same_top.l1 l

  -- a mapping that is out lies in another table
  elsewhere : (j : ℕ) (r : Prepared) → slice_get out.slots j ≡ Some (Some r) → (u : ℕ) → r.table ≡ Some u → IsPending h out.place s.known s.on_storage r u → (i : ℕ) → i < length r.clusters.items → cluster_of h r + i ≡ guest → ⊥
  elsewhere j r there u is ready i lt here =
      let row_is : guest / entries_per_cluster h ≡ row = div-mul-add row (entries_per_cluster h) column at.within in
      let rows : cluster_of h r / entries_per_cluster h ≡ row = sym (same_row h s.known s.on_storage r u ready i lt) ∙ ap (λ n. n / entries_per_cluster h) here ∙ row_is in
      let places : u * cluster_size h ≡ t * cluster_size h = sym ready.named.place ∙ ap (table_at h s.known) rows ∙ at.place in
      let tables : u ≡ t = sym (own_cluster h.cluster_bits u) ∙ ap (λ o. o / cluster_size h) places ∙ own_cluster h.cluster_bits t in
      let mine = pins_own r t (is ∙ ap Some tables) in
      let all = over_all_at pins_by out j r there t in
      let pins = sound.pinned t in
      omega (arith, mine, all, pins, unpinned)

  still : (j : ℕ) (r : Prepared) → slice_get out.slots j ≡ Some (Some r) → (x : Option ℕ) → r.table ≡ x → IsReadyWith h out.place s.known s.on_storage r x → IsReadyWith h out.place known s.on_storage r x
  still j r there None is ready = ready
  still j r there (Some u) is ready =
      still_pending h out.place s.known s.on_storage known s.on_storage r crash_invariant.same_top.l1 mapped.sound_then.same_top.l1 (λ l marked. refl) u
      (λ i cluster_mapping has. still_mapping h out.place s.known s.on_storage known s.on_storage r i
      (mapped.covers (cluster_of h r + i) (λ same. elsewhere j r there u is ready i (slice_get_within r.clusters.items i cluster_mapping has) same)) cluster_mapping (ready.each i cluster_mapping has)) ready

  final_sound : ImageInvariant view backing after final out
  final_sound = record {
    works = sound.works;
    file = file_invariant_of
        sound.file.honest
        (entry.sound after sound.file.named_blocks (subst (λ d. CrashInvariant h d after s.on_storage known) (sym clears.order) mapped.sound_then))
        (entry.named_blocks sound.file.named_blocks)
        (clears.marks.room sound.file.room);
    l1_table = record { cluster = sound.l1_table.cluster; bits = sound.l1_table.bits; count = sound.l1_table.count; entries = sound.l1_table.entries };
    reftable = reftable_still view a.file final.file refl refl counts_stay a.allocator sound.reftable;
    stands = sound.stands;
    below = sound.below;
    ready = λ j r there. let ready = sound.ready j r there in record { own = ready.own; mapped = still j r there r.table refl ready.mapped };
    pinned = λ table. clears.marks.pins table ∙ sound.pinned table;
    once = sound.once;
  }

  named_then : (k : ℕ) → names h known k guest ≡ named_by_cover h k (cover_once_cleared how old)
  named_then k = names_inside h (inside_of sound) known k guest ∙ ap (named_by_cover h k) covered

  named_before : (k : ℕ) → names h s.known k guest ≡ named_by_cover h k old
  named_before k = names_inside h (inside_of sound) s.known k guest

  final_cleared : OneCleared view backing how row column a final out p
  final_cleared = record {
    now = after;
    sound_now = final_sound;
    turn = record { known = known; row = row; column = column; here = refl; changes = changes; maps = is_now; is = same_stand };
    cleared = covered;
    stays = mapped.covers;
    table_stays = ap host_offset (same_l1 row);
    counts = counts_stay;
    new_data = λ reach k. let n = names_cleared h k how old reach in let then = named_then k in let before = named_before k in omega (arith, n, then, before);
    new_tables = λ k. refl;
    old_tables = λ k. refl;
    surplus = refl;
    old_data = λ reach k.
        let n = names_cleared h k how old reach in
        let then = named_then k in
        let before = named_before k in
        let listed = listed_has (old_data_run h.cluster_bits old (cover_once_cleared how old)) k in
        omega (arith, n, then, before, listed);
  }

  pub one_cleared : OneCleared view backing how row column a b out p
  one_cleared = subst (λ (c : Qcow2 S F). OneCleared view backing how row column a c out p) (sym clears.rest) final_cleared

-- Loading refblocks, and allocating and freeing one cluster.
use Rattle.std.proofs.Common.{◌≡◌, ◌≢◌, ◌+◌, ◌*◌, ◌/◌, ◌%◌, ◌^◌, ◌<◌, ◌≤◌, inl, inr, refl, ℕ, Bool, true, false, List, length, Option, Some, None, Result, Ok, Err, IsErr, IsErrAnd, IsTrue, sym, ap, ◌∙◌, subst, mul-pos, arith, is_some}
use Rattle.qcow2_alloc.proofs.Common.{cases_eq, mul-le-mul_right, mod_below, pow_pos, div-add-mod', StorageView, byte_at, HeaderFields, EntryTableView, entry_table, NamesRefTable, IsRefTableOf, entry_at, HasPlace, ChangesEntry, cluster_size, counts_per_block, reftable_entries, reftable_entry, block_offset, count, one_at, Pending, count_none, Allocator, MetadataCaches, ImageError, ImageFile, ClusterKind, Data, Metadata, ClustersToFreeEntry, run_at, is_data, taken_as, Owed, Taken, Listed, owed_as, MayAllocate, MayDecrement, HasNone, NamesBlock, NamesBehindHeader, KeepsRefblocks, NamesLacking, KeepsEntries, KeepsNamed, NamesRefblock, RefblockAt, InternalAllocatorStep, InternalAllocatorGrowth, PlacesBlock, GetsBlock, RefusedGrowth, AllocatesGiven, AllocatesCluster, Allocates, KeepsPinsAndNotes, view_in, contents_in, known_in, FileInvariant, AllocatorInvariant, HasReftable, RefusedFileStep, StorageError, Fault, of_storage, IsFault, order_of, IsCountedAt, IncrementsCount, DecrementsCount, InternalCacheStep, ImageStorage, storage_of}
use Rattle.image_access.specs.declared.error.StorageError.TheVariants.{Memory}
use Rattle.qcow2_alloc.proofs.KeptTables.Standing.{own_cluster}
use Rattle.qcow2_alloc.proofs.Runs.{new_data_more}
use Rattle.qcow2_alloc.proofs.FileSteps.{one_here, file_step_none, file_step_then, file_step_on, on_then, on_interrupted, leaves_then, interrupted_after, file_step_cached, reftable_cached, reftable_counted, file_step_raised, file_step_lowered}

-- what a `?` hands on
pub handed_on : {A E : Type 0} (P : Result A E → Type 0) (r : Result A E) (e : E) → IsErr r × IsErrAnd r (λ x. x ≡ e) → P (Err e) → P r
handed_on P (Ok x) e is holds = absurd (let bad = is.0 in cc)
handed_on P (Err x) e is holds = subst (λ y. P (Err y)) (sym is.1) holds

-- what holds of one answer holds of an equal one
pub of_equal : {A B : Type 0} (P : A → B → Type 0) (a a' : A) (b b' : B) → a ≡ a' → b ≡ b' → P a' b' → P a b
of_equal P a a' b b' same_a same_b holds = subst (λ x. P x b) (sym same_a) (subst (P a') (sym same_b) holds)

pub may_still : {S : Type 0} (d : Bool) (a b : ImageFile S) → order_of b.caches ≡ order_of a.caches → MayAllocate d a → MayAllocate d b
may_still true a b same may = same ∙ may
may_still false a b same may = tt

pub may_lower_still : {S : Type 0} (owed : Owed) (a b : ImageFile S) → order_of b.caches ≡ order_of a.caches → MayDecrement owed a → MayDecrement owed b
may_lower_still (Taken d) a b same may = tt
may_lower_still (Listed Data) a b same may = same ∙ may
may_lower_still (Listed Metadata) a b same may = tt

pub fault_of_storage : (e : StorageError) → IsFault (of_storage e)
fault_of_storage Fault = inl refl
fault_of_storage Memory = inr refl

-- ---- reftables whose new entries name refblocks behind cluster 0
pub behind_none : (t : EntryTableView) → NamesBehindHeader t t
behind_none t = record { bits = refl; each = λ k. inl refl }

-- one with the same entries
pub behind_same : (a b : EntryTableView) → b.cluster_bits ≡ a.cluster_bits → ((k : ℕ) → entry_at b.bytes k ≡ entry_at a.bytes k) → NamesBehindHeader a b
behind_same a b bits same = record { bits = bits; each = λ k. inl (same k) }

pub behind_then : (a b c : EntryTableView) → NamesBehindHeader a b → NamesBehindHeader b c → NamesBehindHeader a c
behind_then a b c first then = record {
  bits = then.bits ∙ first.bits;
  each = λ k. elim (then.each k) [
    | inl same ↦ elim (first.each k) [
      | inl stays ↦ inl (same ∙ stays)
      | inr behind ↦ inr (subst (λ e. 2 ^ a.cluster_bits ≤ block_offset e) (sym same) behind)
    ]
    | inr behind ↦ inr (subst (λ n. 2 ^ n ≤ block_offset (entry_at c.bytes k)) first.bits behind)
  ];
}

-- a refblock is entered in a cluster behind that one
pub behind_entered : (t t' : EntryTableView) (range at value : ℕ) → 0 < at → t' ≡ record t { bytes = t'.bytes } → ChangesEntry t.bytes t'.bytes range value → block_offset (entry_at t'.bytes range) ≡ at * 2 ^ t.cluster_bits → NamesBehindHeader t t'
behind_entered t t' range at value some rest enters offset = record {
  bits = ap (λ (x : EntryTableView). x.cluster_bits) rest;
  each = λ k. elim (cases_eq k range) [
    | inl here ↦ inr (subst (λ n. 2 ^ t.cluster_bits ≤ block_offset (entry_at t'.bytes n)) (sym here)
        (let product : 1 * 2 ^ t.cluster_bits ≤ at * 2 ^ t.cluster_bits = mul-le-mul_right (2 ^ t.cluster_bits) some in omega (arith, offset, product)))
    | inr other ↦ inl (enters.others k other)
  ];
}

-- ---- each range that has a refblock keeps it
pub ranges_then : (a b c : EntryTableView) → KeepsRefblocks a b → KeepsRefblocks b c → KeepsRefblocks a c
ranges_then a b c first second = λ k has. second k (λ none. has (ap block_offset (sym (first k has)) ∙ none)) ∙ first k has

-- a copy whose entries stay
pub lacking_none : (t a : EntryTableView) → NamesLacking t a a
lacking_none t a = record { behind = behind_none a; ranges = λ k has. refl }

-- a copy with one entry more, for a range that had none
pub lacking_more : (t a b c : EntryTableView) (range : ℕ) → HasNone t range → NamesLacking t a b → KeepsEntries (λ k. k ≢ range) b c → NamesLacking t a c
lacking_more t a b c range none first then = record {
  behind = behind_then a b c first.behind then.behind;
  ranges = λ k has. then.others k (λ same. has (subst (HasNone t) (sym same) none)) ∙ first.ranges k has;
}

-- what a copy of the reftable names beside it
pub lacking_clone : (t a b : EntryTableView) → a.cluster_bits ≡ t.cluster_bits → ((k : ℕ) → entry_at a.bytes k ≡ entry_at t.bytes k) → NamesLacking t a b → NamesBehindHeader t b × KeepsRefblocks t b
lacking_clone t a b bits same names = (behind_then t a b (behind_same t a bits same) names.behind, λ k has. names.ranges k has ∙ same k)

-- ---- reftables with the same entries
pub entries_then : (P : ℕ → Type 0) (a b c : EntryTableView) → KeepsEntries P a b → KeepsEntries P b c → KeepsEntries P a c
entries_then P a b c first second = record {
  cluster = second.cluster ∙ first.cluster;
  bits = second.bits ∙ first.bits;
  count = second.count ∙ first.count;
  others = λ k stays. second.others k stays ∙ first.others k stays;
  behind = behind_then a b c first.behind second.behind;
}

pub entries_less : (P Q : ℕ → Type 0) (a b : EntryTableView) → ((k : ℕ) → Q k → P k) → KeepsEntries P a b → KeepsEntries Q a b
entries_less P Q a b fewer keeps = record { cluster = keeps.cluster; bits = keeps.bits; count = keeps.count; others = λ k stays. keeps.others k (fewer k stays); behind = keeps.behind }

-- what is named stays so in two steps
pub named_then : (a b c : EntryTableView) → KeepsNamed a b → KeepsNamed b c → KeepsNamed a c
named_then a b c first second = record {
  cluster = second.cluster ∙ first.cluster;
  bits = second.bits ∙ first.bits;
  count = second.count ∙ first.count;
  others = ranges_then a b c first.others second.others;
  behind = behind_then a b c first.behind second.behind;
}

-- only a range without a refblock gets one
pub named_covered : (a b : EntryTableView) (range : ℕ) → HasNone a range → KeepsEntries (λ k. k ≢ range) a b → KeepsNamed a b
named_covered a b range none keeps = entries_less (λ k. k ≢ range) (λ k. HasNone a k → ⊥) a b (λ k has same. has (subst (HasNone a) (sym same) none)) keeps

-- where no refblock was found, none is named
pub none_named : (h : HeaderFields) (t : EntryTableView) (range : ℕ) (block : Option ℕ) → is_some block ≡ false → NamesBlock h t range block → HasNone t range
none_named h t range None none names = names
none_named h t range (Some block) none names = absurd (let bad = none in cc)

-- an entry that was made names a refblock
pub entered_has : (t : EntryTableView) (range at bits : ℕ) → 0 < at → block_offset (entry_at t.bytes range) ≡ at * 2 ^ bits → HasNone t range → ⊥
entered_has t range at bits some offset none = let big = mul-pos some (pow_pos bits) in omega (arith, big, offset, none)

-- one refblock is entered, in a cluster behind the header's
pub entries_entered : (t t' : EntryTableView) (range at : ℕ) → 0 < at → t' ≡ record t { bytes = t'.bytes } → ChangesEntry t.bytes t'.bytes range (at * 2 ^ t.cluster_bits) → block_offset (entry_at t'.bytes range) ≡ at * 2 ^ t.cluster_bits
    → KeepsEntries (λ k. k ≢ range) t t'
entries_entered t t' range at some rest enters offset = record {
  cluster = ap (λ (x : EntryTableView). x.cluster) rest;
  bits = ap (λ (x : EntryTableView). x.cluster_bits) rest;
  count = ap (λ n. n / 8) enters.as_long;
  others = enters.others;
  behind = behind_entered t t' range at (at * 2 ^ t.cluster_bits) some rest enters offset;
}

-- the range of a cluster below an end isn't one from the end on
pub other_range : (cluster end per per' k : ℕ) → cluster < end → per' ≡ per → end ≤ k * per' → k ≢ cluster / per
other_range cluster end per per' k below same past is =
    let e = div-add-mod' cluster per in
    let whole : k * per' ≡ cluster / per * per = ap (λ n. k * n) same ∙ ap (λ n. n * per) is in
    absurd (omega (arith, e, whole, below, past))

module _ {S : Type 0} (view : S → StorageView) where
  -- ---- one step after another
  -- an allocator with the same reftable
  pub allocator_step_as : (p r : Pending) (a b : ImageFile S) (t t' : Allocator) → t'.reftable ≡ t.reftable → InternalAllocatorStep view p a t b r → InternalAllocatorStep view p a t' b r
  allocator_step_as p r a b t t' same first = record { file_step = first.file_step; reftable = subst (HasReftable view b) (sym same) first.reftable }

  pub allocator_step_none : (p : Pending) (file : ImageFile S) (t : Allocator) → AllocatorInvariant view t p file → InternalAllocatorStep view p file t file p
  allocator_step_none p file t sound = record { file_step = file_step_none view p file sound.sound; reftable = sound.reftable }

  pub allocator_step_then : (p r : Pending) (a b c : ImageFile S) (t t' : Allocator) → InternalAllocatorStep view p a t b p → InternalAllocatorStep view p b t' c r → InternalAllocatorStep view p a t' c r
  allocator_step_then p r a b c t t' first second = record { file_step = file_step_then view p p r a b c (λ k some. some) first.file_step second.file_step; reftable = second.reftable }

  pub is_sound_now : (p q : Pending) (a b : ImageFile S) (t : Allocator) → InternalAllocatorStep view p a t b q → AllocatorInvariant view t q b
  is_sound_now p q a b t first = record { sound = first.file_step.sound; reftable = first.reftable }

  -- the same where the reftable may move
  pub on_of : (p q : Pending) (a b : ImageFile S) (t : Allocator) → InternalAllocatorStep view p a t b q → InternalAllocatorGrowth view p a t b q
  on_of p q a b t allocator_step = record { file_step = file_step_on view p q a b allocator_step.file_step; reftable = allocator_step.reftable }

  pub on_none : (p : Pending) (file : ImageFile S) (t : Allocator) → AllocatorInvariant view t p file → InternalAllocatorGrowth view p file t file p
  on_none p file t sound = on_of p p file file t (allocator_step_none p file t sound)

  -- what is held for guests is held still
  pub allocator_step_on : (p q r : Pending) (a b c : ImageFile S) (t t' : Allocator) → ((k : ℕ) → 0 < p.new_data k → 0 < q.new_data k) → InternalAllocatorGrowth view p a t b q → InternalAllocatorGrowth view q b t' c r → InternalAllocatorGrowth view p a t' c r
  allocator_step_on p q r a b c t t' new_data first second = record { file_step = on_then view p q r a b c new_data first.file_step second.file_step; reftable = second.reftable }

  pub is_sound_on : (p q : Pending) (a b : ImageFile S) (t : Allocator) → InternalAllocatorGrowth view p a t b q → AllocatorInvariant view t q b
  is_sound_on p q a b t first = record { sound = first.file_step.sound; reftable = first.reftable }

  -- after clusters were taken
  pub allocator_step_more : (d : Bool) (p : Pending) (n : ℕ → ℕ) (r : Pending) (a b c : ImageFile S) (t t' : Allocator) → InternalAllocatorStep view p a t b (taken_as d p n) → InternalAllocatorStep view (taken_as d p n) b t' c r → InternalAllocatorStep view p a t' c r
  allocator_step_more d p n r a b c t t' first second = record { file_step = file_step_then view p (taken_as d p n) r a b c (new_data_more d p n) first.file_step second.file_step; reftable = second.reftable }

  pub allocator_step_cached : (p : Pending) (file : ImageFile S) (t : Allocator) (storage : ImageStorage S) (caches : MetadataCaches S) → AllocatorInvariant view t p file
      → InternalCacheStep file.header.fields p (view_in view file) file.caches (view (storage_of storage)) caches → KeepsPinsAndNotes file.caches caches → InternalAllocatorStep view p file t (record file { storage = storage; caches = caches }) p
  allocator_step_cached p file t storage caches sound stays marks = record { file_step = file_step_cached view p file storage caches sound.sound stays marks; reftable = reftable_cached view p file storage caches sound.sound stays t.reftable sound.reftable }

  -- a refusal that is no fault left all sound
  pub still_sound : (p : Pending) (a b : ImageFile S) (t : Allocator) (e : ImageError) → (IsFault e → ⊥) → RefusedFileStep view p a t b e → InternalAllocatorStep view p a t b p
  still_sound p a b t e other leaves = elim leaves [ inl sound ↦ record { file_step = sound.0; reftable = sound.1 } | inr interrupted ↦ absurd (other interrupted.fault) ]

  -- a refusal that left the same pending, as both words say it
  pub leaves_as : (p : Pending) (a b : ImageFile S) (t : Allocator) (e : ImageError) → RefusedFileStep view p a t b e → RefusedGrowth view p a t b p e
  leaves_as p a b t e leaves = elim leaves [ inl sound ↦ inl (on_of p p a b t (record { file_step = sound.0; reftable = sound.1 })) | inr interrupted ↦ inr interrupted ]

  -- a refusal after a step
  pub leaves_on : (p q r : Pending) (a b c : ImageFile S) (t t' : Allocator) (e : ImageError) → ((k : ℕ) → 0 < p.new_data k → 0 < q.new_data k) → InternalAllocatorGrowth view p a t b q → RefusedGrowth view q b t' c r e → RefusedGrowth view p a t' c r e
  leaves_on p q r a b c t t' e new_data first second = elim second [
    | inl sound ↦ inl (allocator_step_on p q r a b c t t' new_data first sound)
    | inr interrupted ↦ inr (on_interrupted view p q a b c e first.file_step interrupted)
  ]

  -- one that is no fault
  pub still_as : (p q : Pending) (a b : ImageFile S) (t : Allocator) (e : ImageError) → (IsFault e → ⊥) → RefusedGrowth view p a t b q e → InternalAllocatorGrowth view p a t b q
  still_as p q a b t e other leaves = elim leaves [ inl sound ↦ sound | inr interrupted ↦ absurd (other interrupted.fault) ]

  -- another allocator with the same reftable
  pub on_as : (p q : Pending) (a b : ImageFile S) (t t' : Allocator) → t'.reftable ≡ t.reftable → InternalAllocatorGrowth view p a t b q → InternalAllocatorGrowth view p a t' b q
  on_as p q a b t t' same allocator_step = record { file_step = allocator_step.file_step; reftable = subst (HasReftable view b) (sym same) allocator_step.reftable }

  -- a cluster that is taken, or is in use, after a step
  pub takes_on : (p q : Pending) (a b c : ImageFile S) (t t' t'' : Allocator) (d : Bool) (cluster : ℕ) (taken : Bool) → ((k : ℕ) → 0 < p.new_data k → 0 < q.new_data k) → t''.reftable ≡ t'.reftable
      → InternalAllocatorGrowth view p a t b q → AllocatesGiven view q b t' c d cluster (Ok taken) → AllocatesCluster view p a t'' c q d cluster (Ok taken)
  takes_on p q a b c t t' t'' d cluster true new_data same first second =
      on_as p (taken_as d q (one_at cluster)) a c t' t'' same (allocator_step_on p q (taken_as d q (one_at cluster)) a b c t t' new_data first (on_of q (taken_as d q (one_at cluster)) b c t' second))
  takes_on p q a b c t t' t'' d cluster false new_data same first second = on_as p q a c t' t'' same (allocator_step_on p q q a b c t t' new_data first (on_of q q b c t' second))

  -- an allocation after a step that left the same pending
  pub allocates_then : (p q : Pending) (a b c : ImageFile S) (t t' : Allocator) (kind : ClusterKind) (n : ℕ) (result : Result ClustersToFreeEntry ImageError) → InternalAllocatorGrowth view p a t b p → Allocates view p b t' c q kind n result → Allocates view p a t' c q kind n result
  allocates_then p q a b c t t' kind n (Ok run) first second = (second.0, second.1, allocator_step_on p p (taken_as (is_data kind) q (run_at run.first_cluster n)) a b c t t' (λ k some. some) first second.2)
  allocates_then p q a b c t t' kind n (Err e) first second = leaves_on p p q a b c t t' e (λ k some. some) first second

  -- a refblock that was placed in a cluster that was taken for it, and that was noted
  pub gets_taken : (p : Pending) (a b c : ImageFile S) (t t' : Allocator) (range at : ℕ) (result : Result (Unit {0}) ImageError) → InternalAllocatorStep view p a t b (taken_as false p (one_at at)) → IsTrue c.caches.is_changed
      → PlacesBlock view (taken_as false p (one_at at)) b t' c p range at result → GetsBlock view p a t' c result
  gets_taken p a b c t t' range at (Ok _) first recorded placed = record { file_step = file_step_then view p (taken_as false p (one_at at)) p a b c (λ k some. some) first.file_step placed.0.file_step; reftable = placed.0.reftable }
  gets_taken p a b c t t' range at (Err e) first recorded placed = inr (interrupted_after view p (taken_as false p (one_at at)) a b c t' e first.file_step placed.0 recorded placed.1)

  -- a refblock that was placed
  pub gets_placed : (p : Pending) (old new : ImageFile S) (t : Allocator) (range at : ℕ) (result : Result (Unit {0}) ImageError) → PlacesBlock view p old t new p range at result → GetsBlock view p old t new result
  gets_placed p old new t range at (Ok _) placed = placed.0
  gets_placed p old new t range at (Err e) placed = placed.1

  -- a refusal after a step that left the same pending, as the errors of answers say it
  pub gets_then : (p : Pending) (a b c : ImageFile S) (t t' : Allocator) (result : Result (Unit {0}) ImageError) → InternalAllocatorStep view p a t b p → GetsBlock view p b t' c result → GetsBlock view p a t' c result
  gets_then p a b c t t' (Ok _) first second = allocator_step_then p p a b c t t' first second
  gets_then p a b c t t' (Err e) first second = leaves_then view p a b c t' e first.file_step second

  -- ---- the refblock of a range
  pub names_refblock : (p : Pending) (file : ImageFile S) (t : EntryTableView) → FileInvariant view p file → HasReftable view file t → (range offset cluster bits : ℕ) → offset ≡ block_offset (entry_at t.bytes range) → 0 < offset
      → cluster * 2 ^ bits ≡ offset → bits ≡ file.header.fields.cluster_bits → NamesRefblock view file range cluster
  names_refblock p file t sound has range offset cluster bits is some at same =
      let known : offset ≡ block_offset (reftable_entry file.header.fields (known_in view file) range) =
      is ∙ ap block_offset (has.entries range ∙ sound.caches.kept.kept.crash_invariant.same_top.reftable range) in (
        (λ none. let zero : offset ≡ 0 = known ∙ none in omega arith),
        sym known ∙ sym at ∙ ap (λ n. cluster * 2 ^ n) same,
      )

  pub stands_none : (file : ImageFile S) (range : ℕ) (o : Option ℕ) → is_some o ≡ false → RefblockAt view file range o → RefblockAt view file range None
  stands_none file range None none at = at
  stands_none file range (Some block) none at = absurd (let no : true ≡ false = none in cc)

  -- where it has none, the reftable in memory names none
  pub none_in_memory : (p : Pending) (file : ImageFile S) (t : EntryTableView) → FileInvariant view p file → HasReftable view file t → (range : ℕ) → RefblockAt view file range None → HasNone t range
  none_in_memory p file t sound has range none = ap block_offset (has.entries range ∙ sound.caches.kept.kept.crash_invariant.same_top.reftable range) ∙ none

  -- 64 bits hold where it stands
  pub place_fits : (entry offset cluster bits header_bits : ℕ) → offset ≡ block_offset entry → cluster * 2 ^ bits ≡ offset → bits ≡ header_bits → HasPlace header_bits cluster
  place_fits entry offset cluster bits header_bits is at same =
      let low : entry / 2 ^ 9 % 2 ^ 55 < 2 ^ 55 = mod_below (entry / 2 ^ 9) (2 ^ 55) (pow_pos 55) in
      subst (λ n. HasPlace n cluster) same (omega arith)

  -- a cluster's count stands there
  pub counted_at : (file : ImageFile S) (header : HeaderFields) → file.header.fields ≡ header → (cluster range block index bits : ℕ) → RefblockAt view file range (Some block) → counts_per_block header ≡ 2 ^ bits
      → range ≡ cluster / 2 ^ bits → index ≡ cluster % 2 ^ bits → IsCountedAt file.header.fields (known_in view file) cluster block index
  counted_at file header is cluster range block index bits at counts in_range in_block =
      let per : counts_per_block file.header.fields ≡ 2 ^ bits = ap counts_per_block is ∙ counts in
      let same : cluster / counts_per_block file.header.fields ≡ range = ap (λ n. cluster / n) per ∙ sym in_range in
      record {
        real = λ none. at.0 (ap (λ n. block_offset (reftable_entry file.header.fields (known_in view file) n)) (sym same) ∙ none);
        place = ap (λ n. block_offset (reftable_entry file.header.fields (known_in view file) n)) same ∙ at.1;
        at = ap (λ n. cluster % n) per ∙ sym in_block;
      }

  -- ---- one cluster
  module _ (p : Pending) (a b : ImageFile S) (t : Allocator) (first : InternalAllocatorStep view p a t b p) (cluster block index : ℕ) (at : IsCountedAt b.header.fields (known_in view b) cluster block index)
      (caches : MetadataCaches S) (turned : order_of caches ≡ order_of b.caches) (marks : KeepsPinsAndNotes b.caches caches) where
    pub taken_one : (d : Bool) → MayAllocate d a → order_of b.caches ≡ order_of a.caches → count b.header.fields (known_in view b) cluster ≡ 0 → IncrementsCount b.caches caches block index
        → InternalAllocatorStep view p a t (record b { caches = caches }) (taken_as d p (one_at cluster))
    taken_one d may same free raises =
        let made = raises b.header.fields p (contents_in view b) cluster first.file_step.sound.caches at free in record {
          file_step = file_step_then view p p (taken_as d p (one_at cluster)) a b (record b { caches = caches }) (λ k some. some) first.file_step
              (file_step_raised view p b caches cluster first.file_step.sound marks turned made d (may_still d a b same may));
          reftable = reftable_counted view p b caches cluster first.file_step.sound marks turned t.reftable first.reftable;
        }

    pub given_one : (owed : Owed) (q : Pending) → MayDecrement owed b → p ≡ owed_as owed q (one_at cluster) → DecrementsCount b.caches caches block index → InternalAllocatorStep view p a t (record b { caches = caches }) q
    given_one owed q may owes lowers =
        let made = lowers b.header.fields p (contents_in view b) cluster first.file_step.sound.caches at in record {
          file_step = file_step_then view p p q a b (record b { caches = caches }) (λ k some. some) first.file_step (file_step_lowered view p b caches cluster first.file_step.sound marks turned q made owed may owes);
          reftable = reftable_counted view p b caches cluster first.file_step.sound marks turned t.reftable first.reftable;
        }

  -- what is owed is counted
  pub owed_counted : (owed : Owed) (q : Pending) (cluster : ℕ) (p : Pending) (file : ImageFile S) → p ≡ owed_as owed q (one_at cluster) → FileInvariant view p file → count file.header.fields (known_in view file) cluster ≢ 0
  owed_counted owed q cluster p file owes sound none =
      let tally = (sound.caches.kept.kept.crash_invariant.each_cluster cluster).tally in
      let some = some_owed owed owes in
      absurd (omega (arith, tally, none, some))
    where
      some_owed : (owed : Owed) → p ≡ owed_as owed q (one_at cluster) → 0 < p.new_data cluster + p.new_tables cluster + p.old_tables cluster + p.old_data cluster
      some_owed (Taken true) owes = let own = one_here cluster in let e : p.new_data cluster ≡ q.new_data cluster + one_at cluster cluster = ap (λ (r : Pending). r.new_data cluster) owes in omega arith
      some_owed (Taken false) owes = let own = one_here cluster in let e : p.new_tables cluster ≡ q.new_tables cluster + one_at cluster cluster = ap (λ (r : Pending). r.new_tables cluster) owes in omega arith
      some_owed (Listed Metadata) owes = let own = one_here cluster in let e : p.old_tables cluster ≡ q.old_tables cluster + one_at cluster cluster = ap (λ (r : Pending). r.old_tables cluster) owes in omega arith
      some_owed (Listed Data) owes = let own = one_here cluster in let e : p.old_data cluster ≡ q.old_data cluster + one_at cluster cluster = ap (λ (r : Pending). r.old_data cluster) owes in omega arith

  -- so it has a refblock
  pub owed_has_block : (owed : Owed) (q : Pending) (cluster range bits : ℕ) (p : Pending) (file : ImageFile S) (header : HeaderFields) → file.header.fields ≡ header → p ≡ owed_as owed q (one_at cluster) → FileInvariant view p file
      → counts_per_block header ≡ 2 ^ bits → range ≡ cluster / 2 ^ bits → RefblockAt view file range None → ⊥
  owed_has_block owed q cluster range bits p file header is owes sound counts in_range none =
      let same : cluster / counts_per_block file.header.fields ≡ range = ap (λ n. cluster / n) (ap counts_per_block is ∙ counts) ∙ sym in_range in
      owed_counted owed q cluster p file owes sound
      (count_none file.header.fields (known_in view file) cluster (ap (λ n. block_offset (reftable_entry file.header.fields (known_in view file) n)) same ∙ none))

  -- ---- the reftable that was loaded
  pub table_loaded : (file : ImageFile S) (storage : ImageStorage S) (t : EntryTableView) (cluster bits entries offset : ℕ) → t ≡ entry_table file.header.fields (Some cluster) t.bytes → length t.bytes ≡ 8 * entries → bits ≡ file.header.fields.cluster_bits
      → cluster * 2 ^ bits ≡ offset → offset ≡ file.header.fields.reftable_offset → entries ≡ reftable_entries file.header.fields
      → (NamesRefTable file.header.fields (cluster * cluster_size file.header.fields) entries → IsRefTableOf file.header.fields (contents_in view file) t) → (view (storage_of storage)).contents ≡ (view_in view file).contents
      → HasReftable view (record file { storage = storage }) t
  table_loaded file storage t cluster bits entries offset is long same_bits at is_offset is_entries of_image same =
      let h = file.header.fields in
      let place : cluster * cluster_size file.header.fields ≡ file.header.fields.reftable_offset = ap (λ n. cluster * 2 ^ n) (sym same_bits) ∙ at ∙ is_offset in
      let named = of_image (sym place, sym is_entries) in record {
        cluster = ap (λ (x : EntryTableView). x.cluster) is ∙ ap (λ n. Some n) (sym (own_cluster file.header.fields.cluster_bits cluster) ∙ ap (λ n. n / cluster_size file.header.fields) place);
        bits = ap (λ (x : EntryTableView). x.cluster_bits) is;
        count = omega (arith, long, is_entries);
        entries = λ k. named k ∙ ap (λ (c : List ℕ). reftable_entry file.header.fields (byte_at c) k) (sym same);
      }

-- The first free cluster of an allocator over its steps: clusters in use stay in use, except those that are freed.
use Rattle.std.proofs.Common.{◌≡◌, ◌≢◌, ◌⊎◌, ◌==◌, ◌+◌, ◌*◌, ◌/◌, ◌<◌, ◌≤◌, inl, inr, ℕ, IsTrue, IsSome, Bool, true, false, Some, None, Result, Ok, Err, sym, ap, ◌∙◌, subst, refl, arith, OnOk}
use Rattle.qcow2_alloc.proofs.Common.{cases_eq, cases_lt, StorageView, block_offset, reftable_entry, count, EntryTableView, entry_count, entry_at, cluster_size, counts_per_block, named_by_reftable, named_for_tables, in_cluster, div-mul-add, pow_pos, zero-div, shares, block_has, in_own, count_none, has_block, one_at, Pending, Allocator, Data, Metadata, ImageError, ImageFile, run_at, taken_as, Owed, Taken, Listed, owed_as, HasNone, NamesRefblock, RefblockAt, InternalAllocatorStep, GetsBlock, DecrementsOne, PlacesBlock, AllocatesGiven, pending_at, contents_in, known_in, FileInvariant, HasReftable, RefusedFileStep, rb_at, MetadataCaches, nat_tests, IsPassed, SearchStays, IsUsed, IsLowestRun, NoFreeBelowHint, KeepsNoFreeBelowHint, BrokeOff, KeepsUsed, AreUsed}
use Rattle.qcow2_alloc.specs.ImageFile.{IsFault}
use Rattle.qcow2_alloc.proofs.FileSteps.{one_here}
use Rattle.qcow2_alloc.proofs.Runs.{none_there, run_in}

pub is_zero : (n : ℕ) → n ≡ 0 → (n == 0) ≡ true
is_zero n h = grind (arith, nat_tests)

-- what is taken is pending
pub taken_pending : (d : Bool) (p : Pending) (n : ℕ → ℕ) (k : ℕ) → pending_at (taken_as d p n) k ≡ pending_at p k + n k
taken_pending true p n k = omega arith
taken_pending false p n k = omega arith

-- the range of a cluster, as two numbers of counts tell it
pub range_as : (t : EntryTableView) (cluster per per' : ℕ) → per' ≡ per → (HasNone t (cluster / per) → ⊥) → HasNone t (cluster / per') → ⊥
range_as t cluster per per' same has none = has (ap (λ n. block_offset (entry_at t.bytes (cluster / n))) (sym same) ∙ none)

-- what holds where it was answered, as another word says it
pub ok_as : {T : Type 0} (A B : Type 0) (result : Result T ImageError) → (A → B) → OnOk result A → OnOk result B
ok_as A B (Ok done) to so = to so
ok_as A B (Err e) to so = tt

-- a cluster outside of a run isn't one of it
pub not_in_run : (first n c k : ℕ) → first ≤ c → c < first + n → run_at first n k ≡ 0 → one_at c k ≡ 0
not_in_run first n c k low high none = elim (cases_eq k c) [
  | inl same ↦ let one = run_in first n k (omega (arith, low, same)) (omega (arith, high, same)) in absurd (omega (arith, one, none))
  | inr other ↦ none_there c k other
]

-- what is owed is pending
pub owed_pending : (owed : Owed) (p : Pending) (n : ℕ → ℕ) (k : ℕ) → pending_at (owed_as owed p n) k ≡ pending_at p k + n k
owed_pending (Taken d) p n k = taken_pending d p n k
owed_pending (Listed Data) p n k = omega arith
owed_pending (Listed Metadata) p n k = omega arith

-- the same allocator passes over the same clusters
pub passed_same : (t t' : Allocator) → t' ≡ t → (k : ℕ) → IsPassed t' k → IsPassed t k
passed_same t t' same k passed = subst (λ (x : Allocator). IsPassed x k) same passed

-- it passes over what it passes over
pub passed_still : (t : Allocator) (k : ℕ) → IsPassed t k → IsPassed t k
passed_still t k passed = passed

-- the search stays as it is
pub search_same : (t : Allocator) → SearchStays t t
search_same t = record { first = refl; passed = λ k passed. passed }

pub search_then : (a b c : Allocator) → SearchStays a b → SearchStays b c → SearchStays a c
search_then a b c one two = record { first = two.first ∙ one.first; passed = λ k passed. one.passed k (two.passed k passed) }

-- of the same allocator
pub search_as : (a b c : Allocator) → c ≡ b → SearchStays a b → SearchStays a c
search_as a b c same one = subst (SearchStays a) (sym same) one

pub search_after : (a b c : Allocator) → b ≡ a → SearchStays b c → SearchStays a c
search_after a b c same two = subst (λ (x : Allocator). SearchStays x c) same two

-- of one that searches so
pub search_by : (a b c : Allocator) → c ≡ b → b.first_free_cluster ≡ a.first_free_cluster → ((k : ℕ) → IsPassed b k → IsPassed a k) → SearchStays a c
search_by a b c same first passed = search_as a b c same (record { first = first; passed = passed })

-- a refusal that is no fault broke nothing off
pub not_broken : {S : Type 0} {A : Type 0} (file : ImageFile S) (e : ImageError) → (IsFault e → ⊥) → A ⊎ BrokeOff file e → A
not_broken file e other is = elim is [ inl so ↦ so | inr interruption ↦ absurd (other interruption.0) ]

module _ {S : Type 0} (view : S → StorageView) where
  -- a cluster stays in use while no less is pending
  pub used_stays : (p p' : Pending) (a b : ImageFile S) (t : Allocator) (k : ℕ) → InternalAllocatorStep view p a t b p' → pending_at p k ≤ pending_at p' k → IsUsed view a k → IsUsed view b k
  used_stays p p' a b t k allocator_step no_less used zero = used (let counts = allocator_step.file_step.counts k in omega (arith, counts, no_less, zero))

  -- what is taken is in use
  pub taken_used : (p : Pending) (d : Bool) (n : ℕ → ℕ) (a b : ImageFile S) (t : Allocator) (k : ℕ) → InternalAllocatorStep view p a t b (taken_as d p n) → 0 < n k → IsUsed view b k
  taken_used p d n a b t k allocator_step some zero = let counts = allocator_step.file_step.counts k in let more = taken_pending d p n k in absurd (omega (arith, counts, more, some, zero))

  pub hint_stays : (p : Pending) (a b : ImageFile S) (t t' : Allocator) → InternalAllocatorStep view p a t' b p → ((k : ℕ) → IsPassed t' k → IsPassed t k) → NoFreeBelowHint view t a → NoFreeBelowHint view t' b
  hint_stays p a b t t' allocator_step same hint k below = used_stays p p a b t' k allocator_step (omega arith) (hint k (same k below))

  -- after clusters were taken
  pub hint_taken : (p : Pending) (d : Bool) (n : ℕ → ℕ) (a b : ImageFile S) (t t' : Allocator) → InternalAllocatorStep view p a t' b (taken_as d p n) → ((k : ℕ) → IsPassed t' k → IsPassed t k) → NoFreeBelowHint view t a → NoFreeBelowHint view t' b
  hint_taken p d n a b t t' allocator_step same hint k below =
      used_stays p (taken_as d p n) a b t' k allocator_step (let more = taken_pending d p n k in omega (arith, more)) (hint k (same k below))

  -- one cluster more is in use
  pub hint_more : (file : ImageFile S) (t : Allocator) (cluster : ℕ) → NoFreeBelowHint view t file → t.first_free_cluster ≡ cluster → IsUsed view file cluster → NoFreeBelowHint view (record t { first_free_cluster = cluster + 1 }) file
  hint_more file t cluster hint is used k passed = elim passed [
    | inl below ↦ elim (cases_eq k cluster) [
      | inl same ↦ subst (IsUsed view file) (sym same) used
      | inr other ↦ hint k (inl (omega (arith, is, below, other)))
    ]
    | inr spared ↦ hint k (inr spared)
  ]

  -- what lies between the first free cluster and the next one is in use
  pub hint_passed : (p : Pending) (a b : ImageFile S) (t : Allocator) (cluster next : ℕ) → InternalAllocatorStep view p a t b p → AreUsed view b cluster next → cluster ≡ t.first_free_cluster
      → NoFreeBelowHint view t a → NoFreeBelowHint view (record t { first_free_cluster = next }) b
  hint_passed p a b t cluster next step used stood hint k passed = elim passed [
    | inl below ↦ elim (cases_lt k cluster) [
      | inl before ↦ used_stays p p a b t k step (omega arith) (hint k (inl (omega (arith, before, stood))))
      | inr behind ↦ used k behind below
    ]
    | inr spared ↦ used_stays p p a b t k step (omega arith) (hint k (inr spared))
  ]

  -- after a refusal
  pub hint_refused : (p : Pending) (a b : ImageFile S) (t t' : Allocator) (e : ImageError) → ((k : ℕ) → IsPassed t' k → IsPassed t k) → RefusedFileStep view p a t' b e → NoFreeBelowHint view t a → NoFreeBelowHint view t' b ⊎ BrokeOff b e
  hint_refused p a b t t' e same leaves hint = elim leaves [
    | inl sound ↦ inl (hint_stays p a b t t' (record { file_step = sound.0; reftable = sound.1 }) same hint)
    | inr interrupted ↦ inr (interrupted.fault, interrupted.recorded)
  ]

  -- ---- what was in use is in use
  pub uses_refused : (p : Pending) (a b : ImageFile S) (t : Allocator) (e : ImageError) → RefusedFileStep view p a t b e → ((k : ℕ) → IsUsed view a k → IsUsed view b k) ⊎ BrokeOff b e
  uses_refused p a b t e leaves = elim leaves [
    | inl sound ↦ inl (λ k used. used_stays p p a b t k (record { file_step = sound.0; reftable = sound.1 }) (omega arith) used)
    | inr interrupted ↦ inr (interrupted.fault, interrupted.recorded)
  ]

  pub uses_got : (p : Pending) (a b : ImageFile S) (t : Allocator) (result : Result (Unit {0}) ImageError) → GetsBlock view p a t b result → KeepsUsed view a b result
  uses_got p a b t (Ok done) gets = λ k used. used_stays p p a b t k gets (omega arith) used
  uses_got p a b t (Err e) gets = uses_refused p a b t e gets

  pub uses_then : {A : Type 0} (a b c : ImageFile S) (result : Result A ImageError) → ((k : ℕ) → IsUsed view a k → IsUsed view b k) → KeepsUsed view b c result → KeepsUsed view a c result
  uses_then a b c (Ok done) first second = λ k used. second k (first k used)
  uses_then a b c (Err e) first second = elim second [ inl kept ↦ inl (λ k used. kept k (first k used)) | inr interruption ↦ inr interruption ]

  pub uses_raised : (p : Pending) (d : Bool) (cluster : ℕ) (a b : ImageFile S) (t : Allocator) (taken : Bool) → AllocatesGiven view p a t b d cluster (Ok taken) → (k : ℕ) → IsUsed view a k → IsUsed view b k
  uses_raised p d cluster a b t true takes k used = used_stays p (taken_as d p (one_at cluster)) a b t k takes (let more = taken_pending d p (one_at cluster) k in omega (arith, more)) used
  uses_raised p d cluster a b t false takes k used = used_stays p p a b t k takes (omega arith) used

  pub hint_used : (a b : ImageFile S) (t t' : Allocator) → ((k : ℕ) → IsPassed t' k → IsPassed t k) → ((k : ℕ) → IsUsed view a k → IsUsed view b k) → NoFreeBelowHint view t a → NoFreeBelowHint view t' b
  hint_used a b t t' same uses hint k below = uses k (hint k (same k below))

  pub hint_or_interruption : (a b : ImageFile S) (t t' : Allocator) (e : ImageError) → ((k : ℕ) → IsPassed t' k → IsPassed t k) → ((k : ℕ) → IsUsed view a k → IsUsed view b k) ⊎ BrokeOff b e → NoFreeBelowHint view t a → NoFreeBelowHint view t' b ⊎ BrokeOff b e
  hint_or_interruption a b t t' e same uses hint = elim uses [ inl kept ↦ inl (hint_used a b t t' same kept hint) | inr interruption ↦ inr interruption ]

  -- clusters are given back that weren't in use at first
  pub kept_then : (n : ℕ → ℕ) (a b c : ImageFile S) (e : ImageError) → ((k : ℕ) → IsUsed view a k → n k ≡ 0) → ((k : ℕ) → IsUsed view a k → IsUsed view b k)
      → ((k : ℕ) → n k ≡ 0 → IsUsed view b k → IsUsed view c k) ⊎ BrokeOff c e → ((k : ℕ) → IsUsed view a k → IsUsed view c k) ⊎ BrokeOff c e
  kept_then n a b c e free first second = elim second [ inl kept ↦ inl (λ k used. kept k (free k used) (first k used)) | inr interruption ↦ inr interruption ]

  -- so it is where one of what is given back couldn't be
  pub kept_refused : (n : ℕ → ℕ) (p : Pending) (a b c : ImageFile S) (t : Allocator) (e : ImageError) → RefusedFileStep view p b t c e → ((k : ℕ) → n k ≡ 0 → IsUsed view a k → IsUsed view b k)
      → ((k : ℕ) → n k ≡ 0 → IsUsed view a k → IsUsed view c k) ⊎ BrokeOff c e
  kept_refused n p a b c t e leaves first = elim (uses_refused p b c t e leaves) [ inl uses ↦ inl (λ k none used. uses k (first k none used)) | inr interruption ↦ inr interruption ]

  -- the cluster of a refblock that is named is in use
  pub named_used : (p : Pending) (file : ImageFile S) (range at : ℕ) → FileInvariant view p file → NamesRefblock view file range at → IsUsed view file at
  named_used p file range at sound stands zero =
      let h = file.header.fields in
      let crash_invariant = sound.caches.kept.kept.crash_invariant in
      let same = crash_invariant.same_top.reftable range in
      let real : block_offset (reftable_entry h (contents_in view file) range) ≢ 0 = λ none. stands.0 (ap block_offset (sym same) ∙ none) in
      let place : block_offset (reftable_entry h (contents_in view file) range) ≡ at * cluster_size h = ap block_offset same ∙ stands.1 in
      let plus : at * cluster_size h ≡ at * cluster_size h + 0 = omega arith in
      let here : block_offset (reftable_entry h (contents_in view file) range) / cluster_size h ≡ at = ap (λ n. n / cluster_size h) place ∙ ap (λ n. n / cluster_size h) plus ∙ div-mul-add at (cluster_size h) 0 (pow_pos h.cluster_bits) in
      let one = subst (λ n. 1 ≤ named_by_reftable h (contents_in view file) n) here (block_has h (contents_in view file) range real) in
      let parts = shares h (contents_in view file) at in
      let tally = (crash_invariant.each_cluster at).tally in
      absurd (omega (arith, one, parts, tally, zero))

  -- a cluster that the header, the reftable or the L1 table names is in use
  pub tables_used : (p : Pending) (file : ImageFile S) (k : ℕ) → FileInvariant view p file → 0 < named_for_tables file.header.fields (contents_in view file) k → IsUsed view file k
  tables_used p file k sound some zero = let tally = (sound.caches.kept.kept.crash_invariant.each_cluster k).tally in absurd (omega (arith, some, tally, zero))

  -- cluster 0 is the header's, so it is in use
  pub header_used : (p : Pending) (file : ImageFile S) → FileInvariant view p file → IsUsed view file 0
  header_used p file sound zero =
      let h = file.header.fields in
      let one : in_cluster h 0 0 ≡ 1 = subst (λ n. in_cluster h n 0 ≡ 1) (zero-div (cluster_size h)) (in_own h 0) in
      let parts = shares h (contents_in view file) 0 in
      let tally = (sound.caches.kept.kept.crash_invariant.each_cluster 0).tally in
      absurd (omega (arith, one, parts, tally, zero))

  -- the reftable has entries, since the header's cluster is counted
  pub has_entries : (p : Pending) (file : ImageFile S) (t : EntryTableView) → FileInvariant view p file → HasReftable view file t → 0 < entry_count t
  has_entries p file t sound has =
      let h = file.header.fields in
      elim (cases_eq (block_offset (reftable_entry h (known_in view file) (0 / counts_per_block h))) 0) [
        | inl none ↦ absurd (header_used p file sound (count_none h (known_in view file) 0 none))
        | inr real ↦ let within = has_block h (known_in view file) (0 / counts_per_block h) real in let same = has.count in omega (arith, within, same)
      ]

  -- a search may begin behind the header
  pub hint_header : (p : Pending) (file : ImageFile S) (t : Allocator) (first : ℕ) → FileInvariant view p file → ((k : ℕ) → 0 < k → k < first → k < t.first_free_cluster) → NoFreeBelowHint view t file
      → NoFreeBelowHint view (record t { first_free_cluster = first }) file
  hint_header p file t first sound above hint k passed = elim passed [
    | inl below ↦ elim (cases_eq k 0) [
      | inl zero ↦ subst (IsUsed view file) (sym zero) (header_used p file sound)
      | inr some ↦ hint k (inl (above k (omega (arith, some)) below))
    ]
    | inr spared ↦ hint k (inr spared)
  ]

  -- a range without a refblock isn't the first one
  pub lacking_above : (p : Pending) (file : ImageFile S) (range : ℕ) → FileInvariant view p file → RefblockAt view file range None → 0 < range
  lacking_above p file range sound none = elim (cases_eq range 0) [
    | inl zero ↦
        let h = file.header.fields in
        let same : range ≡ 0 / counts_per_block h = zero ∙ sym (zero-div (counts_per_block h)) in
        absurd (header_used p file sound (count_none h (known_in view file) 0 (subst (λ n. block_offset (reftable_entry h (known_in view file) n) ≡ 0) same none)))
    | inr some ↦ omega (arith, some)
  ]

  -- a refblock was placed in a cluster that was taken for it
  pub hint_placed : (p : Pending) (mid new : ImageFile S) (t t' : Allocator) (range at : ℕ) (result : Result (Unit {0}) ImageError) → ((k : ℕ) → IsPassed t' k → IsPassed t k)
      → PlacesBlock view (taken_as false p (one_at at)) mid t' new p range at result → NoFreeBelowHint view t mid → KeepsNoFreeBelowHint view t' new result
  hint_placed p mid new t t' range at (Ok done) same placed hint = λ k below. elim (cases_eq k at) [
    | inl here ↦ subst (IsUsed view new) (sym here) (named_used p new range at placed.0.file_step.sound placed.1)
    | inr other ↦
        let none = none_there at k other in
        used_stays (taken_as false p (one_at at)) p mid new t' k placed.0 (omega (arith, none)) (hint k (same k below))
  ]
  hint_placed p mid new t t' range at (Err e) same placed hint = hint_refused (taken_as false p (one_at at)) mid new t t' e same placed.1 hint

  -- a range got its refblock
  pub hint_got : (p : Pending) (old new : ImageFile S) (t t' : Allocator) (result : Result (Unit {0}) ImageError) → ((k : ℕ) → IsPassed t' k → IsPassed t k) → GetsBlock view p old t' new result → NoFreeBelowHint view t old → KeepsNoFreeBelowHint view t' new result
  hint_got p old new t t' (Ok done) same gets hint = hint_stays p old new t t' gets same hint
  hint_got p old new t t' (Err e) same gets hint = hint_refused p old new t t' e same gets hint

  -- a cluster was taken, or is in use
  pub hint_raised : (p : Pending) (d : Bool) (cluster : ℕ) (old new : ImageFile S) (t t' : Allocator) (taken : Bool) → ((k : ℕ) → IsPassed t' k → IsPassed t k) → AllocatesGiven view p old t' new d cluster (Ok taken) → NoFreeBelowHint view t old → NoFreeBelowHint view t' new
  hint_raised p d cluster old new t t' true same takes hint = hint_taken p d (one_at cluster) old new t t' takes same hint
  hint_raised p d cluster old new t t' false same takes hint = hint_stays p old new t t' takes same hint

  pub raised_used : (p : Pending) (d : Bool) (cluster : ℕ) (old new : ImageFile S) (t : Allocator) (taken : Bool) → AllocatesGiven view p old t new d cluster (Ok taken) → (taken ≡ false → IsUsed view new cluster) → IsUsed view new cluster
  raised_used p d cluster old new t true takes used = taken_used p d (one_at cluster) old new t cluster takes (let own = one_here cluster in omega (arith, own))
  raised_used p d cluster old new t false takes used = used refl

  -- a count fell
  pub lowered_so : (p p' : Pending) (old new : ImageFile S) (t : Allocator) (made : Bool) → IsTrue made → DecrementsOne view p old t new p' (Ok made) → InternalAllocatorStep view p old t new p'
  lowered_so p p' old new t true so lowers = lowers
  lowered_so p p' old new t false so lowers = absurd lowers

  -- the refblock of a range stands where it stood, while nothing is written
  pub stands_still : (p p' : Pending) (file : ImageFile S) (caches : MetadataCaches S) (range block : ℕ) → FileInvariant view p file → FileInvariant view p' (record file { caches = caches }) → IsSome (rb_at caches block)
      → RefblockAt view file range (Some block) → RefblockAt view (record file { caches = caches }) range (Some block)
  stands_still p p' file caches range block sound sound' new_data at =
      let same : block_offset (reftable_entry file.header.fields (known_in view (record file { caches = caches })) range) ≡ block_offset (reftable_entry file.header.fields (known_in view file) range) =
      ap block_offset (sym (sound'.caches.kept.kept.crash_invariant.same_top.reftable range) ∙ sound.caches.kept.kept.crash_invariant.same_top.reftable range) in ((λ none. at.0 (sym same ∙ none)), same ∙ at.1, new_data)

  -- a count was lowered, which is noted where it came to 0
  pub hint_lowered : (owed : Owed) (p : Pending) (cluster : ℕ) (old new : ImageFile S) (t t' : Allocator) → InternalAllocatorStep view (owed_as owed p (one_at cluster)) old t' new p → ((k : ℕ) → IsPassed t' k → IsPassed t k)
      → (count new.header.fields (known_in view new) cluster ≡ 0 → IsPassed t' cluster → ⊥) → NoFreeBelowHint view t old → NoFreeBelowHint view t' new
  hint_lowered owed p cluster old new t t' allocator_step fewer recorded hint k passed = elim (cases_eq k cluster) [
    | inl same ↦ λ zero. recorded (subst (λ n. count new.header.fields (known_in view new) n ≡ 0) same zero) (subst (IsPassed t') same passed)
    | inr other ↦
        let none = none_there cluster k other in
        let pending = owed_pending owed p (one_at cluster) k in
        used_stays (owed_as owed p (one_at cluster)) p old new t' k allocator_step (omega (arith, none, pending)) (hint k (fewer k passed))
  ]

  -- ---- the search for the lowest run

  -- all below the first free cluster is in use
  pub lowest_first : (file : ImageFile S) (t : Allocator) (n : ℕ) → NoFreeBelowHint view t file → 0 < n → IsLowestRun (IsUsed view file) t.first_free_cluster n
  lowest_first file t n hint some start below = (start, omega arith, omega (arith, some), below, hint start (inl below))

  -- what is in use stays in use
  pub lowest_stays : (a b : ImageFile S) (first n : ℕ) → ((k : ℕ) → IsUsed view a k → IsUsed view b k) → IsLowestRun (IsUsed view a) first n → IsLowestRun (IsUsed view b) first n
  lowest_stays a b first n uses lowest start below = let at = lowest start below in (at.0, at.1, at.2, at.3, uses at.0 at.4)

  -- the search goes on behind a cluster that is in use
  pub lowest_behind : (file : ImageFile S) (first n taken : ℕ) → taken ≤ n → taken ≢ n → IsUsed view file (first + taken) → IsLowestRun (IsUsed view file) first n → IsLowestRun (IsUsed view file) (first + (taken + 1)) n
  lowest_behind file first n taken within some used lowest start below = elim (cases_lt start first) [
    | inl before ↦ let at = lowest start before in (at.0, at.1, at.2, (let lt = at.3 in omega arith), at.4)
    | inr above ↦ (first + taken, omega (arith, below), omega (arith, within, some, above), omega arith, used)
  ]

  -- it passes over clusters in use
  pub lowest_passed : (file : ImageFile S) (first next n : ℕ) → first ≤ next → 0 < n → AreUsed view file first next → IsLowestRun (IsUsed view file) first n → IsLowestRun (IsUsed view file) next n
  lowest_passed file first next n onward some used lowest start below = elim (cases_lt start first) [
    | inl before ↦ let at = lowest start before in (at.0, at.1, at.2, (let lt = at.3 in omega (arith, lt, onward)), at.4)
    | inr above ↦ (start, omega arith, omega (arith, some), below, used start above below)
  ]

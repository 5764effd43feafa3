-- Processing the list of clusters to free.
use Rattle.std.proofs.Common.{◌≡◌, ◌≢◌, ◌+◌, ◌-◌, ◌*◌, ◌/◌, ◌^◌, ◌<◌, ◌≤◌, ◌∷◌, ◌++◌, inl, inr, ℕ, Bool, true, false, cond, List, [], append-nil, Result, Ok, Err, OnOk, refl, sym, ap, ◌∙◌, subst, arith}
use Rattle.qcow2_alloc.proofs.Common.{cases_lt, StorageView, HeaderFields, Bytes, EntryTableView, HeaderReads, cluster_size, counts_per_block, count_width, reftable_entries, count, block_offset, one_at, Pending, div-le_self, lt-div-mul-add, mul-le-mul_left, pow_mono, Sizes-from, count_none, reftable_entry-past, Allocator, ClusterKind, Data, Metadata, ClustersToFreeEntry, ImageError, ImageFile, run_at, Listed, listed_as, owed_as, InternalAllocatorStep, GivesBack, Frees, run_of, of_data, of_tables, to_free, is_same, with_listed, but, contents_in, known_in, FileInvariant, AllocatorInvariant, HasReftable, RefusedFileStep}
use Rattle.qcow2_alloc.specs.ImageFile.{IsFault}
use Rattle.qcow2_alloc.proofs.AllocationSteps.{owed_counted}
use Rattle.qcow2_alloc.proofs.FileSteps.{pending_same, file_step_then, interrupted_then}
use Rattle.qcow2_alloc.proofs.Runs.{run_before, run_after, run_first}
use Rattle.qcow2_alloc.proofs.FileInvariants.{file_invariant_of}

-- ---- what is listed

listed_more : (kind : ClusterKind) (p : Pending) (m n o : ℕ → ℕ) → ((k : ℕ) → m k + n k ≡ o k) → listed_as kind (listed_as kind p m) n ≡ listed_as kind p o
listed_more Data p m n o sum = pending_same (listed_as Data (listed_as Data p m) n) (listed_as Data p o) (λ k. refl) (λ k. refl) (λ k. refl) (λ k. let s = sum k in omega arith) (λ k. refl)
listed_more Metadata p m n o sum = pending_same (listed_as Metadata (listed_as Metadata p m) n) (listed_as Metadata p o) (λ k. refl) (λ k. refl) (λ k. let s = sum k in omega arith) (λ k. refl) (λ k. refl)

-- a run without its first cluster
abbrev pub behind_first : ClustersToFreeEntry → ClusterKind → Pending → Pending
behind_first run kind p = listed_as kind p (run_at (run.first_cluster + 1) (run.count - 1))

pub listed_first : (kind : ClusterKind) (p : Pending) (run : ClustersToFreeEntry) → 0 < run.count → listed_as kind (behind_first run kind p) (one_at run.first_cluster) ≡ listed_as kind p (run_of run)
listed_first kind p run some =
    let e : run.count - 1 + 1 ≡ run.count = omega arith in
    listed_more kind p (run_at (run.first_cluster + 1) (run.count - 1)) (one_at run.first_cluster) (run_of run) (λ k. run_first run.first_cluster (run.count - 1) k ∙ ap (λ n. run_at run.first_cluster n k) e)

pub listed_rest : (kind : ClusterKind) (p : Pending) (run next : ClustersToFreeEntry) → next.first_cluster ≡ run.first_cluster + 1 → next.count ≡ run.count - 1 → behind_first run kind p ≡ listed_as kind p (run_of next)
listed_rest kind p run next first count = ap (λ n. listed_as kind p (run_at n (run.count - 1))) (sym first) ∙ ap (λ n. listed_as kind p (run_at next.first_cluster n)) (sym count)

run_empty : (first k : ℕ) → run_at first 0 k ≡ 0
run_empty first k = elim (cases_lt k first) [ inl below ↦ run_before first 0 k below | inr above ↦ run_after first 0 k (omega arith) ]

-- a run of none
pub listed_none : (kind : ClusterKind) (p : Pending) (run : ClustersToFreeEntry) → run.count ≡ 0 → listed_as kind p (run_of run) ≡ p
listed_none kind p run none = ap (λ n. listed_as kind p (run_at run.first_cluster n)) none ∙ nothing kind
  where
    nothing : (kind : ClusterKind) → listed_as kind p (run_at run.first_cluster 0) ≡ p
    nothing Data = pending_same (listed_as Data p (run_at run.first_cluster 0)) p (λ k. refl) (λ k. refl) (λ k. refl) (λ k. let z = run_empty run.first_cluster k in omega arith) (λ k. refl)
    nothing Metadata = pending_same (listed_as Metadata p (run_at run.first_cluster 0)) p (λ k. refl) (λ k. refl) (λ k. let z = run_empty run.first_cluster k in omega arith) (λ k. refl) (λ k. refl)

-- ---- lists

pub free_more : (kind : ClusterKind → ℕ → ℕ) (es fs : List ClustersToFreeEntry) (k : ℕ) → to_free kind (es ++ fs) k ≡ to_free kind es k + to_free kind fs k
free_more kind [] fs k = sym (omega arith)
free_more kind (e ∷ es) fs k = let rest = free_more kind es fs k in omega arith

pub with_one : (p : Pending) (list : List ClustersToFreeEntry) (e : ClustersToFreeEntry) → with_listed p (list ++ e ∷ []) ≡ listed_as e.kind (with_listed p list) (run_of e)
with_one p list e = of_kind e.kind refl
  where
    of_kind : (kind : ClusterKind) → e.kind ≡ kind → with_listed p (list ++ e ∷ []) ≡ listed_as kind (with_listed p list) (run_of e)
    of_kind Data is = pending_same (with_listed p (list ++ e ∷ [])) (listed_as Data (with_listed p list) (run_of e)) (λ k. refl) (λ k. refl)
        (λ k. let more = free_more of_tables list (e ∷ []) k in let one = ap (λ x. of_tables x (run_of e k)) is in omega (arith, more, one))
        (λ k. let more = free_more of_data list (e ∷ []) k in let one = ap (λ x. of_data x (run_of e k)) is in omega (arith, more, one)) (λ k. refl)
    of_kind Metadata is = pending_same (with_listed p (list ++ e ∷ [])) (listed_as Metadata (with_listed p list) (run_of e)) (λ k. refl) (λ k. refl)
        (λ k. let more = free_more of_tables list (e ∷ []) k in let one = ap (λ x. of_tables x (run_of e k)) is in omega (arith, more, one))
        (λ k. let more = free_more of_data list (e ∷ []) k in let one = ap (λ x. of_data x (run_of e k)) is in omega (arith, more, one)) (λ k. refl)

pub with_both : (p : Pending) (es fs : List ClustersToFreeEntry) → with_listed (with_listed p fs) es ≡ with_listed p (es ++ fs)
with_both p es fs = pending_same (with_listed (with_listed p fs) es) (with_listed p (es ++ fs)) (λ k. refl) (λ k. refl)
    (λ k. let more = free_more of_tables es fs k in omega (arith, more)) (λ k. let more = free_more of_data es fs k in omega (arith, more)) (λ k. refl)

pub but_first : (kind : ClusterKind) (e : ClustersToFreeEntry) (es : List ClustersToFreeEntry) → but kind (e ∷ []) ++ but kind es ≡ but kind (e ∷ es)
but_first kind e es = elim (is_same e.kind kind) as (λ (b : Bool). (cond b [] (e ∷ [])) ++ but kind es ≡ cond b (but kind es) (e ∷ but kind es)) [ true ↦ refl | false ↦ refl ]

pub but_more : (kind : ClusterKind) (es fs : List ClustersToFreeEntry) → but kind (es ++ fs) ≡ but kind es ++ but kind fs
but_more kind [] fs = refl
but_more kind (e ∷ es) fs = case (is_same e.kind kind) (but_more kind es fs)
  where
    case : (b : Bool) → but kind (es ++ fs) ≡ but kind es ++ but kind fs → cond b (but kind (es ++ fs)) (e ∷ but kind (es ++ fs)) ≡ cond b (but kind es) (e ∷ but kind es) ++ but kind fs
    case true rest = rest
    case false rest = ap (λ l. e ∷ l) rest

-- an entry of the kind more
pub but_same : (kind : ClusterKind) (es : List ClustersToFreeEntry) (e : ClustersToFreeEntry) → e.kind ≡ kind → but kind (es ++ e ∷ []) ≡ but kind es
but_same kind es e is = but_more kind es (e ∷ []) ∙ ap (λ x. but kind es ++ cond (is_same x kind) [] (e ∷ [])) is ∙ gone kind
  where
    gone : (kind : ClusterKind) → but kind es ++ cond (is_same kind kind) [] (e ∷ []) ≡ but kind es
    gone Data = append-nil (but Data es)
    gone Metadata = append-nil (but Metadata es)

-- without data and without metadata there is nothing left
pub but_both : (es : List ClustersToFreeEntry) → but Data (but Metadata es) ≡ []
but_both [] = refl
but_both (e ∷ es) = of_kind (but_both es) e.kind refl
  where
    of_kind : but Data (but Metadata es) ≡ [] → (kind : ClusterKind) → e.kind ≡ kind → but Data (cond (is_same e.kind Metadata) (but Metadata es) (e ∷ but Metadata es)) ≡ []
    of_kind rest Metadata is = ap (λ x. but Data (cond (is_same x Metadata) (but Metadata es) (e ∷ but Metadata es))) is ∙ rest
    of_kind rest Data is =
        ap (λ x. but Data (cond (is_same x Metadata) (but Metadata es) (e ∷ but Metadata es))) is
        ∙ ap (λ x. cond (is_same x Data) (but Data (but Metadata es)) (e ∷ but Data (but Metadata es))) is ∙ rest

pub on_ok : {A E P Q : Type 0} (r : Result A E) → (P → Q) → OnOk r P → OnOk r Q
on_ok (Ok a) f holds = f holds
on_ok (Err e) f holds = tt

-- ---- what is counted lies far below the greatest number

few_counts : (h : HeaderFields) (b : Bytes) → HeaderReads h b → counts_per_block h ≤ 2 ^ 24
few_counts h b reads =
    let bits : h.cluster_bits ≤ 21 = reads.well_formed.in_range.cluster_bits.1 in
    let size : cluster_size h ≤ 2 ^ 21 = pow_mono bits in
    let less = div-le_self (cluster_size h * 8) (count_width h) in
    omega (arith, size, less)

pub counted_small : (h : HeaderFields) (b known : Bytes) (c : ℕ) → HeaderReads h b → count h known c ≢ 0 → c < 2 ^ 63
counted_small h b known c reads some = elim (cases_lt (c / counts_per_block h) (reftable_entries h)) [
  | inl within ↦
      let few = few_counts h b reads in
      let limits = reads.within_limits.few_reftable_entries in
      let le : c / counts_per_block h + 1 ≤ 1048576 = omega arith in
      let below = lt-div-mul-add {a = c} (Sizes-from h b reads).counts in
      let most = mul-le-mul_left (counts_per_block h) le in
      omega (arith, below, most, few)
  | inr past ↦ absurd (some (count_none h known c (ap block_offset (reftable_entry-past h known (c / counts_per_block h) past))))
]

module _ {S : Type 0} (view : S → StorageView) where
  -- ---- one step after another

  pub allocator_step_on : (p q r : Pending) (a b c : ImageFile S) (t t' : Allocator) → ((k : ℕ) → 0 < p.new_data k → 0 < q.new_data k) → InternalAllocatorStep view p a t b q → InternalAllocatorStep view q b t' c r → InternalAllocatorStep view p a t' c r
  allocator_step_on p q r a b c t t' new_data first second = record { file_step = file_step_then view p q r a b c new_data first.file_step second.file_step; reftable = second.reftable }

  -- a fault left it where it was, or it broke off
  pub frees_refused : (p q : Pending) (a b c : ImageFile S) (t t' : Allocator) (e : ImageError) → ((k : ℕ) → 0 < p.new_data k → 0 < q.new_data k) → InternalAllocatorStep view p a t b q → IsFault e → RefusedFileStep view q b t' c e → Frees view p a t' c q (Err e)
  frees_refused p q a b c t t' e new_data first fault left = (
    fault,
    elim left [
      | inl sound ↦ inl (record { file_step = file_step_then view p q q a b c new_data first.file_step sound.0; reftable = sound.1 })
      | inr interrupted ↦ inr (interrupted_then view p q a b c e first.file_step interrupted)
    ],
  )

  -- ---- another list

  sound_relisted : (p : Pending) (a : ImageFile S) (l : List ClustersToFreeEntry) → FileInvariant view p a → FileInvariant view p (record a { free_list = l })
  sound_relisted p a l sound = file_invariant_of sound.honest sound.caches sound.named_blocks sound.room

  reftable_relisted : (a : ImageFile S) (l : List ClustersToFreeEntry) (t : EntryTableView) → HasReftable view a t → HasReftable view (record a { free_list = l }) t
  reftable_relisted a l t has = record { cluster = has.cluster; bits = has.bits; count = has.count; entries = has.entries }

  pub with_relisted : (p : Pending) (a : ImageFile S) (t : Allocator) (l : List ClustersToFreeEntry) → AllocatorInvariant view t p a → AllocatorInvariant view t p (record a { free_list = l })
  with_relisted p a t l sound = record { sound = sound_relisted p a l sound.sound; reftable = reftable_relisted a l t.reftable sound.reftable }

  pub allocator_step_to : (p q : Pending) (a b : ImageFile S) (t : Allocator) (l : List ClustersToFreeEntry) → InternalAllocatorStep view p a t b q → InternalAllocatorStep view p a t (record b { free_list = l }) q
  allocator_step_to p q a b t l first = record {
    file_step = record { sound = sound_relisted q b l first.file_step.sound; safe_step = first.file_step.safe_step; since = first.file_step.since; unseen = first.file_step.unseen; l1_table = first.file_step.l1_table; counts = first.file_step.counts };
    reftable = reftable_relisted b l t.reftable first.reftable;
  }

  pub allocator_step_from : (p q : Pending) (a b : ImageFile S) (t : Allocator) (l : List ClustersToFreeEntry) → InternalAllocatorStep view p (record a { free_list = l }) t b q → InternalAllocatorStep view p a t b q
  allocator_step_from p q a b t l first = record {
    file_step = record { sound = first.file_step.sound; safe_step = first.file_step.safe_step; since = first.file_step.since; unseen = first.file_step.unseen; l1_table = first.file_step.l1_table; counts = first.file_step.counts };
    reftable = first.reftable;
  }

  -- what is pending before and afterwards, said in another way, and with another list
  pub frees_as : (p p' q q' : Pending) (a b : ImageFile S) (t : Allocator) (l m : List ClustersToFreeEntry) (result : Result (Unit {0}) ImageError) → p ≡ p' → q ≡ q' → Frees view p (record a { free_list = l }) t b q result
      → Frees view p' a t (record b { free_list = m }) q' result
  frees_as p p' q q' a b t l m (Ok _) before after frees =
      subst (λ (r : Pending). InternalAllocatorStep view r a t (record b { free_list = m }) q') before (subst (λ (r : Pending). InternalAllocatorStep view p a t (record b { free_list = m }) r) after (allocator_step_to p q a b t m (allocator_step_from p q a b t l frees)))
  frees_as p p' q q' a b t l m (Err e) before after frees = (
    frees.0,
    elim frees.1 [
      | inl left ↦ inl (subst (λ (r : Pending). InternalAllocatorStep view r a t (record b { free_list = m }) q') before (subst (λ (r : Pending). InternalAllocatorStep view p a t (record b { free_list = m }) r) after (allocator_step_to p q a b t m (allocator_step_from p q a b t l left))))
      | inr interrupted ↦ inr (record { fault = interrupted.fault; recorded = interrupted.recorded; since = interrupted.since })
    ],
  )

  pub frees_then : (p q r : Pending) (a b c : ImageFile S) (t t' : Allocator) (result : Result (Unit {0}) ImageError) → ((k : ℕ) → 0 < p.new_data k → 0 < q.new_data k) → InternalAllocatorStep view p a t b q → Frees view q b t' c r result → Frees view p a t' c r result
  frees_then p q r a b c t t' (Ok _) new_data first second = allocator_step_on p q r a b c t t' new_data first second
  frees_then p q r a b c t t' (Err e) new_data first second = (
    second.0,
    elim second.1 [
      | inl left ↦ inl (allocator_step_on p q r a b c t t' new_data first left)
      | inr interrupted ↦ inr (interrupted_then view p q a b c e first.file_step interrupted)
    ],
  )

  -- ---- a run
  module _ (kind : ClusterKind) (p : Pending) (run : ClustersToFreeEntry) (some : 0 < run.count) where
    abbrev listed_run : Pending
    listed_run = listed_as kind p (run_of run)

    first_small : (file : ImageFile S) → FileInvariant view listed_run file → run.first_cluster + 1 < 2 ^ 64
    first_small file sound =
        let small = counted_small file.header.fields (contents_in view file) (known_in view file) run.first_cluster sound.caches.kept.kept.crash_invariant.top.header_reads
        (owed_counted view (Listed kind) (behind_first run kind p) run.first_cluster listed_run file (sym (listed_first kind p run some)) sound) in
        omega arith

    module _ (at : ℕ) (is : at ≡ run.first_cluster) where
      abbrev owed_run : Pending
      owed_run = owed_as (Listed kind) (behind_first run kind p) (one_at at)

      owed_is : owed_run ≡ listed_run
      owed_is = ap (λ n. listed_as kind (behind_first run kind p) (one_at n)) is ∙ listed_first kind p run some

      -- its first cluster is owed
      pub first_owed : (file : ImageFile S) (t : Allocator) → AllocatorInvariant view t listed_run file → AllocatorInvariant view t owed_run file
      first_owed file t sound = subst (λ (r : Pending). AllocatorInvariant view t r file) (sym owed_is) sound

      module _ (q : Pending) (new_data : (k : ℕ) → 0 < q.new_data k → 0 < listed_run.new_data k) (a b c : ImageFile S) (t t' : Allocator) (before : InternalAllocatorStep view q a t b listed_run) where
        -- it can't be lowered
        pub run_refused : (e : ImageError) → GivesBack view owed_run b t' c (behind_first run kind p) (Err e) → Frees view q a t' c listed_run (Err e)
        run_refused e low = frees_refused q listed_run a b c t t' e new_data before low.0 (subst (λ (r : Pending). RefusedFileStep view r b t' c e) owed_is low.1)

        -- it is freed
        pub run_freed : (next : ClustersToFreeEntry) → (run.first_cluster + 1 < 2 ^ 64 → next.first_cluster ≡ run.first_cluster + 1) → next.count ≡ run.count - 1 → InternalAllocatorStep view owed_run b t' c (behind_first run kind p)
            → InternalAllocatorStep view q a t' c (listed_as kind p (run_of next))
        run_freed next first count low =
            let after = subst (λ (r : Pending). InternalAllocatorStep view r b t' c (behind_first run kind p)) owed_is low in
            allocator_step_on q listed_run (listed_as kind p (run_of next)) a b c t t' new_data before
            (subst (λ (r : Pending). InternalAllocatorStep view listed_run b t' c r) (listed_rest kind p run next (first (first_small b before.file_step.sound)) count) after)

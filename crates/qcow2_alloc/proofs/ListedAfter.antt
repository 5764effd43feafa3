-- What replacing the reftable changes besides the table: the header points to the longer one, and the clusters of the old one are listed. What several such steps change.
use Rattle.std.proofs.Common.{◌≡◌, ◌+◌, ◌<◌, ◌++◌, ℕ, Bool, true, false, List, [], append_assoc, append-nil, Result, Ok, Err, IsTrue, inl, inr, refl, sym, ap, ◌∙◌, subst, arith}
use Rattle.qcow2_alloc.proofs.Common.{is_changed_of, or_right, HeaderView, counts_per_block, with_fields, with_reftable, one_at, Pending, KeepsFormat, ClusterKind, Metadata, ClustersToFreeEntry, Allocator, ImageError, ImageFile, StorageView, run_at, taken_as, InternalAllocatorGrowth, GetsBlock, GrowsTable, RefusedGrowth, of_data, of_tables, to_free, pending_then, but, ListsTables, KeepsHeader, InterruptedFileStep}
use Rattle.qcow2_alloc.specs.ImageFile.{IsFault}
use Rattle.qcow2_alloc.proofs.AllocationSteps.{on_of, allocator_step_on, leaves_as, leaves_on}
use Rattle.qcow2_alloc.proofs.FileSteps.{pending_same, safe_throughout_then}
use Rattle.qcow2_alloc.proofs.Runs.{new_data_more, taken_last}
use Rattle.qcow2_alloc.proofs.Freeing.{free_more, but_more}

-- ---- the header
pub header_same : (h h' : HeaderView) → h' ≡ h → KeepsHeader h h'
header_same h h' e = e ∙ ap (λ (k : HeaderView). with_fields h (with_reftable h.fields k.fields.reftable_offset k.fields.reftable_clusters)) (sym e)

pub header_then : (a b c : HeaderView) → KeepsHeader a b → KeepsHeader b c → KeepsHeader a c
header_then a b c first then = then ∙ ap (λ (k : HeaderView). with_fields k (with_reftable k.fields c.fields.reftable_offset c.fields.reftable_clusters)) first

module _ (h h' : HeaderView) (e : KeepsHeader h h') where
  pub header_format : KeepsFormat h.fields h'.fields
  header_format = ap (λ (k : HeaderView). k.fields) e

  pub header_bits : h'.fields.cluster_bits ≡ h.fields.cluster_bits
  header_bits = ap (λ (k : HeaderView). k.fields.cluster_bits) e

  pub header_counts : counts_per_block h'.fields ≡ counts_per_block h.fields
  header_counts = ap (λ (k : HeaderView). counts_per_block k.fields) e

-- ---- the list
pub lists_none : (list : List ClustersToFreeEntry) → ListsTables list list
lists_none list = record { more = []; is = sym (append-nil list); tables = refl }

pub lists_same : (old new : List ClustersToFreeEntry) → new ≡ old → ListsTables old new
lists_same old new e = record { more = []; is = e ∙ sym (append-nil old); tables = refl }

pub lists_then : (a b c : List ClustersToFreeEntry) → ListsTables a b → ListsTables b c → ListsTables a c
lists_then a b c first then = record {
  more = first.more ++ then.more;
  is = then.is ∙ ap (λ (l : List ClustersToFreeEntry). l ++ then.more) first.is ∙ append_assoc a first.more then.more;
  tables = but_more Metadata first.more then.more ∙ ap (λ (l : List ClustersToFreeEntry). l ++ but Metadata then.more) first.tables ∙ then.tables;
}

-- no cluster is listed less often
listed_on : (kind : ClusterKind → ℕ → ℕ) (old new : List ClustersToFreeEntry) (lists : ListsTables old new) (k : ℕ) → to_free kind new k ≡ to_free kind old k + to_free kind lists.more k
listed_on kind old new lists k = ap (λ (l : List ClustersToFreeEntry). to_free kind l k) lists.is ∙ free_more kind old lists.more k

-- ---- what is pending
pub listed_after_same : (p : Pending) (old new : List ClustersToFreeEntry) → new ≡ old → pending_then p old new ≡ p
listed_after_same p old new e = ap (pending_then p old) e ∙ pending_same (pending_then p old old) p (λ k. refl) (λ k. refl) (λ k. omega arith) (λ k. omega arith) (λ k. refl)

pub listed_after_then : (p : Pending) (a b c : List ClustersToFreeEntry) → ListsTables a b → ListsTables b c → pending_then (pending_then p a b) b c ≡ pending_then p a c
listed_after_then p a b c first then =
    pending_same (pending_then (pending_then p a b) b c) (pending_then p a c) (λ k. refl) (λ k. refl)
    (λ k. let one = listed_on of_tables a b first k in let two = listed_on of_tables b c then k in omega arith)
    (λ k. let one = listed_on of_data a b first k in let two = listed_on of_data b c then k in omega arith)
    (λ k. refl)

-- it is listed beside what was taken
taken_listed_after : (d : Bool) (p : Pending) (old new : List ClustersToFreeEntry) (n : ℕ → ℕ) → pending_then (taken_as d p n) old new ≡ taken_as d (pending_then p old new) n
taken_listed_after true p old new n = refl
taken_listed_after false p old new n = refl

pub listed_after_taken : (d : Bool) (p : Pending) (a b c : List ClustersToFreeEntry) (n : ℕ → ℕ) → ListsTables a b → ListsTables b c → pending_then (taken_as d (pending_then p a b) n) b c ≡ taken_as d (pending_then p a c) n
listed_after_taken d p a b c n first then = taken_listed_after d (pending_then p a b) b c n ∙ ap (λ (q : Pending). taken_as d q n) (listed_after_then p a b c first then)

-- ---- a step in which a range gets its refblock
module _ {S : Type 0} (view : S → StorageView) where
  pub grows_none : (p : Pending) (a b : ImageFile S) (t : Allocator) (result : Result (Unit {0}) ImageError) → GetsBlock view p a t b result → GrowsTable view p a t b p result
  grows_none p a b t (Ok done) gets = on_of view p p a b t gets
  grows_none p a b t (Err e) gets = leaves_as view p a b t e gets

  pub grows_on : (p q : Pending) (a b c : ImageFile S) (t t' : Allocator) (result : Result (Unit {0}) ImageError) → ((k : ℕ) → 0 < p.new_data k → 0 < q.new_data k) → InternalAllocatorGrowth view p a t b q → GetsBlock view q b t' c result
      → GrowsTable view p a t' c q result
  grows_on p q a b c t t' (Ok done) new_data first second = allocator_step_on view p q q a b c t t' new_data first (on_of view q q b c t' second)
  grows_on p q a b c t t' (Err e) new_data first second = leaves_on view p q q a b c t t' e new_data first (leaves_as view q b c t' e second)

-- ---- a step after a run was taken, or before one is
module _ {S : Type 0} (view : S → StorageView) (d : Bool) (p : Pending) (n : ℕ → ℕ) (a b c : ImageFile S) (t t' : Allocator) (first : ListsTables a.free_list b.free_list) (then : ListsTables b.free_list c.free_list) where
  abbrev so_far : Pending
  so_far = taken_as d (pending_then p a.free_list b.free_list) n

  pub new_data_so_far : (k : ℕ) → 0 < p.new_data k → 0 < so_far.new_data k
  new_data_so_far k some = new_data_more d (pending_then p a.free_list b.free_list) n k some

  -- the run is taken still
  pub still_taken : InternalAllocatorGrowth view p a t b so_far → InternalAllocatorGrowth view so_far b t' c (pending_then so_far b.free_list c.free_list) → InternalAllocatorGrowth view p a t' c (taken_as d (pending_then p a.free_list c.free_list) n)
  still_taken before step =
      subst (λ (r : Pending). InternalAllocatorGrowth view p a t' c r) (listed_after_taken d p a.free_list b.free_list c.free_list n first then)
      (allocator_step_on view p so_far (pending_then so_far b.free_list c.free_list) a b c t t' new_data_so_far before step)

  -- one more cluster is taken
  pub more_taken : (from count : ℕ) → n ≡ run_at from count → InternalAllocatorGrowth view p a t b so_far → InternalAllocatorGrowth view so_far b t' c (taken_as d (pending_then so_far b.free_list c.free_list) (one_at (from + count)))
      → InternalAllocatorGrowth view p a t' c (taken_as d (pending_then p a.free_list c.free_list) (run_at from (count + 1)))
  more_taken from count is before step =
      subst (λ (r : Pending). InternalAllocatorGrowth view p a t' c r)
      (ap (λ (q : Pending). taken_as d q (one_at (from + count))) (listed_after_taken d p a.free_list b.free_list c.free_list n first then)
      ∙ ap (λ m. taken_as d (taken_as d (pending_then p a.free_list c.free_list) m) (one_at (from + count))) is
      ∙ taken_last d (pending_then p a.free_list c.free_list) from count)
      (allocator_step_on view p so_far (taken_as d (pending_then so_far b.free_list c.free_list) (one_at (from + count))) a b c t t' new_data_so_far before step)

  -- a fault after a change that was noted breaks off
  pub ends_taken : (e : ImageError) → InternalAllocatorGrowth view p a t b so_far → IsFault e → IsTrue c.caches.is_changed → (r : Pending) → RefusedGrowth view so_far b t' c r e → InterruptedFileStep view a c e
  ends_taken e before fault recorded r step = record {
    fault = fault;
    recorded = λ _. or_right (is_changed_of c.storage) c.caches.is_changed recorded;
    since = elim step [
      | inl sound ↦ safe_throughout_then view a b c before.file_step.since before.file_step.safe_step.known sound.file_step.since
      | inr interrupted ↦ safe_throughout_then view a b c before.file_step.since before.file_step.safe_step.known interrupted.since
    ];
  }

module _ {S : Type 0} (view : S → StorageView) (p : Pending) (a b c : ImageFile S) (t t' : Allocator) (first : ListsTables a.free_list b.free_list) (then : ListsTables b.free_list c.free_list)
    (before : InternalAllocatorGrowth view p a t b (pending_then p a.free_list b.free_list)) where
  -- what is pending, as a step of its own tells it
  since_then : pending_then (pending_then p a.free_list b.free_list) b.free_list c.free_list ≡ pending_then p a.free_list c.free_list
  since_then = listed_after_then p a.free_list b.free_list c.free_list first then

  pub then_none : InternalAllocatorGrowth view (pending_then p a.free_list b.free_list) b t' c (pending_then (pending_then p a.free_list b.free_list) b.free_list c.free_list) → InternalAllocatorGrowth view p a t' c (pending_then p a.free_list c.free_list)
  then_none step =
      subst (λ (r : Pending). InternalAllocatorGrowth view p a t' c r) since_then
      (allocator_step_on view p (pending_then p a.free_list b.free_list) (pending_then (pending_then p a.free_list b.free_list) b.free_list c.free_list) a b c t t' (λ k some. some) before step)

  pub then_taken : (d : Bool) (n : ℕ → ℕ) → InternalAllocatorGrowth view (pending_then p a.free_list b.free_list) b t' c (taken_as d (pending_then (pending_then p a.free_list b.free_list) b.free_list c.free_list) n)
      → InternalAllocatorGrowth view p a t' c (taken_as d (pending_then p a.free_list c.free_list) n)
  then_taken d n step =
      subst (λ (r : Pending). InternalAllocatorGrowth view p a t' c (taken_as d r n)) since_then
      (allocator_step_on view p (pending_then p a.free_list b.free_list) (taken_as d (pending_then (pending_then p a.free_list b.free_list) b.free_list c.free_list) n) a b c t t' (λ k some. some) before step)

  pub then_leaves : (e : ImageError) → RefusedGrowth view (pending_then p a.free_list b.free_list) b t' c (pending_then (pending_then p a.free_list b.free_list) b.free_list c.free_list) e → RefusedGrowth view p a t' c (pending_then p a.free_list c.free_list) e
  then_leaves e step =
      subst (λ (r : Pending). RefusedGrowth view p a t' c r e) since_then
      (leaves_on view p (pending_then p a.free_list b.free_list) (pending_then (pending_then p a.free_list b.free_list) b.free_list c.free_list) a b c t t' e (λ k some. some) before step)

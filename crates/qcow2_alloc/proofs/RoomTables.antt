-- A longer reftable is written after its refblocks, and is then ready.
use Rattle.std.proofs.Common.{◌≡◌, ◌+◌, ◌*◌, ◌/◌, ◌%◌, ◌<◌, ◌≤◌, ℕ, List, None, Result, Ok, Err, sym, ◌∙◌, subst, arith, inl, inr}
use Rattle.qcow2_alloc.proofs.Common.{KeepsUsed, mod_below, StorageView, Bytes, HeaderFields, cluster_size, counts_per_block, block_offset, EntryTableView, entry_at, AreClean, BlocksMayGo, Pending, SameIn, Sizes, block_count-moved, in_one, Allocator, ImageError, ImageFile, run_at, HasBytesAt, InternalAllocatorStep, InternalAllocatorGrowth, with_run, without_reftable, IsGrown, StandsGrown, NamesReftable, contents_in, AllocatorInvariant, RefusedFileStep, order_of, l2_tables, refblocks, rb_at, WritesTable}
use Rattle.qcow2_alloc.proofs.Hints.{used_stays}
use Rattle.qcow2_alloc.proofs.AllocationSteps.{on_of, allocator_step_on}
use Rattle.qcow2_alloc.proofs.FileSteps.{leaves_then}
use Rattle.qcow2_alloc.specs.ImageFile.{IsFault}
use Rattle.qcow2_alloc.proofs.PlacedRooms.{Counting}
use Rattle.qcow2_alloc.proofs.RoomSteps.{run_within}
use Rattle.qcow2_alloc.proofs.Runs.{run_before, run_in}

-- the refblocks of a room stand where they stood, while the clusters behind them are written
pub counting_beside : (h : HeaderFields) (sizes : Sizes h) (b b' : Bytes) (old t : EntryTableView) (first blocks clusters n : ℕ) → IsGrown h old t first blocks clusters → Counting h b old t first n
    → ((c : ℕ) → run_at (first + blocks) clusters c ≡ 0 → SameIn (cluster_size h) c b b') → Counting h b' old t first n
counting_beside h sizes b b' old t first blocks clusters n grown before outside c none some =
    let place : ℕ = block_offset (entry_at t.bytes (c / counts_per_block h)) in
    let within = run_within first blocks (place / cluster_size h) (grown.placed (c / counts_per_block h) none some) in
    let apart : run_at (first + blocks) clusters (place / cluster_size h) ≡ 0 = run_before (first + blocks) clusters (place / cluster_size h) within.1 in
    sym (block_count-moved h b b' place place (c % counts_per_block h) sizes (mod_below c (counts_per_block h) sizes.counts) (λ k lt.
    outside (place / cluster_size h) apart (place + k) (in_one (cluster_size h) place k (grown.aligned (c / counts_per_block h)) lt)))
    ∙ before c none some

-- the counts in a room's refblocks stay while the clusters of these refblocks stay
pub counting_still : (h : HeaderFields) (sizes : Sizes h) (b b' : Bytes) (old t : EntryTableView) (first blocks clusters n : ℕ) → IsGrown h old t first blocks clusters → Counting h b old t first n
    → ((c : ℕ) → 0 < run_at first blocks c → SameIn (cluster_size h) c b b') → Counting h b' old t first n
counting_still h sizes b b' old t first blocks clusters n grown before same c none some =
    let place : ℕ = block_offset (entry_at t.bytes (c / counts_per_block h)) in
    sym (block_count-moved h b b' place place (c % counts_per_block h) sizes (mod_below c (counts_per_block h) sizes.counts) (λ k lt.
    same (place / cluster_size h) (grown.placed (c / counts_per_block h) none some) (place + k) (in_one (cluster_size h) place k (grown.aligned (c / counts_per_block h)) lt)))
    ∙ before c none some

-- the start of a run is a part of it
pub in_longer : (first blocks n c : ℕ) → blocks ≤ n → 0 < run_at first blocks c → 0 < run_at first n c
in_longer first blocks n c le some =
    let within = run_within first blocks c some in
    let low = within.0 in
    let high = within.1 in
    let one = run_in first n c low (omega (arith, high, le)) in
    omega (arith, one)

module _ {S : Type 0} (view : S → StorageView) (p : Pending) (first n : ℕ) (a : Allocator) (f f' : ImageFile S) (cluster clusters : ℕ) (bytes : List ℕ) (h : HeaderFields) (same : f.header.fields ≡ h) where
  -- what a write of a table says, with the header that the file has all along
  pub table_err : (e : ImageError) → (AllocatorInvariant view a (with_run p f.header.fields a.reftable first n) f → WritesTable view (with_run p f.header.fields a.reftable first n) f a f' cluster clusters bytes (Err e))
      → AllocatorInvariant view a (with_run p h a.reftable first n) f → IsFault e × RefusedFileStep view (with_run p h a.reftable first n) f a f' e
  table_err e clause sound = subst (λ (k : HeaderFields). AllocatorInvariant view a (with_run p k a.reftable first n) f → IsFault e × RefusedFileStep view (with_run p k a.reftable first n) f a f' e) same clause sound

  pub table_ok : (x : Unit {0}) → (AllocatorInvariant view a (with_run p f.header.fields a.reftable first n) f → WritesTable view (with_run p f.header.fields a.reftable first n) f a f' cluster clusters bytes (Ok x))
      → AllocatorInvariant view a (with_run p h a.reftable first n) f
      → InternalAllocatorStep view (with_run p h a.reftable first n) f a f' (with_run p h a.reftable first n) × HasBytesAt (contents_in view f') (cluster * cluster_size h) bytes
      × ((c : ℕ) → run_at cluster clusters c ≡ 0 → SameIn (cluster_size h) c (contents_in view f) (contents_in view f'))
  table_ok x clause sound =
      subst (λ (k : HeaderFields). AllocatorInvariant view a (with_run p k a.reftable first n) f
      → InternalAllocatorStep view (with_run p k a.reftable first n) f a f' (with_run p k a.reftable first n) × HasBytesAt (contents_in view f') (cluster * cluster_size k) bytes
      × ((c : ℕ) → run_at cluster clusters c ≡ 0 → SameIn (cluster_size k) c (contents_in view f) (contents_in view f'))) same (λ s. let w = clause s in (w.allocator_step, w.stands, w.outside)) sound

-- all of it stands ready
pub stands_ready : {S : Type 0} (view : S → StorageView) (file : ImageFile S) (h : HeaderFields) (old t : EntryTableView) (first blocks clusters : ℕ) → h ≡ file.header.fields → IsGrown h old t first blocks clusters
    → HasBytesAt (contents_in view file) ((first + blocks) * cluster_size h) t.bytes → Counting h (contents_in view file) old t first (blocks + clusters) → AreClean (refblocks file.caches) → BlocksMayGo (order_of file.caches) (l2_tables file.caches)
    → ((c : ℕ) → 0 < run_at first blocks c → rb_at file.caches c ≡ None) → StandsGrown view file old t first blocks clusters
stands_ready view file h old t first blocks clusters same grown stands counts clean may uncached = record {
  grown = subst (λ (k : HeaderFields). IsGrown k old t first blocks clusters) same grown;
  stands = subst (λ (k : HeaderFields). HasBytesAt (contents_in view file) ((first + blocks) * cluster_size k) t.bytes) same stands;
  counts = subst (λ (k : HeaderFields). Counting k (contents_in view file) old t first (blocks + clusters)) same counts;
  clean = clean;
  may = may;
  uncached = uncached;
}

-- after steps that leave the same pending
pub uses_after : {S : Type 0} (view : S → StorageView) (q : Pending) (a b c : ImageFile S) (t : Allocator) (result : Result (Unit {0}) ImageError) → InternalAllocatorStep view q a t b q → KeepsUsed view b c result → KeepsUsed view a c result
uses_after view q a b c t (Ok x) first uses = λ k used. uses k (used_stays view q q a b t k first (omega arith) used)
uses_after view q a b c t (Err e) first uses = elim uses [ inl kept ↦ inl (λ k used. kept k (used_stays view q q a b t k first (omega arith) used)) | inr interruption ↦ inr interruption ]

-- the pointer is written after those
pub names_then : {S : Type 0} (view : S → StorageView) (p : Pending) (a b c : ImageFile S) (u u' : Allocator) (t : EntryTableView) (first n : ℕ) → b.header.fields ≡ a.header.fields → (result : Result (Unit {0}) ImageError)
    → InternalAllocatorStep view (with_run p a.header.fields t first n) a u b (with_run p a.header.fields t first n) → NamesReftable view (with_run p b.header.fields t first n) p b u' c result → NamesReftable view (with_run p a.header.fields t first n) p a u' c result
names_then view p a b c u u' t first n same (Ok x) before names =
    let q : Pending = with_run p a.header.fields t first n in
    allocator_step_on view q q (without_reftable p a.header.fields) a b c u u' (λ k some. some) (on_of view q q a b u before)
    (subst (λ (k : HeaderFields). InternalAllocatorGrowth view (with_run p k t first n) b u' c (without_reftable p k)) same names)
names_then view p a b c u u' t first n same (Err e) before names = (names.0, leaves_then view (with_run p a.header.fields t first n) a b c u' e before.file_step (subst (λ (k : HeaderFields). RefusedFileStep view (with_run p k t first n) b u' c e) same names.1))

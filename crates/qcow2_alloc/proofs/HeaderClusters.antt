-- Writes past cluster 0 leave the bytes of cluster 0 the same.
use Rattle.std.proofs.Common.{◌≡◌, ◌⊎◌, ◌*◌, ◌/◌, ◌^◌, ◌<◌, ◌≤◌, inl, inr, ℕ, false, true, List, Option, Some, None, Result, IsSome, refl, sym, ap, ◌∙◌, arith, IfSome}
use Rattle.qcow2_alloc.proofs.Common.{div-add-mod', mod_below, mul-le, pow_pos, overwritten, StorageView, Calls, QuietCalls, Changes, ContentsStay, StorageError, byte_at-overwritten_below, passes_none, passes_on, passes_if, whole_or_nothing, byte_at, storage_of, WritesPlaced, ImageStorage, IsInHeaderCluster, SameAt, BytesStay, KeepsHeaderCluster}

-- a byte of cluster 0 lies below each other cluster
pub below_others : (bits c o : ℕ) → 0 < c → o / 2 ^ bits ≡ 0 → o < c * 2 ^ bits
below_others bits c o above in_first =
    let split = div-add-mod' o (2 ^ bits) in
    let none : o / 2 ^ bits * 2 ^ bits ≡ 0 * 2 ^ bits = ap (λ q. q * 2 ^ bits) in_first in
    let low = mod_below o (2 ^ bits) (pow_pos bits) in
    let first : 1 * 2 ^ bits ≤ c * 2 ^ bits = mul-le 1 (2 ^ bits) c (2 ^ bits) (omega (arith, above)) (omega arith) in
    omega (arith, split, none, low, first)

-- ---- bytes that stay, call after call
module _ (IsKept : ℕ → Type 0) where
  pub bytes_stay : (v : StorageView) → BytesStay IsKept v v
  bytes_stay v = record { moments = passes_none v _; contents = λ o kept. refl }

  pub bytes_then : (a b c : StorageView) → BytesStay IsKept a b → BytesStay IsKept b c → BytesStay IsKept a c
  bytes_then a b c first then = record {
    moments = passes_on _ first.moments then.moments (λ l same o kept. first.contents o kept ∙ same o kept);
    contents = λ o kept. first.contents o kept ∙ then.contents o kept;
  }

  pub fewer_stay : (IsLess : ℕ → Type 0) (a b : StorageView) → ((o : ℕ) → IsLess o → IsKept o) → BytesStay IsKept a b → BytesStay IsLess a b
  fewer_stay IsLess a b less stay = record {
    moments = passes_if _ (λ l same o kept. same o (less o kept)) stay.moments;
    contents = λ o kept. stay.contents o (less o kept);
  }

  -- one call of a storage that keeps them
  pub call_keeps : {T : Type 0} (a b : StorageView) (result : Result T StorageError) → Calls a b result → a.is_honest → SameAt IsKept a.contents b.contents → BytesStay IsKept a b
  call_keeps a b result calls honest same = record {
    moments = passes_if _ (λ l is o kept. same o kept ∙ ap (λ m. byte_at m o) (sym is)) (calls.time honest);
    contents = same;
  }

  -- one that changes nothing
  pub quiet_keeps : {T : Type 0} (a b : StorageView) (result : Result T StorageError) → QuietCalls a b result → ContentsStay a b → a.is_honest → BytesStay IsKept a b
  quiet_keeps a b result calls keeps honest =
      let same : SameAt IsKept a.contents b.contents = λ o kept. ap (λ m. byte_at m o) (sym (keeps honest)) in
      record { moments = passes_if _ (λ l is o kept. same o kept ∙ ap (λ m. byte_at m o) (sym is)) calls.time; contents = same }

  pub same_kept : (old new : List ℕ) → new ≡ old → SameAt IsKept old new
  same_kept old new is o kept = ap (λ l. byte_at l o) (sym is)

  -- what is written above all of them, or isn't
  pub above_kept : (old new : List ℕ) (at : ℕ) (bytes : List ℕ) → ((o : ℕ) → IsKept o → o < at) → (new ≡ old) ⊎ (new ≡ overwritten old at bytes) → SameAt IsKept old new
  above_kept old new at bytes above (inl is) = same_kept old new is
  above_kept old new at bytes above (inr is) = λ o kept. sym (ap (λ l. byte_at l o) is ∙ byte_at-overwritten_below old at bytes o (above o kept))

  pub wrote_above : {T : Type 0} (old new : StorageView) (result : Result T StorageError) (at : ℕ) (bytes : List ℕ) → ((o : ℕ) → IsKept o → o < at)
      → Changes old new result (λ b. overwritten b at bytes) → Calls old new result → old.is_honest → BytesStay IsKept old new
  wrote_above old new result at bytes above written calls honest =
      call_keeps old new result calls honest (above_kept old.contents new.contents at bytes above (whole_or_nothing result old.contents (overwritten old.contents at bytes) new.contents (written honest)))

-- a table that is written to another cluster
pub placed_elsewhere : {S : Type 0} {view : S → StorageView} {old new : ImageStorage S} {result : Result (Unit {0}) StorageError} (bits : ℕ) (bytes : List ℕ) (cluster : Option ℕ) → IsSome cluster → IfSome cluster (λ c. 0 < c)
    → WritesPlaced view old new cluster result (λ c b. overwritten b (c * 2 ^ bits) bytes) → KeepsHeaderCluster bits (view (storage_of old)) (view (storage_of new))
placed_elsewhere bits bytes None some above writes = absurd (let e : false ≡ true = some in cc)
placed_elsewhere {S} {view} {old} {new} {result} bits bytes (Some c) some above writes =
    wrote_above (IsInHeaderCluster bits) (view (storage_of old)) (view (storage_of new)) result (c * 2 ^ bits) bytes (λ o in_first. below_others bits c o above in_first) writes.written writes.calls

pub header_cluster_none : (bits : ℕ) (now : StorageView) → KeepsHeaderCluster bits now now
header_cluster_none bits now = λ honest. bytes_stay (IsInHeaderCluster bits) now

pub header_cluster_then : (bits : ℕ) (old mid new : StorageView) → KeepsHeaderCluster bits old mid → KeepsHeaderCluster bits mid new → KeepsHeaderCluster bits old new
header_cluster_then bits old mid new one two = λ honest. let first = one honest in bytes_then (IsInHeaderCluster bits) old mid new first (two (first.moments.honest honest))

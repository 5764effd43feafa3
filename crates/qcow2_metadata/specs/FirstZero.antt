-- Searching a refblock for a refcount of 0.
use Rattle.std.specs.Prelude.{◌≡◌, ◌≢◌, ℕ, ◌<◌, ◌≤◌}
use Rattle.qcow2_metadata.specs.RefBlock.{RefBlockView, count_at, counts_of, IsRefBlock}

-- Every refcount from one index up to, not including, another is above 0.
abbrev pub AreAboveZero : RefBlockView → ℕ → ℕ → Type 0
AreAboveZero block from end = (k : ℕ) → from ≤ k → k < end → count_at block k ≢ 0

-- The first index from `from` on with refcount 0, or the number of refcounts if there is none.
pub record IsFirstZero (block : RefBlockView) (from i : ℕ) : Type 0 where
  pub behind : from ≤ i
  pub within : i ≤ counts_of block
  pub above : AreAboveZero block from i
  pub zero : i < counts_of block → count_at block i ≡ 0

-- A refblock that remembers a range of refcounts above 0.
pub record KnowsUsed (block : RefBlockView) (from end : ℕ) : Type 0 where
  pub whole : IsRefBlock block
  pub within : end ≤ counts_of block
  pub above : AreAboveZero block from end

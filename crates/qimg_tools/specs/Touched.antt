-- Ranges of a disk.
use Rattle.std.specs.Prelude.{ℕ, ◌+◌, ◌<◌, ◌≤◌}
use Rattle.qimg_tools.specs.declared.touched.Range.{Range}

-- The range lies on a disk of this size, and has bytes.
pub record LiesOn (size : ℕ) (range : Range) : Type 0 where
  pub some : 0 < range.length
  pub within : range.start + range.length ≤ size

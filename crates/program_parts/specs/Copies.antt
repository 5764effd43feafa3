-- A copy of a raw disk.
use Rattle.std.specs.Prelude.{ℕ, ◌≡◌, ◌<◌, List, length}
use Rattle.image_access.specs.Contents.{stored_byte}
use Rattle.image_access.specs.Moments.{StorageView}
use Rattle.qcow2_session.specs.Conversions.{IsLeft}

-- An honest raw disk keeps its bytes, and the target stays honest.
pub record KeepsBoth (raw raw' copy copy' : StorageView) : Type 0 where
  pub raw_left : IsLeft raw raw'
  pub honest : copy.is_honest → copy'.is_honest

-- The copy has the first `at` bytes, and no others.
pub record IsCopiedUpTo (at : ℕ) (raw copy : List ℕ) : Type 0 where
  pub long : length copy ≡ at
  pub same : (o : ℕ) → o < at → stored_byte copy o ≡ stored_byte raw o

-- All bytes were copied, and there are n of them.
pub record CopiesFrom (raw copy : List ℕ) (n : ℕ) : Type 0 where
  pub count : n ≡ length raw
  pub same : copy ≡ raw

-- Reading fields from left to right: big-endian numbers, and strings with their lengths before them.
use Rattle.std.specs.Prelude.{ℕ, List, length, take, drop, Option, Some, None, nat_lt, if◌then◌else◌}
use Rattle.std.specs.Int.{Width, w32, byte_len, from_be_bytes}

infixl 10 ◌>>=◌
abbrev pub ◌>>=◌ : {A B : Type 0} → Option A → (A → Option B) → Option B
(Some x) >>= f = f x
None >>= f = None

-- A number, and the bytes after it.
abbrev pub number_at : Width → List ℕ → Option (ℕ × List ℕ)
number_at w bytes = if nat_lt (length bytes) (byte_len w) then None else Some (from_be_bytes w (take (byte_len w) bytes), drop (byte_len w) bytes)

-- A string with its length of four bytes before it, and the bytes after it.
unfoldable pub string_at : List ℕ → Option (List ℕ × List ℕ)
string_at bytes = do
  n ← number_at w32 bytes
  if nat_lt (length n.1) n.0 then None else Some (take n.0 n.1, drop n.0 n.1)

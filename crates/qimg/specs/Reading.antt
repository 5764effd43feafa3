-- The meaning of an input: of its lines, one after another.
use Rattle.std.specs.Prelude.{◌≡◌, ◌≢◌, ◌⊎◌, ℕ, Bool, true, false, List, [], ◌∷◌, ◌++◌, None, Some}
use Rattle.std.specs.Io.BufRead.{first_piece, drop_through}
use Rattle.std.specs.Str.{IsUtf8}
use Rattle.qimg.specs.Lines.{Order, order_of_line}
use Rattle.qimg.specs.declared.reading.ScriptEnd.{ScriptEnd}
use Rattle.qimg.specs.declared.reading.ScriptEnd.TheVariants as E

-- The first line of a text, up to a line feed or the end, means this, and the rest is left.
pub record BeginsWith (text : List ℕ) (asked : Order) (left : List ℕ) : Type 0 where
  pub line : order_of_line (first_piece 10 text) ≡ Some asked
  pub rest : left ≡ drop_through 10 text

-- The first lines of a text mean these commands, one after another, and the rest is left.
pub data Asks (text : List ℕ) : List Order → List ℕ → Type 0 where
  no_orders : Asks text [] text
  and_then : (orders : List Order) (rest : List ℕ) (asked : Order) (left : List ℕ) → Asks text orders rest → BeginsWith rest asked left → Asks text (orders ++ asked ∷ []) left

-- The text has a first line, which is no command or isn't UTF-8.
pub record AsksNothing (text : List ℕ) : Type 0 where
  pub more : text ≢ []
  pub line : ¬ IsUtf8 (first_piece 10 text) ⊎ (order_of_line (first_piece 10 text) ≡ None)

-- Whether an unreadable line is left.
abbrev pub is_cut : ScriptEnd → Bool
is_cut E.Whole = false
is_cut _ = true

-- These are the commands of the first lines of a text: of all lines, or of those before an unreadable one.
pub record IsScriptOf (text : List ℕ) (orders : List Order) (end : ScriptEnd) : Type 0 where
  pub rest : List ℕ
  pub asks : Asks text orders rest
  pub all : end ≡ E.Whole → rest ≡ []
  pub bad : end ≡ E.BadLine → AsksNothing rest

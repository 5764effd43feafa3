-- Decimal numbers in command lines and scripts.
use Rattle.std.specs.Prelude.{ℕ, ◌^◌, Bool, ◌&&◌, nat_lt, List, length, Option, Some, None, if◌then◌else◌}
use Rattle.std.specs.Char.{is_ascii_digit}
use Rattle.std.specs.List.{list_all}
use Rattle.std.specs.Str.Parse.{digits_value}

-- The word is at least one decimal digit and nothing else, and its value fits into 64 bits.
abbrev pub is_number : List ℕ → Bool
is_number word = list_all is_ascii_digit word && nat_lt 0 (length word) && nat_lt (digits_value 10 word) (2 ^ 64)

-- The value of a word. Leading zeros are allowed.
abbrev pub number_of_word : List ℕ → Option ℕ
number_of_word word = if is_number word then Some (digits_value 10 word) else None

-- The number of bytes that a word for a size means.
use Rattle.std.specs.Prelude.{ℕ, ◌+◌, ◌-◌, ◌*◌, ◌^◌, ◌/◌, ◌==◌, Bool, nat_lt, List, length, take, slice_get, Option, Some, None, if◌then◌else◌}
use Rattle.std.specs.Char.{to_ascii_lowercase}
use Rattle.std.specs.List.{position_or_len, before_first, after_first}
use Rattle.program_parts.specs.Numbers.{number_of_word}

-- The unit of a letter in bytes: 107 is `k`, then `m`, `g`, `t`, `p` and `e`.
abbrev pub unit_of_letter : ℕ → Option ℕ
unit_of_letter letter =
    if letter == 107 then Some (2 ^ 10)
    else if letter == 109 then Some (2 ^ 20)
    else if letter == 103 then Some (2 ^ 30)
    else if letter == 116 then Some (2 ^ 40)
    else if letter == 112 then Some (2 ^ 50)
    else if letter == 101 then Some (2 ^ 60)
    else None

-- A number, if it fits into 64 bits.
abbrev pub fitting : ℕ → Option ℕ
fitting number = if nat_lt number (2 ^ 64) then Some number else None

-- A number of units in bytes, if it fits into 64 bits.
abbrev pub units : Option ℕ → ℕ → Option ℕ
units (Some count) unit = fitting (count * unit)
units None unit = None

-- The bytes of a number of parts of a unit, rounded down. `parts` is how many parts a unit has, which fits into 64 bits.
abbrev pub part_of_unit : Option ℕ → ℕ → ℕ → Option ℕ
part_of_unit (Some count) unit parts = if nat_lt parts (2 ^ 64) then fitting (count * unit / parts) else None
part_of_unit None unit parts = None

-- A sum of two numbers, if it fits into 64 bits.
abbrev pub added : Option ℕ → Option ℕ → Option ℕ
added (Some one) (Some other) = fitting (one + other)
added (Some one) None = None
added None other = None

-- The unit of a word's last letter, in either case.
abbrev pub unit_of_last : Option ℕ → Option ℕ
unit_of_last (Some byte) = unit_of_letter (to_ascii_lowercase byte)
unit_of_last None = None

abbrev pub size_with : List ℕ → Option ℕ → Option ℕ
size_with word (Some unit) = units (number_of_word (take (length word - 1) word)) unit
size_with word None = number_of_word word

-- A number of bytes, or of the units of its last letter.
abbrev pub whole_size : List ℕ → Option ℕ
whole_size word = size_with word (unit_of_last (slice_get word (length word - 1)))

abbrev pub fraction_with : List ℕ → List ℕ → Option ℕ → Option ℕ
fraction_with whole rest (Some unit) =
    added (units (number_of_word whole) unit) (part_of_unit (number_of_word (take (length rest - 1) rest)) unit (10 ^ (length rest - 1)))
fraction_with whole rest None = None

-- A number of units with a fraction: what is before the point, and what is behind it.
abbrev pub fractional_size : List ℕ → List ℕ → Option ℕ
fractional_size whole rest = fraction_with whole rest (unit_of_last (slice_get rest (length rest - 1)))

abbrev pub is_point : ℕ → Bool
is_point byte = byte == 46

-- A number of bytes, or of the units of its last letter, which may have a fraction behind a point.
abbrev pub size_of_word : List ℕ → Option ℕ
size_of_word word =
    if position_or_len is_point word == length word then whole_size word
    else fractional_size (before_first is_point word) (after_first is_point word)

-- Text in JSON.
use Rattle.std.specs.Prelude.{ℕ, false, ◌+◌, ◌/◌, ◌%◌, ◌==◌, nat_lt, codes, List, [], ◌∷◌, ◌++◌, if◌then◌else◌}
use Rattle.std.specs.Fmt.{digit_glyph}
use Rattle.std.specs.List.{flat_map}

-- A byte of a JSON string. 34 is the quotation mark, and 92 the backslash.
abbrev pub escaped : ℕ → List ℕ
escaped byte =
    if byte == 34 then 92 ∷ 34 ∷ []
    else if byte == 92 then 92 ∷ 92 ∷ []
    else if nat_lt byte 32 then codes "\\u00" ++ ((48 + byte / 16) ∷ (digit_glyph false (byte % 16) ∷ []))
    else byte ∷ []

abbrev pub escaped_text : List ℕ → List ℕ
escaped_text text = flat_map escaped text

abbrev pub json_text : List ℕ → List ℕ
json_text text = 34 ∷ (escaped_text text ++ 34 ∷ [])

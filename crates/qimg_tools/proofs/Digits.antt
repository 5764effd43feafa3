-- Bytes that are not text.
use Rattle.std.proofs.Common.{◌≡◌, ◌<◌, ℕ, List, slice_index_or, true, false, Bool, None, refl, arith}
use Rattle.std.specs.Char.{is_ascii_digit}
use Rattle.std.specs.List.{list_all}
use Rattle.std.specs.Str.{IsUtf8}
use Rattle.std.proofs.lemmas.List.Sums.{AllPass-from_list_all}
use Rattle.std.proofs.lemmas.Str.{IsUtf8-from_ascii}
use Rattle.std.proofs.lemmas.Str.Ascii.{IsAscii-from_all}
use Rattle.program_parts.specs.Numbers.{number_of_word}

digit_below : (c : ℕ) → is_ascii_digit c ≡ true → c < 128
digit_below c is = grind arith

digits_are_text : (word : List ℕ) → list_all is_ascii_digit word ≡ true → IsUtf8 word
digits_are_text word digits = IsUtf8-from_ascii word (IsAscii-from_all word (λ k d within. digit_below (slice_index_or word k d) (AllPass-from_list_all is_ascii_digit word digits k d within)))

none_if : (word : List ℕ) (digits : Bool) → list_all is_ascii_digit word ≡ digits → ¬ IsUtf8 word → number_of_word word ≡ None
none_if word false e not_text = grind arith
none_if word true e not_text = absurd (not_text (digits_are_text word e))

-- they write no number
pub no_number : (word : List ℕ) → ¬ IsUtf8 word → number_of_word word ≡ None
no_number word not_text = none_if word (list_all is_ascii_digit word) refl not_text

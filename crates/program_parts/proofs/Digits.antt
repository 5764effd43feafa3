-- What `parse` returns for a word of decimal digits.
use Rattle.std.proofs.Common.{◌≡◌, ◌<◌, ◌^◌, ◌∷◌, ◌&&◌, ℕ, List, [], length, true, Result, Ok, Err, ap, refl, ◌∙◌, arith}
use Rattle.std.specs.Char.{is_ascii_digit}
use Rattle.std.specs.List.{list_all}
use Rattle.std.specs.Result.{OkIff, result_ok}
use Rattle.std.specs.Str.{all_ascii_digits}
use Rattle.std.specs.Str.Parse.{ParsesUnsigned, digits_value}
use Rattle.std.proofs.lemmas.Str.Parse.{IsNumeralModel, numerals_by_value, tells_all_ascii_digits, parse_digits}
use Rattle.program_parts.specs.Numbers.{number_of_word}

own : IsNumeralModel (λ ds. all_ascii_digits ds ≡ true) (digits_value 10)
own = numerals_by_value _ tells_all_ascii_digits

all_ascii_digits-list_all : (ds : List ℕ) → all_ascii_digits ds ≡ list_all is_ascii_digit ds
all_ascii_digits-list_all [] = refl
all_ascii_digits-list_all (c ∷ cs) = ap (λ b. is_ascii_digit c && b) (all_ascii_digits-list_all cs)

number_if : {E : Type 0} (word : List ℕ) (r : Result ℕ E) → list_all is_ascii_digit word ≡ true → OkIff r ((0 < length word) × (digits_value 10 word < 2 ^ 64)) (digits_value 10 word) → result_ok r ≡ number_of_word word
number_if word (Ok x) digits (p, e) = grind arith
number_if word (Err _) digits none = grind arith

pub parsed_number : {E : Type 0} (word : List ℕ) (r : Result ℕ E) → ParsesUnsigned 64 10 word r → list_all is_ascii_digit word ≡ true → result_ok r ≡ number_of_word word
parsed_number word r h digits = number_if word r digits (parse_digits own 64 word r h (all_ascii_digits-list_all word ∙ digits))

-- Hexadecimal text that is written in pieces.
use Rattle.std.proofs.Common.{◌≡◌, ℕ, List, [], ◌∷◌, ◌++◌, take, drop, Option, refl, sym, ◌∙◌, append_assoc, ap}
use Rattle.std.proofs.lemmas.List.{append-nil, take-append-drop}
use Rattle.std.specs.Io.KnownBytes.{Appends}
use Rattle.program_parts.proofs.Known.{appends_nothing, appends_both}
use Rattle.hex.specs.Hex.{encode_with, encode_lower, lower_digits}

encode_with-append : (digits xs ys : List ℕ) → encode_with digits (xs ++ ys) ≡ encode_with digits xs ++ encode_with digits ys
unfolding encode_with
encode_with-append digits [] ys = refl
encode_with-append digits (x ∷ xs) ys = rw (encode_with-append digits xs ys) refl

encode_lower-nil : encode_lower [] ≡ []
unfolding encode_with
encode_lower-nil = refl

-- the text of the bytes before the rest was written
pub record Printed (old new : Option (List ℕ)) (bytes rest : List ℕ) : Type 0 where
  pub done : List ℕ
  pub whole : done ++ rest ≡ bytes
  pub printed : Appends old new (encode_lower done)

pub prints_none : (old : Option (List ℕ)) (bytes : List ℕ) → Printed old old bytes bytes
prints_none old bytes = record { done = []; whole = refl; printed = rw encode_lower-nil (appends_nothing old) }

pub prints_more : {old mid new : Option (List ℕ)} {bytes : List ℕ} (rest : List ℕ) (n : ℕ) → Printed old mid bytes rest → Appends mid new (encode_lower (take n rest)) → Printed old new bytes (drop n rest)
prints_more {old} {mid} {new} rest n before now = record {
  done = before.done ++ take n rest;
  whole = append_assoc before.done (take n rest) (drop n rest) ∙ ap (λ it. before.done ++ it) (take-append-drop n rest) ∙ before.whole;
  printed = rw (encode_with-append lower_digits before.done (take n rest)) (appends_both old mid new (encode_lower before.done) (encode_lower (take n rest)) before.printed now);
}

pub prints_all : {old new : Option (List ℕ)} {bytes : List ℕ} (rest : List ℕ) → Printed old new bytes rest → rest ≡ [] → Appends old new (encode_lower bytes)
prints_all {old} {new} {bytes} rest p end =
    let same : p.done ≡ bytes = sym (append-nil p.done) ∙ ap (λ it. p.done ++ it) (sym end) ∙ p.whole in
    rw (sym same) p.printed

pub ruleset prints = (prints_none, prints_more, prints_all)

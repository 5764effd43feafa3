-- The bytes that a writer is known to have received.
use Rattle.std.proofs.Common.{◌++◌, ℕ, List, [], Option, Some, None, sym, ◌∙◌, append_assoc, ap}
use Rattle.program_parts.proofs.Common.{Appends}
use Rattle.std.proofs.lemmas.List.{append-nil}

pub appends_nothing : (known : Option (List ℕ)) → Appends known known []
appends_nothing None = tt
appends_nothing (Some xs) = sym (append-nil xs)

pub appends_both : (old mid new : Option (List ℕ)) (first second : List ℕ) → Appends old mid first → Appends mid new second → Appends old new (first ++ second)
appends_both None mid new first second a b = tt
appends_both (Some xs) None new first second a b = absurd a
appends_both (Some xs) (Some ys) None first second a b = absurd b
appends_both (Some xs) (Some ys) (Some zs) first second a b = b ∙ ap (λ it. it ++ second) a ∙ append_assoc xs first second

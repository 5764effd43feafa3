-- What a writer has received after several writes.
use Rattle.std.proofs.Common.{◌++◌, ℕ, List, Option, Some, None, ap, ◌∙◌, append_assoc}
use Rattle.nbd_protocol.proofs.Common.{Appends, Keeps}

pub appends_keeps : (a b c : Option (List ℕ)) (xs : List ℕ) → Appends a b xs → Keeps b c → Appends a c xs
appends_keeps None b c xs grows keeps = tt
appends_keeps (Some x) None c xs grows keeps = absurd grows
appends_keeps (Some x) (Some y) None xs grows keeps = absurd keeps
appends_keeps (Some x) (Some y) (Some z) xs grows keeps = keeps ∙ grows

pub appends_then : (a b c : Option (List ℕ)) (xs ys : List ℕ) → Appends a b xs → Appends b c ys → Appends a c (xs ++ ys)
appends_then None b c xs ys grows more = tt
appends_then (Some x) None c xs ys grows more = absurd grows
appends_then (Some x) (Some y) None xs ys grows more = absurd more
appends_then (Some x) (Some y) (Some z) xs ys grows more = more ∙ ap (λ (t : List ℕ). t ++ ys) grows ∙ append_assoc x xs ys

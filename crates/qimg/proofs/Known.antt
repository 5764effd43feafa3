-- The bytes that a writer is known to have received, for texts that may be unknown.
use Rattle.std.proofs.Common.{ℕ, List, Option, Some, None, IfSome, ◌∙◌}
use Rattle.std.specs.Fmt.{option_append}
use Rattle.std.specs.Io.KnownBytes.{Appends, Keeps}
use Rattle.program_parts.proofs.Known.{appends_both}

-- texts one after the other are one text
pub appends_known : (old mid new first second : Option (List ℕ)) → IfSome first (Appends old mid) → IfSome second (Appends mid new) → IfSome (option_append first second) (Appends old new)
appends_known old mid new None second a b = tt
appends_known old mid new (Some xs) None a b = tt
appends_known old mid new (Some xs) (Some ys) a b = appends_both old mid new xs ys a b

-- what keeps the bytes keeps what was appended
pub appends_kept : (old mid new : Option (List ℕ)) (text : List ℕ) → Appends old mid text → Keeps mid new → Appends old new text
appends_kept None mid new text a keeps = tt
appends_kept (Some xs) None new text a keeps = absurd a
appends_kept (Some xs) (Some ys) None text a keeps = absurd keeps
appends_kept (Some xs) (Some ys) (Some zs) text a keeps = keeps ∙ a

pub known_kept : (old mid new text : Option (List ℕ)) → IfSome text (Appends old mid) → Keeps mid new → IfSome text (Appends old new)
known_kept old mid new None a keeps = tt
known_kept old mid new (Some text) a keeps = appends_kept old mid new text a keeps

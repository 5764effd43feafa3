-- Replies that are printed one after another.
use Rattle.std.proofs.Common.{◌≡◌, ℕ, List, [], ◌∷◌, ◌++◌, length, Option, Some, None, IfSome, refl, append_assoc, ap, sym, ◌∙◌, ◌+◌, ◌<◌, take, slice_index_or}
use Rattle.std.proofs.lemmas.List.{append-nil, take_more}
use Rattle.std.specs.Fmt.{option_append, with_newline}
use Rattle.std.specs.Io.KnownBytes.{Appends}
use Rattle.qcow2_session.specs.declared.session.Reply.{Reply}
use Rattle.qimg.proofs.Known.{appends_known}
use Rattle.qimg.specs.Printing.{line_of, text_of}

option_append_assoc : (a b c : Option (List ℕ)) → option_append (option_append a b) c ≡ option_append a (option_append b c)
option_append_assoc None b c = refl
option_append_assoc (Some x) None c = refl
option_append_assoc (Some x) (Some y) None = refl
option_append_assoc (Some x) (Some y) (Some z) = ap Some (append_assoc x y z)

option_append-nothing : (a : Option (List ℕ)) → option_append (Some []) a ≡ a
option_append-nothing None = refl
option_append-nothing (Some x) = refl

text_of-append : (xs ys : List Reply) → text_of (xs ++ ys) ≡ option_append (text_of xs) (text_of ys)
text_of-append [] ys = sym (option_append-nothing (text_of ys))
text_of-append (x ∷ xs) ys = rw (text_of-append xs ys) (sym (option_append_assoc (with_newline (line_of x)) (text_of xs) (text_of ys)))

text_of-one : (reply : Reply) → text_of (reply ∷ []) ≡ with_newline (line_of reply)
text_of-one reply = elim (line_of reply) as (λ line. option_append (with_newline line) (Some []) ≡ with_newline line) [ None ↦ refl | Some line ↦ ap Some (append-nil (line ++ 10 ∷ [])) ]

line_is_known : (line : Option (List ℕ)) (mid new : Option (List ℕ)) → IfSome line (λ it. Appends mid new (it ++ 10 ∷ [])) → IfSome (with_newline line) (Appends mid new)
line_is_known None mid new printed = tt
line_is_known (Some line) mid new printed = printed

-- one more reply's line was printed
pub one_more : (replies : List Reply) (i : ℕ) (reply : Reply) (old mid new : Option (List ℕ)) → i < length replies → slice_index_or replies i reply ≡ reply → IfSome (text_of (take i replies)) (Appends old mid) → IfSome (line_of reply) (λ line. Appends mid new (line ++ 10 ∷ [])) → IfSome (text_of (take (i + 1) replies)) (Appends old new)
one_more replies i reply old mid new within is before now =
    let more : take (i + 1) replies ≡ take i replies ++ reply ∷ [] = take_more replies i reply within ∙ ap (λ it. take i replies ++ it ∷ []) is in
    let text : text_of (take (i + 1) replies) ≡ option_append (text_of (take i replies)) (with_newline (line_of reply)) = ap text_of more ∙ text_of-append (take i replies) (reply ∷ []) ∙ ap (option_append (text_of (take i replies))) (text_of-one reply) in
    rw text (appends_known old mid new (text_of (take i replies)) (with_newline (line_of reply)) before (line_is_known (line_of reply) mid new now))

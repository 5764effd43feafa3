use Rattle.std.proofs.Common.{◌≡◌, rules, ◌∙◌, Some, None, ap, sym, subst, length}
use Rattle.program_parts.proofs.Common.{Stack, storage_at}
use Rattle.program_parts.proofs.Layered.{image_there, none_there}
use Rattle.program_parts.proofs.layers.Layers.into_last_read.Goals as goal

pub returns-then-place-len : goal.returns-then-place-len
returns-then-place-len g c =
    let inside = c.self.inside in
    let long : c.len.result ≡ length inside.images.items = search rules in
    subst (λ (stack : Stack _). (inside.last, Some c.into_storage.result) ≡ (stack.last, storage_at stack stack.last)) c.self.view_is
    (ap (λ storage. (inside.last, storage)) (image_there inside.images.items inside.base inside.last c.len.result long c.swap_remove.result c.into_storage.result c.if-place-len.true c.swap_remove.ensures.value c.into_storage.ensures))

pub returns-else-place-len-2 : goal.returns-else-place-len-2
returns-else-place-len-2 g c =
    let inside = c.self.inside in
    let long : c.len.result ≡ length inside.images.items = search rules in
    let again : c.len-2.result ≡ length inside.images.items = search rules in
    subst (λ (stack : Stack _). (inside.last, None) ≡ (stack.last, storage_at stack stack.last)) c.self.view_is
    (ap (λ storage. (inside.last, storage)) (none_there inside.images.items inside.base inside.last c.len.result long c.if-place-len.false (subst (λ n. ¬ (inside.last ≡ n)) (again ∙ sym long) c.if-place-len-2.false)))

use Rattle.std.proofs.Common.{◌≡◌, length, IfOk}
use Rattle.image_access.proofs.Boxed.{boxed_fact, boxed_keeps, boxed_quiet}
use Rattle.image_access.proofs.dynamic.BoxDynDynStorageStorage.size.Goals as goal

pub returns-clause-size : goal.returns-clause-size
returns-clause-size g c = boxed_fact c.deref_box_mut-1.ensures.value.1 (λ z. (g.dyn-1.0.entry z.0).1.Storage.view z.1) (λ b. IfOk c.size.result (λ n. n ≡ length b)) c.size.ensures.0

pub returns-clause-same : goal.returns-clause-same
returns-clause-same g c = boxed_keeps c.deref_box_mut-1.ensures.value.1 (λ z. (g.dyn-1.0.entry z.0).1.Storage.view z.1) c.size.ensures.1.0

pub returns-clause-calls : goal.returns-clause-calls
returns-clause-calls g c = boxed_quiet c.deref_box_mut-1.ensures.value.1 (λ z. (g.dyn-1.0.entry z.0).1.Storage.view z.1) c.size.ensures.1.1

use Rattle.image_access.specs.Contents.{overwritten}
use Rattle.image_access.proofs.Boxed.{boxed_calls, boxed_changes}
use Rattle.image_access.proofs.dynamic.BoxDynDynStorageStorage.write.Goals as goal

pub returns-clause-written : goal.returns-clause-written
returns-clause-written g c = boxed_changes c.deref_box_mut-1.ensures.value.1 (λ z. (g.dyn-1.0.entry z.0).1.Storage.view z.1) c.write.result (λ b. overwritten b c.args.at c.args.bytes.now) _ c.write.ensures.0

pub returns-clause-calls : goal.returns-clause-calls
returns-clause-calls g c = boxed_calls c.deref_box_mut-1.ensures.value.1 (λ z. (g.dyn-1.0.entry z.0).1.Storage.view z.1) c.write.ensures.1

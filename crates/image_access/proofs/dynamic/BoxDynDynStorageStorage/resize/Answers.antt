use Rattle.image_access.specs.Contents.{resized}
use Rattle.image_access.proofs.Boxed.{boxed_calls, boxed_changes}
use Rattle.image_access.proofs.dynamic.BoxDynDynStorageStorage.resize.Goals as goal

pub returns-clause-resized : goal.returns-clause-resized
returns-clause-resized g c = boxed_changes c.deref_box_mut-1.ensures.value.1 (λ z. (g.dyn-1.0.entry z.0).1.Storage.view z.1) c.resize.result (λ b. resized b c.args.size) _ c.resize.ensures.0

pub returns-clause-calls : goal.returns-clause-calls
returns-clause-calls g c = boxed_calls c.deref_box_mut-1.ensures.value.1 (λ z. (g.dyn-1.0.entry z.0).1.Storage.view z.1) c.resize.ensures.1

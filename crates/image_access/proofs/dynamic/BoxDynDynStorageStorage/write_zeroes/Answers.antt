use Rattle.image_access.specs.Contents.{zeroed}
use Rattle.image_access.proofs.Boxed.{boxed_calls, boxed_changes}
use Rattle.image_access.proofs.dynamic.BoxDynDynStorageStorage.write_zeroes.Goals as goal

pub returns-clause-zeroed : goal.returns-clause-zeroed
returns-clause-zeroed g c = boxed_changes c.deref_box_mut-1.ensures.value.1 (λ z. (g.dyn-1.0.entry z.0).1.Storage.view z.1) c.write_zeroes.result (λ b. zeroed b c.args.at c.args.length) _ c.write_zeroes.ensures.0

pub returns-clause-calls : goal.returns-clause-calls
returns-clause-calls g c = boxed_calls c.deref_box_mut-1.ensures.value.1 (λ z. (g.dyn-1.0.entry z.0).1.Storage.view z.1) c.write_zeroes.ensures.1

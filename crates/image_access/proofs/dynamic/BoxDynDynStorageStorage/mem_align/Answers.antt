use Rattle.std.proofs.Common.{ap, ◌∙◌}
use Rattle.image_access.proofs.dynamic.BoxDynDynStorageStorage.mem_align.Goals as goal

pub returns-clause-equals : goal.returns-clause-equals
returns-clause-equals g c = c.mem_align.ensures.0 ∙ ap (λ z. ((g.dyn-1.0.entry z.0).1.Storage.view z.1).mem_align) c.deref_box-1.ensures.1

use Rattle.std.proofs.Common.{ap, ◌∙◌}
use Rattle.image_access.proofs.dynamic.BoxDynDynStorageStorage.name.Goals as goal

pub returns : goal.returns
returns g c = c.name.ensures ∙ ap (λ z. ((g.dyn-1.0.entry z.0).1.Storage.view z.1).name) c.deref_box-1.ensures.1

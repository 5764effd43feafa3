use Rattle.image_access.specs.Moments.{SyncCall}
use Rattle.image_access.proofs.Boxed.{boxed_keeps, boxed_passes, boxed_quiet}
use Rattle.image_access.proofs.dynamic.BoxDynDynStorageStorage.sync.Goals as goal

pub returns-clause-same : goal.returns-clause-same
returns-clause-same g c = boxed_keeps c.deref_box_mut-1.ensures.value.1 (λ z. (g.dyn-1.0.entry z.0).1.Storage.view z.1) c.sync.ensures.0

pub returns-clause-calls : goal.returns-clause-calls
returns-clause-calls g c = boxed_quiet c.deref_box_mut-1.ensures.value.1 (λ z. (g.dyn-1.0.entry z.0).1.Storage.view z.1) c.sync.ensures.1.0

pub returns-clause-passes : goal.returns-clause-passes
returns-clause-passes g c = boxed_passes (λ i v. record c.args.self.now { vtable = i; value = v }) (λ i was now. (g.dyn-1.0.entry i).1.Storage.passes SyncCall was now c.sync.result) c.deref_box_mut-1.ensures.value.1 c.sync.new.self c.sync.ensures.1.1

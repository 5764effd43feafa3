use Rattle.std.proofs.Common.{◌≡◌, length, OnOk}
use Rattle.image_access.specs.Contents.{bytes_at}
use Rattle.image_access.proofs.Boxed.{boxed_fact, boxed_keeps, boxed_quiet}
use Rattle.image_access.proofs.dynamic.BoxDynDynStorageStorage.read.Goals as goal

pub returns-clause-read : goal.returns-clause-read
returns-clause-read g c = boxed_fact c.deref_box_mut-1.ensures.value.1 (λ z. (g.dyn-1.0.entry z.0).1.Storage.view z.1) (λ b. OnOk c.read.result (c.read.new.buf ≡ bytes_at b c.args.at (length c.args.buf.now))) c.read.ensures.0

pub returns-clause-same : goal.returns-clause-same
returns-clause-same g c = boxed_keeps c.deref_box_mut-1.ensures.value.1 (λ z. (g.dyn-1.0.entry z.0).1.Storage.view z.1) c.read.ensures.1.0

pub returns-clause-calls : goal.returns-clause-calls
returns-clause-calls g c = boxed_quiet c.deref_box_mut-1.ensures.value.1 (λ z. (g.dyn-1.0.entry z.0).1.Storage.view z.1) c.read.ensures.1.1

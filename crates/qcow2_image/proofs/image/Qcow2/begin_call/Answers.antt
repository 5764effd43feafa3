use Rattle.qcow2_image.proofs.Common.{ap, refl, l2_pins, view_in}
use Rattle.qcow2_image.proofs.Map.Loading.{caches_moved, stays}
use Rattle.qcow2_image.proofs.image.Qcow2.begin_call.Goals as goal

pub returns-clause-keeps : goal.returns-clause-keeps
returns-clause-keeps g c = λ p out sound.
    let tables = c.begin_call-2.ensures.tables in
    caches_moved g.S.Storage.view g.F.BackingDisk.backing c.args.self.now out p sound c.begin_call.new.self c.begin_call-2.new.self
    (stays c.args.self.now.file.header.fields p c.args.self.now.file.caches c.begin_call-2.new.self tables (view_in g.S.Storage.view c.args.self.now.file) (g.S.Storage.view c.begin_call.new.self.storage) (ap g.S.Storage.view c.begin_call.ensures.storage) sound.file.honest sound.file.caches)
    tables.room (λ table. ap (λ caches. l2_pins caches table) c.begin_call-2.ensures.same)

pub returns-clause-known : goal.returns-clause-known
returns-clause-known g c = λ p out sound.
    (stays c.args.self.now.file.header.fields p c.args.self.now.file.caches c.begin_call-2.new.self c.begin_call-2.ensures.tables (view_in g.S.Storage.view c.args.self.now.file) (g.S.Storage.view c.begin_call.new.self.storage)
    (ap g.S.Storage.view c.begin_call.ensures.storage) sound.file.honest sound.file.caches).known

pub returns-clause-begun : goal.returns-clause-begun
returns-clause-begun g c = record { storage = c.begin_call.ensures.storage; unrecorded = c.begin_call.ensures.unchanged; counts = c.begin_call.ensures.changes; caches = c.begin_call-2.ensures.same; rest = refl }

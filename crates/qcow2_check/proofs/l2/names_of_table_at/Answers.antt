use Rattle.qcow2_check.proofs.Common.{arith, refl, byte_at, stand_at-loaded}
use Rattle.qcow2_check.proofs.GrowL1.{no_table, one_table}
use Rattle.qcow2_check.proofs.OffsetSteps.{no_data, data_part}
use Rattle.qcow2_check.proofs.l2.names_of_table_at.Goals as goal

pub returns-then-place-eq0-clause-grows : goal.returns-then-place-eq0-clause-grows
returns-then-place-eq0-clause-grows g c honest =
    no_table c.args.header.now (byte_at (g.S.Storage.view c.args.storage.now).contents) c.args.place c.args.times _ c.if-place-eq0.true

pub returns-then-place-eq0-clause-offsets : goal.returns-then-place-eq0-clause-offsets
returns-then-place-eq0-clause-offsets g c honest =
    no_data c.args.header.now (byte_at (g.S.Storage.view c.args.storage.now).contents) c.args.place c.args.times _ c.if-place-eq0.true

pub returns-clause-grows : goal.returns-clause-grows
returns-clause-grows g c honest =
    one_table c.args.header.now (byte_at (g.S.Storage.view c.args.storage.now).contents) c.read_at.new.buf c.args.place c.args.times _ _
    c.if-place-eq0.false
    (stand_at-loaded (g.S.Storage.view c.args.storage.now).contents _ _ _ c.read_at.new.buf (c.in_ok-read_at.ensures.read honest) refl)
    (omega arith)
    c.in_ok-names_of_l2_table.ensures.grows

pub returns-clause-offsets : goal.returns-clause-offsets
returns-clause-offsets g c honest =
    data_part c.args.header.now (byte_at (g.S.Storage.view c.args.storage.now).contents) c.read_at.new.buf c.args.place c.args.times _ _
    c.if-place-eq0.false
    (stand_at-loaded (g.S.Storage.view c.args.storage.now).contents _ _ _ c.read_at.new.buf (c.in_ok-read_at.ensures.read honest) refl)
    (omega arith)
    c.in_ok-offsets_of_l2_table.ensures.grows

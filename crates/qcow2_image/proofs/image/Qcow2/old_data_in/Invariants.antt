use Rattle.qcow2_image.proofs.Common.{ReadsAll}
use Rattle.qcow2_image.proofs.image.Qcow2.old_data_in.Given as goal

-- the first entries are read
abbrev pub invariant-loop-i : goal.invariant-loop-i
invariant-loop-i g l = ReadsAll g.S.Storage.view g.F.BackingDisk.backing l.fn.how l.fn.table l.fn.first l.i l.fn.self l.old_data

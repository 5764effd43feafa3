use Rattle.qcow2_image.proofs.Common.{ClearsTable}
use Rattle.qcow2_image.proofs.image.Qcow2.clear_entries.Given as goal

-- the first entries are cleared
abbrev pub invariant-loop-i : goal.invariant-loop-i
invariant-loop-i g l = ClearsTable g.S.Storage.view g.F.BackingDisk.backing l.fn.how l.fn.table l.fn.index l.i l.fn.self l.self

use Rattle.qcow2_image.proofs.Commit.Entered.{EntersFirst}
use Rattle.qcow2_image.proofs.image.Qcow2.enter_mappings.Given as goal

-- the clusters so far are in place: their private bytes are visible
abbrev pub invariant-loop-i : goal.invariant-loop-i
invariant-loop-i g l = EntersFirst g.S.Storage.view g.F.BackingDisk.backing l.fn.self l.self l.fn.prepared l.prepared l.i l.entered

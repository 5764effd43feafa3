use Rattle.std.proofs.Common.{◌≡◌, ◌+◌, suc, subst, arith}
use Rattle.qcow2_image.proofs.Common.{ClearsEntry, ClearsTable}
use Rattle.qcow2_image.proofs.Clear.Cleared.{first_next, first_none}
use Rattle.qcow2_image.proofs.image.Qcow2.clear_entries.Goals as goal

pub loop-i-init : goal.loop-i-init
loop-i-init g c = first_none g.S.Storage.view g.F.BackingDisk.backing c.args.how c.args.table c.args.index c.args.self.now

pub loop-i-preserved : goal.loop-i-preserved
loop-i-preserved g c =
    let view = g.S.Storage.view in
    let below = g.F.BackingDisk.backing in
    let old = c.args.self.now in
    let now = c.loop-i.self in
    let new = c.clear_entry.new.self in
    let one : suc c.loop-i.i ≡ c.loop-i.i + 1 = omega arith in
    subst (λ n. ClearsTable view below c.args.how c.args.table c.args.index n old new) one
    (first_next view below c.args.how c.args.table c.args.index c.loop-i.i old now new c.loop-i.invariant
    (subst (λ k. ClearsEntry c.args.how c.args.table k now new) c.saturating_add.ensures c.clear_entry.ensures))

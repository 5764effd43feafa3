use Rattle.std.proofs.Common.{◌≡◌, ◌+◌, length, sym, ap, subst, arith, rules}
use Rattle.qcow2_image.proofs.Common.{Qcow2}
use Rattle.qcow2_image.proofs.Lemmas.{freed_none, EntersFirst, entered_whole, enters_all, first_false, first_true, untouched}
use Rattle.qcow2_image.proofs.Commit.Entered.{first_none}
use Rattle.qcow2_image.proofs.image.Qcow2.enter_mappings.Goals.{then-enter_mapping, else-enter_mapping}
use Rattle.qcow2_image.proofs.image.Qcow2.enter_mappings.Goals as goal

pub loop-i-init : goal.loop-i-init
loop-i-init g c = first_none g.S.Storage.view g.F.BackingDisk.backing c.args.self.now c.args.prepared.now

pub loop-i-preserved : goal.loop-i-preserved
loop-i-preserved g c =
    let view = g.S.Storage.view in
    let below = g.F.BackingDisk.backing in
    let old = c.args.self.now in
    let p = c.args.prepared.now in
    let now = c.loop-i.self in
    let q = c.loop-i.prepared in
    let new = c.enter_mapping.new.self in
    let r = c.enter_mapping.new.prepared in
    elim c.if-enter_mapping.branch [
      | then-enter_mapping w ↦
          subst (EntersFirst view below old new p r (c.loop-i.i + 1)) (sym w.entered-is)
          (first_true view below old now new p q r c.loop-i.i c.loop-i.entered c.loop-i.invariant (c.enter_mapping.ensures.enters w.if-enter_mapping.true) c.enter_mapping.ensures.stays)
      | else-enter_mapping w ↦
          subst (EntersFirst view below old new p r (c.loop-i.i + 1)) (sym w.entered-is)
          (first_false view below old now new p q r c.loop-i.i c.loop-i.entered c.loop-i.invariant (c.enter_mapping.ensures.none w.if-enter_mapping.false))
    ]

pub returns-clause-enters : goal.returns-clause-enters
returns-clause-enters g c =
    let end : c.len-i-end.result ≡ length c.args.prepared.now.clusters.items = search rules in
    enters_all g.S.Storage.view g.F.BackingDisk.backing c.args.self.now c.loop-i.self c.args.prepared.now c.loop-i.prepared c.loop-i.i c.loop-i.entered c.loop-i.invariant (omega (arith, end, c.loop-i-test.false, c.loop-i.auto.i-end))

pub returns-clause-left : goal.returns-clause-left
returns-clause-left g c =
    let end : c.len-i-end.result ≡ length c.args.prepared.now.clusters.items = search rules in
    let count = c.loop-i.invariant.count in
    freed_none c.loop-i.prepared.clusters.items (λ j lt. c.loop-i.invariant.in_place j (omega (arith, end, count, c.loop-i-test.false)))

pub returns-clause-in_place : goal.returns-clause-in_place
returns-clause-in_place g c =
    let end : c.len-i-end.result ≡ length c.args.prepared.now.clusters.items = search rules in
    entered_whole g.S.Storage.view g.F.BackingDisk.backing c.args.self.now c.loop-i.self c.args.prepared.now c.loop-i.prepared c.loop-i.i c.loop-i.entered c.loop-i.invariant (omega (arith, end, c.loop-i-test.false, c.loop-i.auto.i-end))

pub returns-clause-faults : goal.returns-clause-faults
returns-clause-faults g c = untouched g.S.Storage.view g.F.BackingDisk.backing c.args.self.now c.loop-i.self (ap (λ (image : Qcow2 _ _). image.file.storage) c.loop-i.invariant.rest) (ap (λ (image : Qcow2 _ _). image.backing) c.loop-i.invariant.rest) (ap (λ (image : Qcow2 _ _). image.data_file) c.loop-i.invariant.rest)

pub returns-clause-step : goal.returns-clause-step
returns-clause-step g c = record { stays = search rules; notes = c.loop-i.invariant.notes; header_cluster = c.loop-i.invariant.behind }

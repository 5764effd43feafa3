use Rattle.qcow2_check.proofs.Common.{refl, ◌∙◌, arith, get_or-set_same, get_or-set_other, blank}
use Rattle.qcow2_check.proofs.TallyMaps.{tally-same, tally_set}
use Rattle.qcow2_check.proofs.tally_map.TallyMap.set.Goals as goal

pub returns-in-Some-clause-sets : goal.returns-in-Some-clause-sets
returns-in-Some-clause-sets c =
    let mid = c.make_room.new.self.small in
    let s = c.in-Some.small in
    tally_set _ c.args.cluster s c.args.tally (get_or-set_same mid.items c.args.cluster s blank (omega (arith, mid.ok.0))) c.in-Some.ensures.some c.in-Some.ensures.value

pub returns-in-Some-clause-others : goal.returns-in-Some-clause-others
returns-in-Some-clause-others c q other =
    tally-same c.make_room.new.self _ q (get_or-set_other c.make_room.new.self.small.items c.args.cluster q c.in-Some.small blank other) refl
    ∙ c.make_room.ensures q

use Rattle.std.proofs.Common.{◌+◌, get_or, refl, ap, arith}
use Rattle.qcow2_check.proofs.Common.{blank}
use Rattle.qcow2_check.proofs.TallyMaps.{tally-same, blanks_more}
use Rattle.qcow2_check.proofs.tally_map.TallyMap.make_room.Goals as goal

pub returns-in_err-resize : goal.returns-in_err-resize
returns-in_err-resize c q = tally-same _ _ q (ap (λ xs. get_or xs q blank) c.in_err-resize.ensures.items) refl

pub returns-in_ok-resize : goal.returns-in_ok-resize
returns-in_ok-resize c q =
    let e = c.in_ok-resize.ensures in
    let old = c.args.self.now.small in
    let new = c.resize.new.self in
    tally-same _ _ q
    (blanks_more old.items new.items (c.args.cluster + 1) q (omega (arith, e.len, new.ok.0)) (omega (arith, old.ok.0))
    (λ k d lt inside. e.by_index.0 k d lt (omega (arith, old.ok.0))) (λ k d past lt. e.by_index.1 k d refl (omega (arith, old.ok.0)) lt)) refl

pub returns-else-cluster-self : goal.returns-else-cluster-self
returns-else-cluster-self c q = tally-same _ _ q refl refl

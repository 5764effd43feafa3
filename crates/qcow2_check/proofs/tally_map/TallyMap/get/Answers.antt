use Rattle.qcow2_check.proofs.Common.{sym, ap, ◌∙◌, is_blank, widened}
use Rattle.qcow2_check.proofs.TallyMaps.{tally-large, tally-small}
use Rattle.qcow2_check.proofs.tally_map.TallyMap.get.Goals as goal

pub returns-then-is_blank : goal.returns-then-is_blank
returns-then-is_blank c =
    let none = ap is_blank (sym c.small_tally-small.ensures) ∙ sym c.is_blank.ensures ∙ c.if-is_blank.true in
    c.large_tally.ensures ∙ sym (tally-large c.args.self.now c.args.cluster none)

pub returns-else-is_blank : goal.returns-else-is_blank
returns-else-is_blank c =
    let some = ap is_blank (sym c.small_tally-small.ensures) ∙ sym c.is_blank.ensures ∙ c.if-is_blank.false in
    c.widened.ensures ∙ ap widened c.small_tally-small.ensures ∙ sym (tally-small c.args.self.now c.args.cluster some)

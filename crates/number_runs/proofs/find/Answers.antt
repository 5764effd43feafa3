use Rattle.std.proofs.Common.{arith}
use Rattle.std.proofs.lemmas.Grind.{common_steps}
use Rattle.number_runs.specs.NumberRuns.{run_at}
use Rattle.number_runs.proofs.Runs.{not_in, not_less, not_more, is_there}
use Rattle.number_runs.proofs.find.Goals as goal

pub returns-then-number-first-clause-near : goal.returns-then-number-first-clause-near
returns-then-number-first-clause-near c = c.requires.apart.near _ _ ((c.range.ensures.in_range tt).3 _ _ c.in-Some.ensures.steps).1

pub returns-else-number-first-clause-none : goal.returns-else-number-first-clause-none
returns-else-number-first-clause-none c = λ is free.
    let e = (c.range.ensures.in_range tt).3 _ _ c.in-Some.ensures.steps in
    let h = (c.range.ensures.in_range tt).4 _ _ c.in-Some.ensures.steps in
    let short = c.if-number-first.false in
    not_in (run_at c.args.runs.now.entries) c.requires.apart c.in-Some.first.now c.in-Some.n.now c.args.number e.1 (grind (arith, common_steps, e))
    (λ below. grind (arith, common_steps, short, below)) (λ q m run low. not_less c.in-Some.first.now q (h q (tt, not_more q c.args.number low) (is_there _ m run))) free

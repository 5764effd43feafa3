use Rattle.number_runs.proofs.part.Goals as goal

pub returns-else-first-at-clause-finer : goal.returns-else-first-at-clause-finer
returns-else-first-at-clause-finer c = c.cut.ensures.finer

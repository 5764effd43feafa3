use Rattle.number_runs.proofs.NumberRuns.forget.Goals as goal

pub drop_between-requires-clause-ends : goal.drop_between-requires-clause-ends
drop_between-requires-clause-ends c = c.part-2.ensures.finer c.args.end (c.part.ensures.parted c.if-not-part.false)

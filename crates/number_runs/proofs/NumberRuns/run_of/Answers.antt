use Rattle.number_runs.proofs.Runs.{found}
use Rattle.number_runs.proofs.NumberRuns.run_of.Goals as goal

pub returns-clause-some : goal.returns-clause-some
returns-clause-some c = found c.self.inside.runs.entries c.args.self.now c.self.inside.most c.find.result c.self.view_is c.self.invariant c.find.ensures.run

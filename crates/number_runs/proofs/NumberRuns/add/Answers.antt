use Rattle.number_runs.proofs.Runs.{adds, adds_apart}
use Rattle.number_runs.proofs.NumberRuns.add.Goals as goal

pub invariant_of-self : goal.invariant_of-self
invariant_of-self c = record {
  apart = adds_apart c.self.inside.runs.entries c.put.new.runs.entries c.args.self.now c.args.first c.args.n c.self.view_is c.self.invariant.apart c.requires.near c.requires.apart c.put.ensures.others
      c.put.result c.put.ensures.some c.put.ensures.none c.put.ensures.refused;
  few = c.put.ensures.few c.self.invariant.few;
}

pub returns-clause-added : goal.returns-clause-added
returns-clause-added c = λ is.
    adds c.self.inside.runs.entries c.put.new.runs.entries c.args.self.now c.args.first c.args.n c.self.view_is c.self.invariant.apart c.requires.near c.requires.apart c.put.ensures.others
    (c.put.ensures.some is) (λ zero. (c.put.ensures.none zero).1)

use Rattle.qcow2_alloc.proofs.Common.{sym, ◌∙◌}
use Rattle.qcow2_alloc.proofs.SparedClusters.{lies_in, lies_not}
use Rattle.qcow2_alloc.proofs.allocation.Allocator.is_spared.Goals as goal

pub returns : goal.returns
returns c = (
  λ so. lies_in c.args.self.now.named c.args.cluster c.run_of.result c.run_of.ensures.some c.run_of.ensures.within (sym c.is_some.ensures ∙ so),
  λ is. c.is_some.ensures ∙ lies_not c.args.self.now.named c.args.cluster c.run_of.result c.run_of.ensures.none is,
)

use Rattle.qcow2_check.proofs.Common.{arith}
use Rattle.qcow2_check.proofs.Ranges.{range_more, one_longer}
use Rattle.qcow2_check.proofs.names.Names.add_range.Goals as goal

pub loop-cluster-preserved : goal.loop-cluster-preserved
loop-cluster-preserved c = record {
  grows = range_more c.args.first c.loop-cluster.cluster c.args.times _ _ _ (omega arith) c.loop-cluster.invariant.grows c.in_ok-add_times.ensures.adds;
  total = omega (arith, c.in_ok-add_times.ensures.total, c.loop-cluster.invariant.total, one_longer c.args.first c.loop-cluster.cluster c.args.times (omega arith));
}

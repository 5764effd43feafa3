use Rattle.qcow2_laws.proofs.KeptClusters.{kept_cluster_is_committed}
use Rattle.qcow2_laws.proofs.laws.kept_cluster_is_committed.Goals as goal

pub returns : goal.returns
returns c = kept_cluster_is_committed

use Rattle.qcow2_laws.proofs.KeptClusters.{kept_cluster_is_written}
use Rattle.qcow2_laws.proofs.laws.kept_cluster_is_written.Goals as goal

pub returns : goal.returns
returns c = kept_cluster_is_written

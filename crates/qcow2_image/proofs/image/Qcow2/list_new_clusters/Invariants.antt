use Rattle.qcow2_image.proofs.Common.{FreesLater, freed_by}
use Rattle.qcow2_image.proofs.image.Qcow2.list_new_clusters.Given as goal

-- the new clusters of the cluster mappings so far are listed
abbrev pub invariant-loop-cluster_mapping : goal.invariant-loop-cluster_mapping
invariant-loop-cluster_mapping g l = FreesLater (freed_by l.yielded) l.fn.self l.self

-- The list of clusters to free: runs of clusters in a chain of nodes.
use Rattle.std.specs.Prelude.{ℕ, List, [], Option, None, Some}
use Rattle.std.specs.declared.boxed.Box.{Box}
use Rattle.qcow2_alloc.specs.declared.clusters_to_free.ClustersToFreeEntry.{ClustersToFreeEntry}
use Rattle.qcow2_alloc.specs.declared.clusters_to_free.Node.{Node}
use Rattle.qcow2_alloc.specs.declared.clusters_to_free.ClusterKind.TheVariants.{Data, Metadata}
use Rattle.qcow2_alloc.specs.ClusterChain.{chain_entries_of}

-- The entries behind a link, the newest first.
abbrev pub entries_at : {A : Type 0} → Option (Box Node A) → List ClustersToFreeEntry
entries_at None = []
entries_at (Some b) = chain_entries_of b.value

abbrev pub data_entry : ℕ → ℕ → ClustersToFreeEntry
data_entry first n = record { first_cluster = first; count = n; kind = Data }

abbrev pub metadata_entry : ℕ → ℕ → ClustersToFreeEntry
metadata_entry first n = record { first_cluster = first; count = n; kind = Metadata }

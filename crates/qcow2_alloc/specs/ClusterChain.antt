use Rattle.std.specs.Prelude.{List, [], ◌∷◌}
use Rattle.qcow2_alloc.specs.declared.clusters_to_free.ClustersToFreeEntry.{ClustersToFreeEntry}
use Rattle.qcow2_alloc.specs.declared.clusters_to_free.Node.{Node, Node', Held-Node-next, None', Some'}

-- The entries of a chain of nodes, the newest first.
abbrev mutual
  pub chain_entries_of : Node → List ClustersToFreeEntry
  chain_entries_of (Node' entry next) = entry ∷ entries_behind next

  pub entries_behind : Held-Node-next → List ClustersToFreeEntry
  entries_behind None' = []
  entries_behind (Some' p n) = chain_entries_of n

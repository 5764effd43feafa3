-- The list of clusters to free.
use Rattle.std.specs.Prelude.{◌≡◌, ◌⊎◌, ℕ, ◌+◌, ◌-◌, ◌*◌, ◌/◌, ◌%◌, ◌^◌, ◌<◌, ◌++◌, Some, IfSome, Result, Ok, Err, Bool, true, false, List, [], ◌∷◌, if◌then◌else◌}
use Rattle.qcow2_metadata.specs.EntryTable.{EntryTableView, entry_count}
use Rattle.qcow2_laws.specs.CrashInvariant.{Pending}
use Rattle.qcow2_alloc.specs.declared.clusters_to_free.ClusterKind.{ClusterKind}
use Rattle.qcow2_alloc.specs.declared.clusters_to_free.ClusterKind.TheVariants as Kind
use Rattle.qcow2_alloc.specs.declared.clusters_to_free.ClustersToFreeEntry.{ClustersToFreeEntry}
use Rattle.qcow2_alloc.specs.Allocation.{run_at, NamesBehindHeader, KeepsRefblocks, KeepsEntries}
use Rattle.qcow2_alloc.specs.ClustersToFree.{metadata_entry}
use Rattle.qcow2_alloc.specs.declared.error.ImageError.{ImageError}

-- 1 for each cluster of a run.
abbrev pub run_of : ClustersToFreeEntry → ℕ → ℕ
run_of e k = run_at e.first_cluster e.count k

-- How often clusters of a kind are to be freed, as data or as tables.
abbrev pub of_data : ClusterKind → ℕ → ℕ
of_data Kind.Data n = n
of_data Kind.Metadata n = 0

abbrev pub of_tables : ClusterKind → ℕ → ℕ
of_tables Kind.Data n = 0
of_tables Kind.Metadata n = n

abbrev pub to_free : (ClusterKind → ℕ → ℕ) → List ClustersToFreeEntry → ℕ → ℕ
to_free kind [] k = 0
to_free kind (e ∷ es) k = kind e.kind (run_of e k) + to_free kind es k

-- What is pending, with the clusters on the list.
abbrev pub with_listed : Pending → List ClustersToFreeEntry → Pending
with_listed p list = record p { old_tables = λ k. p.old_tables k + to_free of_tables list k; old_data = λ k. p.old_data k + to_free of_data list k }

-- What is pending, with the clusters that were added to the list.
abbrev pub pending_then : Pending → List ClustersToFreeEntry → List ClustersToFreeEntry → Pending
pending_then p old new = record p {
  old_tables = λ k. p.old_tables k + (to_free of_tables new k - to_free of_tables old k);
  old_data = λ k. p.old_data k + (to_free of_data new k - to_free of_data old k);
}

abbrev pub is_same : ClusterKind → ClusterKind → Bool
is_same Kind.Data Kind.Data = true
is_same Kind.Metadata Kind.Metadata = true
is_same Kind.Data Kind.Metadata = false
is_same Kind.Metadata Kind.Data = false

-- The entries of the other kind.
abbrev pub but : ClusterKind → List ClustersToFreeEntry → List ClustersToFreeEntry
but kind [] = []
but kind (e ∷ es) = if is_same e.kind kind then but kind es else e ∷ but kind es

-- Data clusters leave the list only after all clusters of tables.
abbrev pub GoOffInOrder : List ClustersToFreeEntry → List ClustersToFreeEntry → Type 0
GoOffInOrder old new = (but Kind.Data new ≡ []) ⊎ (but Kind.Metadata new ≡ but Kind.Metadata old)

-- Only clusters of tables are added, at the end of the list.
pub record ListsTables (old new : List ClustersToFreeEntry) : Type 0 where
  pub more : List ClustersToFreeEntry
  pub is : new ≡ old ++ more
  pub tables : but Kind.Metadata more ≡ []

-- The reftable has the same place and length.
abbrev pub SamePlace : EntryTableView → EntryTableView → Type 0
SamePlace old new = KeepsEntries (λ k. ⊥) old new

-- The entry is the run of clusters of a reftable.
pub record IsRunOfTable (t : EntryTableView) (e : ClustersToFreeEntry) : Type 0 where
  pub cluster : ℕ
  pub placed : t.cluster ≡ Some cluster
  pub run : e ≡ metadata_entry cluster ((8 * entry_count t + 2 ^ t.cluster_bits - 1) / 2 ^ t.cluster_bits)

-- The entries of a reftable fill whole clusters, which lie past the header's.
pub record FillsClusters (t : EntryTableView) : Type 0 where
  pub whole : entry_count t % (2 ^ t.cluster_bits / 8) ≡ 0
  pub elsewhere : IfSome t.cluster (λ c. 0 < c)

-- The reftable was replaced by a longer one, any number of times. Each one fills whole clusters of the same size. These entries are the clusters of the old ones.
abbrev pub ReftableReplaced : EntryTableView → List ClustersToFreeEntry → EntryTableView → Type 0
ReftableReplaced old [] new = SamePlace old new
ReftableReplaced old (e ∷ es) new = IsRunOfTable old e × (next : EntryTableView) × (entry_count old < entry_count next) × (next.cluster_bits ≡ old.cluster_bits) × FillsClusters next × ReftableReplaced next es new

-- Only the clusters of old reftables are added to the list, at its end. No refblock moves to cluster 0, and each range that has one keeps it.
pub record OldReftablesQueued (old new : EntryTableView) (list list' : List ClustersToFreeEntry) : Type 0 where
  pub more : List ClustersToFreeEntry
  pub is : list' ≡ list ++ more
  pub gone : ReftableReplaced old more new
  pub behind : NamesBehindHeader old new
  pub ranges : KeepsRefblocks old new

-- The reftable is replaced by one that fills whole clusters and keeps its refblocks, and exactly the clusters of the old one are listed. If this is refused, the reftable and the list stay the same.
abbrev pub ReplacesReftable : EntryTableView → EntryTableView → List ClustersToFreeEntry → List ClustersToFreeEntry → Result (Unit {0}) ImageError → Type 0
ReplacesReftable old new list list' (Ok _) = (e : ClustersToFreeEntry) × IsRunOfTable old e × (list' ≡ list ++ e ∷ []) × FillsClusters new × NamesBehindHeader old new × KeepsRefblocks old new
ReplacesReftable old new list list' (Err _) = (new ≡ old) × (list' ≡ list)

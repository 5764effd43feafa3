-- Prepared mappings stay ready if the mappings of guest clusters and the L2 tables that are marked copied stay the same.
use Rattle.std.proofs.Common.{◌≡◌, ◌+◌, ◌/◌, ℕ, sym, ap, ◌∙◌, subst, Option, Some, None}
use Rattle.qcow2_image.proofs.Common.{slice_get, Bytes, HeaderFields, entries_per_cluster, l1_entry, host_offset, is_copied, cover, table_at, Prepared, ClusterMapping, InPlace, Kept, New, NamesOwn, IsInReach, named_run, is_copied_data, cluster_of, listed_run, IsClusterMappingAt, IsPending, IsReadyWith, Image, DataFile}
use Rattle.qcow2_image.specs.declared.mapping.Place.{Place}

-- a cluster mapping stays valid if the mapping of its guest cluster stays the same
pub still_mapping : (h : HeaderFields) (place : Place) (known on_storage known' on_storage' : Bytes) (q : Prepared) (i : ℕ) → cover h known (cluster_of h q + i) ≡ cover h known' (cluster_of h q + i) → (cluster_mapping : ClusterMapping) → IsClusterMappingAt h place known on_storage q i cluster_mapping → IsClusterMappingAt h place known' on_storage' q i cluster_mapping
still_mapping h place known on_storage known' on_storage' q i same InPlace is = sym same ∙ is
still_mapping h Image known on_storage known' on_storage' q i same Kept is = record { first = is.first; place = is.place; nameable = is.nameable; entry = sym same ∙ is.entry }
still_mapping h DataFile known on_storage known' on_storage' q i same Kept is = record { place = is.place; nameable = is.nameable; entry = ap is_copied_data (sym same) ∙ is.entry; reach = subst IsInReach same is.reach }
still_mapping h Image known on_storage known' on_storage' q i same (New taken old_data) is = record {
  first = is.first;
  is = is.is;
  place = is.place;
  nameable = is.nameable;
  entry = ap is_copied_data (sym same) ∙ is.entry;
  reach = subst IsInReach same is.reach;
  drops = is.drops ∙ ap (λ v. listed_run (named_run h.cluster_bits v)) same;
}
still_mapping h DataFile known on_storage known' on_storage' q i same (New taken old_data) is = absurd is

module _ (h : HeaderFields) (place : Place) (known on_storage known' on_storage' : Bytes) (q : Prepared) (top : (i : ℕ) → l1_entry h on_storage i ≡ l1_entry h known i) (top' : (i : ℕ) → l1_entry h on_storage' i ≡ l1_entry h known' i)
    (copied : (i : ℕ) → NamesOwn (l1_entry h on_storage i) → l1_entry h on_storage' i ≡ l1_entry h on_storage i) where
  pub still_pending : (table : ℕ) → ((i : ℕ) (cluster_mapping : ClusterMapping) → slice_get q.clusters.items i ≡ Some cluster_mapping → IsClusterMappingAt h place known' on_storage' q i cluster_mapping) → IsPending h place known on_storage q table → IsPending h place known' on_storage' q table
  still_pending table clusters is =
      let i = cluster_of h q / entries_per_cluster h in
      let same : l1_entry h on_storage' i ≡ l1_entry h on_storage i = copied i ((λ none. is.named.real (ap host_offset (sym (top i)) ∙ none)), is.copied) in
      let there : table_at h known' i ≡ table_at h known i = ap host_offset (sym (top' i) ∙ same ∙ top i) in
      record {
        some = is.some;
        begins = is.begins;
        enough = is.enough;
        no_more = is.no_more;
        within = is.within;
        named = record { real = λ none. is.named.real (sym there ∙ none); place = there ∙ is.named.place; within = is.named.within };
        copied = ap is_copied same ∙ is.copied;
        each = clusters;
      }

  pub still_ready : ((i : ℕ) → cover h known (cluster_of h q + i) ≡ cover h known' (cluster_of h q + i)) → (table : Option ℕ) → IsReadyWith h place known on_storage q table → IsReadyWith h place known' on_storage' q table
  still_ready covers None is = is
  still_ready covers (Some table) is = still_pending table (λ i cluster_mapping at. still_mapping h place known on_storage known' on_storage' q i (covers i) cluster_mapping (is.each i cluster_mapping at)) is

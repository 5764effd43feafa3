-- The references to a cluster: by the header, the L1 table, L2 tables and the reftable.
use Rattle.std.specs.Prelude.{ℕ, ◌+◌, ◌-◌, ◌*◌, ◌/◌, Bool, ◌==◌, ◌&&◌, nat_lt, nat_le, Option, Some, None, if◌then◌else◌}
use Rattle.qcow2_metadata.specs.Bytes.{Bytes, sum_below, one_if}
use Rattle.qcow2_metadata.specs.Header.{HeaderFields, cluster_size, entries_per_cluster, reftable_entries}
use Rattle.qcow2_metadata.specs.Entries.{l1_entry, l2_entry, reftable_entry, host_offset, block_offset}
use Rattle.qcow2_metadata.specs.Cover.{entry_cover}
use Rattle.qcow2_metadata.specs.declared.l2_mapping.L2Mapping.{L2Mapping}
use Rattle.qcow2_metadata.specs.declared.l2_mapping.L2Mapping.TheVariants.{Data, Zero, Compressed, Uncovered}

-- 1 if the offset lies in the cluster, otherwise 0.
abbrev pub in_cluster : HeaderFields → ℕ → ℕ → ℕ
in_cluster h cluster place = one_if (place / cluster_size h == cluster)

-- 1 if the table at this offset lies in the cluster, 0 also for no table.
abbrev pub table_in : HeaderFields → ℕ → ℕ → ℕ
table_in h cluster place = if place == 0 then 0 else in_cluster h cluster place

-- 1 if the cluster is one of those that n bytes from `place` on need, otherwise 0.
abbrev pub in_run : HeaderFields → ℕ → ℕ → ℕ → ℕ
in_run h cluster place n =
    let first = place / cluster_size h in
    one_if (nat_le first cluster && nat_lt cluster (first + (n + cluster_size h - 1) / cluster_size h))

-- 1 if the cluster has a byte from `first` to `last`, otherwise 0.
abbrev pub touched_by : HeaderFields → ℕ → ℕ → ℕ → ℕ
touched_by h cluster first last = one_if (nat_le (first / cluster_size h) cluster && nat_le cluster (last / cluster_size h))

abbrev pub named_by_kept : HeaderFields → ℕ → Option (ℕ × Bool) → ℕ
named_by_kept h cluster None = 0
named_by_kept h cluster (Some k) = in_cluster h cluster k.0

-- References of a mapping to the cluster. A compressed entry refers once to each cluster that its sectors touch.
abbrev pub named_by_cover : HeaderFields → ℕ → L2Mapping → ℕ
named_by_cover h cluster (Data host copied) = in_cluster h cluster host
named_by_cover h cluster (Zero kept) = named_by_kept h cluster kept
named_by_cover h cluster (Compressed place sectors) = touched_by h cluster place ((place / 512 + sectors) * 512 - 1)
named_by_cover h cluster Uncovered = 0

-- References by the header: to cluster 0, and to the clusters of the L1 table and of the reftable.
unfoldable pub named_by_header : HeaderFields → ℕ → ℕ
named_by_header h cluster =
    in_cluster h cluster 0 + in_run h cluster h.l1_offset (8 * h.l1_entries) + in_run h cluster h.reftable_offset (h.reftable_clusters * cluster_size h)

unfoldable pub named_by_reftable : HeaderFields → Bytes → ℕ → ℕ
named_by_reftable h b cluster = sum_below (reftable_entries h) (λ k. table_in h cluster (block_offset (reftable_entry h b k)))

unfoldable pub named_by_l1_table : HeaderFields → Bytes → ℕ → ℕ
named_by_l1_table h b cluster = sum_below h.l1_entries (λ i. table_in h cluster (host_offset (l1_entry h b i)))

-- References by the entries of an L2 table, 0 for no table.
unfoldable pub named_by_l2_table : HeaderFields → Bytes → ℕ → ℕ → ℕ
named_by_l2_table h b cluster table =
    if table == 0 then 0 else sum_below (entries_per_cluster h) (λ j. named_by_cover h cluster (entry_cover h (l2_entry b table j)))

unfoldable pub named_by_l2_tables : HeaderFields → Bytes → ℕ → ℕ
named_by_l2_tables h b cluster = sum_below h.l1_entries (λ i. named_by_l2_table h b cluster (host_offset (l1_entry h b i)))

-- References to the cluster as part of the header or of a table.
unfoldable pub named_for_tables : HeaderFields → Bytes → ℕ → ℕ
named_for_tables h b cluster = named_by_header h cluster + named_by_reftable h b cluster + named_by_l1_table h b cluster

-- All references to the cluster.
unfoldable pub named : HeaderFields → Bytes → ℕ → ℕ
named h b cluster = named_for_tables h b cluster + named_by_l2_tables h b cluster

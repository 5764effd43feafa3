-- References to a cluster by entries that are marked copied.
use Rattle.std.specs.Prelude.{ℕ, ◌+◌, ◌-◌, ◌*◌, ◌/◌, Bool, ◌==◌, ◌&&◌, List, sum_by, Option, Some, None, if◌then◌else◌}
use Rattle.qcow2_metadata.specs.Bytes.{Bytes, sum_below, one_if}
use Rattle.qcow2_metadata.specs.declared.header.HeaderFields.{HeaderFields}
use Rattle.qcow2_metadata.specs.Header.{cluster_size, entries_per_cluster}
use Rattle.qcow2_metadata.specs.Entries.{l1_entry, l2_entry, host_offset, is_copied}
use Rattle.qcow2_metadata.specs.Cover.{entry_cover}
use Rattle.qcow2_metadata.specs.TableBytes.{entry_at}
use Rattle.qcow2_metadata.specs.Named.{named_by_cover, named_by_l2_table, table_in, touched_by}
use Rattle.qcow2_metadata.specs.declared.l2_mapping.L2Mapping.{L2Mapping}
use Rattle.qcow2_metadata.specs.declared.l2_mapping.L2Mapping.TheVariants.{Data, Zero, Compressed, Uncovered}

-- 1 if the offset lies in the cluster and is marked copied, otherwise 0.
abbrev pub marked_at : HeaderFields → ℕ → ℕ → Bool → ℕ
marked_at h cluster place copied = one_if (place / cluster_size h == cluster && copied)

abbrev pub marks_of_kept : HeaderFields → ℕ → Option (ℕ × Bool) → ℕ
marks_of_kept h cluster None = 0
marks_of_kept h cluster (Some k) = marked_at h cluster k.0 k.1

abbrev pub marks_of_cover : HeaderFields → ℕ → L2Mapping → ℕ
marks_of_cover h cluster (Data host copied) = marked_at h cluster host copied
marks_of_cover h cluster (Zero kept) = marks_of_kept h cluster kept
marks_of_cover h cluster (Compressed place sectors) = 0
marks_of_cover h cluster Uncovered = 0

-- References to a cluster by compressed data.
abbrev pub named_by_compressed : HeaderFields → ℕ → L2Mapping → ℕ
named_by_compressed h cluster (Data host copied) = 0
named_by_compressed h cluster (Zero kept) = 0
named_by_compressed h cluster (Compressed place sectors) = touched_by h cluster place ((place / 512 + sectors) * 512 - 1)
named_by_compressed h cluster Uncovered = 0

-- References by the first n entries of an L2 table.
abbrev pub named_by_entries : HeaderFields → Bytes → ℕ → ℕ → ℕ → ℕ
named_by_entries h b table n cluster = sum_below n (λ j. named_by_cover h cluster (entry_cover h (l2_entry b table j)))

abbrev pub marked_by_entries : HeaderFields → Bytes → ℕ → ℕ → ℕ → ℕ
marked_by_entries h b table n cluster = sum_below n (λ j. marks_of_cover h cluster (entry_cover h (l2_entry b table j)))

-- References by entries of the L2 table at an offset that are marked copied, 0 for no table.
abbrev pub marked_by_l2_table : HeaderFields → Bytes → ℕ → ℕ → ℕ
marked_by_l2_table h b cluster place = if place == 0 then 0 else marked_by_entries h b place (entries_per_cluster h) cluster

-- 1 if an L1 entry for an L2 table in this cluster is marked copied, otherwise 0.
abbrev pub mark_of_entry : HeaderFields → ℕ → ℕ → ℕ
mark_of_entry h entry cluster = if host_offset entry == 0 then 0 else marked_at h cluster (host_offset entry) (is_copied entry)

-- References by an L1 entry and its L2 table.
abbrev pub named_under : HeaderFields → Bytes → ℕ → ℕ → ℕ
named_under h b entry cluster = table_in h cluster (host_offset entry) + named_by_l2_table h b cluster (host_offset entry)

abbrev pub marked_under : HeaderFields → Bytes → ℕ → ℕ → ℕ
marked_under h b entry cluster = mark_of_entry h entry cluster + marked_by_l2_table h b cluster (host_offset entry)

-- References by the first n L1 entries: to the L2 tables, by the entries of these tables, and by entries that are marked copied.
abbrev pub tables_below : HeaderFields → Bytes → ℕ → ℕ → ℕ
tables_below h b n cluster = sum_below n (λ i. table_in h cluster (host_offset (l1_entry h b i)))

abbrev pub named_below : HeaderFields → Bytes → ℕ → ℕ → ℕ
named_below h b n cluster = sum_below n (λ i. named_under h b (l1_entry h b i) cluster)

abbrev pub marked_below : HeaderFields → Bytes → ℕ → ℕ → ℕ
marked_below h b n cluster = sum_below n (λ i. marked_under h b (l1_entry h b i) cluster)

-- References by the first n entries of an L1 table in these bytes only.
abbrev pub tables_among : HeaderFields → List ℕ → ℕ → ℕ → ℕ
tables_among h entries n cluster = sum_below n (λ i. table_in h cluster (host_offset (entry_at entries i)))

abbrev pub marks_among : HeaderFields → List ℕ → ℕ → ℕ → ℕ
marks_among h entries n cluster = sum_below n (λ i. mark_of_entry h (entry_at entries i) cluster)

-- References by the L2 tables at these offsets, each counted as often as its offset is listed.
abbrev pub named_by_tables : HeaderFields → Bytes → List ℕ → ℕ → ℕ
named_by_tables h b places cluster = sum_by (λ place. named_by_l2_table h b cluster place) places

abbrev pub marked_by_tables : HeaderFields → Bytes → List ℕ → ℕ → ℕ
marked_by_tables h b places cluster = sum_by (λ place. marked_by_l2_table h b cluster place) places

-- References by guest clusters to a host cluster, and those of them that are marked copied.
use Rattle.std.specs.Prelude.{ℕ, ◌*◌, Bool, Option, Some, None, max, if◌then◌else◌}
use Rattle.qcow2_metadata.specs.Bytes.{Bytes, sum_below}
use Rattle.qcow2_metadata.specs.declared.header.HeaderFields.{HeaderFields}
use Rattle.qcow2_metadata.specs.Header.{entries_per_cluster, has_data_file}
use Rattle.qcow2_metadata.specs.Entries.{l1_entry, host_offset, is_copied}
use Rattle.qcow2_metadata.specs.Cover.{cover}
use Rattle.qcow2_metadata.specs.Named.{in_cluster, table_in, named_by_cover}
use Rattle.qcow2_metadata.specs.declared.l2_mapping.L2Mapping.{L2Mapping}
use Rattle.qcow2_metadata.specs.declared.l2_mapping.L2Mapping.TheVariants.{Data, Zero, Compressed, Uncovered}

-- The number of guest clusters that the L1 table covers. All after them are unmapped.
abbrev pub guests : HeaderFields → ℕ
guests h = h.l1_entries * entries_per_cluster h

-- A sum over all guest clusters.
unfoldable pub over_guests : HeaderFields → (ℕ → ℕ) → ℕ
over_guests h f = sum_below (guests h) f

abbrev pub marked_by_kept : HeaderFields → ℕ → Option (ℕ × Bool) → ℕ
marked_by_kept h cluster None = 0
marked_by_kept h cluster (Some k) = if k.1 then in_cluster h cluster k.0 else 0

-- 1 if the mapping refers to the cluster with a copied mark, otherwise 0.
abbrev pub marked_by_cover : HeaderFields → ℕ → L2Mapping → ℕ
marked_by_cover h cluster (Data host copied) = if copied then in_cluster h cluster host else 0
marked_by_cover h cluster (Zero kept) = marked_by_kept h cluster kept
marked_by_cover h cluster (Compressed host sectors) = 0
marked_by_cover h cluster Uncovered = 0

-- References of a mapping to a cluster of the image: none if the data are in an external file.
abbrev pub named_by_guest : HeaderFields → ℕ → L2Mapping → ℕ
named_by_guest h cluster v = if has_data_file h then 0 else named_by_cover h cluster v

abbrev pub marked_by_guest : HeaderFields → ℕ → L2Mapping → ℕ
marked_by_guest h cluster v = if has_data_file h then 0 else marked_by_cover h cluster v

-- References of a guest cluster to a host cluster, by its entry.
abbrev pub names : HeaderFields → Bytes → ℕ → ℕ → ℕ
names h b cluster guest = named_by_guest h cluster (cover h b guest)

abbrev pub marks : HeaderFields → Bytes → ℕ → ℕ → ℕ
marks h b cluster guest = marked_by_guest h cluster (cover h b guest)

-- The most references that guest clusters can have to a host cluster, if each has its mapping of the one image or of the other.
abbrev pub named_in_either : HeaderFields → Bytes → Bytes → ℕ → ℕ
named_in_either h on_storage known cluster = over_guests h (λ g. max (names h on_storage cluster g) (names h known cluster g))

-- The offset of the L2 table of an L1 entry, 0 for none.
abbrev pub table_at : HeaderFields → Bytes → ℕ → ℕ
table_at h b i = host_offset (l1_entry h b i)

-- References to the cluster by L1 entries that are marked copied.
unfoldable pub marked_by_l1_table : HeaderFields → Bytes → ℕ → ℕ
marked_by_l1_table h b cluster = sum_below h.l1_entries (λ i. if is_copied (l1_entry h b i) then table_in h cluster (table_at h b i) else 0)

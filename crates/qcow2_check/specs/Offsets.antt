-- Unaligned offsets, and how often entries refer to each.
use Rattle.std.specs.Prelude.{ℕ, ◌%◌, ◌==◌, ◌&&◌, not, List, sum_by, Option, Some, None, if◌then◌else◌}
use Rattle.qcow2_metadata.specs.Bytes.{Bytes, sum_below, one_if}
use Rattle.qcow2_metadata.specs.declared.header.HeaderFields.{HeaderFields}
use Rattle.qcow2_metadata.specs.Header.{cluster_size, entries_per_cluster, reftable_entries}
use Rattle.qcow2_metadata.specs.Entries.{l1_entry, l2_entry, reftable_entry, host_offset, block_offset}
use Rattle.qcow2_metadata.specs.Cover.{entry_cover}
use Rattle.qcow2_metadata.specs.L2Mapping.{host_of}
use Rattle.qcow2_metadata.specs.TableBytes.{entry_at}
use Rattle.qcow2_check.specs.declared.tally.Tally.{Tally}

-- 1 if `place` is this offset, and unaligned; otherwise 0.
abbrev pub off_cluster : HeaderFields → ℕ → ℕ → ℕ
off_cluster h o place = one_if (place == o && not (place % cluster_size h == 0))

abbrev pub off_cluster_if : HeaderFields → ℕ → Option ℕ → ℕ
off_cluster_if h o None = 0
off_cluster_if h o (Some place) = off_cluster h o place

-- References by the first n entries of a reftable, and of an L1 table, in these bytes.
abbrev pub blocks_off : HeaderFields → List ℕ → ℕ → ℕ → ℕ
blocks_off h entries n o = sum_below n (λ k. off_cluster h o (block_offset (entry_at entries k)))

abbrev pub tables_off : HeaderFields → List ℕ → ℕ → ℕ → ℕ
tables_off h entries n o = sum_below n (λ i. off_cluster h o (host_offset (entry_at entries i)))

-- References by the first n entries of the L2 table at an offset: of data, and of host clusters that zero entries keep.
abbrev pub data_off : HeaderFields → Bytes → ℕ → ℕ → ℕ → ℕ
data_off h b table n o = sum_below n (λ j. off_cluster_if h o (host_of (entry_cover h (l2_entry b table j))))

-- References by the L2 table at an offset, 0 for no table.
abbrev pub data_off_at : HeaderFields → Bytes → ℕ → ℕ → ℕ
data_off_at h b o place = if place == 0 then 0 else data_off h b place (entries_per_cluster h) o

abbrev pub data_off_below : HeaderFields → Bytes → ℕ → ℕ → ℕ
data_off_below h b n o = sum_below n (λ i. data_off_at h b o (host_offset (l1_entry h b i)))

-- References by the L2 tables at these offsets, each counted as often as its offset is listed.
abbrev pub data_off_by_tables : HeaderFields → Bytes → List ℕ → ℕ → ℕ
data_off_by_tables h b places o = sum_by (λ place. data_off_at h b o place) places

-- References by the whole reftable, and by the whole L1 table.
abbrev pub off_refblocks : HeaderFields → Bytes → ℕ → ℕ
off_refblocks h b o = sum_below (reftable_entries h) (λ k. off_cluster h o (block_offset (reftable_entry h b k)))

abbrev pub off_l2_tables : HeaderFields → Bytes → ℕ → ℕ
off_l2_tables h b o = sum_below h.l1_entries (λ i. off_cluster h o (host_offset (l1_entry h b i)))

-- The tallies of offsets with these numbers of references.
abbrev pub times : (ℕ → ℕ) → ℕ → Tally
times f o = record { named = f o; for_tables = 0; marked = 0; count = 0 }

-- A new image as it is first written: three clusters, and no L1 table.
use Rattle.std.specs.Prelude.{ℕ, ◌*◌, ◌<◌, ◌≡◌, ◌≢◌, nat_lt, if◌then◌else◌}
use Rattle.qcow2_metadata.specs.Bytes.{Bytes}
use Rattle.qcow2_metadata.specs.declared.header.HeaderFields.{HeaderFields}
use Rattle.qcow2_metadata.specs.Header.{header, HeaderReads, cluster_size, count_width, counts_per_block}
use Rattle.qcow2_metadata.specs.Entries.{reftable_entry, block_count}

-- Cluster 0 is the header, cluster 1 the reftable, and cluster 2 a refblock that counts the three.
pub record IsNewImage (h : HeaderFields) (b : Bytes) : Type 0 where
  pub header_is : header b ≡ h
  pub reads : HeaderReads h b
  pub no_l1_table : (h.l1_entries ≡ 0) × (h.l1_offset ≡ 0)
  pub reftable_offset : h.reftable_offset ≡ cluster_size h
  pub reftable_clusters : h.reftable_clusters ≡ 1
  pub no_snapshots : h.snapshots ≡ 0
  pub no_data_file : h.incompatible ≡ 0
  pub refblock : reftable_entry h b 0 ≡ 2 * cluster_size h
  pub no_other : (k : ℕ) → k ≢ 0 → reftable_entry h b k ≡ 0
  pub counts : (i : ℕ) → i < counts_per_block h → block_count b (count_width h) (2 * cluster_size h) i ≡ (if nat_lt i 3 then 1 else 0)

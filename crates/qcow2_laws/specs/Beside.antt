-- Consistent images whose data are in an external file: their guest clusters use no cluster of the image.
use Rattle.std.specs.Prelude.{ℕ, ◌-◌, ◌*◌, ◌/◌, ◌≡◌, ◌≢◌, ◌<◌, ◌≤◌, true, IsTrue, ⊤, Some, None}
use Rattle.qcow2_metadata.specs.Bytes.{Bytes}
use Rattle.qcow2_metadata.specs.declared.header.HeaderFields.{HeaderFields}
use Rattle.qcow2_metadata.specs.Header.{HeaderReads, ReftableFits, cluster_size, reftable_entries, has_data_file}
use Rattle.qcow2_metadata.specs.Entries.{l1_entry, reftable_entry, count, host_offset, block_offset, is_copied, L1EntryReads, ReftableEntryReads}
use Rattle.qcow2_metadata.specs.Cover.{cover}
use Rattle.qcow2_metadata.specs.Named.{named_for_tables}
use Rattle.qcow2_metadata.specs.Consistent.{IsAligned, EachCover, CoverIsAligned}
use Rattle.qcow2_metadata.specs.declared.l2_mapping.L2Mapping.{L2Mapping}
use Rattle.qcow2_metadata.specs.declared.l2_mapping.L2Mapping.TheVariants.{Data, Zero, Compressed, Uncovered}

-- The mapping of a guest cluster, if the data are in an external file: data, and host clusters that zero entries keep, lie at the guest cluster's own offset. Data are marked copied, and nothing is compressed.
abbrev pub StandsAtGuest : HeaderFields → ℕ → L2Mapping → Type 0
StandsAtGuest h g (Data host copied) = (host ≡ g * cluster_size h) × IsTrue copied
StandsAtGuest h g (Zero None) = ⊤
StandsAtGuest h g (Zero (Some k)) = k.0 ≡ g * cluster_size h
StandsAtGuest h g (Compressed place sectors) = ⊥
StandsAtGuest h g Uncovered = ⊤

-- If the data are in an external file, the mapping of a guest cluster is as such an image has it. Otherwise it may be anything.
abbrev pub StandsIfBeside : HeaderFields → ℕ → L2Mapping → Type 0
StandsIfBeside h g v = has_data_file h ≡ true → StandsAtGuest h g v

-- The cluster of a table: it has one reference, and refcount 1.
abbrev pub IsOwnTable : HeaderFields → Bytes → ℕ → Type 0
IsOwnTable h b place = (named_for_tables h b (place / cluster_size h) ≡ 1) × (count h b (place / cluster_size h) ≡ 1)

-- A consistent image with an external data file.
pub record ConsistentBeside (h : HeaderFields) (b : Bytes) : Type 0 where
  pub header_reads : HeaderReads h b
  pub reftable_fits : ReftableFits h
  pub l1_reads : (i : ℕ) → i < h.l1_entries → L1EntryReads (l1_entry h b i)
  pub reftable_reads : (k : ℕ) → k < reftable_entries h → ReftableEntryReads (reftable_entry h b k)
  pub no_snapshots : h.snapshots ≡ 0
  pub external : has_data_file h ≡ true
  pub l1_aligned : IsAligned h h.l1_offset
  pub reftable_aligned : IsAligned h h.reftable_offset
  pub l2_tables_aligned : (i : ℕ) → i < h.l1_entries → IsAligned h (host_offset (l1_entry h b i))
  pub refblocks_aligned : (k : ℕ) → k < reftable_entries h → IsAligned h (block_offset (reftable_entry h b k))
  pub data_aligned : EachCover h b (CoverIsAligned h)
  pub counted : (cluster : ℕ) → named_for_tables h b cluster ≤ count h b cluster
  pub tables_once : (cluster : ℕ) → named_for_tables h b cluster ≢ 0 → named_for_tables h b cluster ≡ 1
  pub copied_tables : (i : ℕ) → i < h.l1_entries → host_offset (l1_entry h b i) ≢ 0 → IsTrue (is_copied (l1_entry h b i)) → IsOwnTable h b (host_offset (l1_entry h b i))
  pub at_guests : (g : ℕ) → StandsAtGuest h g (cover h b g)

-- The surplus of each cluster, with references by tables only.
abbrev pub table_surplus_of : HeaderFields → Bytes → ℕ → ℕ
table_surplus_of h b c = count h b c - named_for_tables h b c

-- When an image is consistent. The headline assumes this of the opened image, and promises it after every stop.
use Rattle.std.specs.Prelude.{ℕ, ◌/◌, ◌≡◌, ◌≢◌, ◌<◌, ◌≤◌, Bool, IsTrue, Option, Some, None, ⊤}
use Rattle.qcow2_metadata.specs.Bytes.{Bytes}
use Rattle.qcow2_metadata.specs.Header.{HeaderFields, header, HeaderReads, ReftableFits, cluster_size, entries_per_cluster, reftable_entries}
pub use Rattle.qcow2_metadata.specs.Header.{IsAligned}
use Rattle.qcow2_metadata.specs.Entries.{l1_entry, l2_entry, reftable_entry, count, host_offset, block_offset, is_copied, L1EntryReads, ReftableEntryReads}
use Rattle.qcow2_metadata.specs.Cover.{entry_cover}
use Rattle.qcow2_metadata.specs.Named.{named, named_for_tables}
use Rattle.qcow2_metadata.specs.declared.l2_mapping.L2Mapping.{L2Mapping}
use Rattle.qcow2_metadata.specs.declared.l2_mapping.L2Mapping.TheVariants.{Data, Zero, Compressed, Uncovered}

-- The cluster of this offset has exactly one reference, and refcount 1.
abbrev pub IsOwn : HeaderFields → Bytes → ℕ → Type 0
IsOwn h b place = (named h b (place / cluster_size h) ≡ 1) × (count h b (place / cluster_size h) ≡ 1)

abbrev pub KeptIsAligned : HeaderFields → Option (ℕ × Bool) → Type 0
KeptIsAligned h None = ⊤
KeptIsAligned h (Some k) = IsAligned h k.0

-- The host cluster of a mapping, if it has one, is aligned.
abbrev pub CoverIsAligned : HeaderFields → L2Mapping → Type 0
CoverIsAligned h (Data host copied) = IsAligned h host
CoverIsAligned h (Zero kept) = KeptIsAligned h kept
CoverIsAligned h (Compressed place sectors) = ⊤
CoverIsAligned h Uncovered = ⊤

abbrev pub KeptIsOwn : HeaderFields → Bytes → Option (ℕ × Bool) → Type 0
KeptIsOwn h b None = ⊤
KeptIsOwn h b (Some k) = IsTrue k.1 → IsOwn h b k.0

-- A host cluster that the mapping marks copied has exactly one reference, and refcount 1.
abbrev pub CopiedIsOwn : HeaderFields → Bytes → L2Mapping → Type 0
CopiedIsOwn h b (Data host copied) = IsTrue copied → IsOwn h b host
CopiedIsOwn h b (Zero kept) = KeptIsOwn h b kept
CopiedIsOwn h b (Compressed place sectors) = ⊤
CopiedIsOwn h b Uncovered = ⊤

-- P holds of each L2 entry of each L2 table that the L1 table names.
abbrev pub EachCover : HeaderFields → Bytes → (L2Mapping → Type 0) → Type 0
EachCover h b P =
    (i j : ℕ) → i < h.l1_entries → host_offset (l1_entry h b i) ≢ 0 → j < entries_per_cluster h
    → P (entry_cover h (l2_entry b (host_offset (l1_entry h b i)) j))

-- A consistent image with this header. `named` is the number of references to a cluster, `count` its refcount.
pub record Consistent (h : HeaderFields) (b : Bytes) : Type 0 where
  pub header_reads : HeaderReads h b
  pub reftable_fits : ReftableFits h
  pub l1_reads : (i : ℕ) → i < h.l1_entries → L1EntryReads (l1_entry h b i)
  pub reftable_reads : (k : ℕ) → k < reftable_entries h → ReftableEntryReads (reftable_entry h b k)
  pub no_snapshots : h.snapshots ≡ 0
  pub no_data_file : h.incompatible ≡ 0
  pub l1_aligned : IsAligned h h.l1_offset
  pub reftable_aligned : IsAligned h h.reftable_offset
  pub l2_tables_aligned : (i : ℕ) → i < h.l1_entries → IsAligned h (host_offset (l1_entry h b i))
  pub refblocks_aligned : (k : ℕ) → k < reftable_entries h → IsAligned h (block_offset (reftable_entry h b k))
  pub data_aligned : EachCover h b (CoverIsAligned h)
  pub counted : (cluster : ℕ) → named h b cluster ≤ count h b cluster
  -- A cluster of the header, of a table or of a refblock has exactly one reference.
  pub tables_once : (cluster : ℕ) → named_for_tables h b cluster ≢ 0 → named h b cluster ≡ 1
  pub copied_tables : (i : ℕ) → i < h.l1_entries → host_offset (l1_entry h b i) ≢ 0 → IsTrue (is_copied (l1_entry h b i)) → IsOwn h b (host_offset (l1_entry h b i))
  pub copied_data : EachCover h b (CopiedIsOwn h b)

-- A consistent image.
abbrev pub IsConsistent : Bytes → Type 0
IsConsistent b = Consistent (header b) b

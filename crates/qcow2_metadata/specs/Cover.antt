-- The mapping of a guest cluster.
use Rattle.std.specs.Prelude.{ℕ, ◌+◌, ◌-◌, ◌/◌, ◌%◌, Bool, ◌==◌, ◌&&◌, ◌||◌, not, Some, None, if◌then◌else◌}
use Rattle.qcow2_metadata.specs.Bytes.{Bytes, bits_of, has_bit}
use Rattle.qcow2_metadata.specs.Header.{HeaderFields, entries_per_cluster, has_data_file}
use Rattle.qcow2_metadata.specs.Entries.{l1_entry, l2_entry, host_offset, is_copied}
use Rattle.qcow2_metadata.specs.declared.l2_mapping.L2Mapping.{L2Mapping}
use Rattle.qcow2_metadata.specs.declared.l2_mapping.L2Mapping.TheVariants.{Data, Zero, Compressed, Uncovered}

-- In a compressed entry, bits 0 to `sectors_bit` - 1 are the host byte offset, and the bits from `sectors_bit` to 61 the number of further 512-byte sectors.
abbrev pub sectors_bit : ℕ → ℕ
sectors_bit cluster_bits = 62 - (cluster_bits - 8)

-- Whether an L2 entry has a host cluster. Host offset 0 is none, except with an external data file if the entry is marked copied.
abbrev pub has_host : Bool → ℕ → Bool
has_host external entry = not (host_offset entry == 0) || (external && is_copied entry)

-- The mapping that an L2 entry encodes. Bit 0 means zeros only with `zero_bit` (version 3). `external` says that there is an external data file.
unfoldable pub cover_of : ℕ → Bool → Bool → ℕ → L2Mapping
cover_of cluster_bits zero_bit external entry =
    if has_bit entry 62 then
    Compressed (bits_of 0 (sectors_bit cluster_bits - 1) entry) (bits_of (sectors_bit cluster_bits) 61 entry + 1)
    else if zero_bit && has_bit entry 0 then
    Zero (if has_host external entry then Some (host_offset entry, is_copied entry) else None)
    else if has_host external entry then Data (host_offset entry) (is_copied entry)
    else Uncovered

-- The mapping that an L2 entry of an image encodes.
abbrev pub entry_cover : HeaderFields → ℕ → L2Mapping
entry_cover h entry = cover_of h.cluster_bits (h.version == 3) (has_data_file h) entry

-- The mapping of a guest cluster, by the L1 entry that covers it.
unfoldable pub cover_under : HeaderFields → Bytes → ℕ → ℕ → L2Mapping
cover_under h b entry guest =
    if host_offset entry == 0 then Uncovered else entry_cover h (l2_entry b (host_offset entry) (guest % entries_per_cluster h))

-- The mapping of a guest cluster.
unfoldable pub cover : HeaderFields → Bytes → ℕ → L2Mapping
cover h b guest = cover_under h b (l1_entry h b (guest / entries_per_cluster h)) guest

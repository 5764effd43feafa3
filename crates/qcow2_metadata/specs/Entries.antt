-- Entries of the L1 table, L2 tables, the reftable and refblocks, read from the bytes of an image. Entries past the end of a table read as 0.
use Rattle.std.specs.Prelude.{ℕ, ◌+◌, ◌*◌, ◌/◌, ◌%◌, ◌^◌, ◌≡◌, Bool, ◌==◌, nat_lt, if◌then◌else◌}
use Rattle.qcow2_metadata.specs.Bytes.{Bytes, number_at, bits_of, has_bit}
use Rattle.qcow2_metadata.specs.Header.{HeaderFields, reftable_entries, count_width, counts_per_block}

unfoldable pub l1_entry : HeaderFields → Bytes → ℕ → ℕ
l1_entry h b i = if nat_lt i h.l1_entries then number_at b (h.l1_offset + 8 * i) 8 else 0

-- Entry j of the L2 table at offset `table`.
unfoldable pub l2_entry : Bytes → ℕ → ℕ → ℕ
l2_entry b table j = number_at b (table + 8 * j) 8

unfoldable pub reftable_entry : HeaderFields → Bytes → ℕ → ℕ
reftable_entry h b k = if nat_lt k (reftable_entries h) then number_at b (h.reftable_offset + 8 * k) 8 else 0

-- Bits 9 to 55 of an L1 or L2 entry: the offset of an L2 table or of data, 0 for none.
abbrev pub host_offset : ℕ → ℕ
host_offset entry = bits_of 9 55 entry * 512

-- Bits 9 to 63 of a reftable entry: the offset of a refblock, 0 for none.
abbrev pub block_offset : ℕ → ℕ
block_offset entry = bits_of 9 63 entry * 512

-- Bit 63 of an L1 or L2 entry: copied.
abbrev pub is_copied : ℕ → Bool
is_copied entry = has_bit entry 63

-- Refcount i of the refblock at offset `block`. Refcounts narrower than a byte fill it from the lowest bits on, wider ones are big-endian.
unfoldable pub block_count : Bytes → ℕ → ℕ → ℕ → ℕ
block_count b width block i =
    if nat_lt width 8
    then b (block + i * width / 8) / 2 ^ (i * width % 8) % 2 ^ width
    else number_at b (block + i * (width / 8)) (width / 8)

-- The refcount of a cluster, by the reftable entry that covers it. Without a refblock it is 0.
unfoldable pub count_under : HeaderFields → Bytes → ℕ → ℕ → ℕ
count_under h b entry cluster =
    if block_offset entry == 0 then 0 else block_count b (count_width h) (block_offset entry) (cluster % counts_per_block h)

-- The refcount of a cluster.
unfoldable pub count : HeaderFields → Bytes → ℕ → ℕ
count h b cluster = count_under h b (reftable_entry h b (cluster / counts_per_block h)) cluster

-- No reserved bit of the entry is set.
abbrev pub L1EntryReads : ℕ → Type 0
L1EntryReads entry = (bits_of 0 8 entry ≡ 0) × (bits_of 56 62 entry ≡ 0)

abbrev pub ReftableEntryReads : ℕ → Type 0
ReftableEntryReads entry = bits_of 0 8 entry ≡ 0

-- The L1 entry of an offset: whether the table has it, whether it names an L2 table of the image's own, and whether its offset fits into 64 bits.
use Rattle.std.specs.Prelude.{ℕ, ◌+◌, ◌-◌, ◌*◌, ◌≡◌, ◌<◌, ◌≤◌, max, Some}
use Rattle.qcow2_metadata.specs.declared.header.HeaderFields.{HeaderFields}
use Rattle.qcow2_metadata.specs.EntryTable.{EntryTableView, entry_count, HasRoomIfPlaced}
use Rattle.qcow2_metadata.specs.L2Mapping.{IsHostCluster}
use Rattle.qcow2_metadata.specs.TableBytes.{entry_at}
use Rattle.qcow2_image.specs.declared.image.Qcow2.{Qcow2}
use Rattle.qcow2_image.specs.Found.{l1_index_of}
use Rattle.qcow2_image.specs.MayFail.{KeepsL1Place}
use Rattle.qcow2_image.specs.InternalSteps.{NamesOwn}

-- The L1 table has its old entries and those up to that of an offset, and no more.
abbrev pub ReachesOffset : ℕ → HeaderFields → HeaderFields → Type 0
ReachesOffset offset h h' = h'.l1_entries ≡ max h.l1_entries (l1_index_of h offset + 1)

-- If the L1 table covers the last byte before an offset, its place and its length stay the same.
abbrev pub ReachingStays : ℕ → HeaderFields → HeaderFields → Type 0
ReachingStays to h h' = l1_index_of h (to - 1) < h.l1_entries → KeepsL1Place h h'

-- An L1 table within the limits that has a place. An entry can hold its first cluster.
pub record IsPlacedNear (t : EntryTableView) : Type 0 where
  pub few : entry_count t ≤ 4194304
  pub cluster : ℕ
  pub is : t.cluster ≡ Some cluster
  pub nameable : IsHostCluster t.cluster_bits cluster

module _ {S F : Type 0} where
  -- The L1 table has no entry for the offset.
  abbrev pub EndsBefore : ℕ → Qcow2 S F → Type 0
  EndsBefore offset image = entry_count image.l1_table ≤ l1_index_of image.file.header.fields offset

  -- The L1 table has this entry, and the entry's offset fits into 64 bits.
  pub record HasNearEntry (image : Qcow2 S F) (index : ℕ) : Type 0 where
    pub within : index < entry_count image.l1_table
    pub room : HasRoomIfPlaced image.l1_table.cluster_bits (8 * index) image.l1_table.cluster

  -- This entry of the L1 table in memory names an L2 table, marked copied.
  abbrev pub HasOwnEntry : Qcow2 S F → ℕ → Type 0
  HasOwnEntry image index = NamesOwn (entry_at image.l1_table.bytes index)

  -- The L1 table in memory has an L2 table for the offset, marked copied.
  abbrev pub HasOwnTable : Qcow2 S F → ℕ → Type 0
  HasOwnTable image offset = HasOwnEntry image (l1_index_of image.file.header.fields offset)

  -- The L1 table has an entry for the offset, but the entry's own offset does not fit into 64 bits.
  pub record L1EntryOverflows (image : Qcow2 S F) (offset : ℕ) : Type 0 where
    pub within : l1_index_of image.file.header.fields offset < entry_count image.l1_table
    pub far : ¬ HasRoomIfPlaced image.l1_table.cluster_bits (8 * l1_index_of image.file.header.fields offset) image.l1_table.cluster

  -- An L1 entry whose own offset passes 64 bits would have to be written for the offset.
  abbrev pub NeedsOverflowingL1Entry : Qcow2 S F → ℕ → Type 0
  NeedsOverflowingL1Entry image offset = L1EntryOverflows image offset × ¬ HasOwnTable image offset

-- When the L1 table and the reftable of an image are loaded, and why one is not: by its bytes alone.
use Rattle.std.specs.Prelude.{ℕ, ◌+◌, ◌*◌, ◌^◌, ◌<◌, ◌≤◌}
use Rattle.qcow2_metadata.specs.Bytes.{Bytes}
use Rattle.qcow2_metadata.specs.declared.header.HeaderFields.{HeaderFields}
use Rattle.qcow2_metadata.specs.Header.{reftable_entries, IsAligned}
pub use Rattle.qcow2_metadata.specs.Header.{ReftableFits}
use Rattle.qcow2_metadata.specs.Entries.{l1_entry, reftable_entry, L1EntryReads, ReftableEntryReads}
use Rattle.qcow2_alloc.specs.declared.error.ImageError.{ImageError}
use Rattle.qcow2_alloc.specs.declared.error.ImageError.TheVariants as I

-- None of the entries has a reserved bit.
abbrev pub EntriesRead : ℕ → (ℕ → Type 0) → Type 0
EntriesRead entries EntryReads = (i : ℕ) → i < entries → EntryReads i

-- One of the entries has a reserved bit.
pub record HasUnreadEntry (entries : ℕ) (EntryReads : ℕ → Type 0) : Type 0 where
  pub index : ℕ
  pub within : index < entries
  pub unread : ¬ EntryReads index

-- Why a table is not loaded: its offset is not aligned, it passes a limit, or an entry has a reserved bit; or a fault.
abbrev pub IsReasonAgainst : HeaderFields → (place : ℕ) → (passes unread : Type 0) → ImageError → Type 0
IsReasonAgainst h place passes unread I.UnalignedTable = ¬ IsAligned h place
IsReasonAgainst h place passes unread I.Limit = passes
IsReasonAgainst h place passes unread I.Metadata = unread
IsReasonAgainst h place passes unread I.Memory = Unit {0}
IsReasonAgainst h place passes unread I.Storage = Unit {0}
IsReasonAgainst h place passes unread e = ⊥

-- The entries of the L1 table are readable, wherever it ends.
abbrev pub L1TableReads : HeaderFields → Bytes → Type 0
L1TableReads h b = EntriesRead h.l1_entries (λ i. L1EntryReads (l1_entry h b i))

-- Why the L1 table is not loaded. It passes no limit.
abbrev pub IsReasonAgainstL1Table : HeaderFields → Bytes → ImageError → Type 0
IsReasonAgainstL1Table h b e = IsReasonAgainst h h.l1_offset ⊥ (HasUnreadEntry h.l1_entries (λ i. L1EntryReads (l1_entry h b i))) e

-- The end of the reftable fits into 64 bits, and its entries are readable.
pub record ReftableReads (h : HeaderFields) (b : Bytes) : Type 0 where
  pub fits : ReftableFits h
  pub each : EntriesRead (reftable_entries h) (λ k. ReftableEntryReads (reftable_entry h b k))

abbrev pub IsReasonAgainstReftable : HeaderFields → Bytes → ImageError → Type 0
IsReasonAgainstReftable h b e =
    IsReasonAgainst h h.reftable_offset (2 ^ 64 ≤ h.reftable_offset + 8 * reftable_entries h) (ReftableFits h × HasUnreadEntry (reftable_entries h) (λ k. ReftableEntryReads (reftable_entry h b k))) e

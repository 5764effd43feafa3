-- Why there is no report.
use Rattle.std.proofs.Common.{◌+◌, ◌*◌, ◌^◌, ◌≤◌, ℕ, List, refl, sym, subst, arith}
use Rattle.qcow2_check.proofs.Common.{Bytes, byte_at, HeaderFields, reftable_entries, L1EntryReads, ReftableEntryReads, IsOfStorageOrMemory, MetadataError, IsReasonNotToCount}
use Rattle.qcow2_check.specs.Report.{IsReasonNotToCheck}
use Rattle.image_access.specs.Contents.{bytes_at}
use Rattle.image_access.proofs.Bytes.{length-bytes_at}
use Rattle.qcow2_metadata.specs.EntryTable.{SomeUnread, IsReasonNotToLoad}
use Rattle.qcow2_metadata.specs.declared.error.MetadataError.TheVariants.{Version, Unaligned, Limit, Format}
use Rattle.qcow2_metadata.proofs.EntryTables.{l1_entries-loaded, reftable_entries-loaded}

pub l1_unread : (h : HeaderFields) (contents : List ℕ) (e : MetadataError) (honest : Type 0) → honest
    → IsReasonNotToLoad (2 ^ 64 ≤ h.l1_offset + 8 * h.l1_entries) (honest → SomeUnread L1EntryReads (bytes_at contents h.l1_offset (8 * h.l1_entries))) e
    → IsReasonNotToCount h (byte_at contents) e
l1_unread h contents Limit honest here why = λ fits. absurd (omega (arith, why, fits.l1_table))
l1_unread h contents Format honest here why = λ reads.
    let some = why here in
    some.2 (subst L1EntryReads (sym (l1_entries-loaded h contents _ refl some.0))
    (reads.l1_entries some.0 (omega (arith, some.1, length-bytes_at contents h.l1_offset (8 * h.l1_entries)))))
l1_unread h contents Version honest here why = why
l1_unread h contents Unaligned honest here why = why
l1_unread h contents _ honest here why = tt

pub reftable_unread : (h : HeaderFields) (contents : List ℕ) (e : MetadataError) (honest : Type 0) → honest
    → IsReasonNotToLoad (2 ^ 64 ≤ h.reftable_offset + 8 * reftable_entries h) (honest → SomeUnread ReftableEntryReads (bytes_at contents h.reftable_offset (8 * reftable_entries h))) e
    → IsReasonNotToCount h (byte_at contents) e
reftable_unread h contents Limit honest here why = λ fits. absurd (omega (arith, why, fits.reftable))
reftable_unread h contents Format honest here why = λ reads.
    let some = why here in
    some.2 (subst ReftableEntryReads (sym (reftable_entries-loaded h contents _ refl some.0))
    (reads.reftable some.0 (omega (arith, some.1, length-bytes_at contents h.reftable_offset (8 * reftable_entries h)))))
reftable_unread h contents Version honest here why = why
reftable_unread h contents Unaligned honest here why = why
reftable_unread h contents _ honest here why = tt

pub uncounted : (h : HeaderFields) (b : Bytes) (e : MetadataError) → IsOfStorageOrMemory e → IsReasonNotToCount h b e
uncounted h b Limit why = absurd why
uncounted h b Format why = absurd why
uncounted h b Version why = why
uncounted h b Unaligned why = why
uncounted h b _ why = tt

pub unchecked : (h : HeaderFields) (b : Bytes) (e : MetadataError) → IsReasonNotToCount h b e → IsReasonNotToCheck h b e
unchecked h b Limit why = λ both. why both.1
unchecked h b Format why = λ both. why both.1
unchecked h b Version why = why
unchecked h b Unaligned why = why
unchecked h b _ why = tt

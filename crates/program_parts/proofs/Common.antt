-- The names that several proofs cite, passed on from one place. Declares nothing.
pub use Rattle.std.proofs.Common.{inl, inr, ℕ, List, [], length, refl, sym, ap, ◌∙◌, subst, arith, Option, Some, None, Result, Ok, Err, IfOk, OnOk, IsErrAnd, true, ⊎_elim, false, append_assoc, Bool, option_map, take, max, IsErr, slice_get, slice_index_or, zero, suc, not, nat_eq, nat_lt, rules, codes}
pub use Rattle.std.proofs.lemmas.Bool.{cases_lt, ltb-false, le-ltb}
pub use Rattle.std.proofs.lemmas.Grind.{common_steps}
pub use Rattle.std.specs.Io.KnownBytes.{Appends}
pub use Rattle.std.specs.Option.{is_some, option_or}
pub use Rattle.std.specs.Prelude.{IsTrue, All, IfErr, unwrap_or, slice_index}
pub use Rattle.image_access.proofs.Bytes.{byte_at-bytes_at, length-bytes_at, byte_at-overwritten, byte_at-overwritten_below, length-overwritten, length-resized, same_contents}
pub use Rattle.image_access.proofs.EachMomentSince.{passes_if, passes_on}
pub use Rattle.image_access.specs.Backing.{BackingView}
pub use Rattle.image_access.specs.Moments.{StorageView, EachMomentSince, HasCause, Rose, IsLeftBy, ContentsStay, QuietCalls}
pub use Rattle.image_access.specs.declared.error.StorageError.{StorageError}
pub use Rattle.program_parts.specs.Comparing.{IsFoundBetween, IsCompared, IsFirstOther, IsWhereOther}
pub use Rattle.program_parts.specs.Conversions.{disk_alone, CountsBoth, IsExport, KeepsDisk, zeros_below, IsImageMade, IsImageOf, IsImageOfSize, IsStopOfMaking, MayFailOnceCreated, asked_for, IsLayout, MayFailExporting, MayFailReadingDisk, IsRefusedUntouched, IsUnopened, OpensToExport}
pub use Rattle.program_parts.specs.Copies.{CopiesFrom, IsCopiedUpTo, KeepsBoth}
pub use Rattle.program_parts.specs.Disks.{AreSameBelow, IsSeenAs, SeenDisk, seen_image, IsKeptQuietly, IsOnlyRead, AreSameDisks, IsComparisonIn, IsComparisonOf, IsFirstDifference, IsOpenedAs, LiesOn, seen_open, seen_raw, storage_under}
pub use Rattle.program_parts.specs.Layers.{Stack, storage_at}
pub use Rattle.program_parts.specs.Reports.{text_of_lines, text_of_report, IsFoundConsistent, breach_line, leak_line}
pub use Rattle.qcow2_alloc.proofs.AllocationSteps.{fault_of_storage, handed_on}
pub use Rattle.qcow2_alloc.proofs.KeptTables.Causes.{given_err}
pub use Rattle.qcow2_alloc.proofs.KeptTables.Quiet.{quiet_then, quiet_none, quiet_read}
pub use Rattle.qcow2_alloc.specs.Faults.{FaultsReported}
pub use Rattle.qcow2_alloc.specs.ImageError.{of_storage, IsFault}
pub use Rattle.qcow2_alloc.specs.ImageFile.{known_in, contents_in, state_in}
pub use Rattle.qcow2_alloc.specs.Quiet.{IsQuiet}
pub use Rattle.qcow2_alloc.specs.declared.error.ImageError.{ImageError}
pub use Rattle.qcow2_alloc.specs.declared.error.ImageError.TheVariants.{InvalidOption, Limit}
unfoldable pub use Rattle.qcow2_check.specs.Report.{leak_lines, breach_lines}
pub use Rattle.qcow2_check.specs.declared.report.Breach.{Breach}
pub use Rattle.qcow2_disk.proofs.HeaderRest.{header_rest_same}
pub use Rattle.qcow2_disk.specs.AbstractImages.{IsOpened, guest_of, Setting, AbstractImage, stored_bytes}
pub use Rattle.qcow2_disk.specs.Calls.{Shows, CallEffect}
unfoldable pub use Rattle.qcow2_disk.specs.Disk.{disk_with}
pub use Rattle.qcow2_disk.specs.Disk.{disk, Disk}
pub use Rattle.qcow2_disk.specs.HeaderRest.{KeepsHeaderRest}
pub use Rattle.qcow2_disk.specs.Stops.{StopOkEverywhere, checkpoint_at, LeavesKept, GivenBytes, checkpoint_with}
pub use Rattle.qcow2_image.proofs.Create.Causes.{told_opening, opening_reasons, fault_reason}
pub use Rattle.qcow2_image.proofs.Create.NewDisks.{new_disk_consistent}
pub use Rattle.qcow2_image.proofs.Images.Free.{whole}
pub use Rattle.qcow2_image.specs.Created.{IsReasonNotToCreateOpen, IsNewDisk, IsStopOfCreating, IsAllowed, IsCreated, allocates_over, backing_format_in, backing_name_in, IsReasonNotToCreate, longest_disk}
pub use Rattle.qcow2_image.specs.Image.{storage_of_image, IsSameImage, is_writable, size_of, HasNothingToFree}
pub use Rattle.qcow2_image.specs.ImageInvariant.{abstract_of, faults_below, backing_bytes, pending_in}
pub use Rattle.qcow2_image.specs.declared.builder.NoBacking.{NoBacking}
pub use Rattle.qcow2_image.specs.declared.builder.Qcow2CreateBuilder.{Qcow2CreateBuilder}
pub use Rattle.qcow2_image.specs.declared.image.Qcow2.{Qcow2}
pub use Rattle.qcow2_metadata.specs.Bytes.{byte_at, Bytes}
pub use Rattle.qcow2_metadata.specs.Consistent.{IsConsistent}
pub use Rattle.qcow2_metadata.specs.Guest.{known_byte, Value}
unfoldable pub use Rattle.qcow2_metadata.specs.Header.{header, backing_name}
pub use Rattle.qcow2_metadata.specs.Header.{count_width, cluster_size}
pub use Rattle.qcow2_metadata.specs.declared.header.HeaderFields.{HeaderFields}
pub use Rattle.qcow2_session.specs.Conversions.{IsRawOf, Imports, MayFailImporting, Exports, IsUnchanged, ImportsAny, IsLeft}

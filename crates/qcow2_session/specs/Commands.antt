-- The meaning of commands and replies in terms of the guest's disk.
use Rattle.std.specs.Prelude.{ℕ, ◌≡◌, Option, Result, Ok, Err, replicate}
use Rattle.qcow2_disk.specs.Calls.{to_zero, to_kept_zero, to_backing}
use Rattle.qcow2_metadata.specs.Bytes.{Bytes}
use Rattle.qcow2_disk.specs.Runs.{Command, Reply, IsRightlyPlain, IsRightlySpecial, read, write, get_mapping, read_mapped, prepare, put, commit, discard, clear, read_special, try_read_special, flush, sync, invalidate_cache, grow, shrink, get_size, get_leaked, done, bytes_are, mapping_is, prepared_is, range_is, plain_at, number_is, refused, write_refused, misuse}
use Rattle.qcow2_alloc.specs.declared.error.ImageError.{ImageError}
use Rattle.qcow2_alloc.specs.declared.error.ImageError.TheVariants.{NotCompressed}
use Rattle.qcow2_image.specs.Calls.{refusal_of}
use Rattle.qcow2_image.specs.Found.{found_kind}
use Rattle.qcow2_session.specs.declared.session.Command.{Command as SessionCommand}
use Rattle.qcow2_session.specs.declared.session.Command.TheVariants as C
use Rattle.qcow2_session.specs.declared.session.Reply.{Reply as SessionReply}
use Rattle.qcow2_session.specs.declared.session.Reply.TheVariants as R

abbrev pub command_of : SessionCommand → Command
command_of (C.Read offset n) = read offset n
command_of (C.Write offset bytes) = write offset bytes.items
command_of (C.Fill offset n byte) = write offset (replicate n byte)
command_of (C.GetMapping slot offset max) = get_mapping slot offset max
command_of (C.ReadMapped slot at n) = read_mapped slot at n
command_of (C.PrepareDataMapping slot offset n overwrite) = prepare slot offset n overwrite
command_of (C.WriteMapped slot at bytes) = put slot at bytes.items
command_of (C.CommitDataMapping slot) = commit slot
command_of (C.DiscardDataMapping slot) = discard slot
command_of (C.EnsureZeroMapping offset n) = clear to_kept_zero offset n
command_of (C.DiscardToZero offset n) = clear to_zero offset n
command_of (C.DiscardToAny offset n) = clear to_zero offset n
command_of (C.DiscardToBacking offset n) = clear to_backing offset n
command_of (C.ReadvSpecial offset n) = read_special offset n
command_of (C.TryReadvSpecial offset n) = try_read_special offset n
command_of C.Flush = flush
command_of C.Sync = sync
command_of C.InvalidateCache = invalidate_cache
command_of (C.ResizeGrow size mode) = grow size mode
command_of (C.ResizeShrink size) = shrink size
command_of C.Size = get_size
command_of C.Leaked = get_leaked

abbrev pub reply_of : SessionReply → Reply
reply_of R.Done = done
reply_of (R.Bytes bytes) = bytes_are bytes.items
reply_of (R.Mapping m) = mapping_is m.offset (found_kind m.kind) m.length
reply_of (R.Prepared offset n existing) = prepared_is offset n existing
reply_of (R.Range offset n) = range_is offset n
reply_of (R.NotCompressed at) = plain_at at
reply_of (R.Shrunk offset) = number_is offset
reply_of (R.Size n) = number_is n
reply_of (R.Leaked n) = number_is n
reply_of (R.Refused e) = refused (refusal_of e)
reply_of (R.WriteRefused e n) = write_refused (refusal_of e) n
reply_of R.Misuse = misuse

-- The reply to clearing a range.
abbrev pub reply_of_clearing : Result (ℕ × ℕ) ImageError → SessionReply
reply_of_clearing (Ok range) = R.Range range.0 range.1
reply_of_clearing (Err e) = R.Refused e

-- The reply to a write.
abbrev pub reply_of_write : Result (Unit {0}) (ImageError × ℕ) → SessionReply
reply_of_write (Ok _) = R.Done
reply_of_write (Err r) = R.WriteRefused r.0 r.1

-- A refusal as not compressed has this offset.
abbrev pub IsOwnOffset : ℕ → ImageError → Type 0
IsOwnOffset offset (NotCompressed at) = at ≡ offset
IsOwnOffset offset e = Unit {0}

-- What a special read of n bytes says of the known contents, whether it succeeds or not; and what it says if it may return an offset.
abbrev pub ReportsSpecial : Bytes → (offset n : ℕ) → Result (Unit {0}) ImageError → Type 0
ReportsSpecial known offset n (Ok _) = n ≡ 0
ReportsSpecial known offset n (Err e) = IsRightlySpecial known offset n (refusal_of e)

abbrev pub ReportsPlain : Bytes → (offset n : ℕ) → Result (Option ℕ) ImageError → Type 0
ReportsPlain known offset n (Ok at) = IsRightlyPlain known offset n at
ReportsPlain known offset n (Err e) = IsRightlySpecial known offset n (refusal_of e)

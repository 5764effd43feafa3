-- The names that several proofs cite, passed on from one place. Declares nothing.
pub use Rattle.std.proofs.Common.{⊎_elim, inl, inr, ℕ, List, IsTrue, sym, ap, ◌∙◌, subst, ltb, leb, refl, Bool, true, false, Option, Some, [], arith, None, length, eqb}
pub use Rattle.std.proofs.lemmas.Bool.{cases_lt, eq-eqb, lt-leb, le-ltb, and_left, and_right, cond-true, cond-false, le-leb, lt-ltb, and_from}
pub use Rattle.image_access.proofs.EachMomentSince.{passes_none, passes_if, passes_on, passes_more}
pub use Rattle.image_access.specs.Moments.{StorageView, EachMomentSince, IsLeftBy}
pub use Rattle.qcow2_disk.specs.AbstractImages.{Setting, AbstractImage, stored_bytes, guest_of, Guest, Abstraction, abstract_image, surplus_of, IsWhole}
pub use Rattle.qcow2_disk.specs.Calls.{Stops, EffectOnSound, EffectOnFailed, StartsAt, Refusal, memory, storage, not_compressed, another, CallEffect, AnsweredEffect, RefusedEffect, IsRefusalByFault}
unfoldable pub use Rattle.qcow2_disk.specs.Disk.{disk_with}
pub use Rattle.qcow2_disk.specs.Disk.{disk, Disk, with_bytes}
pub use Rattle.qcow2_disk.specs.HeaderRest.{IsOfHeaderRest, KeepsHeaderRest}
pub use Rattle.qcow2_disk.specs.Mappings.{PreparedMapping, given_by_put, put_disk, put_mapping, committed}
pub use Rattle.qcow2_disk.specs.Runs.{Command, Reply, State, Run, RefinesDisk, IsStopIn, started, checkpoint_during, given_by, asked_by, given_at, Found, CommandMeaning, IsFaultReply, IsStorageReply, MayAnswer, IsAnswerOfFailed, ReplyMatches, ResizesLast, CommandStep, IsSafeWhile, RefinesGuest, RefinesAlong, RefinesState, RefinesCommand, RefinesRun, RefinesWholeRun, IsOwnInterval, checkpoint_after, stepped, flush, shrink, done, number_is}
pub use Rattle.qcow2_disk.specs.Stops.{GivenBytes, IsGiven, Checkpoint, checkpoint_with, StopOkEverywhere, SafeThroughout, LeavesKept, checkpoint_at, StopOk, LeavesOk, IsAsked}
unfoldable pub use Rattle.qcow2_metadata.specs.Bytes.{laid_over, number_at}
pub use Rattle.qcow2_metadata.specs.Bytes.{Bytes, byte_at, is_within, bytes_from}
pub use Rattle.qcow2_metadata.specs.Consistent.{IsConsistent}
pub use Rattle.qcow2_metadata.specs.Guest.{Value, known_byte}
unfoldable pub use Rattle.qcow2_metadata.specs.Header.{header, backing_name}
pub use Rattle.qcow2_metadata.specs.Header.{cluster_size, AreExtensions, HeaderReads}
pub use mathlib.Core.Path.{fun_ext}

-- The names that several proofs cite, passed on from one place. Declares nothing.
pub use Rattle.std.proofs.Common.{inl, inr, Result, Ok, Err, ℕ, List, length, refl, ◌∙◌, arith, [], subst, sym, ap, take, Some, Bool, true, false, None, Option, append_assoc, length-append, rules, append-nil, add-mul, div-add-mod', one-mul}
pub use Rattle.std.proofs.KnownBytes.{Appends-trans, Consumes-nil, Consumes-trans, Appends-nil}
pub use Rattle.std.proofs.lemmas.Bool.{cases_lt}
pub use Rattle.std.proofs.lemmas.List.{length-take-le}
pub use Rattle.std.specs.Io.KnownBytes.{Appends, Consumes, Keeps}
pub use Rattle.std.specs.Prelude.{IsTrue, not, OnOk, All, slice_index, IfErr, IfSome, IsErrOf, nat_lt}
pub use Rattle.std.specs.Result.{IsErrAnd}
pub use Rattle.nbd_protocol.specs.Commands.{Does, MayDo, AreExtents, total, IsChecked, end_of, is_done, IsFailure, IsLate, Refused, asks_always, asks_device, changes, past_end, persists, refuses}
pub use Rattle.nbd_protocol.specs.Conversations.{Deals, Talked, way_of, AnswersLookup, AnswersStatus, Conversation, Converses, Exchange, Exchanges, payload_count, payload_length, sent, told, lookup_reply}
pub use Rattle.nbd_protocol.specs.Devices.{Acts, DeviceView, MayWrite, Stays, StaysBeside, Writes, Zeroes, Clears, MayZero, Fails, IsSameDevice, RefusesToChange, Trims, ShowsZeros, is_zeros, ChangeFails, IsFault, RefusesToRead, AreUnits, IsInWhole, Tells}
unfoldable pub use Rattle.nbd_protocol.specs.Replies.{extent_bytes}
pub use Rattle.nbd_protocol.specs.Replies.{status_reply, extents_reply, read_reply}
pub use Rattle.nbd_protocol.specs.declared.device.Errno.{Errno}
pub use Rattle.nbd_protocol.specs.declared.replies.Extent.{Extent}
pub use Rattle.nbd_protocol.specs.declared.request.Command.{Command}
pub use Rattle.nbd_protocol.specs.declared.request.Request.{Request}
pub use Rattle.nbd_protocol.specs.declared.way.Way.{Way}

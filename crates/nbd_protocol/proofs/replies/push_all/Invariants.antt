use Rattle.std.proofs.Common.{◌≡◌, ◌++◌, take}
use Rattle.nbd_protocol.proofs.Common.{extent_bytes}
use Rattle.std.specs.List.{flat_map}
use Rattle.nbd_protocol.proofs.replies.push_all.Given as goal

abbrev pub invariant-loop-extent : goal.invariant-loop-extent
invariant-loop-extent l = l.out.items ≡ l.fn.out.items ++ flat_map extent_bytes (take l.extent-index l.extents)

use Rattle.std.proofs.Common.{◌≡◌, ◌≤◌, [], length}
use Rattle.nbd_protocol.proofs.Common.{IsTrue, AreExtents, total, IsSameDevice, Stays}
use Rattle.nbd_protocol.proofs.commands.extents.Given as goal

abbrev pub invariant-loop : goal.invariant-loop
invariant-loop g l = let view = g.D.Device.view in (l.done ≤ l.request.length) × (length l.found.items ≤ l.counter) × (l.done ≡ total l.found.items)
    × IsSameDevice (view l.fn.device) (view l.device) × (IsTrue (view l.fn.device).is_failed → l.found.items ≡ [])
    × ((view l.fn.device).is_sound → (view l.device).is_sound × Stays (view l.fn.device) (view l.device) × AreExtents (view l.fn.device) l.request.offset l.found.items)

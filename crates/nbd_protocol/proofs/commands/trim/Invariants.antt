use Rattle.std.proofs.Common.{◌≡◌, ◌+◌, ◌≤◌}
use Rattle.nbd_protocol.proofs.Common.{IsSameDevice, Trims}
use Rattle.nbd_protocol.proofs.commands.trim.Given as goal

abbrev pub invariant-loop : goal.invariant-loop
invariant-loop g l = let view = g.D.Device.view in IsSameDevice (view l.fn.device) (view l.device) × ((view l.fn.device).is_sound →
    (view l.device).is_sound × Trims l.offset (l.offset + l.length) (view l.fn.device) (view l.device) × (l.offset ≤ l.at) × (l.at + l.rest ≡ l.offset + l.length))

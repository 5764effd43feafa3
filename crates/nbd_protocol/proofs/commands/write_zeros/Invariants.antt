use Rattle.std.proofs.Common.{◌≡◌, ◌+◌, ◌≤◌}
use Rattle.nbd_protocol.proofs.Common.{IsSameDevice, Zeroes}
use Rattle.nbd_protocol.proofs.commands.write_zeros.Given as goal

abbrev pub invariant-loop-rest : goal.invariant-loop-rest
invariant-loop-rest g l = let view = g.D.Device.view in (l.at + l.rest ≡ l.offset + l.count) × (l.offset ≤ l.at) × IsSameDevice (view l.fn.device) (view l.device)
    × ((view l.fn.device).is_sound → (view l.device).is_sound × Zeroes l.offset l.at (view l.fn.device) (view l.device))

abbrev pub decreases-loop-rest : goal.decreases-loop-rest
decreases-loop-rest g l = l.rest

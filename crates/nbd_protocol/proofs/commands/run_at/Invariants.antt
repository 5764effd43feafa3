use Rattle.std.proofs.Common.{◌≤◌}
use Rattle.nbd_protocol.proofs.Common.{IsTrue, IsSameDevice, Stays, Tells}
use Rattle.nbd_protocol.proofs.commands.run_at.Given as goal

abbrev pub invariant-loop : goal.invariant-loop
invariant-loop g l = let view = g.D.Device.view in (l.done ≤ l.max) × IsSameDevice (view l.fn.device) (view l.device)
    × (IsTrue (view l.fn.device).is_failed → ⊥)
    × ((view l.fn.device).is_sound → (view l.device).is_sound × Stays (view l.fn.device) (view l.device) × Tells l.offset l.max (l.state, l.done) (view l.fn.device))

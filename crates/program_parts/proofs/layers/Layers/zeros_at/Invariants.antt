use Rattle.std.proofs.Common.{◌≡◌, ◌≤◌, length}
use Rattle.program_parts.proofs.layers.Layers.zeros_at.Given as goal

abbrev pub invariant-loop-place : goal.invariant-loop-place
invariant-loop-place g l = record {
  most : l.count ≤ l.max;
  images : length l.self-inside.images.items ≡ l.place-end;
}

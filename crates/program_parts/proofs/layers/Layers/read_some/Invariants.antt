use Rattle.std.proofs.Common.{◌≡◌, ◌<◌, ◌≤◌, length}
use Rattle.program_parts.proofs.layers.Layers.read_some.Given as goal

abbrev pub invariant-loop-place : goal.invariant-loop-place
invariant-loop-place g l = record {
  some : 0 < l.count;
  most : l.count ≤ length l.bytes;
  long : length l.bytes ≡ length l.fn.bytes;
  images : length l.self-inside.images.items ≡ l.place-end;
}

use Rattle.std.proofs.Common.{◌≡◌, vec_capacity, None, replicate}
use Rattle.qcow2_session.proofs.slots.Slots.new.Given as goal

abbrev pub invariant-loop : goal.invariant-loop
invariant-loop l = record {
  prepared : l.prepared.items ≡ replicate l.counter None;
  room : vec_capacity l.prepared ≡ 256;
  mappings : l.mappings.items ≡ replicate l.counter None;
  mappings_room : vec_capacity l.mappings ≡ 256;
}

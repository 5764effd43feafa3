use Rattle.std.proofs.Common.{◌≡◌, vec_len, take, map, [], None, replicate}
use Rattle.qcow2_session.proofs.Common.{State, RefinesState, HasNoInvalidation, begun, Setting, PreservesHeaderCluster, number_of, abstract_of, image_abstraction, RunCounts, command_of, reply_of, mappings_in, KeepsItself, in_image}
use Rattle.qcow2_session.proofs.Lemmas.{GoesOn, IsToldSoFar}
use Rattle.qcow2_session.proofs.session.run.Given as goal

abbrev pub invariant-loop-command : goal.invariant-loop-command
invariant-loop-command g l = record {
  faults : RunCounts g.S.Storage.view g.F.BackingDisk.backing l.fn.image l.image l.replies.items;
  behind : HasNoInvalidation (map command_of (take l.command-index l.commands)) → PreservesHeaderCluster g.S.Storage.view l.fn.image l.image;
  own : l.slots.image ≡ number_of l.image;
  keeps : KeepsItself l.fn.image l.image;
  answered : vec_len l.replies ≡ l.command-index;
  ran : HasNoInvalidation (map command_of (take l.command-index l.commands)) → (x : Setting) (s : State) → RefinesState x (abstract_of g.S.Storage.view g.F.BackingDisk.backing l.fn.image (in_image [])) s
      → GoesOn (image_abstraction g.S.Storage.view g.F.BackingDisk.backing) x l.fn.image (replicate 256 None) l.image l.slots.prepared.items (begun s)
      (map command_of (take l.command-index l.commands)) (map reply_of l.replies.items) l.slots.mappings.items;
  told : IsToldSoFar g.S.Storage.view g.F.BackingDisk.backing l.fn.image (record { image = l.image; prepared = l.slots.prepared.items; found = mappings_in l.slots.mappings.items }) (take l.command-index l.commands) l.replies.items;
}

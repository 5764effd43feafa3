use Rattle.std.proofs.Common.{◌≡◌, ◌-◌, ◌%◌, ◌<◌, ◌≤◌, ◌∷◌, length, [], take, List, Ok, Option}
use Rattle.qcow2_session.proofs.Common.{AnsweredEffect, with_disk, with_bytes, given_of, guest_of, PreservesHeaderCluster, IsSameImage, abstract_of, Prepared, ImportsAnyOf, IsLeft, StaysQuiet, Mappings}
use Rattle.qcow2_session.proofs.Counting.{IsSoFar}
use Rattle.qcow2_session.proofs.convert.import_all.Given as goal

abbrev pub invariant-loop-at : goal.invariant-loop-at
invariant-loop-at g l = record {
  faults : IsSoFar g.S.Storage.view g.F.BackingDisk.backing l.fn.image l.image;
  behind : PreservesHeaderCluster g.S.Storage.view l.fn.image l.image;
  quiet : StaysQuiet g.S.Storage.view l.fn.image l.image;
  counted : (g.R.Storage.view l.raw).faults ≡ (g.R.Storage.view l.fn.raw).faults;
  within : l.at ≤ l.size;
  aligned : l.at < l.size → l.at % length l.wanted ≡ 0;
  image : IsSameImage l.fn.image l.image;
  raw : IsLeft (g.R.Storage.view l.fn.raw) (g.R.Storage.view l.raw);
  any : ImportsAnyOf g.S.Storage.view g.F.BackingDisk.backing l.fn.image l.image l.at (Ok tt);
  written : (g.R.Storage.view l.fn.raw).is_honest → l.size ≡ length (g.R.Storage.view l.fn.raw).contents → (out : Mappings)
      → let v = abstract_of g.S.Storage.view g.F.BackingDisk.backing l.fn.image out in let w = abstract_of g.S.Storage.view g.F.BackingDisk.backing l.image out in
      AnsweredEffect v w (given_of 0 (g.R.Storage.view l.fn.raw).contents ∷ []) [] (guest_of w ≡ with_disk (guest_of v) (with_bytes (guest_of v).disk 0 (take l.at (g.R.Storage.view l.fn.raw).contents)));
}

abbrev pub decreases-loop-at : goal.decreases-loop-at
decreases-loop-at g l = l.size - l.at

use Rattle.std.proofs.Common.{◌≡◌, ◌-◌, ◌≤◌, ◌+◌, ◌^◌, ◌<◌, length, [], take, List, Option}
use Rattle.qcow2_session.proofs.Common.{AnsweredEffect, Shows, guest_of, PreservesHeaderCluster, IsSameImage, is_failed, abstract_of, CountsImageChanges, Prepared, ReadsQuietly, SameFaults, Mappings}
use Rattle.qcow2_session.proofs.session.read_into.Given as goal

abbrev pub invariant-loop-done : goal.invariant-loop-done
invariant-loop-done g l = record {
  faults : SameFaults g.S.Storage.view g.F.BackingDisk.backing l.fn.image l.image;
  behind : PreservesHeaderCluster g.S.Storage.view l.fn.image l.image;
  within : l.done ≤ length l.bytes;
  end : l.fn.offset + length l.bytes < 2 ^ 64;
  image : IsSameImage l.fn.image l.image;
  works : is_failed l.image ≡ is_failed l.fn.image;
  counts : CountsImageChanges g.S.Storage.view l.fn.image l.image;
  header : l.image.file.header ≡ l.fn.image.file.header;
  quiet : ReadsQuietly g.S.Storage.view l.fn.image l.image;
  shown : (out : Mappings) → let v = abstract_of g.S.Storage.view g.F.BackingDisk.backing l.fn.image out in let w = abstract_of g.S.Storage.view g.F.BackingDisk.backing l.image out in
      AnsweredEffect v w [] [] (Shows (guest_of v).disk l.fn.offset (take l.done l.bytes) × (guest_of w ≡ guest_of v));
}

abbrev pub decreases-loop-done : goal.decreases-loop-done
decreases-loop-done g l = length l.bytes - l.done

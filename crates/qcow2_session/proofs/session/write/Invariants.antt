use Rattle.qcow2_session.proofs.session.write.Given as goal
use Rattle.std.proofs.Common.{◌≡◌, ◌+◌, ◌-◌, ◌^◌, ◌<◌, ◌≤◌, ◌∷◌, length, [], take, List, ℕ, Option, None}
use Rattle.qcow2_session.proofs.Common.{AnsweredEffect, with_disk, with_bytes, given_of, guest_of, PreservesHeaderCluster, IsSameImage, is_failed, abstract_of, ListsNoMore, refuses_to_prepare, CountsImageChanges, Prepared, EndsCluster, LeavesCopied, IsRespectedAt, StaysQuiet, SameFaults, Mappings}

abbrev pub invariant-loop-done : goal.invariant-loop-done
invariant-loop-done g l = record {
  faults : SameFaults g.S.Storage.view g.F.BackingDisk.backing l.fn.image l.image;
  behind : PreservesHeaderCluster g.S.Storage.view l.fn.image l.image;
  works : is_failed l.image ≡ is_failed l.fn.image;
  counts : CountsImageChanges g.S.Storage.view l.fn.image l.image;
  within : l.done ≤ length l.bytes;
  some_done : 0 < length l.bytes → 0 < l.done;
  image : IsSameImage l.fn.image l.image;
  ends : (out : Mappings) → (abstract_of g.S.Storage.view g.F.BackingDisk.backing l.fn.image out).is_sound → l.done < length l.bytes → EndsCluster l.fn.image (l.fn.offset + l.done);
  end : l.fn.offset + length l.bytes < 2 ^ 64;
  heeded : refuses_to_prepare l.fn.image l.fn.offset (length l.bytes) ≡ None → (out : Mappings) → (abstract_of g.S.Storage.view g.F.BackingDisk.backing l.fn.image out).is_sound
      → (i : ℕ) → i < l.done → IsRespectedAt g.S.Storage.view g.F.BackingDisk.backing l.fn.image out l.fn.offset l.bytes i;
  copied : 0 < length l.bytes → (out : Mappings) → (abstract_of g.S.Storage.view g.F.BackingDisk.backing l.fn.image out).is_sound → LeavesCopied g.S.Storage.view g.F.BackingDisk.backing l.fn.image l.image l.fn.offset l.bytes l.done;
  quiet : StaysQuiet g.S.Storage.view l.fn.image l.image;
  freeing : (out : Mappings) → (abstract_of g.S.Storage.view g.F.BackingDisk.backing l.fn.image out).is_sound → ListsNoMore l.fn.image l.image;
  written : (out : Mappings) → let v = abstract_of g.S.Storage.view g.F.BackingDisk.backing l.fn.image out in let w = abstract_of g.S.Storage.view g.F.BackingDisk.backing l.image out in
      AnsweredEffect v w (given_of l.fn.offset (take l.done l.bytes) ∷ []) [] (guest_of w ≡ with_disk (guest_of v) (with_bytes (guest_of v).disk l.fn.offset (take l.done l.bytes)));
}

abbrev pub decreases-loop-done : goal.decreases-loop-done
decreases-loop-done g l = length l.bytes - l.done

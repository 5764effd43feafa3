use Rattle.std.proofs.Common.{◌≡◌, ℕ, vec_len, Some}
use Rattle.qcow2_session.proofs.Common.{slice_get, PreservesHeaderCluster, SameFaults, IsSameImage, is_failed, number_of, image_of, Prepared, ReleasesMappings, ReadsQuietly}
use Rattle.qcow2_session.proofs.session.discard_all.Given as goal

abbrev pub invariant-loop-slot : goal.invariant-loop-slot
invariant-loop-slot g l = record {
  faults : SameFaults g.S.Storage.view g.F.BackingDisk.backing l.fn.image l.image;
  behind : PreservesHeaderCluster g.S.Storage.view l.fn.image l.image;
  own : (k : ℕ) (p : Prepared) → slice_get l.prepared.items k ≡ Some (Some p) → image_of p ≡ number_of l.image;
  image : IsSameImage l.fn.image l.image;
  works : is_failed l.image ≡ is_failed l.fn.image;
  quiet : ReadsQuietly g.S.Storage.view l.fn.image l.image;
  gone : ReleasesMappings g.S.Storage.view g.F.BackingDisk.backing l.fn.image l.image l.fn.slots.prepared.items l.prepared.items;
}

abbrev pub decreases-loop-slot : goal.decreases-loop-slot
decreases-loop-slot g l = vec_len l.prepared

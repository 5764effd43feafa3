use Rattle.std.proofs.Common.{◌-◌, ◌<◌, ◌≡◌, ◌⊎◌, List, Option, IsTrue}
use Rattle.qcow2_image.proofs.Common.{PreservesHeaderCluster, Prepared, HasNothingToFree, is_writable, ImageInvariant, pending_in, boundary_in, ChangesRose, RecordsChanges, SameFaults, Mappings}
use Rattle.qcow2_image.proofs.Resize.Shrinking.{IsDiscardedSoFar}
use Rattle.qcow2_image.proofs.image.Qcow2.unmap_tail.Given as goal

-- the tail is unmapped up to where the next step begins, and nothing waits to be freed after the first step; a change was counted if steps passed a boundary
abbrev pub invariant-loop-at : goal.invariant-loop-at
invariant-loop-at g l = record {
  turns : IsDiscardedSoFar g.S.Storage.view g.F.BackingDisk.backing l.fn.self l.self l.fn.size l.at l.end;
  faults : SameFaults g.S.Storage.view g.F.BackingDisk.backing l.fn.self l.self;
  emptied : IsTrue (is_writable l.fn.self) → (out : Mappings) → ImageInvariant g.S.Storage.view g.F.BackingDisk.backing (pending_in g.S.Storage.view g.F.BackingDisk.backing l.fn.self out) l.fn.self out
      → boundary_in l.fn.self l.fn.size < l.end → (l.at ≡ l.fn.size) ⊎ HasNothingToFree l.self;
  since : RecordsChanges g.S.Storage.view l.fn.self l.self;
  changed : (out : Mappings) → ImageInvariant g.S.Storage.view g.F.BackingDisk.backing (pending_in g.S.Storage.view g.F.BackingDisk.backing l.fn.self out) l.fn.self out → boundary_in l.fn.self l.fn.size < l.at → ChangesRose l.fn.self l.self;
  behind : PreservesHeaderCluster g.S.Storage.view l.fn.self l.self;
}

abbrev pub decreases-loop-at : goal.decreases-loop-at
decreases-loop-at g l = l.end - l.at

use Rattle.std.proofs.Common.{◌≡◌, drop}
use Rattle.image_access.specs.Changes.{replayed, up_to_write}
use Rattle.image_access.proofs.trace.TraceStorage.after.Given as goal

abbrev pub invariant-loop-change : goal.invariant-loop-change
invariant-loop-change l = replayed l.bytes.items (up_to_write l.left (drop l.change-index l.change-items)) ≡ replayed l.fn.self.start (up_to_write l.fn.writes l.fn.self.changes)

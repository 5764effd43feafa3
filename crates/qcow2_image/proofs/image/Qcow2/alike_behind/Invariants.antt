use Rattle.std.proofs.Common.{◌-◌, ◌+◌, ◌*◌, ◌<◌, ℕ}
use Rattle.qcow2_image.proofs.Common.{L2TableView, AreAlikeBehind}
use Rattle.qcow2_image.proofs.image.Qcow2.alike_behind.Given as goal

-- so many clusters after are alike
pub record Passed (table : L2TableView) (cluster max size count : ℕ) : Type 0 where
  pub near : count * size < max + size
  pub alike : AreAlikeBehind table cluster count

abbrev pub invariant-loop-count : goal.invariant-loop-count
invariant-loop-count g l = Passed l.table l.cluster l.max l.size l.count

abbrev pub decreases-loop-count : goal.decreases-loop-count
decreases-loop-count g l = l.max - l.count * l.size

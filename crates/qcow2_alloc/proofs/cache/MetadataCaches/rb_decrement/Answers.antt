use Rattle.std.proofs.Common.{ℕ, Option, Some, None, subst, IfSome, is_some}
use Rattle.qcow2_alloc.proofs.Common.{RefBlockView, count_at, rb_at, CountsLess, LeavesCount, SetsCount, MetadataCaches}
use Rattle.qcow2_alloc.proofs.Leaks.{one_above, one_less}
use Rattle.qcow2_alloc.proofs.cache.MetadataCaches.rb_decrement.Goals as goal

module _ {S : Type 0} (before after : MetadataCaches S) (cluster index : ℕ) where
  less_of : (b : RefBlockView) (left : Option ℕ) → LeavesCount before after cluster index b left → CountsLess before after cluster index b (is_some left)
  less_of b None at_zero = at_zero
  less_of b (Some left) leaves = (leaves.0, one_above (count_at b index) left leaves.1, subst (SetsCount before after cluster index b) (one_less (count_at b index) left leaves.1) leaves.2)

  less_in : (o : Option RefBlockView) (left : Option ℕ) → IfSome o (λ b. LeavesCount before after cluster index b left) → IfSome o (λ b. CountsLess before after cluster index b (is_some left))
  less_in None left none = tt
  less_in (Some b) left leaves = less_of b left leaves

pub returns-clause-sound : goal.returns-clause-sound
returns-clause-sound g c = rw c.is_some.ensures c.rb_release.ensures.sound

pub returns-clause-counts : goal.returns-clause-counts
returns-clause-counts g c = rw c.is_some.ensures (less_in c.args.self.now c.rb_release.new.self c.args.cluster c.args.index (rb_at c.args.self.now c.args.cluster) c.rb_release.result c.rb_release.ensures.counts)

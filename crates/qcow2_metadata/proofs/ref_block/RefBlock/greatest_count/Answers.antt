use Rattle.std.proofs.Common.{◌+◌, ◌-◌, ◌/◌, ◌^◌, ap, ◌∙◌, arith}
use Rattle.qcow2_metadata.proofs.Common.{one_shl, count_limit}
use Rattle.qcow2_metadata.proofs.Quotients.{pow_within, greatest_of}
use Rattle.qcow2_metadata.proofs.ref_block.RefBlock.greatest_count.Goals as goal

pub overflow_sub-result : goal.overflow_sub-result
overflow_sub-result c =
    let order = c.self.inside.refcount_order in
    omega (arith, one_shl order 32 (omega (arith, c.self.invariant.whole.order)), pow_within order c.self.invariant.whole.order)

pub returns : goal.returns
returns c =
    let order = c.self.inside.refcount_order in
    ap (λ w. (2 ^ 64 - 1) / 2 ^ (64 - w) + 1) (one_shl order 32 (omega (arith, c.self.invariant.whole.order)))
    ∙ greatest_of (2 ^ order) (pow_within order c.self.invariant.whole.order) ∙ ap count_limit c.self.view_is

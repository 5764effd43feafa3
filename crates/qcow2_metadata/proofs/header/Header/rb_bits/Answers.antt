use Rattle.std.proofs.Common.{◌*◌, ◌/◌, ◌^◌, sym, ap, ◌∙◌, arith}
use Rattle.qcow2_metadata.proofs.Sizes.{counts_in_block}
use Rattle.qcow2_metadata.proofs.header.Header.rb_bits.Goals as goal

pub returns-clause-counts : goal.returns-clause-counts
returns-clause-counts c =
    ap (λ n. 2 ^ n * 8 / 2 ^ c.args.self.now.fields.refcount_order) (sym c.cluster_bits.ensures.value)
    ∙ ap (λ k. 2 ^ c.cluster_bits.result * 8 / 2 ^ k) (sym c.refcount_order.ensures.value)
    ∙ counts_in_block c.cluster_bits.result c.refcount_order.result (omega arith)

use Rattle.std.proofs.Common.{◌≤◌, lit<, subst, sym}
use Rattle.qcow2_metadata.proofs.Sizes.{shift_high}
use Rattle.qcow2_image.proofs.lookups.cluster_size.Goals as goal

pub returns-clause-few : goal.returns-clause-few
returns-clause-few c = shift_high c.cluster_bits.result 21 (let high = c.cluster_bits.ensures.whole.bits.1 in subst (λ n. n ≤ 21) (sym c.cluster_bits.ensures.value) high) (lit< tt)

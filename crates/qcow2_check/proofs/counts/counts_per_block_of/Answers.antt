use Rattle.std.proofs.Common.{◌≡◌, ◌*◌, ◌%◌, ◌^◌, ◌≤◌, arith}
use Rattle.qcow2_check.proofs.Common.{one_shl, le-div, pow_pos, pow_mono, div-le_self}
use Rattle.qcow2_check.proofs.counts.counts_per_block_of.Goals as goal

pub returns-clause-some : goal.returns-clause-some
returns-clause-some c =
    let size : 1 * 2 ^ c.args.header.now.cluster_bits % 2 ^ 64 ≡ 2 ^ c.args.header.now.cluster_bits = one_shl _ 64 (omega arith) in
    let width : 1 * 2 ^ c.args.header.now.refcount_order % 2 ^ 64 ≡ 2 ^ c.args.header.now.refcount_order = one_shl _ 64 (omega arith) in
    let large : 2 ^ 9 ≤ 2 ^ c.args.header.now.cluster_bits = pow_mono c.requires.low in
    let small : 2 ^ c.args.header.now.refcount_order ≤ 2 ^ 6 = pow_mono c.requires.order in
    let positive = pow_pos c.args.header.now.refcount_order in
    le-div 1 _ _ (omega arith) (omega arith)

pub returns-clause-few : goal.returns-clause-few
returns-clause-few c =
    let size : 1 * 2 ^ c.args.header.now.cluster_bits % 2 ^ 64 ≡ 2 ^ c.args.header.now.cluster_bits = one_shl _ 64 (omega arith) in
    let few : 2 ^ c.args.header.now.cluster_bits ≤ 2 ^ 21 = pow_mono c.requires.bits in
    omega (arith, div-le_self (1 * 2 ^ c.args.header.now.cluster_bits % 2 ^ 64 * 8) (1 * 2 ^ c.args.header.now.refcount_order % 2 ^ 64))

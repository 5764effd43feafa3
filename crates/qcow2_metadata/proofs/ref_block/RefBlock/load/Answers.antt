use Rattle.std.proofs.Common.{◌*◌, ◌^◌, sym, ap, ◌∙◌, arith}
use Rattle.qcow2_metadata.proofs.Common.{byte_at}
use Rattle.qcow2_metadata.proofs.Quotients.{multiple_of_8}
use Rattle.qcow2_metadata.proofs.TablesAt.{count_stands, stand_at-loaded}
use Rattle.qcow2_metadata.proofs.ref_block.RefBlock.load.Goals as goal

pub returns-clause-of_image : goal.returns-clause-of_image
returns-clause-of_image g c = λ honest i lt.
    let contents = (g.S.Storage.view c.args.storage.now).contents in
    let loaded = c.in_ok-bytes.ensures in
    let bits = c.cluster_bits-cluster_bits.ensures.value in
    let place = c.value-at.ensures ∙ c.offset.ensures ∙ ap (λ b. c.args.cluster * 2 ^ b) bits in
    let size = loaded.length ∙ c.cluster_size.ensures.value ∙ ap (λ b. 2 ^ b) (sym bits) in
    count_stands (byte_at contents) _ _ c.refcount_order.result i (stand_at-loaded contents _ _ _ _ (loaded.bytes honest) place)
    (rw size (multiple_of_8 c.cluster_bits-cluster_bits.result (omega (arith, c.cluster_bits-cluster_bits.ensures.low)))) c.refcount_order.ensures.high (rw size lt)

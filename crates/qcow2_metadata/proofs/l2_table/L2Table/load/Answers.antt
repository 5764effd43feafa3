use Rattle.std.proofs.Common.{◌*◌, ◌^◌, sym, ap, ◌∙◌, arith}
use Rattle.qcow2_metadata.proofs.Common.{byte_at}
use Rattle.qcow2_metadata.proofs.TablesAt.{entry_stands, stand_at-loaded}
use Rattle.qcow2_metadata.proofs.l2_table.L2Table.load.Goals as goal

pub returns-clause-of_image : goal.returns-clause-of_image
returns-clause-of_image g c = λ honest i lt.
    let contents = (g.S.Storage.view c.args.storage.now).contents in
    let loaded = c.in_ok-bytes.ensures in
    let bits = c.cluster_bits-cluster_bits.ensures.value in
    let place = c.value-at.ensures ∙ c.offset.ensures ∙ ap (λ b. c.args.cluster * 2 ^ b) bits in
    let size = c.cluster_size.ensures.value ∙ ap (λ b. 2 ^ b) (sym bits) in
    entry_stands (byte_at contents) _ _ i (stand_at-loaded contents _ _ _ _ (loaded.bytes honest) place)
    (omega (arith, lt, loaded.length, size))

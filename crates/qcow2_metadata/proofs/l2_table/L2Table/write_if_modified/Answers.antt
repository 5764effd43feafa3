use Rattle.std.proofs.Common.{◌*◌, ◌^◌, ap, ◌∙◌, subst}
use Rattle.qcow2_metadata.proofs.Common.{byte_at, IsL2Table}
use Rattle.qcow2_metadata.proofs.TablesAt.{l2_table_at, stand_at-written}
use Rattle.qcow2_metadata.proofs.l2_table.L2Table.write_if_modified.Goals as goal

pub returns-in_ok-write-clause-of_image : goal.returns-in_ok-write-clause-of_image
returns-in_ok-write-clause-of_image g c = λ honest modified.
    let t = c.args.self.now in
    let new = (g.S.Storage.view c.write.new.self).contents in
    let place = c.value.ensures ∙ c.offset.ensures ∙ ap (λ v. c.args.cluster * 2 ^ v.cluster_bits) c.self.view_is in
    let bytes = c.deref.ensures.value ∙ ap (λ v. v.bytes) c.self.view_is in
    l2_table_at (byte_at new) _ t (subst IsL2Table c.self.view_is c.self.invariant)
    (stand_at-written _ new _ (c.args.cluster * 2 ^ t.cluster_bits) _ t.bytes (c.in_ok-write.ensures.written honest) place bytes)

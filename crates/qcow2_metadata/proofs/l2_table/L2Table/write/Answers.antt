use Rattle.std.proofs.Common.{◌≡◌, ◌*◌, ◌^◌, Some, sym, ap, ◌∙◌, subst}
use Rattle.qcow2_metadata.proofs.Common.{IsL2Table, IsL2TableAt}
use Rattle.qcow2_metadata.proofs.TablesAt.{l2_table_at, written_stands}
use Rattle.qcow2_metadata.proofs.l2_table.L2Table.write.Goals as goal

pub returns-clause-of_image : goal.returns-clause-of_image
returns-clause-of_image g c = λ honest.
    let t = c.args.self.now in
    let cluster = c.in-Some.cluster in
    let there : t.cluster ≡ Some cluster = sym (ap (λ v. v.cluster) c.self.view_is) ∙ c.in-Some.is in
    let place = c.value-at.ensures ∙ c.offset.ensures ∙ ap (λ v. cluster * 2 ^ v.cluster_bits) c.self.view_is in
    let bytes = c.deref.ensures.value ∙ ap (λ v. v.bytes) c.self.view_is in
    let is = subst IsL2Table c.self.view_is c.self.invariant in
    rw there (written_stands c.write.result _ _ _ (cluster * 2 ^ t.cluster_bits) _ t.bytes (λ b. IsL2TableAt b (cluster * 2 ^ t.cluster_bits) t)
    (λ b stands. l2_table_at b _ t is stands) place bytes (c.write.ensures.written honest))

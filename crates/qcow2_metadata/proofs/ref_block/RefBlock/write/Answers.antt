use Rattle.std.proofs.Common.{◌≡◌, ◌*◌, ◌^◌, Some, sym, ap, ◌∙◌, subst}
use Rattle.qcow2_metadata.proofs.Common.{IsRefBlock, IsRefBlockAt}
use Rattle.qcow2_metadata.proofs.TablesAt.{ref_block_at, written_stands}
use Rattle.qcow2_metadata.proofs.ref_block.RefBlock.write.Goals as goal

pub returns-clause-of_image : goal.returns-clause-of_image
returns-clause-of_image g c = λ honest.
    let t = c.args.self.now in
    let cluster = c.in-Some.cluster in
    let there : t.cluster ≡ Some cluster = sym (ap (λ v. v.cluster) c.self.view_is) ∙ c.in-Some.is in
    let place = c.value-at.ensures ∙ c.offset.ensures ∙ ap (λ v. cluster * 2 ^ v.cluster_bits) c.self.view_is in
    let bytes = c.deref.ensures.value ∙ ap (λ v. v.bytes) c.self.view_is in
    let is = subst IsRefBlock c.self.view_is c.self.invariant.whole in
    rw there (written_stands c.write.result _ _ _ (cluster * 2 ^ t.cluster_bits) _ t.bytes (λ b. IsRefBlockAt b (cluster * 2 ^ t.cluster_bits) t)
    (λ b stands. ref_block_at b _ t is stands) place bytes (c.write.ensures.written honest))

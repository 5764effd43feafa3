use Rattle.std.proofs.Common.{◌≡◌, ◌*◌, ◌^◌, ◌∙◌, ap, arith}
use Rattle.qcow2_metadata.proofs.Common.{cover_of, copied_entry}
use Rattle.qcow2_metadata.proofs.MadeEntries.{cover_at-changed, cover_of-copied_entry, cluster_is_host}
use Rattle.qcow2_metadata.proofs.l2_table.L2Table.map_cluster.Goals as goal

pub returns-clause-mapped : goal.returns-clause-mapped
returns-clause-mapped c = λ there.
    let t = c.args.self.now in
    let bits : c.self.inside.cluster_bits ≡ t.cluster_bits = ap (λ v. v.cluster_bits) c.self.view_is in
    let entry = c.copied_entry-entry.ensures ∙ ap copied_entry c.offset.ensures ∙ ap (λ b. copied_entry (c.args.host * 2 ^ b)) bits in
    cover_at-changed t c.replace.new.self c.args.index _ c.replace.ensures.changed c.replace.ensures.same
    ∙ ap (cover_of t.cluster_bits t.has_zero_bit t.data_is_external) entry
    ∙ cover_of-copied_entry t.cluster_bits t.has_zero_bit t.data_is_external (c.args.host * 2 ^ t.cluster_bits)
    (cluster_is_host t.cluster_bits c.args.host t.data_is_external (omega (arith, bits, c.self.invariant.bits.0)) c.requires.host there)

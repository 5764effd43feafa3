use Rattle.qcow2_metadata.proofs.Common.{◌∙◌, ap, cover_of, zero_cover}
use Rattle.qcow2_metadata.proofs.MadeEntries.{cover_at-changed, cover_of-zero_entry}
use Rattle.qcow2_metadata.proofs.l2_table.L2Table.zero_cluster.Goals as goal

pub returns-clause-zeroed : goal.returns-clause-zeroed
returns-clause-zeroed c = λ has.
    let t = c.args.self.now in
    let kept = c.kept_host-kept in
    cover_at-changed t c.replace.new.self c.args.index _ c.replace.ensures.changed c.replace.ensures.same
    ∙ ap (λ z. cover_of t.cluster_bits z t.data_is_external c.zero_entry.result) has
    ∙ ap (cover_of t.cluster_bits _ t.data_is_external) c.zero_entry.ensures
    ∙ cover_of-zero_entry t.cluster_bits t.data_is_external kept.result kept.ensures.host
    ∙ ap zero_cover kept.ensures.value

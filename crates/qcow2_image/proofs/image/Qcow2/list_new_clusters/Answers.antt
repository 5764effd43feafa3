use Rattle.std.proofs.Common.{◌∷◌, ◌++◌, [], sym, ap, ◌∙◌}
use Rattle.qcow2_image.proofs.Common.{append_assoc, Qcow2, freed_by}
use Rattle.qcow2_image.proofs.Images.ClusterMappings.{freed_behind}
use Rattle.qcow2_image.proofs.image.Qcow2.list_new_clusters.Goals as goal

pub loop-cluster_mapping-preserved : goal.loop-cluster_mapping-preserved
loop-cluster_mapping-preserved g c =
    let old = c.args.self.now in
    let so_far = freed_by c.loop-cluster_mapping.yielded in
    let one = freed_by (c.in-Some.cluster_mapping ∷ []) in
    c.free_mapping.ensures ∙ ap (λ (m : Qcow2 _ _). record m { file = record m.file { free_list = m.file.free_list ++ one } }) c.loop-cluster_mapping.invariant
    ∙ ap (λ l. record old { file = record old.file { free_list = l } }) (append_assoc old.file.free_list so_far one ∙ ap (λ l. old.file.free_list ++ l) (sym (freed_behind c.loop-cluster_mapping.yielded c.in-Some.cluster_mapping)))

use Rattle.std.proofs.Common.{◌≡◌, ◌%◌, ◌^◌, ap, ◌∙◌}
use Rattle.qcow2_image.proofs.Common.{mod_below, pow_pos, cluster_size, announced_range_of, copy_range_of}
use Rattle.qcow2_image.proofs.Prepare.CopiedBytes.{has_copied}
use Rattle.qcow2_image.proofs.Prepare.Unannounced.{part_left}
use Rattle.qcow2_image.proofs.image.Qcow2.part_to_fill.Goals as goal

pub returns-clause-all : goal.returns-clause-all
returns-clause-all g c =
    let size = cluster_size c.args.self.now.file.header.fields in
    let start_is : c.in_cluster_offset-start.result ≡ c.args.offset % size = c.in_cluster_offset-start.ensures ∙ ap (λ o. o % 2 ^ c.cluster_bits.result) c.new.ensures ∙ ap (λ b. c.args.offset % 2 ^ b) c.cluster_bits.ensures.value in
    has_copied size c.data_alignment-alignment.result (c.args.offset % size) c.args.length c.args.overwrite c.copy_range.result c.data_alignment-alignment.ensures (mod_below c.args.offset size (pow_pos c.args.self.now.file.header.fields.cluster_bits))
    (c.copy_range.ensures.value
    ∙ ap (λ a. copy_range_of c.cluster_size-size.result c.data_alignment-alignment.result a) c.announced_range-announced.ensures.value
    ∙ ap (λ n. copy_range_of n c.data_alignment-alignment.result (announced_range_of n c.in_cluster_offset-start.result c.args.length c.args.overwrite)) c.cluster_size-size.ensures.value
    ∙ ap (λ s. copy_range_of size c.data_alignment-alignment.result (announced_range_of size s c.args.length c.args.overwrite)) start_is)

pub returns-clause-left : goal.returns-clause-left
returns-clause-left g c =
    let size = cluster_size c.args.self.now.file.header.fields in
    let start_is : c.in_cluster_offset-start.result ≡ c.args.offset % size = c.in_cluster_offset-start.ensures ∙ ap (λ o. o % 2 ^ c.cluster_bits.result) c.new.ensures ∙ ap (λ b. c.args.offset % 2 ^ b) c.cluster_bits.ensures.value in
    part_left size c.data_alignment-alignment.result c.args.offset c.args.length c.args.overwrite c.copy_range.result (pow_pos c.args.self.now.file.header.fields.cluster_bits)
    (c.copy_range.ensures.value
    ∙ ap (λ a. copy_range_of c.cluster_size-size.result c.data_alignment-alignment.result a) c.announced_range-announced.ensures.value
    ∙ ap (λ n. copy_range_of n c.data_alignment-alignment.result (announced_range_of n c.in_cluster_offset-start.result c.args.length c.args.overwrite)) c.cluster_size-size.ensures.value
    ∙ ap (λ s. copy_range_of size c.data_alignment-alignment.result (announced_range_of size s c.args.length c.args.overwrite)) start_is)

use Rattle.std.proofs.Common.{◌++◌, ◌^◌, ap, ◌∙◌}
use Rattle.qcow2_check.proofs.Common.{tally_in, is_named, unaligned_line}
use Rattle.qcow2_check.proofs.Rising.{lines_of_list}
use Rattle.qcow2_check.proofs.lines.add_offset_lines.Goals as goal

pub returns : goal.returns
returns c =
    c.in_ok-push_offsets.ensures.lines
    ∙ ap (λ r. c.args.breaches.now.items ++ r)
    (lines_of_list is_named (unaligned_line c.args.kind) (2 ^ 64) is_named (tally_in c.args.offsets.now.clusters) c.deref.result.now (λ t fails. fails)
    (c.deref.ensures.value ∙ c.in_ok-named.ensures))

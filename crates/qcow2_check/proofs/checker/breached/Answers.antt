use Rattle.std.proofs.Common.{◌^◌, ◌∙◌}
use Rattle.qcow2_check.proofs.Breached.{breached_lines}
use Rattle.qcow2_check.proofs.checker.breached.Goals as goal

pub returns : goal.returns
returns c = c.in_ok-breached.ensures ∙ breached_lines c.args.names.now.clusters c.args.counts.now (2 ^ 64)

use Rattle.qcow2_check.proofs.Common.{sym, ap, ◌∙◌, option_copied}
use Rattle.qcow2_check.proofs.KeptBlocks.{count_some, count_none}
use Rattle.qcow2_check.proofs.kept.Counts.count.Goals as goal

pub returns-in-Some : goal.returns-in-Some
returns-in-Some c = c.count.ensures ∙ sym (count_some c.args.self.now c.args.cluster c.in-Some.block.now (sym c.block.ensures ∙ ap option_copied c.in-Some.is))

pub returns-in-None : goal.returns-in-None
returns-in-None c = sym (count_none c.args.self.now c.args.cluster (sym c.block.ensures ∙ ap option_copied c.in-None.is))

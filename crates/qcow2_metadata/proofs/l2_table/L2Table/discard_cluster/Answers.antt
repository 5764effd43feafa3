use Rattle.qcow2_metadata.proofs.Common.{◌∙◌}
use Rattle.qcow2_metadata.proofs.MadeEntries.{cover_at-changed, cover_of-0}
use Rattle.qcow2_metadata.proofs.l2_table.L2Table.discard_cluster.Goals as goal

pub returns-clause-uncovered : goal.returns-clause-uncovered
returns-clause-uncovered c = cover_at-changed c.args.self.now c.replace.new.self c.args.index 0 c.replace.ensures.changed c.replace.ensures.same ∙ cover_of-0 _ _ _

use Rattle.std.proofs.Common.{length, ap, ◌∙◌}
use Rattle.std.proofs.lemmas.List.{length-replicate}
use Rattle.qcow2_metadata.proofs.EntryTables.{refilled}
use Rattle.qcow2_metadata.proofs.table_bytes.load.Goals as goal

pub returns-clause-length : goal.returns-clause-length
returns-clause-length g c = refilled c.in_ok-bytes.bytes _ ∙ ap length c.in_ok-bytes.ensures ∙ length-replicate _ _

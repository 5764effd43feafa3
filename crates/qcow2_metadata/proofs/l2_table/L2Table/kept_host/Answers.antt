use Rattle.qcow2_metadata.proofs.MadeEntries.{copied_host_is}
use Rattle.qcow2_metadata.proofs.l2_table.L2Table.kept_host.Goals as goal

pub returns-then-keep-clause-host : goal.returns-then-keep-clause-host
returns-then-keep-clause-host c = rw (c.copied_host.ensures, c.cover.ensures.value) (copied_host_is _ _ _ _)

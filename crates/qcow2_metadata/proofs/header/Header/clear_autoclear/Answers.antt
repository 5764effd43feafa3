use Rattle.qcow2_metadata.proofs.StillHeader.{autoclear_still}
use Rattle.qcow2_metadata.proofs.header.Header.clear_autoclear.Goals as goal

pub returns-in_err-write-clause-reads : goal.returns-in_err-write-clause-reads
returns-in_err-write-clause-reads g c = autoclear_still _ _

pub returns-clause-reads : goal.returns-clause-reads
returns-clause-reads g c = autoclear_still _ _

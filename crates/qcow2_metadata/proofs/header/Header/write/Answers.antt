use Rattle.qcow2_metadata.proofs.ReadBack.{reads_back}
use Rattle.qcow2_metadata.proofs.header.Header.write.Goals as goal

pub returns-in_err-bytes-clause-reads : goal.returns-in_err-bytes-clause-reads
returns-in_err-bytes-clause-reads g c =
    let known = c.in_err-bytes.ensures in
    reads_back _ _ known.fit known.in_range known.within_limits known.backing_name known.backing_format known.data_file_name

pub returns-clause-reads : goal.returns-clause-reads
returns-clause-reads g c =
    let known = c.in_ok-bytes.ensures in
    reads_back _ _ known.fit known.in_range known.within_limits known.backing_name known.backing_format known.data_file_name

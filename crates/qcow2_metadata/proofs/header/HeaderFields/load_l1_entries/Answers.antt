use Rattle.std.proofs.Common.{◌+◌, ◌*◌, ◌≤◌, ◌^◌}
use Rattle.qcow2_metadata.proofs.Common.{err_from_is_err_and, bytes_at, L1EntryReads, IsClear}
use Rattle.qcow2_metadata.proofs.EntryTables.{l1_entries-loaded, IsReasonNotToLoad-reads, clear_l1_reads, l1_reads_clear}
use Rattle.qcow2_metadata.proofs.header.HeaderFields.load_l1_entries.Goals as goal

pub returns-clause-entries : goal.returns-clause-entries
returns-clause-entries g c honest =
    l1_entries-loaded c.args.self.now (g.S.Storage.view c.args.storage.now).contents c.in_ok-bytes.bytes.items (c.in_ok-bytes.ensures.bytes honest)

pub returns-clause-reads : goal.returns-clause-reads
returns-clause-reads g c = λ i. clear_l1_reads _ (c.in_ok-bytes.ensures.reads i)

pub returns-in_err-bytes-clause-err : goal.returns-in_err-bytes-clause-err
returns-in_err-bytes-clause-err g c =
    let view = g.S.Storage.view c.args.storage.now in
    let p = err_from_is_err_and c.from_residual.result c.from_residual.ensures.1 in
    rw (p.1, p.2) (IsReasonNotToLoad-reads L1EntryReads (IsClear 0x7f000000000001ff) (bytes_at view.contents c.args.self.now.l1_offset (8 * c.args.self.now.l1_entries))
    (2 ^ 64 ≤ c.args.self.now.l1_offset + 8 * c.args.self.now.l1_entries) (2 ^ 64 ≤ c.args.self.now.l1_offset + 8 * c.args.self.now.l1_entries) view.is_honest _ (λ p. p) l1_reads_clear c.in_err-bytes.ensures.err)

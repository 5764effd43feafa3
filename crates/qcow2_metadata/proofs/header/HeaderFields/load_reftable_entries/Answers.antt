use Rattle.std.proofs.Common.{◌+◌, ◌*◌, ◌≤◌, ◌^◌}
use Rattle.qcow2_metadata.proofs.Common.{err_from_is_err_and, bytes_at, ReftableEntryReads, IsClear}
use Rattle.qcow2_metadata.proofs.EntryTables.{reftable_entries-loaded, IsReasonNotToLoad-reads, clear_reftable_reads, reftable_reads_clear}
use Rattle.qcow2_metadata.proofs.header.HeaderFields.load_reftable_entries.Goals as goal

pub returns-clause-entries : goal.returns-clause-entries
returns-clause-entries g c honest =
    reftable_entries-loaded c.args.self.now (g.S.Storage.view c.args.storage.now).contents c.in_ok-bytes.bytes.items
    (rw (← c.reftable_entries.ensures.value) (c.in_ok-bytes.ensures.bytes honest))

pub returns-clause-reads : goal.returns-clause-reads
returns-clause-reads g c = λ i. clear_reftable_reads _ (c.in_ok-bytes.ensures.reads i)

pub returns-in_err-bytes-clause-err : goal.returns-in_err-bytes-clause-err
returns-in_err-bytes-clause-err g c =
    let view = g.S.Storage.view c.args.storage.now in
    let p = err_from_is_err_and c.from_residual.result c.from_residual.ensures.1 in
    rw (p.1, p.2, ← c.reftable_entries.ensures.value) (IsReasonNotToLoad-reads ReftableEntryReads (IsClear 511) (bytes_at view.contents c.args.self.now.reftable_offset (8 * c.reftable_entries.result))
    (2 ^ 64 ≤ c.args.self.now.reftable_offset + 8 * c.reftable_entries.result) (2 ^ 64 ≤ c.args.self.now.reftable_offset + 8 * c.reftable_entries.result) view.is_honest _ (λ p. p) reftable_reads_clear c.in_err-bytes.ensures.err)

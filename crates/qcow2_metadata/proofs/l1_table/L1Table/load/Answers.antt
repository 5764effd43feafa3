use Rattle.std.proofs.Common.{◌≡◌, ◌*◌, ◌^◌, Some, subst}
use Rattle.qcow2_metadata.proofs.Common.{err_from_is_err_and, bytes_at, L1EntryReads, IsClear, PassesLimit}
use Rattle.qcow2_metadata.proofs.EntryTables.{IsL1TableOf-loaded, IsReasonNotToLoad-reads, clear_l1_reads, l1_reads_clear}
use Rattle.qcow2_metadata.proofs.l1_table.L1Table.load.Goals as goal

pub returns-in_err-table-clause-err : goal.returns-in_err-table-clause-err
returns-in_err-table-clause-err g c =
    let p = err_from_is_err_and c.from_residual.result c.from_residual.ensures.1 in
    let view = g.S.Storage.view c.args.storage.now in
    rw (p.1, p.2, ← c.cluster_bits-bits.ensures.value)
    (IsReasonNotToLoad-reads L1EntryReads (IsClear 0x7f000000000001ff) (bytes_at view.contents (c.args.cluster * 2 ^ c.cluster_bits-bits.result) (8 * c.args.entries))
    (PassesLimit 4194304 c.cluster_bits-bits.result 0 c.args.cluster c.args.entries) (PassesLimit 4194304 c.cluster_bits-bits.result 0 c.args.cluster c.args.entries) view.is_honest _ (λ p. p) l1_reads_clear c.in_err-table.ensures.err)

pub invariant_of-result : goal.invariant_of-result
invariant_of-result g c = λ i. clear_l1_reads _ (c.in_ok-table.ensures.reads i)

pub returns-clause-loaded : goal.returns-clause-loaded
returns-clause-loaded g c =
    let t = c.in_ok-table.table in
    let loaded = c.in_ok-table.ensures.loaded in
    record {
      table = subst (λ bits. t ≡ record { cluster = Some c.args.cluster; bytes = t.bytes; cluster_bits = bits }) c.cluster_bits-bits.ensures.value loaded.table;
      length = loaded.length;
      whole = record {
        table = loaded.whole;
        reads = λ i. clear_l1_reads _ (c.in_ok-table.ensures.reads i);
      };
    }

pub returns-clause-of_image : goal.returns-clause-of_image
returns-clause-of_image g c = λ honest names.
    IsL1TableOf-loaded c.args.header.now.fields (g.S.Storage.view c.args.storage.now).contents _ c.args.entries c.in_ok-table.table names
    (rw (← c.cluster_bits-bits.ensures.value) (c.in_ok-table.ensures.bytes honest))

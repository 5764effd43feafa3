use Rattle.std.proofs.Common.{◌≡◌, ◌*◌, ◌^◌, Some, ap, subst}
use Rattle.qcow2_metadata.proofs.Common.{err_from_is_err_and, bytes_at, ReftableEntryReads, EntryTableView, IsClear, PassesLimit}
use Rattle.qcow2_metadata.proofs.EntryTables.{IsRefTableOf-loaded, IsReasonNotToLoad-reads, clear_reftable_reads, passes_further, reftable_reads_clear, room_as}
use Rattle.qcow2_metadata.proofs.ref_table.RefTable.load.Goals as goal

pub returns-in_err-table-clause-err : goal.returns-in_err-table-clause-err
returns-in_err-table-clause-err g c =
    let p = err_from_is_err_and c.from_residual.result c.from_residual.ensures.1 in
    let view = g.S.Storage.view c.args.storage.now in
    rw (p.1, p.2, ← c.cluster_bits-bits.ensures.value)
    (IsReasonNotToLoad-reads ReftableEntryReads (IsClear 511) (bytes_at view.contents (c.args.cluster * 2 ^ c.cluster_bits-bits.result) (8 * c.args.entries))
    (PassesLimit 1048576 c.cluster_bits-bits.result 0 c.args.cluster c.args.entries) (PassesLimit 1048576 c.cluster_bits-bits.result (8 * c.args.entries) c.args.cluster c.args.entries) view.is_honest _
    (passes_further 1048576 c.cluster_bits-bits.result (8 * c.args.entries) c.args.cluster c.args.entries) reftable_reads_clear c.in_err-table.ensures.err)

pub returns-clause-loaded : goal.returns-clause-loaded
returns-clause-loaded g c =
    let t = c.in_ok-table.table in
    let loaded = c.in_ok-table.ensures.loaded in
    record {
      table = subst (λ bits. t ≡ record { cluster = Some c.args.cluster; bytes = t.bytes; cluster_bits = bits }) c.cluster_bits-bits.ensures.value loaded.table;
      length = loaded.length;
      whole = record {
        table = loaded.whole;
        reads = λ i. clear_reftable_reads _ (c.in_ok-table.ensures.reads i);
        room = room_as t (Some c.args.cluster) c.cluster_bits-bits.result (8 * c.args.entries) (ap (λ (t : EntryTableView). t.cluster) loaded.table) (ap (λ (t : EntryTableView). t.cluster_bits) loaded.table) loaded.length (c.has_room.ensures.0 c.if-not-has_room.false);
      };
    }

pub invariant_of-result : goal.invariant_of-result
invariant_of-result g c = (c.in_ok-table.ensures.loaded.whole.few, λ i. clear_reftable_reads _ (c.in_ok-table.ensures.reads i), (returns-clause-loaded g c).whole.room)

pub returns-clause-of_image : goal.returns-clause-of_image
returns-clause-of_image g c = λ honest names.
    IsRefTableOf-loaded c.args.header.now.fields (g.S.Storage.view c.args.storage.now).contents _ c.args.entries c.in_ok-table.table names
    (rw (← c.cluster_bits-bits.ensures.value) (c.in_ok-table.ensures.bytes honest))

use Rattle.std.proofs.Common.{◌≡◌, ◌^◌, true, ap, sym, ◌∙◌}
use Rattle.qcow2_alloc.proofs.Common.{L2TableView, storage_of, cleared_l2, IsTableOf}
use Rattle.qcow2_alloc.proofs.TableFlush.{write_fails}
use Rattle.qcow2_alloc.proofs.KeptNotes.{kept_told, write_kept}
use Rattle.qcow2_alloc.proofs.RecordedFaults.{met_written}
use Rattle.qcow2_alloc.proofs.cache.backends.L2CacheBackendAsyncLruCacheBackend.flush.Goals as goal

pub returns-in-Err-clause-err : goal.returns-in-Err-clause-err
returns-in-Err-clause-err g c =
    let modified : c.args.value.now.is_modified ≡ true = sym c.is_modified.ensures.value ∙ c.if-not-is_modified.false in
    let same_bits = sym c.cluster_bits.ensures.value ∙ c.if-cluster_bits.false ∙ c.cluster_bits-2.ensures.value in
    let written = rw (c.in-Err.is, same_bits) at ((c.write_l2_table.ensures.writes.written modified).written) in
    let calls = rw c.in-Err.is at c.write_l2_table.ensures.writes.calls in
    write_fails (λ s. g.S.Storage.view (storage_of s)) c.args.self.now.header.fields.cluster_bits (λ (v : L2TableView). v.bytes) (λ v. v.is_modified) cleared_l2 (IsTableOf c.args.self.now.header.fields)
    c.args.store.now c.write_l2_table.new.self c.args.key c.args.value.now c.in-Err.e
    (g.S.Storage.view (storage_of c.set_write_kind.new.self)) (ap g.S.Storage.view c.set_write_kind.ensures.storage)
    modified (c.is_modified.ensures.whole.whole ∙ ap (λ n. 2 ^ n) same_bits) written calls

pub returns-in-Err-clause-keeps : goal.returns-in-Err-clause-keeps
returns-in-Err-clause-keeps g c =
    let modified : c.args.value.now.is_modified ≡ true = sym c.is_modified.ensures.value ∙ c.if-not-is_modified.false in (
      kept_told c.args.store.now c.set_write_kind.new.self c.write_l2_table.new.self c.set_write_kind.ensures.storage c.set_write_kind.ensures.changed (write_kept _ _ c.write_l2_table.result _ ((c.write_l2_table.ensures.writes.written modified).written) c.write_l2_table.ensures.writes.calls ((c.write_l2_table.ensures.writes.written modified).recorded)),
      met_written c.args.store.now c.set_write_kind.new.self c.write_l2_table.new.self c.write_l2_table.result c.set_write_kind.ensures.storage c.set_write_kind.ensures.faults c.write_l2_table.ensures.writes.calls.cause ((c.write_l2_table.ensures.writes.written modified).faults),
    )

pub returns-in-Ok-clause-keeps : goal.returns-in-Ok-clause-keeps
returns-in-Ok-clause-keeps g c =
    let modified : c.args.value.now.is_modified ≡ true = sym c.is_modified.ensures.value ∙ c.if-not-is_modified.false in (
      kept_told c.args.store.now c.set_write_kind.new.self c.write_l2_table.new.self c.set_write_kind.ensures.storage c.set_write_kind.ensures.changed (write_kept _ _ c.write_l2_table.result _ ((c.write_l2_table.ensures.writes.written modified).written) c.write_l2_table.ensures.writes.calls ((c.write_l2_table.ensures.writes.written modified).recorded)),
      met_written c.args.store.now c.set_write_kind.new.self c.write_l2_table.new.self c.write_l2_table.result c.set_write_kind.ensures.storage c.set_write_kind.ensures.faults c.write_l2_table.ensures.writes.calls.cause ((c.write_l2_table.ensures.writes.written modified).faults),
    )

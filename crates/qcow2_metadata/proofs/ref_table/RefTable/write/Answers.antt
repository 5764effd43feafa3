use Rattle.std.proofs.Common.{◌*◌, ◌^◌, List, ℕ}
use Rattle.qcow2_metadata.proofs.Common.{overwritten, byte_at, entry_count, IsRefTableOf, NamesRefTable}
use Rattle.qcow2_metadata.proofs.WrittenTables.{after_write, IsRefTableOf-written}
use Rattle.qcow2_metadata.proofs.ref_table.RefTable.write.Goals as goal

pub returns-clause-of_image : goal.returns-clause-of_image
returns-clause-of_image g c = λ honest h.
    let t = c.self.inside.table in
    let before = g.S.Storage.view c.args.storage.now in
    let after = g.S.Storage.view c.write.new.storage in
    rw (← c.self.view_is)
    (after_write t.cluster c.write.result before after
    (λ cluster b. overwritten b (cluster * 2 ^ t.cluster_bits) t.bytes)
    (λ cluster. NamesRefTable h (cluster * 2 ^ t.cluster_bits) (entry_count t))
    (λ (contents : List ℕ). IsRefTableOf h (byte_at contents) t)
    (λ cluster names. IsRefTableOf-written h before.contents (cluster * 2 ^ t.cluster_bits) t c.write.ensures.table.whole names)
    honest c.write.ensures.written)

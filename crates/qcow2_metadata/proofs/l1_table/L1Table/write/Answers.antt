use Rattle.std.proofs.Common.{◌*◌, ◌^◌, List, ℕ}
use Rattle.qcow2_metadata.proofs.Common.{overwritten, byte_at, entry_count, IsL1TableOf, NamesL1Table}
use Rattle.qcow2_metadata.proofs.WrittenTables.{after_write, IsL1TableOf-written}
use Rattle.qcow2_metadata.proofs.l1_table.L1Table.write.Goals as goal

pub returns-clause-of_image : goal.returns-clause-of_image
returns-clause-of_image g c = λ honest h.
    let t = c.self.inside.table in
    let before = g.S.Storage.view c.args.storage.now in
    let after = g.S.Storage.view c.write.new.storage in
    rw (← c.self.view_is)
    (after_write t.cluster c.write.result before after
    (λ cluster b. overwritten b (cluster * 2 ^ t.cluster_bits) t.bytes)
    (λ cluster. NamesL1Table h (cluster * 2 ^ t.cluster_bits) (entry_count t))
    (λ (contents : List ℕ). IsL1TableOf h (byte_at contents) t)
    (λ cluster names. IsL1TableOf-written h before.contents (cluster * 2 ^ t.cluster_bits) t c.write.ensures.table.whole names)
    honest c.write.ensures.written)

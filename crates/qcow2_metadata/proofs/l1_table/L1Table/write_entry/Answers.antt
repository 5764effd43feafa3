use Rattle.std.proofs.Common.{◌+◌, ◌*◌, ◌^◌, ◌<◌, List, ℕ}
use Rattle.qcow2_metadata.proofs.Common.{w64, to_be_bytes, overwritten, byte_at, entry_at, entry_count, IsL1TableOf, IsL1TableBut, NamesL1Table}
use Rattle.qcow2_metadata.proofs.WrittenTables.{after_write, IsL1TableOf-written_entry}
use Rattle.qcow2_metadata.proofs.l1_table.L1Table.write_entry.Goals as goal

pub returns-clause-of_image : goal.returns-clause-of_image
returns-clause-of_image g c = λ honest h.
    let t = c.self.inside.table in
    let i = c.args.index in
    let before = g.S.Storage.view c.args.storage.now in
    let after = g.S.Storage.view c.write_entry.new.storage in
    let within : i < entry_count t = rw c.self.view_is c.requires.within in
    rw (← c.self.view_is)
    (after_write t.cluster c.write_entry.result before after
    (λ cluster b. overwritten b (cluster * 2 ^ t.cluster_bits + 8 * i) (to_be_bytes w64 (entry_at t.bytes i)))
    (λ cluster. NamesL1Table h (cluster * 2 ^ t.cluster_bits) (entry_count t) × IsL1TableBut i h (byte_at before.contents) t)
    (λ (contents : List ℕ). IsL1TableOf h (byte_at contents) t)
    (λ cluster named. IsL1TableOf-written_entry h before.contents (cluster * 2 ^ t.cluster_bits) t i within c.write_entry.ensures.fits named)
    honest c.write_entry.ensures.written)

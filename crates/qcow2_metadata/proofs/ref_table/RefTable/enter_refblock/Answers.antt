use Rattle.qcow2_metadata.proofs.Common.{ap, arith, length, ReftableEntryReads, EntryTableView}
use Rattle.qcow2_metadata.proofs.EntryTables.{EachReads-set, on_sector, room_as}
use Rattle.qcow2_metadata.proofs.ref_table.RefTable.enter_refblock.Goals as goal

pub invariant_of-self : goal.invariant_of-self
invariant_of-self c =
    let aligned = on_sector c.args.cluster c.cluster_bits.result (omega (arith, c.cluster_bits.ensures.value, c.cluster_bits.ensures.is_table.table.bits.0)) in (
      omega (arith, c.set.ensures.entry.as_long, c.self.invariant.0),
      EachReads-set ReftableEntryReads _ _ _ _ c.set.ensures.entry (omega (arith, aligned, c.offset.ensures, c.value-offset.ensures)) c.self.invariant.1,
      room_as c.set.new.self c.self.inside.table.cluster c.self.inside.table.cluster_bits (length c.self.inside.table.bytes) (ap (λ (t : EntryTableView). t.cluster) c.set.ensures.rest) (ap (λ (t : EntryTableView). t.cluster_bits) c.set.ensures.rest)
          c.set.ensures.entry.as_long c.self.invariant.2,
    )

use Rattle.std.proofs.Common.{◌++◌, List}
use Rattle.qcow2_check.proofs.Common.{L1, Reftable, L2, Refblock, Breach, tally_in, table_offset_lines, offset_lines}
use Rattle.qcow2_check.specs.declared.report.Kind.TheVariants.{Data}
use Rattle.qcow2_check.proofs.Rising.{before}
use Rattle.qcow2_check.proofs.lines.add_unaligned.Goals as goal

pub returns : goal.returns
returns c =
    let h = c.args.header.now in
    let one : List Breach = table_offset_lines h L1 h.l1_offset in
    let two : List Breach = table_offset_lines h Reftable h.reftable_offset in
    let three : List Breach = offset_lines L2 (tally_in c.args.offsets.now.l2_tables.clusters) in
    let four : List Breach = offset_lines Refblock (tally_in c.args.offsets.now.refblocks.clusters) in
    let five : List Breach = offset_lines Data (tally_in c.args.offsets.now.data.clusters) in
    let last : List Breach = c.add_offset_lines-3.new.breaches.items in
    before c.args.breaches.now.items one (two ++ (three ++ (four ++ five))) c.add_table_offset.new.breaches.items last c.in_ok-add_table_offset.ensures
    (before c.add_table_offset.new.breaches.items two (three ++ (four ++ five)) c.add_table_offset-2.new.breaches.items last c.in_ok-add_table_offset-2.ensures
    (before c.add_table_offset-2.new.breaches.items three (four ++ five) c.add_offset_lines.new.breaches.items last c.in_ok-add_offset_lines.ensures
    (before c.add_offset_lines.new.breaches.items four five c.add_offset_lines-2.new.breaches.items last c.in_ok-add_offset_lines-2.ensures c.in_ok-add_offset_lines-3.ensures)))

use Rattle.std.proofs.Common.{◌*◌, ◌∙◌, ap, arith}
use Rattle.qcow2_metadata.proofs.Common.{one_shl, overwritten}
use Rattle.qcow2_metadata.proofs.RefCounts.{set_narrow_changes, wide_changes_16, wide_changes_32, wide_changes_64}
use Rattle.qcow2_metadata.proofs.ref_block.write_count.Goals as goal

pub returns-in-4 : goal.returns-in-4
returns-in-4 c =
    wide_changes_16 c.args.block.now _ c.args.order c.args.index c.args.count c.requires.whole c.requires.inside c.requires.fits c.in-4.is
    (c.put.ensures ∙ ap (overwritten c.args.block.now (c.args.index * 2)) c.to_be_bytes.ensures)

pub returns-in-5 : goal.returns-in-5
returns-in-5 c =
    wide_changes_32 c.args.block.now _ c.args.order c.args.index c.args.count c.requires.whole c.requires.inside c.requires.fits c.in-5.is
    (c.put-in-5.ensures ∙ ap (overwritten c.args.block.now (c.args.index * 4)) c.to_be_bytes-in-5.ensures)

pub returns-in_default : goal.returns-in_default
returns-in_default c =
    wide_changes_64 c.args.block.now _ c.args.order c.args.index c.args.count c.requires.whole c.requires.inside c.requires.fits (omega arith)
    (c.put-in_default.ensures ∙ ap (overwritten c.args.block.now (c.args.index * 8)) c.to_be_bytes-in_default.ensures)

pub returns-in-0-to-3 : goal.returns-in-0-to-3
returns-in-0-to-3 c =
    let place = c.field_place-byte.ensures in
    set_narrow_changes c.args.block.now c.args.order c.args.index c.args.count _ _ _ _ (omega arith) place.byte place.bit (one_shl c.args.order 32 (omega arith)) place.within
    (omega arith) c.requires.inside c.requires.fits c.with_field.ensures

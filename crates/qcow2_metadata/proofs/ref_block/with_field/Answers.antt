use Rattle.std.proofs.Common.{◌*◌, ◌/◌, ◌%◌, ◌^◌, arith, ◌∙◌, ap}
use Rattle.qcow2_metadata.proofs.RefCounts.{shifted, field_fits, set_byte_fits}
use Rattle.qcow2_metadata.proofs.ref_block.with_field.Goals as goal

pub overflow_add-result : goal.overflow_add-result
overflow_add-result c =
    let old = ap (λ n. n * 2 ^ c.args.bit % 256) c.field.ensures ∙ shifted (c.args.byte / 2 ^ c.args.bit % 2 ^ c.args.width) c.args.bit c.args.width (field_fits _ _ _) c.requires.within in
    let new = shifted c.args.value c.args.bit c.args.width c.requires.fits c.requires.within in
    omega (arith, old, new, set_byte_fits c.args.byte c.args.bit c.args.width c.args.value (omega arith) c.requires.fits c.requires.within)

pub returns : goal.returns
returns c =
    let old = ap (λ n. n * 2 ^ c.args.bit % 256) c.field.ensures ∙ shifted (c.args.byte / 2 ^ c.args.bit % 2 ^ c.args.width) c.args.bit c.args.width (field_fits _ _ _) c.requires.within in
    let new = shifted c.args.value c.args.bit c.args.width c.requires.fits c.requires.within in
    omega (arith, old, new)

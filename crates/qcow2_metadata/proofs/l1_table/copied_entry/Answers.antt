use Rattle.std.proofs.Common.{◌^◌, arith, ◌∙◌, ap}
use Rattle.qcow2_metadata.proofs.Common.{bit_or, eq-eqb, or_shifted}
use Rattle.qcow2_metadata.proofs.l1_table.copied_entry.Goals as goal

pub returns : goal.returns
returns c =
    let low = c.requires.reach in
    let aligned = c.requires.aligned in
    let value = ap (bit_or (2 ^ 63)) c.value.ensures ∙ or_shifted 1 63 c.args.offset (omega arith) in
    record {
      value = value;
      offset = omega (arith, value);
      copied = eq-eqb _ _ (omega (arith, value));
      reads = (omega (arith, value), omega (arith, value));
    }

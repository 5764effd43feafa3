use Rattle.std.proofs.Common.{◌≡◌, ◌*◌, ◌/◌, ◌%◌, ◌^◌, ◌∙◌, ap, sym, arith}
use Rattle.qcow2_metadata.proofs.Common.{one_shl, byte_at, count_in}
use Rattle.qcow2_metadata.proofs.RefCounts.{narrow_count, count_of_16, count_of_32, count_of_64, pair_of_bytes}
use Rattle.qcow2_metadata.proofs.ref_block.read_count.Goals as goal

pub returns-in-0-to-3-clause-count : goal.returns-in-0-to-3-clause-count
returns-in-0-to-3-clause-count c =
    let bytes = c.args.block.now in
    let order = c.args.order in
    c.from-in-0-to-3.ensures ∙ c.field.ensures
    ∙ ap (λ k. byte_at bytes c.field_place-byte.result.0 / 2 ^ c.field_place-byte.result.1 % 2 ^ k) (one_shl order 32 (omega arith))
    ∙ ap (λ k. byte_at bytes k / 2 ^ c.field_place-byte.result.1 % 2 ^ (2 ^ order)) c.field_place-byte.ensures.byte
    ∙ ap (λ k. byte_at bytes (c.args.index * 2 ^ order / 8) / 2 ^ k % 2 ^ (2 ^ order)) c.field_place-byte.ensures.bit
    ∙ sym (narrow_count bytes order c.args.index (omega arith) (omega (arith, c.type_inv.block (c.args.index * 2 ^ order / 8))))

pub returns-in-4-clause-count : goal.returns-in-4-clause-count
returns-in-4-clause-count c =
    c.from.ensures ∙ c.from_be_bytes.ensures ∙ pair_of_bytes c.args.block.now (c.args.index * 2) ∙ sym (count_of_16 c.args.block.now c.args.index)
    ∙ ap (λ order. count_in order c.args.block.now c.args.index) (sym c.in-4.is)

pub returns-in-5-clause-count : goal.returns-in-5-clause-count
returns-in-5-clause-count c =
    c.from-in-5.ensures ∙ c.read_u32.ensures ∙ sym (count_of_32 c.args.block.now c.args.index)
    ∙ ap (λ order. count_in order c.args.block.now c.args.index) (sym c.in-5.is)

pub returns-in_default-clause-count : goal.returns-in_default-clause-count
returns-in_default-clause-count c =
    let is : 6 ≡ c.args.order = omega arith in
    c.read_u64.ensures ∙ sym (count_of_64 c.args.block.now c.args.index)
    ∙ ap (λ order. count_in order c.args.block.now c.args.index) is

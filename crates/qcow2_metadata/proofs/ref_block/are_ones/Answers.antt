use Rattle.std.proofs.Common.{◌≡◌, ◌==◌, ◌-◌, ◌^◌, ℕ, true, arith, sym, ◌∙◌}
use Rattle.std.proofs.lemmas.Bool.Decides.{nat_tests}
use Rattle.qcow2_metadata.proofs.FirstZero.{ones_counted}
use Rattle.qcow2_metadata.proofs.ref_block.are_ones.Goals as goal

greatest : (n : ℕ) → (n == 2 ^ 64 - 1) ≡ true → n ≡ 2 ^ 64 - 1
greatest n h = grind (arith, nat_tests)

pub returns : goal.returns
returns c = λ yes k low high.
    ones_counted c.args.block.now c.args.index (λ i. omega (arith, c.type_inv.block i)) c.requires.row (sym c.read_u64.ensures ∙ greatest c.read_u64.result yes) k low high

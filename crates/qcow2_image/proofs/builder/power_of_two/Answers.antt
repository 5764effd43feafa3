use Rattle.qcow2_image.proofs.Common.{arith, trailing_zeros, w64, one_shl}
use Rattle.qcow2_image.proofs.Create.Causes.{no_power}
use Rattle.qcow2_image.proofs.builder.power_of_two.Goals.{else-bits-lt64-via-then-bits-lt64+else-bits-number, else-bits-lt64-via-else-bits-lt64}
use Rattle.qcow2_image.proofs.builder.power_of_two.Goals as goal

pub returns-else-bits-lt64-clause-none : goal.returns-else-bits-lt64-clause-none
returns-else-bits-lt64-clause-none c = elim c.else-bits-lt64.branch [
  | else-bits-lt64-via-then-bits-lt64+else-bits-number w ↦
      no_power c.args.number (λ lt same. let shl = one_shl (trailing_zeros w64 c.args.number) 64 lt in absurd (omega (arith, shl, same, w.if-bits-number.false)))
  | else-bits-lt64-via-else-bits-lt64 w ↦ no_power c.args.number (λ lt same. absurd (omega (arith, lt, w.if-bits-lt64.false)))
]

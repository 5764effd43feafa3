use Rattle.qcow2_check.proofs.Common.{length, arith, inl, inr, cases_lt, get_or_past}
use Rattle.qcow2_check.proofs.block.kept_bytes.Goals as goal

pub returns : goal.returns
returns c = inr (
  c.new.ensures.items,
  λ k. elim (cases_lt k (length c.args.bytes.now)) [
    | inl inside ↦ c.loop-byte.invariant k (omega arith)
    | inr past ↦ get_or_past c.args.bytes.now k 0 past
  ],
)

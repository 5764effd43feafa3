use Rattle.qcow2_metadata.proofs.Common.{inl, inr, arith, cases_lt}
use Rattle.qcow2_metadata.proofs.EntryTables.{entry_at_past, none_is_clear}
use Rattle.qcow2_metadata.proofs.entry_table.is_clear.Goals as goal

pub returns-clause-clear : goal.returns-clause-clear
returns-clause-clear c = λ i. elim (cases_lt i c.loop-i.i) [
  | inl seen ↦ c.loop-i.invariant i seen
  | inr past ↦ none_is_clear _ _ (entry_at_past c.args.bytes.now i (omega arith))
]

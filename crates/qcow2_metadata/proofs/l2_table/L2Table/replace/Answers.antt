use Rattle.qcow2_metadata.proofs.Common.{length, ap, sym, ◌∙◌, whole}
use Rattle.qcow2_metadata.proofs.EntryTables.{refilled}
use Rattle.qcow2_metadata.proofs.l2_table.L2Table.replace.Goals as goal

pub invariant_of-self : goal.invariant_of-self
invariant_of-self c = record { whole = refilled c.self.inside.bytes _ ∙ c.self.invariant.whole; bits = c.self.invariant.bits; placed = c.self.invariant.placed }

pub invariant_of-self-2 : goal.invariant_of-self-2
invariant_of-self-2 c = record { whole = refilled c.self.inside.bytes _ ∙ c.self.invariant.whole; bits = c.self.invariant.bits; placed = c.self.invariant.placed }

pub returns-clause-changed : goal.returns-clause-changed
returns-clause-changed c =
    rw (whole _ _ _ (c.set_entry.ensures.as_long ∙ ap length c.deref_mut.ensures.value) (sym c.self.inside.bytes.ok.0))
    (rw (c.deref_mut.ensures.value ∙ ap (λ t. t.bytes) c.self.view_is) at c.set_entry.ensures)

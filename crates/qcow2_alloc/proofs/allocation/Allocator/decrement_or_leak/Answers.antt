use Rattle.qcow2_alloc.proofs.allocation.Allocator.decrement_or_leak.Goals.{in-Ok-false, in-Err+else-is_fault+in-StillInUse-1, in-Err+else-is_fault+in-ReadOnly-1}
use Rattle.qcow2_alloc.proofs.Outcomes.{not_both}
use Rattle.qcow2_alloc.proofs.allocation.Allocator.decrement_or_leak.Goals as goal

pub returns-in-Ok-true-clause-sound : goal.returns-in-Ok-true-clause-sound
returns-in-Ok-true-clause-sound g c = λ p owed sound may.
    record {
      gives = rw c.in-Ok-true.field-0-test at (c.in-Ok-true.ensures.sound p owed sound may);
      leaks = c.decrement_refcount.ensures.leaked;
      hint = λ hint. c.in-Ok-true.ensures.hint p owed sound may hint;
    }

pub returns-clause-sound : goal.returns-clause-sound
returns-clause-sound g c = λ p owed sound may.
    elim c.match-decrement_refcount.branch [
      | in-Ok-false w ↦ absurd (rw w.in-Ok-false.field-0-test at (w.in-Ok-false.ensures.sound p owed sound may))
      | in-Err+else-is_fault+in-StillInUse-1 w ↦ not_both w.is_fault.result (w.is_fault.ensures.1 (w.in-Err.ensures.sound p owed sound may).0) w.if-is_fault.false
      | in-Err+else-is_fault+in-ReadOnly-1 w ↦ not_both w.is_fault.result (w.is_fault.ensures.1 (w.in-Err.ensures.sound p owed sound may).0) w.if-is_fault.false
    ]

pub returns-then-is_fault-clause-sound : goal.returns-then-is_fault-clause-sound
returns-then-is_fault-clause-sound g c = λ p owed sound may. record {
  gives = c.in-Err.ensures.sound p owed sound may;
  leaks = c.decrement_refcount.ensures.leaked;
  hint = c.in-Err.ensures.hint p owed sound may;
}

pub returns-clause-first : goal.returns-clause-first
returns-clause-first g c = λ low. let stays = c.decrement_refcount.ensures.first low in record { first = stays.first; passed = λ k passed. stays.passed k passed }

use Rattle.qcow2_alloc.proofs.Common.{inl, inr, refl, ap, ◌∙◌, subst, BlocksMayGo, Direction, order, l2_tables}
use Rattle.qcow2_alloc.specs.declared.cache.Direction.TheVariants as D
use Rattle.qcow2_alloc.proofs.Lemmas.{cache_step_none, step_in_turn, step_turned, soundly_none, soundly_turned, switched_at_once, switched_after, differ, l2_not_rb, neither_rb, tables_free, may_l2_depend, on_err, on_no_ok, fails_ok, fails_on}
use Rattle.qcow2_alloc.proofs.cache.MetadataCaches.l2_depends_on_rb.Goals.{in-RbDependsOnL2+in_ok-write_tables-in-RbDependsOnL2, in-L2DependsOnRb, in-None}
use Rattle.qcow2_alloc.proofs.cache.MetadataCaches.l2_depends_on_rb.Goals as goal

-- only the tables that are written can refuse it
pub returns-in_err-write_tables-in-RbDependsOnL2 : goal.returns-in_err-write_tables-in-RbDependsOnL2
returns-in_err-write_tables-in-RbDependsOnL2 g c = record {
  step = step_in_turn c.write_tables.ensures.step;
  fails = fails_on c.from_residual.result c.in_err-write_tables-in-RbDependsOnL2.field-0.0 c.from_residual.ensures c.in_err-write_tables-in-RbDependsOnL2.ensures.fails;
  sound = c.write_tables.ensures.sound (tables_free c.args.self.now (inr c.in-RbDependsOnL2.is));
  turns = switched_after c.write_tables.ensures.flushes (ap order c.in-RbDependsOnL2.is) (λ may. subst (λ (d : Direction). BlocksMayGo d (l2_tables c.args.self.now)) (ap order c.in-RbDependsOnL2.is) may) refl (refl, refl) (on_no_ok _ c.from_residual.result c.in_err-write_tables-in-RbDependsOnL2.field-0.0 c.from_residual.ensures)
      (on_err _ c.from_residual.result c.write_tables.ensures.step.marks.order) (on_no_ok _ c.from_residual.result c.in_err-write_tables-in-RbDependsOnL2.field-0.0 c.from_residual.ensures);
}

pub returns-clause-step : goal.returns-clause-step
returns-clause-step g c = elim c.match-self.branch [
  | in-L2DependsOnRb w ↦ rw (w.self-is, w.storage-is) (step_in_turn cache_step_none)
  | in-None w ↦ rw (w.self-is, w.storage-is) (step_turned D.L2DependsOnRb cache_step_none)
  | in-RbDependsOnL2+in_ok-write_tables-in-RbDependsOnL2 w ↦ rw (w.self-is, w.storage-is) (step_turned D.L2DependsOnRb w.write_tables.ensures.step)
]

pub returns-clause-fails : goal.returns-clause-fails
returns-clause-fails g c = fails_ok (elim c.match-self.branch [
  | in-L2DependsOnRb w ↦ rw w.storage-is refl
  | in-None w ↦ rw w.storage-is refl
  | in-RbDependsOnL2+in_ok-write_tables-in-RbDependsOnL2 w ↦ rw w.storage-is w.in_ok-write_tables-in-RbDependsOnL2.ensures.fails.told
])

pub returns-clause-sound : goal.returns-clause-sound
returns-clause-sound g c = elim c.match-self.branch [
  | in-L2DependsOnRb w ↦ rw (w.self-is, w.storage-is) soundly_none
  | in-None w ↦ rw (w.self-is, w.storage-is) (soundly_turned D.L2DependsOnRb soundly_none (may_l2_depend g.S.Storage.view c.args.self.now c.args.storage.now (inl (ap order w.in-None.is))))
  | in-RbDependsOnL2+in_ok-write_tables-in-RbDependsOnL2 w ↦ rw (w.self-is, w.storage-is) (soundly_turned D.L2DependsOnRb (w.write_tables.ensures.sound (tables_free c.args.self.now (inr w.in-RbDependsOnL2.is)))
      (may_l2_depend g.S.Storage.view w.write_tables.new.self w.write_tables.new.storage (inr (ap order (w.write_tables.ensures.flushes.direction ∙ w.in-RbDependsOnL2.is), w.in_ok-write_tables-in-RbDependsOnL2.ensures.flushes.written))))
]

pub returns-clause-turns : goal.returns-clause-turns
returns-clause-turns g c = elim c.match-self.branch [
  | in-L2DependsOnRb w ↦ rw (w.self-is, w.storage-is) (switched_at_once (ap order w.in-L2DependsOnRb.is) (λ was. differ (ap order w.in-L2DependsOnRb.is) was l2_not_rb) refl (refl, refl))
  | in-None w ↦ rw (w.self-is, w.storage-is) (switched_at_once refl (λ was. differ (ap order w.in-None.is) was neither_rb) refl (refl, refl))
  | in-RbDependsOnL2+in_ok-write_tables-in-RbDependsOnL2 w ↦ rw (w.self-is, w.storage-is) (switched_after w.write_tables.ensures.flushes (ap order w.in-RbDependsOnL2.is) (λ may. subst (λ (d : Direction). BlocksMayGo d (l2_tables c.args.self.now)) (ap order w.in-RbDependsOnL2.is) may) refl (refl, refl) refl tt w.in_ok-write_tables-in-RbDependsOnL2.ensures.flushes.written)
]

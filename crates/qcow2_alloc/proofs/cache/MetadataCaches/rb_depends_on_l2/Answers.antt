use Rattle.qcow2_alloc.proofs.Common.{inl, inr, refl, ap, ◌∙◌, subst, TablesMayGo, Direction, order, refblocks}
use Rattle.qcow2_alloc.specs.declared.cache.Direction.TheVariants as D
use Rattle.qcow2_alloc.proofs.Lemmas.{cache_step_none, step_in_turn, step_turned, soundly_none, soundly_turned, switched_at_once, switched_after, differ, rb_not_l2, neither_l2, blocks_free, may_rb_depend, on_err, on_no_ok, fails_ok, fails_on}
use Rattle.qcow2_alloc.proofs.cache.MetadataCaches.rb_depends_on_l2.Goals.{in-L2DependsOnRb+in_ok-write_blocks-in-L2DependsOnRb, in-RbDependsOnL2, in-None}
use Rattle.qcow2_alloc.proofs.cache.MetadataCaches.rb_depends_on_l2.Goals as goal

-- only the tables that are written can refuse it
pub returns-in_err-write_blocks-in-L2DependsOnRb : goal.returns-in_err-write_blocks-in-L2DependsOnRb
returns-in_err-write_blocks-in-L2DependsOnRb g c = record {
  step = step_in_turn c.write_blocks.ensures.step;
  fails = fails_on c.from_residual.result c.in_err-write_blocks-in-L2DependsOnRb.field-0.0 c.from_residual.ensures c.in_err-write_blocks-in-L2DependsOnRb.ensures.fails;
  sound = c.write_blocks.ensures.sound (blocks_free c.args.self.now (inr c.in-L2DependsOnRb.is));
  turns = switched_after c.write_blocks.ensures.flushes (ap order c.in-L2DependsOnRb.is) (λ may. subst (λ (d : Direction). TablesMayGo d (refblocks c.args.self.now)) (ap order c.in-L2DependsOnRb.is) may) refl (refl, refl) (on_no_ok _ c.from_residual.result c.in_err-write_blocks-in-L2DependsOnRb.field-0.0 c.from_residual.ensures)
      (on_err _ c.from_residual.result c.write_blocks.ensures.step.marks.order) (on_no_ok _ c.from_residual.result c.in_err-write_blocks-in-L2DependsOnRb.field-0.0 c.from_residual.ensures);
  held = c.write_blocks.ensures.held;
}

pub returns-clause-step : goal.returns-clause-step
returns-clause-step g c = elim c.match-self.branch [
  | in-RbDependsOnL2 w ↦ rw (w.self-is, w.storage-is) (step_in_turn cache_step_none)
  | in-None w ↦ rw (w.self-is, w.storage-is) (step_turned D.RbDependsOnL2 cache_step_none)
  | in-L2DependsOnRb+in_ok-write_blocks-in-L2DependsOnRb w ↦ rw (w.self-is, w.storage-is) (step_turned D.RbDependsOnL2 w.write_blocks.ensures.step)
]

pub returns-clause-fails : goal.returns-clause-fails
returns-clause-fails g c = fails_ok (elim c.match-self.branch [
  | in-RbDependsOnL2 w ↦ rw w.storage-is refl
  | in-None w ↦ rw w.storage-is refl
  | in-L2DependsOnRb+in_ok-write_blocks-in-L2DependsOnRb w ↦ rw w.storage-is w.in_ok-write_blocks-in-L2DependsOnRb.ensures.fails.told
])

pub returns-clause-sound : goal.returns-clause-sound
returns-clause-sound g c = elim c.match-self.branch [
  | in-RbDependsOnL2 w ↦ rw (w.self-is, w.storage-is) soundly_none
  | in-None w ↦ rw (w.self-is, w.storage-is) (soundly_turned D.RbDependsOnL2 soundly_none (may_rb_depend g.S.Storage.view c.args.self.now c.args.storage.now (inl (ap order w.in-None.is))))
  | in-L2DependsOnRb+in_ok-write_blocks-in-L2DependsOnRb w ↦ rw (w.self-is, w.storage-is) (soundly_turned D.RbDependsOnL2 (w.write_blocks.ensures.sound (blocks_free c.args.self.now (inr w.in-L2DependsOnRb.is)))
      (may_rb_depend g.S.Storage.view w.write_blocks.new.self w.write_blocks.new.storage (inr (ap order (w.write_blocks.ensures.flushes.direction ∙ w.in-L2DependsOnRb.is), w.in_ok-write_blocks-in-L2DependsOnRb.ensures.flushes.written))))
]

pub returns-clause-held : goal.returns-clause-held
returns-clause-held g c = elim c.match-self.branch [
  | in-RbDependsOnL2 w ↦ rw w.self-is (λ cluster. refl)
  | in-None w ↦ rw w.self-is (λ cluster. refl)
  | in-L2DependsOnRb+in_ok-write_blocks-in-L2DependsOnRb w ↦ rw w.self-is w.write_blocks.ensures.held
]

pub returns-clause-turns : goal.returns-clause-turns
returns-clause-turns g c = elim c.match-self.branch [
  | in-RbDependsOnL2 w ↦ rw (w.self-is, w.storage-is) (switched_at_once (ap order w.in-RbDependsOnL2.is) (λ was. differ (ap order w.in-RbDependsOnL2.is) was rb_not_l2) refl (refl, refl))
  | in-None w ↦ rw (w.self-is, w.storage-is) (switched_at_once refl (λ was. differ (ap order w.in-None.is) was neither_l2) refl (refl, refl))
  | in-L2DependsOnRb+in_ok-write_blocks-in-L2DependsOnRb w ↦ rw (w.self-is, w.storage-is) (switched_after w.write_blocks.ensures.flushes (ap order w.in-L2DependsOnRb.is) (λ may. subst (λ (d : Direction). TablesMayGo d (refblocks c.args.self.now)) (ap order w.in-L2DependsOnRb.is) may) refl (refl, refl) refl tt w.in_ok-write_blocks-in-L2DependsOnRb.ensures.flushes.written)
]

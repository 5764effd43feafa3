use Rattle.qcow2_alloc.proofs.Common.{inl, inr, ap, subst, arith, IsCovered, Allocator}
use Rattle.qcow2_alloc.proofs.KeptRuns.{passes_kept}
use Rattle.qcow2_alloc.proofs.allocation.Allocator.record_decrement.Goals as goal

pub returns-then-is_free-clause-passed : goal.returns-then-is_free-clause-passed
returns-then-is_free-clause-passed c = λ k passed. elim (passes_kept c.spare_no_longer.new.self c.record_free.new.self c.record_free.ensures.kept k passed) [
  | inl below ↦
      let first = ap (λ (t : Allocator). t.first_free_cluster) c.spare_no_longer.ensures.rest in
      let least = c.min-self.ensures in
      inl (omega (arith, below, first, least))
  | inr (inl spared) ↦ inr (inl (c.spare_no_longer.ensures.fewer k spared))
  | inr (inr covered) ↦ inr (inr (subst (λ (t : Allocator). IsCovered t k) c.spare_no_longer.ensures.rest covered))
]

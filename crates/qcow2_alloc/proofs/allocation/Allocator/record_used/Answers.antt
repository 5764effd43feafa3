use Rattle.std.proofs.Common.{◌≡◌, inl, inr, refl, subst, arith}
use Rattle.qcow2_alloc.proofs.Common.{IsCovered}
use Rattle.qcow2_alloc.proofs.KeptRuns.{covered_but, kept_more}
use Rattle.qcow2_alloc.proofs.allocation.Allocator.record_used.Goals as goal

pub returns-then-not-was_free-clause-kept : goal.returns-then-not-was_free-clause-kept
returns-then-not-was_free-clause-kept c = kept_more c.args.self.now c.forget_around.new.self (λ k. k ≡ c.args.cluster) c.forget_around.ensures.kept

pub returns-then-not-take-clause-kept : goal.returns-then-not-take-clause-kept
returns-then-not-take-clause-kept c =
    let same = c.take.ensures.refused c.if-not-take.true in
    record {
      rest = c.forget_around-then-not-take.ensures.kept.rest;
      covered = λ k covered. elim (c.forget_around-then-not-take.ensures.kept.covered k covered) [
        | inl was ↦ inl (subst (λ free. IsCovered (record c.args.self.now { free = free }) k) same was)
        | inr none ↦ absurd none
      ];
    }

pub returns-else-not-take-clause-kept : goal.returns-else-not-take-clause-kept
returns-else-not-take-clause-kept c = record {
  rest = refl;
  covered = λ k covered. covered_but c.args.self.now.read c.args.self.now.free c.take.new.self c.args.cluster k (c.take.ensures.taken c.if-not-take.false) covered;
}

pub returns-else-not-take-clause-gone : goal.returns-else-not-take-clause-gone
returns-else-not-take-clause-gone c = (c.take.ensures.taken c.if-not-take.false).gone c.args.cluster (omega arith) (omega arith)

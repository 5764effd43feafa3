use Rattle.qcow2_alloc.proofs.Common.{inl, refl}
use Rattle.qcow2_alloc.proofs.KeptRuns.{covered_still}
use Rattle.qcow2_alloc.proofs.allocation.Allocator.forget_range.Goals as goal

pub returns-then-not-forget : goal.returns-then-not-forget
returns-then-not-forget c = record {
  kept = record { rest = c.forget_runs.ensures.kept.rest; covered = λ k covered. absurd (c.forget_runs.ensures.unread k covered.0) };
  unread = λ k from below. c.forget_runs.ensures.unread k;
  gone = λ k from below. c.forget_runs.ensures.gone k;
  fewer = λ k is. absurd (c.forget_runs.ensures.gone k is);
}

pub returns-then-not-forget-2 : goal.returns-then-not-forget-2
returns-then-not-forget-2 c = record {
  kept = record { rest = c.forget_runs-then-not-forget-2.ensures.kept.rest; covered = λ k covered. absurd (c.forget_runs-then-not-forget-2.ensures.unread k covered.0) };
  unread = λ k from below. c.forget_runs-then-not-forget-2.ensures.unread k;
  gone = λ k from below. c.forget_runs-then-not-forget-2.ensures.gone k;
  fewer = λ k is. absurd (c.forget_runs-then-not-forget-2.ensures.gone k is);
}

pub returns-else-not-forget-2 : goal.returns-else-not-forget-2
returns-else-not-forget-2 c = record {
  kept = record {
    rest = refl;
    covered = λ k covered. inl (covered_still c.args.self.now.read c.forget.new.self c.args.self.now.free c.forget-2.new.self c.args.first c.args.end k (c.forget.ensures.forgotten c.if-not-forget.false) (c.forget-2.ensures.forgotten c.if-not-forget-2.false) covered);
  };
  unread = (c.forget.ensures.forgotten c.if-not-forget.false).gone;
  gone = (c.forget-2.ensures.forgotten c.if-not-forget-2.false).gone;
  fewer = (c.forget-2.ensures.forgotten c.if-not-forget-2.false).was;
}

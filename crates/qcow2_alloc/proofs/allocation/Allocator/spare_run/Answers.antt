use Rattle.std.proofs.Common.{◌+◌, refl, arith}
use Rattle.qcow2_alloc.proofs.Common.{IsWithin}
use Rattle.qcow2_alloc.proofs.SparedClusters.{named_rest, run_ends, run_more, spares_none}
use Rattle.qcow2_alloc.proofs.allocation.Allocator.spare_run.Goals as goal

pub sparing-init : goal.sparing-init
sparing-init c = record {
  rest = refl;
  within = omega arith;
  spares = spares_none (IsWithin c.args.first c.args.first) c.args.self.now.named (λ k is. let low = is.0 in let high = is.1 in omega (arith, low, high));
}

pub sparing-preserved : goal.sparing-preserved
sparing-preserved c = record {
  rest = named_rest c.args.self.now c.sparing.self c.spare.new.self c.sparing.invariant.rest c.spare.ensures.rest;
  within = let lt = c.sparing-test.true in omega (arith, lt);
  spares = run_more c.args.first c.sparing.cluster c.args.self.now.named c.sparing.self.named c.spare.new.self.named c.sparing.auto.cluster c.sparing.invariant.spares (rw c.if-not-spare.false at c.spare.ensures.spares);
}

pub returns-then-not-spare-clause-spares : goal.returns-then-not-spare-clause-spares
returns-then-not-spare-clause-spares c = run_ends c.args.first (c.args.first + c.args.n) c.sparing.cluster c.args.self.now.named c.sparing.self.named c.spare.new.self.named c.sparing.auto.cluster c.sparing-test.true c.sparing.invariant.spares
    (rw c.if-not-spare.true at c.spare.ensures.spares)

use Rattle.qcow2_alloc.proofs.Common.{ℕ, List, inl, ap, subst, IsIn, IsFoundUsed, Allocator}
use Rattle.qcow2_alloc.proofs.KeptRuns.{listed_covered, runs_rest, stays_covered}
use Rattle.qcow2_alloc.proofs.allocation.Allocator.list_range.Goals as goal

pub add_read-requires-clause-unread : goal.add_read-requires-clause-unread
add_read-requires-clause-unread g c = λ k low high is. c.requires.unread k low high (subst (λ (runs : List (ℕ × ℕ)). IsIn runs k) (ap (λ (t : Allocator). t.read) c.list_free.ensures.adds.rest) is)

pub returns-then-not-list_free-clause-kept : goal.returns-then-not-list_free-clause-kept
returns-then-not-list_free-clause-kept g c = λ k covered. inl (stays_covered c.args.self.now c.list_free.new.self c.list_free.ensures.adds.rest c.list_free.ensures.adds.stays k covered)

pub returns-clause-rest : goal.returns-clause-rest
returns-clause-rest g c = runs_rest c.args.self.now c.list_free.new.self c.add_read.new.self c.list_free.ensures.adds.rest c.add_read.ensures.rest

pub returns-clause-kept : goal.returns-clause-kept
returns-clause-kept g c = λ k covered.
    listed_covered c.args.self.now c.list_free.new.self c.add_read.new.self c.args.first c.args.end k (IsFoundUsed c.args.self.now c.args.caches.now c.args.block c.args.first c.args.end k) c.add_read.result c.requires.order
    c.list_free.ensures.adds.rest c.list_free.ensures.adds.stays (c.list_free.ensures.listed c.if-not-list_free.false k) c.add_read.ensures.rest c.add_read.ensures.added c.add_read.ensures.refused covered

pub returns-clause-spared : goal.returns-clause-spared
returns-clause-spared g c = λ k is. c.list_free.ensures.adds.spared k (subst (λ (runs : List (ℕ × ℕ)). IsIn runs k) (ap (λ (t : Allocator). t.free) c.add_read.ensures.rest) is)

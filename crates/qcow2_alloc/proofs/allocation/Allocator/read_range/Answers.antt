use Rattle.qcow2_alloc.proofs.Common.{refl, IsFoundUsed}
use Rattle.qcow2_alloc.proofs.KeptRuns.{keeps_then, read_kept, spared_read}
use Rattle.qcow2_alloc.proofs.allocation.Allocator.read_range.Goals as goal

pub returns-then-not-list_range-clause-kept : goal.returns-then-not-list_range-clause-kept
returns-then-not-list_range-clause-kept g c =
    keeps_then c.args.self.now c.list_range.new.self c.forget_range-then-not-list_range.new.self (IsFoundUsed c.args.self.now c.args.caches.now c.args.block c.args.first c.args.end) c.args.first
    (read_kept c.args.self.now c.forget_range.new.self c.list_range.new.self c.args.caches.now c.args.caches.now c.args.block c.args.first c.args.end refl c.forget_range.ensures.kept c.list_range.ensures.rest c.list_range.ensures.kept)
    c.forget_range-then-not-list_range.ensures.kept

pub returns-then-not-list_range-clause-spared : goal.returns-then-not-list_range-clause-spared
returns-then-not-list_range-clause-spared g c = λ k is. spared_read c.args.self.now c.forget_range.new.self c.list_range.new.self c.forget_range.ensures.kept c.forget_range.ensures.fewer c.list_range.ensures.spared k (c.forget_range-then-not-list_range.ensures.fewer k is)

pub returns-else-not-list_range-clause-kept : goal.returns-else-not-list_range-clause-kept
returns-else-not-list_range-clause-kept g c = read_kept c.args.self.now c.forget_range.new.self c.list_range.new.self c.args.caches.now c.args.caches.now c.args.block c.args.first c.args.end refl c.forget_range.ensures.kept c.list_range.ensures.rest c.list_range.ensures.kept

pub returns-else-not-list_range-clause-spared : goal.returns-else-not-list_range-clause-spared
returns-else-not-list_range-clause-spared g c = spared_read c.args.self.now c.forget_range.new.self c.list_range.new.self c.forget_range.ensures.kept c.forget_range.ensures.fewer c.list_range.ensures.spared

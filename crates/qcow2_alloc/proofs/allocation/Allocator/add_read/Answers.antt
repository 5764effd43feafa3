use Rattle.std.proofs.Common.{◌-◌, arith}
use Rattle.qcow2_alloc.proofs.KeptRuns.{adds_joined}
use Rattle.qcow2_alloc.proofs.allocation.Allocator.add_read.Goals as goal

pub add-requires-clause-apart : goal.add-requires-clause-apart
add-requires-clause-apart c = λ k low high. c.requires.unread k low (let order = c.requires.order in omega (arith, order, high))

pub returns-clause-added : goal.returns-clause-added
returns-clause-added c = λ so. adds_joined c.args.self.now.read c.add.new.self c.join_at.new.self c.join_at-2.new.self c.args.first (c.args.end - c.args.first) (c.add.ensures.added c.if-not-add.false) c.join_at.ensures c.join_at-2.ensures

use Rattle.qcow2_alloc.proofs.allocation.Allocator.forget_around.Goals as goal

pub returns-clause-unread : goal.returns-clause-unread
returns-clause-unread c = λ near. c.forget_range.ensures.unread c.args.cluster c.range_around-first.ensures.from (c.range_around-first.ensures.to near)

pub returns-clause-gone : goal.returns-clause-gone
returns-clause-gone c = λ near. c.forget_range.ensures.gone c.args.cluster c.range_around-first.ensures.from (c.range_around-first.ensures.to near)

use Rattle.std.proofs.Common.{◌++◌, sym, ap, ◌∙◌}
use Rattle.qcow2_alloc.proofs.FreedLists.{listed_as_well}
use Rattle.qcow2_alloc.proofs.allocation.Allocator.free_kind.Goals as goal

pub returns-clause-frees : goal.returns-clause-frees
returns-clause-frees g c =
    listed_as_well c.take-taken.new.self c.hand_back.new.list (ap (λ l. l ++ c.take-taken.result) c.take-taken.ensures.emptied ∙ c.take-taken.ensures.taken) (sym c.hand_back.ensures) c.free_taken-done.ensures.frees

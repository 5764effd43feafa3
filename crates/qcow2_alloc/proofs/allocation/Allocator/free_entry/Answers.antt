use Rattle.std.proofs.Common.{◌++◌, ◌∷◌, [], refl, sym, ap, ◌∙◌}
use Rattle.qcow2_alloc.proofs.FreedLists.{listed_as_well, listed_done}
use Rattle.qcow2_alloc.proofs.allocation.Allocator.free_entry.Goals as goal

pub returns-in-Ok-clause-frees : goal.returns-in-Ok-clause-frees
returns-in-Ok-clause-frees g c =
    listed_as_well c.args.file.now.free_list c.free_run.new.file.free_list refl (sym c.free_run.ensures.list) (listed_done c.free_run.new.run c.free_run.ensures.kind c.in-Ok.ensures.all c.in-Ok.ensures.frees)

pub returns-in-Err-clause-frees : goal.returns-in-Err-clause-frees
returns-in-Err-clause-frees g c =
    listed_as_well c.args.file.now.free_list c.hand_back.new.list refl (sym (c.hand_back.ensures ∙ ap (λ l. l ++ c.free_run.new.run ∷ []) c.free_run.ensures.list)) c.in-Err.ensures.frees

use Rattle.std.proofs.Common.{◌≡◌, ◌++◌, length, Ok}
use Rattle.qcow2_alloc.proofs.Common.{but, FreesListed}
use Rattle.qcow2_alloc.proofs.allocation.Allocator.free_taken.Given as goal

-- what is listed, and what is taken and not looked at yet, is pending
abbrev pub invariant-freeing : goal.invariant-freeing
invariant-freeing g l = record {
  frees : FreesListed g.S.Storage.view l.fn.kind l.fn.self l.fn.file (l.fn.file.free_list ++ l.fn.taken) l.self l.file (l.file.free_list ++ l.taken) (Ok tt);
  left : l.file.free_list ++ but l.fn.kind l.taken ≡ l.fn.file.free_list ++ but l.fn.kind l.fn.taken;
}

abbrev pub decreases-freeing : goal.decreases-freeing
decreases-freeing g l = length l.taken

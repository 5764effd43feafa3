use Rattle.std.proofs.Common.{◌≡◌, ◌++◌, ◌∷◌, [], Ok}
use Rattle.qcow2_alloc.proofs.Common.{FreesListed}
use Rattle.qcow2_alloc.proofs.allocation.Allocator.free_run.Given as goal

-- what the run says is still to be freed
abbrev pub invariant-freeing : goal.invariant-freeing
invariant-freeing g l = record {
  frees : FreesListed g.S.Storage.view l.fn.run.kind l.fn.self l.fn.file (l.fn.file.free_list ++ l.fn.run ∷ []) l.self l.file (l.fn.file.free_list ++ l.run ∷ []) (Ok tt);
  list : l.file.free_list ≡ l.fn.file.free_list;
  kind : l.run.kind ≡ l.fn.run.kind;
}

abbrev pub decreases-freeing : goal.decreases-freeing
decreases-freeing g l = l.run.count

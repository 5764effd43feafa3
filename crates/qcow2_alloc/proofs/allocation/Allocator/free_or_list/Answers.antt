use Rattle.std.proofs.Common.{◌≡◌, ◌++◌, ◌∷◌, [], sym, subst, rules, refl}
use Rattle.qcow2_alloc.proofs.Common.{ClusterKind, FreesListed}
use Rattle.qcow2_alloc.proofs.FreedLists.{listed_as_well, listed_stay}
use Rattle.qcow2_alloc.proofs.allocation.Allocator.free_or_list.Goals as goal

pub returns-then-eq-clause-frees : goal.returns-then-eq-clause-frees
returns-then-eq-clause-frees g c =
    let same : c.args.pending.kind ≡ c.args.kind = search rules in
    subst (λ (x : ClusterKind). FreesListed g.S.Storage.view x c.args.self.now c.args.file.now (c.args.file.now.free_list ++ c.args.pending ∷ []) c.free_entry.new.self c.free_entry.new.file c.free_entry.new.file.free_list c.free_entry.result) same c.free_entry.ensures.frees

pub returns-clause-frees : goal.returns-clause-frees
returns-clause-frees g c = listed_as_well c.args.file.now.free_list c.hand_back.new.list refl (sym c.hand_back.ensures) listed_stay

use Rattle.std.proofs.Common.{◌++◌, ◌∷◌, [], refl, sym, ap, ◌∙◌, append_assoc}
use Rattle.qcow2_alloc.proofs.Common.{but, FreesListed}
use Rattle.qcow2_alloc.proofs.Lemmas.{handed_on, but_first, listed_as_well, listed_first, listed_stay, listed_then}
use Rattle.qcow2_alloc.proofs.allocation.Allocator.free_taken.Goals as goal

pub freeing-init : goal.freeing-init
freeing-init g c = record { frees = listed_stay; left = refl }

pub freeing-preserved : goal.freeing-preserved
freeing-preserved g c = record {
  frees = listed_then c.freeing.invariant.frees (listed_first c.in-Some.ensures.some c.in_ok-free_or_list.ensures.frees);
  left =
      ap (λ l. l ++ but c.args.kind c.next_pending.new.self) c.in_ok-free_or_list.ensures.left
      ∙ append_assoc c.freeing.file.free_list (but c.args.kind (c.in-Some.pending ∷ [])) (but c.args.kind c.next_pending.new.self)
      ∙ ap (λ l. c.freeing.file.free_list ++ l) (but_first c.args.kind c.in-Some.pending c.next_pending.new.self ∙ ap (but c.args.kind) (sym c.in-Some.ensures.some))
      ∙ c.freeing.invariant.left;
}

pub returns-clause-frees : goal.returns-clause-frees
returns-clause-frees g c =
    let none = c.in_default.ensures.none refl in
    listed_as_well c.args.file.now.free_list c.freeing.file.free_list refl (ap (λ l. c.freeing.file.free_list ++ l) (none.0 ∙ sym none.1)) c.freeing.invariant.frees

pub returns-in_err-free_or_list-clause-frees : goal.returns-in_err-free_or_list-clause-frees
returns-in_err-free_or_list-clause-frees g c =
    handed_on (FreesListed g.S.Storage.view c.args.kind c.args.self.now c.args.file.now (c.args.file.now.free_list ++ c.args.taken.now) c.free_or_list.new.self c.free_or_list.new.file (c.free_or_list.new.file.free_list ++ c.next_pending.new.self))
    c.from_residual.result c.in_err-free_or_list.field-0.0 c.from_residual.ensures (listed_then c.freeing.invariant.frees (listed_first c.in-Some.ensures.some c.in_err-free_or_list.ensures.frees))

use Rattle.std.proofs.Common.{◌∷◌, ◌++◌, ◌<◌, refl, subst, [], ◌∙◌, Ok, Err, arith}
use Rattle.qcow2_alloc.proofs.Common.{ClusterKind, FreesListed}
use Rattle.qcow2_alloc.proofs.Lemmas.{handed_on, listed_stay, listed_then, run_lowered, run_stays}
use Rattle.qcow2_alloc.proofs.allocation.Allocator.free_run.Goals as goal

pub freeing-init : goal.freeing-init
freeing-init g c = record { frees = listed_stay; list = refl; kind = refl }

pub freeing-preserved : goal.freeing-preserved
freeing-preserved g c =
    let i = c.freeing.invariant in
    let low = c.decrement_or_leak.ensures in
    let l = c.args.file.now.free_list in
    let at = c.value-in-freeing.ensures ∙ c.cluster.ensures in
    let some : 0 < c.freeing.run.count = omega (arith, c.freeing-test.true, c.value.ensures, c.count.ensures) in
    record {
      frees = listed_then i.frees
          (subst (λ (k : ClusterKind). FreesListed g.S.Storage.view k c.freeing.self c.freeing.file (l ++ c.freeing.run ∷ []) c.decrement_or_leak.new.self c.decrement_or_leak.new.file (l ++ c.drop_first.new.self ∷ []) (Ok tt)) i.kind
          (run_lowered l c.freeing.run some at low.step low.reftable low.grows c.drop_first.new.self c.in_ok-decrement_or_leak.ensures.fails c.in_ok-decrement_or_leak.ensures.sound c.drop_first.ensures.first c.drop_first.ensures.count c.drop_first.ensures.kind (λ u. (low.unaligned u).1) c.in_ok-decrement_or_leak.ensures.or_leaks));
      list = low.step.list ∙ i.list;
      kind = c.drop_first.ensures.kind ∙ i.kind;
    }

pub returns-in_err-decrement_or_leak-clause-frees : goal.returns-in_err-decrement_or_leak-clause-frees
returns-in_err-decrement_or_leak-clause-frees g c =
    let i = c.freeing.invariant in
    let low = c.decrement_or_leak.ensures in
    let l = c.args.file.now.free_list in
    let at = c.value-in-freeing.ensures ∙ c.cluster.ensures in
    let some : 0 < c.freeing.run.count = omega (arith, c.freeing-test.true, c.value.ensures, c.count.ensures) in
    handed_on (FreesListed g.S.Storage.view c.args.run.now.kind c.args.self.now c.args.file.now (l ++ c.args.run.now ∷ []) c.decrement_or_leak.new.self c.decrement_or_leak.new.file (l ++ c.freeing.run ∷ []))
    c.from_residual.result c.in_err-decrement_or_leak.field-0.0 c.from_residual.ensures (listed_then i.frees
    (subst (λ (k : ClusterKind). FreesListed g.S.Storage.view k c.freeing.self c.freeing.file (l ++ c.freeing.run ∷ []) c.decrement_or_leak.new.self c.decrement_or_leak.new.file (l ++ c.freeing.run ∷ []) (Err c.in_err-decrement_or_leak.field-0.0)) i.kind
    (run_stays l c.freeing.run some at low.step low.reftable low.grows c.in_err-decrement_or_leak.ensures.fails c.in_err-decrement_or_leak.ensures.sound c.in_err-decrement_or_leak.ensures.or_leaks)))

pub returns-in_err-decrement_or_leak-clause-list : goal.returns-in_err-decrement_or_leak-clause-list
returns-in_err-decrement_or_leak-clause-list g c = c.decrement_or_leak.ensures.step.list ∙ c.freeing.invariant.list

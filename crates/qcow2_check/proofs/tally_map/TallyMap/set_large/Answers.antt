use Rattle.qcow2_check.proofs.Common.{ℕ, List, refl, ap, sym, arith, get_or_past, get_or-set_same, get_or-set_other, err_from_is_err_and, lookup, is_at, nat_cmp, Tally, blank}
use Rattle.qcow2_check.proofs.Rising.{at_other}
use Rattle.qcow2_check.proofs.TallyMaps.{tally-same, tally_put}
use Rattle.qcow2_check.proofs.tally_map.TallyMap.set_large.Goals as goal

pub returns-in_err-insert-clause-others : goal.returns-in_err-insert-clause-others
returns-in_err-insert-clause-others c q other =
    tally-same _ _ q refl (ap (λ (es : List (ℕ × Tally)). lookup (is_at (nat_cmp q)) es) c.in_err-insert.ensures.err)

pub returns-in_err-insert-clause-err : goal.returns-in_err-insert-clause-err
returns-in_err-insert-clause-err c =
    let p = err_from_is_err_and c.from_residual.result c.from_residual.ensures.1 in
    rw (p.1) (tally-same _ _ c.args.cluster refl (ap (λ (es : List (ℕ × Tally)). lookup (is_at (nat_cmp c.args.cluster)) es) c.in_err-insert.ensures.err))

pub returns-then-at-len-clause-sets : goal.returns-then-at-len-clause-sets
returns-then-at-len-clause-sets c =
    let old = c.args.self.now.small in
    tally_put _ c.args.cluster c.args.tally (get_or-set_same old.items c.args.cluster blank blank (omega (arith, old.ok.0))) c.in_ok-insert.ensures.updates.1

pub returns-then-at-len-clause-others : goal.returns-then-at-len-clause-others
returns-then-at-len-clause-others c q other =
    tally-same _ _ q (get_or-set_other c.args.self.now.small.items c.args.cluster q blank blank other)
    (c.in_ok-insert.ensures.updates.2 q (at_other c.args.cluster q (λ same. other (sym same))))

pub returns-else-at-len-clause-sets : goal.returns-else-at-len-clause-sets
returns-else-at-len-clause-sets c =
    let old = c.args.self.now.small in
    tally_put _ c.args.cluster c.args.tally (get_or_past old.items c.args.cluster blank (omega (arith, old.ok.0))) c.in_ok-insert.ensures.updates.1

pub returns-else-at-len-clause-others : goal.returns-else-at-len-clause-others
returns-else-at-len-clause-others c q other =
    tally-same _ _ q refl (c.in_ok-insert.ensures.updates.2 q (at_other c.args.cluster q (λ same. other (sym same))))

use Rattle.qcow2_check.proofs.Common.{sym, ap, ◌∙◌, arith, leak_of_count}
use Rattle.qcow2_check.proofs.LeakLists.{leaks-uncounted, no_leaks, leaked_here, not_leaked_here}
use Rattle.qcow2_check.proofs.leaks.next_leak.Goals as goal

pub returns-in-Some : goal.returns-in-Some
returns-in-Some c =
    let m = c.args.names.now in
    let counts = c.args.counts.now in
    let next = c.next_counted-cluster in
    let here = leaked_here m counts next.result.0 c.in-Some.leak (omega (arith, next.ensures.low)) (ap (leak_of_count m next.result.0) (sym next.ensures.count) ∙ sym c.leak_of.ensures ∙ c.in-Some.is) in (
      omega (arith, here.0, next.ensures.low),
      sym c.loop-at.invariant ∙ leaks-uncounted m counts c.loop-at.at next.result.0 next.ensures.later (omega (arith, next.ensures.low)) next.ensures.zeros ∙ here.1,
    )

pub loop-at-preserved : goal.loop-at-preserved
loop-at-preserved c =
    let m = c.args.names.now in
    let counts = c.args.counts.now in
    let next = c.next_counted-cluster in
    sym (leaks-uncounted m counts c.loop-at.at next.result.0 next.ensures.later (omega (arith, next.ensures.low)) next.ensures.zeros
    ∙ not_leaked_here m counts next.result.0 (omega (arith, next.ensures.low)) (ap (leak_of_count m next.result.0) (sym next.ensures.count) ∙ sym c.leak_of.ensures ∙ c.in_default.is))
    ∙ c.loop-at.invariant

pub returns : goal.returns
returns c = sym c.loop-at.invariant ∙ no_leaks c.args.names.now c.args.counts.now c.loop-at.at (λ q ge. c.end-end.ensures.zeros q (omega arith))

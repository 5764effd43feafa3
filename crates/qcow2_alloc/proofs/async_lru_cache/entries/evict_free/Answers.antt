use Rattle.qcow2_alloc.proofs.Common.{sym, ◌∙◌, arith}
use Rattle.qcow2_alloc.proofs.CachedEntries.Lists.{is_pinned-true, is_pinned-false}
use Rattle.qcow2_alloc.proofs.CachedEntries.Turns.{lookup-first, kept_turn, gone_turn}
use Rattle.qcow2_alloc.proofs.async_lru_cache.entries.evict_free.Goals as goal
use Rattle.qcow2_alloc.proofs.async_lru_cache.entries.evict_free.Goals.{then-slot-gt0, else-slot-gt0}

pub loop-turn-preserved : goal.loop-turn-preserved
loop-turn-preserved g c =
    let laws = g.met.B.Key.Eq.laws in
    let l = c.loop-turn in
    let k = c.unwrap.result.0.now in
    let s = c.unwrap.result.1.now in
    let first = sym (rw c.unwrap.ensures at c.peek_mru.ensures) in
    elim c.if-slot-gt0.branch [
      | then-slot-gt0 w ↦
          let pin = is_pinned-true s (λ z. omega (arith, w.if-slot-gt0.true)) in
          let t = kept_turn _ _ laws l.entries c.if-slot-gt0.entries l._turn l.invariant.around (omega (arith, c.loop-turn-test.true, c.len-turn-end.ensures.len)) k s first (λ free. let no = rw pin at free in cc) pin (w.entries-is ∙ w.demote.ensures.entries) in
          record { around = t.around; cap = t.cap ∙ l.invariant.cap }
      | else-slot-gt0 w ↦
          let free = is_pinned-false s (omega (arith, w.if-slot-gt0.false)) in
          let t = gone_turn _ _ laws l.entries c.if-slot-gt0.entries l._turn l.invariant.around (omega (arith, c.loop-turn-test.true, c.len-turn-end.ensures.len)) k s first (λ _. rw (lookup-first laws l.entries.entries k s first) at w.evict_entry.ensures.evicted) free (w.entries-is ∙ w.evict_entry.ensures.entries) in
          record { around = t.around; cap = t.cap ∙ l.invariant.cap }
    ]

use Rattle.qcow2_alloc.proofs.Common.{refl, sym, ap, ◌∙◌, arith, option_or, result_err}
use Rattle.qcow2_alloc.proofs.CachedEntries.Turns.{has_first, flush_begins, flush_turn, flushed_around}
use Rattle.qcow2_alloc.proofs.async_lru_cache.entries.flush_all.Goals as goal

pub loop-turn-init : goal.loop-turn-init
loop-turn-init g c = record { flushing = flush_begins _ _ _; cap = refl; keeps = g.met.B.AsyncLruCacheBackend.keeps_same _ }

pub unwrap-requires : goal.unwrap-requires
unwrap-requires g c = has_first _ _ _ c.peek_mru.result c.loop-turn.entries.entries c.loop-turn._turn c.loop-turn.invariant.flushing (omega (arith, c.loop-turn-test.true, c.len-turn-end.ensures.len)) c.peek_mru.ensures

pub loop-turn-preserved : goal.loop-turn-preserved
loop-turn-preserved g c =
    let l = c.loop-turn in
    let t = flush_turn _ _ _ g.met.B.Key.Eq.laws l.first l.store l.entries c.flush_entry.new.entries c.demote.new.self l._turn l.invariant.flushing (omega (arith, c.loop-turn-test.true, c.len-turn-end.ensures.len))
    c.unwrap.result.0.now c.unwrap.result.1.now (sym (rw c.unwrap.ensures at c.peek_mru.ensures)) (result_err c.flush_entry.result) c.flush_entry.new.store c.flush_entry.ensures.flushed
    c.demote.ensures.entries c.or-first.result (c.or-first.ensures ∙ ap (option_or l.first) c.err-failure.ensures.value) in
    record { flushing = t.flushing; cap = t.cap ∙ l.invariant.cap; keeps = g.met.B.AsyncLruCacheBackend.keeps_then _ _ _ l.invariant.keeps c.flush_entry.ensures.keeps }

pub returns-clause-flushed : goal.returns-clause-flushed
returns-clause-flushed g c = flushed_around _ _ _ c.loop-turn.first c.loop-turn.store c.loop-turn.entries.entries c.loop-turn._turn c.loop-turn.invariant.flushing (omega (arith, c.loop-turn-test.false, c.len-turn-end.ensures.len))

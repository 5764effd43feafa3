use Rattle.qcow2_alloc.proofs.Common.{sym, ◌∙◌, arith}
use Rattle.qcow2_alloc.proofs.Lemmas.{flushed_at, failed_at, flushed_entry_keeps, failed_entry_keeps}
use Rattle.qcow2_alloc.proofs.async_lru_cache.AsyncLruCache.flush_key.Goals as goal

pub invariant_of-self : goal.invariant_of-self
invariant_of-self g c =
    let f = failed_at (g.B.AsyncLruCacheBackend.steps c.self.inside.backend) (g.B.Key.PartialEq.eq c.args.key) c.args.key c.args.store.now c.self.inside.entries c.flush_entry.new.entries c.flush_entry.new.store c.in-Err.e c.in-Err.ensures.flushed (sym c.contains.ensures ∙ c.if-not-contains.false) in
    (omega (arith, f.fits, c.self.invariant.0), f.cap ∙ c.self.invariant.1)

pub returns-in-Err-clause-there : goal.returns-in-Err-clause-there
returns-in-Err-clause-there g c =
    let f = failed_at (g.B.AsyncLruCacheBackend.steps c.self.inside.backend) (g.B.Key.PartialEq.eq c.args.key) c.args.key c.args.store.now c.self.inside.entries c.flush_entry.new.entries c.flush_entry.new.store c.in-Err.e c.in-Err.ensures.flushed (sym c.contains.ensures ∙ c.if-not-contains.false) in
    rw (← c.self.view_is) f.answer

pub invariant_of-self-2 : goal.invariant_of-self-2
invariant_of-self-2 g c =
    let f = flushed_at (g.B.AsyncLruCacheBackend.steps c.self.inside.backend) (g.B.Key.PartialEq.eq c.args.key) c.args.key c.args.store.now c.self.inside.entries c.flush_entry.new.entries c.flush_entry.new.store c.in_default.ensures.flushed (sym c.contains.ensures ∙ c.if-not-contains.false) in
    (omega (arith, f.fits, c.self.invariant.0), f.cap ∙ c.self.invariant.1)

pub returns-clause-there : goal.returns-clause-there
returns-clause-there g c =
    let f = flushed_at (g.B.AsyncLruCacheBackend.steps c.self.inside.backend) (g.B.Key.PartialEq.eq c.args.key) c.args.key c.args.store.now c.self.inside.entries c.flush_entry.new.entries c.flush_entry.new.store c.in_default.ensures.flushed (sym c.contains.ensures ∙ c.if-not-contains.false) in
    rw (← c.self.view_is) f.answer

pub returns-in-Err-clause-known : goal.returns-in-Err-clause-known
returns-in-Err-clause-known g c =
    rw (← c.self.view_is) (failed_entry_keeps g.met.B.Key.Eq.laws (g.met.B.AsyncLruCacheBackend.lawful c.self.inside.backend) c.args.store.now c.flush_entry.new.store c.self.inside.entries c.flush_entry.new.entries c.args.key c.in-Err.e c.in-Err.ensures.flushed (sym c.contains.ensures ∙ c.if-not-contains.false))

pub returns-clause-known : goal.returns-clause-known
returns-clause-known g c =
    rw (← c.self.view_is) (flushed_entry_keeps g.met.B.Key.Eq.laws (g.met.B.AsyncLruCacheBackend.lawful c.self.inside.backend) c.args.store.now c.flush_entry.new.store c.self.inside.entries c.flush_entry.new.entries c.args.key c.in_default.ensures.flushed (sym c.contains.ensures ∙ c.if-not-contains.false))

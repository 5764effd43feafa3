use Rattle.std.proofs.Common.{◌≡◌, None, refl, sym, ap, ◌∙◌, arith}
use Rattle.qcow2_alloc.proofs.Common.{lookup, LruCache, Slot}
use Rattle.qcow2_alloc.proofs.CachedEntries.Evictions.{front-promoted, hit_eviction, gets_eviction}
use Rattle.qcow2_alloc.proofs.Lemmas.{hit_keeps, gets_keeps, length-promoted, none_of, promoted_none, pins_promoted, gets_keep_pins, stays_promoted, gets_stay}
use Rattle.qcow2_alloc.proofs.async_lru_cache.AsyncLruCache.get_or_insert.Goals as goal

pub invariant_of-self : goal.invariant_of-self
invariant_of-self g c =
    let l = length-promoted (g.B.Key.PartialEq.eq c.args.key) c.self.inside.entries.entries in
    rw c.promote.ensures.entries (omega (arith, l, c.self.invariant.0), c.self.invariant.1)

pub returns-then-promote-clause-front : goal.returns-then-promote-clause-front
returns-then-promote-clause-front g c =
    rw c.promote.ensures.entries (λ _. front-promoted (g.B.Key.PartialEq.eq c.args.key) c.self.inside.entries.entries (sym c.promote.ensures.value ∙ c.if-promote.true))

pub returns-then-promote-clause-eviction : goal.returns-then-promote-clause-eviction
returns-then-promote-clause-eviction g c =
    rw (← c.self.view_is, c.promote.ensures.entries) (hit_eviction (g.B.AsyncLruCacheBackend.steps c.self.inside.backend) g.met.B.Key.Eq.laws c.args.store.now c.self.inside.entries.entries c.args.key)

pub returns-then-promote-clause-known : goal.returns-then-promote-clause-known
returns-then-promote-clause-known g c =
    rw (← c.self.view_is, c.promote.ensures.entries) (hit_keeps g.met.B.Key.Eq.laws (g.met.B.AsyncLruCacheBackend.lawful c.self.inside.backend) c.args.store.now c.self.inside.entries.entries c.args.key)

pub load_new-requires-clause-fits : goal.load_new-requires-clause-fits
load_new-requires-clause-fits g c =
    let l = length-promoted (g.B.Key.PartialEq.eq c.args.key) c.self.inside.entries.entries in
    rw c.promote.ensures.entries (omega (arith, l, c.self.invariant.0))

pub load_new-requires-clause-missing : goal.load_new-requires-clause-missing
load_new-requires-clause-missing g c =
    let test = g.B.Key.PartialEq.eq c.args.key in
    let es = c.self.inside.entries.entries in
    let m : lookup test es ≡ None = none_of (sym (c.if-promote.false) ∙ c.promote.ensures.value) in
    rw c.promote.ensures.entries (ap (lookup test) (promoted_none test es m) ∙ m)

pub returns-clause-miss : goal.returns-clause-miss
returns-clause-miss g c =
    let test = g.B.Key.PartialEq.eq c.args.key in
    let es = c.self.inside.entries.entries in
    let m : lookup test es ≡ None = none_of (sym (c.if-promote.false) ∙ c.promote.ensures.value) in
    let same : c.promote.new.self.entries ≡ es = ap (λ (x : LruCache g.row.B-Key.Denot (Slot g.row.B-Value.Denot)). x.entries) c.promote.ensures.entries ∙ promoted_none test es m in
    let h = rw same at c.load_new.ensures.loads in
    rw (← c.self.view_is) (λ _. h)

pub returns-clause-eviction : goal.returns-clause-eviction
returns-clause-eviction g c =
    let test = g.B.Key.PartialEq.eq c.args.key in
    let es = c.self.inside.entries.entries in
    let m : lookup test es ≡ None = none_of (sym (c.if-promote.false) ∙ c.promote.ensures.value) in
    let same : c.promote.new.self.entries ≡ es = ap (λ (x : LruCache g.row.B-Key.Denot (Slot g.row.B-Value.Denot)). x.entries) c.promote.ensures.entries ∙ promoted_none test es m in
    let h = rw same at c.load_new.ensures.loads in
    rw (← c.self.view_is) (gets_eviction (g.B.AsyncLruCacheBackend.steps c.self.inside.backend) g.met.B.Key.Eq.laws c.args.store.now c.self.inside.size c.args.may_flush c.args.key c.load_new.new.store es c.load_new.new.entries.entries c.load_new.result h)

pub returns-clause-known : goal.returns-clause-known
returns-clause-known g c =
    let test = g.B.Key.PartialEq.eq c.args.key in
    let es = c.self.inside.entries.entries in
    let m : lookup test es ≡ None = none_of (sym (c.if-promote.false) ∙ c.promote.ensures.value) in
    let same : c.promote.new.self.entries ≡ es = ap (λ (x : LruCache g.row.B-Key.Denot (Slot g.row.B-Value.Denot)). x.entries) c.promote.ensures.entries ∙ promoted_none test es m in
    let h = rw same at c.load_new.ensures.loads in
    let d = rw same at c.load_new.ensures.distinct in
    rw (← c.self.view_is) (gets_keeps g.met.B.Key.Eq.laws (g.met.B.AsyncLruCacheBackend.lawful c.self.inside.backend) c.self.inside.size c.args.may_flush c.args.key c.args.store.now c.load_new.new.store es c.load_new.new.entries.entries c.load_new.result d m h)

pub returns-then-promote-clause-kept : goal.returns-then-promote-clause-kept
returns-then-promote-clause-kept g c =
    let eq = g.B.Key.PartialEq.eq in
    let es = c.self.inside.entries.entries in
    rw (← c.self.view_is, c.promote.ensures.entries) (record {
      distinct = c.len-count.ensures.valid.0;
      others = refl;
      stays = stays_promoted eq g.met.B.Key.Eq.laws c.args.key es;
      pins = pins_promoted eq g.met.B.Key.Eq.laws es c.args.key;
    })

pub returns-clause-kept : goal.returns-clause-kept
returns-clause-kept g c =
    let eq = g.B.Key.PartialEq.eq in
    let test = eq c.args.key in
    let es = c.self.inside.entries.entries in
    let m : lookup test es ≡ None = none_of (sym (c.if-promote.false) ∙ c.promote.ensures.value) in
    let same : c.promote.new.self.entries ≡ es = ap (λ (x : LruCache g.row.B-Key.Denot (Slot g.row.B-Value.Denot)). x.entries) c.promote.ensures.entries ∙ promoted_none test es m in
    let h = rw same at c.load_new.ensures.loads in
    let d = rw same at c.load_new.ensures.distinct in
    let steps = g.B.AsyncLruCacheBackend.steps c.self.inside.backend in
    rw (← c.self.view_is) (record {
      distinct = d;
      others = refl;
      stays = gets_stay eq g.met.B.Key.Eq.laws steps c.self.inside.size c.args.may_flush c.args.store.now es c.args.key c.load_new.result c.load_new.new.store c.load_new.new.entries.entries d h;
      pins = gets_keep_pins eq g.met.B.Key.Eq.laws steps c.self.inside.size c.args.may_flush c.args.store.now es c.args.key c.load_new.result c.load_new.new.store c.load_new.new.entries.entries d m h;
    })

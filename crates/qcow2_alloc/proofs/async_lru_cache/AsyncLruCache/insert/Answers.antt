use Rattle.std.proofs.Common.{◌≡◌, None, not, refl, sym, ap, ◌∙◌}
use Rattle.qcow2_alloc.proofs.Common.{lookup}
use Rattle.qcow2_alloc.proofs.Lemmas.{inserted, replaced, none_of, entry_none, pins_same, inserts_keep_pins, replaces_keep_pins, stays_same, inserts_stay, replaces_stay}
use Rattle.qcow2_alloc.proofs.async_lru_cache.AsyncLruCache.insert.Goals as goal

pub returns-clause-there : goal.returns-clause-there
returns-clause-there g c =
    let test = g.B.Key.PartialEq.eq c.args.key in
    let es = c.self.inside.entries.entries in
    let m : lookup test es ≡ None = none_of (sym (c.if-contains.false) ∙ c.contains.ensures) in
    rw (← c.self.view_is) (rw (entry_none test es m) tt)

pub returns-then-contains-clause-laid : goal.returns-then-contains-clause-laid
returns-then-contains-clause-laid g c =
    let h = replaced g.met.B.Key.Eq.laws (g.met.B.AsyncLruCacheBackend.lawful c.self.inside.backend) c.args.may_flush c.args.key c.args.value.now c.args.store.now c.replace_entry.new.store c.self.inside.entries.entries c.replace_entry.new.entries.entries c.replace_entry.new.value c.replace_entry.result (sym c.contains.ensures ∙ c.if-contains.true) (c.is_none.ensures ∙ ap not c.if-is_none.false) c.replace_entry.ensures.replaces in
    rw (← c.self.view_is) h.laid

pub returns-then-contains-clause-known : goal.returns-then-contains-clause-known
returns-then-contains-clause-known g c =
    let h = replaced g.met.B.Key.Eq.laws (g.met.B.AsyncLruCacheBackend.lawful c.self.inside.backend) c.args.may_flush c.args.key c.args.value.now c.args.store.now c.replace_entry.new.store c.self.inside.entries.entries c.replace_entry.new.entries.entries c.replace_entry.new.value c.replace_entry.result (sym c.contains.ensures ∙ c.if-contains.true) (c.is_none.ensures ∙ ap not c.if-is_none.false) c.replace_entry.ensures.replaces in
    rw (← c.self.view_is) h.known

pub returns-clause-laid : goal.returns-clause-laid
returns-clause-laid g c =
    let m = none_of (sym (c.if-contains.false) ∙ c.contains.ensures) in
    let h = inserted g.met.B.Key.Eq.laws (g.met.B.AsyncLruCacheBackend.lawful c.self.inside.backend) c.self.inside.size c.args.may_flush c.args.key c.args.value.now c.args.store.now c.insert_new.new.store c.self.inside.entries.entries c.insert_new.new.entries.entries c.insert_new.new.value c.insert_new.result c.insert_new.ensures.distinct m (c.is_none.ensures ∙ ap not c.if-is_none.false) c.insert_new.ensures.inserts in
    rw (← c.self.view_is) h.laid

pub returns-clause-known : goal.returns-clause-known
returns-clause-known g c =
    let m = none_of (sym (c.if-contains.false) ∙ c.contains.ensures) in
    let h = inserted g.met.B.Key.Eq.laws (g.met.B.AsyncLruCacheBackend.lawful c.self.inside.backend) c.self.inside.size c.args.may_flush c.args.key c.args.value.now c.args.store.now c.insert_new.new.store c.self.inside.entries.entries c.insert_new.new.entries.entries c.insert_new.new.value c.insert_new.result c.insert_new.ensures.distinct m (c.is_none.ensures ∙ ap not c.if-is_none.false) c.insert_new.ensures.inserts in
    rw (← c.self.view_is) h.known

pub returns-then-is_none-clause-kept : goal.returns-then-is_none-clause-kept
returns-then-is_none-clause-kept g c =
    let eq = g.B.Key.PartialEq.eq in
    rw (← c.self.view_is) (record {
      distinct = c.len-count.ensures.valid.0;
      others = refl;
      stays = stays_same eq c.args.key _ _ refl;
      pins = pins_same eq _ _ refl;
    })

pub returns-then-contains-clause-kept : goal.returns-then-contains-clause-kept
returns-then-contains-clause-kept g c =
    let eq = g.B.Key.PartialEq.eq in
    let es = c.self.inside.entries.entries in
    let steps = g.B.AsyncLruCacheBackend.steps c.self.inside.backend in
    let there = sym c.contains.ensures ∙ c.if-contains.true in
    let given = c.is_none.ensures ∙ ap not c.if-is_none.false in
    rw (← c.self.view_is) (record {
      distinct = c.len-count.ensures.valid.0;
      others = refl;
      stays = replaces_stay eq g.met.B.Key.Eq.laws steps c.args.may_flush c.args.store.now es c.args.key c.replace_entry.new.store c.replace_entry.new.entries.entries c.replace_entry.new.value c.args.value.now c.replace_entry.result there given c.replace_entry.ensures.replaces;
      pins = replaces_keep_pins eq g.met.B.Key.Eq.laws steps c.args.may_flush c.args.store.now es c.args.key c.replace_entry.new.store c.replace_entry.new.entries.entries c.replace_entry.new.value c.args.value.now c.replace_entry.result there given c.replace_entry.ensures.replaces;
    })

pub returns-clause-kept : goal.returns-clause-kept
returns-clause-kept g c =
    let eq = g.B.Key.PartialEq.eq in
    let es = c.self.inside.entries.entries in
    let steps = g.B.AsyncLruCacheBackend.steps c.self.inside.backend in
    let m = none_of (sym (c.if-contains.false) ∙ c.contains.ensures) in
    let given = c.is_none.ensures ∙ ap not c.if-is_none.false in
    let d = c.insert_new.ensures.distinct in
    rw (← c.self.view_is) (record {
      distinct = d;
      others = refl;
      stays = inserts_stay eq g.met.B.Key.Eq.laws steps c.self.inside.size c.args.may_flush c.args.store.now es c.args.key c.args.value.now c.insert_new.result c.insert_new.new.store c.insert_new.new.entries.entries c.insert_new.new.value d given c.insert_new.ensures.inserts;
      pins = inserts_keep_pins eq g.met.B.Key.Eq.laws steps c.self.inside.size c.args.may_flush c.args.store.now es c.args.key c.args.value.now c.insert_new.result c.insert_new.new.store c.insert_new.new.entries.entries c.insert_new.new.value d m given c.insert_new.ensures.inserts;
    })

use Rattle.std.proofs.Common.{◌≡◌, ◌∷◌, Some, None, refl, sym, ap, ◌∙◌}
use Rattle.qcow2_alloc.proofs.Common.{remove_entry, length-set_value, same_Some, slot_of}
use Rattle.qcow2_alloc.proofs.CachedEntries.Putting.{is_promoted, flushed_in_front, some_of, is_some_mapped}
use Rattle.qcow2_alloc.proofs.async_lru_cache.entries.replace_entry.Goals as goal

pub returns-in-Err : goal.returns-in-Err
returns-in-Err g c =
    let test = g.B.Key.PartialEq.eq c.args.key in
    let b = is_promoted test c.args.entries.now c.promote.new.self c.requires.found c.promote.ensures.entries in
    let f = flushed_in_front (g.B.AsyncLruCacheBackend.steps c.args.backend.now) test c.args.store.now c.args.entries.now c.promote.new.self c.args.key b c.flush_entry.new.store c.flush_entry.new.entries (Some c.in-Err.e) c.in-Err.ensures.flushed in
    let v = some_of c.args.value.now c.requires.there in record {
      replaces = rw (b.was, v.1) (c.if-not-may_flush.false, f.step.0, f.front ∙ ap (λ d. (b.entry.0, d) ∷ remove_entry test c.args.entries.now.entries) f.step.1, refl);
      fits = f.fits;
      cap = f.cap;
      keeps = c.flush_entry.ensures.keeps;
    }

pub unwrap-slot-requires : goal.unwrap-slot-requires
unwrap-slot-requires g c =
    let test = g.B.Key.PartialEq.eq c.args.key in
    let b = is_promoted test c.args.entries.now c.promote.new.self c.requires.found c.promote.ensures.entries in
    let f = flushed_in_front (g.B.AsyncLruCacheBackend.steps c.args.backend.now) test c.args.store.now c.args.entries.now c.promote.new.self c.args.key b c.flush_entry.new.store c.flush_entry.new.entries None c.in_default.ensures.flushed in
    is_some_mapped _ c.peek_mut.result _ (c.peek_mut.ensures.value ∙ f.found)

pub returns : goal.returns
returns g c =
    let test = g.B.Key.PartialEq.eq c.args.key in
    let b = is_promoted test c.args.entries.now c.promote.new.self c.requires.found c.promote.ensures.entries in
    let f = flushed_in_front (g.B.AsyncLruCacheBackend.steps c.args.backend.now) test c.args.store.now c.args.entries.now c.promote.new.self c.args.key b c.flush_entry.new.store c.flush_entry.new.entries None c.in_default.ensures.flushed in
    let same : c.unwrap-slot.result.now ≡ f.slot = same_Some _ f.slot (rw c.unwrap-slot.ensures at c.peek_mut.ensures.value ∙ f.found) in
    let pins : c.unwrap-slot.result.now.pins ≡ b.entry.1.pins = ap (λ d. d.pins) same ∙ f.step.1 in
    let new = slot_of c.unwrap-taken.result c.unwrap-slot.result.now.pins in
    let len = length-set_value test c.flush_entry.new.entries.entries new in record {
      replaces = rw (b.was, sym c.take.ensures.value ∙ c.unwrap-taken.ensures) (
        c.if-not-may_flush.false,
        (f.slot.value, f.step.0),
        f.replaced new ∙ ap (λ n. (b.entry.0, slot_of c.unwrap-taken.result n) ∷ remove_entry test c.args.entries.now.entries) pins,
        c.take.ensures.after,
      );
      fits = len ∙ f.fits;
      cap = f.cap;
      keeps = c.flush_entry.ensures.keeps;
    }

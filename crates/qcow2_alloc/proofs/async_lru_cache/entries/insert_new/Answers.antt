use Rattle.qcow2_alloc.proofs.Common.{Ok, sym, ap, ◌∙◌, slot_of}
use Rattle.qcow2_alloc.proofs.CachedEntries.Room.{room_at, room_missing}
use Rattle.qcow2_alloc.proofs.CachedEntries.Putting.{put_new}
use Rattle.qcow2_alloc.proofs.async_lru_cache.entries.insert_new.Goals as goal

pub returns-in-Ok : goal.returns-in-Ok
returns-in-Ok g c =
    let steps = g.B.AsyncLruCacheBackend.steps c.args.backend.now in
    let eq = g.B.Key.PartialEq.eq in
    let es = c.args.entries.now.entries in
    let m = c.make_room.new.entries in
    let room = room_at steps eq c.args.size c.args.may_flush c.args.store.now es c.make_room.result c.in-Ok-true.field-0 c.make_room.new.store m.entries c.make_room.ensures.room c.in-Ok-true.is c.in-Ok-true.field-0-test in
    let gone = room_missing steps eq c.args.size c.args.may_flush c.args.key c.args.store.now es c.make_room.new.store m.entries room c.requires.missing in
    let p = put_new eq c.args.size m c.args.key (slot_of c.unwrap-taken.result 0) gone (c.make_room.ensures.space (c.in-Ok-true.is ∙ ap (λ y. Ok y) c.in-Ok-true.field-0-test)) c.ranges.size.fits (c.make_room.ensures.cap ∙ c.requires.unbounded) c.put.new.self c.in-Ok.ensures.entries in record {
      distinct = c.make_room.ensures.distinct;
      inserts = rw (sym c.take.ensures.value ∙ c.unwrap-taken.ensures) ((m.entries, room, p.entries), c.take.ensures.after);
      fits = p.fits;
      cap = ap (λ x. x.cap) c.in-Ok.ensures.entries ∙ c.make_room.ensures.cap;
      keeps = c.make_room.ensures.keeps;
    }

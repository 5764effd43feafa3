use Rattle.qcow2_alloc.proofs.Common.{length, ap, arith}
use Rattle.qcow2_alloc.proofs.CachedEntries.Room.{oldest, room_refused, room_made}
use Rattle.qcow2_alloc.proofs.async_lru_cache.entries.make_room.Goals as goal

pub returns-in-Err : goal.returns-in-Err
returns-in-Err g c =
    let o = oldest g.B.Key.PartialEq.eq c.args.entries.now.entries g.met.B.Key.Eq.laws c.len.ensures.valid.0 c.in-Some.key c.in-Some.ensures in
    let r = room_refused (g.B.AsyncLruCacheBackend.steps c.args.backend.now) g.B.Key.PartialEq.eq c.args.size c.args.may_flush c.args.store.now c.args.entries.now
    (record { full = omega (arith, c.len.ensures.len, c.if-len-size.false); may = c.if-not-may_flush.false })
    c.in-Some.key o c.flush_entry.new.store c.flush_entry.new.entries c.in-Err.failure c.in-Err.ensures.flushed in record {
      distinct = c.len.ensures.valid.0;
      room = r.room;
      space = λ h. cc;
      fits = let len = ap (λ m. length m.entries) r.same in omega (arith, len, c.requires);
      cap = ap (λ m. m.cap) r.same;
      keeps = c.flush_entry.ensures.keeps;
    }

pub returns : goal.returns
returns g c =
    let o = oldest g.B.Key.PartialEq.eq c.args.entries.now.entries g.met.B.Key.Eq.laws c.len.ensures.valid.0 c.in-Some.key c.in-Some.ensures in
    let r = room_made (g.B.AsyncLruCacheBackend.steps c.args.backend.now) g.B.Key.PartialEq.eq c.args.size c.args.may_flush c.args.store.now c.args.entries.now
    (record { full = omega (arith, c.len.ensures.len, c.if-len-size.false); may = c.if-not-may_flush.false })
    c.in-Some.key o c.flush_entry.new.store c.flush_entry.new.entries c.requires c.in_default-flush_entry.ensures.flushed c.pop.new.self c.pop.ensures.entries in record {
      distinct = c.len.ensures.valid.0;
      room = r.room;
      space = λ _. r.space;
      fits = omega (arith, r.space);
      cap = r.cap;
      keeps = c.flush_entry.ensures.keeps;
    }

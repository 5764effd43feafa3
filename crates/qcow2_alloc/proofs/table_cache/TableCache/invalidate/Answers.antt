use Rattle.qcow2_alloc.proofs.CachedEntries.Pins.{pins_pinned}
use Rattle.qcow2_alloc.proofs.table_cache.TableCache.invalidate.Goals as goal

pub returns-then-is_empty-clause-pins : goal.returns-then-is_empty-clause-pins
returns-then-is_empty-clause-pins g c = rw c.take_free.ensures (pins_pinned g.B.Key.PartialEq.eq g.met.B.Key.Eq.laws c.args.self.now.entries c.next_out-next.ensures.distinct)

pub returns-else-is_empty-clause-pins : goal.returns-else-is_empty-clause-pins
returns-else-is_empty-clause-pins g c = rw c.take_free.ensures (pins_pinned g.B.Key.PartialEq.eq g.met.B.Key.Eq.laws c.args.self.now.entries c.next_out-next.ensures.distinct)

use Rattle.qcow2_alloc.proofs.CachedEntries.Flushing.{flushed_found}
use Rattle.qcow2_alloc.proofs.async_lru_cache.entries.flush_entry.Goals as goal

pub returns-in-Some : goal.returns-in-Some
returns-in-Some g c = record {
  flushed = rw (← c.in-Some.ensures.value) (flushed_found (g.B.AsyncLruCacheBackend.steps c.args.backend.now) (g.B.Key.PartialEq.eq c.args.key) c.args.key c.args.store.now c.args.entries.now c.flush.new.store c.in-Some.slot.now c.flush.new.value c.flush.result c.flush.ensures.ok c.flush.ensures.err c.flush.ensures.kept);
  keeps = c.flush.ensures.keeps;
}

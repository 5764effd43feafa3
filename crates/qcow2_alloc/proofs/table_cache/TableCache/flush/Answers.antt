use Rattle.qcow2_alloc.proofs.Lemmas.{all_keeps, all_keep_pins}
use Rattle.qcow2_alloc.proofs.table_cache.TableCache.flush.Goals as goal

pub returns-in-None-clause-pins : goal.returns-in-None-clause-pins
returns-in-None-clause-pins g c = all_keep_pins g.B.Key.PartialEq.eq g.met.B.Key.Eq.laws (g.B.AsyncLruCacheBackend.steps c.args.self.now.backend) c.args.store.now c.args.self.now.entries c.flush_modified.result c.flush_modified.new.store c.flush_modified.new.self.entries c.flush_modified.ensures.flushed

pub returns-in-None-clause-known : goal.returns-in-None-clause-known
returns-in-None-clause-known g c = all_keeps g.met.B.Key.Eq.laws (g.met.B.AsyncLruCacheBackend.lawful c.args.self.now.backend) c.args.store.now c.args.self.now.entries c.flush_modified.result c.flush_modified.new.store c.flush_modified.new.self.entries c.flush_modified.ensures.distinct c.flush_modified.ensures.flushed

pub returns-in-Some-clause-pins : goal.returns-in-Some-clause-pins
returns-in-Some-clause-pins g c = all_keep_pins g.B.Key.PartialEq.eq g.met.B.Key.Eq.laws (g.B.AsyncLruCacheBackend.steps c.args.self.now.backend) c.args.store.now c.args.self.now.entries c.flush_modified.result c.flush_modified.new.store c.flush_modified.new.self.entries c.flush_modified.ensures.flushed

pub returns-in-Some-clause-known : goal.returns-in-Some-clause-known
returns-in-Some-clause-known g c = all_keeps g.met.B.Key.Eq.laws (g.met.B.AsyncLruCacheBackend.lawful c.args.self.now.backend) c.args.store.now c.args.self.now.entries c.flush_modified.result c.flush_modified.new.store c.flush_modified.new.self.entries c.flush_modified.ensures.distinct c.flush_modified.ensures.flushed

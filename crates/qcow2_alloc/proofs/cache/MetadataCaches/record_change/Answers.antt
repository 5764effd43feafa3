use Rattle.qcow2_alloc.proofs.Common.{refl, true, counts_one}
use Rattle.qcow2_alloc.proofs.cache.MetadataCaches.record_change.Goals as goal

pub returns-clause-step : goal.returns-clause-step
returns-clause-step g c = record {
  marks = record {
    pins = λ _. refl;
    room = λ room. record { tables = room.tables; some = room.some; free = room.free };
    changes = counts_one c.args.self.now.is_changed true c.args.self.now.changes c.one_more-self.result c.one_more-self.ensures;
  };
  order = refl;
  header_cluster = λ bits leave. record { l2_bits = leave.l2_bits; rb_bits = leave.rb_bits; tables = leave.tables; blocks = leave.blocks };
}

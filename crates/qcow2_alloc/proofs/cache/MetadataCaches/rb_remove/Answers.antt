use Rattle.qcow2_alloc.proofs.Common.{refl}
use Rattle.qcow2_alloc.proofs.Lemmas.{removed_others, removed_marks, removed_takes, removed_clean, removed_gone, removed_behind, removed_apart_block}
use Rattle.qcow2_alloc.proofs.cache.MetadataCaches.rb_remove.Goals as goal

pub returns-clause-step : goal.returns-clause-step
returns-clause-step g c = record {
  marks = removed_marks c.args.self.now c.args.cluster c.remove.result c.remove.new.self c.remove.ensures.value c.remove.ensures.entries;
  order = refl;
  header_cluster = removed_behind c.args.self.now c.args.cluster c.remove.result c.remove.new.self c.remove.ensures.entries;
}

pub returns-clause-others : goal.returns-clause-others
returns-clause-others g c = removed_others c.args.self.now c.args.cluster c.remove.result c.remove.new.self c.remove.ensures.value c.remove.ensures.entries

pub returns-clause-removes : goal.returns-clause-removes
returns-clause-removes g c = record {
  taken = removed_takes c.args.self.now c.args.cluster c.remove.result c.remove.new.self c.remove.ensures.value c.remove.ensures.entries;
  taken_apart = removed_apart_block c.args.self.now c.args.cluster c.remove.result c.remove.new.self c.remove.ensures.value c.remove.ensures.entries c.remove.ensures.distinct;
  gone = removed_gone c.args.self.now c.args.cluster c.remove.result c.remove.new.self c.remove.ensures.value c.remove.ensures.entries;
  clean = removed_clean c.args.self.now c.args.cluster c.remove.result c.remove.new.self c.remove.ensures.value c.remove.ensures.entries;
  l2 = refl;
}

use Rattle.qcow2_alloc.proofs.Common.{inr, refl, sym, ap, ◌∙◌, subst, OnOk, BlocksMayGo, Direction, order, l2_tables}
use Rattle.qcow2_alloc.proofs.Lemmas.{cache_step_none, soundly_none, quiet_none, tables_free, blocks_free}
use Rattle.qcow2_alloc.proofs.cache.MetadataCaches.before_rb.Goals as goal

pub returns-in-RbDependsOnL2-clause-sound : goal.returns-in-RbDependsOnL2-clause-sound
returns-in-RbDependsOnL2-clause-sound g c = c.write_tables.ensures.sound (tables_free c.args.self.now (inr c.in-RbDependsOnL2.is))

pub returns-in-RbDependsOnL2-clause-way : goal.returns-in-RbDependsOnL2-clause-way
returns-in-RbDependsOnL2-clause-way g c = record {
  stays = c.write_tables.ensures.flushes.others_stay;
  changes = c.write_tables.ensures.flushes.changes;
  others_stay = λ other. absurd (other (ap order c.in-RbDependsOnL2.is));
  first = subst (λ d. OnOk c.write_tables.result (BlocksMayGo (order d) (l2_tables c.write_tables.new.self))) (sym (c.write_tables.ensures.flushes.direction ∙ c.in-RbDependsOnL2.is)) c.write_tables.ensures.flushes.written;
  quiet = λ may. c.write_tables.ensures.flushes.quiet (subst (λ (d : Direction). BlocksMayGo d (l2_tables c.args.self.now)) (ap order c.in-RbDependsOnL2.is) may);
}

pub returns-in-None-clause-step : goal.returns-in-None-clause-step
returns-in-None-clause-step g c = cache_step_none

pub returns-in-None-clause-sound : goal.returns-in-None-clause-sound
returns-in-None-clause-sound g c = soundly_none

pub returns-in-None-clause-way : goal.returns-in-None-clause-way
returns-in-None-clause-way g c = record { stays = refl; changes = (refl, refl); others_stay = λ _. refl; first = blocks_free c.args.self.now c.in-None.is; quiet = λ _ honest. quiet_none _ honest }

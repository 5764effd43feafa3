use Rattle.qcow2_alloc.proofs.Common.{inr, refl, sym, ap, ◌∙◌, subst, OnOk, TablesMayGo, Direction, order, refblocks}
use Rattle.qcow2_alloc.proofs.Lemmas.{cache_step_none, soundly_none, quiet_none, tables_free, blocks_free}
use Rattle.qcow2_alloc.proofs.cache.MetadataCaches.before_l2.Goals as goal

pub returns-in-L2DependsOnRb-clause-sound : goal.returns-in-L2DependsOnRb-clause-sound
returns-in-L2DependsOnRb-clause-sound g c = c.write_blocks.ensures.sound (blocks_free c.args.self.now (inr c.in-L2DependsOnRb.is))

pub returns-in-L2DependsOnRb-clause-way : goal.returns-in-L2DependsOnRb-clause-way
returns-in-L2DependsOnRb-clause-way g c = record {
  stays = c.write_blocks.ensures.flushes.others_stay;
  changes = c.write_blocks.ensures.flushes.changes;
  others_stay = λ other. absurd (other (ap order c.in-L2DependsOnRb.is));
  first = subst (λ d. OnOk c.write_blocks.result (TablesMayGo (order d) (refblocks c.write_blocks.new.self))) (sym (c.write_blocks.ensures.flushes.direction ∙ c.in-L2DependsOnRb.is)) c.write_blocks.ensures.flushes.written;
  quiet = λ may. c.write_blocks.ensures.flushes.quiet (subst (λ (d : Direction). TablesMayGo d (refblocks c.args.self.now)) (ap order c.in-L2DependsOnRb.is) may);
}

pub returns-in-None-clause-step : goal.returns-in-None-clause-step
returns-in-None-clause-step g c = cache_step_none

pub returns-in-None-clause-sound : goal.returns-in-None-clause-sound
returns-in-None-clause-sound g c = soundly_none

pub returns-in-None-clause-way : goal.returns-in-None-clause-way
returns-in-None-clause-way g c = record { stays = refl; changes = (refl, refl); others_stay = λ _. refl; first = tables_free c.args.self.now c.in-None.is; quiet = λ _ honest. quiet_none _ honest }

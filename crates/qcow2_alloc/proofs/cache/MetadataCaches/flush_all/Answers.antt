use Rattle.qcow2_alloc.proofs.Common.{inr, ◌∙◌}
use Rattle.qcow2_alloc.proofs.Lemmas.{cache_step_then, soundly_then, tables_free, blocks_free, tables_clean, blocks_either, both_written, fails_on, fails_since, tables_fit_as, blocks_fit_as, fails_less}
use Rattle.qcow2_alloc.proofs.cache.MetadataCaches.flush_all.Goals as goal

pub returns-in_err-write_tables-in-None-clause-fails : goal.returns-in_err-write_tables-in-None-clause-fails
returns-in_err-write_tables-in-None-clause-fails g c = fails_on c.from_residual.result c.in_err-write_tables-in-None.field-0.0 c.from_residual.ensures (fails_less (λ fit. fit.0) c.in_err-write_tables-in-None.ensures.fails)

pub returns-in_err-write_tables-in-None-clause-sound : goal.returns-in_err-write_tables-in-None-clause-sound
returns-in_err-write_tables-in-None-clause-sound g c = c.write_tables.ensures.sound (tables_free c.args.self.now c.in-None.is)

pub returns-in_ok-write_tables-in-None-clause-step : goal.returns-in_ok-write_tables-in-None-clause-step
returns-in_ok-write_tables-in-None-clause-step g c = cache_step_then c.write_tables.ensures.step c.write_blocks.ensures.step

pub returns-in_ok-write_tables-in-None-clause-fails : goal.returns-in_ok-write_tables-in-None-clause-fails
returns-in_ok-write_tables-in-None-clause-fails g c = fails_since c.in_ok-write_tables-in-None.ensures.fails.told (fails_less (λ fit. blocks_fit_as c.args.self.now c.write_tables.new.self c.write_tables.ensures.flushes.others_stay fit.1) c.write_blocks.ensures.fails)

pub returns-in_ok-write_tables-in-None-clause-sound : goal.returns-in_ok-write_tables-in-None-clause-sound
returns-in_ok-write_tables-in-None-clause-sound g c = soundly_then c.write_tables.ensures.step.marks.order (c.write_tables.ensures.sound (tables_free c.args.self.now c.in-None.is)) (c.write_blocks.ensures.sound (blocks_either c.write_tables.new.self c.args.self.now c.write_tables.ensures.flushes.direction c.in-None.is c.in_ok-write_tables-in-None.ensures.flushes.written))

pub returns-in_ok-write_tables-in-None-clause-written : goal.returns-in_ok-write_tables-in-None-clause-written
returns-in_ok-write_tables-in-None-clause-written g c = both_written c.write_tables.new.self c.write_blocks.new.self c.write_blocks.result c.write_blocks.ensures.flushes.others_stay c.in_ok-write_tables-in-None.ensures.flushes.written c.write_blocks.ensures.flushes.written

pub returns-in_err-write_blocks-in-L2DependsOnRb-clause-fails : goal.returns-in_err-write_blocks-in-L2DependsOnRb-clause-fails
returns-in_err-write_blocks-in-L2DependsOnRb-clause-fails g c = fails_on c.from_residual-in_err-write_blocks-in-L2DependsOnRb.result c.in_err-write_blocks-in-L2DependsOnRb.field-0.0 c.from_residual-in_err-write_blocks-in-L2DependsOnRb.ensures (fails_less (λ fit. fit.1) c.in_err-write_blocks-in-L2DependsOnRb.ensures.fails)

pub returns-in_err-write_blocks-in-L2DependsOnRb-clause-sound : goal.returns-in_err-write_blocks-in-L2DependsOnRb-clause-sound
returns-in_err-write_blocks-in-L2DependsOnRb-clause-sound g c = c.write_blocks-in-L2DependsOnRb.ensures.sound (blocks_free c.args.self.now (inr c.in-L2DependsOnRb.is))

pub returns-in_ok-write_blocks-in-L2DependsOnRb-clause-step : goal.returns-in_ok-write_blocks-in-L2DependsOnRb-clause-step
returns-in_ok-write_blocks-in-L2DependsOnRb-clause-step g c = cache_step_then c.write_blocks-in-L2DependsOnRb.ensures.step c.write_tables-in-L2DependsOnRb.ensures.step

pub returns-in_ok-write_blocks-in-L2DependsOnRb-clause-fails : goal.returns-in_ok-write_blocks-in-L2DependsOnRb-clause-fails
returns-in_ok-write_blocks-in-L2DependsOnRb-clause-fails g c = fails_since c.in_ok-write_blocks-in-L2DependsOnRb.ensures.fails.told (fails_less (λ fit. tables_fit_as c.args.self.now c.write_blocks-in-L2DependsOnRb.new.self c.write_blocks-in-L2DependsOnRb.ensures.flushes.others_stay fit.0) c.write_tables-in-L2DependsOnRb.ensures.fails)

pub returns-in_ok-write_blocks-in-L2DependsOnRb-clause-sound : goal.returns-in_ok-write_blocks-in-L2DependsOnRb-clause-sound
returns-in_ok-write_blocks-in-L2DependsOnRb-clause-sound g c = soundly_then c.write_blocks-in-L2DependsOnRb.ensures.step.marks.order (c.write_blocks-in-L2DependsOnRb.ensures.sound (blocks_free c.args.self.now (inr c.in-L2DependsOnRb.is))) (c.write_tables-in-L2DependsOnRb.ensures.sound (tables_clean c.write_blocks-in-L2DependsOnRb.new.self (c.write_blocks-in-L2DependsOnRb.ensures.flushes.direction ∙ c.in-L2DependsOnRb.is) c.in_ok-write_blocks-in-L2DependsOnRb.ensures.flushes.written))

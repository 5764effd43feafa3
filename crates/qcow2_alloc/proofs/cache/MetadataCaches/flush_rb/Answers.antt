use Rattle.qcow2_alloc.proofs.Common.{inr, eqb, ap, ◌∙◌, subst, option_map, BlocksMayGo, Direction, value_at, storage_of, order, l2_tables}
use Rattle.qcow2_alloc.proofs.Lemmas.{cache_step_then, soundly_then, tables_as, quiet_then, tables_free, blocks_free, blocks_clean, blocks_still, always_ok, on_no_ok, fails_on, fails_since, blocks_fit_as, fails_less}
use Rattle.qcow2_alloc.proofs.KeptTables.Clean.{blocks_as}
use Rattle.qcow2_alloc.proofs.cache.MetadataCaches.flush_rb.Goals as goal

pub returns-in-None-clause-sound : goal.returns-in-None-clause-sound
returns-in-None-clause-sound g c = c.write_blocks-in-None.ensures.sound (blocks_free c.args.self.now c.in-None.is)

pub returns-in_err-write_tables-in-RbDependsOnL2-clause-fails : goal.returns-in_err-write_tables-in-RbDependsOnL2-clause-fails
returns-in_err-write_tables-in-RbDependsOnL2-clause-fails g c = fails_on c.from_residual.result c.in_err-write_tables-in-RbDependsOnL2.field-0.0 c.from_residual.ensures (fails_less (λ fit. fit.0) c.in_err-write_tables-in-RbDependsOnL2.ensures.fails)

pub returns-in_err-write_tables-in-RbDependsOnL2-clause-sound : goal.returns-in_err-write_tables-in-RbDependsOnL2-clause-sound
returns-in_err-write_tables-in-RbDependsOnL2-clause-sound g c = c.write_tables.ensures.sound (tables_free c.args.self.now (inr c.in-RbDependsOnL2.is))

pub returns-in_ok-write_tables-in-RbDependsOnL2-clause-step : goal.returns-in_ok-write_tables-in-RbDependsOnL2-clause-step
returns-in_ok-write_tables-in-RbDependsOnL2-clause-step g c = cache_step_then c.write_tables.ensures.step c.write_blocks.ensures.step

pub returns-in_ok-write_tables-in-RbDependsOnL2-clause-fails : goal.returns-in_ok-write_tables-in-RbDependsOnL2-clause-fails
returns-in_ok-write_tables-in-RbDependsOnL2-clause-fails g c = fails_since c.in_ok-write_tables-in-RbDependsOnL2.ensures.fails.told (fails_less (λ fit. blocks_fit_as c.args.self.now c.write_tables.new.self c.write_tables.ensures.flushes.others_stay fit.1) c.write_blocks.ensures.fails)

pub returns-in_ok-write_tables-in-RbDependsOnL2-clause-sound : goal.returns-in_ok-write_tables-in-RbDependsOnL2-clause-sound
returns-in_ok-write_tables-in-RbDependsOnL2-clause-sound g c = soundly_then c.write_tables.ensures.step.marks.order (c.write_tables.ensures.sound (tables_free c.args.self.now (inr c.in-RbDependsOnL2.is))) (c.write_blocks.ensures.sound (blocks_clean c.write_tables.new.self (c.write_tables.ensures.flushes.direction ∙ c.in-RbDependsOnL2.is) c.in_ok-write_tables-in-RbDependsOnL2.ensures.flushes.written))

pub returns-in-None-clause-flushes : goal.returns-in-None-clause-flushes
returns-in-None-clause-flushes g c = record {
  written = c.write_blocks-in-None.ensures.flushes.written;
  first = always_ok c.write_blocks-in-None.result (blocks_still c.write_blocks-in-None.new.self c.args.self.now c.write_blocks-in-None.ensures.flushes.direction c.in-None.is);
  held = c.write_blocks-in-None.ensures.held;
  tables = λ _. c.write_blocks-in-None.ensures.flushes.others_stay;
  quiet = λ clean may. c.write_blocks-in-None.ensures.flushes.quiet clean;
}

pub returns-in_err-write_tables-in-RbDependsOnL2-clause-flushes : goal.returns-in_err-write_tables-in-RbDependsOnL2-clause-flushes
returns-in_err-write_tables-in-RbDependsOnL2-clause-flushes g c = record {
  written = on_no_ok _ c.from_residual.result c.in_err-write_tables-in-RbDependsOnL2.field-0.0 c.from_residual.ensures;
  first = on_no_ok _ c.from_residual.result c.in_err-write_tables-in-RbDependsOnL2.field-0.0 c.from_residual.ensures;
  held = λ k. ap (λ x. option_map (λ b. b.bytes) (value_at (λ j. eqb k j) x.entries)) c.write_tables.ensures.flushes.others_stay;
  tables = λ other. absurd (other (ap order c.in-RbDependsOnL2.is));
  quiet = λ clean may.
      c.write_tables.ensures.flushes.quiet (subst (λ (d : Direction). BlocksMayGo d (l2_tables c.args.self.now)) (ap order c.in-RbDependsOnL2.is) may);
}

pub returns-in_ok-write_tables-in-RbDependsOnL2-clause-flushes : goal.returns-in_ok-write_tables-in-RbDependsOnL2-clause-flushes
returns-in_ok-write_tables-in-RbDependsOnL2-clause-flushes g c = record {
  written = c.write_blocks.ensures.flushes.written;
  first =
      always_ok c.write_blocks.result (blocks_clean c.write_blocks.new.self (c.write_blocks.ensures.flushes.direction ∙ (c.write_tables.ensures.flushes.direction ∙ c.in-RbDependsOnL2.is))
      (tables_as c.write_tables.new.self c.write_blocks.new.self c.write_blocks.ensures.flushes.others_stay c.in_ok-write_tables-in-RbDependsOnL2.ensures.flushes.written));
  held = λ k. c.write_blocks.ensures.held k ∙ ap (λ x. option_map (λ b. b.bytes) (value_at (λ j. eqb k j) x.entries)) c.write_tables.ensures.flushes.others_stay;
  tables = λ other. absurd (other (ap order c.in-RbDependsOnL2.is));
  quiet = λ clean may honest.
      let one = c.write_tables.ensures.flushes.quiet (subst (λ (d : Direction). BlocksMayGo d (l2_tables c.args.self.now)) (ap order c.in-RbDependsOnL2.is) may) honest in
      quiet_then (g.S.Storage.view (storage_of c.args.storage.now)) (g.S.Storage.view (storage_of c.write_tables.new.storage)) (g.S.Storage.view (storage_of c.write_blocks.new.storage)) one
      (c.write_blocks.ensures.flushes.quiet (blocks_as c.args.self.now c.write_tables.new.self c.write_tables.ensures.flushes.others_stay clean) one.honest);
}

pub returns-in-None-clause-fails : goal.returns-in-None-clause-fails
returns-in-None-clause-fails g c = fails_less (λ fit. fit.1) c.write_blocks-in-None.ensures.fails

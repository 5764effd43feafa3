use Rattle.std.proofs.Common.{◌^◌, ◌∙◌, ap}
use Rattle.qcow2_alloc.proofs.Common.{rb_at, OthersStayHeld, CachesBlock, contents_in}
use Rattle.qcow2_alloc.proofs.KeptTables.Held.{held_same}
use Rattle.qcow2_alloc.proofs.Lemmas.{marks_with, handed_on, marks_of_caches, put_places, has_cached_block, new_blocks_kept, of_place, overlay_of, at_place, fails_ok, fails_on, table_step_cached, table_step_tables, table_step_then, all_fit, block_alone, loads_of_tables}
use Rattle.qcow2_alloc.proofs.new_refblocks.cache_new_block.Goals as goal

pub returns-in_err-rb_insert : goal.returns-in_err-rb_insert
returns-in_err-rb_insert g c = record {
  step = λ t. table_step_cached (marks_with c.rb_insert.ensures.step.marks c.rb_insert.ensures.tables) (at_place c.args.block.cluster c.requires.placed c.requires.elsewhere c.rb_insert.ensures.step.header_cluster);
  fails = fails_on c.from_residual.result c.in_err-rb_insert.field-0.0 c.from_residual.ensures (loads_of_tables c.in_err-rb_insert.ensures.fails);
  sound = λ q a old first n at blocks places is some here fits whole modified.
      let view = g.S.Storage.view in
      let f = c.args.file.now in
      handed_on (CachesBlock view q old a (record f { storage = c.rb_insert.new.storage; caches = c.rb_insert.new.self }) f first n at c.args.block.bytes) c.from_residual.result c.in_err-rb_insert.field-0.0 c.from_residual.ensures (
        block_alone f.caches c.in_err-rb_insert.field-0.0 blocks.room (all_fit f.header.fields q f.caches (contents_in view f) blocks.caches places) c.in_err-rb_insert.ensures.fails.cause,
        new_blocks_kept view q a first n old f c.rb_insert.new.storage c.rb_insert.new.self blocks c.rb_insert.ensures.sound.ordered c.rb_insert.ensures.step.marks
            (c.in_err-rb_insert.ensures.sound.refused f.header.fields q blocks.honest blocks.caches),
      );
}

pub returns : goal.returns
returns g c = record {
  step = λ t.
      table_step_then (table_step_cached (marks_with c.rb_insert.ensures.step.marks c.rb_insert.ensures.tables) (at_place c.args.block.cluster c.requires.placed c.requires.elsewhere c.rb_insert.ensures.step.header_cluster))
      (table_step_tables (marks_of_caches c.record_change.ensures.step.marks c.record_change.ensures.step.order (held_same c.rb_insert.new.self c.record_change.new.self (ap (λ x. x.l2) c.record_change.ensures.rest))) c.record_change.ensures.step.header_cluster);
  fails = fails_ok c.in_ok-rb_insert.ensures.fails.told;
  sound = λ q a old first n at blocks places is some here fits whole modified.
      let view = g.S.Storage.view in
      let f = c.args.file.now in
      let lays = overlay_of view q a first n old f c.rb_insert.new.storage c.rb_insert.new.self blocks c.rb_insert.ensures.sound.ordered c.rb_insert.ensures.step.marks at c.args.block
      c.in_ok-rb_insert.ensures.sound.laid fits modified is some in
      let stay = of_place (OthersStayHeld rb_at f.caches c.rb_insert.new.self) c.args.block.cluster at is c.rb_insert.ensures.puts.stay in
      has_cached_block view q a first n old f c.rb_insert.new.storage c.rb_insert.new.self blocks c.rb_insert.ensures.sound.ordered c.rb_insert.ensures.step.marks at c.args.block some lays
      c.record_change.new.self c.record_change.ensures.rest c.record_change.ensures.recorded.0 (put_places f.header.fields f.caches c.rb_insert.new.self at here stay places) (whole.whole ∙ ap (λ m. 2 ^ m) fits.bits);
}

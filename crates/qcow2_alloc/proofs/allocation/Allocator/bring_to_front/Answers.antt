use Rattle.std.proofs.Common.{◌^◌, refl}
use Rattle.qcow2_alloc.proofs.Common.{FetchesBlock, contents_in}
use Rattle.qcow2_alloc.proofs.Lemmas.{marks_with, handed_on, place_fits, put_places, new_blocks_kept, not_first, fails_ok, fails_on, table_step_cached, table_step_none, all_fit, rb_place, block_alone, loads_of_tables}
use Rattle.qcow2_alloc.proofs.allocation.Allocator.bring_to_front.Goals as goal

pub returns-in_default-clause-sound : goal.returns-in_default-clause-sound
returns-in_default-clause-sound g c = λ q old first n blocks places. record { blocks = blocks; places = places; known = refl }

pub returns-in_default-checked_cluster-clause-sound : goal.returns-in_default-checked_cluster-clause-sound
returns-in_default-checked_cluster-clause-sound g c = λ q old first n blocks places. record { blocks = blocks; places = places; known = refl }

pub returns-in_err-rb_get_or_insert : goal.returns-in_err-rb_get_or_insert
returns-in_err-rb_get_or_insert g c = record {
  step = table_step_cached (marks_with c.rb_get_or_insert.ensures.step.marks c.rb_get_or_insert.ensures.tables)
      (c.rb_get_or_insert.ensures.step.header_cluster (not_first c.in-Some-checked_cluster.cluster (2 ^ c.cluster_bits.result) c.in-Some.offset c.in-Some.ensures.some c.in-Some-checked_cluster.ensures.cluster));
  fails = fails_on c.from_residual.result c.in_err-rb_get_or_insert.field-0.0 c.from_residual.ensures (loads_of_tables c.in_err-rb_get_or_insert.ensures.fails);
  sound = λ q old first n blocks places.
      let view = g.S.Storage.view in
      let f = c.args.file.now in
      handed_on (FetchesBlock view q old c.args.self.now (record f { storage = c.rb_get_or_insert.new.storage; caches = c.rb_get_or_insert.new.self }) f first n) c.from_residual.result c.in_err-rb_get_or_insert.field-0.0 c.from_residual.ensures (
        block_alone f.caches c.in_err-rb_get_or_insert.field-0.0 blocks.room (
          all_fit f.header.fields q f.caches (contents_in view f) blocks.caches places,
          rb_place f.header.fields q f.caches (contents_in view f) blocks.caches c.in-Some-checked_cluster.cluster
              (place_fits g.S.Storage.view _ c.in-Some.offset c.in-Some-checked_cluster.cluster c.cluster_bits.result c.args.file.now.header.fields.cluster_bits c.in-Some.ensures.offset c.in-Some-checked_cluster.ensures.cluster c.cluster_bits.ensures.value),
        ) c.in_err-rb_get_or_insert.ensures.fails.cause,
        new_blocks_kept view q c.args.self.now first n old f c.rb_get_or_insert.new.storage c.rb_get_or_insert.new.self blocks c.rb_get_or_insert.ensures.sound.ordered c.rb_get_or_insert.ensures.step.marks
            (c.rb_get_or_insert.ensures.sound.keeps f.header.fields q blocks.honest blocks.caches),
      );
}

pub returns : goal.returns
returns g c = record {
  step = table_step_cached (marks_with c.rb_get_or_insert.ensures.step.marks c.rb_get_or_insert.ensures.tables)
      (c.rb_get_or_insert.ensures.step.header_cluster (not_first c.in-Some-checked_cluster.cluster (2 ^ c.cluster_bits.result) c.in-Some.offset c.in-Some.ensures.some c.in-Some-checked_cluster.ensures.cluster));
  fails = fails_ok c.in_ok-rb_get_or_insert.ensures.fails.told;
  sound = λ q old first n blocks places.
      let view = g.S.Storage.view in
      let f = c.args.file.now in
      let stays = c.rb_get_or_insert.ensures.sound.keeps f.header.fields q blocks.honest blocks.caches in
      record {
        blocks = new_blocks_kept view q c.args.self.now first n old f c.rb_get_or_insert.new.storage c.rb_get_or_insert.new.self blocks c.rb_get_or_insert.ensures.sound.ordered c.rb_get_or_insert.ensures.step.marks stays;
        places = put_places f.header.fields f.caches c.rb_get_or_insert.new.self c.in-Some-checked_cluster.cluster
            (place_fits g.S.Storage.view _ c.in-Some.offset c.in-Some-checked_cluster.cluster c.cluster_bits.result c.args.file.now.header.fields.cluster_bits c.in-Some.ensures.offset c.in-Some-checked_cluster.ensures.cluster c.cluster_bits.ensures.value) c.rb_get_or_insert.ensures.gets.stay places;
        known = stays.known;
      };
}

pub returns-in_default-clause-step : goal.returns-in_default-clause-step
returns-in_default-clause-step g c = table_step_none

pub returns-in_default-checked_cluster-clause-step : goal.returns-in_default-checked_cluster-clause-step
returns-in_default-checked_cluster-clause-step g c = table_step_none

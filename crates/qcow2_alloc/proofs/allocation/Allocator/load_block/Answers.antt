use Rattle.std.proofs.Common.{◌^◌, refl, inl}
use Rattle.qcow2_alloc.proofs.Common.{LoadsBlock, contents_in}
use Rattle.qcow2_alloc.proofs.Lemmas.{marks_with, file_step_cached, reftable_cached, handed_on, place_fits, names_refblock, not_first, fails_ok, fails_on, table_step_cached, table_step_none, rb_place, block_alone, file_fits, loads_of_tables}
use Rattle.qcow2_alloc.proofs.AlignedBlocks.{not_off}
use Rattle.qcow2_alloc.proofs.FreedEach.{blocks_loaded, blocks_same, loads_got}
use Rattle.qcow2_alloc.proofs.allocation.Allocator.load_block.Goals as goal

pub returns-in_err-rb_get_or_insert-clause-sound : goal.returns-in_err-rb_get_or_insert-clause-sound
returns-in_err-rb_get_or_insert-clause-sound g c = λ p sound.
    handed_on (LoadsBlock g.S.Storage.view p c.args.file.now c.args.self.now (record c.args.file.now { storage = c.rb_get_or_insert.new.storage; caches = c.rb_get_or_insert.new.self }) c.args.range)
    c.from_residual.result c.in_err-rb_get_or_insert.field-0.0 c.from_residual.ensures (
      block_alone c.args.file.now.caches c.in_err-rb_get_or_insert.field-0.0 sound.sound.room (
        file_fits g.S.Storage.view p c.args.file.now sound.sound,
        rb_place c.args.file.now.header.fields p c.args.file.now.caches (contents_in g.S.Storage.view c.args.file.now) sound.sound.caches c.in-Some-checked_cluster.cluster
            (place_fits g.S.Storage.view _ c.in-Some.offset c.in-Some-checked_cluster.cluster c.cluster_bits.result c.args.file.now.header.fields.cluster_bits c.in-Some.ensures.offset c.in-Some-checked_cluster.ensures.cluster c.cluster_bits.ensures.value),
      ) c.in_err-rb_get_or_insert.ensures.fails.cause,
      inl (file_step_cached g.S.Storage.view p c.args.file.now c.rb_get_or_insert.new.storage c.rb_get_or_insert.new.self sound.sound (c.rb_get_or_insert.ensures.sound.keeps c.args.file.now.header.fields p sound.sound.honest sound.sound.caches) c.rb_get_or_insert.ensures.step.marks.pins, reftable_cached g.S.Storage.view p c.args.file.now c.rb_get_or_insert.new.storage c.rb_get_or_insert.new.self sound.sound (c.rb_get_or_insert.ensures.sound.keeps c.args.file.now.header.fields p sound.sound.honest sound.sound.caches) c.args.self.now.reftable sound.reftable),
    )

pub returns-clause-sound : goal.returns-clause-sound
returns-clause-sound g c = λ p sound.
    let file_step = file_step_cached g.S.Storage.view p c.args.file.now c.rb_get_or_insert.new.storage c.rb_get_or_insert.new.self sound.sound (c.rb_get_or_insert.ensures.sound.keeps c.args.file.now.header.fields p sound.sound.honest sound.sound.caches) c.rb_get_or_insert.ensures.step.marks.pins in
    let reftable = reftable_cached g.S.Storage.view p c.args.file.now c.rb_get_or_insert.new.storage c.rb_get_or_insert.new.self sound.sound (c.rb_get_or_insert.ensures.sound.keeps c.args.file.now.header.fields p sound.sound.honest sound.sound.caches) c.args.self.now.reftable sound.reftable in (
      record { file_step = file_step; reftable = reftable },
      let named = names_refblock g.S.Storage.view p (record c.args.file.now { storage = c.rb_get_or_insert.new.storage; caches = c.rb_get_or_insert.new.self }) c.args.self.now.reftable file_step.sound reftable c.args.range c.in-Some.offset c.in-Some-checked_cluster.cluster c.cluster_bits.result
          c.in-Some.ensures.offset c.in-Some.ensures.some c.in-Some-checked_cluster.ensures.cluster c.cluster_bits.ensures.value in (named.0, named.1, c.in_ok-rb_get_or_insert.ensures.gets.cached),
    )

pub returns-in_default-clause-none : goal.returns-in_default-clause-none
returns-in_default-clause-none g c = λ none. (refl, refl)

pub returns-in_err-rb_get_or_insert-clause-unaligned : goal.returns-in_err-rb_get_or_insert-clause-unaligned
returns-in_err-rb_get_or_insert-clause-unaligned g c = λ u. not_off c.args.file.now.header.fields c.args.self.now.reftable c.args.range c.in-Some-checked_cluster.cluster c.cluster_bits.result c.in-Some.offset c.in-Some.ensures.offset c.in-Some-checked_cluster.ensures.cluster c.cluster_bits.ensures.value u

pub returns-clause-unaligned : goal.returns-clause-unaligned
returns-clause-unaligned g c = λ u. not_off c.args.file.now.header.fields c.args.self.now.reftable c.args.range c.in-Some-checked_cluster.cluster c.cluster_bits.result c.in-Some.offset c.in-Some.ensures.offset c.in-Some-checked_cluster.ensures.cluster c.cluster_bits.ensures.value u

pub returns-in_err-rb_get_or_insert-clause-step : goal.returns-in_err-rb_get_or_insert-clause-step
returns-in_err-rb_get_or_insert-clause-step g c = table_step_cached (marks_with c.rb_get_or_insert.ensures.step.marks c.rb_get_or_insert.ensures.tables)
    (c.rb_get_or_insert.ensures.step.header_cluster (not_first c.in-Some-checked_cluster.cluster (2 ^ c.cluster_bits.result) c.in-Some.offset c.in-Some.ensures.some c.in-Some-checked_cluster.ensures.cluster))

pub returns-clause-step : goal.returns-clause-step
returns-clause-step g c = table_step_cached (marks_with c.rb_get_or_insert.ensures.step.marks c.rb_get_or_insert.ensures.tables)
    (c.rb_get_or_insert.ensures.step.header_cluster (not_first c.in-Some-checked_cluster.cluster (2 ^ c.cluster_bits.result) c.in-Some.offset c.in-Some.ensures.some c.in-Some-checked_cluster.ensures.cluster))

pub returns-in_default-clause-step : goal.returns-in_default-clause-step
returns-in_default-clause-step g c = table_step_none

pub returns-in_default-checked_cluster-clause-step : goal.returns-in_default-checked_cluster-clause-step
returns-in_default-checked_cluster-clause-step g c = table_step_none

pub returns-in_err-rb_get_or_insert-clause-fails : goal.returns-in_err-rb_get_or_insert-clause-fails
returns-in_err-rb_get_or_insert-clause-fails g c = fails_on c.from_residual.result c.in_err-rb_get_or_insert.field-0.0 c.from_residual.ensures (loads_of_tables c.in_err-rb_get_or_insert.ensures.fails)

pub returns-clause-fails : goal.returns-clause-fails
returns-clause-fails g c = fails_ok c.in_ok-rb_get_or_insert.ensures.fails.told

pub returns-in_err-rb_get_or_insert-clause-loads : goal.returns-in_err-rb_get_or_insert-clause-loads
returns-in_err-rb_get_or_insert-clause-loads g c = loads_got c.args.file.now.caches c.rb_get_or_insert.new.self c.rb_get_or_insert.ensures.gets.kept.loads c.rb_get_or_insert.ensures.tables c.rb_get_or_insert.ensures.gets.changes

pub returns-clause-loads : goal.returns-clause-loads
returns-clause-loads g c = loads_got c.args.file.now.caches c.rb_get_or_insert.new.self c.rb_get_or_insert.ensures.gets.kept.loads c.rb_get_or_insert.ensures.tables c.rb_get_or_insert.ensures.gets.changes

pub returns-in_default-clause-loads : goal.returns-in_default-clause-loads
returns-in_default-clause-loads g c = blocks_loaded c.args.file.now.caches c.args.file.now.caches (blocks_same c.args.file.now.caches)

pub returns-in_default-checked_cluster-clause-loads : goal.returns-in_default-checked_cluster-clause-loads
returns-in_default-checked_cluster-clause-loads g c = blocks_loaded c.args.file.now.caches c.args.file.now.caches (blocks_same c.args.file.now.caches)

use Rattle.qcow2_alloc.proofs.Common.{with_run, room_length, PlacesBlocks, contents_in}
use Rattle.qcow2_alloc.proofs.Lemmas.{handed_on, new_blocks_flushed, fails_on, fails_since, table_step_cached, table_step_then, all_fit, faults_alone, fails_of_tables}
use Rattle.qcow2_alloc.proofs.KeptMarks.{marks_alone}
use Rattle.qcow2_alloc.proofs.allocation.Allocator.place_blocks.Goals as goal

pub returns-in_err-cache_blocks-clause-sound : goal.returns-in_err-cache_blocks-clause-sound
returns-in_err-cache_blocks-clause-sound g c = λ p sound may longer.
    handed_on (PlacesBlocks g.S.Storage.view (with_run p c.args.file.now.header.fields c.args.self.now.reftable c.args.room.first (room_length c.args.room)) c.args.file.now c.args.self.now c.cache_blocks.new.file c.args.self.now.reftable c.cache_blocks.new.table c.args.room)
    c.from_residual.result c.in_err-cache_blocks.field-0.0 c.from_residual.ensures (c.in_err-cache_blocks.ensures.sound p sound may longer)

pub returns-clause-sound : goal.returns-clause-sound
returns-clause-sound g c = λ p sound may longer.
    let q = with_run p c.args.file.now.header.fields c.args.self.now.reftable c.args.room.first (room_length c.args.room) in
    let f = c.cache_blocks.new.file in
    let cached = c.in_ok-cache_blocks.ensures.sound p sound may longer in
    new_blocks_flushed g.S.Storage.view q c.args.self.now c.args.file.now f c.flush_rb.new.storage c.flush_rb.new.self c.args.self.now.reftable c.cache_blocks.new.table c.args.room c.flush_rb.result sound.sound c.cache_blocks.ensures.step.header cached
    c.flush_rb.ensures.sound (marks_alone c.flush_rb.ensures.step.marks) (faults_alone c.flush_rb.result (all_fit f.header.fields q f.caches (contents_in g.S.Storage.view f) cached.blocks.caches cached.places) c.flush_rb.ensures.fails) c.flush_rb.ensures.flushes.written c.flush_rb.ensures.flushes.first

pub returns-clause-step : goal.returns-clause-step
returns-clause-step g c = table_step_then c.cache_blocks.ensures.step (table_step_cached c.flush_rb.ensures.step.marks c.flush_rb.ensures.step.header_cluster)

pub returns-in_err-cache_blocks-clause-fails : goal.returns-in_err-cache_blocks-clause-fails
returns-in_err-cache_blocks-clause-fails g c = fails_on c.from_residual.result c.in_err-cache_blocks.field-0.0 c.from_residual.ensures c.in_err-cache_blocks.ensures.fails

pub returns-clause-fails : goal.returns-clause-fails
returns-clause-fails g c = fails_since c.in_ok-cache_blocks.ensures.fails.told (fails_of_tables c.flush_rb.ensures.fails)

use Rattle.qcow2_image.proofs.Common.{if_no_ok, on_no_ok, refl, ap, rules, Pending, with_listed, contents_in, handed_on, FreesListed, Qcow2, notes_then, notes_of_both, notes_of_storage, read_kept, IfErr, Result, IsFault, of_storage, written_then, ReadsQuietly, fault_of_storage, faults_alone, file_fits, Err}
use Rattle.qcow2_image.proofs.Lemmas.{keeps_then, with_caches, caches_moved, read_moved, all_known, frees_any, freeing_step_on, behind_caches, behind_then, behind_read, reads_bytes, reads_same}
use Rattle.qcow2_image.proofs.image.Qcow2.flush_image.Goals as goal

pub returns-in_err-process_free_list-clause-tables : goal.returns-in_err-process_free_list-clause-tables
returns-in_err-process_free_list-clause-tables g c = record {
  header = c.process_free_list.ensures.keeps_rest.header;
  emptied = λ writable. on_no_ok _ c.from_residual.result c.in_err-process_free_list.field-0.0 c.from_residual.ensures;
  written = if_no_ok _ c.from_residual.result c.in_err-process_free_list.field-0.0 c.from_residual.ensures;
  fault = λ p out sound. handed_on (λ r. IfErr r IsFault) c.from_residual.result c.in_err-process_free_list.field-0.0 c.from_residual.ensures (c.in_err-process_free_list.ensures.faults p out sound);
  frees = λ p out sound. handed_on (FreesListed g.S.Storage.view g.F.BackingDisk.backing p c.args.self.now c.process_free_list.new.self out) c.from_residual.result c.in_err-process_free_list.field-0.0 c.from_residual.ensures (c.in_err-process_free_list.ensures.frees p out sound);
  quiet = λ reading. reads_same g.S.Storage.view c.args.self.now c.process_free_list.new.self (ap (λ (o : Qcow2 _ _). o.file) (c.process_free_list.ensures.untouched reading));
}

pub returns-in_err-flush_all-clause-tables : goal.returns-in_err-flush_all-clause-tables
returns-in_err-flush_all-clause-tables g c = record {
  header = c.process_free_list.ensures.keeps_rest.header;
  emptied = λ writable. on_no_ok _ c.from_residual-in_err-flush_all.result c.in_err-flush_all.field-0.0 c.from_residual-in_err-flush_all.ensures;
  written = if_no_ok _ c.from_residual-in_err-flush_all.result c.in_err-flush_all.field-0.0 c.from_residual-in_err-flush_all.ensures;
  fault = λ p out sound.
      let freed = c.process_free_list.new.self in
      let first = c.in_ok-process_free_list.ensures.frees p out sound in
      handed_on (λ r. IfErr r IsFault) c.from_residual-in_err-flush_all.result c.in_err-flush_all.field-0.0 c.from_residual-in_err-flush_all.ensures
      (faults_alone {A = Unit {0}} (Err c.in_err-flush_all.field-0.0) (file_fits g.S.Storage.view (with_listed p freed.file.free_list) freed.file first.sound.file) c.in_err-flush_all.ensures.fails);
  frees = λ p out sound.
      let view = g.S.Storage.view in
      let below = g.F.BackingDisk.backing in
      let old = c.args.self.now in
      let freed = c.process_free_list.new.self in
      let q : Pending = with_listed p freed.file.free_list in
      let first = c.in_ok-process_free_list.ensures.frees p out sound in
      let mid = with_caches view below freed out q first.sound c.flush_all.new.storage c.flush_all.new.self in
      frees_any view below out p old mid c.from_residual-in_err-flush_all.result
      (freeing_step_on view below out old freed mid p refl first
      (caches_moved view below freed out q first.sound c.flush_all.new.storage c.flush_all.new.self (c.flush_all.ensures.sound.keeps freed.file.header.fields q first.sound.file.honest first.sound.file.caches) c.flush_all.ensures.step.marks.pins.room c.flush_all.ensures.step.marks.pins.pins));
  quiet = λ reading. written_then g.S.Storage.view (reads_same g.S.Storage.view c.args.self.now c.process_free_list.new.self (ap (λ (o : Qcow2 _ _). o.file) (c.process_free_list.ensures.untouched reading))) c.flush_all.ensures.step.all_written;
}

pub returns-in_err-flush-clause-tables : goal.returns-in_err-flush-clause-tables
returns-in_err-flush-clause-tables g c = record {
  header = c.process_free_list.ensures.keeps_rest.header;
  emptied = λ writable. on_no_ok _ c.from_residual-in_err-flush.result (of_storage c.in_err-flush.field-0.0) c.from_residual-in_err-flush.ensures;
  written = if_no_ok _ c.from_residual-in_err-flush.result (of_storage c.in_err-flush.field-0.0) c.from_residual-in_err-flush.ensures;
  fault = λ p out sound. handed_on (λ (r : Result _ _). IfErr r IsFault) c.from_residual-in_err-flush.result (of_storage c.in_err-flush.field-0.0) c.from_residual-in_err-flush.ensures (fault_of_storage c.in_err-flush.field-0.0);
  frees = λ p out sound.
      let view = g.S.Storage.view in
      let below = g.F.BackingDisk.backing in
      let old = c.args.self.now in
      let freed = c.process_free_list.new.self in
      let q : Pending = with_listed p freed.file.free_list in
      let first = c.in_ok-process_free_list.ensures.frees p out sound in
      let mid = with_caches view below freed out q first.sound c.flush_all.new.storage c.flush_all.new.self in
      let written = caches_moved view below freed out q first.sound c.flush_all.new.storage c.flush_all.new.self (c.flush_all.ensures.sound.keeps freed.file.header.fields q first.sound.file.honest first.sound.file.caches) c.flush_all.ensures.step.marks.pins.room c.flush_all.ensures.step.marks.pins.pins in
      let last = with_caches view below mid out q written.sound c.flush.new.self c.flush_all.new.self in
      frees_any view below out p old last c.from_residual-in_err-flush.result
      (freeing_step_on view below out old freed last p refl first
      (keeps_then view below out freed mid last q q q (λ k h. h) written (read_moved view below mid out q written.sound c.flush.new.self c.flush.ensures.calls c.flush.ensures.same)));
  quiet = λ reading.
      let view = g.S.Storage.view in
      let freed = c.process_free_list.new.self in
      let first : ReadsQuietly g.S.Storage.view c.args.self.now c.process_free_list.new.self = reads_same view c.args.self.now freed (ap (λ (o : Qcow2 _ _). o.file) (c.process_free_list.ensures.untouched reading)) in
      let mid : Qcow2 _ _ = record freed { file = record freed.file { storage = c.flush_all.new.storage; caches = c.flush_all.new.self } } in
      written_then view (written_then view first c.flush_all.ensures.step.all_written) (reads_bytes view mid c.flush.new.self c.flush.result c.flush.ensures.calls c.flush.ensures.same);
}

pub returns-clause-tables : goal.returns-clause-tables
returns-clause-tables g c = record {
  header = c.process_free_list.ensures.keeps_rest.header;
  fault = λ p out sound. tt;
  emptied = c.in_ok-process_free_list.ensures.emptied;
  frees = λ p out sound.
      let view = g.S.Storage.view in
      let below = g.F.BackingDisk.backing in
      let old = c.args.self.now in
      let freed = c.process_free_list.new.self in
      let q : Pending = with_listed p freed.file.free_list in
      let first = c.in_ok-process_free_list.ensures.frees p out sound in
      let mid = with_caches view below freed out q first.sound c.flush_all.new.storage c.flush_all.new.self in
      let written = caches_moved view below freed out q first.sound c.flush_all.new.storage c.flush_all.new.self (c.flush_all.ensures.sound.keeps freed.file.header.fields q first.sound.file.honest first.sound.file.caches) c.flush_all.ensures.step.marks.pins.room c.flush_all.ensures.step.marks.pins.pins in
      let last = with_caches view below mid out q written.sound c.flush.new.self c.flush_all.new.self in
      freeing_step_on view below out old freed last p refl first
      (keeps_then view below out freed mid last q q q (λ k h. h) written (read_moved view below mid out q written.sound c.flush.new.self c.flush.ensures.calls c.flush.ensures.same));
  quiet = λ reading.
      let view = g.S.Storage.view in
      let freed = c.process_free_list.new.self in
      let first : ReadsQuietly g.S.Storage.view c.args.self.now c.process_free_list.new.self = reads_same view c.args.self.now freed (ap (λ (o : Qcow2 _ _). o.file) (c.process_free_list.ensures.untouched reading)) in
      let mid : Qcow2 _ _ = record freed { file = record freed.file { storage = c.flush_all.new.storage; caches = c.flush_all.new.self } } in
      written_then view (written_then view first c.flush_all.ensures.step.all_written) (reads_bytes view mid c.flush.new.self c.flush.result c.flush.ensures.calls c.flush.ensures.same);
  written = all_known c.process_free_list.new.self.file.header.fields c.flush_all.new.self (contents_in g.S.Storage.view (record c.process_free_list.new.self.file { storage = c.flush.new.self })) c.in_ok-flush_all.ensures.written;
}

pub returns-in_err-flush_all-clause-step : goal.returns-in_err-flush_all-clause-step
returns-in_err-flush_all-clause-step g c = record {
  stays = search rules;
  notes = notes_then c.process_free_list.ensures.step.notes (notes_of_both c.flush_all.ensures.step.marks.pins c.flush_all.ensures.step.marks.notes);
  header_cluster = behind_then c.process_free_list.ensures.step.header_cluster (behind_caches c.flush_all.ensures.step.header_cluster);
}

pub returns-in_err-flush-clause-step : goal.returns-in_err-flush-clause-step
returns-in_err-flush-clause-step g c = record {
  stays = search rules;
  notes = notes_then (notes_then c.process_free_list.ensures.step.notes (notes_of_both c.flush_all.ensures.step.marks.pins c.flush_all.ensures.step.marks.notes))
      (notes_of_storage (read_kept c.flush_all.new.storage c.flush.new.self c.flush.result c.flush.ensures.calls c.flush.ensures.same c.flush.ensures.unrecorded));
  header_cluster = behind_then (behind_then c.process_free_list.ensures.step.header_cluster (behind_caches c.flush_all.ensures.step.header_cluster)) (behind_read c.flush.result c.flush.ensures.calls c.flush.ensures.same);
}

pub returns-clause-step : goal.returns-clause-step
returns-clause-step g c = record {
  stays = search rules;
  notes = notes_then (notes_then c.process_free_list.ensures.step.notes (notes_of_both c.flush_all.ensures.step.marks.pins c.flush_all.ensures.step.marks.notes))
      (notes_of_storage (read_kept c.flush_all.new.storage c.flush.new.self c.flush.result c.flush.ensures.calls c.flush.ensures.same c.flush.ensures.unrecorded));
  header_cluster = behind_then (behind_then c.process_free_list.ensures.step.header_cluster (behind_caches c.flush_all.ensures.step.header_cluster)) (behind_read c.flush.result c.flush.ensures.calls c.flush.ensures.same);
}

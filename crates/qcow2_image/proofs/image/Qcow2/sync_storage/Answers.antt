use Rattle.qcow2_image.proofs.Common.{rules, refl, notes_of_storage, read_kept}
use Rattle.qcow2_image.proofs.Lemmas.{behind_read, read_moved, kept_throughout, reads_bytes}
use Rattle.qcow2_image.proofs.image.Qcow2.sync_storage.Goals as goal

pub returns-in_err-sync-clause-step : goal.returns-in_err-sync-clause-step
returns-in_err-sync-clause-step g c = record {
  part = record {
    stays = search rules;
    notes = notes_of_storage (read_kept c.args.self.now.file.storage c.sync.new.self c.sync.result c.sync.ensures.calls c.sync.ensures.same c.sync.ensures.unrecorded);
    header_cluster = behind_read c.sync.result c.sync.ensures.calls c.sync.ensures.same;
  };
  header = refl;
  list = refl;
  quiet = reads_bytes g.S.Storage.view c.args.self.now c.sync.new.self c.sync.result c.sync.ensures.calls c.sync.ensures.same;
}

pub returns-clause-step : goal.returns-clause-step
returns-clause-step g c = record {
  part = record {
    stays = search rules;
    notes = notes_of_storage (read_kept c.args.self.now.file.storage c.sync.new.self c.sync.result c.sync.ensures.calls c.sync.ensures.same c.sync.ensures.unrecorded);
    header_cluster = behind_read c.sync.result c.sync.ensures.calls c.sync.ensures.same;
  };
  header = refl;
  list = refl;
  quiet = reads_bytes g.S.Storage.view c.args.self.now c.sync.new.self c.sync.result c.sync.ensures.calls c.sync.ensures.same;
}

pub returns-in_err-sync-clause-silent : goal.returns-in_err-sync-clause-silent
returns-in_err-sync-clause-silent g c = kept_throughout _ _ c.sync.ensures.calls.time c.sync.ensures.same

pub returns-clause-silent : goal.returns-clause-silent
returns-clause-silent g c = kept_throughout _ _ c.sync.ensures.calls.time c.sync.ensures.same

pub returns-in_err-sync-clause-keeps : goal.returns-in_err-sync-clause-keeps
returns-in_err-sync-clause-keeps g c = λ p out sound. read_moved g.S.Storage.view g.F.BackingDisk.backing c.args.self.now out p sound c.sync.new.self c.sync.ensures.calls c.sync.ensures.same

pub returns-clause-keeps : goal.returns-clause-keeps
returns-clause-keeps g c = λ p out sound. read_moved g.S.Storage.view g.F.BackingDisk.backing c.args.self.now out p sound c.sync.new.self c.sync.ensures.calls c.sync.ensures.same

use Rattle.image_access.specs.Moments.{SyncCall}
use Rattle.qcow2_image.proofs.Common.{on_ok_weaker}
use Rattle.qcow2_image.proofs.Lemmas.{keeps_then}
use Rattle.qcow2_image.proofs.Call.Passed.{passed_both}
use Rattle.qcow2_image.proofs.Call.DataFiles.{keeps_beside}
use Rattle.qcow2_image.proofs.image.Qcow2.sync_storages.Goals as goal

pub returns-clause-keeps : goal.returns-clause-keeps
returns-clause-keeps g c = λ p out sound.
    let first = c.sync_storage.ensures.keeps p out sound in
    keeps_then g.S.Storage.view g.F.BackingDisk.backing out c.args.self.now c.sync_storage.new.self c.sync_data_file.new.self p p p (λ k h. h) first (keeps_beside c.sync_data_file.ensures.beside p out first.sound)

pub returns-clause-passes : goal.returns-clause-passes
returns-clause-passes g c = on_ok_weaker c.sync_data_file.result
    (passed_both g.S.Storage.passes SyncCall c.args.self.now c.sync_storage.new.self c.sync_data_file.new.self c.in_ok-sync_storage.ensures.passes c.sync_storage.ensures.data_file c.sync_data_file.ensures.beside.rest)
    c.sync_data_file.ensures.passes

use Rattle.qcow2_image.proofs.Common.{rules, notes_of_both, file_loads}
use Rattle.qcow2_image.proofs.Lemmas.{same_new_data, caches_moved, behind_caches, faults_looking}
use Rattle.qcow2_image.proofs.image.Qcow2.load_l2.Goals as goal

pub returns-clause-sound : goal.returns-clause-sound
returns-clause-sound g c = λ p out sound.
    let old = c.args.self.now in
    let below = g.F.BackingDisk.backing in
    let view = g.S.Storage.view in
    record {
      keeps = caches_moved view below old out p sound c.l2_get_or_insert.new.storage c.l2_get_or_insert.new.self
          (c.l2_get_or_insert.ensures.sound.keeps old.file.header.fields p sound.file.honest sound.file.caches) c.l2_get_or_insert.ensures.step.marks.pins.room c.l2_get_or_insert.ensures.step.marks.pins.pins;
      contents = same_new_data view below out old _ p sound
          (caches_moved view below old out p sound c.l2_get_or_insert.new.storage c.l2_get_or_insert.new.self
          (c.l2_get_or_insert.ensures.sound.keeps old.file.header.fields p sound.file.honest sound.file.caches) c.l2_get_or_insert.ensures.step.marks.pins.room c.l2_get_or_insert.ensures.step.marks.pins.pins);
      may_fail = λ place. faults_looking view below out p old sound c.l2_get_or_insert.result (file_loads view p old.file sound.file c.l2_get_or_insert.result c.l2_get_or_insert.new.self c.args.table place c.l2_get_or_insert.ensures.fails);
    }

pub returns-clause-step : goal.returns-clause-step
returns-clause-step g c = record { stays = search rules; notes = (notes_of_both c.l2_get_or_insert.ensures.step.marks.pins c.l2_get_or_insert.ensures.step.marks.notes); header_cluster = λ some. behind_caches (c.l2_get_or_insert.ensures.step.header_cluster some) }

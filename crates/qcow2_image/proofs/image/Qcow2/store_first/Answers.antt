use Rattle.qcow2_image.proofs.Common.{rules, notes_of_both, faults_alone, file_fits}
use Rattle.qcow2_image.proofs.Lemmas.{caches_moved, with_caches, behind_caches}
use Rattle.qcow2_image.proofs.Prepare.WrittenBeforeNaming.{stores_counts}
use Rattle.qcow2_image.proofs.image.Qcow2.store_first.Goals as goal

pub returns-clause-stores : goal.returns-clause-stores
returns-clause-stores g c = λ p out sound.
    let old = c.args.self.now in
    let stay = c.flush_rb.ensures.sound.keeps old.file.header.fields p sound.file.honest sound.file.caches in
    stores_counts g.S.Storage.view g.F.BackingDisk.backing old (with_caches g.S.Storage.view g.F.BackingDisk.backing old out p sound c.flush_rb.new.storage c.flush_rb.new.self) out p
    (caches_moved g.S.Storage.view g.F.BackingDisk.backing old out p sound c.flush_rb.new.storage c.flush_rb.new.self stay c.flush_rb.ensures.step.marks.pins.room c.flush_rb.ensures.step.marks.pins.pins)
    c.flush_rb.result c.flush_rb.ensures.flushes.written c.flush_rb.ensures.flushes.first

pub returns-clause-fault : goal.returns-clause-fault
returns-clause-fault g c = λ p out sound. faults_alone c.flush_rb.result (file_fits g.S.Storage.view p c.args.self.now.file sound.file) c.flush_rb.ensures.fails

pub returns-clause-step : goal.returns-clause-step
returns-clause-step g c = record { stays = search rules; notes = (notes_of_both c.flush_rb.ensures.step.marks.pins c.flush_rb.ensures.step.marks.notes); header_cluster = behind_caches c.flush_rb.ensures.step.header_cluster }

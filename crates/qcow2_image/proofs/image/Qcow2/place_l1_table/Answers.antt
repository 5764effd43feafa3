use Rattle.std.proofs.Common.{◌*◌, ◌^◌, refl, subst, sym, IsSome, ap, Err}
use Rattle.qcow2_image.proofs.Common.{of_storage, storage_of, handed_on, with_table, IsLongerL1, PlacesTable, notes_none, notes_then, notes_of_both, notes_of_storage, placed_kept, EntryTableView, not_both, IsHostCluster, faults_alone, file_fits, fault_of_storage}
use Rattle.qcow2_image.proofs.Lemmas.{keeps_then, caches_moved, with_caches, keeps_none, behind_caches, behind_none, begins_behind, behind_placed, behind_then, l1_placed, hands_fault}
use Rattle.qcow2_image.proofs.Grow.NewL1Table.{table_write_as, keeps_placed, stands_whole}
use Rattle.qcow2_image.proofs.image.Qcow2.place_l1_table.Goals as goal

pub returns-in_err-flush_rb-clause-places : goal.returns-in_err-flush_rb-clause-places
returns-in_err-flush_rb-clause-places g c = λ p out sound longer.
    let view = g.S.Storage.view in
    let below = g.F.BackingDisk.backing in
    let old = c.args.self.now in
    let q = with_table p c.args.table.now c.args.cluster in
    let stay = c.flush_rb.ensures.sound.keeps old.file.header.fields q sound.file.honest sound.file.caches in
    handed_on (PlacesTable view below q old (with_caches view below old out q sound c.flush_rb.new.storage c.flush_rb.new.self) out c.set_cluster.new.self c.args.cluster)
    c.from_residual.result c.in_err-flush_rb.field-0.0 c.from_residual.ensures
    (caches_moved view below old out q sound c.flush_rb.new.storage c.flush_rb.new.self stay c.flush_rb.ensures.step.marks.pins.room c.flush_rb.ensures.step.marks.pins.pins)

pub returns-in_err-write_l1_table-clause-places : goal.returns-in_err-write_l1_table-clause-places
returns-in_err-write_l1_table-clause-places g c = λ p out sound longer.
    let view = g.S.Storage.view in
    let below = g.F.BackingDisk.backing in
    let old = c.args.self.now in
    let t = c.args.table.now in
    let q = with_table p t c.args.cluster in
    let stay = c.flush_rb.ensures.sound.keeps old.file.header.fields q sound.file.honest sound.file.caches in
    let kept = caches_moved view below old out q sound c.flush_rb.new.storage c.flush_rb.new.self stay c.flush_rb.ensures.step.marks.pins.room c.flush_rb.ensures.step.marks.pins.pins in
    let image = with_caches view below old out q sound c.flush_rb.new.storage c.flush_rb.new.self in
    let there : IsLongerL1 image t = record { bits = longer.bits; whole = longer.whole; longer = longer.longer; entries = longer.entries } in
    let new = record image { file = record image.file { storage = c.write_l1_table.new.self } } in
    handed_on (PlacesTable view below q old new out c.set_cluster.new.self c.args.cluster) c.from_residual-in_err-write_l1_table.result (of_storage c.in_err-write_l1_table.field-0.0) c.from_residual-in_err-write_l1_table.ensures
    (keeps_then view below out old image new q q q (λ k some. some) kept
    (keeps_placed view below out p image t c.args.cluster kept.sound there c.in_ok-flush_rb.ensures.flushes.written c.in_ok-flush_rb.ensures.flushes.first (storage_of c.set_write_kind.new.self) (storage_of c.write_l1_table.new.self) c.write_l1_table.result c.set_write_kind.ensures.storage
    (table_write_as view t c.args.cluster old.file.header.fields.cluster_bits c.set_cluster.new.self c.write_l1_table.result (storage_of c.set_write_kind.new.self) (storage_of c.write_l1_table.new.self) c.set_cluster.ensures longer.bits c.write_l1_table.ensures.writes.written)
    c.write_l1_table.ensures.writes.calls c.write_l1_table.new.self refl))

pub returns-clause-places : goal.returns-clause-places
returns-clause-places g c = λ p out sound longer.
    let view = g.S.Storage.view in
    let below = g.F.BackingDisk.backing in
    let old = c.args.self.now in
    let t = c.args.table.now in
    let q = with_table p t c.args.cluster in
    let stay = c.flush_rb.ensures.sound.keeps old.file.header.fields q sound.file.honest sound.file.caches in
    let kept = caches_moved view below old out q sound c.flush_rb.new.storage c.flush_rb.new.self stay c.flush_rb.ensures.step.marks.pins.room c.flush_rb.ensures.step.marks.pins.pins in
    let image = with_caches view below old out q sound c.flush_rb.new.storage c.flush_rb.new.self in
    let there : IsLongerL1 image t = record { bits = longer.bits; whole = longer.whole; longer = longer.longer; entries = longer.entries } in
    let new = record image { file = record image.file { storage = c.write_l1_table.new.self } } in
    let wrote = table_write_as view t c.args.cluster old.file.header.fields.cluster_bits c.set_cluster.new.self c.write_l1_table.result (storage_of c.set_write_kind.new.self) (storage_of c.write_l1_table.new.self) c.set_cluster.ensures longer.bits c.write_l1_table.ensures.writes.written in (
      keeps_then view below out old image new q q q (λ k some. some) kept
          (keeps_placed view below out p image t c.args.cluster kept.sound there c.in_ok-flush_rb.ensures.flushes.written c.in_ok-flush_rb.ensures.flushes.first (storage_of c.set_write_kind.new.self) (storage_of c.write_l1_table.new.self) c.write_l1_table.result c.set_write_kind.ensures.storage wrote
          c.write_l1_table.ensures.writes.calls c.write_l1_table.new.self refl),
      stands_whole view below out p image t c.args.cluster kept.sound there c.in_ok-flush_rb.ensures.flushes.written c.in_ok-flush_rb.ensures.flushes.first (storage_of c.set_write_kind.new.self) (storage_of c.write_l1_table.new.self) c.write_l1_table.result c.set_write_kind.ensures.storage wrote
          c.write_l1_table.ensures.writes.calls c.write_l1_table.new.self refl c.set_cluster.new.self c.set_cluster.ensures c.in_ok-write_l1_table.field-0 c.in_ok-write_l1_table.was,
    )

pub returns-then-not-is_nameable-clause-places : goal.returns-then-not-is_nameable-clause-places
returns-then-not-is_nameable-clause-places g c = λ p out sound longer. keeps_none g.S.Storage.view g.F.BackingDisk.backing out (with_table p c.args.table.now c.args.cluster) c.args.self.now sound

pub returns-then-not-is_nameable-clause-notes : goal.returns-then-not-is_nameable-clause-notes
returns-then-not-is_nameable-clause-notes g c = notes_none

pub returns-in_err-flush_rb-clause-notes : goal.returns-in_err-flush_rb-clause-notes
returns-in_err-flush_rb-clause-notes g c = (notes_of_both c.flush_rb.ensures.step.marks.pins c.flush_rb.ensures.step.marks.notes)

pub returns-in_err-write_l1_table-clause-notes : goal.returns-in_err-write_l1_table-clause-notes
returns-in_err-write_l1_table-clause-notes g c = notes_then (notes_of_both c.flush_rb.ensures.step.marks.pins c.flush_rb.ensures.step.marks.notes) (notes_of_storage (placed_kept c.flush_rb.new.storage c.set_write_kind.new.self c.write_l1_table.new.self c.write_l1_table.result c.set_write_kind.ensures.storage c.set_write_kind.ensures.changed c.set_cluster.new.self.cluster _ (subst (λ (x : EntryTableView). IsSome x.cluster) (sym c.set_cluster.ensures) refl) c.write_l1_table.ensures.writes.written c.write_l1_table.ensures.writes.calls c.write_l1_table.ensures.writes.recorded))

pub returns-clause-notes : goal.returns-clause-notes
returns-clause-notes g c = notes_then (notes_of_both c.flush_rb.ensures.step.marks.pins c.flush_rb.ensures.step.marks.notes) (notes_of_storage (placed_kept c.flush_rb.new.storage c.set_write_kind.new.self c.write_l1_table.new.self c.write_l1_table.result c.set_write_kind.ensures.storage c.set_write_kind.ensures.changed c.set_cluster.new.self.cluster _ (subst (λ (x : EntryTableView). IsSome x.cluster) (sym c.set_cluster.ensures) refl) c.write_l1_table.ensures.writes.written c.write_l1_table.ensures.writes.calls c.write_l1_table.ensures.writes.recorded))

pub returns-then-not-is_nameable-clause-header_cluster : goal.returns-then-not-is_nameable-clause-header_cluster
returns-then-not-is_nameable-clause-header_cluster g c = λ as_wide some. behind_none

pub returns-in_err-flush_rb-clause-header_cluster : goal.returns-in_err-flush_rb-clause-header_cluster
returns-in_err-flush_rb-clause-header_cluster g c = λ as_wide some. behind_caches c.flush_rb.ensures.step.header_cluster

pub returns-in_err-write_l1_table-clause-header_cluster : goal.returns-in_err-write_l1_table-clause-header_cluster
returns-in_err-write_l1_table-clause-header_cluster g c = λ as_wide some.
    behind_then (behind_caches c.flush_rb.ensures.step.header_cluster)
    (behind_placed c.write_l1_table.result c.set_cluster.new.self.cluster (λ k. k * 2 ^ c.set_cluster.new.self.cluster_bits) _ (ap g.S.Storage.view c.set_write_kind.ensures.storage) (subst (λ (x : EntryTableView). IsSome x.cluster) (sym c.set_cluster.ensures) refl)
    (λ bits lies. begins_behind c.set_cluster.new.self bits (l1_placed c.args.self.now.l1_table c.args.self.now.l1_table c.args.table.now c.set_cluster.new.self c.args.cluster refl c.set_cluster.ensures as_wide some bits lies.l1)) c.write_l1_table.ensures.writes.written c.write_l1_table.ensures.writes.calls)

pub returns-clause-header_cluster : goal.returns-clause-header_cluster
returns-clause-header_cluster g c = λ as_wide some.
    behind_then (behind_caches c.flush_rb.ensures.step.header_cluster)
    (behind_placed c.write_l1_table.result c.set_cluster.new.self.cluster (λ k. k * 2 ^ c.set_cluster.new.self.cluster_bits) _ (ap g.S.Storage.view c.set_write_kind.ensures.storage) (subst (λ (x : EntryTableView). IsSome x.cluster) (sym c.set_cluster.ensures) refl)
    (λ bits lies. begins_behind c.set_cluster.new.self bits (l1_placed c.args.self.now.l1_table c.args.self.now.l1_table c.args.table.now c.set_cluster.new.self c.args.cluster refl c.set_cluster.ensures as_wide some bits lies.l1)) c.write_l1_table.ensures.writes.written c.write_l1_table.ensures.writes.calls)

pub returns-then-not-is_nameable-clause-fault : goal.returns-then-not-is_nameable-clause-fault
returns-then-not-is_nameable-clause-fault g c = λ p out sound near. absurd (not_both c.is_nameable.result (c.is_nameable.ensures.1 (subst (λ n. IsHostCluster n c.args.cluster) (sym c.cluster_bits.ensures.value) near)) c.if-not-is_nameable.true)

pub returns-in_err-flush_rb-clause-fault : goal.returns-in_err-flush_rb-clause-fault
returns-in_err-flush_rb-clause-fault g c = λ p out sound near.
    hands_fault c.from_residual.result c.in_err-flush_rb.field-0.0 c.from_residual.ensures
    (faults_alone {A = Unit {0}} (Err c.in_err-flush_rb.field-0.0) (file_fits g.S.Storage.view (with_table p c.args.table.now c.args.cluster) c.args.self.now.file sound.file) c.in_err-flush_rb.ensures.fails)

pub returns-in_err-write_l1_table-clause-fault : goal.returns-in_err-write_l1_table-clause-fault
returns-in_err-write_l1_table-clause-fault g c = λ p out sound near.
    hands_fault c.from_residual-in_err-write_l1_table.result (of_storage c.in_err-write_l1_table.field-0.0) c.from_residual-in_err-write_l1_table.ensures (fault_of_storage c.in_err-write_l1_table.field-0.0)

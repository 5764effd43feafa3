use Rattle.qcow2_image.proofs.image.Qcow2.write_l2_bytes.Goals as goal
use Rattle.std.proofs.Common.{◌≡◌, ◌^◌, ◌<◌, ◌*◌, inl, arith, false, length, refl, ap, ◌∙◌, subst, sym, IsSome, rules, Some}
use Rattle.qcow2_image.proofs.Common.{IfSome, OnOk, L2TableView, of_storage, storage_of, l2_at, InsertKeeps, IsTableOf, handed_on, PlacesNewTable, notes_none, notes_then, notes_of_both, notes_of_storage, placed_kept, CachesSpareHeader, not_both, IsHostCluster, HasPinnedMapping, MayFailLooking, IfOk-weaker, fault_of_storage, file_inserts}
use Rattle.qcow2_image.proofs.Lemmas.{keeps_then, holds, keeps_placed, keeps_put, keeps_stored, places_when, stands_ready, stands_there, behind_caches, behind_none, behind_placed, behind_then, table_behind, faults_looking, hands_met}

pub returns-in_err-write_new_l2_table-clause-places : goal.returns-in_err-write_new_l2_table-clause-places
returns-in_err-write_new_l2_table-clause-places g c = λ p out sound some format stored.
    let view = g.S.Storage.view in
    let below = g.F.BackingDisk.backing in
    let old = c.args.self.now in
    let whole = subst (λ (t : L2TableView). length t.bytes ≡ 2 ^ t.cluster_bits) c.table.view_is c.table.invariant.whole in
    handed_on (PlacesNewTable view below p old (record old { file = record old.file { storage = c.write_new_l2_table.new.self } }) out c.args.cluster c.args.table.bytes) c.from_residual.result (of_storage c.in_err-write_new_l2_table.field-0.0) c.from_residual.ensures
    (keeps_placed view below old out p sound stored c.args.cluster some c.write_new_l2_table.new.self (storage_of c.set_write_kind.new.self) c.args.table c.set_cluster.new.self c.write_new_l2_table.result c.set_write_kind.ensures.storage c.set_cluster.ensures format.bits whole
    c.write_new_l2_table.ensures.writes.written c.write_new_l2_table.ensures.writes.calls)

pub returns-clause-places : goal.returns-clause-places
returns-clause-places g c = λ p out sound some format stored.
    let view = g.S.Storage.view in
    let below = g.F.BackingDisk.backing in
    let old = c.args.self.now in
    let h = old.file.header.fields in
    let at = c.args.cluster in
    let mid = record old { file = record old.file { storage = c.write_new_l2_table.new.self } } in
    let new = record old { file = record old.file { storage = c.l2_insert.new.storage; caches = c.l2_insert.new.self } } in
    let whole = subst (λ (t : L2TableView). length t.bytes ≡ 2 ^ t.cluster_bits) c.table.view_is c.table.invariant.whole in
    let long = whole ∙ ap (λ n. 2 ^ n) format.bits in
    let wrote = keeps_placed view below old out p sound stored at some c.write_new_l2_table.new.self (storage_of c.set_write_kind.new.self) c.args.table c.set_cluster.new.self c.write_new_l2_table.result c.set_write_kind.ensures.storage c.set_cluster.ensures format.bits whole
    c.write_new_l2_table.ensures.writes.written c.write_new_l2_table.ensures.writes.calls in
    let still = keeps_stored view below old out p sound stored at some c.write_new_l2_table.new.self (storage_of c.set_write_kind.new.self) c.args.table c.set_cluster.new.self c.write_new_l2_table.result c.set_write_kind.ensures.storage c.set_cluster.ensures format.bits whole
    c.write_new_l2_table.ensures.writes.written c.write_new_l2_table.ensures.writes.calls in
    let there = stands_there view below old out p sound stored at some c.write_new_l2_table.new.self (storage_of c.set_write_kind.new.self) c.args.table c.set_cluster.new.self c.write_new_l2_table.result c.set_write_kind.ensures.storage c.set_cluster.ensures format.bits whole
    c.write_new_l2_table.ensures.writes.written c.write_new_l2_table.ensures.writes.calls c.in_ok-write_new_l2_table.field-0 c.in_ok-write_new_l2_table.was in
    let is : c.clear_modified.new.self ≡ record c.args.table { cluster = Some at; is_modified = false } = c.clear_modified.ensures ∙ ap (λ (t : L2TableView). record t { is_modified = false }) c.set_cluster.ensures in
    let puts = subst (λ (t : L2TableView). InsertKeeps view c.write_new_l2_table.new.self old.file.caches c.l2_insert.new.storage c.l2_insert.new.self (λ h. IsTableOf h t) t.cluster t.bytes t.is_modified) is c.l2_insert.ensures.sound.keeps in
    let new_data = subst (λ (t : L2TableView). OnOk c.l2_insert.result (IfSome t.cluster (λ k. l2_at c.l2_insert.new.self k ≡ Some t))) is c.l2_insert.ensures.puts.cached in
    let unmodified = ap (λ (t : L2TableView). t.is_modified) is in
    let stays = puts h p wrote.sound.file.honest wrote.sound.file.caches (record { bits = format.bits; zero_bit = format.zero_bit; external = format.external }) refl (holds view below mid out p wrote.sound still at some c.args.table.bytes long there) in
    let put = keeps_put view below mid out p wrote.sound still at some c.args.table.bytes long there c.l2_insert.new.storage c.l2_insert.new.self stays c.l2_insert.ensures.step.marks.pins.room c.l2_insert.ensures.step.marks.pins.pins c.l2_insert.ensures.written.blocks
    (λ may. c.l2_insert.ensures.written.first may unmodified) in
    places_when view below old new out p at c.args.table.bytes c.l2_insert.result (keeps_then view below out old mid new p p p (λ k h. h) wrote put)
    (IfOk-weaker c.l2_insert.result _ _
    (λ x found. stands_ready view below mid out p wrote.sound still at some c.args.table.bytes long there c.l2_insert.new.storage c.l2_insert.new.self stays c.l2_insert.ensures.step.marks.pins.room c.l2_insert.ensures.step.marks.pins.pins c.l2_insert.ensures.written.blocks
    (λ may. c.l2_insert.ensures.written.first may unmodified) (record c.args.table { cluster = Some at; is_modified = false }) found refl) new_data)

pub returns-clause-may_fail : goal.returns-clause-may_fail
returns-clause-may_fail g c = λ p out sound some format stored near.
    faults_looking g.S.Storage.view g.F.BackingDisk.backing out p c.args.self.now sound c.l2_insert.result
    (file_inserts g.S.Storage.view p c.args.self.now.file sound.file c.l2_insert.result c.l2_insert.ensures.fails)

pub returns-then-not-is_nameable-clause-may_fail : goal.returns-then-not-is_nameable-clause-may_fail
returns-then-not-is_nameable-clause-may_fail g c = λ p out sound some format stored near. not_both c.is_nameable.result (c.is_nameable.ensures.1 (subst (λ n. IsHostCluster n c.args.cluster) (sym c.cluster_bits.ensures.value) near)) c.if-not-is_nameable.true

pub returns-in_err-write_new_l2_table-clause-may_fail : goal.returns-in_err-write_new_l2_table-clause-may_fail
returns-in_err-write_new_l2_table-clause-may_fail g c = λ p out sound some format stored near. hands_met (MayFailLooking (HasPinnedMapping out)) c.from_residual.result (of_storage c.in_err-write_new_l2_table.field-0.0) c.from_residual.ensures (inl (fault_of_storage c.in_err-write_new_l2_table.field-0.0))

pub returns-then-not-is_nameable-clause-step : goal.returns-then-not-is_nameable-clause-step
returns-then-not-is_nameable-clause-step g c = record { stays = search rules; notes = notes_none; header_cluster = λ some. behind_none }

pub returns-in_err-write_new_l2_table-clause-step : goal.returns-in_err-write_new_l2_table-clause-step
returns-in_err-write_new_l2_table-clause-step g c = record {
  stays = search rules;
  notes = notes_of_storage (placed_kept c.args.self.now.file.storage c.set_write_kind.new.self c.write_new_l2_table.new.self c.write_new_l2_table.result c.set_write_kind.ensures.storage c.set_write_kind.ensures.changed c.set_cluster.new.self.cluster _ (subst (λ (x : L2TableView). IsSome x.cluster) (sym c.set_cluster.ensures) refl) c.write_new_l2_table.ensures.writes.written c.write_new_l2_table.ensures.writes.calls c.write_new_l2_table.ensures.writes.recorded);
  header_cluster = λ some.
      let as_wide : c.args.table.cluster_bits ≡ c.args.self.now.file.header.fields.cluster_bits = omega arith in
      (behind_placed c.write_new_l2_table.result c.set_cluster.new.self.cluster (λ k. k * 2 ^ c.set_cluster.new.self.cluster_bits) c.set_cluster.new.self.bytes (ap g.S.Storage.view c.set_write_kind.ensures.storage) (subst (λ (x : L2TableView). IsSome x.cluster) (sym c.set_cluster.ensures) refl)
      (λ bits lies. table_behind c.args.table c.set_cluster.new.self c.args.cluster c.set_cluster.ensures bits (as_wide ∙ lies.header) some) c.write_new_l2_table.ensures.writes.written c.write_new_l2_table.ensures.writes.calls);
}

pub returns-clause-step : goal.returns-clause-step
returns-clause-step g c = record {
  stays = search rules;
  notes = notes_then (notes_of_storage (placed_kept c.args.self.now.file.storage c.set_write_kind.new.self c.write_new_l2_table.new.self c.write_new_l2_table.result c.set_write_kind.ensures.storage c.set_write_kind.ensures.changed c.set_cluster.new.self.cluster _ (subst (λ (x : L2TableView). IsSome x.cluster) (sym c.set_cluster.ensures) refl) c.write_new_l2_table.ensures.writes.written c.write_new_l2_table.ensures.writes.calls c.write_new_l2_table.ensures.writes.recorded)) (notes_of_both c.l2_insert.ensures.step.marks.pins c.l2_insert.ensures.step.marks.notes);
  header_cluster = λ some.
      let as_wide : c.args.table.cluster_bits ≡ c.args.self.now.file.header.fields.cluster_bits = omega arith in
      let is : c.clear_modified.new.self ≡ record c.args.table { cluster = Some c.args.cluster; is_modified = false } = c.clear_modified.ensures ∙ ap (λ (t : L2TableView). record t { is_modified = false }) c.set_cluster.ensures in
      let spares = subst (λ (t : L2TableView). IfSome t.cluster (λ cluster. 0 < cluster → CachesSpareHeader g.S.Storage.view c.write_new_l2_table.new.self c.args.self.now.file.caches c.l2_insert.new.storage c.l2_insert.new.self)) is c.l2_insert.ensures.step.header_cluster in
      behind_then
      (behind_placed c.write_new_l2_table.result c.set_cluster.new.self.cluster (λ k. k * 2 ^ c.set_cluster.new.self.cluster_bits) c.set_cluster.new.self.bytes (ap g.S.Storage.view c.set_write_kind.ensures.storage) (subst (λ (x : L2TableView). IsSome x.cluster) (sym c.set_cluster.ensures) refl)
      (λ bits lies. table_behind c.args.table c.set_cluster.new.self c.args.cluster c.set_cluster.ensures bits (as_wide ∙ lies.header) some) c.write_new_l2_table.ensures.writes.written c.write_new_l2_table.ensures.writes.calls)
      (behind_caches (spares some));
}

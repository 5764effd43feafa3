use Rattle.std.proofs.Common.{◌*◌, ◌^◌, ◌<◌, subst, refl, sym, IsSome, ◌∙◌, IfSome}
use Rattle.qcow2_alloc.proofs.Common.{overwritten, Changes, EntryTableView, with_run, of_storage, KeepsHeaderCluster, storage_of, WritesTable}
use Rattle.qcow2_alloc.proofs.Lemmas.{handed_on, table_refused, table_stands, placed_kept, marks_of_storage, fails_ok, fails_since, fails_storage, same_faults, placed_elsewhere}
use Rattle.qcow2_alloc.proofs.new_refblocks.place_table.Goals as goal

pub returns-in_err-write_reftable-clause-sound : goal.returns-in_err-write_reftable-clause-sound
returns-in_err-write_reftable-clause-sound g c = λ p first n clusters a sound may low high t_bits long.
    let view = g.S.Storage.view in
    let old = c.args.file.now in
    let asked = storage_of c.set_write_kind.new.self in
    let written = subst (λ (x : EntryTableView). IfSome x.cluster (λ k. Changes (view asked) (view (storage_of c.write_reftable.new.self)) c.write_reftable.result (λ b. overwritten b (k * 2 ^ x.cluster_bits) x.bytes))) c.set_cluster.ensures c.write_reftable.ensures.writes.written in
    handed_on (WritesTable view (with_run p old.header.fields a.reftable first n) old a (record old { storage = c.write_reftable.new.self }) c.args.cluster clusters c.args.table.now.bytes) c.from_residual.result (of_storage c.in_err-write_reftable.field-0.0) c.from_residual.ensures
    (table_refused view p first n old a sound may c.args.cluster clusters low high c.args.table.now t_bits long asked c.write_reftable.new.self c.write_reftable.result c.set_write_kind.ensures.storage written c.write_reftable.ensures.writes.calls c.in_err-write_reftable.field-0.0)

pub returns-clause-sound : goal.returns-clause-sound
returns-clause-sound g c = λ p first n clusters a sound may low high t_bits long.
    let view = g.S.Storage.view in
    let asked = storage_of c.set_write_kind.new.self in
    let written = subst (λ (x : EntryTableView). IfSome x.cluster (λ k. Changes (view asked) (view (storage_of c.write_reftable.new.self)) c.write_reftable.result (λ b. overwritten b (k * 2 ^ x.cluster_bits) x.bytes))) c.set_cluster.ensures c.write_reftable.ensures.writes.written in
    table_stands view p first n c.args.file.now a sound may c.args.cluster clusters low high c.args.table.now t_bits long asked c.write_reftable.new.self c.write_reftable.result c.set_write_kind.ensures.storage written c.write_reftable.ensures.writes.calls c.in_ok-write_reftable.field-0 c.in_ok-write_reftable.was

pub returns-in_err-write_reftable-clause-fails : goal.returns-in_err-write_reftable-clause-fails
returns-in_err-write_reftable-clause-fails g c = fails_since (same_faults g.S.Storage.view c.set_write_kind.ensures.storage) (fails_storage c.from_residual.result c.in_err-write_reftable.field-0.0 c.from_residual.ensures c.in_err-write_reftable.ensures.writes.calls.cause)

pub returns-clause-fails : goal.returns-clause-fails
returns-clause-fails g c = fails_ok (c.in_ok-write_reftable.ensures.writes.calls.cause.told ∙ same_faults g.S.Storage.view c.set_write_kind.ensures.storage)

pub returns-in_err-write_reftable-clause-step : goal.returns-in_err-write_reftable-clause-step
returns-in_err-write_reftable-clause-step g c = record {
  header = refl;
  list = refl;
  marks = marks_of_storage refl (placed_kept c.args.file.now.storage c.set_write_kind.new.self c.write_reftable.new.self c.write_reftable.result c.set_write_kind.ensures.storage c.set_write_kind.ensures.changed c.set_cluster.new.self.cluster _
      (subst (λ (x : EntryTableView). IsSome x.cluster) (sym c.set_cluster.ensures) refl) c.write_reftable.ensures.writes.written c.write_reftable.ensures.writes.calls c.write_reftable.ensures.writes.recorded);
  header_cluster = subst (λ s. KeepsHeaderCluster c.args.table.now.cluster_bits (g.S.Storage.view s) (g.S.Storage.view (storage_of c.write_reftable.new.self))) c.set_write_kind.ensures.storage
      (subst (λ (x : EntryTableView). KeepsHeaderCluster x.cluster_bits (g.S.Storage.view (storage_of c.set_write_kind.new.self)) (g.S.Storage.view (storage_of c.write_reftable.new.self))) c.set_cluster.ensures (placed_elsewhere c.set_cluster.new.self.cluster_bits c.set_cluster.new.self.bytes c.set_cluster.new.self.cluster (subst (λ (x : EntryTableView). IsSome x.cluster) (sym c.set_cluster.ensures) refl) (subst (λ (x : EntryTableView). IfSome x.cluster (λ k. 0 < k)) (sym c.set_cluster.ensures) c.requires.elsewhere) c.write_reftable.ensures.writes));
  behind = λ n are. are;
}

pub returns-clause-step : goal.returns-clause-step
returns-clause-step g c = record {
  header = refl;
  list = refl;
  marks = marks_of_storage refl (placed_kept c.args.file.now.storage c.set_write_kind.new.self c.write_reftable.new.self c.write_reftable.result c.set_write_kind.ensures.storage c.set_write_kind.ensures.changed c.set_cluster.new.self.cluster _
      (subst (λ (x : EntryTableView). IsSome x.cluster) (sym c.set_cluster.ensures) refl) c.write_reftable.ensures.writes.written c.write_reftable.ensures.writes.calls c.write_reftable.ensures.writes.recorded);
  header_cluster = subst (λ s. KeepsHeaderCluster c.args.table.now.cluster_bits (g.S.Storage.view s) (g.S.Storage.view (storage_of c.write_reftable.new.self))) c.set_write_kind.ensures.storage
      (subst (λ (x : EntryTableView). KeepsHeaderCluster x.cluster_bits (g.S.Storage.view (storage_of c.set_write_kind.new.self)) (g.S.Storage.view (storage_of c.write_reftable.new.self))) c.set_cluster.ensures (placed_elsewhere c.set_cluster.new.self.cluster_bits c.set_cluster.new.self.bytes c.set_cluster.new.self.cluster (subst (λ (x : EntryTableView). IsSome x.cluster) (sym c.set_cluster.ensures) refl) (subst (λ (x : EntryTableView). IfSome x.cluster (λ k. 0 < k)) (sym c.set_cluster.ensures) c.requires.elsewhere) c.write_reftable.ensures.writes));
  behind = λ n are. are;
}

use Rattle.std.proofs.Common.{◌+◌, ◌*◌, ◌^◌, inr, sym, ap, ◌∙◌, refl, subst}
use Rattle.qcow2_alloc.proofs.Common.{with_run, IsOfTablesIf, MetadataError, NamesReftable, of_storage, of_metadata, storage_of, KeepsUsed, KeepsHeader, ImageFile, PreservesHeaderButPointer, HeaderView}
use Rattle.qcow2_alloc.proofs.Lemmas.{fails_aligned, handed_on, fault_of_storage, header_same, note_kept, spares_pointer, placed_above, kept_marks_none, told_kept, marks_of_storage, fails_by, limit_other, fails_ok, fails_on, fails_since, fails_storage, other_as, same_faults}
use Rattle.qcow2_alloc.proofs.NamedReftables.{within_limit, interrupted_named, allocator_step_named, keeps_used}
use Rattle.qcow2_alloc.proofs.SparedHeaders.{spares_none}
use Rattle.qcow2_alloc.specs.declared.error.ImageError.TheVariants as I
use Rattle.qcow2_alloc.proofs.allocation.Allocator.name_reftable.Goals as goal

pub returns-in_err-set_reftable-clause-sound : goal.returns-in_err-set_reftable-clause-sound
returns-in_err-set_reftable-clause-sound g c = λ p first blocks clusters sound ready.
    absurd (within_limit g.S.Storage.view p first blocks clusters c.args.file.now c.args.self.now c.args.table c.in-Some.cluster c.offset-offset.result c.value-clusters.result
    sound ready c.in-Some.ensures.is_table (sym c.in-Some.ensures.value) (c.offset-offset.ensures ∙ ap (λ b. c.in-Some.cluster * 2 ^ b) c.cluster_bits.ensures.value) (c.value-clusters.ensures ∙ c.cluster_count.ensures)
    c.in_err-set_reftable.ensures.err.1)

pub returns-in_err-write_reftable_pointer-clause-sound : goal.returns-in_err-write_reftable_pointer-clause-sound
returns-in_err-write_reftable_pointer-clause-sound g c = λ p first blocks clusters sound ready.
    let view = g.S.Storage.view in
    let e = c.in_err-write_reftable_pointer.field-0.0 in
    let new : ImageFile g.row.S.Denot = record c.args.file.now { storage = c.write_reftable_pointer.new.self; header = c.set_reftable.new.self } in
    let broke = interrupted_named g.S.Storage.view p first blocks clusters c.args.file.now c.args.self.now c.args.table c.in-Some.cluster c.offset-offset.result c.value-clusters.result
    sound ready c.in-Some.ensures.is_table (sym c.in-Some.ensures.value) (c.offset-offset.ensures ∙ ap (λ b. c.in-Some.cluster * 2 ^ b) c.cluster_bits.ensures.value) (c.value-clusters.ensures ∙ c.cluster_count.ensures)
    c.set_reftable.new.self c.write_reftable_pointer.new.self (storage_of c.set_write_kind.new.self) c.write_reftable_pointer.result c.in_ok-set_reftable.ensures.ok
    c.set_write_kind.ensures.storage c.write_reftable_pointer.ensures.writes.written c.write_reftable_pointer.ensures.writes.calls
    (note_kept c.set_write_kind.new.self c.write_reftable_pointer.new.self c.write_reftable_pointer.result c.write_reftable_pointer.ensures.writes.recorded (c.set_write_kind.ensures.changed.note ∙ c.requires.recorded)) (of_storage c.in_err-write_reftable_pointer.field-0.0) (fault_of_storage c.in_err-write_reftable_pointer.field-0.0) in
    record {
      names = handed_on (NamesReftable view (with_run p c.args.file.now.header.fields c.args.self.now.reftable first (blocks + clusters)) p c.args.file.now c.args.self.now new)
          c.from_residual-in_err-write_reftable_pointer.result (of_storage e) c.from_residual-in_err-write_reftable_pointer.ensures (fault_of_storage e, inr broke);
      uses = handed_on (KeepsUsed view c.args.file.now new) c.from_residual-in_err-write_reftable_pointer.result (of_storage e) c.from_residual-in_err-write_reftable_pointer.ensures (inr (broke.fault, broke.recorded));
    }

pub returns-clause-sound : goal.returns-clause-sound
returns-clause-sound g c = λ p first blocks clusters sound ready.
    record {
      names = allocator_step_named g.S.Storage.view p first blocks clusters c.args.file.now c.args.self.now c.args.table c.in-Some.cluster c.offset-offset.result c.value-clusters.result
          sound ready c.in-Some.ensures.is_table (sym c.in-Some.ensures.value) (c.offset-offset.ensures ∙ ap (λ b. c.in-Some.cluster * 2 ^ b) c.cluster_bits.ensures.value) (c.value-clusters.ensures ∙ c.cluster_count.ensures)
          c.set_reftable.new.self c.write_reftable_pointer.new.self (storage_of c.set_write_kind.new.self) c.write_reftable_pointer.result c.in_ok-set_reftable.ensures.ok
          c.set_write_kind.ensures.storage c.write_reftable_pointer.ensures.writes.written c.write_reftable_pointer.ensures.writes.calls
          c.in_ok-write_reftable_pointer.field-0 c.in_ok-write_reftable_pointer.was;
      uses = keeps_used g.S.Storage.view p first blocks clusters c.args.file.now c.args.self.now c.args.table c.in-Some.cluster c.offset-offset.result c.value-clusters.result
          sound ready c.in-Some.ensures.is_table (sym c.in-Some.ensures.value) (c.offset-offset.ensures ∙ ap (λ b. c.in-Some.cluster * 2 ^ b) c.cluster_bits.ensures.value) (c.value-clusters.ensures ∙ c.cluster_count.ensures)
          c.set_reftable.new.self c.write_reftable_pointer.new.self (storage_of c.set_write_kind.new.self) c.write_reftable_pointer.result c.in_ok-set_reftable.ensures.ok
          c.set_write_kind.ensures.storage c.write_reftable_pointer.ensures.writes.written c.write_reftable_pointer.ensures.writes.calls
          c.in_ok-write_reftable_pointer.field-0 c.in_ok-write_reftable_pointer.was;
    }

pub returns-in_default-clause-step : goal.returns-in_default-clause-step
returns-in_default-clause-step g c = record {
  header = header_same c.args.file.now.header c.args.file.now.header refl;
  list = refl;
  marks = kept_marks_none;
  header_cluster = λ is. spares_none;
}

pub returns-in_default-clause-fails : goal.returns-in_default-clause-fails
returns-in_default-clause-fails g c = fails_by I.Limit limit_other refl tt

pub returns-in_err-set_reftable-clause-step : goal.returns-in_err-set_reftable-clause-step
returns-in_err-set_reftable-clause-step g c = record {
  header = header_same c.args.file.now.header c.set_reftable.new.self c.in_err-set_reftable.ensures.same;
  list = refl;
  marks = kept_marks_none;
  header_cluster = λ is. subst (λ (x : HeaderView). PreservesHeaderButPointer g.S.Storage.view c.args.self.now.reftable c.args.file.now c.args.self.now.reftable (record c.args.file.now { header = x })) (sym c.in_err-set_reftable.ensures.same) spares_none;
}

pub returns-in_err-write_reftable_pointer-clause-step : goal.returns-in_err-write_reftable_pointer-clause-step
returns-in_err-write_reftable_pointer-clause-step g c = record {
  header = subst (λ (x : HeaderView). KeepsHeader c.args.file.now.header x) (sym c.in_ok-set_reftable.ensures.ok) refl;
  list = refl;
  marks = (marks_of_storage refl (told_kept c.args.file.now.storage c.set_write_kind.new.self c.write_reftable_pointer.new.self c.write_reftable_pointer.result c.set_write_kind.ensures.storage c.set_write_kind.ensures.changed _ c.write_reftable_pointer.ensures.writes.written c.write_reftable_pointer.ensures.writes.calls c.write_reftable_pointer.ensures.writes.recorded));
  header_cluster = λ is. spares_pointer g.S.Storage.view c.args.self.now.reftable c.args.file.now c.set_reftable.new.self c.args.file.now.caches (storage_of c.set_write_kind.new.self) c.write_reftable_pointer.new.self _ _ c.write_reftable_pointer.result c.in_ok-set_reftable.ensures.ok (λ bits are. are) c.set_write_kind.ensures.storage c.write_reftable_pointer.ensures.writes.written c.write_reftable_pointer.ensures.writes.calls c.args.self.now.reftable (λ n stands. (stands.reftable_bits, stands.elsewhere));
}

pub returns-clause-step : goal.returns-clause-step
returns-clause-step g c = record {
  header = subst (λ (x : HeaderView). KeepsHeader c.args.file.now.header x) (sym c.in_ok-set_reftable.ensures.ok) refl;
  list = refl;
  marks = (marks_of_storage refl (told_kept c.args.file.now.storage c.set_write_kind.new.self c.write_reftable_pointer.new.self c.write_reftable_pointer.result c.set_write_kind.ensures.storage c.set_write_kind.ensures.changed _ c.write_reftable_pointer.ensures.writes.written c.write_reftable_pointer.ensures.writes.calls c.write_reftable_pointer.ensures.writes.recorded));
  header_cluster = λ is. spares_pointer g.S.Storage.view c.args.self.now.reftable c.args.file.now c.set_reftable.new.self c.args.file.now.caches (storage_of c.set_write_kind.new.self) c.write_reftable_pointer.new.self _ _ c.write_reftable_pointer.result c.in_ok-set_reftable.ensures.ok (λ bits are. are) c.set_write_kind.ensures.storage c.write_reftable_pointer.ensures.writes.written c.write_reftable_pointer.ensures.writes.calls c.args.table (λ n stands. (is.bits ∙ stands.header, λ has. placed_above c.args.table.cluster is.elsewhere));
}

pub returns-in_err-set_reftable-clause-fails : goal.returns-in_err-set_reftable-clause-fails
returns-in_err-set_reftable-clause-fails g c =
    let e = c.in_err-set_reftable.field-0.0 in
    fails_aligned (fails_on c.from_residual.result (of_metadata e) c.from_residual.ensures (fails_by (of_metadata e) (other_as (ap of_metadata c.in_err-set_reftable.ensures.err.0) limit_other) refl (subst (λ (x : MetadataError). IsOfTablesIf ⊥ (of_metadata x)) (sym c.in_err-set_reftable.ensures.err.0) tt)))

pub returns-in_err-write_reftable_pointer-clause-fails : goal.returns-in_err-write_reftable_pointer-clause-fails
returns-in_err-write_reftable_pointer-clause-fails g c = fails_since (same_faults g.S.Storage.view c.set_write_kind.ensures.storage) (fails_storage c.from_residual-in_err-write_reftable_pointer.result c.in_err-write_reftable_pointer.field-0.0 c.from_residual-in_err-write_reftable_pointer.ensures c.in_err-write_reftable_pointer.ensures.writes.calls.cause)

pub returns-clause-fails : goal.returns-clause-fails
returns-clause-fails g c = fails_ok (c.in_ok-write_reftable_pointer.ensures.writes.calls.cause.told ∙ same_faults g.S.Storage.view c.set_write_kind.ensures.storage)

use Rattle.qcow2_image.proofs.image.Qcow2.name_l1_table.Goals as goal
use Rattle.std.proofs.Common.{◌*◌, ◌^◌, ◌≤◌, ap, ◌∙◌, arith, rules}
use Rattle.qcow2_image.proofs.Common.{entry_count, of_storage, storage_of, handed_on, NamesTable, notes_none, notes_of_storage, told_kept, HeaderView, fault_of_storage}
use Rattle.qcow2_image.proofs.Grow.NamedL1Table.{named_interruption, named_so}
use Rattle.qcow2_image.proofs.Lemmas.{behind_bits, behind_l1, behind_pointer, behind_then, hands_fault}

pub returns-in_err-write_l1_table_pointer-clause-names : goal.returns-in_err-write_l1_table_pointer-clause-names
returns-in_err-write_l1_table_pointer-clause-names g c = λ p out sound recorded ready.
    let view = g.S.Storage.view in
    let old = c.args.self.now in
    let t = c.args.table in
    let few : entry_count c.args.table ≤ 4194304 = omega (arith, c.len.ensures.value, c.len.ensures.limit) in
    let at = c.offset-offset.ensures ∙ ap (λ n. c.args.cluster * 2 ^ n) c.cluster_bits.ensures.value in
    handed_on (NamesTable view g.F.BackingDisk.backing p old (record old { file = record old.file { storage = c.write_l1_table_pointer.new.self; header = c.set_l1_table.new.self } }) out t c.args.cluster)
    c.from_residual-in_err-write_l1_table_pointer.result (of_storage c.in_err-write_l1_table_pointer.field-0.0) c.from_residual-in_err-write_l1_table_pointer.ensures
    (named_interruption view g.F.BackingDisk.backing out p old t c.args.cluster sound ready c.requires few c.offset-offset.result c.len.result c.set_l1_table.new.self at c.len.ensures.value c.in_ok-set_l1_table.ensures.ok c.write_l1_table_pointer.result
    c.write_l1_table_pointer.new.self (storage_of c.set_write_kind.new.self) c.set_write_kind.ensures.storage c.write_l1_table_pointer.ensures.writes.written c.write_l1_table_pointer.ensures.writes.calls c.in_err-write_l1_table_pointer.field-0.0 recorded)

pub returns-clause-names : goal.returns-clause-names
returns-clause-names g c = λ p out sound recorded ready.
    let few : entry_count c.args.table ≤ 4194304 = omega (arith, c.len.ensures.value, c.len.ensures.limit) in
    let at = c.offset-offset.ensures ∙ ap (λ n. c.args.cluster * 2 ^ n) c.cluster_bits.ensures.value in
    named_so g.S.Storage.view g.F.BackingDisk.backing out p c.args.self.now c.args.table c.args.cluster sound ready c.requires few c.offset-offset.result c.len.result c.set_l1_table.new.self at c.len.ensures.value c.in_ok-set_l1_table.ensures.ok c.write_l1_table_pointer.result
    c.write_l1_table_pointer.new.self (storage_of c.set_write_kind.new.self) c.set_write_kind.ensures.storage c.write_l1_table_pointer.ensures.writes.written c.write_l1_table_pointer.ensures.writes.calls c.in_ok-write_l1_table_pointer.field-0 c.in_ok-write_l1_table_pointer.was

pub returns-in_err-write_l1_table_pointer-clause-fault : goal.returns-in_err-write_l1_table_pointer-clause-fault
returns-in_err-write_l1_table_pointer-clause-fault g c =
    hands_fault c.from_residual-in_err-write_l1_table_pointer.result (of_storage c.in_err-write_l1_table_pointer.field-0.0) c.from_residual-in_err-write_l1_table_pointer.ensures (fault_of_storage c.in_err-write_l1_table_pointer.field-0.0)

pub returns-in_err-set_l1_table-clause-step : goal.returns-in_err-set_l1_table-clause-step
returns-in_err-set_l1_table-clause-step g c = record { stays = search rules; notes = notes_none; header_cluster = λ keeps. behind_bits (ap (λ (v : HeaderView). v.fields.cluster_bits) c.in_err-set_l1_table.ensures.same) }

pub returns-in_err-write_l1_table_pointer-clause-step : goal.returns-in_err-write_l1_table_pointer-clause-step
returns-in_err-write_l1_table_pointer-clause-step g c = record { stays = search rules; notes = notes_of_storage (told_kept c.args.self.now.file.storage c.set_write_kind.new.self c.write_l1_table_pointer.new.self c.write_l1_table_pointer.result c.set_write_kind.ensures.storage c.set_write_kind.ensures.changed _ c.write_l1_table_pointer.ensures.writes.written c.write_l1_table_pointer.ensures.writes.calls c.write_l1_table_pointer.ensures.writes.recorded); header_cluster = λ keeps. behind_then (behind_pointer c.write_l1_table_pointer.result c.set_l1_table.new.self.fields (ap g.S.Storage.view c.set_write_kind.ensures.storage) c.write_l1_table_pointer.ensures.writes.written c.write_l1_table_pointer.ensures.writes.calls) (behind_bits (ap (λ (v : HeaderView). v.fields.cluster_bits) c.in_ok-set_l1_table.ensures.ok)) }

pub returns-clause-step : goal.returns-clause-step
returns-clause-step g c = record { stays = search rules; notes = notes_of_storage (told_kept c.args.self.now.file.storage c.set_write_kind.new.self c.write_l1_table_pointer.new.self c.write_l1_table_pointer.result c.set_write_kind.ensures.storage c.set_write_kind.ensures.changed _ c.write_l1_table_pointer.ensures.writes.written c.write_l1_table_pointer.ensures.writes.calls c.write_l1_table_pointer.ensures.writes.recorded); header_cluster = λ keeps. behind_then (behind_then (behind_pointer c.write_l1_table_pointer.result c.set_l1_table.new.self.fields (ap g.S.Storage.view c.set_write_kind.ensures.storage) c.write_l1_table_pointer.ensures.writes.written c.write_l1_table_pointer.ensures.writes.calls) (behind_bits (ap (λ (v : HeaderView). v.fields.cluster_bits) c.in_ok-set_l1_table.ensures.ok))) (behind_l1 keeps) }

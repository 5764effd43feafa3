use Rattle.std.proofs.Common.{◌≡◌, ◌+◌, refl, ◌∙◌, subst, ap, inl, inr, sym, arith, rules, IsTrue, Some, is_some, max}
use Rattle.qcow2_image.proofs.Common.{HeaderFields, header_format, l1_index_of, entries_reaching, l1_clusters, told_of, never, on_no_ok, on_ok, IfSome, pending_then, IsAllocatorOf, handed_on, AllocatesTable, notes_then, notes_of_marks, entry_count}
use Rattle.qcow2_image.proofs.image.Qcow2.enter_l1_table.Goals as goal
use Rattle.qcow2_image.proofs.Lemmas.{leaked_still, none_taken_for_table, refused_none, table_named_blocks, longer_taken, behind_allocated, behind_then, faults_or_limit, faults_unlimited, hands_either, hands_limit, placed_near, table_clusters, unlimited_all, limited_left, counted_since, same_told, step_none, step_where}
use Rattle.qcow2_image.proofs.Grow.ReplacedL1Table.{keeps_taken}

pub returns-in_err-pending-clause-recorded : goal.returns-in_err-pending-clause-recorded
returns-in_err-pending-clause-recorded g c = on_no_ok _ c.from_residual.result c.in_err-pending.field-0.0 c.from_residual.ensures

pub returns-clause-recorded : goal.returns-clause-recorded
returns-clause-recorded g c = on_ok _ c.write_allocated_l1_table.result (c.write_allocated_l1_table.ensures.step.notes.tables.recorded c.in_ok-pending.ensures.recorded)

pub returns-clause-placed : goal.returns-clause-placed
returns-clause-placed g c = λ few bits. placed_near c.args.table c.in_ok-pending.pending.first_cluster c.args.self.now.file.header.fields.cluster_bits few bits c.in_ok-pending.ensures.nameable c.write_allocated_l1_table.new.self.l1_table c.write_allocated_l1_table.result c.write_allocated_l1_table.ensures.placed

pub returns-clause-faults : goal.returns-clause-faults
returns-clause-faults g c =
    let view = g.S.Storage.view in
    let below = g.F.BackingDisk.backing in
    let old = c.args.self.now in
    let taken = record old { file = c.allocate_meta.new.file; allocator = Some c.allocate_meta.new.self } in
    let same = same_told view below old taken c.allocate_meta.result c.in_ok-pending.pending (told_of c.allocate_meta.result c.allocate_meta.ensures.fails) c.in_ok-pending.was refl refl in
    counted_since view below old taken c.write_allocated_l1_table.new.self c.write_allocated_l1_table.result same c.write_allocated_l1_table.ensures.fails.faults

pub returns-in_default-clause-step : goal.returns-in_default-clause-step
returns-in_default-clause-step g c = step_where step_none

pub returns-in_err-pending-clause-step : goal.returns-in_err-pending-clause-step
returns-in_err-pending-clause-step g c = record { stays = search rules; notes = (notes_of_marks c.allocate_meta.ensures.step.marks); header_cluster = λ as_wide. behind_allocated c.in-Some.is c.allocate_meta.ensures.step.header_cluster }

pub returns-clause-step : goal.returns-clause-step
returns-clause-step g c = record { stays = search rules; notes = notes_then (notes_of_marks c.allocate_meta.ensures.step.marks) c.write_allocated_l1_table.ensures.step.notes; header_cluster = λ as_wide. behind_then (behind_allocated c.in-Some.is c.allocate_meta.ensures.step.header_cluster) (c.write_allocated_l1_table.ensures.step.header_cluster (as_wide, c.in_ok-pending.ensures.elsewhere)) }

pub returns-in_default-clause-sound : goal.returns-in_default-clause-sound
returns-in_default-clause-sound g c = λ p out sound longer. record {
  takes = refused_none g.S.Storage.view g.F.BackingDisk.backing out p c.args.self.now _ sound;
  fault = λ writable some. never (subst (λ a. IsTrue (is_some a)) c.in_default.is writable);
  limit = λ offset many is. absurd (cc);
}

pub returns-in_err-pending-clause-sound : goal.returns-in_err-pending-clause-sound
returns-in_err-pending-clause-sound g c = λ p out sound longer.
    let view = g.S.Storage.view in
    let below = g.F.BackingDisk.backing in
    let old = c.args.self.now in
    let file = c.allocate_meta.new.file in
    let step = c.allocate_meta.ensures.step in
    let own = subst (λ o. IfSome o (IsAllocatorOf view old.file)) c.in-Some.is sound.reftable in
    let new = record old { file = file; allocator = Some c.allocate_meta.new.self } in
    let e = c.in_err-pending.field-0.0 in
    let took = c.in_err-pending.ensures.sound p (record { sound = sound.file; reftable = own.reftable }) in
    let clusters = table_clusters view below out p old sound c.args.table longer file.header step.header c.cluster_count.result c.cluster_count.ensures in
    let left = none_taken_for_table view below out p old sound file c.allocate_meta.new.self step.marks.pins step.list step.header (leaked_still old c.in-Some.allocator c.allocate_meta.new.self c.in-Some.is took.leaks) e took.found.takes (took.found.hint own.hint) in
    record {
      takes = handed_on (AllocatesTable view below p old new out) c.from_residual.result e c.from_residual.ensures left;
      fault = λ writable some. hands_either c.from_residual.result e c.from_residual.ensures (elim (took.found.limit own.hint (clusters.1 some)) [ inl fault ↦ inl fault | inr cause ↦ inr cause.0 ]);
      limit = λ offset many.
          let bits : c.args.table.cluster_bits ≡ c.args.self.now.l1_table.cluster_bits = longer.bits ∙ sym sound.l1_table.bits in
          let reaching : entries_reaching offset old ≡ entries_reaching offset new = sym (ap (λ (h : HeaderFields). max (entry_count old.l1_table) (l1_index_of h offset + 1)) (header_format old.file.header file.header step.header)) in
          let is : c.cluster_count.result ≡ l1_clusters file.header.fields (entries_reaching offset new) = clusters.0 ∙ ap (l1_clusters file.header.fields) (many ∙ reaching) in
          let kept = returns-in_err-pending-clause-step g c in
          hands_limit c.from_residual.result e c.from_residual.ensures
          (limited_left new offset e (elim left [ inl stays ↦ inl stays | inr broken ↦ inr broken.interrupted.fault ]) (record { image = kept.stays.image; header_cluster = kept.header_cluster bits })
          (λ full. record { allocator = c.allocate_meta.new.self; is = refl; lacks = inl (c.cluster_count.result, inr is, full) }) (took.found.limit own.hint (clusters.1 (omega (arith, many)))));
    }

pub returns-clause-sound : goal.returns-clause-sound
returns-clause-sound g c = λ p out sound longer.
    let view = g.S.Storage.view in
    let below = g.F.BackingDisk.backing in
    let old = c.args.self.now in
    let file = c.allocate_meta.new.file in
    let step = c.allocate_meta.ensures.step in
    let own = subst (λ o. IfSome o (IsAllocatorOf view old.file)) c.in-Some.is sound.reftable in
    let found = (c.in_ok-pending.ensures.sound p (record { sound = sound.file; reftable = own.reftable })).found in
    let leaks = leaked_still old c.in-Some.allocator c.allocate_meta.new.self c.in-Some.is (c.allocate_meta.ensures.sound p (record { sound = sound.file; reftable = own.reftable })).leaks in
    let since = pending_then p old.file.free_list file.free_list in
    let cluster = c.in_ok-pending.pending.first_cluster in
    let keeps = keeps_taken view below out p old sound file c.allocate_meta.new.self step.marks.pins step.list step.header leaks c.args.table cluster c.cluster_count.result c.cluster_count.ensures found.takes.2 (found.hint own.hint) longer in
    let there = longer_taken view below out p old sound file c.allocate_meta.new.self step.marks.pins step.list step.header leaks c.args.table cluster c.cluster_count.result c.cluster_count.ensures found.takes.2 (found.hint own.hint) longer in
    let fault = c.write_allocated_l1_table.ensures.fault since out keeps.sound there in
    record {
      takes = table_named_blocks view below out p old sound file c.allocate_meta.new.self step.marks.pins step.list step.header leaks c.args.table cluster c.cluster_count.result c.cluster_count.ensures found.takes.2 (found.hint own.hint) longer c.in_ok-pending.pending c.write_allocated_l1_table.new.self
          c.write_allocated_l1_table.result refl (found.takes.0 ∙ c.cluster_count.ensures) found.takes.1 (λ placed. c.write_allocated_l1_table.ensures.names since out placed c.in_ok-pending.ensures.recorded) c.write_allocated_l1_table.ensures.kept c.write_allocated_l1_table.ensures.listed;
      fault = λ writable some. faults_or_limit c.write_allocated_l1_table.result fault;
      limit = λ offset many. unlimited_all c.write_allocated_l1_table.result _ (faults_unlimited c.write_allocated_l1_table.result fault);
    }

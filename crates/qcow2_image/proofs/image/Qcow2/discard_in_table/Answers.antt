use Rattle.qcow2_image.proofs.Lemmas.{notes_part, parts_then, counted_as, counted_still, refused_since, fault_of, written_stops, behind_then}
use Rattle.std.proofs.Common.{◌⊎◌, ◌∙◌, inl, inr, Err, IfErr, Result}
use Rattle.qcow2_image.proofs.Common.{handed_on, not_both, IsFault, HasNothingToFree, has_noted_change, is_failed, size_of, TurnStep, DiscardsStep}
use Rattle.qcow2_image.proofs.Clear.ClearedCalls.{same_image_then}
use Rattle.qcow2_image.proofs.Resize.RefusedSteps.{failed_other, not_marked, turn_ended, turn_still}
use Rattle.qcow2_image.proofs.image.Qcow2.discard_in_table.Goals as goal

pub returns-in_err-process_free_list_at_end-in-Err-clause-step : goal.returns-in_err-process_free_list_at_end-in-Err-clause-step
returns-in_err-process_free_list_at_end-in-Err-clause-step g c =
    let view = g.S.Storage.view in
    let below = g.F.BackingDisk.backing in
    let old = c.args.self.now in
    let mid = c.discard_next.new.self in
    let new = c.process_free_list_at_end.new.self in
    let turn = c.in-Err.ensures.step in
    let none : IsFault c.in-Err.refusal → ⊥ = λ fault. not_both c.is_fault.result (c.is_fault.ensures.1 fault) c.if-is_fault.false in
    let f = c.in_err-process_free_list_at_end-in-Err.field-0.0 in
    handed_on (λ (r : Result _ _). TurnStep view below old new r) c.from_residual.result f c.from_residual.ensures (record {
      image = same_image_then turn.image c.process_free_list_at_end.ensures.image;
      marks = refused_since old mid new (not_marked view below old mid new c.in-Err.refusal none turn.marks) f c.in_err-process_free_list_at_end-in-Err.ensures.marks;
      since = parts_then view old mid new turn.since (notes_part view mid new c.process_free_list_at_end.ensures.notes);
      header_cluster = behind_then turn.header_cluster c.process_free_list_at_end.ensures.header_cluster;
      faults = counted_as view below old mid new c.process_free_list_at_end.result f (turn.faults.told (λ is. none (inl is))) c.process_free_list_at_end.ensures.fails.faults c.in_err-process_free_list_at_end-in-Err.was;
    })

pub returns-in_ok-process_free_list_at_end-in-Err-clause-step : goal.returns-in_ok-process_free_list_at_end-in-Err-clause-step
returns-in_ok-process_free_list_at_end-in-Err-clause-step g c =
    let view = g.S.Storage.view in
    let below = g.F.BackingDisk.backing in
    let old = c.args.self.now in
    let mid = c.discard_next.new.self in
    let new = c.process_free_list_at_end.new.self in
    let e = c.in-Err.refusal in
    let turn = c.in-Err.ensures.step in
    let none : IsFault c.in-Err.refusal → ⊥ = λ fault. not_both c.is_fault.result (c.is_fault.ensures.1 fault) c.if-is_fault.false in
    record {
      image = same_image_then turn.image c.process_free_list_at_end.ensures.image;
      marks = failed_other e (is_failed old) (has_noted_change new) (is_failed new) none (c.in_ok-process_free_list_at_end-in-Err.ensures.marks ∙ not_marked view below old mid new e none turn.marks);
      since = parts_then view old mid new turn.since (notes_part view mid new c.process_free_list_at_end.ensures.notes);
      header_cluster = behind_then turn.header_cluster c.process_free_list_at_end.ensures.header_cluster;
      faults = counted_still view below old mid new (Err e) turn.faults c.in_ok-process_free_list_at_end-in-Err.ensures.fails.faults.told;
    }

pub returns-in_err-process_free_list_at_end-in-Err-clause-sound : goal.returns-in_err-process_free_list_at_end-in-Err-clause-sound
returns-in_err-process_free_list_at_end-in-Err-clause-sound g c =
    let view = g.S.Storage.view in
    let below = g.F.BackingDisk.backing in
    let old = c.args.self.now in
    let mid = c.discard_next.new.self in
    let new = c.process_free_list_at_end.new.self in
    let e = c.in-Err.refusal in
    let turn = c.in-Err.ensures.sound in
    let number = c.in-Err.ensures.step.image.number in
    let none : IsFault c.in-Err.refusal → ⊥ = λ fault. not_both c.is_fault.result (c.is_fault.ensures.1 fault) c.if-is_fault.false in
    let failed = not_marked view below old mid new e none c.in-Err.ensures.step.marks in
    let f = c.in_err-process_free_list_at_end-in-Err.field-0.0 in
    handed_on (λ (r : Result _ _). DiscardsStep view below c.args.at old new r) c.from_residual.result f c.from_residual.ensures (record {
      on = tt;
      uncovers = turn_ended view below old mid new e none c.args.at c.requires.usable (c.process_free_list_at_end.ensures.image.number ∙ number) turn.uncovers f (refused_since old mid new failed f c.in_err-process_free_list_at_end-in-Err.ensures.marks)
          (λ out sound. inr (c.in_err-process_free_list_at_end-in-Err.ensures.frees out sound).0);
      stops = λ usable out sound unprepared. inl (fault_of f (c.in_err-process_free_list_at_end-in-Err.ensures.frees out (turn_still view below old mid mid e none c.args.at c.requires.usable number turn.uncovers out sound).0).1);
      changed = λ out sound. tt;
      emptied = λ out sound. tt;
    })

pub returns-in_ok-process_free_list_at_end-in-Err-clause-sound : goal.returns-in_ok-process_free_list_at_end-in-Err-clause-sound
returns-in_ok-process_free_list_at_end-in-Err-clause-sound g c =
    let view = g.S.Storage.view in
    let below = g.F.BackingDisk.backing in
    let old = c.args.self.now in
    let mid = c.discard_next.new.self in
    let new = c.process_free_list_at_end.new.self in
    let e = c.in-Err.refusal in
    let turn = c.in-Err.ensures.sound in
    let number = c.in-Err.ensures.step.image.number in
    let none : IsFault c.in-Err.refusal → ⊥ = λ fault. not_both c.is_fault.result (c.is_fault.ensures.1 fault) c.if-is_fault.false in
    let failed = not_marked view below old mid new e none c.in-Err.ensures.step.marks in
    record {
      on = tt;
      uncovers = turn_ended view below old mid new e none c.args.at c.requires.usable (c.process_free_list_at_end.ensures.image.number ∙ number) turn.uncovers e
          (failed_other e (is_failed old) (has_noted_change new) (is_failed new) none (c.in_ok-process_free_list_at_end-in-Err.ensures.marks ∙ failed)) (λ out sound. inl (c.in_ok-process_free_list_at_end-in-Err.ensures.frees out sound));
      stops = λ usable out sound unprepared.
          let still = turn_still view below old mid mid e none c.args.at c.requires.usable number turn.uncovers out sound in
          elim (turn.stops usable out sound unprepared) [
            | inl fault ↦ absurd (none fault)
            | inr cant ↦ inr (written_stops view below out (size_of old) c.args.at (size_of mid) mid new still.0 (c.in_ok-process_free_list_at_end-in-Err.ensures.frees out still.0).sound c.process_free_list_at_end.ensures.table c.process_free_list_at_end.ensures.header cant.0, cant.1)
          ];
      changed = λ out sound. tt;
      emptied = λ out sound. tt;
    }

pub returns-in_err-process_free_list_at_end-in-Err-clause-emptied : goal.returns-in_err-process_free_list_at_end-in-Err-clause-emptied
returns-in_err-process_free_list_at_end-in-Err-clause-emptied g c = λ writable out sound.
    let mid = c.discard_next.new.self in
    let new = c.process_free_list_at_end.new.self in
    let f = c.in_err-process_free_list_at_end-in-Err.field-0.0 in
    let none : IsFault c.in-Err.refusal → ⊥ = λ fault. not_both c.is_fault.result (c.is_fault.ensures.1 fault) c.if-is_fault.false in
    let still = turn_still g.S.Storage.view g.F.BackingDisk.backing c.args.self.now mid mid c.in-Err.refusal none c.args.at c.requires.usable c.in-Err.ensures.step.image.number c.in-Err.ensures.sound.uncovers out sound in
    handed_on (λ (r : Result _ _). IfErr r (λ x. IsFault x ⊎ HasNothingToFree new)) c.from_residual.result f c.from_residual.ensures (inl (fault_of f (c.in_err-process_free_list_at_end-in-Err.ensures.frees out still.0).1))

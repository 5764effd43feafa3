use Rattle.qcow2_image.proofs.Lemmas.{call_then, changes_later, notes_begun, part_none, next_so_far, none_so_far, tail_refused, tail_stops, fewer_of, counted_as, faults_then, refused_since, rounded_from, behind_begun, behind_then}
use Rattle.std.proofs.Common.{◌∙◌, arith, inl, inr, refl, sym, subst, Some, None, Err, IsTrue}
use Rattle.qcow2_image.proofs.Common.{not_both, IsFault, pending_in, CountsImageFaults, pow_pos, cluster_size}
use Rattle.qcow2_image.proofs.Resize.RefusedSteps.{frees_next, not_marked}
use Rattle.qcow2_image.proofs.Resize.Shrinking.{same_size}
use Rattle.qcow2_image.proofs.Clear.ClearedCalls.{same_image_then}
use Rattle.qcow2_image.proofs.Resize.StepCalls.{some_none}
use Rattle.qcow2_image.proofs.Resize.CountedSteps.{turns_counted}
use Rattle.qcow2_image.proofs.image.Qcow2.unmap_tail.Goals as goal

pub loop-at-init : goal.loop-at-init
loop-at-init g c =
    let view = g.S.Storage.view in
    let below = g.F.BackingDisk.backing in
    record {
      turns = none_so_far view below c.args.self.now c.begin_call.new.self c.args.size c.size-end.result c.begin_call.ensures.stays.image c.begin_call.ensures.stays.failed (c.size-end.ensures ∙ c.begin_call.ensures.stays.image.size) c.requires.smaller
          (λ out sound. record { keeps = c.begin_call.ensures.keeps (pending_in view below c.args.self.now out) out sound; list = c.begin_call.ensures.list });
      faults = c.begin_call.ensures.faults;
      emptied = λ writable out sound before. inl refl;
      since = notes_begun g.S.Storage.view c.args.self.now c.begin_call.new.self c.begin_call.ensures.begun c.begin_call.new.self (part_none g.S.Storage.view c.begin_call.new.self);
      changed = λ out sound past. absurd (let up = rounded_from (cluster_size c.args.self.now.file.header.fields) c.args.size (pow_pos c.args.self.now.file.header.fields.cluster_bits) in omega (arith, past, up));
      behind = behind_begun g.S.Storage.view c.begin_call.ensures.begun;
    }

pub loop-at-preserved : goal.loop-at-preserved
loop-at-preserved g c = record {
  turns = next_so_far g.S.Storage.view g.F.BackingDisk.backing c.args.self.now c.loop-at.self c.discard_in_table.new.self c.args.size c.loop-at.at c.size-end.result c.loop-at.invariant.turns c.in-Ok.next c.in-Ok.ensures.sound.on.0 c.in-Ok.ensures.sound.on.1 c.in-Ok.ensures.sound.uncovers
      c.discard_in_table.ensures.step.image c.in-Ok.ensures.step.marks;
  faults = faults_then g.S.Storage.view g.F.BackingDisk.backing c.args.self.now c.loop-at.self c.discard_in_table.new.self c.loop-at.invariant.faults c.in-Ok.ensures.step.faults.told;
  emptied = λ writable out sound before.
      let so = c.loop-at.invariant.turns in
      inr (c.in-Ok.ensures.sound.emptied out (so.so_far out sound).0.sound
      (frees_next g.S.Storage.view g.F.BackingDisk.backing c.args.self.now c.loop-at.self c.args.size c.loop-at.at c.size-end.result so out sound before (c.loop-at.invariant.emptied writable out sound before)));
  since = call_then g.S.Storage.view c.args.self.now c.loop-at.self c.discard_in_table.new.self c.loop-at.invariant.since c.discard_in_table.ensures.step.since;
  changed = λ out sound.
      turns_counted c.args.self.now c.loop-at.self c.discard_in_table.new.self c.args.size c.loop-at.at c.in-Ok.next (same_size g.S.Storage.view g.F.BackingDisk.backing c.args.self.now c.loop-at.self c.discard_in_table.new.self c.args.size c.loop-at.at c.size-end.result c.loop-at.invariant.turns out sound) c.loop-at.invariant.since.no_fewer c.discard_in_table.ensures.step.since.no_fewer
      (c.loop-at.invariant.changed out sound) (c.in-Ok.ensures.sound.changed out (c.loop-at.invariant.turns.so_far out sound).0.sound);
  behind = behind_then c.loop-at.invariant.behind c.discard_in_table.ensures.step.header_cluster;
}

pub returns-then-is_fault-clause-step : goal.returns-then-is_fault-clause-step
returns-then-is_fault-clause-step g c =
    let view = g.S.Storage.view in
    let below = g.F.BackingDisk.backing in
    let old = c.args.self.now in
    let mid = c.loop-at.self in
    let new = c.discard_in_table.new.self in
    let so = c.loop-at.invariant in
    let turn = c.in-Err.ensures.step in
    let e = c.in-Err.refusal in
    let told : CountsImageFaults view below {T = Unit {0}} old new (Err c.in-Err.refusal) = counted_as view below old mid new c.discard_in_table.result e so.faults c.discard_in_table.ensures.step.faults c.in-Err.is in
    record {
      image = same_image_then so.turns.image turn.image;
      cause = c.is_fault.ensures.0 c.if-is_fault.true;
      marks = refused_since old mid new so.turns.failed e turn.marks;
      since = call_then view old mid new so.since turn.since;
      header_cluster = behind_then so.behind turn.header_cluster;
      faults = (told.no_fewer, told.rose, told.told);
    }

pub returns-in-Err-clause-step : goal.returns-in-Err-clause-step
returns-in-Err-clause-step g c =
    let view = g.S.Storage.view in
    let below = g.F.BackingDisk.backing in
    let old = c.args.self.now in
    let mid = c.loop-at.self in
    let new = c.discard_in_table.new.self in
    let so = c.loop-at.invariant in
    let turn = c.in-Err.ensures.step in
    let e = c.in-Err.refusal in
    let none : IsFault c.in-Err.refusal → ⊥ = λ fault. not_both c.is_fault.result (c.is_fault.ensures.1 fault) c.if-is_fault.false in
    let all = faults_then view below old mid new so.faults (turn.faults.told (λ is. none (inl is))) in
    record {
      image = same_image_then so.turns.image turn.image;
      cause = tt;
      marks = not_marked view below mid new new e none turn.marks ∙ so.turns.failed;
      since = call_then view old mid new so.since turn.since;
      header_cluster = behind_then so.behind turn.header_cluster;
      faults = (fewer_of view below old new all, tt, all);
    }

pub returns-clause-step : goal.returns-clause-step
returns-clause-step g c =
    let so = c.loop-at.invariant in
    record {
      image = so.turns.image;
      cause = tt;
      marks = so.turns.failed;
      since = so.since;
      header_cluster = so.behind;
      faults = (fewer_of g.S.Storage.view g.F.BackingDisk.backing c.args.self.now c.loop-at.self so.faults, tt, so.faults);
    }

pub returns-then-is_fault-clause-sound : goal.returns-then-is_fault-clause-sound
returns-then-is_fault-clause-sound g c = λ out sound.
    let view = g.S.Storage.view in
    let below = g.F.BackingDisk.backing in
    let old = c.args.self.now in
    let mid = c.loop-at.self in
    let new = c.discard_in_table.new.self in
    let so = c.loop-at.invariant in
    let turn = c.in-Err.ensures.step in
    let e = c.in-Err.refusal in
    record {
      uncovers = tail_refused view below old mid new c.args.size c.loop-at.at c.size-end.result so.turns (omega (arith, c.loop-at-test.true)) e c.in-Err.ensures.sound.uncovers out sound (Some e) (refl, c.is_fault.ensures.0 c.if-is_fault.true) (some_none e);
      stops = λ none unprepared is lt. some_none e is;
      emptied = λ writable is before. some_none e is;
      changed = λ past. changes_later old mid new turn.since.no_fewer (so.changed out sound past);
    }

pub returns-in-Err-clause-sound : goal.returns-in-Err-clause-sound
returns-in-Err-clause-sound g c = λ out sound.
    let view = g.S.Storage.view in
    let below = g.F.BackingDisk.backing in
    let old = c.args.self.now in
    let mid = c.loop-at.self in
    let new = c.discard_in_table.new.self in
    let so = c.loop-at.invariant in
    let turn = c.in-Err.ensures.step in
    let e = c.in-Err.refusal in
    let none : IsFault c.in-Err.refusal → ⊥ = λ fault. not_both c.is_fault.result (c.is_fault.ensures.1 fault) c.if-is_fault.false in
    record {
      uncovers = tail_refused view below old mid new c.args.size c.loop-at.at c.size-end.result so.turns (omega (arith, c.loop-at-test.true)) e c.in-Err.ensures.sound.uncovers out sound None tt (λ _ fault. none fault);
      stops = λ usable unprepared is lt.
          tail_stops view below out old mid new c.args.size c.loop-at.at c.size-end.result so.turns e (λ none sound unprepared. c.in-Err.ensures.sound.stops none out sound unprepared) usable sound unprepared none;
      emptied = λ writable is before. elim (c.in-Err.ensures.emptied (subst IsTrue (sym so.turns.image.writable) writable) out (so.turns.so_far out sound).0.sound) [
        | inl fault ↦ absurd (none fault)
        | inr free ↦ free
      ];
      changed = λ past. changes_later old mid new turn.since.no_fewer (so.changed out sound past);
    }

pub returns-clause-sound : goal.returns-clause-sound
returns-clause-sound g c = λ out sound.
    let so = c.loop-at.invariant in
    let last = c.loop-at.invariant.turns.last in
    record {
      uncovers = so.turns.so_far out sound;
      stops = λ none unprepared is lt. absurd (omega (arith, lt, last, c.loop-at-test.false));
      emptied = λ writable is before.
          let smaller = c.requires.smaller in
          elim (so.emptied writable out sound (omega (arith, before, last))) [
            | inl first ↦ absurd (omega (arith, first, last, smaller, c.loop-at-test.false))
            | inr none ↦ none
          ];
      changed = λ past. so.changed out sound past;
    }

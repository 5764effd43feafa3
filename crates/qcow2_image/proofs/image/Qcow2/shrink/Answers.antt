use Rattle.std.proofs.Common.{◌≡◌, ◌∙◌, inl, inr, sym, ap, subst, rules, Err}
use Rattle.qcow2_image.proofs.Common.{IfSome, MatchOption, passes_none, cluster_size, rounded_up, HaveRisen, ltb-true, IsFault, view_in, is_changed_of, Qcow2, is_failed, size_of, MarksRefused, Shrinks, DiscardsTail, WritesSizeLast, boundary_in, ReportsEachIn, ReportsFault}
use Rattle.qcow2_image.specs.declared.discarding.ClearMode.TheVariants.{Uncovered}
use Rattle.qcow2_image.proofs.Lemmas.{covers_after, shrinks_done, shrinks_stopped, shrinks_unwritten, size_is_last, uncovered_honest, written_stops, may_mark_refused, noted_marks, refused_on, refused_since, counted_as, counted_still, call_then, changes_later, failed_part, kept_fewer, notes_part, refused_once, answered_counts, counts_noted, behind_by, behind_none, behind_then}
use Rattle.qcow2_image.proofs.Resize.RecordedChanges.{same_noted, shrinks_noted}
use Rattle.qcow2_image.proofs.Resize.ShrinkCalls.{resize_writable}
use Rattle.qcow2_image.proofs.image.Qcow2.shrink.Goals as goal

pub returns-in-Some-clause-sees : goal.returns-in-Some-clause-sees
returns-in-Some-clause-sees g c =
    let view = g.S.Storage.view in
    let below = g.F.BackingDisk.backing in
    let old = c.args.self.now in
    let mid = c.discard_tail-end.new.self in
    let size = c.args.size in
    let at = c.discard_tail-end.result.0 in
    let e = c.in-Some.refusal in
    subst (λ (image : Qcow2 _ _). Shrinks view below old image size (Err e)) (sym c.mark_refused.ensures.rest)
    (shrinks_noted view below old (record mid { is_failed = is_failed c.mark_refused.new.self }) (is_changed_of c.mark_refused.new.self.file.storage) size (Err e) (shrinks_stopped view below old mid size at c.requires.usable c.requires.smaller e (is_failed c.mark_refused.new.self) c.discard_tail-end.ensures.step.image.number
    (subst (λ r. IfSome r IsFault) c.in-Some.is c.discard_tail-end.ensures.step.cause) (may_mark_refused mid c.mark_refused.new.self e c.mark_refused.ensures.marks) (λ out sound past. noted_marks mid c.mark_refused.new.self e (subst (λ r. IfSome r IsFault) c.in-Some.is c.discard_tail-end.ensures.step.cause) c.mark_refused.ensures.marks
    (c.mark_refused.ensures.changed (subst (λ n. HaveRisen n mid.file) (sym c.changes-before.ensures) ((c.discard_tail-end.ensures.sound out sound).changed (ltb-true (rounded_up (cluster_size old.file.header.fields) size) at past)))))
    (λ out sound. subst (λ r. DiscardsTail view below old mid size at r out) c.in-Some.is ((c.discard_tail-end.ensures.sound out sound).uncovers))))

pub returns-in-Err-clause-sees : goal.returns-in-Err-clause-sees
returns-in-Err-clause-sees g c =
    let view = g.S.Storage.view in
    let below = g.F.BackingDisk.backing in
    let old = c.args.self.now in
    let mid = c.discard_tail-end.new.self in
    let new = c.write_size.new.self in
    let size = c.args.size in
    let at = c.discard_tail-end.result.0 in
    let e = c.in-Err.refusal in
    subst (λ (image : Qcow2 _ _). Shrinks view below old image size (Err e)) (sym c.mark_refused-in-Err.ensures.rest)
    (shrinks_noted view below old (record new { is_failed = is_failed c.mark_refused-in-Err.new.self }) (is_changed_of c.mark_refused-in-Err.new.self.file.storage) size (Err e) (shrinks_unwritten view below old mid size at c.requires.usable c.requires.smaller new e (is_failed c.mark_refused-in-Err.new.self) (ap (λ (i : Qcow2 _ _). i.number) c.write_size.ensures.rest ∙ c.discard_tail-end.ensures.step.image.number)
    c.in-Err.ensures.fails.cause (may_mark_refused new c.mark_refused-in-Err.new.self e c.mark_refused-in-Err.ensures.marks)
    (λ out sound past. noted_marks new c.mark_refused-in-Err.new.self e c.in-Err.ensures.fails.cause c.mark_refused-in-Err.ensures.marks
    (c.mark_refused-in-Err.ensures.changed (subst (λ n. HaveRisen n new.file) (sym c.changes-before.ensures) (changes_later old mid new (kept_fewer view mid new c.write_size.ensures.notes) ((c.discard_tail-end.ensures.sound out sound).changed (ltb-true (rounded_up (cluster_size old.file.header.fields) size) at past))))))
    (λ out sound. subst (λ r. DiscardsTail view below old mid size at r out) c.in_default.is ((c.discard_tail-end.ensures.sound out sound).uncovers)) c.in-Err.ensures.writes))

pub returns-clause-sees : goal.returns-clause-sees
returns-clause-sees g c =
    let view = g.S.Storage.view in
    let below = g.F.BackingDisk.backing in
    let old = c.args.self.now in
    let mid = c.discard_tail-end.new.self in
    let size = c.args.size in
    let at = c.discard_tail-end.result.0 in
    shrinks_done view below old mid size at c.requires.usable c.requires.smaller c.write_size.new.self (ap (λ (i : Qcow2 _ _). i.number) c.write_size.ensures.rest ∙ c.discard_tail-end.ensures.step.image.number)
    (λ out sound. subst (λ r. DiscardsTail view below old mid size at r out) c.in_default.is ((c.discard_tail-end.ensures.sound out sound).uncovers)) c.in_default-write_size.ensures.writes

pub returns-in-Some-clause-step : goal.returns-in-Some-clause-step
returns-in-Some-clause-step g c = record {
  marks = refused_on c.args.self.now c.discard_tail-end.new.self c.mark_refused.new.self c.mark_refused.ensures.recorded c.in-Some.refusal
      (subst (λ r. MatchOption r (is_failed c.discard_tail-end.new.self ≡ is_failed c.args.self.now) (MarksRefused c.args.self.now c.discard_tail-end.new.self)) c.in-Some.is c.discard_tail-end.ensures.step.marks) c.mark_refused.ensures.marks;
  once_written = let old = c.args.self.now in
      let tail = c.discard_tail-end.new.self in
      let since = c.discard_tail-end.ensures.step.since in
      refused_once g.S.Storage.view old tail c.mark_refused.new.self (Err c.in-Some.refusal) since
      (failed_part old tail (Err c.in-Some.refusal) since.why (subst (λ r. MatchOption r (is_failed tail ≡ is_failed old) (MarksRefused old tail)) c.in-Some.is c.discard_tail-end.ensures.step.marks))
      c.mark_refused.ensures.rest (λ rose. c.mark_refused.ensures.changed (subst (λ n. HaveRisen n tail.file) (sym c.changes-before.ensures) rose))
      (λ recorded. elim (c.mark_refused.ensures.why recorded) [ inl was ↦ inl was | inr rose ↦ inr (subst (λ n. HaveRisen n tail.file) c.changes-before.ensures rose) ]) c.mark_refused.ensures.marks;
  header_cluster = behind_then c.discard_tail-end.ensures.step.header_cluster (behind_by g.S.Storage.view c.mark_refused.ensures.rest behind_none);
  faults = let view = g.S.Storage.view in
      let below = g.F.BackingDisk.backing in
      let old = c.args.self.now in
      let mid = c.discard_tail-end.new.self in
      let tail = c.discard_tail-end.ensures.step.faults in
      counted_still view below old mid c.mark_refused.new.self (Err c.in-Some.refusal) (record { no_fewer = tail.0; rose = subst (λ r. IfSome r (ReportsFault view below old mid)) c.in-Some.is tail.1; told = subst (λ r. ReportsEachIn view below old mid r) c.in-Some.is tail.2 }) (same_noted view below mid c.mark_refused.new.self _ _ c.mark_refused.ensures.rest);
}

pub returns-in-Err-clause-step : goal.returns-in-Err-clause-step
returns-in-Err-clause-step g c = record {
  marks = refused_since c.args.self.now c.write_size.new.self c.mark_refused-in-Err.new.self
      (ap (λ (i : Qcow2 _ _). i.is_failed) c.write_size.ensures.rest ∙ subst (λ r. MatchOption r (is_failed c.discard_tail-end.new.self ≡ is_failed c.args.self.now) (MarksRefused c.args.self.now c.discard_tail-end.new.self)) c.in_default.is c.discard_tail-end.ensures.step.marks)
      c.in-Err.refusal c.mark_refused-in-Err.ensures.marks;
  once_written = let view = g.S.Storage.view in
      let old = c.args.self.now in
      let tail = c.discard_tail-end.new.self in
      let new = c.write_size.new.self in
      let failed : is_failed new ≡ is_failed old =
      ap (λ (i : Qcow2 _ _). i.is_failed) c.write_size.ensures.rest ∙ subst (λ r. MatchOption r (is_failed tail ≡ is_failed old) (MarksRefused old tail)) c.in_default.is c.discard_tail-end.ensures.step.marks in
      refused_once view old new c.mark_refused-in-Err.new.self (Err c.in-Err.refusal) (call_then view old tail new c.discard_tail-end.ensures.step.since (notes_part view tail new c.write_size.ensures.notes))
      (λ _ was. inl (sym failed ∙ was)) c.mark_refused-in-Err.ensures.rest (λ rose. c.mark_refused-in-Err.ensures.changed (subst (λ n. HaveRisen n new.file) (sym c.changes-before.ensures) rose))
      (λ recorded. elim (c.mark_refused-in-Err.ensures.why recorded) [ inl was ↦ inl was | inr rose ↦ inr (subst (λ n. HaveRisen n new.file) c.changes-before.ensures rose) ]) c.mark_refused-in-Err.ensures.marks;
  header_cluster = behind_then (behind_then c.discard_tail-end.ensures.step.header_cluster c.write_size.ensures.header_cluster) (behind_by g.S.Storage.view c.mark_refused-in-Err.ensures.rest behind_none);
  faults = let view = g.S.Storage.view in
      let below = g.F.BackingDisk.backing in
      let old = c.args.self.now in
      let e = c.in-Err.refusal in
      counted_still view below old c.write_size.new.self c.mark_refused-in-Err.new.self (Err e)
      (counted_as view below old c.discard_tail-end.new.self c.write_size.new.self c.write_size.result e (subst (λ r. ReportsEachIn view below old c.discard_tail-end.new.self r) c.in_default.is c.discard_tail-end.ensures.step.faults.2) c.write_size.ensures.fails.faults c.in-Err.is) (same_noted view below c.write_size.new.self c.mark_refused-in-Err.new.self _ _ c.mark_refused-in-Err.ensures.rest);
}

pub returns-clause-step : goal.returns-clause-step
returns-clause-step g c = record {
  marks = search rules;
  faults = search rules;
  once_written = let view = g.S.Storage.view in
      let tail = c.discard_tail-end.new.self in
      let new = c.write_size.new.self in
      answered_counts view c.args.self.now new _ (counts_noted view c.args.self.now new (call_then view c.args.self.now tail new c.discard_tail-end.ensures.step.since (notes_part view tail new c.write_size.ensures.notes)));
  header_cluster = behind_then c.discard_tail-end.ensures.step.header_cluster c.write_size.ensures.header_cluster;
}

pub returns-in-Some-clause-sound : goal.returns-in-Some-clause-sound
returns-in-Some-clause-sound g c = λ none out sound unprepared. record {
  covers = tt;
  stops = tt;
  last = let view = g.S.Storage.view in
      let old = c.args.self.now in
      let mid = c.discard_tail-end.new.self in
      subst (λ (image : Qcow2 _ _). WritesSizeLast view g.F.BackingDisk.backing old image) (sym c.mark_refused.ensures.rest)
      (size_is_last view g.F.BackingDisk.backing old mid mid c.args.size c.discard_tail-end.result.0 c.discard_tail-end.result.1 (λ x0 x1. (c.discard_tail-end.ensures.sound x0 x1).uncovers) (passes_none (view_in view mid.file) _) out sound);
}

pub returns-in-Err-clause-sound : goal.returns-in-Err-clause-sound
returns-in-Err-clause-sound g c = λ none out sound unprepared. record {
  covers = tt;
  stops = tt;
  last = let view = g.S.Storage.view in
      let old = c.args.self.now in
      subst (λ (image : Qcow2 _ _). WritesSizeLast view g.F.BackingDisk.backing old image) (sym c.mark_refused-in-Err.ensures.rest)
      (size_is_last view g.F.BackingDisk.backing old c.discard_tail-end.new.self c.write_size.new.self c.args.size c.discard_tail-end.result.0 c.discard_tail-end.result.1 (λ x0 x1. (c.discard_tail-end.ensures.sound x0 x1).uncovers) (c.write_size.ensures.time (uncovered_honest g.S.Storage.view g.F.BackingDisk.backing c.args.self.now c.discard_tail-end.new.self c.args.size c.discard_tail-end.result.0 out (subst (λ r. DiscardsTail g.S.Storage.view g.F.BackingDisk.backing c.args.self.now c.discard_tail-end.new.self c.args.size c.discard_tail-end.result.0 r out) c.in_default.is (c.discard_tail-end.ensures.sound out sound).uncovers))) out sound);
}

pub returns-clause-sound : goal.returns-clause-sound
returns-clause-sound g c = λ none out sound unprepared.
    let view = g.S.Storage.view in
    let below = g.F.BackingDisk.backing in
    let old = c.args.self.now in
    let mid = c.discard_tail-end.new.self in
    let at = c.discard_tail-end.result.0 in
    let tail = subst (λ r. DiscardsTail view below old mid c.args.size at r out) c.in_default.is ((c.discard_tail-end.ensures.sound out sound).uncovers) in
    record {
      covers = covers_after Uncovered (boundary_in old c.args.size) (boundary_in old at) old.file.header.fields mid.file.header.fields c.write_size.new.self.file.header.fields _ _ _ tail.0.covers (c.in_default-write_size.ensures.writes out tail.0.sound).covers;
      stops = record {
        stops = λ lt.
            let ended = (c.discard_tail-end.ensures.sound out sound).stops none unprepared c.in_default.is lt in
            record { before = ended.before; unmapped = ended.unmapped; refused = ended.refused; cant = written_stops view below out (size_of old) at c.args.size mid c.write_size.new.self tail.0.sound (c.in_default-write_size.ensures.writes out tail.0.sound).sound (ap (λ (i : Qcow2 _ _). i.l1_table) c.write_size.ensures.rest) c.in_default-write_size.ensures.header ended.cant };
        emptied = λ before. ap (λ (i : Qcow2 _ _). i.file.free_list) c.write_size.ensures.rest ∙ (c.discard_tail-end.ensures.sound out sound).emptied (resize_writable old none) c.in_default.is before;
      };
      last = size_is_last g.S.Storage.view g.F.BackingDisk.backing c.args.self.now c.discard_tail-end.new.self c.write_size.new.self c.args.size c.discard_tail-end.result.0 c.discard_tail-end.result.1 (λ x0 x1. (c.discard_tail-end.ensures.sound x0 x1).uncovers) (c.write_size.ensures.time (uncovered_honest g.S.Storage.view g.F.BackingDisk.backing c.args.self.now c.discard_tail-end.new.self c.args.size c.discard_tail-end.result.0 out (subst (λ r. DiscardsTail g.S.Storage.view g.F.BackingDisk.backing c.args.self.now c.discard_tail-end.new.self c.args.size c.discard_tail-end.result.0 r out) c.in_default.is (c.discard_tail-end.ensures.sound out sound).uncovers))) out sound;
    }

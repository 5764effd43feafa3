use Rattle.qcow2_image.proofs.Lemmas.{step_then, step_none, goes_step, works_none, fills_before, fills_none, fills_or_refuses, refused_after, zeros_from, same_version, still_at, met_before, near_behind, taking_as, hands_met, counted_on, counted_since, faults_then}
use Rattle.qcow2_image.proofs.image.Qcow2.zero_between.Goals as goal
use Rattle.std.proofs.Common.{◌≤◌, subst, sym, arith, rules}
use Rattle.qcow2_image.proofs.Common.{handed_on, abstract_of, FillsOrRefuses, known_in, HasCompressedIn, MayFailAllocating, HasPinnedMapping, IfErr-weaker}

pub returns-in_err-fill_range-clause-step : goal.returns-in_err-fill_range-clause-step
returns-in_err-fill_range-clause-step g c = step_then c.zero_first.ensures.step c.fill_range.ensures.step

pub returns-clause-step : goal.returns-clause-step
returns-clause-step g c = step_then (step_then c.zero_first.ensures.step c.fill_range.ensures.step) c.zero_range.ensures.step

pub returns-in_err-next-clause-sound : goal.returns-in_err-next-clause-sound
returns-in_err-next-clause-sound g c = λ out sound before order whole third.
    let view = g.S.Storage.view in
    let old = c.args.self.now in
    let below = g.F.BackingDisk.backing in
    let a = c.args.self.now in
    let b = c.zero_first.new.self in
    let e = c.in_err-next.field-0.0 in
    record {
      fills = handed_on (λ r. FillsOrRefuses view below c.args.from c.args.old c.args.end a b out r) c.from_residual.result e c.from_residual.ensures
          (refused_after view below out a a b c.args.from c.args.old c.args.end c.args.old c.args.old c.args.from c.args.end (omega arith) (omega (arith, before, order)) before (omega arith) (fills_none view below out a c.args.from c.args.old sound (works_none (abstract_of view below a out) sound)) (goes_step step_none) e
          ((c.in_err-next.ensures.sound out sound order whole third).fills));
      may_fail = λ near. hands_met (MayFailAllocating (HasPinnedMapping out) (HasPinnedMapping out) (HasCompressedIn c.args.old c.args.from old.file.header.fields (known_in g.S.Storage.view old.file)) ⊥) c.from_residual.result c.in_err-next.field-0.0 c.from_residual.ensures
          (taking_as (λ held. held) (λ kept. kept) (λ no. absurd no) (λ no. no) c.in_err-next.field-0.0 ((c.in_err-next.ensures.sound out sound order whole third).may_fail near));
    }

pub returns-in_err-fill_range-clause-sound : goal.returns-in_err-fill_range-clause-sound
returns-in_err-fill_range-clause-sound g c = λ out sound before order whole third.
    let view = g.S.Storage.view in
    let below = g.F.BackingDisk.backing in
    let a = c.args.self.now in
    let b = c.zero_first.new.self in
    let d = c.fill_range.new.self in
    let h = a.file.header.fields in
    let e = c.in_err-fill_range.field-0.0 in
    let h' = b.file.header.fields in
    let next = c.in_ok-next.ensures.next in
    let first = zeros_from view below out a b c.args.from c.in_ok-next.next whole.0 ((c.in_ok-next.ensures.sound out sound order whole third).fills) in
    record {
      fills = handed_on (λ r. FillsOrRefuses view below c.args.from c.args.old c.args.end a d out r) c.from_residual-in_err-fill_range.result e c.from_residual-in_err-fill_range.ensures
          (refused_after view below out a b d c.args.from c.args.old c.args.end c.args.from c.in_ok-next.next c.args.old c.args.from before (omega (arith, next.2, order)) (omega arith) order first (goes_step c.zero_first.ensures.step) e
          ((c.in_err-fill_range.ensures.sound out first.sound before (still_at a.file.header.fields b.file.header.fields c.args.from first.header whole.0)).fills));
      may_fail = λ near. let first = (c.in_ok-next.ensures.sound out sound order whole third).fills in
          hands_met (MayFailAllocating (HasPinnedMapping out) (HasPinnedMapping out) (HasCompressedIn c.args.old c.args.from h (known_in view a.file)) ⊥) c.from_residual-in_err-fill_range.result e c.from_residual-in_err-fill_range.ensures
          (met_before view below out 0 c.args.from c.in_ok-next.next a b first c.args.old c.args.from c.args.old c.args.from (omega arith) (omega arith) e
          ((c.in_err-fill_range.ensures.sound out first.sound before (still_at h h' c.args.from first.header whole.0)).may_fail (near_behind view below out 0 c.args.from c.in_ok-next.next a b first c.args.end c.args.from (omega (arith, next.2, order)) order near)));
    }

pub returns-clause-sound : goal.returns-clause-sound
returns-clause-sound g c = λ out sound before order whole third.
    let view = g.S.Storage.view in
    let below = g.F.BackingDisk.backing in
    let a = c.args.self.now in
    let b = c.zero_first.new.self in
    let d = c.fill_range.new.self in
    let next = c.in_ok-next.ensures.next in
    let h = a.file.header.fields in
    let first = zeros_from view below out a b c.args.from c.in_ok-next.next whole.0 ((c.in_ok-next.ensures.sound out sound order whole third).fills) in
    let second = (c.in_ok-fill_range.ensures.sound out first.sound before (still_at a.file.header.fields b.file.header.fields c.args.from first.header whole.0)).fills in
    let h'' = d.file.header.fields in
    let both = fills_before view below out a b d c.args.from c.args.old c.args.from c.in_ok-next.next before next.0 first second in
    let ends = c.in_ok-next.ensures.whole out sound whole in
    let at = still_at h b.file.header.fields c.args.from first.header whole.0 in
    record {
      fills = fills_or_refuses view below out a d c.zero_range.new.self c.args.from c.args.old c.in_ok-next.next c.args.end (omega (arith, before, next.0)) (omega (arith, next.2, order)) both (goes_step (step_then c.zero_first.ensures.step c.fill_range.ensures.step)) next.0 (still_at a.file.header.fields d.file.header.fields c.in_ok-next.next both.header ends) c.zero_range.result
          ((c.zero_range.ensures.sound out both.sound (omega (arith, next.2, order)) (still_at a.file.header.fields d.file.header.fields c.in_ok-next.next both.header ends, still_at a.file.header.fields d.file.header.fields c.args.end both.header whole.1)
          (subst (λ v. 3 ≤ v) (sym (same_version a.file.header.fields d.file.header.fields both.header)) third)).fills);
      may_fail = λ near. let second = (c.in_ok-fill_range.ensures.sound out first.sound before at).fills in
          IfErr-weaker c.zero_range.result _ _ (taking_as (λ held. held) (λ kept. kept) (λ no. absurd no) (λ no. no))
          ((c.zero_range.ensures.sound out both.sound (omega (arith, next.2, order)) (still_at h h'' c.in_ok-next.next both.header ends, still_at h h'' c.args.end both.header whole.1) (subst (λ v. 3 ≤ v) (sym (same_version h h'' both.header)) third)).may_fail
          (near_behind view below out _ c.args.old c.in_ok-next.next a d both c.args.end c.args.end (omega (arith, next.2, order)) (omega arith) near));
    }

pub returns-in_err-fill_range-clause-fails : goal.returns-in_err-fill_range-clause-fails
returns-in_err-fill_range-clause-fails g c = record {
  faults = counted_on g.S.Storage.view g.F.BackingDisk.backing c.args.self.now c.zero_first.new.self c.fill_range.new.self c.fill_range.result c.in_err-fill_range.field-0.0 c.from_residual-in_err-fill_range.result c.in_ok-next.ensures.fails.faults.told c.fill_range.ensures.fails.faults c.in_err-fill_range.was c.from_residual-in_err-fill_range.ensures;
  cause = search rules;
}

pub returns-clause-fails : goal.returns-clause-fails
returns-clause-fails g c =
    let view = g.S.Storage.view in
    let below = g.F.BackingDisk.backing in
    let old = c.args.self.now in
    record {
      faults = counted_since view below old c.fill_range.new.self c.zero_range.new.self c.zero_range.result (faults_then view below old c.zero_first.new.self c.fill_range.new.self c.in_ok-next.ensures.fails.faults.told c.in_ok-fill_range.ensures.fails.faults.told) c.zero_range.ensures.fails.faults;
      cause = c.zero_range.ensures.fails.cause;
    }

use Rattle.std.proofs.Common.{◌≡◌, refl, subst, arith, rules}
use Rattle.qcow2_image.proofs.Common.{notes_none, notes_then, handed_on, FillsOrRefuses, FillsPart, known_in, HasCompressedIn, MayFailAllocating, HasPinnedMapping}
use Rattle.qcow2_image.proofs.Lemmas.{filled_first, filled_next, filled_refused, still_at, counted_ok, counted_on, faults_then, untouched, behind_none, behind_then, met_before, near_behind, hands_met}
use Rattle.qcow2_image.proofs.image.Qcow2.fill_range.Goals as goal

pub loop-at-init : goal.loop-at-init
loop-at-init g c = record {
  turns = filled_first g.S.Storage.view g.F.BackingDisk.backing c.args.from c.args.to c.args.self.now;
  faults = untouched g.S.Storage.view g.F.BackingDisk.backing c.args.self.now c.args.self.now refl refl refl;
  emptied = λ none. none;
  behind = behind_none;
  notes = notes_none;
}

pub loop-at-preserved : goal.loop-at-preserved
loop-at-preserved g c =
    let next = c.in_ok-at.ensures.next in
    record {
      turns = filled_next g.S.Storage.view g.F.BackingDisk.backing c.args.from c.args.to c.loop-at.at c.args.self.now c.loop-at.self c.fill_first.new.self c.loop-at-test.true c.loop-at.invariant.turns c.in_ok-at.at c.fill_first.ensures.step.stays next.0 next.1 (λ x0 x1. (c.in_ok-at.ensures.sound x0 x1).fills);
      faults = faults_then g.S.Storage.view g.F.BackingDisk.backing c.args.self.now c.loop-at.self c.fill_first.new.self c.loop-at.invariant.faults c.in_ok-at.ensures.fails.faults.told;
      emptied = λ none. c.in_ok-at.ensures.emptied (c.loop-at.invariant.emptied none);
      behind = behind_then c.loop-at.invariant.behind c.fill_first.ensures.step.header_cluster;
      notes = notes_then c.loop-at.invariant.notes c.fill_first.ensures.step.notes;
    }

pub returns-in_err-at-clause-step : goal.returns-in_err-at-clause-step
returns-in_err-at-clause-step g c = record { stays = search rules; notes = notes_then c.loop-at.invariant.notes c.fill_first.ensures.step.notes; header_cluster = behind_then c.loop-at.invariant.behind c.fill_first.ensures.step.header_cluster }

pub returns-in_err-at-clause-fails : goal.returns-in_err-at-clause-fails
returns-in_err-at-clause-fails g c = record {
  cause = search rules;
  faults = counted_on g.S.Storage.view g.F.BackingDisk.backing c.args.self.now c.loop-at.self c.fill_first.new.self c.fill_first.result c.in_err-at.field-0.0 c.from_residual.result c.loop-at.invariant.faults c.fill_first.ensures.fails.faults c.in_err-at.was c.from_residual.ensures;
}

pub returns-clause-step : goal.returns-clause-step
returns-clause-step g c = record { stays = search rules; notes = c.loop-at.invariant.notes; header_cluster = c.loop-at.invariant.behind }

pub returns-clause-fails : goal.returns-clause-fails
returns-clause-fails g c = record { faults = counted_ok g.S.Storage.view g.F.BackingDisk.backing c.args.self.now c.loop-at.self tt c.loop-at.invariant.faults; cause = search rules }

pub returns-in_err-at-clause-sound : goal.returns-in_err-at-clause-sound
returns-in_err-at-clause-sound g c = λ out sound le whole.
    let view = g.S.Storage.view in
    let below = g.F.BackingDisk.backing in
    let e = c.in_err-at.field-0.0 in
    let old = c.args.self.now in
    let now = c.loop-at.self in
    let from = c.args.from in
    let to = c.args.to in
    let lt = c.loop-at-test.true in
    let low = c.loop-at.invariant.turns.low in
    let part = c.loop-at.invariant.turns.so_far out sound whole in
    record {
      fills = handed_on (λ r. FillsOrRefuses view below c.args.to c.args.from c.args.to c.args.self.now c.fill_first.new.self out r) c.from_residual.result e c.from_residual.ensures
          (filled_refused view below c.args.from c.args.to c.loop-at.at c.args.self.now c.loop-at.self c.fill_first.new.self c.loop-at-test.true c.loop-at.invariant.turns c.loop-at.invariant.behind e (λ list still. (c.in_err-at.ensures.sound list still).fills) out sound whole);
      may_fail = λ near. hands_met (MayFailAllocating (HasPinnedMapping out) (HasPinnedMapping out) (HasCompressedIn from to old.file.header.fields (known_in view old.file)) ⊥) c.from_residual.result e c.from_residual.ensures
          (met_before view below out to from c.loop-at.at old now part c.loop-at.at to from to low (omega arith) e
          ((c.in_err-at.ensures.sound out part.sound).may_fail (still_at old.file.header.fields now.file.header.fields to part.header whole) (near_behind view below out to from c.loop-at.at old now part to to (omega (arith, lt)) (omega arith) near)));
    }

pub returns-clause-sound : goal.returns-clause-sound
returns-clause-sound g c = λ out sound le whole.
    let high = c.loop-at.invariant.turns.high in
    let past = c.loop-at-test.false in
    let end : c.loop-at.at ≡ c.args.to = omega (arith, high, past, le) in
    record {
      may_fail = search rules;
      fills = subst (λ n. FillsPart g.S.Storage.view g.F.BackingDisk.backing c.args.to c.args.from n c.args.self.now c.loop-at.self out) end (c.loop-at.invariant.turns.so_far out sound whole);
    }

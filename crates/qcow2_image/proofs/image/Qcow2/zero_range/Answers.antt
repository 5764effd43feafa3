use Rattle.std.proofs.Common.{◌≡◌, ◌≤◌, refl, subst, sym, arith, rules}
use Rattle.qcow2_image.proofs.Common.{notes_none, notes_then, handed_on, FillsOrRefuses, FillsPart, HasPinnedMapping, MayFailAllocating}
use Rattle.qcow2_image.proofs.Lemmas.{same_version, still_at, zeroed_first, zeroed_next, zeroed_refused, counted_ok, counted_on, faults_then, untouched, behind_none, behind_then, near_behind, hands_met}
use Rattle.qcow2_image.proofs.image.Qcow2.zero_range.Goals as goal

pub loop-at-init : goal.loop-at-init
loop-at-init g c = record {
  turns = zeroed_first g.S.Storage.view g.F.BackingDisk.backing c.args.from c.args.to c.args.self.now;
  faults = untouched g.S.Storage.view g.F.BackingDisk.backing c.args.self.now c.args.self.now refl refl refl;
  emptied = λ none. none;
  behind = behind_none;
  notes = notes_none;
}

pub loop-at-preserved : goal.loop-at-preserved
loop-at-preserved g c =
    let next = c.in_ok-at.ensures.next in
    record {
      turns = zeroed_next g.S.Storage.view g.F.BackingDisk.backing c.args.from c.args.to c.loop-at.at c.args.self.now c.loop-at.self c.zero_first.new.self c.loop-at-test.true c.loop-at.invariant.turns c.in_ok-at.at c.zero_first.ensures.step.stays next.0 next.2 c.in_ok-at.ensures.whole
          (λ x0 x1 x2 x3 x4. (c.in_ok-at.ensures.sound x0 x1 x2 x3 x4).fills);
      faults = faults_then g.S.Storage.view g.F.BackingDisk.backing c.args.self.now c.loop-at.self c.zero_first.new.self c.loop-at.invariant.faults c.in_ok-at.ensures.fails.faults.told;
      emptied = λ none. c.in_ok-at.ensures.emptied (c.loop-at.invariant.emptied none);
      behind = behind_then c.loop-at.invariant.behind c.zero_first.ensures.step.header_cluster;
      notes = notes_then c.loop-at.invariant.notes c.zero_first.ensures.step.notes;
    }

pub returns-in_err-at-clause-step : goal.returns-in_err-at-clause-step
returns-in_err-at-clause-step g c = record { stays = search rules; notes = notes_then c.loop-at.invariant.notes c.zero_first.ensures.step.notes; header_cluster = behind_then c.loop-at.invariant.behind c.zero_first.ensures.step.header_cluster }

pub returns-in_err-at-clause-fails : goal.returns-in_err-at-clause-fails
returns-in_err-at-clause-fails g c = record {
  cause = search rules;
  faults = counted_on g.S.Storage.view g.F.BackingDisk.backing c.args.self.now c.loop-at.self c.zero_first.new.self c.zero_first.result c.in_err-at.field-0.0 c.from_residual.result c.loop-at.invariant.faults c.zero_first.ensures.fails.faults c.in_err-at.was c.from_residual.ensures;
}

pub returns-clause-step : goal.returns-clause-step
returns-clause-step g c = record { stays = search rules; notes = c.loop-at.invariant.notes; header_cluster = c.loop-at.invariant.behind }

pub returns-clause-fails : goal.returns-clause-fails
returns-clause-fails g c = record { faults = counted_ok g.S.Storage.view g.F.BackingDisk.backing c.args.self.now c.loop-at.self tt c.loop-at.invariant.faults; cause = search rules }

pub returns-in_err-at-clause-sound : goal.returns-in_err-at-clause-sound
returns-in_err-at-clause-sound g c = λ out sound le whole version.
    let view = g.S.Storage.view in
    let old = c.args.self.now in
    let below = g.F.BackingDisk.backing in
    let now = c.loop-at.self in
    let e = c.in_err-at.field-0.0 in
    let h = old.file.header.fields in
    let h' = now.file.header.fields in
    let to = c.args.to in
    let lt = c.loop-at-test.true in
    let so = c.loop-at.invariant.turns.so_far out sound le whole version in
    let file_step = so.0.header in
    record {
      fills = handed_on (λ r. FillsOrRefuses view below 0 c.args.from c.args.to c.args.self.now c.zero_first.new.self out r) c.from_residual.result e c.from_residual.ensures
          (zeroed_refused view below c.args.from c.args.to c.loop-at.at c.args.self.now c.loop-at.self c.zero_first.new.self c.loop-at-test.true c.loop-at.invariant.turns c.loop-at.invariant.behind e (λ list still order full third. (c.in_err-at.ensures.sound list still order full third).fills) out sound le whole version);
      may_fail = λ near. hands_met (MayFailAllocating (HasPinnedMapping out) (HasPinnedMapping out) ⊥ ⊥) c.from_residual.result c.in_err-at.field-0.0 c.from_residual.ensures
          ((c.in_err-at.ensures.sound out so.0.sound (omega (arith, lt)) (still_at h h' c.loop-at.at file_step so.1, still_at h h' to file_step whole.1) (subst (λ v. 3 ≤ v) (sym (same_version h h' file_step)) version)).may_fail
          (near_behind g.S.Storage.view g.F.BackingDisk.backing out 0 c.args.from c.loop-at.at old now so.0 to to (omega (arith, lt)) (omega arith) near));
    }

pub returns-clause-sound : goal.returns-clause-sound
returns-clause-sound g c = λ out sound le whole version.
    let high = c.loop-at.invariant.turns.high in
    let past = c.loop-at-test.false in
    let end : c.loop-at.at ≡ c.args.to = omega (arith, high, past, le) in
    record {
      may_fail = search rules;
      fills = subst (λ n. FillsPart g.S.Storage.view g.F.BackingDisk.backing 0 c.args.from n c.args.self.now c.loop-at.self out) end (c.loop-at.invariant.turns.so_far out sound le whole version).0;
    }

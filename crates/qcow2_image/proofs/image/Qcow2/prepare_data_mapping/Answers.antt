use Rattle.qcow2_image.proofs.Call.MarkedCalls.{call_marked}
use Rattle.qcow2_image.proofs.Lemmas.{lies_below, refused_exists, goes_begun, limited_since, limits_as, listed, refused_for, prepares_after, stays_kept, marks_memory, may_mark, fails_none, behind_none, begun_own, unpinned_begun, compressed_as, far_before, taking_as}
use Rattle.qcow2_image.proofs.Call.DataFiles.{refused_at_once}
use Rattle.std.proofs.Common.{◌≡◌, ◌<◌, ◌≤◌, ◌+◌, [], sym, ◌∙◌, subst, arith, ap, refl, ⊎_elim, inl, inr, rules, IfErr, IfOk, IfSome, Err, None, Result, Some, Bool, if◌then◌else◌}
use Rattle.qcow2_image.proofs.Common.{handed_on, IfLimit, IsLimited, IsNone, TablePrepared, known_in, IsAnswered, IsTaken, Qcow2, Prepares, is_failed, ListsNoMore, IsExisting, meaning, pending_in, refuses_to_prepare, FreesRefused, PreparesUnpinned, ExistsInTables, cluster_size, HeaderFields, NeedsOverflowingL1Entry, CopiesCompressed, MayFailAllocating, length_of, offset_of, table_of, HasPinnedMapping, IfOk-weaker, IfErr-weaker, MayFailPreparing, size_of, DataFile, Image, IsPlacedBehind, place_in, file_of}
use Rattle.qcow2_image.proofs.image.Qcow2.prepare_data_mapping.Goals as goal
use Rattle.qcow2_image.proofs.Prepare.PreparedAnswers.{answered_before, taken_before}
use Rattle.qcow2_image.proofs.Call.Answers.{prepare_usable}
use Rattle.qcow2_image.proofs.Prepare.PrepareCalls.{prepares_nothing, prepares_with_outcome}

pub returns-clause-answer : goal.returns-clause-answer
returns-clause-answer g c = record {
  own = search rules;
  some = subst (λ (r : Result _ _). IfOk r (λ p. 0 < c.args.length → 0 < length_of p)) (sym c.mark_failure.ensures.answer) (IfOk-weaker c.prepare-prepared.result _ _ (λ p has some. (has some).some) c.prepare-prepared.ensures.some);
  place = subst (λ (r : Result _ _). IfOk r (λ p. file_of p ≡ place_in c.mark_failure.new.self)) (sym c.mark_failure.ensures.answer)
      (subst (λ (i : Qcow2 _ _). IfOk c.prepare-prepared.result (λ p. file_of p ≡ place_in i)) (sym c.mark_failure.ensures.rest)
      (IfOk-weaker c.prepare-prepared.result _ _ (λ p own. own.1 ∙ ap (λ (b : Bool). if b then DataFile else Image) (sym c.prepare-prepared.ensures.step.stays.image.beside)) c.prepare-prepared.ensures.own));
  behind = let n = c.args.length in
      subst (λ (r : Result _ _). IfOk r (λ p. 0 < n → IsPlacedBehind c.mark_failure.new.self (offset_of p))) (sym c.mark_failure.ensures.answer)
      (subst (λ (i : Qcow2 _ _). IfOk c.prepare-prepared.result (λ p. 0 < n → IsPlacedBehind i (offset_of p))) (sym c.mark_failure.ensures.rest) (IfOk-weaker c.prepare-prepared.result _ _ (λ p has some. (has some).behind) c.prepare-prepared.ensures.some));
  end = search rules;
}

pub returns-clause-sound : goal.returns-clause-sound
returns-clause-sound g c = λ out sound.
    let old = c.args.self.now in
    let below = g.F.BackingDisk.backing in
    let view = g.S.Storage.view in
    let mid = c.begin_call.new.self in
    let stays = stays_kept view below out old mid sound (listed view below out old mid (λ s. record { keeps = c.begin_call.ensures.keeps (pending_in view below old out) out s; list = c.begin_call.ensures.list }) sound) in
    let some : 0 < c.args.length = let isnt = c.if-length-eq0.false in omega arith in
    let new = c.prepare-prepared.new.self in
    record {
      may_fail = let from = c.args.offset in
          let n = c.args.length in
          let overwrite = c.args.overwrite in
          let size : cluster_size mid.file.header.fields ≡ cluster_size old.file.header.fields = ap (λ (x : HeaderFields). cluster_size x) stays.header in
          let h = old.file.header.fields in
          let known = known_in view old.file in
          λ may some. subst (λ (r : Result _ _). IfErr r (MayFailAllocating (HasPinnedMapping out) (IsTaken h known from n out) (CopiesCompressed from n overwrite h known) (NeedsOverflowingL1Entry old from))) (sym c.mark_failure.ensures.answer)
          (IfErr-weaker c.prepare-prepared.result _ _
          (taking_as (λ held. held) (λ taken. taken_before view old mid from n stays.header stays.covers out taken) (compressed_as h mid.file.header.fields known (known_in view mid.file) from n overwrite size stays.covers) (far_before old mid from c.begin_call.ensures.begun.rest))
          ((c.prepare-prepared.ensures.sound some out stays.sound).may_fail));
      limit = λ may some. subst (λ (r : Result _ _). IfLimit r (IsLimited view below [] (c.args.offset + 1) old out)) (sym c.mark_failure.ensures.answer)
          (limits_as c.prepare-prepared.result (limited_since (omega arith) (goes_begun c.begin_call.ensures.stays c.begin_call.ensures.begun) stays) ((c.prepare-prepared.ensures.sound some out stays.sound).limit));
      taken = λ may. subst (λ r. IfErr r (λ e. e ≡ TablePrepared → IsTaken old.file.header.fields (known_in view old.file) c.args.offset c.args.length out)) (sym c.mark_failure.ensures.answer)
          (IfErr-weaker c.prepare-prepared.result _ _
          (λ e taken is. taken_before view old mid c.args.offset c.args.length stays.header stays.covers out (taken is))
          ((c.prepare-prepared.ensures.sound some out stays.sound).taken));
      freed = λ may some. subst (λ (image : Qcow2 _ _). IfErr c.mark_failure.result (FreesRefused image)) (sym c.mark_failure.ensures.rest)
          (subst (λ (r : Result _ _). IfErr r (FreesRefused new)) (sym c.mark_failure.ensures.answer) (c.prepare-prepared.ensures.freed some out stays.sound));
      freeing = subst (λ (image : Qcow2 _ _). IfOk c.mark_failure.result (λ p. IsNone (table_of p) → ListsNoMore old image)) (sym c.mark_failure.ensures.rest)
          (subst (λ r. IfOk r (λ p. IsNone (table_of p) → ListsNoMore old c.prepare-prepared.new.self)) (sym c.mark_failure.ensures.answer)
          (IfOk-weaker c.prepare-prepared.result _ _ (λ p less none. ⊎_elim (λ same. inl (same ∙ c.begin_call.ensures.list)) (λ empty. inr empty) (less none)) ((c.prepare-prepared.ensures.sound some out stays.sound).freeing)));
      maps = let now = known_in view new.file in
          λ some. subst (λ (image : Qcow2 _ _). IfOk c.mark_failure.result (λ p. IsAnswered old.file.header.fields (known_in view old.file) c.args.offset c.args.length image.file.header.fields (known_in view image.file) p (meaning view below out.place image p))) (sym c.mark_failure.ensures.rest)
          (subst (λ r. IfOk r (λ p. IsAnswered old.file.header.fields (known_in view old.file) c.args.offset c.args.length new.file.header.fields now p (meaning view below out.place new p))) (sym c.mark_failure.ensures.answer)
          (IfOk-weaker c.prepare-prepared.result _ _
          (λ p is. answered_before view old mid c.args.offset c.args.length stays.header stays.covers new.file.header.fields now p (meaning view below out.place new p) is)
          ((c.prepare-prepared.ensures.sound some out stays.sound).answers)));
    }

pub returns-in_err-check_prepare-clause-sound : goal.returns-in_err-check_prepare-clause-sound
returns-in_err-check_prepare-clause-sound g c = λ out sound.
    let refused = refused_for c.check_prepare.result tt (refuses_to_prepare c.args.self.now c.args.offset c.args.length) c.in_err-check_prepare.field-0.0 c.check_prepare.ensures.refusal c.in_err-check_prepare.was in
    record {
      may_fail = λ may some. absurd (let no : None ≡ Some c.in_err-check_prepare.field-0.0 = sym may ∙ refused in cc);
      limit = λ may some. absurd (let no : None ≡ Some c.in_err-check_prepare.field-0.0 = sym may ∙ refused in cc);
      taken = search rules;
      freed = search rules;
      freeing = search rules;
      maps = search rules;
    }

pub returns-then-length-eq0-clause-sound : goal.returns-then-length-eq0-clause-sound
returns-then-length-eq0-clause-sound g c = λ out sound.
    record {
      may_fail = search rules;
      limit = search rules;
      taken = search rules;
      freed = search rules;
      freeing = λ none. inl refl;
      maps = search rules;
    }

pub returns-then-length-eq0-clause-sees : goal.returns-then-length-eq0-clause-sees
returns-then-length-eq0-clause-sees g c =
    let old = c.args.self.now in
    let none : c.args.length ≡ 0 = c.if-length-eq0.true in
    prepares_nothing g.S.Storage.view g.F.BackingDisk.backing old (prepare_usable old c.args.offset c.args.length c.check_prepare.result c.in_ok-check_prepare.was c.check_prepare.ensures.refusal) c.args.offset c.args.length c.args.overwrite c.existing_at.result
    (subst (λ n. IsExisting c.existing_at.result old.number c.args.offset n) (sym none) c.existing_at.ensures.existing)

pub returns-clause-sees : goal.returns-clause-sees
returns-clause-sees g c =
    let view = g.S.Storage.view in
    let below = g.F.BackingDisk.backing in
    let old = c.args.self.now in
    let mid = c.begin_call.new.self in
    let new = c.prepare-prepared.new.self in
    let r = c.prepare-prepared.result in
    let some : 0 < c.args.length = let isnt = c.if-length-eq0.false in omega arith in
    subst (λ (image : Qcow2 _ _). Prepares view below old image c.args.offset c.args.length c.args.overwrite c.mark_failure.result) (sym c.mark_failure.ensures.rest)
    (subst (λ (x : Result _ _). Prepares view below old (record new { is_failed = is_failed c.mark_failure.new.self }) c.args.offset c.args.length c.args.overwrite x) (sym c.mark_failure.ensures.answer)
    (prepares_with_outcome view below old (prepare_usable old c.args.offset c.args.length c.check_prepare.result c.in_ok-check_prepare.was c.check_prepare.ensures.refusal) new (is_failed c.mark_failure.new.self)
    (c.prepare-prepared.ensures.step.stays.image.number ∙ c.begin_call.ensures.stays.image.number) c.args.offset c.args.length c.args.overwrite r (may_mark c.prepare-prepared.new.self c.mark_failure.new.self c.prepare-prepared.result c.mark_failure.ensures.marks) (marks_memory c.prepare-prepared.new.self c.mark_failure.new.self c.prepare-prepared.new.self c.prepare-prepared.result c.mark_failure.ensures.marks (ap (λ (i : Qcow2 _ _). i.file) c.mark_failure.ensures.rest))
    (λ out sound.
    let kept = stays_kept view below out old mid sound (listed view below out old mid (λ s. record { keeps = c.begin_call.ensures.keeps (pending_in view below old out) out s; list = c.begin_call.ensures.list }) sound) in
    prepares_after view below out old mid new kept c.args.offset c.args.length c.args.overwrite r ((c.prepare-prepared.ensures.sound some out kept.sound).readies))))

pub returns-in_err-check_prepare-clause-pinned : goal.returns-in_err-check_prepare-clause-pinned
returns-in_err-check_prepare-clause-pinned g c = λ some none own.
    let refused = refused_for c.check_prepare.result tt (refuses_to_prepare c.args.self.now c.args.offset c.args.length) c.in_err-check_prepare.field-0.0 c.check_prepare.ensures.refusal c.in_err-check_prepare.was in
    absurd (let no : None ≡ Some c.in_err-check_prepare.field-0.0 = sym none ∙ refused in cc)

pub returns-clause-pinned : goal.returns-clause-pinned
returns-clause-pinned g c = λ some none own.
    let old = c.args.self.now in
    subst (λ (r : Result _ _). PreparesUnpinned old c.args.offset r) (sym c.mark_failure.ensures.answer)
    (unpinned_begun old c.begin_call.new.self c.args.offset c.prepare-prepared.result c.begin_call.ensures.begun (c.prepare-prepared.ensures.pinned (begun_own old c.begin_call.new.self c.args.offset c.begin_call.ensures.begun own)))

pub returns-clause-step : goal.returns-clause-step
returns-clause-step g c = call_marked c.begin_call.ensures.begun c.begin_call.ensures.stays c.begin_call.ensures.faults c.prepare-prepared.result c.mark_failure.result c.mark_failure.ensures.marks c.mark_failure.ensures.rest c.mark_failure.ensures.answer c.prepare-prepared.ensures.step c.prepare-prepared.ensures.fails.faults

pub returns-in_err-check_prepare-clause-step : goal.returns-in_err-check_prepare-clause-step
returns-in_err-check_prepare-clause-step g c = record { image = search rules; marks = search rules; once_written = fails_none g.S.Storage.view c.args.self.now _; header_cluster = behind_none; faults = search rules }

pub returns-then-length-eq0-clause-step : goal.returns-then-length-eq0-clause-step
returns-then-length-eq0-clause-step g c = record { image = search rules; marks = search rules; once_written = fails_none g.S.Storage.view c.args.self.now _; header_cluster = behind_none; faults = search rules }

pub returns-in_err-check_prepare-clause-refusals : goal.returns-in_err-check_prepare-clause-refusals
returns-in_err-check_prepare-clause-refusals g c = record {
  early = let old = c.args.self.now in
      let e = c.in_err-check_prepare.field-0.0 in
      let why = refuses_to_prepare old c.args.offset c.args.length in
      handed_on (λ (r : Result _ _). IfSome why (λ x. (r ≡ Err x) × (old ≡ old))) c.from_residual.result e c.from_residual.ensures (refused_at_once _ old why e c.in_err-check_prepare.ensures.refusal);
  nothing = search rules;
  late = search rules;
}

pub returns-then-length-eq0-clause-refusals : goal.returns-then-length-eq0-clause-refusals
returns-then-length-eq0-clause-refusals g c = record { early = search rules; nothing = search rules; late = search rules }

pub returns-clause-refusals : goal.returns-clause-refusals
returns-clause-refusals g c = record {
  early = search rules;
  nothing = search rules;
  late = λ none. subst (λ (r : Result _ _). IfErr r (MayFailPreparing c.mark_failure.new.self)) (sym c.mark_failure.ensures.answer)
      (subst (λ (image : Qcow2 _ _). IfErr c.prepare-prepared.result (MayFailPreparing image)) (sym c.mark_failure.ensures.rest) c.prepare-prepared.ensures.fails.cause);
}

pub returns-in_err-check_prepare-clause-existing : goal.returns-in_err-check_prepare-clause-existing
returns-in_err-check_prepare-clause-existing g c = λ some none.
    refused_exists c.args.self.now c.args.offset c.args.length c.from_residual.result c.in_err-check_prepare.field-0.0 c.from_residual.ensures

pub returns-then-length-eq0-clause-existing : goal.returns-then-length-eq0-clause-existing
returns-then-length-eq0-clause-existing g c = λ some none. absurd (omega (arith, some, c.if-length-eq0.true))

pub returns-clause-existing : goal.returns-clause-existing
returns-clause-existing g c = λ some none.
    let below : c.args.offset + c.args.length ≤ size_of c.begin_call.new.self = let size = c.begin_call.ensures.stays.image.size in let is = lies_below c.args.self.now c.args.offset c.args.length some none in omega (arith, size, is) in
    subst (λ (r : Result _ _). ExistsInTables c.mark_failure.new.self c.args.offset c.args.length r) (sym c.mark_failure.ensures.answer)
    (subst (λ (i : Qcow2 _ _). ExistsInTables i c.args.offset c.args.length c.prepare-prepared.result) (sym c.mark_failure.ensures.rest) (c.prepare-prepared.ensures.existing some below))

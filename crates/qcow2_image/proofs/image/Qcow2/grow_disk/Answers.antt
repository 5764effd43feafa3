use Rattle.qcow2_image.proofs.Call.FailingErrors.{writing_met}
use Rattle.std.proofs.Common.{◌∷◌, ◌≡◌, ◌+◌, ◌-◌, ◌<◌, ◌⊎◌, [], inl, inr, ◌∙◌, max, sym, ap, subst, arith, refl, rules, Err, IfErr, IsTrue, Ok, Result}
use Rattle.qcow2_image.proofs.Common.{GoesTo, IfLimit, IsLimited, or_right, ImageFile, has_noted, known_in, notes_then, OnOk, HeaderFields, entry_count, with_size, cluster_size, rounded_up, Memory, Version, IsFault, is_changed_of, InternalCall, Qcow2, l1_index_of, Lasts, LastsCall, ReachesSize, HasNothingToFree, is_failed, size_of, with_marks, has_noted_change, ImageInvariant, pending_in, MakesEntry, ReachesOffset, IsPlacedNear, FillsGrown, FillsGrownOrRefuses, FreesRefused, IsFaultOrLimit, MayFailOn, IsUnlimited, GrowsTables, GrowsTo, LacksZeros, RefusesUnchanged, WritesSizeLast, all_given_by_grow, handed_on, err_as, FailsOnceWritten, pow_pos, MayFailGrowing, IfErr-weaker, LastsPart, ListGrows, MayFailToGrow}
use Rattle.qcow2_image.proofs.image.Qcow2.grow_disk.Goals as goal
use Rattle.qcow2_image.proofs.Lemmas.{same_kept, call_marked, known_then, lasts_asking, lasts_step, lasts_then, shown_none, MayMarkBy, marks_memory, may_mark, stays_then, err_is, reaches_begun, reaches_on, reaches_told, file_step_then, met_taken, same_version, untaken_grown, begun_call, same_of, counted_marked, counted_on, untouched, kept_noted, fails_marked, fails_once, behind_by, behind_call, behind_none, behind_then, faults_unlimited, goes_begun, goes_step, goes_then, hands_limit, limited_giving, limited_since, unlimited_all, up_least, same_size, met_behind, near_longer_ends, hands_met, met_as}
use Rattle.qcow2_image.proofs.Grow.GrownByParts.{call_then}
use Rattle.image_access.specs.declared.storage.PreallocateMode.TheVariants.{Zero}
use Rattle.qcow2_image.proofs.Resize.GrowByParts.{given_growing, grows_in_part, grows_not, grows_sized, last_in_part, last_not, last_sized, reaches_lengthened, unchanged_not}
use Rattle.qcow2_image.proofs.Resize.GrownTables.{leaves_sized, reaches_filled, refuses_version, tables_sized, taken_behind}
use Rattle.qcow2_image.proofs.Resize.RecordedChanges.{counted_noted, grows_noted, tables_noted, unchanged_noted}
use Rattle.qcow2_image.proofs.Resize.RefusedGrowths.{fault_listed, limit_listed, part_lasts}
use Rattle.qcow2_image.specs.ListedClusters.{LeavesListed}

pub returns-in_err-mark_failure-clause-sees : goal.returns-in_err-mark_failure-clause-sees
returns-in_err-mark_failure-clause-sees g c =
    let view = g.S.Storage.view in
    let below = g.F.BackingDisk.backing in
    let old = c.args.self.now in
    let begun = c.begin_call.new.self in
    let mid = c.lengthen_files-longer.new.self in
    let first = begun_call view below old begun (λ out sound. record { keeps = c.begin_call.ensures.keeps (pending_in view below old out) out sound; list = c.begin_call.ensures.list }) in
    let e = c.in_err-mark_failure.field-0.0 in
    let marked = is_failed c.mark_failure.new.self in
    let done : c.lengthen_files-longer.result ≡ Err c.in_err-mark_failure.field-0.0 = sym c.mark_failure.ensures.answer ∙ c.in_err-mark_failure.was in
    subst (λ (r : Result _ _). GrowsTo view below old c.mark_failure.new.self c.args.size c.args.mode r) (sym (err_is c.from_residual.result c.from_residual.ensures))
    (subst (λ (image : Qcow2 _ _). GrowsTo view below old image c.args.size c.args.mode (Err e)) (sym c.mark_failure.ensures.rest)
    (grows_not view below old c.args.size c.args.mode c.requires.usable c.requires.larger begun mid e marked first
    (λ out sound. subst (MakesEntry view below begun mid out) done ((c.lengthen_files-longer.ensures.longer.sound out sound).makes))
    (c.lengthen_files-longer.ensures.step.stays.image.number ∙ c.begin_call.ensures.stays.image.number)
    (subst (λ (r : Result _ _). MayMarkBy r (is_failed mid) marked) done (may_mark c.lengthen_files-longer.new.self c.mark_failure.new.self c.lengthen_files-longer.result c.mark_failure.ensures.marks))
    (subst (λ (r : Result _ _). IfErr r (λ x. x ≡ Memory → IsTrue (has_noted_change mid) → IsTrue marked)) done (marks_memory c.lengthen_files-longer.new.self c.mark_failure.new.self c.lengthen_files-longer.new.self c.lengthen_files-longer.result c.mark_failure.ensures.marks (ap (λ (i : Qcow2 _ _). i.file) c.mark_failure.ensures.rest)))))

pub returns-in_err-mark_fault-clause-sees : goal.returns-in_err-mark_fault-clause-sees
returns-in_err-mark_fault-clause-sees g c =
    let view = g.S.Storage.view in
    let below = g.F.BackingDisk.backing in
    let old = c.args.self.now in
    let begun = c.begin_call.new.self in
    let mid = c.lengthen_files-longer.new.self in
    let first = begun_call view below old begun (λ out sound. record { keeps = c.begin_call.ensures.keeps (pending_in view below old out) out sound; list = c.begin_call.ensures.list }) in
    let long = c.mark_failure.new.self in
    let made : c.lengthen_files-longer.result ≡ Ok c.in_ok-mark_failure.field-0 = sym c.mark_failure.ensures.answer ∙ c.in_ok-mark_failure.was in
    let kept = subst (λ (r : Result _ _). MayMarkBy r (is_failed mid) (is_failed long)) made (may_mark c.lengthen_files-longer.new.self c.mark_failure.new.self c.lengthen_files-longer.result c.mark_failure.ensures.marks) in
    let same : c.mark_failure.new.self ≡ c.lengthen_files-longer.new.self = c.mark_failure.ensures.rest ∙ ap (λ f. record mid { is_failed = f }) kept in
    let longer : (out : _) → ImageInvariant view below (pending_in view below old out) old out → InternalCall view below old c.mark_failure.new.self out = λ out sound.
    let call = first out sound in
    subst (λ (image : Qcow2 _ _). InternalCall view below old image out) (sym same) (stays_then view below out old begun mid call (subst (MakesEntry view below begun mid out) made ((c.lengthen_files-longer.ensures.longer.sound out call.sound).makes))) in
    let filled = c.fill_grown-filled.new.self in
    let e = c.in_err-mark_fault.field-0.0 in
    let marked = is_failed c.mark_fault.new.self in
    let done : c.fill_grown-filled.result ≡ Err c.in_err-mark_fault.field-0.0 = sym c.mark_fault.ensures.answer ∙ c.in_err-mark_fault.was in
    subst (λ (r : Result _ _). GrowsTo view below old c.mark_fault.new.self c.args.size c.args.mode r) (sym (err_is c.from_residual-in_err-mark_fault.result c.from_residual-in_err-mark_fault.ensures))
    (subst (λ (image : Qcow2 _ _). GrowsTo view below old image c.args.size c.args.mode (Err e)) (sym c.mark_fault.ensures.rest)
    (grows_noted view below old (record filled { is_failed = marked }) (is_changed_of c.mark_fault.new.self.file.storage) c.args.size c.args.mode (Err e) (grows_in_part view below old c.args.size c.args.mode c.requires.usable c.requires.larger long longer filled e marked
    (subst (λ (r : Result _ _). MayMarkBy r (is_failed filled) marked) done (may_mark c.fill_grown-filled.new.self c.mark_fault.new.self c.fill_grown-filled.result c.mark_fault.ensures.marks))
    (subst (λ (r : Result _ _). IfErr r (λ x. IsFault x → IsTrue marked)) done c.mark_fault.ensures.fault)
    (λ out sound. subst (FillsGrownOrRefuses view below c.args.size c.args.mode long filled out) done ((c.fill_grown-filled.ensures.sound out sound).fills))
    (c.fill_grown-filled.ensures.step.stays.image.number ∙ (c.mark_failure.ensures.image.number ∙ c.lengthen_files-longer.ensures.step.stays.image.number ∙ c.begin_call.ensures.stays.image.number)))))

pub returns-clause-sees : goal.returns-clause-sees
returns-clause-sees g c =
    let view = g.S.Storage.view in
    let below = g.F.BackingDisk.backing in
    let old = c.args.self.now in
    let begun = c.begin_call.new.self in
    let mid = c.lengthen_files-longer.new.self in
    let first = begun_call view below old begun (λ out sound. record { keeps = c.begin_call.ensures.keeps (pending_in view below old out) out sound; list = c.begin_call.ensures.list }) in
    let long = c.mark_failure.new.self in
    let made : c.lengthen_files-longer.result ≡ Ok c.in_ok-mark_failure.field-0 = sym c.mark_failure.ensures.answer ∙ c.in_ok-mark_failure.was in
    let kept = subst (λ (r : Result _ _). MayMarkBy r (is_failed mid) (is_failed long)) made (may_mark c.lengthen_files-longer.new.self c.mark_failure.new.self c.lengthen_files-longer.result c.mark_failure.ensures.marks) in
    let same : c.mark_failure.new.self ≡ c.lengthen_files-longer.new.self = c.mark_failure.ensures.rest ∙ ap (λ f. record mid { is_failed = f }) kept in
    let longer : (out : _) → ImageInvariant view below (pending_in view below old out) old out → InternalCall view below old c.mark_failure.new.self out = λ out sound.
    let call = first out sound in
    subst (λ (image : Qcow2 _ _). InternalCall view below old image out) (sym same) (stays_then view below out old begun mid call (subst (MakesEntry view below begun mid out) made ((c.lengthen_files-longer.ensures.longer.sound out call.sound).makes))) in
    let numbered = c.mark_failure.ensures.image.number ∙ c.lengthen_files-longer.ensures.step.stays.image.number ∙ c.begin_call.ensures.stays.image.number in
    let put : c.fill_grown-filled.result ≡ Ok c.in_ok-mark_fault.field-0 = sym c.mark_fault.ensures.answer ∙ c.in_ok-mark_fault.was in
    let whole : c.mark_fault.new.self ≡ c.fill_grown-filled.new.self = subst (λ (r : Result _ _). OnOk r (c.mark_fault.new.self ≡ c.fill_grown-filled.new.self)) put c.mark_fault.ensures.same in
    let fills : (out : _) → ImageInvariant view below (pending_in view below long out) long out → FillsGrown view below c.args.size c.args.mode long c.mark_fault.new.self out = λ out sound.
    subst (λ (image : Qcow2 _ _). FillsGrown view below c.args.size c.args.mode long image out) (sym whole)
    (subst (FillsGrownOrRefuses view below c.args.size c.args.mode long c.fill_grown-filled.new.self out) put ((c.fill_grown-filled.ensures.sound out sound).fills)) in
    let new = c.write_size-written.new.self in
    subst (λ (image : Qcow2 _ _). GrowsTo view below old image c.args.size c.args.mode c.mark_fault-2.result) (sym c.mark_fault-2.ensures.rest)
    (subst (λ (r : Result _ _). GrowsTo view below old (with_marks new (is_changed_of c.mark_fault-2.new.self.file.storage) (is_failed c.mark_fault-2.new.self)) c.args.size c.args.mode r) (sym c.mark_fault-2.ensures.answer)
    (grows_noted view below old (record new { is_failed = is_failed c.mark_fault-2.new.self }) (is_changed_of c.mark_fault-2.new.self.file.storage) c.args.size c.args.mode c.write_size-written.result (grows_sized view below old c.args.size c.args.mode c.requires.usable c.requires.larger long longer c.mark_fault.new.self fills new
    (ap (λ (i : Qcow2 _ _). i.number) c.write_size-written.ensures.rest ∙ c.mark_fault.ensures.image.number ∙ c.fill_grown-filled.ensures.step.stays.image.number ∙ numbered)
    c.write_size-written.result (is_failed c.mark_fault-2.new.self) (may_mark c.write_size-written.new.self c.mark_fault-2.new.self c.write_size-written.result c.mark_fault-2.ensures.marks) c.write_size-written.ensures.fails.cause c.mark_fault-2.ensures.fault c.write_size-written.ensures.writes)))

pub mark_fault-requires : goal.mark_fault-requires
mark_fault-requires g c =
    let made : c.lengthen_files-longer.result ≡ Ok c.in_ok-mark_failure.field-0 = sym c.mark_failure.ensures.answer ∙ c.in_ok-mark_failure.was in
    record { recorded = kept_noted g.S.Storage.view c.mark_failure.new.self c.fill_grown-filled.new.self c.fill_grown-filled.ensures.step.notes (subst (λ (f : ImageFile _). IsTrue (has_noted f)) (sym (ap (λ (i : Qcow2 _ _). i.file) c.mark_failure.ensures.rest)) (or_right (is_changed_of c.lengthen_files-longer.new.self.file.storage) c.lengthen_files-longer.new.self.file.caches.is_changed (subst (λ (r : Result _ _). OnOk r (IsTrue c.lengthen_files-longer.new.self.file.caches.is_changed)) made c.lengthen_files-longer.ensures.longer.recorded))) }

pub mark_fault-requires-2 : goal.mark_fault-requires-2
mark_fault-requires-2 g c =
    let made : c.lengthen_files-longer.result ≡ Ok c.in_ok-mark_failure.field-0 = sym c.mark_failure.ensures.answer ∙ c.in_ok-mark_failure.was in
    record {
      recorded = kept_noted g.S.Storage.view c.mark_fault.new.self c.write_size-written.new.self c.write_size-written.ensures.notes
          (subst (λ (f : ImageFile _). IsTrue (has_noted f)) (sym c.mark_fault.ensures.file) (kept_noted g.S.Storage.view c.mark_failure.new.self c.fill_grown-filled.new.self c.fill_grown-filled.ensures.step.notes (subst (λ (f : ImageFile _). IsTrue (has_noted f)) (sym (ap (λ (i : Qcow2 _ _). i.file) c.mark_failure.ensures.rest)) (or_right (is_changed_of c.lengthen_files-longer.new.self.file.storage) c.lengthen_files-longer.new.self.file.caches.is_changed (subst (λ (r : Result _ _). OnOk r (IsTrue c.lengthen_files-longer.new.self.file.caches.is_changed)) made c.lengthen_files-longer.ensures.longer.recorded)))));
    }

pub returns-in_err-mark_failure-clause-step : goal.returns-in_err-mark_failure-clause-step
returns-in_err-mark_failure-clause-step g c = record {
  marks = search rules;
  once_written = handed_on (λ r. FailsOnceWritten g.S.Storage.view c.args.self.now c.mark_failure.new.self r) c.from_residual.result c.in_err-mark_failure.field-0.0 c.from_residual.ensures
      (fails_once g.S.Storage.view c.args.self.now c.begin_call.new.self c.begin_call.ensures.begun c.lengthen_files-longer.new.self c.mark_failure.new.self c.lengthen_files-longer.result c.lengthen_files-longer.ensures.step.notes (c.lengthen_files-longer.ensures.step.stays.failed ∙ c.begin_call.ensures.stays.failed) c.mark_failure.ensures.marks c.mark_failure.ensures.rest (Err c.in_err-mark_failure.field-0.0) (λ memory. sym c.mark_failure.ensures.answer ∙ c.in_err-mark_failure.was ∙ err_as c.in_err-mark_failure.field-0.0 Memory memory));
  header_cluster = behind_call g.S.Storage.view c.begin_call.ensures.begun c.lengthen_files-longer.ensures.step.header_cluster c.mark_failure.ensures.rest;
  faults = let view = g.S.Storage.view in
      let below = g.F.BackingDisk.backing in
      let old = c.args.self.now in
      let longer = counted_marked view below old c.begin_call.new.self c.lengthen_files-longer.new.self c.mark_failure.new.self c.lengthen_files-longer.result c.mark_failure.result c.begin_call.ensures.faults c.lengthen_files-longer.ensures.fails.faults c.mark_failure.ensures.answer c.mark_failure.ensures.rest in
      counted_on view below old old c.mark_failure.new.self c.mark_failure.result c.in_err-mark_failure.field-0.0 c.from_residual.result (untouched view below old old refl refl refl) longer c.in_err-mark_failure.was c.from_residual.ensures;
}

pub returns-in_err-mark_fault-clause-step : goal.returns-in_err-mark_fault-clause-step
returns-in_err-mark_fault-clause-step g c = record {
  marks = search rules;
  once_written = let made : c.lengthen_files-longer.result ≡ Ok c.in_ok-mark_failure.field-0 = sym c.mark_failure.ensures.answer ∙ c.in_ok-mark_failure.was in
      let long : is_failed c.mark_failure.new.self ≡ is_failed c.args.self.now = subst (λ (r : Result _ _). MayMarkBy r (is_failed c.lengthen_files-longer.new.self) (is_failed c.mark_failure.new.self)) made (may_mark c.lengthen_files-longer.new.self c.mark_failure.new.self c.lengthen_files-longer.result c.mark_failure.ensures.marks)
      ∙ c.lengthen_files-longer.ensures.step.stays.failed ∙ c.begin_call.ensures.stays.failed in
      handed_on (λ r. FailsOnceWritten g.S.Storage.view c.args.self.now c.mark_fault.new.self r) c.from_residual-in_err-mark_fault.result c.in_err-mark_fault.field-0.0 c.from_residual-in_err-mark_fault.ensures
      (fails_marked g.S.Storage.view c.args.self.now c.begin_call.new.self c.begin_call.ensures.begun c.fill_grown-filled.new.self c.mark_fault.new.self c.fill_grown-filled.result (notes_then (notes_then (notes_then c.lengthen_files-longer.ensures.step.notes (same_kept c.lengthen_files-longer.new.self c.mark_failure.new.self (ap (λ (i : Qcow2 _ _). i.file.storage) c.mark_failure.ensures.rest) (ap (λ (i : Qcow2 _ _). i.file.caches) c.mark_failure.ensures.rest))) c.fill_grown-filled.ensures.step.notes) (same_kept c.fill_grown-filled.new.self c.mark_fault.new.self (ap (λ (f : ImageFile _). f.storage) c.mark_fault.ensures.file) (ap (λ (f : ImageFile _). f.caches) c.mark_fault.ensures.file)))
      (c.fill_grown-filled.ensures.step.stays.failed ∙ long) c.mark_fault.ensures.marks (Err c.in_err-mark_fault.field-0.0) (λ memory. sym c.mark_fault.ensures.answer ∙ c.in_err-mark_fault.was ∙ err_as c.in_err-mark_fault.field-0.0 Memory memory));
  header_cluster = behind_then (behind_then (behind_call g.S.Storage.view c.begin_call.ensures.begun c.lengthen_files-longer.ensures.step.header_cluster c.mark_failure.ensures.rest) c.fill_grown-filled.ensures.step.header_cluster) (behind_by g.S.Storage.view c.mark_fault.ensures.rest behind_none);
  faults = let view = g.S.Storage.view in
      let below = g.F.BackingDisk.backing in
      let old = c.args.self.now in
      let longer = counted_marked view below old c.begin_call.new.self c.lengthen_files-longer.new.self c.mark_failure.new.self c.lengthen_files-longer.result c.mark_failure.result c.begin_call.ensures.faults c.lengthen_files-longer.ensures.fails.faults c.mark_failure.ensures.answer c.mark_failure.ensures.rest in
      let filled = counted_noted view below old c.mark_failure.new.self c.fill_grown-filled.new.self c.mark_fault.new.self c.fill_grown-filled.result c.mark_fault.result (same_of view below old c.mark_failure.new.self c.mark_failure.result _ longer c.in_ok-mark_failure.was) c.fill_grown-filled.ensures.fails.faults c.mark_fault.ensures.answer c.mark_fault.ensures.rest in
      counted_on view below old old c.mark_fault.new.self c.mark_fault.result c.in_err-mark_fault.field-0.0 c.from_residual-in_err-mark_fault.result (untouched view below old old refl refl refl) filled c.in_err-mark_fault.was c.from_residual-in_err-mark_fault.ensures;
}

pub returns-clause-step : goal.returns-clause-step
returns-clause-step g c = record {
  marks = search rules;
  once_written = let made : c.lengthen_files-longer.result ≡ Ok c.in_ok-mark_failure.field-0 = sym c.mark_failure.ensures.answer ∙ c.in_ok-mark_failure.was in
      let long : is_failed c.mark_failure.new.self ≡ is_failed c.args.self.now = subst (λ (r : Result _ _). MayMarkBy r (is_failed c.lengthen_files-longer.new.self) (is_failed c.mark_failure.new.self)) made (may_mark c.lengthen_files-longer.new.self c.mark_failure.new.self c.lengthen_files-longer.result c.mark_failure.ensures.marks)
      ∙ c.lengthen_files-longer.ensures.step.stays.failed ∙ c.begin_call.ensures.stays.failed in
      let put : c.fill_grown-filled.result ≡ Ok c.in_ok-mark_fault.field-0 = sym c.mark_fault.ensures.answer ∙ c.in_ok-mark_fault.was in
      let whole : c.mark_fault.new.self ≡ c.fill_grown-filled.new.self = subst (λ (r : Result _ _). OnOk r (c.mark_fault.new.self ≡ c.fill_grown-filled.new.self)) put c.mark_fault.ensures.same in
      fails_marked g.S.Storage.view c.args.self.now c.begin_call.new.self c.begin_call.ensures.begun c.write_size-written.new.self c.mark_fault-2.new.self c.write_size-written.result (notes_then (notes_then (notes_then (notes_then (notes_then c.lengthen_files-longer.ensures.step.notes (same_kept c.lengthen_files-longer.new.self c.mark_failure.new.self (ap (λ (i : Qcow2 _ _). i.file.storage) c.mark_failure.ensures.rest) (ap (λ (i : Qcow2 _ _). i.file.caches) c.mark_failure.ensures.rest))) c.fill_grown-filled.ensures.step.notes) (same_kept c.fill_grown-filled.new.self c.mark_fault.new.self (ap (λ (f : ImageFile _). f.storage) c.mark_fault.ensures.file) (ap (λ (f : ImageFile _). f.caches) c.mark_fault.ensures.file))) c.write_size-written.ensures.notes) (same_kept c.write_size-written.new.self c.mark_fault-2.new.self (ap (λ (f : ImageFile _). f.storage) c.mark_fault-2.ensures.file) (ap (λ (f : ImageFile _). f.caches) c.mark_fault-2.ensures.file)))
      (ap (λ (i : Qcow2 _ _). i.is_failed) c.write_size-written.ensures.rest ∙ ap (λ (i : Qcow2 _ _). i.is_failed) whole ∙ c.fill_grown-filled.ensures.step.stays.failed ∙ long) c.mark_fault-2.ensures.marks c.mark_fault-2.result (λ memory. sym c.mark_fault-2.ensures.answer ∙ memory);
  header_cluster = behind_then (behind_then (behind_then (behind_then (behind_call g.S.Storage.view c.begin_call.ensures.begun c.lengthen_files-longer.ensures.step.header_cluster c.mark_failure.ensures.rest) c.fill_grown-filled.ensures.step.header_cluster) (behind_by g.S.Storage.view c.mark_fault.ensures.rest behind_none)) c.write_size-written.ensures.header_cluster) (behind_by g.S.Storage.view c.mark_fault-2.ensures.rest behind_none);
  faults = let view = g.S.Storage.view in
      let below = g.F.BackingDisk.backing in
      let old = c.args.self.now in
      let longer = counted_marked view below old c.begin_call.new.self c.lengthen_files-longer.new.self c.mark_failure.new.self c.lengthen_files-longer.result c.mark_failure.result c.begin_call.ensures.faults c.lengthen_files-longer.ensures.fails.faults c.mark_failure.ensures.answer c.mark_failure.ensures.rest in
      let filled = counted_noted view below old c.mark_failure.new.self c.fill_grown-filled.new.self c.mark_fault.new.self c.fill_grown-filled.result c.mark_fault.result (same_of view below old c.mark_failure.new.self c.mark_failure.result _ longer c.in_ok-mark_failure.was) c.fill_grown-filled.ensures.fails.faults c.mark_fault.ensures.answer c.mark_fault.ensures.rest in
      counted_noted view below old c.mark_fault.new.self c.write_size-written.new.self c.mark_fault-2.new.self c.write_size-written.result c.mark_fault-2.result (same_of view below old c.mark_fault.new.self c.mark_fault.result _ filled c.in_ok-mark_fault.was) c.write_size-written.ensures.fails.faults c.mark_fault-2.ensures.answer c.mark_fault-2.ensures.rest;
}

pub returns-in_err-mark_failure-clause-sound : goal.returns-in_err-mark_failure-clause-sound
returns-in_err-mark_failure-clause-sound g c = λ out sound.
    let view = g.S.Storage.view in
    let below = g.F.BackingDisk.backing in
    let old = c.args.self.now in
    let begun = c.begin_call.new.self in
    let mid = c.lengthen_files-longer.new.self in
    let first = begun_call view below old begun (λ out sound. record { keeps = c.begin_call.ensures.keeps (pending_in view below old out) out sound; list = c.begin_call.ensures.list }) in
    let h = old.file.header.fields in
    let done : c.lengthen_files-longer.result ≡ Err c.in_err-mark_failure.field-0.0 = sym c.mark_failure.ensures.answer ∙ c.in_err-mark_failure.was in
    let e = c.in_err-mark_failure.field-0.0 in
    let offset = c.args.size - 1 in
    let marked = is_failed c.mark_failure.new.self in
    let limited = subst (λ (r : Result _ _). IfLimit r (IsLimited view below [] (offset + 1) begun out)) done ((c.lengthen_files-longer.ensures.longer.sound out (first out sound).sound).limit) in
    let begins = goes_begun c.begin_call.ensures.stays c.begin_call.ensures.begun in
    let reaches = c.lengthen_files-longer.ensures.longer.sound out (first out sound).sound in
    let listed = limit_listed old begun mid marked c.args.mode e c.begin_call.ensures.list (subst (λ (r : Result _ _). IfErr r IsFaultOrLimit) done reaches.fault) (subst (λ (r : Result _ _). IfErr r (λ x. IsFault x ⊎ ListGrows begun mid)) done reaches.listed) in
    let lasts_begun = (let kept = c.begin_call.ensures.keeps (pending_in view below old out) out sound in lasts_step view (pending_in view below old out) (pending_in view below old out) old begun kept.safe_step kept.since) in
    record {
      may_fail = hands_met (MayFailGrowing out c.args.mode (size_of old) (rounded_up (cluster_size h) c.args.size) h (known_in view old.file)) c.from_residual.result e c.from_residual.ensures
          (inl (inl (inl (subst (λ (r : Result _ _). IfErr r IsFaultOrLimit) done ((c.lengthen_files-longer.ensures.longer.sound out (first out sound).sound).fault)))));
      limit = let larger = c.requires.larger in
          let least = up_least (cluster_size h) c.args.size (pow_pos h.cluster_bits) in
          hands_limit c.from_residual.result e c.from_residual.ensures (λ is. limited_giving (all_given_by_grow view below out.place old c.args.size c.args.mode) (limited_since (omega (arith, larger, least)) begins (first out sound) (limited is)));
      last = record {
        last = subst (λ (image : Qcow2 _ _). WritesSizeLast view below old image) (sym c.mark_failure.ensures.rest)
            (last_not view below old c.args.size c.args.mode c.requires.usable c.requires.larger begun mid e (is_failed c.mark_failure.new.self) first
            (λ out sound. subst (MakesEntry view below begun mid out) done (c.lengthen_files-longer.ensures.longer.sound out sound).makes) out sound);
        lasts = λ shows. subst (λ (r : Result _ _). LastsCall view (c.args.size ∷ []) old c.mark_failure.new.self r) (sym (err_is c.from_residual.result c.from_residual.ensures))
            (subst (λ (image : Qcow2 _ _). Lasts view old image (c.args.size ∷ [])) (sym c.mark_failure.ensures.rest)
            (lasts_asking view old mid c.args.size (lasts_then view old begun mid [] [] lasts_begun (part_lasts view begun mid e (subst (λ (r : Result _ _). LastsPart view begun mid r) done (c.lengthen_files-longer.ensures.longer.lasts out (first out sound).sound))))));
      };
      tables = subst (λ (r : Result _ _). GrowsTables view below old c.mark_failure.new.self c.args.size c.args.mode out r) (sym (err_is c.from_residual.result c.from_residual.ensures))
          (record {
            taken = λ is. met_taken _ e (subst (λ (r : Result _ _). IfErr r (MayFailOn mid)) done c.lengthen_files-longer.ensures.fails.cause) is;
            zeros = λ zero lacks. subst (λ (image : Qcow2 _ _). RefusesUnchanged view below old image out e) (sym c.mark_failure.ensures.rest)
                (unchanged_not view below old c.args.size c.args.mode c.requires.usable c.requires.larger begun mid e marked first
                (λ list still. subst (MakesEntry view below begun mid list) done ((c.lengthen_files-longer.ensures.longer.sound list still).makes))
                (c.lengthen_files-longer.ensures.step.stays.image.number ∙ c.begin_call.ensures.stays.image.number)
                (subst (λ (r : Result _ _). MayMarkBy r (is_failed mid) marked) done (may_mark c.lengthen_files-longer.new.self c.mark_failure.new.self c.lengthen_files-longer.result c.mark_failure.ensures.marks))
                (subst (λ (r : Result _ _). IfErr r (λ x. x ≡ Memory → IsTrue (has_noted_change mid) → IsTrue marked)) done (marks_memory c.lengthen_files-longer.new.self c.mark_failure.new.self c.lengthen_files-longer.new.self c.lengthen_files-longer.result c.mark_failure.ensures.marks (ap (λ (i : Qcow2 _ _). i.file) c.mark_failure.ensures.rest))) out);
            version = λ zero lacks.
                let why = subst (λ (r : Result _ _). IfErr r IsFaultOrLimit) done ((c.lengthen_files-longer.ensures.longer.sound out (first out sound).sound).fault) in
                let larger = c.requires.larger in
                elim why [
                  | inl fault ↦ inr (inl fault)
                  | inr is ↦ inr (inr (is, limited_since (omega (arith, larger)) begins (first out sound) (limited is)))
                ];
          });
      freed = subst (λ (r : Result _ _). IfErr r (LeavesListed c.args.mode old c.mark_failure.new.self)) (sym (err_is c.from_residual.result c.from_residual.ensures))
          (subst (λ (image : Qcow2 _ _). LeavesListed c.args.mode old image e) (sym c.mark_failure.ensures.rest) listed);
    }

pub returns-in_err-mark_fault-clause-sound : goal.returns-in_err-mark_fault-clause-sound
returns-in_err-mark_fault-clause-sound g c = λ out sound.
    let view = g.S.Storage.view in
    let below = g.F.BackingDisk.backing in
    let old = c.args.self.now in
    let begun = c.begin_call.new.self in
    let mid = c.lengthen_files-longer.new.self in
    let first = begun_call view below old begun (λ out sound. record { keeps = c.begin_call.ensures.keeps (pending_in view below old out) out sound; list = c.begin_call.ensures.list }) in
    let long = c.mark_failure.new.self in
    let made : c.lengthen_files-longer.result ≡ Ok c.in_ok-mark_failure.field-0 = sym c.mark_failure.ensures.answer ∙ c.in_ok-mark_failure.was in
    let kept = subst (λ (r : Result _ _). MayMarkBy r (is_failed mid) (is_failed long)) made (may_mark c.lengthen_files-longer.new.self c.mark_failure.new.self c.lengthen_files-longer.result c.mark_failure.ensures.marks) in
    let same : c.mark_failure.new.self ≡ c.lengthen_files-longer.new.self = c.mark_failure.ensures.rest ∙ ap (λ f. record mid { is_failed = f }) kept in
    let begins = first out sound in
    let lengthens = subst (MakesEntry view below begun mid out) made ((c.lengthen_files-longer.ensures.longer.sound out begins.sound).makes) in
    let call : InternalCall view below old c.mark_failure.new.self out = subst (λ (image : Qcow2 _ _). InternalCall view below old image out) (sym same) (stays_then view below out old begun mid begins lengthens) in
    let length = subst (λ (r : Result _ _). OnOk r (entry_count mid.l1_table ≡ max (entry_count begun.l1_table) (l1_index_of begun.file.header.fields (c.args.size - 1) + 1))) made c.lengthen_files-longer.ensures.longer.length in
    let empty : HasNothingToFree c.mark_failure.new.self = subst (λ (i : Qcow2 _ _). HasNothingToFree i) (sym same) (subst (λ (r : Result _ _). OnOk r (HasNothingToFree mid)) made c.lengthen_files-longer.ensures.longer.emptied) in
    let filled = c.fill_grown-filled.new.self in
    let step = c.begin_call.ensures.keeps (pending_in view below old out) out sound in
    let e = c.in_err-mark_fault.field-0.0 in
    let marked = is_failed c.mark_fault.new.self in
    let done : c.fill_grown-filled.result ≡ Err c.in_err-mark_fault.field-0.0 = sym c.mark_fault.ensures.answer ∙ c.in_err-mark_fault.was in
    let freed = subst (λ (r : Result _ _). IfErr r (FreesRefused filled)) done (c.fill_grown-filled.ensures.freed out call.sound) in
    record {
      may_fail = let told = reaches_begun old.file.header.fields begun.file.header.fields mid.file.header.fields (c.args.size - 1) step.unseen.header
          (reaches_told view below out (pending_in view below begun out) (pending_in view below mid out) begun mid (c.args.size - 1) begins.sound lengthens.sound length) in
          let longer = subst (λ (image : Qcow2 _ _). ReachesOffset (c.args.size - 1) old.file.header.fields image.file.header.fields) (sym same) told in
          let placed = subst (λ (image : Qcow2 _ _). IsPlacedNear image.l1_table) (sym same) (subst (λ (r : Result _ _). OnOk r (IsPlacedNear mid.l1_table)) made (c.lengthen_files-longer.ensures.longer.placed begins.sound.l1_table.bits)) in
          let near = near_longer_ends view below out old.file.header.fields (pending_in view below long out) long c.args.size (let l = c.requires.larger in omega (arith, l)) call.header longer call.sound placed in
          let h = old.file.header.fields in
          let from : c.size-end.result ≡ size_of c.args.self.now = c.size-end.ensures ∙ ap (λ (x : HeaderFields). x.size) call.header in
          let why = subst (λ (r : Result _ _). IfErr r (MayFailGrowing out c.args.mode c.size-end.result (rounded_up (cluster_size long.file.header.fields) c.args.size) long.file.header.fields (known_in view long.file))) done ((c.fill_grown-filled.ensures.sound out call.sound).may_fail near) in
          hands_met (MayFailGrowing out c.args.mode (size_of old) (rounded_up (cluster_size h) c.args.size) h (known_in view old.file)) c.from_residual-in_err-mark_fault.result e c.from_residual-in_err-mark_fault.ensures
          (met_behind view below out old long c.args.mode c.args.size (size_of old) e call
          (subst (λ n. MayFailGrowing out c.args.mode n (rounded_up (cluster_size long.file.header.fields) c.args.size) long.file.header.fields (known_in view long.file) e) from why));
      limit = let refused = subst (FillsGrownOrRefuses view below c.args.size c.args.mode long filled out) done ((c.fill_grown-filled.ensures.sound out call.sound).fills) in
          let end = ap (λ n. rounded_up n c.args.size) (same_size old.file.header.fields long.file.header.fields call.header) in
          let goes = subst (λ (image : Qcow2 _ _). GoesTo view old image) (sym same) (goes_then (goes_begun c.begin_call.ensures.stays c.begin_call.ensures.begun) (goes_step c.lengthen_files-longer.ensures.step)) in
          hands_limit c.from_residual-in_err-mark_fault.result e c.from_residual-in_err-mark_fault.ensures (λ is. limited_since (omega (arith, end)) goes call (subst (λ given. IsLimited view below given (rounded_up (cluster_size long.file.header.fields) c.args.size) long out) (given_growing view below out old long c.args.size c.args.mode call) (refused.limit is)));
      last = record {
        last = let longer : (out : _) → ImageInvariant view below (pending_in view below old out) old out → InternalCall view below old c.mark_failure.new.self out = λ out sound.
            let call = first out sound in
            subst (λ (image : Qcow2 _ _). InternalCall view below old image out) (sym same) (stays_then view below out old begun mid call (subst (MakesEntry view below begun mid out) made (c.lengthen_files-longer.ensures.longer.sound out call.sound).makes)) in
            let numbered = c.mark_failure.ensures.image.number ∙ c.lengthen_files-longer.ensures.step.stays.image.number ∙ c.begin_call.ensures.stays.image.number in
            subst (λ (image : Qcow2 _ _). WritesSizeLast view below old image) (sym c.mark_fault.ensures.rest)
            (last_in_part view below old c.args.size c.args.mode c.requires.usable c.requires.larger long longer filled e marked
            (subst (λ (r : Result _ _). MayMarkBy r (is_failed filled) marked) done (may_mark c.fill_grown-filled.new.self c.mark_fault.new.self c.fill_grown-filled.result c.mark_fault.ensures.marks))
            (subst (λ (r : Result _ _). IfErr r (λ x. IsFault x → IsTrue marked)) done c.mark_fault.ensures.fault)
            (λ out sound. subst (FillsGrownOrRefuses view below c.args.size c.args.mode long filled out) done (c.fill_grown-filled.ensures.sound out sound).fills) out sound);
        lasts = λ shows. absurd (let no : Ok tt ≡ Err e = sym (c.fill_grown-filled.ensures.unfilled (shown_none c.args.mode shows)).0 ∙ done in cc);
      };
      tables = let none : c.args.mode ≡ Zero → LacksZeros old → (c.fill_grown-filled.result ≡ Err Version) × (filled ≡ long) = λ zero lacks.
          c.fill_grown-filled.ensures.version empty zero (subst (λ n. n < 3) (sym (same_version old.file.header.fields long.file.header.fields call.header)) lacks) in
          subst (λ (r : Result _ _). GrowsTables view below old c.mark_fault.new.self c.args.size c.args.mode out r) (sym (err_is c.from_residual-in_err-mark_fault.result c.from_residual-in_err-mark_fault.ensures))
          (record {
            taken = taken_behind view below out old long filled c.args.size c.args.mode e call
                (subst (FillsGrownOrRefuses view below c.args.size c.args.mode long filled out) done ((c.fill_grown-filled.ensures.sound out call.sound).fills));
            zeros = λ zero lacks.
                let refused = none zero lacks in
                let fault : Err e ≡ Err Version = sym done ∙ refused.0 in
                subst (λ (image : Qcow2 _ _). RefusesUnchanged view below old image out e) (sym c.mark_fault.ensures.rest)
                (unchanged_noted view below old (record filled { is_failed = marked }) (is_changed_of c.mark_fault.new.self.file.storage) c.args.size out e (refuses_version view below out old long filled e marked c.requires.usable call refused.1 (let is : e ≡ Version = cc in is)
                (c.fill_grown-filled.ensures.step.stays.image.number ∙ c.mark_failure.ensures.image.number ∙ c.lengthen_files-longer.ensures.step.stays.image.number ∙ c.begin_call.ensures.stays.image.number)
                (subst (λ (r : Result _ _). MayMarkBy r (is_failed filled) marked) done (may_mark c.fill_grown-filled.new.self c.mark_fault.new.self c.fill_grown-filled.result c.mark_fault.ensures.marks))));
            version = λ zero lacks. inl (let fault : Err e ≡ Err Version = sym done ∙ (none zero lacks).0 in let is : e ≡ Version = cc in is);
          });
      freed = subst (λ (r : Result _ _). IfErr r (LeavesListed c.args.mode old c.mark_fault.new.self)) (sym (err_is c.from_residual-in_err-mark_fault.result c.from_residual-in_err-mark_fault.ensures)) (record {
        freed = inl (subst (λ (image : Qcow2 _ _). FreesRefused image e) (sym c.mark_fault.ensures.rest) freed);
        unfilled = λ none is. absurd (let no : Ok tt ≡ Err e = sym (c.fill_grown-filled.ensures.unfilled none).0 ∙ done in cc);
      });
    }

pub returns-clause-sound : goal.returns-clause-sound
returns-clause-sound g c = λ out sound.
    let old = c.args.self.now in
    let new = c.mark_fault-2.new.self in
    let view = g.S.Storage.view in
    let h = old.file.header.fields in
    let below = g.F.BackingDisk.backing in
    let begun = c.begin_call.new.self in
    let mid = c.lengthen_files-longer.new.self in
    let first = begun_call view below old begun (λ out sound. record { keeps = c.begin_call.ensures.keeps (pending_in view below old out) out sound; list = c.begin_call.ensures.list }) in
    let long = c.mark_failure.new.self in
    let made : c.lengthen_files-longer.result ≡ Ok c.in_ok-mark_failure.field-0 = sym c.mark_failure.ensures.answer ∙ c.in_ok-mark_failure.was in
    let kept = subst (λ (r : Result _ _). MayMarkBy r (is_failed mid) (is_failed long)) made (may_mark c.lengthen_files-longer.new.self c.mark_failure.new.self c.lengthen_files-longer.result c.mark_failure.ensures.marks) in
    let same : c.mark_failure.new.self ≡ c.lengthen_files-longer.new.self = c.mark_failure.ensures.rest ∙ ap (λ f. record mid { is_failed = f }) kept in
    let begins = first out sound in
    let lengthens = subst (MakesEntry view below begun mid out) made ((c.lengthen_files-longer.ensures.longer.sound out begins.sound).makes) in
    let call : InternalCall view below old c.mark_failure.new.self out = subst (λ (image : Qcow2 _ _). InternalCall view below old image out) (sym same) (stays_then view below out old begun mid begins lengthens) in
    let filled = c.fill_grown-filled.new.self in
    let put : c.fill_grown-filled.result ≡ Ok c.in_ok-mark_fault.field-0 = sym c.mark_fault.ensures.answer ∙ c.in_ok-mark_fault.was in
    let whole : c.mark_fault.new.self ≡ c.fill_grown-filled.new.self = subst (λ (r : Result _ _). OnOk r (c.mark_fault.new.self ≡ c.fill_grown-filled.new.self)) put c.mark_fault.ensures.same in
    let fills = subst (FillsGrownOrRefuses view below c.args.size c.args.mode long filled out) put ((c.fill_grown-filled.ensures.sound out call.sound).fills) in
    let length = subst (λ (r : Result _ _). OnOk r (entry_count mid.l1_table ≡ max (entry_count begun.l1_table) (l1_index_of begun.file.header.fields (c.args.size - 1) + 1))) made c.lengthen_files-longer.ensures.longer.length in
    let reach : l1_index_of c.begin_call.new.self.file.header.fields (c.args.size - 1) < entry_count c.lengthen_files-longer.new.self.l1_table = omega (arith, length) in
    let lengthened = subst (λ (image : Qcow2 _ _). ReachesSize (with_size image.file.header.fields c.args.size)) (sym same) (reaches_lengthened view below out begun mid c.args.size lengthens reach) in
    let reached = reaches_filled view below out long filled c.args.size call.sound (let l = c.requires.larger in let s = ap (λ (h : HeaderFields). h.size) call.header in omega (arith, l, s)) c.args.mode (λ none. (c.fill_grown-filled.ensures.unfilled none).1) lengthened fills in
    let grown = subst (λ (image : Qcow2 _ _). FillsGrown view below c.args.size c.args.mode long image out) (sym whole) fills in
    let step = c.begin_call.ensures.keeps (pending_in view below old out) out sound in
    let lasts_begun = (let kept = c.begin_call.ensures.keeps (pending_in view below old out) out sound in lasts_step view (pending_in view below old out) (pending_in view below old out) old begun kept.safe_step kept.since) in
    record {
      may_fail = subst (λ (r : Result _ _). IfErr r (MayFailGrowing out c.args.mode (size_of old) (rounded_up (cluster_size h) c.args.size) h (known_in g.S.Storage.view old.file))) (sym c.mark_fault-2.ensures.answer)
          (IfErr-weaker c.write_size-written.result _ _ (λ e fault. inl (inl (inl (inl fault)))) c.write_size-written.ensures.fails.cause);
      limit = unlimited_all c.mark_fault-2.result _
          (subst (λ (r : Result _ _). IfErr r IsUnlimited) (sym c.mark_fault-2.ensures.answer) (faults_unlimited c.write_size-written.result c.write_size-written.ensures.fails.cause));
      last = record {
        last = let longer : (out : _) → ImageInvariant view below (pending_in view below old out) old out → InternalCall view below old c.mark_failure.new.self out = λ out sound.
            let call = first out sound in
            subst (λ (image : Qcow2 _ _). InternalCall view below old image out) (sym same) (stays_then view below out old begun mid call (subst (MakesEntry view below begun mid out) made (c.lengthen_files-longer.ensures.longer.sound out call.sound).makes)) in
            let numbered = c.mark_failure.ensures.image.number ∙ c.lengthen_files-longer.ensures.step.stays.image.number ∙ c.begin_call.ensures.stays.image.number in
            let fills : (out : _) → ImageInvariant view below (pending_in view below long out) long out → FillsGrown view below c.args.size c.args.mode long c.mark_fault.new.self out = λ out sound.
            subst (λ (image : Qcow2 _ _). FillsGrown view below c.args.size c.args.mode long image out) (sym whole)
            (subst (FillsGrownOrRefuses view below c.args.size c.args.mode long filled out) put (c.fill_grown-filled.ensures.sound out sound).fills) in
            subst (λ (image : Qcow2 _ _). WritesSizeLast view below old image) (sym c.mark_fault-2.ensures.rest)
            (last_sized view below old c.args.size c.args.mode c.requires.usable c.requires.larger long longer c.mark_fault.new.self fills c.write_size-written.new.self
            (ap (λ (i : Qcow2 _ _). i.number) c.write_size-written.ensures.rest ∙ c.mark_fault.ensures.image.number ∙ c.fill_grown-filled.ensures.step.stays.image.number ∙ numbered)
            (is_failed c.mark_fault-2.new.self) c.write_size-written.ensures.time out sound);
        lasts = λ shows.
            let there = known_then view old begun mid [] [] lasts_begun (subst (λ (r : Result _ _). LastsPart view begun mid r) made (c.lengthen_files-longer.ensures.longer.lasts out begins.sound)) in
            let unfilled : c.mark_fault.new.self ≡ mid = whole ∙ (c.fill_grown-filled.ensures.unfilled (shown_none c.args.mode shows)).1 ∙ same in
            let new = c.write_size-written.new.self in
            let sized = subst (λ (image : Qcow2 _ _). LastsCall view (c.args.size ∷ []) image new c.write_size-written.result) unfilled (c.write_size-written.ensures.lasts (pending_in view below c.mark_fault.new.self out) out grown.sound) in
            subst (λ (image : Qcow2 _ _). LastsCall view (c.args.size ∷ []) old image c.mark_fault-2.result) (sym c.mark_fault-2.ensures.rest)
            (subst (λ (r : Result _ _). LastsCall view (c.args.size ∷ []) old (with_marks new (is_changed_of c.mark_fault-2.new.self.file.storage) (is_failed c.mark_fault-2.new.self)) r) (sym c.mark_fault-2.ensures.answer)
            (call_marked view old new (is_changed_of c.mark_fault-2.new.self.file.storage) (is_failed c.mark_fault-2.new.self) c.args.size c.write_size-written.result (call_then view old mid new c.args.size c.write_size-written.result there sized)));
      };
      tables = let told = reaches_begun old.file.header.fields begun.file.header.fields mid.file.header.fields (c.args.size - 1) step.unseen.header
          (reaches_told view below out (pending_in view below begun out) (pending_in view below mid out) begun mid (c.args.size - 1) begins.sound lengthens.sound length) in
          let longer = subst (λ (image : Qcow2 _ _). ReachesOffset (c.args.size - 1) old.file.header.fields image.file.header.fields) (sym same) told in
          let as_long = reaches_on old.file.header.fields long.file.header.fields c.mark_fault.new.self.file.header.fields c.args.size (let l = c.requires.larger in omega (arith, l)) call.header longer grown.l1_table in
          let never : c.args.mode ≡ Zero → LacksZeros old → ⊥ = λ zero lacks.
          let empty : HasNothingToFree c.mark_failure.new.self = subst (λ (i : Qcow2 _ _). HasNothingToFree i) (sym same) (subst (λ (r : Result _ _). OnOk r (HasNothingToFree mid)) made c.lengthen_files-longer.ensures.longer.emptied) in
          let refused = c.fill_grown-filled.ensures.version empty zero (subst (λ n. n < 3) (sym (same_version old.file.header.fields long.file.header.fields call.header)) lacks) in
          absurd (let no : Ok c.in_ok-mark_fault.field-0 ≡ Err Version = sym put ∙ refused.0 in cc) in
          let new = c.write_size-written.new.self in
          let none : HasNothingToFree mid = subst (λ (r : Result _ _). OnOk r (HasNothingToFree mid)) made c.lengthen_files-longer.ensures.longer.emptied in
          let still : HasNothingToFree filled = subst (λ (r : Result _ _). OnOk r (HasNothingToFree filled)) put (c.fill_grown-filled.ensures.emptied (subst (λ (image : Qcow2 _ _). HasNothingToFree image) (sym same) none)) in
          let emptied : HasNothingToFree new = ap (λ (i : Qcow2 _ _). i.file.free_list) c.write_size-written.ensures.rest ∙ subst (λ (image : Qcow2 _ _). HasNothingToFree image) (sym whole) still in
          subst (λ (image : Qcow2 _ _). GrowsTables view below old image c.args.size c.args.mode out c.mark_fault-2.result) (sym c.mark_fault-2.ensures.rest)
          (subst (λ (r : Result _ _). GrowsTables view below old (with_marks new (is_changed_of c.mark_fault-2.new.self.file.storage) (is_failed c.mark_fault-2.new.self)) c.args.size c.args.mode out r) (sym c.mark_fault-2.ensures.answer)
          (tables_noted view below old (record new { is_failed = is_failed c.mark_fault-2.new.self }) (is_changed_of c.mark_fault-2.new.self.file.storage) c.args.size c.args.mode out c.write_size-written.result (tables_sized view below out old c.mark_fault.new.self new (is_failed c.mark_fault-2.new.self) c.args.size c.args.mode c.write_size-written.result (file_step_then old.file.header.fields long.file.header.fields c.mark_fault.new.self.file.header.fields call.header grown.header) c.write_size-written.ensures.fails.cause c.write_size-written.ensures.header
          (subst (λ (image : Qcow2 _ _). ReachesSize (with_size image.file.header.fields c.args.size)) (sym whole) reached) as_long
          (leaves_sized view below out old long c.mark_fault.new.self new c.args.size c.args.mode c.write_size-written.result call grown (c.write_size-written.ensures.writes out grown.sound)) emptied never
          (untaken_grown view below out old long c.args.size c.args.mode call grown.free))));
      freed = subst (λ (r : Result _ _). IfErr r (LeavesListed c.args.mode old new)) (sym c.mark_fault-2.ensures.answer) (IfErr-weaker c.write_size-written.result _ _ (λ e fault. fault_listed old new c.args.mode e fault) c.write_size-written.ensures.fails.cause);
    }

pub returns-in_err-mark_failure-clause-cause : goal.returns-in_err-mark_failure-clause-cause
returns-in_err-mark_failure-clause-cause g c = handed_on (λ r. IfErr r (MayFailToGrow c.mark_failure.new.self c.args.mode)) c.from_residual.result c.in_err-mark_failure.field-0.0 c.from_residual.ensures
    (let done : c.lengthen_files-longer.result ≡ Err c.in_err-mark_failure.field-0.0 = sym c.mark_failure.ensures.answer ∙ c.in_err-mark_failure.was in
    subst (λ (image : Qcow2 _ _). MayFailToGrow image c.args.mode c.in_err-mark_failure.field-0.0) (sym c.mark_failure.ensures.rest)
    (inl (inl (subst (λ (r : Result _ _). IfErr r (MayFailOn c.lengthen_files-longer.new.self)) done c.lengthen_files-longer.ensures.fails.cause))))

pub returns-in_err-mark_fault-clause-cause : goal.returns-in_err-mark_fault-clause-cause
returns-in_err-mark_fault-clause-cause g c = handed_on (λ r. IfErr r (MayFailToGrow c.mark_fault.new.self c.args.mode)) c.from_residual-in_err-mark_fault.result c.in_err-mark_fault.field-0.0 c.from_residual-in_err-mark_fault.ensures
    (let done : c.fill_grown-filled.result ≡ Err c.in_err-mark_fault.field-0.0 = sym c.mark_fault.ensures.answer ∙ c.in_err-mark_fault.was in
    subst (λ (image : Qcow2 _ _). MayFailToGrow image c.args.mode c.in_err-mark_fault.field-0.0) (sym c.mark_fault.ensures.rest)
    (subst (λ (r : Result _ _). IfErr r (MayFailToGrow c.fill_grown-filled.new.self c.args.mode)) done c.fill_grown-filled.ensures.fails.cause))

pub returns-clause-cause : goal.returns-clause-cause
returns-clause-cause g c = subst (λ (r : Result _ _). IfErr r (MayFailToGrow c.mark_fault-2.new.self c.args.mode)) (sym c.mark_fault-2.ensures.answer)
    (met_as IsFault (MayFailToGrow c.mark_fault-2.new.self c.args.mode) c.write_size-written.result (λ e fault. inl (inl (writing_met _ e (inl fault)))) c.write_size-written.ensures.fails.cause)

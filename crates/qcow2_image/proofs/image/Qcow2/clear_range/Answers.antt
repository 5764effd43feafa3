use Rattle.std.proofs.Common.{◌≡◌, ◌<◌, ◌+◌, ◌-◌, [], ℕ, min, sym, ap, ◌∙◌, subst, arith, inl, refl, Ok, Err, IfErr, IfOk, IsTrue, Result}
use Rattle.qcow2_image.proofs.Common.{IfLimit, IsLimited, is_changed_of, or_right, Memory, TablePrepared, HasPinnedMapping, IsFaultOrLacksTable, RefusedCall, EndsFreeing, InternalCall, Clears, ClearsOrRefuses, IsUnderMapping, RefusesClearing, from_in, to_in, Qcow2, is_failed, has_noted_change, ImageInvariant, pending_in, NeedsOverflowingL1Entry, HasOwnTable, MayFailPreparing, MarksFailed, FreesRefused, notes_then, handed_on, err_as, RespectsPins, ImageError, MayFailAllocating, ClearsSoundly, ClearsStep, FailsToClear, IsFault}
use Rattle.qcow2_image.proofs.image.Qcow2.clear_range.Goals as goal
use Rattle.qcow2_image.proofs.Lemmas.{answered_counts, counts_begun, fails_marked, fails_once, kept_noted, notes_begun, notes_part, notes_since, refused_since, MayMarkBy, marks_memory, may_mark, may_mark_refused, is_fault, outcome, fault_of, clear_interruption, clear_covers, clear_done, clear_refused, fault_interruption, under_after, under_before, ungiven_interruption, ungiven_refused, counted_as, same_of, counted_marked, counted_ok, faults_then, untouched, same_kept, some_answered, behind_call, behind_then, begun_own, heeds_begun, freed_untaken, other_limit, goes_begun, limited_since, fault_unlimited, far_before, taking_as}
use Rattle.qcow2_image.proofs.Clear.ClearedCalls.{begins_clearing, early_fails, early_sound, early_step, idle_fails, idle_sound, idle_step, not_early, parts_cleared, same_image_then}
use Rattle.qcow2_image.proofs.Call.FailingErrors.{freeing_met}

pub returns-in_err-from-clause-step : goal.returns-in_err-from-clause-step
returns-in_err-from-clause-step g c = early_step g.S.Storage.view g.F.BackingDisk.backing c.args.self.now c.args.how c.args.offset c.args.length c.check_clear.result c.check_clear.ensures.refusal c.in_err-from.field-0.0 c.in_err-from.was c.from_residual.result c.from_residual.ensures c.in_err-from.ensures.faults

pub returns-in_err-from-clause-fails : goal.returns-in_err-from-clause-fails
returns-in_err-from-clause-fails g c = early_fails g.S.Storage.view g.F.BackingDisk.backing c.args.self.now c.args.how c.args.offset c.args.length c.check_clear.result c.check_clear.ensures.refusal c.in_err-from.field-0.0 c.in_err-from.was c.from_residual.result c.from_residual.ensures

pub returns-in_err-from-clause-sound : goal.returns-in_err-from-clause-sound
returns-in_err-from-clause-sound g c = early_sound g.S.Storage.view g.F.BackingDisk.backing c.args.self.now c.args.how c.args.offset c.args.length c.check_clear.result c.check_clear.ensures.refusal c.in_err-from.field-0.0 c.in_err-from.was c.from_residual.result c.from_residual.ensures

pub returns-then-to-from-clause-step : goal.returns-then-to-from-clause-step
returns-then-to-from-clause-step g c = idle_step g.S.Storage.view g.F.BackingDisk.backing c.args.self.now c.args.how c.args.offset c.args.length c.check_clear.result c.check_clear.ensures.refusal c.in_ok-from.from c.in_ok-from.to c.in_ok-from.was c.if-to-from.true

pub returns-then-to-from-clause-fails : goal.returns-then-to-from-clause-fails
returns-then-to-from-clause-fails g c = idle_fails g.S.Storage.view g.F.BackingDisk.backing c.args.self.now c.args.how c.args.offset c.args.length c.check_clear.result c.check_clear.ensures.refusal c.in_ok-from.from c.in_ok-from.to c.in_ok-from.was c.if-to-from.true

pub returns-then-to-from-clause-sound : goal.returns-then-to-from-clause-sound
returns-then-to-from-clause-sound g c = idle_sound g.S.Storage.view g.F.BackingDisk.backing c.args.self.now c.args.how c.args.offset c.args.length c.check_clear.result c.check_clear.ensures.refusal c.in_ok-from.from c.in_ok-from.to c.in_ok-from.was c.if-to-from.true

pub returns-in_err-mark_failure-clause-step : goal.returns-in_err-mark_failure-clause-step
returns-in_err-mark_failure-clause-step g c =
    let view = g.S.Storage.view in
    let below = g.F.BackingDisk.backing in
    let old = c.args.self.now in
    let begun = c.begin_call.new.self in
    let entries = c.clear_between-cleared.new.self in
    let new = c.mark_failure.new.self in
    let e = c.in_err-mark_failure.field-0.0 in
    let done : c.clear_between-cleared.result ≡ Err c.in_err-mark_failure.field-0.0 = sym c.mark_failure.ensures.answer ∙ c.in_err-mark_failure.was in
    let failed : is_failed c.clear_between-cleared.new.self ≡ is_failed c.args.self.now = c.clear_between-cleared.ensures.step.stays.failed ∙ c.begin_call.ensures.stays.failed in
    let kept = notes_then c.clear_between-cleared.ensures.step.notes (same_kept c.clear_between-cleared.new.self c.mark_failure.new.self (ap (λ (i : Qcow2 _ _). i.file.storage) c.mark_failure.ensures.rest) (ap (λ (i : Qcow2 _ _). i.file.caches) c.mark_failure.ensures.rest)) in
    let cleared = counted_marked view below old c.begin_call.new.self c.clear_between-cleared.new.self c.mark_failure.new.self c.clear_between-cleared.result c.mark_failure.result c.begin_call.ensures.faults c.clear_between-cleared.ensures.fails.faults c.mark_failure.ensures.answer c.mark_failure.ensures.rest in
    let image = same_image_then (same_image_then c.begin_call.ensures.stays.image c.clear_between-cleared.ensures.step.stays.image) c.mark_failure.ensures.image in
    handed_on (λ (r : Result (ℕ × ℕ) ImageError). ClearsStep view below old new r) c.from_residual-in_err-mark_failure.result e c.from_residual-in_err-mark_failure.ensures (record {
      image = image;
      marks = refused_since old entries new failed e (subst (λ (r : Result (Unit {0}) ImageError). MarksFailed entries new r) done c.mark_failure.ensures.marks);
      since = notes_since view old begun c.begin_call.ensures.begun new kept;
      once_written = fails_once view old begun c.begin_call.ensures.begun entries new c.clear_between-cleared.result c.clear_between-cleared.ensures.step.notes failed c.mark_failure.ensures.marks c.mark_failure.ensures.rest (Err e) (λ memory. done ∙ err_as e Memory memory);
      header_cluster = behind_call view c.begin_call.ensures.begun c.clear_between-cleared.ensures.step.header_cluster c.mark_failure.ensures.rest;
      faults = counted_as view below old old new c.mark_failure.result e (untouched view below old old refl refl refl) cleared c.in_err-mark_failure.was;
    })

pub returns-in_err-mark_failure-clause-fails : goal.returns-in_err-mark_failure-clause-fails
returns-in_err-mark_failure-clause-fails g c =
    let view = g.S.Storage.view in
    let below = g.F.BackingDisk.backing in
    let old = c.args.self.now in
    let how = c.args.how in
    let offset = c.args.offset in
    let n = c.args.length in
    let begun = c.begin_call.new.self in
    let entries = c.clear_between-cleared.new.self in
    let first = from_in c.args.self.now c.args.offset c.args.length in
    let new = c.mark_failure.new.self in
    let e = c.in_err-mark_failure.field-0.0 in
    let b = begins_clearing view below old how offset n c.check_clear.result c.check_clear.ensures.refusal c.in_ok-from.from c.in_ok-from.to c.in_ok-from.was begun c.begin_call.ensures.keeps c.begin_call.ensures.list c.in_ok-from.ensures.version in
    let done : c.clear_between-cleared.result ≡ Err c.in_err-mark_failure.field-0.0 = sym c.mark_failure.ensures.answer ∙ c.in_err-mark_failure.was in
    let marked = is_failed c.mark_failure.new.self in
    let number = c.clear_between-cleared.ensures.step.stays.image.number ∙ c.begin_call.ensures.stays.image.number in
    let may = subst (λ (r : Result _ _). MayMarkBy r (is_failed entries) marked) done (may_mark c.clear_between-cleared.new.self c.mark_failure.new.self c.clear_between-cleared.result c.mark_failure.ensures.marks) in
    let memory = subst (λ (r : Result _ _). IfErr r (λ x. x ≡ Memory → IsTrue (has_noted_change entries) → IsTrue marked)) done (marks_memory c.clear_between-cleared.new.self c.mark_failure.new.self c.clear_between-cleared.new.self c.clear_between-cleared.result c.mark_failure.ensures.marks (ap (λ (i : Qcow2 _ _). i.file) c.mark_failure.ensures.rest)) in
    let refuses : (out : _) → InternalCall view below old begun out → RefusedCall view below begun entries out e = λ out call. subst (ClearsOrRefuses view below how c.in_ok-from.from c.in_ok-from.to begun entries out) done (((c.clear_between-cleared.ensures.sound out call.sound).whole (b.whole out call)).clears) in
    let bad : Result (Unit {0}) ImageError = Err e in
    handed_on (λ (r : Result (ℕ × ℕ) ImageError). FailsToClear view below how old new offset n r) c.from_residual-in_err-mark_failure.result e c.from_residual-in_err-mark_failure.ensures (record {
      early = not_early view below old how offset n c.check_clear.result c.check_clear.ensures.refusal c.in_ok-from.from c.in_ok-from.to c.in_ok-from.was new (Err e);
      late = λ none. subst (λ (image : Qcow2 _ _). MayFailPreparing image e) (sym c.mark_failure.ensures.rest) (subst (λ (r : Result _ _). IfErr r (MayFailPreparing entries)) done c.clear_between-cleared.ensures.fails.cause);
      refused = subst (λ (image : Qcow2 _ _). RefusesClearing view below how old image offset n e) (sym c.mark_failure.ensures.rest) (record {
        ungiven = ungiven_refused view below old how offset n b.works begun entries b.quiet e marked number may memory refuses;
        lacks = λ none out sound unprepared.
            let call = b.seen out sound in
            subst (λ k. IsFaultOrLacksTable view entries k e) b.first_is (subst (λ (r : Result _ _). IfErr r (IsFaultOrLacksTable view entries c.in_ok-from.from)) done (((c.clear_between-cleared.ensures.sound out call.sound).whole (b.whole out call)).lacks unprepared));
        may_fail = λ none out sound.
            let call = b.seen out sound in
            let h = begun.file.header.fields in
            taking_as (λ held. held) (under_before old.file.header.fields h first out call.header) (λ no. no) (far_before old begun first c.begin_call.ensures.rest) e
            (subst (λ k. MayFailAllocating (HasPinnedMapping out) (IsUnderMapping h k out) ⊥ (NeedsOverflowingL1Entry begun k) e) b.first_is
            (subst (λ (r : Result _ _). IfErr r (MayFailAllocating (HasPinnedMapping out) (IsUnderMapping h c.in_ok-from.from out) ⊥ (NeedsOverflowingL1Entry begun c.in_ok-from.from))) done (((c.clear_between-cleared.ensures.sound out call.sound).whole (b.whole out call)).may_fail)));
      });
      pinned = λ some none own. heeds_begun old begun first bad c.begin_call.ensures.begun (subst (λ k. RespectsPins begun k bad) b.first_is
          (subst (λ (r : Result (Unit {0}) ImageError). RespectsPins begun c.in_ok-from.from r) done (c.clear_between-cleared.ensures.pinned (subst (λ k. HasOwnTable begun k) (sym b.first_is) (begun_own old begun first c.begin_call.ensures.begun own)))));
      under = λ none some out sound.
          let call = b.seen out sound in
          let taken = subst (λ (r : Result _ _). IfErr r (λ x. x ≡ TablePrepared → IsUnderMapping begun.file.header.fields c.in_ok-from.from out)) done ((c.clear_between-cleared.ensures.sound out call.sound).taken) in
          ((λ is. under_before old.file.header.fields begun.file.header.fields first out call.header (subst (λ k. IsUnderMapping begun.file.header.fields k out) b.first_is (taken is))), tt);
      freed = λ none some out sound.
          let call = b.seen out sound in
          subst (λ (image : Qcow2 _ _). FreesRefused image e) (sym c.mark_failure.ensures.rest) (subst (λ (r : Result _ _). IfErr r (FreesRefused entries)) done (c.clear_between-cleared.ensures.freed out call.sound (b.whole out call)));
      limit = λ none some out sound is.
          let why = subst (λ (r : Result _ _). IfLimit r (IsLimited view below [] (c.in_ok-from.from + 1) begun out)) done (((c.clear_between-cleared.ensures.sound out (b.seen out sound).sound).whole (b.whole out (b.seen out sound))).limit) in
          limited_since (omega arith) (goes_begun c.begin_call.ensures.stays c.begin_call.ensures.begun) (b.seen out sound) (subst (λ k. IsLimited view below [] (k + 1) begun out) b.first_is (why is));
    })

pub returns-in_err-mark_failure-clause-sound : goal.returns-in_err-mark_failure-clause-sound
returns-in_err-mark_failure-clause-sound g c =
    let view = g.S.Storage.view in
    let below = g.F.BackingDisk.backing in
    let old = c.args.self.now in
    let how = c.args.how in
    let offset = c.args.offset in
    let n = c.args.length in
    let begun = c.begin_call.new.self in
    let entries = c.clear_between-cleared.new.self in
    let e = c.in_err-mark_failure.field-0.0 in
    let b = begins_clearing view below old how offset n c.check_clear.result c.check_clear.ensures.refusal c.in_ok-from.from c.in_ok-from.to c.in_ok-from.was begun c.begin_call.ensures.keeps c.begin_call.ensures.list c.in_ok-from.ensures.version in
    let done : c.clear_between-cleared.result ≡ Err c.in_err-mark_failure.field-0.0 = sym c.mark_failure.ensures.answer ∙ c.in_err-mark_failure.was in
    let marked = is_failed c.mark_failure.new.self in
    let number = c.clear_between-cleared.ensures.step.stays.image.number ∙ c.begin_call.ensures.stays.image.number in
    let may = subst (λ (r : Result _ _). MayMarkBy r (is_failed entries) marked) done (may_mark c.clear_between-cleared.new.self c.mark_failure.new.self c.clear_between-cleared.result c.mark_failure.ensures.marks) in
    let memory = subst (λ (r : Result _ _). IfErr r (λ x. x ≡ Memory → IsTrue (has_noted_change entries) → IsTrue marked)) done (marks_memory c.clear_between-cleared.new.self c.mark_failure.new.self c.clear_between-cleared.new.self c.clear_between-cleared.result c.mark_failure.ensures.marks (ap (λ (i : Qcow2 _ _). i.file) c.mark_failure.ensures.rest)) in
    let refuses : (out : _) → InternalCall view below old begun out → RefusedCall view below begun entries out e = λ out call. subst (ClearsOrRefuses view below how c.in_ok-from.from c.in_ok-from.to begun entries out) done (((c.clear_between-cleared.ensures.sound out call.sound).whole (b.whole out call)).clears) in
    let some : from_in c.args.self.now c.args.offset c.args.length < to_in c.args.self.now c.args.offset c.args.length = let is = b.first_is in let ends = b.last_is in omega (arith, c.if-to-from.false, is, ends) in
    handed_on (λ (r : Result (ℕ × ℕ) ImageError). ClearsSoundly view below how old c.mark_failure.new.self offset n r) c.from_residual-in_err-mark_failure.result e c.from_residual-in_err-mark_failure.ensures (record {
      range = tt;
      nothing = λ none least. absurd (omega (arith, some, least));
      sees = subst (λ (image : Qcow2 _ _). Clears view below how old image offset n (Err e)) (sym c.mark_failure.ensures.rest) (clear_refused view below old how offset n b.works begun entries b.quiet e marked number may memory refuses);
      covers = λ out sound. tt;
      emptied = λ some. tt;
      changed = λ out sound some. tt;
    })

pub returns-in_err-process_free_list_at_end-clause-step : goal.returns-in_err-process_free_list_at_end-clause-step
returns-in_err-process_free_list_at_end-clause-step g c =
    let view = g.S.Storage.view in
    let below = g.F.BackingDisk.backing in
    let old = c.args.self.now in
    let begun = c.begin_call.new.self in
    let freed = c.process_free_list_at_end.new.self in
    let x = c.in_err-process_free_list_at_end.field-0.0 in
    let done : c.clear_between-cleared.result ≡ Ok c.in_ok-mark_failure.field-0 = sym c.mark_failure.ensures.answer ∙ c.in_ok-mark_failure.was in
    let failed : is_failed c.clear_between-cleared.new.self ≡ is_failed c.args.self.now = c.clear_between-cleared.ensures.step.stays.failed ∙ c.begin_call.ensures.stays.failed in
    let marks = subst (λ (r : Result _ _). MayMarkBy r (is_failed c.clear_between-cleared.new.self) (is_failed c.mark_failure.new.self)) done (may_mark c.clear_between-cleared.new.self c.mark_failure.new.self c.clear_between-cleared.result c.mark_failure.ensures.marks) in
    let kept = notes_then c.clear_between-cleared.ensures.step.notes (same_kept c.clear_between-cleared.new.self c.mark_failure.new.self (ap (λ (i : Qcow2 _ _). i.file.storage) c.mark_failure.ensures.rest) (ap (λ (i : Qcow2 _ _). i.file.caches) c.mark_failure.ensures.rest)) in
    let cleared = counted_marked view below old c.begin_call.new.self c.clear_between-cleared.new.self c.mark_failure.new.self c.clear_between-cleared.result c.mark_failure.result c.begin_call.ensures.faults c.clear_between-cleared.ensures.fails.faults c.mark_failure.ensures.answer c.mark_failure.ensures.rest in
    let image = same_image_then (same_image_then c.begin_call.ensures.stays.image c.clear_between-cleared.ensures.step.stays.image) c.mark_failure.ensures.image in
    handed_on (λ (r : Result (ℕ × ℕ) ImageError). ClearsStep view below old freed r) c.from_residual-in_err-process_free_list_at_end.result x c.from_residual-in_err-process_free_list_at_end.ensures (record {
      image = same_image_then image c.process_free_list_at_end.ensures.image;
      marks = refused_since old c.mark_failure.new.self freed (marks ∙ failed) x c.in_err-process_free_list_at_end.ensures.marks;
      since = notes_since view old begun c.begin_call.ensures.begun freed (notes_then kept c.process_free_list_at_end.ensures.notes);
      once_written = fails_marked view old begun c.begin_call.ensures.begun c.mark_failure.new.self freed c.process_free_list_at_end.result (notes_then kept c.process_free_list_at_end.ensures.notes) (marks ∙ failed) c.process_free_list_at_end.ensures.marks (Err x) (λ memory. c.in_err-process_free_list_at_end.was ∙ err_as x Memory memory);
      header_cluster = behind_then (behind_call view c.begin_call.ensures.begun c.clear_between-cleared.ensures.step.header_cluster c.mark_failure.ensures.rest) c.process_free_list_at_end.ensures.header_cluster;
      faults = counted_as view below old c.mark_failure.new.self freed c.process_free_list_at_end.result x (same_of view below old c.mark_failure.new.self c.mark_failure.result _ cleared c.in_ok-mark_failure.was) c.process_free_list_at_end.ensures.fails.faults c.in_err-process_free_list_at_end.was;
    })

pub returns-in_err-process_free_list_at_end-clause-fails : goal.returns-in_err-process_free_list_at_end-clause-fails
returns-in_err-process_free_list_at_end-clause-fails g c =
    let view = g.S.Storage.view in
    let below = g.F.BackingDisk.backing in
    let old = c.args.self.now in
    let how = c.args.how in
    let offset = c.args.offset in
    let n = c.args.length in
    let begun = c.begin_call.new.self in
    let entries = c.clear_between-cleared.new.self in
    let freed = c.process_free_list_at_end.new.self in
    let x = c.in_err-process_free_list_at_end.field-0.0 in
    let b = begins_clearing view below old how offset n c.check_clear.result c.check_clear.ensures.refusal c.in_ok-from.from c.in_ok-from.to c.in_ok-from.was begun c.begin_call.ensures.keeps c.begin_call.ensures.list c.in_ok-from.ensures.version in
    let done : c.clear_between-cleared.result ≡ Ok c.in_ok-mark_failure.field-0 = sym c.mark_failure.ensures.answer ∙ c.in_ok-mark_failure.was in
    let marks = subst (λ (r : Result _ _). MayMarkBy r (is_failed entries) (is_failed c.mark_failure.new.self)) done (may_mark c.clear_between-cleared.new.self c.mark_failure.new.self c.clear_between-cleared.result c.mark_failure.ensures.marks) in
    let same : c.mark_failure.new.self ≡ c.clear_between-cleared.new.self = c.mark_failure.ensures.rest ∙ ap (λ f. record entries { is_failed = f }) marks in
    let parts = parts_cleared view below old how offset n begun c.in_ok-from.from c.in_ok-from.to b entries c.clear_between-cleared.result c.in_ok-mark_failure.field-0 done (λ x0 x1 x2. ((c.clear_between-cleared.ensures.sound x0 x1).whole x2).clears) in
    let ends = subst (λ (image : Qcow2 _ _). (out : _) → ImageInvariant view below (pending_in view below image out) image out → EndsFreeing view below image freed out c.process_free_list_at_end.result) same c.process_free_list_at_end.ensures.frees in
    let number = c.process_free_list_at_end.ensures.image.number ∙ c.mark_failure.ensures.image.number ∙ c.clear_between-cleared.ensures.step.stays.image.number ∙ c.begin_call.ensures.stays.image.number in
    let fault : (out : _) → ImageInvariant view below (pending_in view below old out) old out → IsFault c.in_err-process_free_list_at_end.field-0.0 = λ out sound. fault_of x (fault_interruption view below old how offset n b.works begun entries b.quiet parts freed c.process_free_list_at_end.result ends number x c.in_err-process_free_list_at_end.was out sound) in
    handed_on (λ (r : Result (ℕ × ℕ) ImageError). FailsToClear view below how old freed offset n r) c.from_residual-in_err-process_free_list_at_end.result x c.from_residual-in_err-process_free_list_at_end.ensures (record {
      early = not_early view below old how offset n c.check_clear.result c.check_clear.ensures.refusal c.in_ok-from.from c.in_ok-from.to c.in_ok-from.was freed (Err x);
      late = λ none. inl (freeing_met _ x c.in_err-process_free_list_at_end.ensures.fails.cause);
      refused = record {
        ungiven = ungiven_interruption view below old how offset n b.works begun entries b.quiet parts freed c.process_free_list_at_end.result ends number x c.in_err-process_free_list_at_end.was;
        lacks = λ none out sound unprepared. inl (fault out sound);
        may_fail = λ none out sound. inl (inl (inl (fault out sound)));
      };
      pinned = λ some none own is. absurd (freed_untaken x c.in_err-process_free_list_at_end.ensures.fails.cause is);
      under = λ none some out sound. ((λ is. absurd (freed_untaken x c.in_err-process_free_list_at_end.ensures.fails.cause is)), tt);
      freed = λ none some out sound. inl (fault out sound);
      limit = λ none some out sound. other_limit _ x (fault_unlimited x (fault out sound));
    })

pub returns-in_err-process_free_list_at_end-clause-sound : goal.returns-in_err-process_free_list_at_end-clause-sound
returns-in_err-process_free_list_at_end-clause-sound g c =
    let view = g.S.Storage.view in
    let below = g.F.BackingDisk.backing in
    let old = c.args.self.now in
    let how = c.args.how in
    let offset = c.args.offset in
    let n = c.args.length in
    let begun = c.begin_call.new.self in
    let entries = c.clear_between-cleared.new.self in
    let freed = c.process_free_list_at_end.new.self in
    let x = c.in_err-process_free_list_at_end.field-0.0 in
    let b = begins_clearing view below old how offset n c.check_clear.result c.check_clear.ensures.refusal c.in_ok-from.from c.in_ok-from.to c.in_ok-from.was begun c.begin_call.ensures.keeps c.begin_call.ensures.list c.in_ok-from.ensures.version in
    let done : c.clear_between-cleared.result ≡ Ok c.in_ok-mark_failure.field-0 = sym c.mark_failure.ensures.answer ∙ c.in_ok-mark_failure.was in
    let marks = subst (λ (r : Result _ _). MayMarkBy r (is_failed entries) (is_failed c.mark_failure.new.self)) done (may_mark c.clear_between-cleared.new.self c.mark_failure.new.self c.clear_between-cleared.result c.mark_failure.ensures.marks) in
    let same : c.mark_failure.new.self ≡ c.clear_between-cleared.new.self = c.mark_failure.ensures.rest ∙ ap (λ f. record entries { is_failed = f }) marks in
    let parts = parts_cleared view below old how offset n begun c.in_ok-from.from c.in_ok-from.to b entries c.clear_between-cleared.result c.in_ok-mark_failure.field-0 done (λ x0 x1 x2. ((c.clear_between-cleared.ensures.sound x0 x1).whole x2).clears) in
    let ends = subst (λ (image : Qcow2 _ _). (out : _) → ImageInvariant view below (pending_in view below image out) image out → EndsFreeing view below image freed out c.process_free_list_at_end.result) same c.process_free_list_at_end.ensures.frees in
    let number = c.process_free_list_at_end.ensures.image.number ∙ c.mark_failure.ensures.image.number ∙ c.clear_between-cleared.ensures.step.stays.image.number ∙ c.begin_call.ensures.stays.image.number in
    let some : from_in c.args.self.now c.args.offset c.args.length < to_in c.args.self.now c.args.offset c.args.length = let is = b.first_is in let at = b.last_is in omega (arith, c.if-to-from.false, is, at) in
    handed_on (λ (r : Result (ℕ × ℕ) ImageError). ClearsSoundly view below how old freed offset n r) c.from_residual-in_err-process_free_list_at_end.result x c.from_residual-in_err-process_free_list_at_end.ensures (record {
      range = tt;
      nothing = λ none least. absurd (omega (arith, some, least));
      sees = clear_interruption view below old how offset n b.works begun entries b.quiet parts freed c.process_free_list_at_end.result ends number x c.in_err-process_free_list_at_end.was
          (is_fault x (is_failed c.mark_failure.new.self) (is_failed freed) (outcome x (is_failed c.mark_failure.new.self) (is_failed freed) (may_mark_refused c.mark_failure.new.self c.process_free_list_at_end.new.self x c.in_err-process_free_list_at_end.ensures.marks)));
      covers = λ out sound. tt;
      emptied = λ some. tt;
      changed = λ out sound some. tt;
    })

pub returns-clause-step : goal.returns-clause-step
returns-clause-step g c =
    let view = g.S.Storage.view in
    let below = g.F.BackingDisk.backing in
    let old = c.args.self.now in
    let begun = c.begin_call.new.self in
    let freed = c.process_free_list_at_end.new.self in
    let done : c.clear_between-cleared.result ≡ Ok c.in_ok-mark_failure.field-0 = sym c.mark_failure.ensures.answer ∙ c.in_ok-mark_failure.was in
    let failed : is_failed c.clear_between-cleared.new.self ≡ is_failed c.args.self.now = c.clear_between-cleared.ensures.step.stays.failed ∙ c.begin_call.ensures.stays.failed in
    let marks = subst (λ (r : Result _ _). MayMarkBy r (is_failed c.clear_between-cleared.new.self) (is_failed c.mark_failure.new.self)) done (may_mark c.clear_between-cleared.new.self c.mark_failure.new.self c.clear_between-cleared.result c.mark_failure.ensures.marks) in
    let kept = notes_then c.clear_between-cleared.ensures.step.notes (same_kept c.clear_between-cleared.new.self c.mark_failure.new.self (ap (λ (i : Qcow2 _ _). i.file.storage) c.mark_failure.ensures.rest) (ap (λ (i : Qcow2 _ _). i.file.caches) c.mark_failure.ensures.rest)) in
    let cleared = counted_marked view below old c.begin_call.new.self c.clear_between-cleared.new.self c.mark_failure.new.self c.clear_between-cleared.result c.mark_failure.result c.begin_call.ensures.faults c.clear_between-cleared.ensures.fails.faults c.mark_failure.ensures.answer c.mark_failure.ensures.rest in
    let image = same_image_then (same_image_then c.begin_call.ensures.stays.image c.clear_between-cleared.ensures.step.stays.image) c.mark_failure.ensures.image in
    record {
      image = same_image_then image c.process_free_list_at_end.ensures.image;
      marks = c.in_ok-process_free_list_at_end.ensures.marks ∙ marks ∙ failed;
      since = notes_since view old begun c.begin_call.ensures.begun freed (notes_then kept c.process_free_list_at_end.ensures.notes);
      once_written = answered_counts view old freed _ (counts_begun view old begun c.begin_call.ensures.begun freed (notes_then kept c.process_free_list_at_end.ensures.notes));
      header_cluster = behind_then (behind_call view c.begin_call.ensures.begun c.clear_between-cleared.ensures.step.header_cluster c.mark_failure.ensures.rest) c.process_free_list_at_end.ensures.header_cluster;
      faults = counted_ok view below old freed _ (faults_then view below old c.mark_failure.new.self freed (same_of view below old c.mark_failure.new.self c.mark_failure.result _ cleared c.in_ok-mark_failure.was) c.in_ok-process_free_list_at_end.ensures.fails.faults.told);
    }

pub returns-clause-fails : goal.returns-clause-fails
returns-clause-fails g c =
    let view = g.S.Storage.view in
    let below = g.F.BackingDisk.backing in
    let old = c.args.self.now in
    let how = c.args.how in
    let offset = c.args.offset in
    let n = c.args.length in
    let begun = c.begin_call.new.self in
    let first = from_in c.args.self.now c.args.offset c.args.length in
    let b = begins_clearing view below old how offset n c.check_clear.result c.check_clear.ensures.refusal c.in_ok-from.from c.in_ok-from.to c.in_ok-from.was begun c.begin_call.ensures.keeps c.begin_call.ensures.list c.in_ok-from.ensures.version in
    let done : c.clear_between-cleared.result ≡ Ok c.in_ok-mark_failure.field-0 = sym c.mark_failure.ensures.answer ∙ c.in_ok-mark_failure.was in
    let good : Result (Unit {0}) ImageError = Ok c.in_ok-mark_failure.field-0 in
    record {
      early = not_early view below old how offset n c.check_clear.result c.check_clear.ensures.refusal c.in_ok-from.from c.in_ok-from.to c.in_ok-from.was c.process_free_list_at_end.new.self (Ok (c.in_ok-from.from, c.saturating_sub.result));
      late = λ none. tt;
      refused = tt;
      pinned = λ some none own. heeds_begun old begun first good c.begin_call.ensures.begun (subst (λ k. RespectsPins begun k good) b.first_is
          (subst (λ (r : Result (Unit {0}) ImageError). RespectsPins begun c.in_ok-from.from r) done (c.clear_between-cleared.ensures.pinned (subst (λ k. HasOwnTable begun k) (sym b.first_is) (begun_own old begun first c.begin_call.ensures.begun own)))));
      under = λ none some out sound.
          let call = b.seen out sound in
          let free = subst (λ (r : Result _ _). IfOk r (λ x. IsUnderMapping begun.file.header.fields c.in_ok-from.from out → ⊥)) done ((c.clear_between-cleared.ensures.sound out call.sound).free) in
          (tt, λ under. free (subst (λ k. IsUnderMapping begun.file.header.fields k out) (sym b.first_is) (under_after old.file.header.fields begun.file.header.fields first out call.header under)));
      freed = λ none some out sound. tt;
      limit = λ none some out sound. tt;
    }

pub returns-clause-sound : goal.returns-clause-sound
returns-clause-sound g c =
    let view = g.S.Storage.view in
    let below = g.F.BackingDisk.backing in
    let old = c.args.self.now in
    let how = c.args.how in
    let offset = c.args.offset in
    let n = c.args.length in
    let begun = c.begin_call.new.self in
    let entries = c.clear_between-cleared.new.self in
    let first = from_in c.args.self.now c.args.offset c.args.length in
    let last = to_in c.args.self.now c.args.offset c.args.length in
    let freed = c.process_free_list_at_end.new.self in
    let b = begins_clearing view below old how offset n c.check_clear.result c.check_clear.ensures.refusal c.in_ok-from.from c.in_ok-from.to c.in_ok-from.was begun c.begin_call.ensures.keeps c.begin_call.ensures.list c.in_ok-from.ensures.version in
    let done : c.clear_between-cleared.result ≡ Ok c.in_ok-mark_failure.field-0 = sym c.mark_failure.ensures.answer ∙ c.in_ok-mark_failure.was in
    let marks = subst (λ (r : Result _ _). MayMarkBy r (is_failed entries) (is_failed c.mark_failure.new.self)) done (may_mark c.clear_between-cleared.new.self c.mark_failure.new.self c.clear_between-cleared.result c.mark_failure.ensures.marks) in
    let same : c.mark_failure.new.self ≡ c.clear_between-cleared.new.self = c.mark_failure.ensures.rest ∙ ap (λ f. record entries { is_failed = f }) marks in
    let parts = parts_cleared view below old how offset n begun c.in_ok-from.from c.in_ok-from.to b entries c.clear_between-cleared.result c.in_ok-mark_failure.field-0 done (λ x0 x1 x2. ((c.clear_between-cleared.ensures.sound x0 x1).whole x2).clears) in
    let ends = subst (λ (image : Qcow2 _ _). (out : _) → ImageInvariant view below (pending_in view below image out) image out → EndsFreeing view below image freed out c.process_free_list_at_end.result) same c.process_free_list_at_end.ensures.frees in
    let number = c.process_free_list_at_end.ensures.image.number ∙ c.mark_failure.ensures.image.number ∙ c.clear_between-cleared.ensures.step.stays.image.number ∙ c.begin_call.ensures.stays.image.number in
    let kept = notes_then c.clear_between-cleared.ensures.step.notes (same_kept c.clear_between-cleared.new.self c.mark_failure.new.self (ap (λ (i : Qcow2 _ _). i.file.storage) c.mark_failure.ensures.rest) (ap (λ (i : Qcow2 _ _). i.file.caches) c.mark_failure.ensures.rest)) in
    let some : from_in c.args.self.now c.args.offset c.args.length < to_in c.args.self.now c.args.offset c.args.length = let is = b.first_is in let at = b.last_is in omega (arith, c.if-to-from.false, is, at) in
    let many : c.saturating_sub.result ≡ min (to_in c.args.self.now c.args.offset c.args.length) (c.args.offset + c.args.length) - from_in c.args.self.now c.args.offset c.args.length =
    c.saturating_sub.ensures ∙ ap (λ k. k - c.in_ok-from.from) c.min.ensures ∙ ap (λ k. min k (offset + n) - c.in_ok-from.from) b.last_is ∙ ap (λ k. min (to_in old offset n) (offset + n) - k) b.first_is in
    let all = notes_then kept c.process_free_list_at_end.ensures.notes in
    let writable = subst IsTrue (sym (c.mark_failure.ensures.image.writable ∙ c.clear_between-cleared.ensures.step.stays.image.writable ∙ c.begin_call.ensures.stays.image.writable)) c.in_ok-from.ensures.writable in
    record {
      range = some_answered first last offset n c.in_ok-from.from c.saturating_sub.result b.first_is some many;
      nothing = λ none least. absurd (omega (arith, some, least));
      sees = subst (λ k. Clears view below how old freed offset n (Ok (k, c.saturating_sub.result))) (sym b.first_is) (subst (λ k. Clears view below how old freed offset n (Ok (from_in old offset n, k))) (sym many)
          (clear_done view below old how offset n b.works begun entries b.quiet parts freed c.process_free_list_at_end.result ends number c.in_ok-process_free_list_at_end.was some));
      covers = λ out sound. clear_covers view below old how offset n b.works begun entries b.quiet parts freed c.process_free_list_at_end.result ends number c.in_ok-process_free_list_at_end.was out sound;
      emptied = λ some. c.in_ok-process_free_list_at_end.ensures.emptied writable;
      changed = λ out sound some.
          let part = parts out (b.seen out sound) in
          let recorded = kept_noted view c.mark_failure.new.self freed c.process_free_list_at_end.ensures.notes (subst (λ (i : Qcow2 _ _). IsTrue (has_noted_change i)) (sym same) (or_right (is_changed_of entries.file.storage) entries.file.caches.is_changed part.recorded)) in
          (notes_begun view old begun c.begin_call.ensures.begun freed (notes_part view begun freed all)).why recorded;
    }

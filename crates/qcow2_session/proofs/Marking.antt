-- When commands fail an image, one call after another.
use Rattle.std.proofs.Common.{◌≡◌, ◌≢◌, ◌||◌, ◌∙◌, ℕ, Bool, true, false, IsTrue, Option, Some, None, refl, sym, ap, subst, Result, Ok, Err}
use Rattle.qcow2_session.proofs.Common.{option_or, MatchOption, OnOk, StorageView, ImageError, IsNotOfStorage, reason_of, is_failed, CommitFailsOnceWritten, CountsImageChanges, FailsOnceWritten, MarksFailed, MarksRefused, failed_after, Qcow2, CommitRefused, counts_on, counts_still, once_none, reply_of_clearing, refusal_in, FailsBy, MarksAtOnce, MarksInParts, reason_in, Reply}
use Rattle.qcow2_alloc.specs.declared.error.ImageError.TheVariants as I
use Rattle.qcow2_session.specs.Marks.{LastCallMarks}

stays_marked : (before recorded now : Bool) → now ≡ (before || recorded) → IsTrue before → IsTrue now
stays_marked true recorded now is failed = is
stays_marked false recorded now is failed = absurd (let no : false ≡ true = failed in cc)

-- a call of the image that was refused
pub refused_marks : (e : ImageError) (before recorded now : Bool) → failed_after e before recorded now → FailsBy (Some e) before now
refused_marks I.Storage before recorded now is = is
refused_marks I.Memory before recorded now is = stays_marked before recorded now is
refused_marks e before recorded now is = is

-- where nothing was called, or what was called marks nothing
pub unmarked : (e : ImageError) (before now : Bool) → IsNotOfStorage e → now ≡ before → FailsBy (Some e) before now
unmarked I.Storage before now never same = absurd (never refl)
unmarked I.Memory before now never same = λ failed. subst (λ (b : Bool). IsTrue b) (sym same) failed
unmarked e before now never same = same

module _ {S F : Type 0} (view : S → StorageView) where
  -- ---- one call

  -- where nothing was called
  pub at_rest : (reason : Option ImageError) (image : Qcow2 S F) → FailsBy reason (is_failed image) (is_failed image) → MarksAtOnce view reason image image
  at_rest reason image fails = record { fails = fails; counts = counts_still view image; memory = λ memory. once_none view image }

  -- what was answered, and what was refused
  pub answered_at_once : {A : Type 0} {x : A} (old new : Qcow2 S F) → FailsOnceWritten view old new (Ok x) → is_failed new ≡ is_failed old → MarksAtOnce view None old new
  answered_at_once old new once same = record { fails = same; counts = once.counts; memory = λ bad. absurd (cc) }

  pub refused_at_once : {A : Type 0} (old new : Qcow2 S F) (e : ImageError) → FailsOnceWritten view old new {A = A} (Err e) → MarksRefused old new e → MarksAtOnce view (Some e) old new
  refused_at_once old new e once marks = record { fails = refused_marks e _ _ _ marks; counts = once.counts; memory = λ is. once.memory (let same : e ≡ I.Memory = cc in ap Err same) }

  pub call_at_once : {A : Type 0} (old new : Qcow2 S F) (r : Result A ImageError) → FailsOnceWritten view old new r → MarksFailed old new r → MarksAtOnce view (reason_in r) old new
  call_at_once old new (Ok x) once marks = answered_at_once old new once marks
  call_at_once old new (Err e) once marks = refused_at_once old new e once marks

  pub commit_at_once : {A : Type 0} (old new : Qcow2 S F) (refused : CommitRefused) → CommitFailsOnceWritten view old new {A = A} (Err refused) → MarksRefused old new (reason_of refused) → MarksAtOnce view (Some (reason_of refused)) old new
  commit_at_once old new refused once marks = record { fails = refused_marks (reason_of refused) _ _ _ marks; counts = once.counts; memory = λ is. once.memory (let same : reason_of refused ≡ I.Memory = cc in same) }

  -- a range was cleared
  pub cleared_at_once : (old new : Qcow2 S F) (r : Result (ℕ × ℕ) ImageError) (reply : Reply) → reply ≡ reply_of_clearing r → FailsOnceWritten view old new r → MarksFailed old new r → MarksAtOnce view (refusal_in reply) old new
  cleared_at_once old new r reply is once marks = subst (λ q. MarksAtOnce view (refusal_in q) old new) (sym is) (by r once marks)
    where
      by : (q : Result (ℕ × ℕ) ImageError) → FailsOnceWritten view old new q → MarksFailed old new q → MarksAtOnce view (refusal_in (reply_of_clearing q)) old new
      by (Ok range) once marks = answered_at_once old new once marks
      by (Err e) once marks = refused_at_once old new e once marks

  -- a refusal that is handed on
  pub once_handed : {A : Type 0} (r : Result A ImageError) (e : ImageError) (old new : Qcow2 S F) → r ≡ Err e → MarksAtOnce view (Some e) old new → MarksAtOnce view (reason_in r) old new
  once_handed {A = A} r e old new is marks = subst (λ (q : Result A ImageError). MarksAtOnce view (reason_in q) old new) (sym is) marks

  pub parts_handed : {A : Type 0} (r : Result A ImageError) (e : ImageError) (old new : Qcow2 S F) → r ≡ Err e → MarksInParts view (Some e) old new → MarksInParts view (reason_in r) old new
  parts_handed {A = A} r e old new is marks = subst (λ (q : Result A ImageError). MarksInParts view (reason_in q) old new) (sym is) marks

  -- ---- several calls

  pub in_parts : {reason : Option ImageError} {old new : Qcow2 S F} → MarksAtOnce view reason old new → MarksInParts view reason old new
  in_parts {old = old} {new = new} marks = record {
    fails = marks.fails;
    counts = marks.counts;
    memory = λ is. record { from = old; to = new; before = counts_still view old; unmarked = refl; marks = marks.memory is; after = counts_still view new; marked = refl };
  }

  -- all calls succeeded, or what was not called is refused after them
  pub parts_answered : (old new : Qcow2 S F) → is_failed new ≡ is_failed old → CountsImageChanges view old new → MarksInParts view None old new
  parts_answered old new same counts = record { fails = same; counts = counts; memory = λ bad. absurd (cc) }

  pub parts_beyond : (old new : Qcow2 S F) → is_failed new ≡ is_failed old → CountsImageChanges view old new → MarksInParts view (Some I.BeyondSize) old new
  parts_beyond old new same counts = record { fails = same; counts = counts; memory = λ bad. absurd (cc) }

  -- the last call comes after others, or there was none but a refusal that marks nothing
  pub last_behind : (old mid new : Qcow2 S F) → is_failed mid ≡ is_failed old → CountsImageChanges view old mid → LastCallMarks view mid new → LastCallMarks view old new
  last_behind old mid new same first l = record { from = l.from; to = l.to; before = counts_on view old mid l.from first l.before; unmarked = l.unmarked ∙ same; marks = l.marks; after = l.after; marked = l.marked }

  pub last_none : (old new : Qcow2 S F) → is_failed new ≡ is_failed old → CountsImageChanges view old new → LastCallMarks view old new
  last_none old new same counts = record { from = new; to = new; before = counts; unmarked = same; marks = once_none view new; after = counts_still view new; marked = refl }

  -- after calls that mark nothing, and before such
  pub parts_behind : (reason : Option ImageError) (old mid new : Qcow2 S F) → is_failed mid ≡ is_failed old → CountsImageChanges view old mid → MarksInParts view reason mid new → MarksInParts view reason old new
  parts_behind reason old mid new same first last = record {
    fails = subst (λ (b : Bool). FailsBy reason b (is_failed new)) same last.fails;
    counts = counts_on view old mid new first last.counts;
    memory = λ is. last_behind old mid new same first (last.memory is);
  }

  pub parts_before : (reason : Option ImageError) (old mid new : Qcow2 S F) → is_failed new ≡ is_failed mid → CountsImageChanges view mid new → MarksInParts view reason old mid → MarksInParts view reason old new
  parts_before reason old mid new same last first = record {
    fails = subst (λ (b : Bool). FailsBy reason (is_failed old) b) (sym same) first.fails;
    counts = counts_on view old mid new first.counts last;
    memory = λ is. let l = first.memory is in record { from = l.from; to = l.to; before = l.before; unmarked = l.unmarked; marks = l.marks; after = counts_on view l.to mid new l.after last; marked = same ∙ l.marked };
  }

-- a failed image stays so
pub stays_failed : (reason : Option ImageError) (before now : Bool) → FailsBy reason before now → IsTrue before → IsTrue now
stays_failed (Some I.Storage) before now is failed = is
stays_failed (Some I.Memory) before now is failed = is failed
stays_failed reason before now is failed = is ∙ failed

-- neither memory nor a storage refused it
pub fails_no_more : (e : ImageError) (before now : Bool) → FailsBy (Some e) before now → e ≢ I.Memory → e ≢ I.Storage → now ≡ before
fails_no_more I.Storage before now is other unfailed = absurd (unfailed refl)
fails_no_more I.Memory before now is other unfailed = absurd (other refl)
fails_no_more e before now is other unfailed = is

-- what nothing refuses before any work isn't refused so
pub refused_none : (o : Option ImageError) (e : ImageError) → MatchOption o (◌≡◌ {A = Result (Unit {0}) ImageError} (Err e) (Ok tt)) (λ x. ◌≡◌ {A = Result (Unit {0}) ImageError} (Err e) (Err x)) → o ≡ None → ⊥
refused_none None e is none = cc
refused_none (Some x) e is none = let no : Some x ≡ None = none in cc

-- so it is of a check of no bytes, which an unusable image alone refuses
pub unchecked : (u : Option ImageError) (e : ImageError) → MatchOption (option_or u None) (◌≡◌ {A = Result (Unit {0}) ImageError} (Err e) (Ok tt)) (λ x. ◌≡◌ {A = Result (Unit {0}) ImageError} (Err e) (Err x)) → u ≡ None → ⊥
unchecked u e is none = refused_none (option_or u None) e is (ap (λ v. option_or v None) none)

-- a refusal says nothing of a result
pub none_answered : {A E : Type 0} (r : Result A E) (e : E) (P : Type 0) → r ≡ Err e → OnOk r P
none_answered {A = A} {E = E} r e P is = subst (λ (q : Result A E). OnOk q P) (sym is) tt

-- want of memory is no failure of the storage
pub memory_marks : (e : ImageError) (mark : Bool) → e ≡ I.Memory → FailsBy (Some e) mark mark
memory_marks e mark is = unmarked e mark mark (λ failed. let no : I.Memory ≡ I.Storage = sym is ∙ failed in cc) refl

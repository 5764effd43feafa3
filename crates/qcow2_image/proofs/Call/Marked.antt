-- The marks of a call, from the marks of its parts.
use Rattle.std.proofs.Common.{◌≡◌, ◌⊎◌, ◌||◌, inl, inr, Bool, true, false, refl, sym, ap, ◌∙◌, subst, IfErr, IsTrue, Result, Ok, Err}
use Rattle.qcow2_image.proofs.Common.{IsFault, OnOk, or_left, or_right, ImageError, ImageFile, has_noted, Qcow2, has_noted_change, is_failed, failed_after, failed_by, MarksFailed, MarksRefused}
use Rattle.qcow2_alloc.specs.declared.error.ImageError.TheVariants as I

-- a failing storage marks the image, want of memory may, and nothing else does
abbrev pub MayMark : ImageError → Bool → Bool → Type 0
MayMark I.Storage before now = now ≡ true
MayMark I.Memory before now = (now ≡ before) ⊎ (now ≡ true)
MayMark e before now = now ≡ before

abbrev pub MayMarkBy : {A : Type 0} → Result A ImageError → Bool → Bool → Type 0
MayMarkBy (Ok _) before now = now ≡ before
MayMarkBy (Err e) before now = MayMark e before now

either_is : (before recorded now : Bool) → now ≡ (before || recorded) → (now ≡ before) ⊎ (now ≡ true)
either_is true recorded now is = inr is
either_is false true now is = inr is
either_is false false now is = inl is

pub may_mark_after : (e : ImageError) (before recorded now : Bool) → failed_after e before recorded now → MayMark e before now
may_mark_after I.Memory before recorded now m = either_is before recorded now m
may_mark_after e before recorded now m = m

module _ {S F : Type 0} (old new : Qcow2 S F) where
  -- what marks say at least
  pub may_mark_refused : (e : ImageError) → MarksRefused old new e → MayMark e (is_failed old) (is_failed new)
  may_mark_refused e marks = may_mark_after e (is_failed old) (has_noted_change new) (is_failed new) marks

  pub may_mark : {A : Type 0} (r : Result A ImageError) → MarksFailed old new r → MayMarkBy r (is_failed old) (is_failed new)
  may_mark (Ok x) marks = marks
  may_mark (Err e) marks = may_mark_refused e marks

  -- a failed allocation after a recorded change marks the image
  pub marks_memory : {A : Type 0} (last : Qcow2 S F) (r : Result A ImageError) → MarksFailed old new r → new.file ≡ last.file → IfErr r (λ e. e ≡ I.Memory → IsTrue (has_noted_change last) → IsTrue (is_failed new))
  marks_memory last (Ok x) marks same = tt
  marks_memory last (Err e) marks same = λ is recorded.
      subst (λ (x : ImageError). MarksRefused old new x) is marks
      ∙ or_right (is_failed old) (has_noted_change new) (ap (λ (f : ImageFile S). has_noted f) same ∙ recorded)

-- if a change was recorded, an I/O error or a failed allocation fails the image
module _ {S F : Type 0} (old new : Qcow2 S F) where
  pub noted_marks : (e : ImageError) → IsFault e → MarksRefused old new e → IsTrue (has_noted_change new) → IsTrue (is_failed new)
  noted_marks e fault marks recorded = elim fault [
    | inl storage ↦ subst (λ (x : ImageError). MarksRefused old new x) storage marks
    | inr memory ↦ subst (λ (x : ImageError). MarksRefused old new x) memory marks ∙ or_right (is_failed old) (has_noted_change new) recorded
  ]

  pub same_done : {A : Type 0} (r : Result A ImageError) → new ≡ record old { is_failed = is_failed new } → MarksFailed old new r → OnOk r (new ≡ old)
  same_done (Ok x) rest marks = rest ∙ ap (λ (f : Bool). record old { is_failed = f }) marks
  same_done (Err e) rest marks = tt

  pub noted_fails : {A : Type 0} (r : Result A ImageError) → MarksFailed old new r → IsTrue (has_noted_change new) → IfErr r (λ e. IsFault e → IsTrue (is_failed new))
  noted_fails (Ok x) marks recorded = tt
  noted_fails (Err e) marks recorded = λ fault. noted_marks e fault marks recorded

-- ---- marks of a call, from those of its last part
module _ {S F : Type 0} (old mid new : Qcow2 S F) (same : is_failed mid ≡ is_failed old) where
  pub marks_since : {A : Type 0} (r : Result A ImageError) → MarksFailed mid new r → MarksFailed old new r
  marks_since r marks = subst (λ (f : Bool). failed_by r f (has_noted_change new) (is_failed new)) same marks

  pub refused_since : (e : ImageError) → MarksRefused mid new e → MarksRefused old new e
  refused_since e marks = subst (λ (f : Bool). failed_after e f (has_noted_change new) (is_failed new)) same marks

-- ---- two refusals of one call for the same cause, if no recorded change is lost
memory_on : (before recorded mid noted' now : Bool) → mid ≡ (before || recorded) → now ≡ (mid || noted') → (IsTrue recorded → IsTrue noted') → now ≡ (before || noted')
memory_on true recorded mid noted' now first second keeps = second ∙ or_left mid noted' first
memory_on false true mid noted' now first second keeps = second ∙ or_left mid noted' first ∙ sym (keeps refl)
memory_on false false mid noted' now first second keeps = second ∙ ap (λ m. m || noted') first

pub failed_on : (e : ImageError) (before recorded mid noted' now : Bool) → failed_after e before recorded mid → failed_after e mid noted' now → (IsTrue recorded → IsTrue noted') → failed_after e before noted' now
failed_on I.Memory before recorded mid noted' now first second keeps = memory_on before recorded mid noted' now first second keeps
failed_on I.Storage before recorded mid noted' now first second keeps = second
failed_on e before recorded mid noted' now first second keeps = second ∙ first

module _ {S F : Type 0} (old mid new : Qcow2 S F) (keeps : IsTrue (has_noted_change mid) → IsTrue (has_noted_change new)) where
  pub refused_on : (e : ImageError) → MarksRefused old mid e → MarksRefused mid new e → MarksRefused old new e
  refused_on e first second = failed_on e (is_failed old) (has_noted_change mid) (is_failed mid) (has_noted_change new) (is_failed new) first second keeps

-- Preparing as a call: it succeeds, or is refused and perhaps marked as failed.
use Rattle.std.proofs.Common.{◌≡◌, ℕ, Bool, false, List, [], Option, Some, refl, sym, subst, Result, Ok, Err, IfErr, IsTrue}
use Rattle.qcow2_image.proofs.Common.{slice_set, BackingView, StorageView, AnsweredEffect, with_slot, IsPrepared, guest_of, ImageError, Qcow2, Prepared, Prepares, number_of, is_failed, has_noted_change, IsExisting, IsReadied, PreparesRange, pending_in, abstract_of, meaning, ImageInvariant, Mappings, set_slot}
use Rattle.qcow2_alloc.specs.declared.error.ImageError.TheVariants as I
use Rattle.qcow2_image.proofs.Lemmas.{MayMarkBy, outcome_answered, refuses_left}
use Rattle.qcow2_image.proofs.Prepare.Preparing.{readied_existing}

module _ {S F : Type 0} (view : S → StorageView) (backing : F → BackingView) (old : Qcow2 S F) (usable : is_failed old ≡ false) where
  -- of nothing an existing mapping is made
  pub prepares_nothing : (offset n : ℕ) (overwrite : Bool) (p : Prepared) → IsExisting p (number_of old) offset n → Prepares view backing old old offset n overwrite (Ok p)
  prepares_nothing offset n overwrite p existing = λ out k free.
      let ready : ImageInvariant view backing (pending_in view backing old out) old out → IsReadied view backing old old out k offset n overwrite p = λ sound. readied_existing view backing out old sound p offset n existing k free overwrite in
      outcome_answered view backing old old out (set_slot out k (Some p)) [] (λ sound. (ready sound).works) (λ sound. (ready sound).sound) refl usable (λ sound. ((ready sound).prepared, (ready sound).is))

  module _ (new : Qcow2 S F) (marked : Bool) (number : number_of new ≡ number_of old) where
    abbrev failed_now : Qcow2 S F
    failed_now = record new { is_failed = marked }

    pub prepares_with_outcome : (offset n : ℕ) (overwrite : Bool) (r : Result Prepared ImageError) → MayMarkBy r (is_failed new) marked → IfErr r (λ e. e ≡ I.Memory → IsTrue (has_noted_change new) → IsTrue marked)
        → ((out : Mappings) → ImageInvariant view backing (pending_in view backing old out) old out → PreparesRange view backing old new out offset n overwrite r) → Prepares view backing old failed_now offset n overwrite r
    prepares_with_outcome offset n overwrite (Ok p) marks memory readies = λ out k free.
        let ready : ImageInvariant view backing (pending_in view backing old out) old out → IsReadied view backing old new out k offset n overwrite p = λ sound. readies out sound k free in
        subst (λ (f : Bool). let v = abstract_of view backing old out in let w = abstract_of view backing (record new { is_failed = f }) (set_slot out k (Some p)) in
        AnsweredEffect v w [] [] (IsPrepared v.setting.cluster_size (guest_of v).disk offset n overwrite (meaning view backing out.place (record new { is_failed = f }) p) × (guest_of w ≡ with_slot (guest_of v) k (Some (meaning view backing out.place (record new { is_failed = f }) p))))) (sym marks)
        (outcome_answered view backing old new out (set_slot out k (Some p)) [] (λ sound. (ready sound).works) (λ sound. (ready sound).sound) number usable (λ sound. ((ready sound).prepared, (ready sound).is)))
    prepares_with_outcome offset n overwrite (Err e) marks memory readies = λ out. refuses_left view backing out old usable new marked number e marks memory (readies out)

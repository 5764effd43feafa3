-- A refused step of a shrink, after which clusters are freed.
use Rattle.std.proofs.Common.{◌≡◌, ◌⊎◌, ◌<◌, ℕ, arith, inl, inr, Bool, true, false, List, [], refl, sym, ap, ◌∙◌, IsTrue, Option, Err}
use Rattle.qcow2_image.proofs.Common.{BackingView, StorageView, cluster_size, rounded_up, AbstractImage, Setting, EffectOnSound, IsRefusalByFault, IsSame, RefusedEffect, works_then, ImageError, InternalCall, refusal_of, Qcow2, Prepared, HasNothingToFree, is_failed, number_of, size_of, ImageInvariant, abstract_of, pending_in, MarksRefused, failed_after, DiscardsNext, boundary_in, Mappings}
use Rattle.qcow2_alloc.specs.declared.error.ImageError.TheVariants as I
use Rattle.qcow2_alloc.specs.ImageError.{IsFault as IsFaultOfTables}
use Rattle.qcow2_image.proofs.Lemmas.{is_fault, outcome, may_mark_refused, IsDiscardedSoFar, fault_of, marks_nothing}
use Rattle.qcow2_image.proofs.Resize.ShrinkSteps.{refuses_giving}

-- what is no fault marks nothing, whatever is recorded
pub failed_other : (e : ImageError) (before recorded now : Bool) → (IsFaultOfTables e → ⊥) → now ≡ before → failed_after e before recorded now
failed_other I.Memory before recorded now none is = absurd (none (inr refl))
failed_other I.Storage before recorded now none is = absurd (none (inl refl))
failed_other e before recorded now none is = is

module _ {S F : Type 0} (view : S → StorageView) (backing : F → BackingView) (old mid new : Qcow2 S F) (e : ImageError) (none : IsFaultOfTables e → ⊥) where
  -- nothing was marked by a refusal that is no fault
  pub not_marked : MarksRefused old mid e → is_failed mid ≡ is_failed old
  not_marked marks = marks_nothing e (is_failed old) (is_failed mid) none (may_mark_refused old mid e marks)

  module _ (at : ℕ) (usable : is_failed old ≡ false) (number : number_of new ≡ number_of old) (turn : DiscardsNext view backing old mid at (Err e)) where
    -- the step left a sound image, which shows what it showed
    pub turn_still : (out : Mappings) → ImageInvariant view backing (pending_in view backing old out) old out
        → ImageInvariant view backing (pending_in view backing mid out) mid out × IsSame (abstract_of view backing old out) (abstract_of view backing mid out)
    turn_still out sound = elim ((turn.1 (λ is. none (fault_of e is)) out).answer sound) [ inl is ↦ is | inr failed ↦ absurd (none (fault_of e failed.0)) ]

    module _ (last : ImageError) (marks : MarksRefused old new last)
        (ends : (out : Mappings) → ImageInvariant view backing (pending_in view backing mid out) mid out
        → InternalCall view backing mid new out ⊎ RefusedEffect (abstract_of view backing mid out) (abstract_of view backing new out) [] [] (refusal_of last) (IsSame (abstract_of view backing mid out) (abstract_of view backing new out))) where
      module _ (out : Mappings) where
        abbrev v : AbstractImage
        v = abstract_of view backing old out

        abbrev m : AbstractImage
        m = abstract_of view backing mid out

        abbrev w : AbstractImage
        w = abstract_of view backing new out

        ends_works : InternalCall view backing mid new out ⊎ RefusedEffect m w [] [] (refusal_of last) (IsSame m w) → m.is_sound → EffectOnSound m w [] []
        ends_works (inl call) sound = call.works
        ends_works (inr refused) sound = refused.acts.works sound

        ends_answer : InternalCall view backing mid new out ⊎ RefusedEffect m w [] [] (refusal_of last) (IsSame m w) → m.is_sound → (w.is_sound × IsSame m w) ⊎ (IsRefusalByFault (refusal_of last) × IsTrue (is_failed new))
        ends_answer (inl call) sound = inl (call.sound, call.same)
        ends_answer (inr refused) sound = refused.answer sound

        refused_ungiven : RefusedEffect v w [] [] (refusal_of last) (IsSame v w)
        refused_ungiven = record {
          acts = record {
            number = number;
            works = λ sound. let still = turn_still out sound in works_then v m w [] [] still.0 ((turn.1 (λ is. none (fault_of e is)) out).acts.works sound) (ends_works (ends out still.0) still.0);
            rests = λ failed. absurd (let f : true ≡ false = sym failed ∙ usable in cc);
          };
          answer = λ sound.
              let still = turn_still out sound in
              elim (ends_answer (ends out still.0) still.0) [ inl is ↦ inl (is.0, is.1 ∙ still.1) | inr failed ↦ inr failed ];
          fault = is_fault last (is_failed old) (is_failed new) (outcome last (is_failed old) (is_failed new) (may_mark_refused old new last marks));
        }

      pub turn_ended : DiscardsNext view backing old new at (Err last)
      turn_ended = ((λ out. refuses_giving (abstract_of view backing old out) (abstract_of view backing new out) [] _ (refusal_of last) _ (λ sound o x is. absurd is) (λ sound g u. tt) (refused_ungiven out)), (λ fault out. refused_ungiven out))

module _ {S F : Type 0} (view : S → StorageView) (backing : F → BackingView) where
  -- before a step nothing waits to be freed, or it is the first step, and a whole cluster lies past it
  pub frees_next : (old now : Qcow2 S F) (size at end : ℕ) → IsDiscardedSoFar view backing old now size at end → (out : Mappings) → ImageInvariant view backing (pending_in view backing old out) old out → boundary_in old size < end
      → (at ≡ size) ⊎ HasNothingToFree now → (boundary_in now at < size_of now) ⊎ HasNothingToFree now
  frees_next old now size at end so out sound before (inl first) =
      let cs : cluster_size now.file.header.fields ≡ cluster_size old.file.header.fields = ap (λ (s : Setting). s.cluster_size) (so.so_far out sound).0.works.setting in
      let same : boundary_in now at ≡ boundary_in old size = ap (λ n. rounded_up n at) cs ∙ ap (boundary_in old) first in
      let last = so.last in
      let size_is = so.image.size in
      inl (omega (arith, same, last, size_is, before))
  frees_next old now size at end so out sound before (inr none) = inr none

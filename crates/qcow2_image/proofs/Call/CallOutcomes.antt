-- A call succeeds, or is refused and marks the image as failed by the rule, depending on what its work did.
use Rattle.std.proofs.Common.{◌≡◌, ◌⊎◌, inl, inr, Bool, true, false, List, [], refl, sym, ap, ◌∙◌, subst, Option, IsTrue}
use Rattle.qcow2_image.proofs.Common.{BackingView, StorageView, GivenBytes, storage, IsRefusalByFault, EffectOnSound, AnsweredEffect, RefusedEffect, IsSame, ImageError, Qcow2, Prepared, refusal_of, number_of, is_failed, ImageInvariant, pending_in, abstract_of, stops_as, Mappings}
use Rattle.qcow2_alloc.specs.declared.error.ImageError.TheVariants as I
use Rattle.qcow2_image.proofs.Call.Marked.{MayMark}

-- what a refusal leaves: a fault, or a failed allocation, that marks the image; or the image is marked as before, and no fault was reported
abbrev pub IsOutcome : ImageError → Bool → Bool → Type 0
IsOutcome e before now = ((e ≡ I.Storage) × (now ≡ true)) ⊎ (((e ≡ I.Memory) × (now ≡ true)) ⊎ ((now ≡ before) × (refusal_of e ≡ storage → ⊥)))

memory_outcome : (before now : Bool) → (now ≡ before) ⊎ (now ≡ true) → IsOutcome I.Memory before now
memory_outcome before now (inl same) = inr (inr (same, λ is. absurd cc))
memory_outcome before now (inr marked) = inr (inl (refl, marked))

pub outcome : (e : ImageError) (before now : Bool) → MayMark e before now → IsOutcome e before now
outcome I.Memory before now m = memory_outcome before now m
outcome I.Storage before now m = inl (refl, m)
outcome e before now m = inr (inr (m, λ is. absurd cc))

pub is_fault : (e : ImageError) (before now : Bool) → IsOutcome e before now → refusal_of e ≡ storage → IsTrue now
is_fault e before now (inl failed) is = failed.1
is_fault e before now (inr (inl failed)) is = failed.1
is_fault e before now (inr (inr kept)) is = absurd (kept.1 is)

module _ {S F : Type 0} (view : S → StorageView) (backing : F → BackingView) (old new : Qcow2 S F) (out out' : Mappings) (given : List GivenBytes)
    (acts : ImageInvariant view backing (pending_in view backing old out) old out → EffectOnSound (abstract_of view backing old out) (abstract_of view backing new out') given [])
    (still : ImageInvariant view backing (pending_in view backing old out) old out → ImageInvariant view backing (pending_in view backing new out') new out') (number : number_of new ≡ number_of old) (usable : is_failed old ≡ false) where
  -- it was answered
  pub outcome_answered : {done : Type 0} → (ImageInvariant view backing (pending_in view backing old out) old out → done) → AnsweredEffect (abstract_of view backing old out) (abstract_of view backing new out') given [] done
  outcome_answered is = record {
    acts = record { number = number; works = acts; rests = λ failed. absurd (let e : true ≡ false = sym failed ∙ usable in cc) };
    answer = λ sound. (still sound, is sound);
  }

  -- it was refused, and the image is marked as failed now or as before
  module _ (marked : Bool) where
    still_sound : marked ≡ is_failed new → ImageInvariant view backing (pending_in view backing new out') new out'
        → ImageInvariant view backing (pending_in view backing (record new { is_failed = marked }) out') (record new { is_failed = marked }) out'
    still_sound same s = record { works = same ∙ s.works; file = s.file; l1_table = s.l1_table; reftable = s.reftable; stands = s.stands; below = s.below; ready = λ k q at. let r = s.ready k q at in record { own = r.own; mapped = r.mapped }; pinned = s.pinned; once = s.once }

    still_works : ImageInvariant view backing (pending_in view backing old out) old out → EffectOnSound (abstract_of view backing old out) (abstract_of view backing (record new { is_failed = marked }) out') given []
    still_works sound = let w = acts sound in record {
      setting = w.setting;
      surplus = λ now. w.surplus (still sound);
      beside = λ now. w.beside (still sound);
      leaks = w.leaks;
      stops = λ m starts.
          stops_as (abstract_of view backing old out) (abstract_of view backing new out') (abstract_of view backing old out) (abstract_of view backing (record new { is_failed = marked }) out') given [] refl refl refl (λ now. (still sound, refl)) m (w.stops m starts);
    }

    answer_of : (e : ImageError) → IsOutcome e (is_failed new) marked → IsSame (abstract_of view backing old out) (abstract_of view backing new out') ⊎ (e ≡ I.Storage) → ImageInvariant view backing (pending_in view backing old out) old out
        → ((abstract_of view backing (record new { is_failed = marked }) out').is_sound × IsSame (abstract_of view backing old out) (abstract_of view backing (record new { is_failed = marked }) out')) ⊎ (IsRefusalByFault (refusal_of e) × IsTrue marked)
    answer_of e (inl failed) is sound = inr (subst (λ (x : ImageError). IsRefusalByFault (refusal_of x)) (sym failed.0) tt, failed.1)
    answer_of e (inr (inl failed)) is sound = inr (subst (λ (x : ImageError). IsRefusalByFault (refusal_of x)) (sym failed.0) tt, failed.1)
    answer_of e (inr (inr kept)) (inl same) sound = inl (still_sound kept.0 (still sound), same)
    answer_of e (inr (inr kept)) (inr fault) sound = absurd (kept.1 (ap refusal_of fault))

    pub outcome_refused : (e : ImageError) → MayMark e (is_failed new) marked → (ImageInvariant view backing (pending_in view backing old out) old out → IsSame (abstract_of view backing old out) (abstract_of view backing new out') ⊎ (e ≡ I.Storage))
        → RefusedEffect (abstract_of view backing old out) (abstract_of view backing (record new { is_failed = marked }) out') given [] (refusal_of e) (IsSame (abstract_of view backing old out) (abstract_of view backing (record new { is_failed = marked }) out'))
    outcome_refused e marks is = record {
      acts = record { number = number; works = still_works; rests = λ failed. absurd (let f : true ≡ false = sym failed ∙ usable in cc) };
      answer = λ sound. answer_of e (outcome e (is_failed new) marked marks) (is sound) sound;
      fault = is_fault e (is_failed new) marked (outcome e (is_failed new) marked marks);
    }

-- What a call does, from one step of the driver and the mappings that are prepared afterwards.
use Rattle.std.proofs.Common.{◌≡◌, List, [], sym, ap, ◌∙◌, subst, Option}
use Rattle.qcow2_image.proofs.Common.{BackingView, StorageView, Bytes, HeaderFields, cluster_size, Pending, SafeStep, SafeThroughout, GivenBytes, EffectOnSound, UngivenStay, KeepsFormat, state_in, view_in, known_in, Qcow2, Prepared, backing_bytes, below_of, ImageInvariant, pending_in, abstract_of, leaked_in, stops_of, Mappings}
use Rattle.qcow2_image.proofs.Call.Answered.{same_setting}
use Rattle.qcow2_image.proofs.Images.Sound.{IsOnly, pending_is}
use Rattle.qcow2_image.proofs.Images.Places.{inside_of}

module _ {S F : Type 0} (view : S → StorageView) (backing : F → BackingView) (old new : Qcow2 S F) (out out' : Mappings) where
  -- From sound to sound, with what this gives. What was pending beyond what mappings hold and what is to be freed stays.
  pub record Steps (given : Bytes → List GivenBytes) (p : Pending) : Type 0 where
    pub sound : ImageInvariant view backing p new out'
    pub only : IsOnly view backing new out' p
    pub safe_step : SafeStep (state_in view old.file (pending_in view backing old out)) (state_in view new.file p) given []
    pub since : SafeThroughout (view_in view old.file) (view_in view new.file) (known_in view old.file) given []
    pub header : KeepsFormat old.file.header.fields new.file.header.fields
    pub below : below_of view backing new.backing ≡ below_of view backing old.backing
    pub surplus : p.surplus ≡ (pending_in view backing old out).surplus
    pub leaks : leaked_in new ≡ leaked_in old
    pub beside : UngivenStay (cluster_size old.file.header.fields) (given (backing_bytes view backing old.backing)) (known_in view old.file) (known_in view new.file)

  module _ (given : Bytes → List GivenBytes) (p : Pending) (steps : Steps given p) where
    pending_now : p ≡ pending_in view backing new out'
    pending_now = pending_is view backing new out' p steps.safe_step.sound (inside_of steps.sound) steps.only

    pub stepped_sound : ImageInvariant view backing (pending_in view backing new out') new out'
    stepped_sound = subst (λ (q : Pending). ImageInvariant view backing q new out') pending_now steps.sound

    pub stepped_works : EffectOnSound (abstract_of view backing old out) (abstract_of view backing new out') (given (backing_bytes view backing old.backing)) []
    stepped_works = record {
      setting = same_setting _ _ (ap (λ (h : HeaderFields). cluster_size h) steps.header) steps.below;
      surplus = λ still. ap (λ (q : Pending). q.surplus) (sym pending_now) ∙ steps.surplus;
      beside = λ still. steps.beside;
      leaks = steps.leaks;
      stops = stops_of (abstract_of view backing old out) (abstract_of view backing new out') given [] steps.since (λ still. steps.safe_step.known);
    }

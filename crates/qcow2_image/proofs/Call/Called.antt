-- Calls that guests don't see, from their parts.
use Rattle.std.proofs.Common.{◌≡◌, ◌<◌, ◌++◌, inl, ℕ, Bool, false, List, [], refl, sym, ap, ◌∙◌, subst, arith, Option, Result, Ok, Err, IfOk}
use Rattle.qcow2_image.proofs.Common.{append_assoc, fun_ext, BackingView, StorageView, l1_entry, Pending, KeepsFormat, Guest, AbstractImage, guest_of, Refusal, storage, EffectOnSound, AnsweredEffect, RefusedEffect, IsSame, l1_format, safe_step_then, steps_safe_throughout, unseen_then, ImageError, state_in, view_in, nothing_given, Qcow2, Prepared, refusal_of, AnswersCall, number_of, is_failed, of_data, of_tables, to_free, ImageInvariant, pending_in, abstract_of, NamesOwn, KeepsCopied, pending_with_listed, InternalStep, stops_none, rests_none, Mappings}
use Rattle.qcow2_image.proofs.Call.Marked.{MayMark, MayMarkBy}
use Rattle.qcow2_image.proofs.Call.Answered.{works_now, sound_now, same_now}
use Rattle.qcow2_image.proofs.Call.CallOutcomes.{outcome_answered, outcome_refused}

-- ---- a call that was refused before it did anything
module _ (v : AbstractImage) where
  pub works_none : v.is_sound → EffectOnSound v v [] []
  works_none sound = record {
    setting = refl;
    surplus = λ still. refl;
    beside = λ still g untouched. refl;
    leaks = refl;
    stops = stops_none v v [] [] refl (λ still. refl);
  }

  pub refuses_early : (e : Refusal) → (e ≡ storage → ⊥) → RefusedEffect v v [] [] e (IsSame v v)
  refuses_early e none = record {
    acts = record { number = refl; works = works_none; rests = λ failed. rests_none v v refl refl failed refl };
    answer = λ sound. inl (sound, refl);
    fault = λ is. absurd (none is);
  }

pub same_freed : (p q : Pending) → q ≡ record p { old_tables = q.old_tables; old_data = q.old_data } → p.old_tables ≡ q.old_tables → p.old_data ≡ q.old_data → p ≡ q
same_freed p q rest old_tables old_data = ap (λ f. record p { old_tables = f }) old_tables ∙ ap (λ f. record p { old_tables = q.old_tables; old_data = f }) old_data ∙ sym rest

module _ {S F : Type 0} (view : S → StorageView) (backing : F → BackingView) (out : Mappings) where
  -- one part after another
  module _ (a b c : Qcow2 S F) (p p' p'' : Pending) where
    pub copied_then : KeepsFormat a.file.header.fields b.file.header.fields → KeepsCopied (state_in view a.file p) (state_in view b.file p') → KeepsCopied (state_in view b.file p') (state_in view c.file p'')
        → KeepsCopied (state_in view a.file p) (state_in view c.file p'')
    copied_then header first then i is =
        let read = l1_format a.file.header.fields b.file.header.fields header in
        let moved : l1_entry b.file.header.fields (state_in view b.file p').on_storage i ≡ l1_entry a.file.header.fields (state_in view a.file p).on_storage i = read (state_in view b.file p').on_storage i ∙ first i is in
        sym (read (state_in view c.file p'').on_storage i) ∙ then i (subst NamesOwn (sym moved) is) ∙ moved

    pub keeps_then : ((k : ℕ) → 0 < p.new_data k → 0 < p'.new_data k) → InternalStep view backing p p' a b out → InternalStep view backing p' p'' b c out → InternalStep view backing p p'' a c out
    keeps_then new_data first then = record {
      sound = then.sound;
      safe_step = safe_step_then (state_in view a.file p) (state_in view b.file p') (state_in view c.file p'') nothing_given nothing_given [] [] first.safe_step then.safe_step;
      since = steps_safe_throughout (view_in view a.file) (view_in view b.file) (view_in view c.file) (state_in view a.file p) (state_in view b.file p') nothing_given nothing_given [] [] refl first.since first.safe_step then.since;
      unseen = unseen_then (state_in view a.file p) (state_in view b.file p') (state_in view c.file p'') first.unseen then.unseen new_data;
      copied = copied_then first.unseen.header first.copied then.copied;
      below = then.below ∙ first.below;
      list = record { more = first.list.more ++ then.list.more; is = then.list.is ∙ ap (λ l. l ++ then.list.more) first.list.is ∙ append_assoc a.file.free_list first.list.more then.list.more };
      leaks = then.leaks ∙ first.leaks;
    }

  -- ---- a call that frees nothing and holds nothing: what was pending is pending

  module _ (old new : Qcow2 S F) where
    -- nothing is held or to be freed in between, and no guest sees a change
    pub record Quietly : Type 0 where
      pub keeps : InternalStep view backing (pending_in view backing old out) (pending_in view backing old out) old new out
      pub list : new.file.free_list ≡ old.file.free_list

    module _ (quiet : ImageInvariant view backing (pending_in view backing old out) old out → Quietly) where
      unmoved : (sound : ImageInvariant view backing (pending_in view backing old out) old out) → pending_in view backing old out ≡ pending_with_listed (pending_in view backing old out) old new
      unmoved sound = same_freed (pending_in view backing old out) (pending_with_listed (pending_in view backing old out) old new) refl
          (fun_ext (λ k. let e = ap (λ l. to_free of_tables l k) (quiet sound).list in omega arith)) (fun_ext (λ k. let e = ap (λ l. to_free of_data l k) (quiet sound).list in omega arith))

      pub listed : (sound : ImageInvariant view backing (pending_in view backing old out) old out) → InternalStep view backing (pending_in view backing old out) (pending_with_listed (pending_in view backing old out) old new) old new out
      listed sound = subst (λ (q : Pending). InternalStep view backing (pending_in view backing old out) q old new out) (unmoved sound) (quiet sound).keeps

      pub quiet_works : ImageInvariant view backing (pending_in view backing old out) old out → EffectOnSound (abstract_of view backing old out) (abstract_of view backing new out) [] []
      quiet_works sound = works_now view backing old new out sound (listed sound)

      pub quiet_sound : ImageInvariant view backing (pending_in view backing old out) old out → ImageInvariant view backing (pending_in view backing new out) new out
      quiet_sound sound = sound_now view backing old new out sound (listed sound)

      pub quiet_same : ImageInvariant view backing (pending_in view backing old out) old out → guest_of (abstract_of view backing new out) ≡ guest_of (abstract_of view backing old out)
      quiet_same sound = same_now view backing old new out sound (listed sound)

      -- it was answered
      pub quiet_does : number_of new ≡ number_of old → is_failed old ≡ false → AnsweredEffect (abstract_of view backing old out) (abstract_of view backing new out) [] [] (IsSame (abstract_of view backing old out) (abstract_of view backing new out))
      quiet_does number works = outcome_answered view backing old new out out [] quiet_works quiet_sound number works quiet_same

      -- it was refused, and the image is marked as failed now or as before
      pub quiet_refuses : (marked : Bool) (e : ImageError) → MayMark e (is_failed new) marked → number_of new ≡ number_of old → is_failed old ≡ false
          → RefusedEffect (abstract_of view backing old out) (abstract_of view backing (record new { is_failed = marked }) out) [] [] (refusal_of e) (IsSame (abstract_of view backing old out) (abstract_of view backing (record new { is_failed = marked }) out))
      quiet_refuses marked e marks number works = outcome_refused view backing old new out out [] quiet_works quiet_sound number works marked e marks (λ sound. inl (quiet_same sound))

module _ {S F : Type 0} (view : S → StorageView) (backing : F → BackingView) where
  -- two parts after one another
  pub quietly_then : (out : Mappings) (a b c : Qcow2 S F)
      → ((p : Pending) (out : Mappings) → ImageInvariant view backing p a out → InternalStep view backing p p a b out) → b.file.free_list ≡ a.file.free_list
      → ((p : Pending) (out : Mappings) → ImageInvariant view backing p b out → InternalStep view backing p p b c out) → c.file.free_list ≡ b.file.free_list
      → ImageInvariant view backing (pending_in view backing a out) a out → Quietly view backing out a c
  quietly_then out a b c first listed then still sound =
      let p = pending_in view backing a out in
      let kept = first p out sound in
      record { keeps = keeps_then view backing out a b c p p p (λ k h. h) kept (then p out kept.sound); list = still ∙ listed }

  -- what the result of a call says that guests don't see
  abbrev pub Tells : (old new : Qcow2 S F) {A : Type 0} → (A → AbstractImage → AbstractImage → Type 0) → Result A ImageError → Type 0
  Tells old new Done (Ok a) = (out : Mappings) → let v = abstract_of view backing old out in let w = abstract_of view backing new out in AnsweredEffect v w [] [] (Done a v w)
  Tells old new Done (Err e) = (out : Mappings) → let v = abstract_of view backing old out in let w = abstract_of view backing new out in RefusedEffect v w [] [] (refusal_of e) (IsSame v w)

  pub told_answers : (old new : Qcow2 S F) {A : Type 0} (Done : A → Guest → Guest → Type 0) (r : Result A ImageError) → Tells old new (λ a v w. Done a (guest_of v) (guest_of w)) r → AnswersCall view backing old new [] Done r
  told_answers old new Done (Ok a) told = told
  told_answers old new Done (Err e) told = told

  module _ (old new : Qcow2 S F) (quiet : (out : Mappings) → ImageInvariant view backing (pending_in view backing old out) old out → Quietly view backing out old new) (marked : Bool) where
    -- it gives its answer, or is refused
    pub tells_quietly : {A : Type 0} (Done : A → AbstractImage → AbstractImage → Type 0) (done : Result A ImageError) → MayMarkBy done (is_failed new) marked → number_of new ≡ number_of old → is_failed old ≡ false
        → ((out : Mappings) → ImageInvariant view backing (pending_in view backing old out) old out → IsSame (abstract_of view backing old out) (abstract_of view backing new out)
        → IfOk done (λ a. Done a (abstract_of view backing old out) (abstract_of view backing new out)))
        → Tells old (record new { is_failed = marked }) Done done
    tells_quietly Done (Ok a) marks number works done = λ out.
        let does = quiet_does view backing out old new (quiet out) number works in
        subst (λ (f : Bool). AnsweredEffect (abstract_of view backing old out) (abstract_of view backing (record new { is_failed = f }) out) [] [] (Done a (abstract_of view backing old out) (abstract_of view backing (record new { is_failed = f }) out))) (sym marks)
        (record { acts = does.acts; answer = λ sound. let is = does.answer sound in (is.0, done out sound is.1) })
    tells_quietly Done (Err e) marks number works done = λ out. quiet_refuses view backing out old new (quiet out) marked e marks number works

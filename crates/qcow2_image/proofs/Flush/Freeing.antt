-- Listed clusters are freed, which guests don't see.
use Rattle.std.proofs.Common.{◌≡◌, ◌<◌, ⊎_elim, inl, inr, ℕ, Bool, false, List, [], Option, Some, refl, sym, ap, ◌∙◌, subst, arith, Result, Ok, Err, IfOk, IfErr, IsTrue}
use Rattle.qcow2_image.proofs.Common.{is_changed_of, or_right, BackingView, StorageView, Pending, AnsweredEffect, IsRefusalByFault, IsSame, SafeStep, stored_bytes, format_same, format_then, safe_step_then, steps_safe_throughout, unseen_then, Allocator, ImageError, ImageFile, Frees, l2_pins, with_listed, state_in, view_in, contents_in, known_in, nothing_given, file_step_on, pending_same, freed_kept, KeepsNoFreeBelowHint, Qcow2, Prepared, EndsFreeing, RefusedCall, InternalCall, InternalStep, InternalFreeingStep, FreesListed, FlushesImage, refusal_of, number_of, is_failed, has_noted_change, leaked_by, leaked_in, ImageInvariant, pending_in, abstract_of, Mappings}
use Rattle.qcow2_alloc.specs.ImageError.{IsFault as FaultOfTables}
use Rattle.qcow2_alloc.specs.declared.error.ImageError.TheVariants as I
use Rattle.qcow2_image.proofs.Call.Marked.{MayMarkBy}
use Rattle.qcow2_image.proofs.Call.Answered.{freeing_step_kept, still_seen}
use Rattle.qcow2_image.proofs.Call.Called.{copied_then}
use Rattle.qcow2_image.proofs.Images.Moving.{file_tidied}
use Rattle.qcow2_image.proofs.Call.Refused.{break_off, marks_fault, refuses_left, stays_stepped}
use Rattle.qcow2_image.proofs.Call.CallOutcomes.{outcome_answered}
use Rattle.qcow2_image.proofs.Images.UngivenCovers.{all_stay}
use Rattle.qcow2_image.proofs.Images.Moved.{format_stay}

module _ {S F : Type 0} (view : S → StorageView) (backing : F → BackingView) (out : Mappings) where
  pub freeing_step_then : (a b c : Qcow2 S F) (p q r : Pending) → ((k : ℕ) → 0 < p.new_data k → 0 < q.new_data k) → InternalFreeingStep view backing p q a b out → InternalFreeingStep view backing q r b c out → InternalFreeingStep view backing p r a c out
  freeing_step_then a b c p q r new_data first then = record {
    sound = then.sound;
    safe_step = safe_step_then (state_in view a.file p) (state_in view b.file q) (state_in view c.file r) nothing_given nothing_given [] [] first.safe_step then.safe_step;
    since = steps_safe_throughout (view_in view a.file) (view_in view b.file) (view_in view c.file) (state_in view a.file p) (state_in view b.file q) nothing_given nothing_given [] [] refl first.since first.safe_step then.since;
    unseen = unseen_then (state_in view a.file p) (state_in view b.file q) (state_in view c.file r) first.unseen then.unseen new_data;
    copied = copied_then view backing out a b c p q r first.unseen.header first.copied then.copied;
    below = then.below ∙ first.below;
    leaks = then.leaks ∙ first.leaks;
  }

  -- the allocator worked off the list
  module _ (p : Pending) (old : Qcow2 S F) (sound : ImageInvariant view backing (with_listed p old.file.free_list) old out) (file : ImageFile S) (a : Allocator) (pins : (table : ℕ) → l2_pins file.caches table ≡ l2_pins old.file.caches table)
      (header : file.header ≡ old.file.header) (leaks : leaked_by (Some a) ≡ leaked_in old) where
    pub frees_listed : (r : Result (Unit {0}) ImageError) → Frees view (with_listed p old.file.free_list) old.file a file (with_listed p file.free_list) r → KeepsNoFreeBelowHint view a file r → FreesListed view backing p old (record old { file = file; allocator = Some a }) out r
    frees_listed (Ok _) frees hint = file_tidied view backing old out (with_listed p old.file.free_list) (with_listed p file.free_list) sound file (Some a) (file_step_on view (with_listed p old.file.free_list) (with_listed p file.free_list) old.file file frees.file_step) (record { reftable = frees.reftable; hint = hint }) leaks pins
    frees_listed (Err e) frees hint = elim (freed_kept view (with_listed p old.file.free_list) (with_listed p file.free_list) old.file file a e frees.1 hint) [
      | inl left ↦ inl (file_tidied view backing old out (with_listed p old.file.free_list) (with_listed p file.free_list) sound file (Some a) left.0 left.1 leaks pins)
      | inr interrupted ↦ inr (record { interrupted = interrupted; header = format_same old.file.header.fields file.header.fields (ap (λ x. x.fields) header); below = refl; leaks = leaks })
    ]

  pub frees_fault : (p q : Pending) (old file : ImageFile S) (a : Allocator) (r : Result (Unit {0}) ImageError) → Frees view p old a file q r → IfErr r FaultOfTables
  frees_fault p q old file a (Ok _) frees = tt
  frees_fault p q old file a (Err e) frees = frees.0

  -- whatever is answered
  pub frees_any : (p : Pending) (old new : Qcow2 S F) (r : Result (Unit {0}) ImageError) → InternalFreeingStep view backing (with_listed p old.file.free_list) (with_listed p new.file.free_list) old new out → FreesListed view backing p old new out r
  frees_any p old new (Ok _) freeing_step = freeing_step
  frees_any p old new (Err e) freeing_step = inl freeing_step

  -- a part that leaves the list follows
  pub freeing_step_on : (a b c : Qcow2 S F) (p : Pending) → c.file.free_list ≡ b.file.free_list → InternalFreeingStep view backing (with_listed p a.file.free_list) (with_listed p b.file.free_list) a b out
      → InternalStep view backing (with_listed p b.file.free_list) (with_listed p b.file.free_list) b c out → InternalFreeingStep view backing (with_listed p a.file.free_list) (with_listed p c.file.free_list) a c out
  freeing_step_on a b c p listed first then =
      subst (λ l. InternalFreeingStep view backing (with_listed p a.file.free_list) (with_listed p l) a c out) (sym listed)
      (freeing_step_then a b c (with_listed p a.file.free_list) (with_listed p b.file.free_list) (with_listed p b.file.free_list) (λ k some. some) first (freeing_step_kept view backing b c out (with_listed p b.file.free_list) (with_listed p b.file.free_list) then))

  before : (a b c : Qcow2 S F) (p : Pending) → b.file.free_list ≡ a.file.free_list → InternalStep view backing (with_listed p a.file.free_list) (with_listed p a.file.free_list) a b out
      → InternalFreeingStep view backing (with_listed p b.file.free_list) (with_listed p c.file.free_list) b c out → InternalFreeingStep view backing (with_listed p a.file.free_list) (with_listed p c.file.free_list) a c out
  before a b c p listed first then =
      freeing_step_then a b c (with_listed p a.file.free_list) (with_listed p a.file.free_list) (with_listed p c.file.free_list) (λ k some. some) (freeing_step_kept view backing a b out (with_listed p a.file.free_list) (with_listed p a.file.free_list) first)
      (subst (λ l. InternalFreeingStep view backing (with_listed p l) (with_listed p c.file.free_list) b c out) listed then)

  -- and one goes before
  pub frees_on : (a b c : Qcow2 S F) (p : Pending) (r : Result (Unit {0}) ImageError) → b.file.free_list ≡ a.file.free_list → InternalStep view backing (with_listed p a.file.free_list) (with_listed p a.file.free_list) a b out
      → FreesListed view backing p b c out r → FreesListed view backing p a c out r
  frees_on a b c p (Ok _) listed first then = before a b c p listed first then
  frees_on a b c p (Err e) listed first then = elim then [
    | inl left ↦ inl (before a b c p listed first left)
    | inr interruption ↦ inr (record {
      interrupted = record {
        fault = interruption.interrupted.fault;
        recorded = interruption.interrupted.recorded;
        since = steps_safe_throughout (view_in view a.file) (view_in view b.file) (view_in view c.file) (state_in view a.file (with_listed p a.file.free_list)) (state_in view b.file (with_listed p a.file.free_list)) nothing_given nothing_given [] [] refl first.since first.safe_step interruption.interrupted.since;
      };
      header = format_then a.file.header.fields b.file.header.fields c.file.header.fields first.unseen.header interruption.header;
      below = interruption.below ∙ first.below;
      leaks = interruption.leaks ∙ first.leaks;
    })
  ]

-- ---- a whole call

module _ {S F : Type 0} (view : S → StorageView) (backing : F → BackingView) (old : Qcow2 S F) (out : Mappings) where
  -- what is pending beside the list
  abbrev pub beside : Pending
  beside = record (pending_in view backing old out) { old_tables = λ k. 0; old_data = λ k. 0 }

  pub all_listed : pending_in view backing old out ≡ with_listed beside old.file.free_list
  all_listed = pending_same (pending_in view backing old out) (with_listed beside old.file.free_list) (λ k. refl) (λ k. refl) (λ k. sym (omega arith)) (λ k. sym (omega arith)) (λ k. refl)

  module _ (new : Qcow2 S F) (sound : ImageInvariant view backing (pending_in view backing old out) old out) (freeing_step : InternalFreeingStep view backing (with_listed beside old.file.free_list) (with_listed beside new.file.free_list) old new out) where
    pub tidy_stays : InternalCall view backing old new out
    tidy_stays =
        stays_stepped view backing out old new (with_listed beside new.file.free_list) (record {
          sound = freeing_step.sound;
          only = record { new_data = λ k. refl; new_tables = λ k. refl; old_tables = λ k. omega arith; old_data = λ k. omega arith };
          safe_step = subst (λ (p : Pending). SafeStep (state_in view old.file p) (state_in view new.file (with_listed beside new.file.free_list)) nothing_given []) (sym all_listed) freeing_step.safe_step;
          since = freeing_step.since;
          header = freeing_step.unseen.header;
          below = freeing_step.below;
          surplus = refl;
          leaks = freeing_step.leaks;
          beside = all_stay view old.file new.file (pending_in view backing old out) (with_listed beside new.file.free_list) sound.file.caches.kept.kept.crash_invariant freeing_step.sound.file.caches.kept.kept.crash_invariant [] (format_stay old.file.header.fields new.file.header.fields (known_in view old.file) (known_in view new.file) freeing_step.unseen.header freeing_step.unseen.covers);
        })
        (still_seen view backing old new out (with_listed beside old.file.free_list) (with_listed beside new.file.free_list) (subst (λ (p : Pending). ImageInvariant view backing p old out) all_listed sound) (λ k. omega arith) (λ k. omega arith) freeing_step) freeing_step.unseen.covers

  -- what is listed was freed, or that was refused
  pub freed_refused : (new : Qcow2 S F) (e : ImageError) → ImageInvariant view backing (pending_in view backing old out) old out → FreesListed view backing beside old new out (Err e) → RefusedCall view backing old new out e
  freed_refused new e sound frees = elim frees [ inl freeing_step ↦ inl (tidy_stays new sound freeing_step) | inr interruption ↦ inr (break_off view backing out old new e interruption) ]

module _ {S F : Type 0} (view : S → StorageView) (backing : F → BackingView) (old : Qcow2 S F) (usable : is_failed old ≡ false) (new : Qcow2 S F) (marked : Bool) (number : number_of new ≡ number_of old) where
  -- all that is known is written, and nothing is left of it; or it was refused
  pub flushes_with_outcome : (r : Result (Unit {0}) ImageError) → MayMarkBy r (is_failed new) marked → IfErr r (λ e. e ≡ I.Memory → IsTrue (has_noted_change new) → IsTrue marked)
      → ((out : Mappings) → ImageInvariant view backing (pending_in view backing old out) old out → FreesListed view backing (beside view backing old out) old new out r)
      → IfOk r (λ done. known_in view new.file ≡ contents_in view new.file) → FlushesImage view backing old (record new { is_failed = marked }) r
  flushes_with_outcome (Ok done) marks memory frees written = λ out.
      let stays : ImageInvariant view backing (pending_in view backing old out) old out → InternalCall view backing old new out = λ sound. tidy_stays view backing old out new sound (frees out sound) in
      subst (λ (f : Bool). let v = abstract_of view backing old out in let w = abstract_of view backing (record new { is_failed = f }) out in AnsweredEffect v w [] [] ((w.known ≡ stored_bytes w) × IsSame v w)) (sym marks)
      (outcome_answered view backing old new out out [] (λ sound. (stays sound).works) (λ sound. (stays sound).sound) number usable (λ sound. (written, (stays sound).same)))
  flushes_with_outcome (Err e) marks memory frees written = λ out. refuses_left view backing out old usable new marked number e marks memory (λ sound. freed_refused view backing old out new e sound (frees out sound))

  -- at the end of a call
  module _ (out : Mappings) (sound : ImageInvariant view backing (pending_in view backing old out) old out) where
    pub ends_freeing : (r : Result (Unit {0}) ImageError) → MayMarkBy r (is_failed new) marked → IfErr r (λ e. e ≡ I.Memory → IsTrue (has_noted_change new) → IsTrue marked) → (IsTrue old.file.caches.is_changed → IsTrue new.file.caches.is_changed)
        → IfErr r FaultOfTables → FreesListed view backing (beside view backing old out) old new out r → EndsFreeing view backing old (record new { is_failed = marked }) out r
    ends_freeing (Ok done) marks memory recorded fault frees =
        subst (λ (f : Bool). EndsFreeing view backing old (record new { is_failed = f }) out (Ok done)) (sym marks) (let stays = tidy_stays view backing old out new sound frees in record { works = stays.works; sound = stays.sound; same = stays.same; header = stays.header; covers = stays.covers })
    ends_freeing (Err e) marks memory recorded fault frees = (
      refuses_left view backing out old usable new marked number e marks memory (λ s. freed_refused view backing old out new e s frees),
      ⊎_elim (λ (failed : e ≡ I.Storage). subst (λ (x : ImageError). IsRefusalByFault (refusal_of x)) (sym failed) tt) (λ (want : e ≡ I.Memory). subst (λ (x : ImageError). IsRefusalByFault (refusal_of x)) (sym want) tt) fault,
      λ changed. (marks_fault e (is_failed new) marked (has_noted_change new) fault (λ _. or_right (is_changed_of new.file.storage) new.file.caches.is_changed (recorded changed)) marks memory).0,
    )

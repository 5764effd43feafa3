-- A refused call: everything is as before except for the clusters to free, or a fault interrupted the call.
use Rattle.std.proofs.Common.{◌≡◌, ◌⊎◌, ⊎_elim, inl, inr, ℕ, Bool, true, false, List, [], Option, Some, refl, sym, ap, ◌∙◌, subst, arith, Result, Ok, Err, IsTrue}
use Rattle.qcow2_image.proofs.Common.{slice_set, BackingView, StorageView, HeaderFields, cluster_size, IsRefusalByFault, IsSame, RefusedEffect, EffectOnSound, with_slot, Disk, IsPrepared, works_then, stops_of, Pending, SameCovers, Guest, Setting, guest_of, ImageError, known_in, nothing_given, InterruptedFileStep, Qcow2, Prepared, refusal_of, number_of, is_failed, KeepsRestOn, has_noted_change, leaked_in, InternalCall, InterruptedCall, RefusedCall, FindsTable, IsReadied, PreparesRange, InterruptedStep, Ensures, InternalFillingStep, RefusedFillingStep, InternalStep, RefusedStep, pending_with_listed, of_data, of_tables, to_free, pending_in, abstract_of, meaning, below_of, ImageInvariant, Mappings, set_slot}
use Rattle.qcow2_alloc.specs.ImageError.{IsFault as FaultOfTables}
use Rattle.qcow2_alloc.specs.declared.error.ImageError.TheVariants as I
use Rattle.qcow2_image.proofs.Call.Marked.{MayMark}
use Rattle.qcow2_image.proofs.Images.Moved.{file_step_then, format_file_step, stay_then, format_stay}
use Rattle.qcow2_image.proofs.Images.Sound.{free_more}
use Rattle.qcow2_image.proofs.Call.Answered.{same_setting, same_now, sound_now, works_now}
use Rattle.qcow2_image.proofs.Call.CallOutcomes.{is_fault, outcome, outcome_refused}
use Rattle.qcow2_image.proofs.Call.Stepped.{Steps, stepped_sound, stepped_works}
use Rattle.qcow2_image.proofs.Images.UngivenCovers.{all_stay}

-- an I/O error, or a failed allocation after a recorded change, marks the image
pub marks_fault : (e : ImageError) (before marked recorded : Bool) → FaultOfTables e → (e ≡ I.Memory → IsTrue recorded) → MayMark e before marked → (e ≡ I.Memory → IsTrue recorded → IsTrue marked) → IsTrue marked × IsRefusalByFault (refusal_of e)
marks_fault e before marked recorded fault is marks memory = ⊎_elim
    (λ (failed : e ≡ I.Storage). (subst (λ (x : ImageError). MayMark x before marked) failed marks, subst (λ (x : ImageError). IsRefusalByFault (refusal_of x)) (sym failed) tt))
    (λ (want : e ≡ I.Memory). (memory want (is want), subst (λ (x : ImageError). IsRefusalByFault (refusal_of x)) (sym want) tt)) fault

module _ {S F : Type 0} (view : S → StorageView) (backing : F → BackingView) (out : Mappings) where
  -- a step after which the guest sees what it saw
  pub stays_stepped : (old new : Qcow2 S F) (p : Pending) → Steps view backing old new out out nothing_given p → guest_of (abstract_of view backing new out) ≡ guest_of (abstract_of view backing old out)
      → SameCovers old.file.header.fields (known_in view old.file) (known_in view new.file) → InternalCall view backing old new out
  stays_stepped old new p steps same covers = record {
    works = stepped_works view backing old new out out nothing_given p steps;
    sound = stepped_sound view backing old new out out nothing_given p steps;
    same = same;
    header = format_file_step old.file.header.fields new.file.header.fields steps.header;
    covers = format_stay old.file.header.fields new.file.header.fields (known_in view old.file) (known_in view new.file) steps.header covers;
  }

  pub stays_kept : (old new : Qcow2 S F) → ImageInvariant view backing (pending_in view backing old out) old out → InternalStep view backing (pending_in view backing old out) (pending_with_listed (pending_in view backing old out) old new) old new out → InternalCall view backing old new out
  stays_kept old new sound keeps = record { works = works_now view backing old new out sound keeps; sound = sound_now view backing old new out sound keeps; same = same_now view backing old new out sound keeps; header = format_file_step old.file.header.fields new.file.header.fields keeps.unseen.header; covers = format_stay old.file.header.fields new.file.header.fields (known_in view old.file) (known_in view new.file) keeps.unseen.header keeps.unseen.covers }

  -- it broke off
  pub break_off_so : (old new : Qcow2 S F) (e : ImageError) → InterruptedFileStep view old.file new.file e → cluster_size new.file.header.fields ≡ cluster_size old.file.header.fields → below_of view backing new.backing ≡ below_of view backing old.backing → leaked_in new ≡ leaked_in old → InterruptedCall view backing old new out e
  break_off_so old new e interrupted size below leaks = record {
    fault = interrupted.fault;
    recorded = interrupted.recorded;
    works = record {
      setting = same_setting _ _ size below;
      surplus = λ now. absurd (let f : true ≡ false = now.works in cc);
      beside = λ now. absurd (let f : true ≡ false = now.works in cc);
      leaks = leaks;
      stops = stops_of (abstract_of view backing old out) (abstract_of view backing (record new { is_failed = true }) out) nothing_given [] interrupted.since (λ now. absurd (let f : true ≡ false = now.works in cc));
    };
  }

  pub break_off : (old new : Qcow2 S F) (e : ImageError) → InterruptedStep view backing old new e → InterruptedCall view backing old new out e
  break_off old new e interruption = break_off_so old new e interruption.interrupted (ap (λ (h : HeaderFields). cluster_size h) interruption.header) interruption.below interruption.leaks

  -- ---- one part after another
  module _ (a b c : Qcow2 S F) (first : InternalCall view backing a b out) where
    pub stays_then : InternalCall view backing b c out → InternalCall view backing a c out
    stays_then then = record {
      works = works_then (abstract_of view backing a out) (abstract_of view backing b out) (abstract_of view backing c out) [] [] first.sound first.works then.works;
      sound = then.sound;
      same = then.same ∙ first.same;
      header = file_step_then a.file.header.fields b.file.header.fields c.file.header.fields first.header then.header;
      covers = stay_then a.file.header.fields b.file.header.fields c.file.header.fields (known_in view a.file) (known_in view b.file) (known_in view c.file) first.covers then.covers;
    }

    pub refused_then : (e : ImageError) → RefusedCall view backing b c out e → RefusedCall view backing a c out e
    refused_then e (inl stays) = inl (stays_then stays)
    refused_then e (inr interrupted) = inr (record {
      fault = interrupted.fault;
      recorded = interrupted.recorded;
      works = works_then (abstract_of view backing a out) (abstract_of view backing b out) (abstract_of view backing (record c { is_failed = true }) out) [] [] first.sound first.works interrupted.works;
    })

    pub readied_after : (k offset n : ℕ) (overwrite : Bool) (p : Prepared) → IsReadied view backing b c out k offset n overwrite p → IsReadied view backing a c out k offset n overwrite p
    readied_after k offset n overwrite p is = record {
      works = works_then (abstract_of view backing a out) (abstract_of view backing b out) (abstract_of view backing c (set_slot out k (Some p))) [] [] first.sound first.works is.works;
      sound = is.sound;
      header = file_step_then a.file.header.fields b.file.header.fields c.file.header.fields first.header is.header;
      covers = stay_then a.file.header.fields b.file.header.fields c.file.header.fields (known_in view a.file) (known_in view b.file) (known_in view c.file) first.covers is.covers;
      prepared = subst (λ (d : Disk). IsPrepared (cluster_size a.file.header.fields) d offset n overwrite (meaning view backing out.place c p)) (ap (λ (g : Guest). g.disk) first.same)
          (subst (λ size. IsPrepared size (guest_of (abstract_of view backing b out)).disk offset n overwrite (meaning view backing out.place c p)) (ap (λ (x : Setting). x.cluster_size) first.works.setting) is.prepared);
      is = is.is ∙ ap (λ (g : Guest). with_slot g k (Some (meaning view backing out.place c p))) first.same;
    }

    pub prepares_after : (offset n : ℕ) (overwrite : Bool) (r : Result Prepared ImageError) → PreparesRange view backing b c out offset n overwrite r → PreparesRange view backing a c out offset n overwrite r
    prepares_after offset n overwrite (Ok p) then = λ k free. readied_after k offset n overwrite p (then k free)
    prepares_after offset n overwrite (Err e) then = refused_then e then

    pub finds_after : (offset : ℕ) (r : Result ℕ ImageError) → FindsTable view backing b c out offset r → FindsTable view backing a c out offset r
    finds_after offset (Ok table) then = (stays_then then.0, then.1)
    finds_after offset (Err e) then = refused_then e then

  -- a part that was refused
  pub left_refused : (old new : Qcow2 S F) (e : ImageError) → ImageInvariant view backing (pending_in view backing old out) old out → KeepsRestOn old new → RefusedStep view backing (pending_in view backing old out) old new out e → RefusedCall view backing old new out e
  left_refused old new e sound rest left = elim left [
    | inl keeps ↦ inl (stays_kept old new sound keeps)
    | inr interrupted ↦ inr (break_off old new e (record { interrupted = interrupted.interrupted; header = ap (λ x. x.fields) rest.header; below = ap (below_of view backing) rest.backing; leaks = interrupted.leaks }))
  ]

  -- the table of an offset is there
  pub finds : (old new : Qcow2 S F) → ImageInvariant view backing (pending_in view backing old out) old out → KeepsRestOn old new → (offset : ℕ) (r : Result ℕ ImageError) → Ensures view backing (pending_in view backing old out) old new out offset r
      → FindsTable view backing old new out offset r
  finds old new sound rest offset (Ok table) ready = (stays_kept old new sound ready.0, ready.1)
  finds old new sound rest offset (Err e) ready = left_refused old new e sound rest ready

  -- a mapping was made ready, or that was refused
  pub image_step_stays : (old new : Qcow2 S F) → ImageInvariant view backing (pending_in view backing old out) old out → InternalFillingStep view backing (pending_in view backing old out) (pending_with_listed (pending_in view backing old out) old new) old new out → InternalCall view backing old new out
  image_step_stays old new sound image_step =
      stays_stepped old new (pending_with_listed (pending_in view backing old out) old new) (record {
        sound = image_step.sound;
        only = record {
          new_data = λ k. refl;
          new_tables = λ k. refl;
          old_tables = λ k. let x = ap (λ l. to_free of_tables l k) image_step.list.is ∙ free_more of_tables old.file.free_list image_step.list.more k in omega arith;
          old_data = λ k. let x = ap (λ l. to_free of_data l k) image_step.list.is ∙ free_more of_data old.file.free_list image_step.list.more k in omega arith;
        };
        safe_step = image_step.safe_step;
        since = image_step.since;
        header = image_step.header;
        below = image_step.below;
        surplus = refl;
        leaks = image_step.leaks;
        beside = all_stay view old.file new.file (pending_in view backing old out) (pending_with_listed (pending_in view backing old out) old new) sound.file.caches.kept.kept.crash_invariant image_step.sound.file.caches.kept.kept.crash_invariant [] (format_stay old.file.header.fields new.file.header.fields (known_in view old.file) (known_in view new.file) image_step.header image_step.covers);
      }) image_step.seen image_step.covers

  -- a part that was refused is a call that was
  pub back_refused : (old new : Qcow2 S F) (e : ImageError) → ImageInvariant view backing (pending_in view backing old out) old out → RefusedFillingStep view backing (pending_in view backing old out) old new out e → RefusedCall view backing old new out e
  back_refused old new e sound (inl image_step) = inl (image_step_stays old new sound image_step)
  back_refused old new e sound (inr interruption) = inr (break_off old new e interruption)

  -- what is to be freed is freed after a refusal
  pub back_then_freed : (old mid new : Qcow2 S F) (e e' : ImageError) → RefusedCall view backing old mid out e → (FaultOfTables e → (e' ≡ e) × (new ≡ mid))
      → (ImageInvariant view backing (pending_in view backing mid out) mid out → RefusedCall view backing mid new out e') → RefusedCall view backing old new out e'
  back_then_freed old mid new e e' back fault frees = elim back [
    | inl stays ↦ refused_then old mid new stays e' (frees stays.sound)
    | inr interruption ↦ let is = fault interruption.fault in inr (subst (λ (x : ImageError). InterruptedCall view backing old new out x) (sym is.0) (subst (λ (image : Qcow2 S F). InterruptedCall view backing old image out e) (sym is.1) interruption))
  ]

  -- ---- a whole call
  module _ (old : Qcow2 S F) (usable : is_failed old ≡ false) (new : Qcow2 S F) (marked : Bool) (number : number_of new ≡ number_of old) (e : ImageError) (marks : MayMark e (is_failed new) marked) where
    abbrev failed_now : Qcow2 S F
    failed_now = record new { is_failed = marked }

    refuses_stayed : InternalCall view backing old new out → RefusedEffect (abstract_of view backing old out) (abstract_of view backing failed_now out) [] [] (refusal_of e) (IsSame (abstract_of view backing old out) (abstract_of view backing failed_now out))
    refuses_stayed stays = outcome_refused view backing old new out out [] (λ sound. stays.works) (λ sound. stays.sound) number usable marked e marks (λ sound. inl stays.same)

    module _ (memory : e ≡ I.Memory → IsTrue (has_noted_change new) → IsTrue marked) where
      is_marked : InterruptedCall view backing old new out e → IsTrue marked × IsRefusalByFault (refusal_of e)
      is_marked interrupted = marks_fault e (is_failed new) marked (has_noted_change new) interrupted.fault interrupted.recorded marks memory

      refused_works : RefusedCall view backing old new out e → ImageInvariant view backing (pending_in view backing old out) old out → EffectOnSound (abstract_of view backing old out) (abstract_of view backing failed_now out) [] []
      refused_works (inl stays) sound = (refuses_stayed stays).acts.works sound
      refused_works (inr interrupted) sound = subst (λ (f : Bool). EffectOnSound (abstract_of view backing old out) (abstract_of view backing (record new { is_failed = f }) out) [] []) (sym (is_marked interrupted).0) interrupted.works

      refused_answer : RefusedCall view backing old new out e → ImageInvariant view backing (pending_in view backing old out) old out
          → ((abstract_of view backing failed_now out).is_sound × IsSame (abstract_of view backing old out) (abstract_of view backing failed_now out)) ⊎ (IsRefusalByFault (refusal_of e) × IsTrue marked)
      refused_answer (inl stays) sound = (refuses_stayed stays).answer sound
      refused_answer (inr interrupted) sound = let is = is_marked interrupted in inr (is.1, is.0)

      pub refuses_left : (ImageInvariant view backing (pending_in view backing old out) old out → RefusedCall view backing old new out e)
          → RefusedEffect (abstract_of view backing old out) (abstract_of view backing failed_now out) [] [] (refusal_of e) (IsSame (abstract_of view backing old out) (abstract_of view backing failed_now out))
      refuses_left left = record {
        acts = record { number = number; works = λ sound. refused_works (left sound) sound; rests = λ failed. absurd (let f : true ≡ false = sym failed ∙ usable in cc) };
        answer = λ sound. refused_answer (left sound) sound;
        fault = is_fault e (is_failed new) marked (outcome e (is_failed new) marked marks);
      }

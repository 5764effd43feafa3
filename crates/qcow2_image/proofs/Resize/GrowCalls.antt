-- A growth as a call: it is refused, or has nothing to do, before any work.
use Rattle.std.proofs.Common.{◌≡◌, ◌≤◌, ◌∷◌, inl, inr, ℕ, true, false, [], refl, sym, ap, ◌∙◌, arith, Some, Result, Ok, Err}
use Rattle.qcow2_image.proofs.Common.{not, cond-true, le-leb, BackingView, StorageView, PreallocateMode, passes_none, guest_of, shows_old, storage, with_disk, grown, works_less, ImageError, view_in, refusal_of, setting_of, Qcow2, lacks_data_file, is_failed, is_writable, size_of, abstract_of, disk_of, GrowsLast, GrowsTo, all_given_by_grow, refuses_to_resize}
use Rattle.qcow2_alloc.specs.declared.error.ImageError.TheVariants as I
use Rattle.qcow2_image.proofs.Lemmas.{refuses_early, works_none, call_none, disk_size, works_asking}
use Rattle.qcow2_image.proofs.Resize.ShrinkCalls.{none_fails}

module _ {S F : Type 0} (view : S → StorageView) (backing : F → BackingView) (old : Qcow2 S F) (size : ℕ) (mode : PreallocateMode) where
  refused_unasked : (e : ImageError) → (refusal_of e ≡ storage → ⊥) → GrowsTo view backing old old size mode (Err e)
  refused_unasked e none out =
      let v = abstract_of view backing old out in
      let r = refuses_early v (refusal_of e) none in
      let gs = all_given_by_grow view backing out.place old size mode in
      record {
        acts = record { number = r.acts.number; works = λ sound. works_asking v v gs (size ∷ []) (works_less v v [] gs [] (λ o x never. absurd never) (λ g u. tt) (r.acts.works sound)); rests = r.acts.rests };
        answer = λ sound. elim (r.answer sound) [ inl still ↦ inl (still.0, ((guest_of v).disk, record { same_size = refl; values = λ o. inl refl }, still.1)) | inr failed ↦ inr failed ];
        fault = r.fault;
      }

  pub grows_early : (e : ImageError) → refuses_to_resize old ≡ Some e → GrowsTo view backing old old size mode (Err e)
  grows_early e is = refused_unasked e (none_fails (is_failed old) (lacks_data_file old) (not (is_writable old)) e is)

  pub grows_over : GrowsTo view backing old old size mode (Err I.Preallocation)
  grows_over = refused_unasked I.Preallocation (λ is. absurd cc)

  -- it isn't larger
  pub grows_nothing : is_failed old ≡ false → size ≤ size_of old → GrowsTo view backing old old size mode (Ok tt)
  grows_nothing usable le out =
      let v = abstract_of view backing old out in
      let gs = all_given_by_grow view backing out.place old size mode in
      let d = disk_of view backing out.place old in
      record {
        acts = record {
          number = refl;
          works = λ sound. works_asking v v gs (size ∷ []) (works_less v v [] gs [] (λ o x never. absurd never) (λ g u. tt) (works_none v sound));
          rests = λ failed. absurd (let no : true ≡ false = sym failed ∙ usable in cc);
        };
        answer = λ sound. let s = disk_size view backing old out sound in
            (sound, ap (λ e. with_disk (guest_of v) e) (sym (cond-true _ d (grown (setting_of view backing old).cluster_size d size (shows_old mode)) (le-leb size d.size (omega (arith, s, le))))));
      }

  -- what the storage holds stays at every moment
  pub last_none : (r : Result (Unit {0}) ImageError) → GrowsLast view backing mode size old old r
  last_none r = record { last = passes_none (view_in view old.file) _; lasts = λ shows. call_none view old (size ∷ []) r }

-- A range is prepared: first its L2 table, then the range in that table.
use Rattle.std.proofs.Common.{◌≡◌, ⊎_elim, ℕ, Bool, true, false, List, Option, Some, None, refl, sym, ap, ◌∙◌, subst, arith, IsTrue}
use Rattle.qcow2_image.proofs.Common.{slice_get, slice_set, fun_ext, BackingView, StorageView, with_slot, guest_of, safe_step_none, safe_throughout_none, state_in, view_in, contents_in, known_in, nothing_given, Qcow2, Prepared, ClusterMapping, number_of, IsExisting, IsReadied, new_data_in, new_data_by, pins_by, pins_of, over_all, pending_in, abstract_of, meaning, is_private, IsReady, IsReadyWith, ImageInvariant, Mappings, set_slot}
use Rattle.qcow2_image.proofs.Images.ClusterMappings.{never_private as no_private}
use Rattle.qcow2_image.proofs.Lemmas.{same_guest, get_set, over_all_put, slot_set, Steps, stepped_sound, stepped_works}

module _ {S F : Type 0} (view : S → StorageView) (backing : F → BackingView) (out : Mappings) where
  -- ---- a mapping of which nothing is kept
  module _ (image : Qcow2 S F) (sound : ImageInvariant view backing (pending_in view backing image out) image out) (p : Prepared) (offset n : ℕ) (existing : IsExisting p (number_of image) offset n) (k : ℕ) (free : slice_get out.slots k ≡ Some None) where
    nothing_new_data : (c : ℕ) → new_data_by p c ≡ 0
    nothing_new_data c = ap (λ (l : List ClusterMapping). new_data_in l c) existing.clusters

    nothing_pinned : (c : ℕ) → pins_by p c ≡ 0
    nothing_pinned c = ap (λ x. pins_of x c) existing.table

    same_new_data : (c : ℕ) → over_all new_data_by (set_slot out k (Some p)) c ≡ over_all new_data_by out c
    same_new_data c = let more = over_all_put new_data_by out k p free c in let none = nothing_new_data c in omega arith

    same_pins : (c : ℕ) → over_all pins_by (set_slot out k (Some p)) c ≡ over_all pins_by out c
    same_pins c = let more = over_all_put pins_by out k p free c in let none = nothing_pinned c in omega arith

    existing_ready : (j : ℕ) (r : Prepared) → slice_get (set_slot out k (Some p)).slots j ≡ Some (Some r) → IsReady view backing out.place image r
    existing_ready j r at = ⊎_elim
        (λ (e : Some r ≡ Some p). let same : r ≡ p = cc in subst (λ (x : Prepared). IsReady view backing out.place image x) (sym same)
        (record { own = existing.image; mapped = subst (λ t. IsReadyWith image.file.header.fields out.place (known_in view image.file) (contents_in view image.file) p t) (sym existing.table) existing.clusters }))
        (λ there. sound.ready j r there) (get_set out.slots k j (Some p) (Some r) at)

    existing_steps : Steps view backing image image out (set_slot out k (Some p)) nothing_given (pending_in view backing image out)
    existing_steps = record {
      sound = record {
        works = sound.works;
        file = sound.file;
        l1_table = sound.l1_table;
        reftable = sound.reftable;
        stands = sound.stands;
        below = sound.below;
        ready = existing_ready;
        pinned = λ c. sound.pinned c ∙ sym (same_pins c);
        once = λ c. let same = same_pins c in let once = sound.once c in omega arith;
      };
      only = record { new_data = λ c. sym (same_new_data c); new_tables = λ c. refl; old_tables = λ c. refl; old_data = λ c. refl };
      safe_step = safe_step_none (state_in view image.file (pending_in view backing image out)) sound.file.caches.kept.kept.crash_invariant;
      since = safe_throughout_none (view_in view image.file) (known_in view image.file);
      header = refl;
      below = refl;
      surplus = refl;
      leaks = refl;
      beside = λ g untouched. refl;
    }

    never_private : (o : ℕ) → IsTrue (is_private view backing image p o) → ⊥
    never_private o private =
        absurd (let e : true ≡ false = sym private ∙ no_private view backing image p existing.clusters o in cc)

    pub readied_existing : (overwrite : Bool) → IsReadied view backing image image out k offset n overwrite p
    readied_existing overwrite = record {
      works = stepped_works view backing image image out (set_slot out k (Some p)) nothing_given (pending_in view backing image out) existing_steps;
      sound = stepped_sound view backing image image out (set_slot out k (Some p)) nothing_given (pending_in view backing image out) existing_steps;
      header = refl;
      covers = λ g. refl;
      prepared = record {
        from = existing.guest_is;
        some = λ any. let long = existing.length_is in omega arith;
        most = λ past. let long = existing.length_is in absurd (omega (arith, long, past));
        inside = λ o private. absurd (never_private o private);
        old_values = λ o private opened. absurd (never_private o private);
      };
      is = same_guest _ (with_slot (guest_of (abstract_of view backing image out)) k (Some (meaning view backing out.place image p))) refl (fun_ext (λ j. slot_set (meaning view backing out.place image) out.slots k (Some p) None free j));
    }

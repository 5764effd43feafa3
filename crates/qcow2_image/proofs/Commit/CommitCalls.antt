-- A commit as a call: its clusters are entered, clusters are freed, and the mapping is released.
use Rattle.std.proofs.Common.{◌≡◌, ◌∷◌, inl, inr, ℕ, Bool, true, false, List, [], refl, sym, ap, ◌∙◌, subst, eqb, Option, Some, None, IsTrue, IsSome, Result, Ok, Err}
use Rattle.qcow2_image.proofs.Common.{slice_get, slice_set, cases_eq, cond-true, cond-false, eq-eqb, ne_eqb, fun_ext, BackingView, StorageView, Refusal, storage, IsRefusalByFault, IsSame, EffectOnSound, EffectOnFailed, AnsweredEffect, RefusedEffect, with_disk, with_slot, PreparedMapping, given_by_commit, committed, GivenBytes, AbstractImage, Guest, guest_of, meaning_at, works_less, works_then, stops_as, ImageError, Qcow2, Prepared, number_of, is_failed, Discards, refusal_of, CommitsAll, EndsFreeing, EntersAll, ShowsPart, InternalCall, contents_in, known_in, pending_in, abstract_of, meaning, IsReadyWith, ImageInvariant, Mappings, set_slot}
use Rattle.qcow2_image.proofs.Lemmas.{same_guest, Quietly, quiet_same, quiet_sound, quiet_works, outcome_answered, get_set_same, set_same, set_slot_same, set_set, set_slot_set, never_private}

-- of an image that isn't sound nothing more is said
pub refuses_unsound : (v w : AbstractImage) (given : List GivenBytes) (e : Refusal) (still : Type 0) → w.number ≡ v.number → (v.is_sound → ⊥) → (IsTrue v.is_failed → EffectOnFailed v w) → (e ≡ storage → IsTrue w.is_failed) → RefusedEffect v w given [] e still
refuses_unsound v w given e still number unsound rests fault = record {
  acts = record { number = number; works = λ sound. absurd (unsound sound); rests = rests };
  answer = λ sound. absurd (unsound sound);
  fault = fault;
}

-- where nothing is private any more, and its place is free, it is committed
pub all_shown : (a b c : Guest) (k : ℕ) (m m' : PreparedMapping) → ShowsPart a b k m m' → ((o : ℕ) → m'.is_private o ≡ false) → c ≡ with_slot b k None → c ≡ with_slot (with_disk a (committed a.disk m)) k None
all_shown a b c k m m' shows visible free =
    let values : b.disk.value ≡ (committed a.disk m).value = fun_ext (λ o. shows.visible o (visible o)) in
    let size = shows.size in
    let disks : b.disk ≡ committed a.disk m = λ i. record { size = size i; value = values i } in
    let slot : (j : ℕ) → (with_slot b k None).slots j ≡ (with_slot (with_disk a (committed a.disk m)) k None).slots j = λ j. elim (cases_eq j k) [
      | inl here ↦ cond-true (eqb j k) None (b.slots j) (eq-eqb _ _ here) ∙ sym (cond-true (eqb j k) None (a.slots j) (eq-eqb _ _ here))
      | inr other ↦
          cond-false (eqb j k) None (b.slots j) (ne_eqb _ _ other) ∙ shows.slots j ∙ cond-false (eqb j k) (Some m') (a.slots j) (ne_eqb _ _ other) ∙ sym (cond-false (eqb j k) None (a.slots j) (ne_eqb _ _ other))
    ] in
    free ∙ same_guest _ _ disks (fun_ext slot)

module _ {S F : Type 0} (view : S → StorageView) (backing : F → BackingView) (old : Qcow2 S F) (p : Prepared) where
  -- nothing of an existing mapping is private
  module _ (existing : p.table ≡ None) (new : Qcow2 S F) (usable : is_failed old ≡ false) (discards : Discards view backing old new p) (out : Mappings) (k : ℕ) (placed : slice_get out.slots k ≡ Some (Some p)) where
    abbrev v0 : AbstractImage
    v0 = abstract_of view backing old out

    abbrev w0 : AbstractImage
    w0 = abstract_of view backing new (set_slot out k None)

    abbrev m0 : PreparedMapping
    m0 = meaning view backing out.place old p

    abbrev given_before : List GivenBytes
    given_before = given_by_commit v0.setting.cluster_size (guest_of v0).disk m0 ∷ []

    nothing_new : ImageInvariant view backing (pending_in view backing old out) old out → committed (guest_of v0).disk m0 ≡ (guest_of v0).disk
    nothing_new sound =
        let none : p.clusters.items ≡ [] = subst (IsReadyWith old.file.header.fields out.place (known_in view old.file) (contents_in view old.file) p) existing (sound.ready k p placed).mapped in
        ap (λ f. record (guest_of v0).disk { value = f }) (fun_ext (λ o. cond-false (m0.is_private o) _ _ (never_private view backing old p none o)))

    pub commit_existing : AnsweredEffect v0 w0 given_before [] (guest_of w0 ≡ with_slot (with_disk (guest_of v0) (committed (guest_of v0).disk m0)) k None)
    commit_existing =
        let does = discards out k placed in
        outcome_answered view backing old new out (set_slot out k None) given_before (λ sound. works_less v0 w0 [] given_before [] (λ o x never. absurd never) (λ g u. tt) (does.acts.works sound)) (λ sound. (does.answer sound).0) does.acts.number usable
        (λ sound. (does.answer sound).1 ∙ ap (λ d. with_slot (with_disk (guest_of v0) d) k None) (sym (nothing_new sound)))

-- ---- the commit begins, and the clusters are entered
module _ {S F : Type 0} (view : S → StorageView) (backing : F → BackingView) (old : Qcow2 S F) (p : Prepared) where
  module _ (begun entered freed : Qcow2 S F) (q : Prepared) (changed : Bool) (usable : is_failed old ≡ false) (some : IsSome p.table) (r : Result (Unit {0}) ImageError)
      (begins : (out : Mappings) → ImageInvariant view backing (pending_in view backing old out) old out → Quietly view backing out old begun)
      (enters : EntersAll view backing begun entered p q changed)
      (ends : (out : Mappings) → ImageInvariant view backing (pending_in view backing entered out) entered out → EndsFreeing view backing entered freed out r)
      (out : Mappings) (k : ℕ) (placed : slice_get out.slots k ≡ Some (Some p)) where
    abbrev v : AbstractImage
    v = abstract_of view backing old out

    abbrev b : AbstractImage
    b = abstract_of view backing begun out

    abbrev left : Mappings
    left = set_slot out k (Some q)

    abbrev e : AbstractImage
    e = abstract_of view backing entered left

    abbrev f : AbstractImage
    f = abstract_of view backing freed left

    abbrev m : PreparedMapping
    m = meaning view backing out.place old p

    abbrev given_bytes : List GivenBytes
    given_bytes = given_by_commit v.setting.cluster_size (guest_of v).disk m ∷ []

    module _ (sound : ImageInvariant view backing (pending_in view backing old out) old out) where
      begun_same : guest_of b ≡ guest_of v
      begun_same = quiet_same view backing out old begun (begins out) sound

      begun_sound : ImageInvariant view backing (pending_in view backing begun out) begun out
      begun_sound = quiet_sound view backing out old begun (begins out) sound

      begun_works : EffectOnSound v b [] []
      begun_works = quiet_works view backing out old begun (begins out) sound

      same_meaning : meaning view backing out.place begun p ≡ m
      same_meaning =
          let at : (image : Qcow2 S F) → (guest_of (abstract_of view backing image out)).slots k ≡ Some (meaning view backing out.place image p) = λ image. ap (meaning_at (meaning view backing out.place image)) placed in
          let means : Some (meaning view backing out.place begun p) ≡ Some (meaning view backing out.place old p) = sym (at begun) ∙ ap (λ (g : Guest). g.slots k) begun_same ∙ at old in
          cc

      all : CommitsAll view backing begun entered out k p q
      all = (enters out k placed some begun_sound).0

      recorded : IsTrue changed → IsTrue entered.file.caches.is_changed
      recorded = (enters out k placed some begun_sound).1

      given_is : given_by_commit b.setting.cluster_size (guest_of b).disk (meaning view backing out.place begun p) ∷ [] ≡ given_bytes
      given_is =
          ap (λ x. given_by_commit x.cluster_size (guest_of b).disk (meaning view backing out.place begun p) ∷ []) begun_works.setting ∙ ap (λ (g : Guest). given_by_commit v.setting.cluster_size g.disk (meaning view backing out.place begun p) ∷ []) begun_same
          ∙ ap (λ x. given_by_commit v.setting.cluster_size (guest_of v).disk x ∷ []) same_meaning

      entered_works : EffectOnSound v e given_bytes []
      entered_works = works_then v b e given_bytes [] begun_sound (works_less v b [] given_bytes [] (λ o x never. absurd never) (λ g u. tt) begun_works) (subst (λ gs. EffectOnSound b e gs []) given_is all.part.works)

      entered_shows : ShowsPart (guest_of v) (guest_of e) k m (meaning view backing out.place entered q)
      entered_shows = subst (λ x. ShowsPart (guest_of v) (guest_of e) k x (meaning view backing out.place entered q)) same_meaning (subst (λ (g : Guest). ShowsPart g (guest_of e) k (meaning view backing out.place begun p) (meaning view backing out.place entered q)) begun_same all.part.shows)

      ended : EndsFreeing view backing entered freed left r
      ended = ends left all.part.sound

      -- ---- clusters were freed, and it is let go
      module _ (ok : r ≡ Ok tt) (new : Qcow2 S F) (discards : Discards view backing freed new q) where
        freed_call : InternalCall view backing entered freed left
        freed_call = subst (EndsFreeing view backing entered freed left) ok ended

        release_prepared : AnsweredEffect f (abstract_of view backing new (set_slot left k None)) [] [] (guest_of (abstract_of view backing new (set_slot left k None)) ≡ with_slot (guest_of f) k None)
        release_prepared = discards left k (get_set_same out.slots k (Some q) (Some p) placed)

        end : set_slot left k None ≡ set_slot out k None
        end = set_slot_set out k (Some q) None

        abbrev w : AbstractImage
        w = abstract_of view backing new (set_slot out k None)

        works_all : EffectOnSound v w given_bytes []
        works_all =
            let freeing : EffectOnSound v f given_bytes [] = works_then v e f given_bytes [] all.part.sound entered_works (works_less e f [] given_bytes [] (λ o x never. absurd never) (λ g u. tt) freed_call.works) in
            subst (λ now. EffectOnSound v (abstract_of view backing new now) given_bytes []) end
            (works_then v f (abstract_of view backing new (set_slot left k None)) given_bytes [] freed_call.sound freeing (works_less f (abstract_of view backing new (set_slot left k None)) [] given_bytes [] (λ o x never. absurd never) (λ g u. tt) ((release_prepared.acts.works freed_call.sound))))

        sound_all : ImageInvariant view backing (pending_in view backing new (set_slot out k None)) new (set_slot out k None)
        sound_all = subst (λ now. ImageInvariant view backing (pending_in view backing new now) new now) end (release_prepared.answer freed_call.sound).0

        is_all : guest_of w ≡ with_slot (with_disk (guest_of v) (committed (guest_of v).disk m)) k None
        is_all =
            let gone : guest_of w ≡ with_slot (guest_of e) k None = subst (λ now. guest_of (abstract_of view backing new now) ≡ with_slot (guest_of f) k None) end (release_prepared.answer freed_call.sound).1 ∙ ap (λ (g : Guest). with_slot g k None) freed_call.same in
            all_shown (guest_of v) (guest_of e) (guest_of w) k m (meaning view backing out.place entered q) entered_shows all.visible gone

    pub commit_done : (ok : r ≡ Ok tt) (new : Qcow2 S F) → Discards view backing freed new q → number_of new ≡ number_of old
        → let w = abstract_of view backing new (set_slot out k None) in AnsweredEffect v w given_bytes [] (guest_of w ≡ with_slot (with_disk (guest_of v) (committed (guest_of v).disk m)) k None)
    commit_done ok new discards number =
        outcome_answered view backing old new out (set_slot out k None) given_bytes (λ sound. works_all sound ok new discards) (λ sound. sound_all sound ok new discards) number usable (λ sound. is_all sound ok new discards)

    -- ---- that was refused
    module _ (number : number_of freed ≡ number_of old) (x : ImageError) (refused : r ≡ Err x) (marked : refusal_of x ≡ storage → IsTrue (is_failed freed)) where
      failed_freeing : (sound : ImageInvariant view backing (pending_in view backing old out) old out) → EndsFreeing view backing entered freed left (Err x)
      failed_freeing sound = subst (EndsFreeing view backing entered freed left) refused (ended sound)

      -- with its place free, or with it there as it was
      works_refused : (now : Option Prepared) → IsTrue (is_failed freed) → (sound : ImageInvariant view backing (pending_in view backing old out) old out) → EffectOnSound v (abstract_of view backing freed (set_slot out k now)) given_bytes []
      works_refused now failed sound =
          let then = (failed_freeing sound).0.acts.works (all sound).part.sound in
          let both = works_then v e f given_bytes [] (all sound).part.sound (entered_works sound) (works_less e f [] given_bytes [] (λ o y never. absurd never) (λ g u. tt) then) in
          record {
            setting = both.setting;
            surplus = λ still. absurd (let no : true ≡ false = sym failed ∙ still.works in cc);
            beside = λ still. absurd (let no : true ≡ false = sym failed ∙ still.works in cc);
            leaks = both.leaks;
            stops = λ c starts. stops_as v f v (abstract_of view backing freed (set_slot out k now)) given_bytes [] refl refl refl (λ still. absurd (let no : true ≡ false = sym failed ∙ still.works in cc)) c (both.stops c starts);
          }

      -- the image failed: it is spent
      pub commit_interruption : (ImageInvariant view backing (pending_in view backing old out) old out → IsTrue (is_failed freed))
          → let w = abstract_of view backing freed (set_slot out k None) in (v.is_sound → IsRefusalByFault (refusal_of x)) × RefusedEffect v w given_bytes [] (refusal_of x) (IsSame v w)
      commit_interruption failed = (
        (λ sound. (failed_freeing sound).1),
        record {
          acts = record { number = number; works = λ sound. works_refused None (failed sound) sound; rests = λ was. absurd (let no : true ≡ false = sym was ∙ usable in cc) };
          answer = λ sound. inr ((failed_freeing sound).1, failed sound);
          fault = marked;
        },
      )

      pub commit_break_off : IsTrue changed → let w = abstract_of view backing freed (set_slot out k None) in (v.is_sound → IsRefusalByFault (refusal_of x)) × RefusedEffect v w given_bytes [] (refusal_of x) (IsSame v w)
      commit_break_off is = commit_interruption (λ sound. (failed_freeing sound).2 (recorded sound is))

      -- nothing was changed: it is at its place again
      pub commit_kept : (entered ≡ begun) × (q ≡ p) → let w = abstract_of view backing freed (set_slot out k (Some p)) in (v.is_sound → IsRefusalByFault (refusal_of x)) × RefusedEffect v w given_bytes [] (refusal_of x) (IsSame v w)
      commit_kept same =
          let there : set_slot out k (Some q) ≡ set_slot out k (Some p) = ap (λ y. set_slot out k (Some y)) same.1 in
          let w = abstract_of view backing freed (set_slot out k (Some p)) in
          let as_it_was : guest_of e ≡ guest_of b = ap (λ (image : Qcow2 S F). guest_of (abstract_of view backing image left)) same.0 ∙ ap (λ now. guest_of (abstract_of view backing begun now)) (there ∙ set_slot_same out k (Some p) placed) in
          let refuses : ImageInvariant view backing (pending_in view backing old out) old out → RefusedEffect e w [] [] (refusal_of x) (IsSame e w) = λ sound.
          subst (λ now. RefusedEffect e (abstract_of view backing freed now) [] [] (refusal_of x) (IsSame e (abstract_of view backing freed now))) there (failed_freeing sound).0 in (
            (λ sound. (failed_freeing sound).1),
            record {
              acts = record {
                number = number;
                works = λ sound. works_then v e w given_bytes [] (all sound).part.sound (entered_works sound) (works_less e w [] given_bytes [] (λ o y never. absurd never) (λ g u. tt) ((refuses sound).acts.works (all sound).part.sound));
                rests = λ was. absurd (let no : true ≡ false = sym was ∙ usable in cc);
              };
              answer = λ sound. elim ((refuses sound).answer (all sound).part.sound) [
                | inl still ↦ inl (still.0, still.1 ∙ as_it_was ∙ begun_same sound)
                | inr failed ↦ inr failed
              ];
              fault = marked;
            },
          )

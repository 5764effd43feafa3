-- A shrink as a call: it is refused, or has nothing to do, before any work.
use Rattle.std.proofs.Common.{◌≡◌, ◌<◌, ◌≤◌, ◌∷◌, inl, inr, Result, subst, ℕ, Bool, true, false, [], refl, sym, ap, ◌∙◌, arith, Some, None, Ok, Err, IfErr, IsTrue}
use Rattle.qcow2_image.proofs.Common.{not, option_or, BackingView, StorageView, another, storage, works_less, ImageError, IsFault, refusal_of, Qcow2, lacks_data_file, is_failed, is_writable, size_of, abstract_of, disk_of, refuse_if, MayFailShrinking, Shrinks, all_given_by_shrink, all_given_by_shrunk, refuses_to_resize}
use Rattle.qcow2_alloc.specs.declared.error.ImageError.TheVariants as I
use Rattle.qcow2_alloc.specs.ImageFile.{l2_pins}
use Rattle.qcow2_image.proofs.Lemmas.{some_prepared, refuses_early, works_none, works_if, disk_size, works_asking}

-- none of them is that the storage failed
pub none_fails : (a b c : Bool) (x : ImageError) → option_or (option_or (refuse_if a I.Failed) (refuse_if b I.Dependency)) (refuse_if c I.ReadOnly) ≡ Some x → refusal_of x ≡ storage → ⊥
none_fails true b c x is fault = let same : I.Failed ≡ x = cc in absurd (let no : another 16 ≡ storage = ap refusal_of same ∙ fault in cc)
none_fails false true c x is fault = let same : I.Dependency ≡ x = cc in absurd (let no : another 12 ≡ storage = ap refusal_of same ∙ fault in cc)
none_fails false false true x is fault = let same : I.ReadOnly ≡ x = cc in absurd (let no : another 1 ≡ storage = ap refusal_of same ∙ fault in cc)
none_fails false false false x is fault = absurd cc

-- a fault isn't a prepared mapping
pub fault_unprepared : {T : Type 0} (r : Result T ImageError) → IfErr r IsFault → r ≡ Err I.MappingPrepared → ⊥
fault_unprepared {T} r fault is =
    let told : IsFault I.MappingPrepared = subst (λ (x : Result T ImageError). IfErr x IsFault) is fault in
    elim told [
      | inl broken ↦ let no : I.MappingPrepared ≡ I.Storage = broken in cc
      | inr wanting ↦ let no : I.MappingPrepared ≡ I.Memory = wanting in cc
    ]

pub resize_works : {S F : Type 0} (image : Qcow2 S F) → refuses_to_resize image ≡ None → is_failed image ≡ false
resize_works image is = works_if (is_failed image) (refuse_if (lacks_data_file image) I.Dependency) _ is

writable_if : (a b c : Bool) → option_or (option_or (refuse_if a I.Failed) (refuse_if b I.Dependency)) (refuse_if (not c) I.ReadOnly) ≡ None → IsTrue c
writable_if true b c is = absurd (cc)
writable_if false true c is = absurd (cc)
writable_if false false true is = refl
writable_if false false false is = absurd (cc)

pub resize_writable : {S F : Type 0} (image : Qcow2 S F) → refuses_to_resize image ≡ None → IsTrue (is_writable image)
resize_writable image is = writable_if (is_failed image) (lacks_data_file image) (is_writable image) is

module _ {S F : Type 0} (view : S → StorageView) (backing : F → BackingView) (old : Qcow2 S F) (size : ℕ) where
  -- what is refused gives and asks nothing
  refused_unasked : (e : ImageError) → (refusal_of e ≡ storage → ⊥) → Shrinks view backing old old size (Err e)
  refused_unasked e none out =
      let v = abstract_of view backing old out in
      let r = refuses_early v (refusal_of e) none in
      let gs = all_given_by_shrink view backing out.place old size in
      record {
        acts = record { number = r.acts.number; works = λ sound. works_asking v v gs (size ∷ []) (works_less v v [] gs [] (λ o x never. absurd never) (λ g u. tt) (r.acts.works sound)); rests = r.acts.rests };
        answer = r.answer;
        fault = r.fault;
      }

  pub shrinks_early : (e : ImageError) → refuses_to_resize old ≡ Some e → Shrinks view backing old old size (Err e)
  shrinks_early e is = refused_unasked e (none_fails (is_failed old) (lacks_data_file old) (not (is_writable old)) e is)

  pub shrinks_prepared : Shrinks view backing old old size (Err I.MappingPrepared)
  shrinks_prepared = refused_unasked I.MappingPrepared (λ is. absurd cc)

  -- it isn't smaller
  pub shrinks_nothing : is_failed old ≡ false → size_of old ≤ size → Shrinks view backing old old size (Ok (size_of old))
  shrinks_nothing usable le out =
      let v = abstract_of view backing old out in
      let gs = all_given_by_shrunk view backing out.place old size (size_of old) in
      record {
        acts = record {
          number = refl;
          works = λ sound. works_asking v v gs (size ∷ []) (works_less v v [] gs [] (λ o x never. absurd never) (λ g u. tt) (works_none v sound));
          rests = λ failed. absurd (let no : true ≡ false = sym failed ∙ usable in cc);
        };
        answer = λ sound. let s = disk_size view backing old out sound in
            (sound, (disk_of view backing out.place old, record { no_smaller = λ _. (s, refl); smaller = λ lt. absurd (omega (arith, lt, s, le)) }, refl));
      }

  -- ---- why it is refused later
  pub met_prepared : (pins : (t : ℕ) × (0 < l2_pins old.file.caches t)) → MayFailShrinking view backing old old I.MappingPrepared
  met_prepared pins = record { cause = inr refl; same = λ _. refl; prepared = λ _ out sound. some_prepared view backing old out sound pins.0 pins.1 }

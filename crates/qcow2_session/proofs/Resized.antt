-- A resize is one step of a run.
use Rattle.std.proofs.Common.{◌≡◌, ◌⊎◌, ◌∷◌, ◌-◌, ◌<◌, ◌≤◌, ◌==◌, [], inl, inr, refl, sym, ap, subst, ℕ, cond, Bool, true, false, List, Option, Some, None, arith, Result, Ok, Err, not}
use Rattle.qcow2_session.proofs.Common.{IfSome, option_or, cases_lt, cases_eq, cond-true, cond-false, eq-eqb, ne_eqb, pow_pos, BackingView, StorageView, EachMomentSince, byte_at, HeaderFields, Value, header, cluster_size, rounded_up, AbstractImage, Setting, guest_of, IsRefusalByFault, IsShrinkEnd, IsShrunk, given_by_shrink, given_by_shrunk, Disk, State, RefinesState, RefinesCommand, done, grow, number_is, refused, shrink, IsGiven, done_as, gave_less, refused_as, ImageError, known_in, refusal_of, Qcow2, Prepared, lacks_data_file, is_failed, is_writable, size_of, ImageInvariant, abstract_of, pending_in, refuse_if, GrowsTo, Shrinks, WritesSizeLast, refuses_to_resize, header_is, disk_size, TouchesLess, touches_less, Mappings}
use Rattle.image_access.specs.declared.storage.PreallocateMode.{PreallocateMode}
use Rattle.qcow2_disk.specs.GrownCovers.{GrownCovers, IsRightlyGrown}
use Rattle.qcow2_alloc.specs.declared.error.ImageError.TheVariants as I
use Rattle.qcow2_image.proofs.Clear.Touched.{rounded_from}
use Rattle.qcow2_image.proofs.Resize.TailSteps.{given_as, given_is}
use Rattle.qcow2_session.proofs.Answering.{error_is, first_of_all, not_both}

-- ---- what a successful shrink unmapped is a part of what it might unmap

ends_within : (cluster_size old size answer : ℕ) → size < old → IsShrinkEnd cluster_size old size answer → answer ≤ old
ends_within cluster_size old size answer smaller (inl last) = omega (arith, last)
ends_within cluster_size old size answer smaller (inr (inl none)) = omega (arith, none, smaller)
ends_within cluster_size old size answer smaller (inr (inr between)) = let lt = between.2 in omega (arith, lt)

module _ (x : Setting) (d d' : Disk) (size answer : ℕ) (some : 0 < x.cluster_size) (is_shrunk : IsShrunk x d size answer d') where
  answers_within : answer ≤ d.size
  answers_within = elim (cases_lt size d.size) [
    | inl lt ↦ ends_within x.cluster_size d.size size answer lt (is_shrunk.smaller lt).0
    | inr le ↦ let is = (is_shrunk.no_smaller le).0 in omega (arith, is)
  ]

  abbrev up : ℕ → ℕ
  up = rounded_up x.cluster_size

  uncovered_within : cond (answer == d.size) (up answer) answer ≤ up d.size
  uncovered_within = elim (cases_eq answer d.size) [
    | inl last ↦ let is = cond-true (answer == d.size) (up answer) answer (eq-eqb answer d.size last) in let same = ap up last in omega (arith, is, same)
    | inr other ↦
        let is = cond-false (answer == d.size) (up answer) answer (ne_eqb answer d.size other) in
        let most = answers_within in
        let from = rounded_from x.cluster_size d.size some in
        omega (arith, is, most, from)
  ]

  gives_within : (o : ℕ) (w : Value) → IsGiven (given_by_shrunk x d size answer ∷ []) o w → IsGiven (given_by_shrink x d size ∷ []) o w
  gives_within o w bytes_given =
      let is = given_is x d (up size) (cond (answer == d.size) (up answer) answer - up size) o w bytes_given in
      let from = is.0 in
      let below = is.1 in
      let most = uncovered_within in
      given_as x d (up size) (up d.size - up size) o w from (omega (arith, from, below, most)) is.2

  touches_within : TouchesLess x.cluster_size (given_by_shrunk x d size answer ∷ []) (given_by_shrink x d size ∷ [])
  touches_within = let most = uncovered_within in touches_less x.cluster_size _ _ _ _ (omega arith) (λ some. omega (arith, some, most))

-- ---- what is refused before any work is no fault

-- a refusal of a call that answers an A
abbrev refusal : (A : Type 0) → ImageError → Result A ImageError
refusal A e = Err e

not_early : (A Same : Type 0) (a b c : Bool) (e : ImageError) → IfSome (option_or (option_or (refuse_if a I.Failed) (refuse_if b I.Dependency)) (refuse_if c I.ReadOnly)) (λ f. (refusal A e ≡ Err f) × Same) → IsRefusalByFault (refusal_of e)
    → option_or (option_or (refuse_if a I.Failed) (refuse_if b I.Dependency)) (refuse_if c I.ReadOnly) ≡ None
not_early A Same true b c e early fault = absurd (subst IsRefusalByFault (error_is early) fault)
not_early A Same false true c e early fault = absurd (subst IsRefusalByFault (error_is early) fault)
not_early A Same false false true e early fault = absurd (subst IsRefusalByFault (error_is early) fault)
not_early A Same false false false e early fault = refl

-- where it is answered nothing refused it
pub none_early : {A : Type 0} (Same : Type 0) (a : A) (o : Option ImageError) → IfSome o (λ f. (Ok a ≡ Err f) × Same) → o ≡ None
none_early Same a None early = refl
none_early Same a (Some f) early = absurd (not_both early)

module _ {S F : Type 0} (view : S → StorageView) (backing : F → BackingView) (old new : Qcow2 S F) (size : ℕ) where
  -- what is refused before any work, and that the size is written last
  abbrev IsEarly : {A : Type 0} → Result A ImageError → Type 0
  IsEarly r = IfSome (refuses_to_resize old) (λ e. (r ≡ Err e) × (new ≡ old))

  abbrev IsLast : Type 0
  IsLast = (out : Mappings) → (abstract_of view backing old out).is_sound → WritesSizeLast view backing old new

  -- the mappings of guest clusters if a growth succeeds
  abbrev IsFilledBehind : PreallocateMode → Type 0
  IsFilledBehind mode = GrownCovers mode (size_of old) size old.file.header.fields (known_in view old.file) new.file.header.fields (known_in view new.file)

  -- a call that has nothing to do has no fault
  has_work : {A : Type 0} (e : ImageError) (answer : A) → IsEarly {A = A} (Err e) → IsRefusalByFault (refusal_of e) → (refuses_to_resize old ≡ None → (refusal A e ≡ Ok answer) × (new ≡ old)) → ⊥
  has_work {A = A} e answer early fault nothing =
      let no : refusal A e ≡ Ok answer = (nothing (not_early A (new ≡ old) (is_failed old) (lacks_data_file old) (not (is_writable old)) e early fault)).0 in
      cc

  module _ (out : Mappings) where
    abbrev before : AbstractImage
    before = abstract_of view backing old out

    abbrev after : AbstractImage
    after = abstract_of view backing new out

    written_last : IsLast → before.is_sound → EachMomentSince before.storage after.storage (λ c. ((header (byte_at c)).size ≡ (guest_of before).disk.size) ⊎ (c ≡ after.storage.contents))
    written_last last sound =
        subst (λ n. EachMomentSince before.storage after.storage (λ c. ((header (byte_at c)).size ≡ n) ⊎ (c ≡ after.storage.contents))) (disk_size view backing old out sound) (last out sound)

    -- the same of the headers that the known bytes hold
    rightly_grown : (mode : PreallocateMode) → ImageInvariant view backing (pending_in view backing old out) old out → ImageInvariant view backing (pending_in view backing new out) new out → (size_of old < size → IsFilledBehind mode)
        → IsRightlyGrown mode size (known_in view old.file) (known_in view new.file)
    rightly_grown mode sound sound' covers =
        subst (λ (h : HeaderFields). h.size < size → GrownCovers mode h.size size h (known_in view old.file) (header (known_in view new.file)) (known_in view new.file)) (sym (header_is view backing old out sound))
        (subst (λ (h : HeaderFields). size_of old < size → GrownCovers mode (size_of old) size old.file.header.fields (known_in view old.file) h (known_in view new.file)) (sym (header_is view backing new out sound')) covers)

    module _ (x : Setting) (s : State) (stands : RefinesState x before s) (last : IsLast) where
      pub grow_done : (mode : PreallocateMode) → IsEarly {A = Unit {0}} (Ok tt) → (before.is_sound → size_of old < size → IsFilledBehind mode) → GrowsTo view backing old new size mode (Ok tt) → RefinesCommand x before after s (grow size mode) done
      grow_done mode early covers sees =
          done_as x before after s _ _ _ refl stands (record { sized = written_last last; failed = λ f. absurd (not_both (first_of_all old _ _ early f)); may = λ _. tt }) (sees out) (λ f. f) (λ _ _. refl)
          (λ sound. rightly_grown mode sound ((sees out).answer sound).0 (covers sound))

      pub grow_refused : (mode : PreallocateMode) (e : ImageError) → IsEarly {A = Unit {0}} (Err e) → (refuses_to_resize old ≡ None → size ≤ size_of old → (refusal (Unit {0}) e ≡ Ok tt) × (new ≡ old)) → GrowsTo view backing old new size mode (Err e)
          → RefinesCommand x before after s (grow size mode) (refused (refusal_of e))
      grow_refused mode e early nothing sees =
          refused_as x before after s _ _ _ _ refl stands
          (record {
            sized = written_last last;
            failed = λ f. error_is (first_of_all old _ _ early f);
            may = λ sound fault. elim (cases_lt (size_of old) size) [
              | inl larger ↦ subst (λ n. n < size) (disk_size view backing old out sound) larger
              | inr le ↦ absurd (has_work e tt early fault (λ none. nothing none le))
            ];
          })
          (sees out) (λ f. f) (λ f. f) (λ _ _. refl) tt

      pub shrink_done : (answer : ℕ) → IsEarly (Ok answer) → Shrinks view backing old new size (Ok answer) → RefinesCommand x before after s (shrink size) (number_is answer)
      shrink_done answer early sees =
          gave_less x before after s _ _ _ (λ y g. given_by_shrunk y g.disk size answer ∷ []) refl stands
          (record { sized = written_last last; failed = λ f. absurd (not_both (first_of_all old _ _ early f)); may = λ _. tt })
          (sees out)
          (λ sound. let is = ((sees out).answer sound).1 in gives_within before.setting (guest_of before).disk is.0 size answer (pow_pos old.file.header.fields.cluster_bits) is.1)
          (λ sound. let is = ((sees out).answer sound).1 in touches_within before.setting (guest_of before).disk is.0 size answer (pow_pos old.file.header.fields.cluster_bits) is.1)
          (λ f. f) (λ _ _. refl) tt

      pub shrink_refused : (e : ImageError) → IsEarly {A = ℕ} (Err e) → (refuses_to_resize old ≡ None → size_of old ≤ size → (refusal ℕ e ≡ Ok (size_of old)) × (new ≡ old)) → Shrinks view backing old new size (Err e)
          → RefinesCommand x before after s (shrink size) (refused (refusal_of e))
      shrink_refused e early nothing sees =
          refused_as x before after s _ _ _ _ refl stands
          (record {
            sized = written_last last;
            failed = λ f. error_is (first_of_all old _ _ early f);
            may = λ sound fault. elim (cases_lt size (size_of old)) [
              | inl smaller ↦ subst (λ n. size < n) (disk_size view backing old out sound) smaller
              | inr le ↦ absurd (has_work e (size_of old) early fault (λ none. nothing none le))
            ];
          })
          (sees out) (λ f. f) (λ f. f) (λ _ _. refl) tt

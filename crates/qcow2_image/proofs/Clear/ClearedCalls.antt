-- The contract of calls that clear a range: if one is refused at once, if no cluster is whole, and how one begins that clears some.
use Rattle.std.proofs.Common.{◌≡◌, ◌*◌, ◌<◌, ◌≤◌, ◌&&◌, ◌∙◌, inl, inr, ℕ, Bool, true, false, List, Option, Some, None, Result, Ok, Err, refl, sym, ap, subst, arith, IsErr, IsErrAnd, IsTrue, nat_le, nat_lt}
use Rattle.qcow2_image.proofs.Common.{IfSome, MatchOption, not, option_or, and_left, and_right, cases_lt, cond-false, le-ltb, lt-leb, BackingView, StorageView, Pending, Bytes, cover, cluster_size, HeaderFields, handed_on, known_in, ImageError, InternalCall, ClearsImageCovers, ClearsOrRefuses, ClearsPart, IsClearable, cover_once_cleared, from_in, is_between, needs_zero_entries, refuses_to_clear, rounds_past, to_in, ClearsSoundly, ClearsStep, FailsToClear, CountsImageFaults, IsNotOfStorage, SameFaults, IsSameImage, has_noted_change, lacks_data_file, is_failed, is_writable, size_of, ImageInvariant, pending_in, failed_after, passes, refuse_if, InternalStep, ClearMode, Qcow2, Prepared, Mappings}
use Rattle.qcow2_alloc.specs.declared.error.ImageError.TheVariants as I
use Rattle.qcow2_image.proofs.Lemmas.{behind_none, Quietly, counted_ok, fewer_of, untouched, fails_none, part_none, begins, clear_works, clears_early, clears_nothing, if_some, not_refused, refused_for, ungiven_early, whole_in, none_answered}

-- the same image after two parts of a call
pub same_image_then : {S F : Type 0} {old mid new : Qcow2 S F} → IsSameImage old mid → IsSameImage mid new → IsSameImage old new
same_image_then first second = record { number = second.number ∙ first.number; size = second.size ∙ first.size; writable = second.writable ∙ first.writable; lacks = second.lacks ∙ first.lacks; beside = second.beside ∙ first.beside }

none_early : {A : Type 0} (o : Option A) (P : A → Type 0) → o ≡ None → IfSome o P
none_early None P is = tt
none_early (Some a) P is = absurd cc

-- what is refused at once marks no image
early_marks : (a b c d e f : Bool) (x : ImageError)
    → option_or (option_or (refuse_if a I.Failed) (refuse_if b I.Dependency)) (option_or (refuse_if c I.ReadOnly) (option_or (refuse_if d I.BeyondSize) (option_or (refuse_if e I.Version) (refuse_if f I.Overflow)))) ≡ Some x
    → (before recorded : Bool) → failed_after x before recorded before
early_marks true b c d e f x is before recorded = let same : I.Failed ≡ x = cc in subst (λ (y : ImageError). failed_after y before recorded before) same refl
early_marks false true c d e f x is before recorded = let same : I.Dependency ≡ x = cc in subst (λ (y : ImageError). failed_after y before recorded before) same refl
early_marks false false true d e f x is before recorded = let same : I.ReadOnly ≡ x = cc in subst (λ (y : ImageError). failed_after y before recorded before) same refl
early_marks false false false true e f x is before recorded = let same : I.BeyondSize ≡ x = cc in subst (λ (y : ImageError). failed_after y before recorded before) same refl
early_marks false false false false true f x is before recorded = let same : I.Version ≡ x = cc in subst (λ (y : ImageError). failed_after y before recorded before) same refl
early_marks false false false false false true x is before recorded = let same : I.Overflow ≡ x = cc in subst (λ (y : ImageError). failed_after y before recorded before) same refl
early_marks false false false false false false x is before recorded = absurd cc

-- no guest cluster lies in a range that is empty
none_between : (h : HeaderFields) (from to g : ℕ) → to ≤ from → is_between h from to g ≡ false
none_between h from to g least = elim (cases_lt (g * cluster_size h) from) [
  | inl before ↦ and_left (nat_le from (g * cluster_size h)) (nat_lt (g * cluster_size h) to) (lt-leb from (g * cluster_size h) before)
  | inr low ↦ and_right (nat_le from (g * cluster_size h)) (nat_lt (g * cluster_size h) to) (le-ltb (g * cluster_size h) to (omega (arith, low, least)))
]

covers_none : (how : ClearMode) (from to : ℕ) (h : HeaderFields) (known : Bytes) → to ≤ from → ClearsImageCovers how from to h known h known
covers_none how from to h known least g = sym (cond-false (is_between h from to g) (cover_once_cleared how (cover h known g)) (cover h known g) (none_between h from to g least))

-- a refusal of a call that counted no fault
pub counted_other : {T S F : Type 0} (view : S → StorageView) (backing : F → BackingView) (old new : Qcow2 S F) (e : ImageError) → IsNotOfStorage e → SameFaults view backing old new → CountsImageFaults view backing {T = T} old new (Err e)
counted_other view backing old new e other same = record { no_fewer = fewer_of view backing old new same; rose = λ is. absurd (other is); told = λ _. same }

module _ {S F : Type 0} (view : S → StorageView) (backing : F → BackingView) (old : Qcow2 S F) (how : ClearMode) (offset n : ℕ) (checked : Result (ℕ × ℕ) ImageError)
    (check : MatchOption (refuses_to_clear old offset n how) (checked ≡ Ok (from_in old offset n, to_in old offset n)) (λ e. checked ≡ Err e)) where
  -- ---- it is refused at once
  module _ (e : ImageError) (was : checked ≡ Err e) where
    refused_so : refuses_to_clear old offset n how ≡ Some e
    refused_so = refused_for checked (from_in old offset n, to_in old offset n) (refuses_to_clear old offset n how) e check was

    not_none : {B : Type 0} → refuses_to_clear old offset n how ≡ None → B
    not_none none = absurd (let no : None ≡ Some e = sym none ∙ refused_so in cc)

    step_refused : IsNotOfStorage e → ClearsStep view backing old old (Err e)
    step_refused other =
        record {
          image = record { number = refl; size = refl; writable = refl; lacks = refl; beside = refl };
          marks = early_marks (is_failed old) (lacks_data_file old) (not (is_writable old)) (passes (size_of old) offset n) (needs_zero_entries how && nat_lt old.file.header.fields.version 3)
              (rounds_past (cluster_size old.file.header.fields) (size_of old) offset n) e refused_so (is_failed old) (has_noted_change old);
          since = part_none view old;
          once_written = fails_none view old (Err e);
          header_cluster = behind_none;
          faults = counted_other view backing old old e other (untouched view backing old old refl refl refl);
        }

    fails_refused : FailsToClear view backing how old old offset n (Err e)
    fails_refused = record {
      early = if_some {B = ℕ × ℕ} old (refuses_to_clear old offset n how) e (Err e) refused_so refl;
      late = λ none. not_none none;
      refused = record { ungiven = ungiven_early view backing old e; lacks = λ none out sound unprepared. not_none none; may_fail = λ none out sound. not_none none };
      pinned = λ some none own. not_none none;
      under = λ none some out sound. not_none none;
      freed = λ none some out sound. not_none none;
      limit = λ none some out sound. not_none none;
    }

    sound_refused : ClearsSoundly view backing how old old offset n (Err e)
    sound_refused = record {
      range = tt;
      nothing = λ none least. not_none none;
      sees = clears_early view backing old how offset n e refused_so;
      covers = λ out sound. tt;
      emptied = λ some. tt;
      changed = λ out sound some. tt;
    }

    module _ (r : Result (ℕ × ℕ) ImageError) (on : IsErr r × IsErrAnd r (λ x. x ≡ e)) where
      pub early_step : IsNotOfStorage e → ClearsStep view backing old old r
      early_step other = handed_on (λ (q : Result (ℕ × ℕ) ImageError). ClearsStep view backing old old q) r e on (step_refused other)

      pub early_fails : FailsToClear view backing how old old offset n r
      early_fails = handed_on (λ (q : Result (ℕ × ℕ) ImageError). FailsToClear view backing how old old offset n q) r e on fails_refused

      pub early_sound : ClearsSoundly view backing how old old offset n r
      early_sound = handed_on (λ (q : Result (ℕ × ℕ) ImageError). ClearsSoundly view backing how old old offset n q) r e on sound_refused

  module _ (first last : ℕ) (was : checked ≡ Ok (first, last)) where
    allowed : (refuses_to_clear old offset n how ≡ None) × (◌≡◌ {A = ℕ × ℕ} (first, last) (from_in old offset n, to_in old offset n))
    allowed = not_refused checked (from_in old offset n, to_in old offset n) (refuses_to_clear old offset n how) (first, last) check was

    first_so : first ≡ from_in old offset n
    first_so = ap (λ (r : ℕ × ℕ). r.0) allowed.1

    -- what isn't refused at once
    pub not_early : (new : Qcow2 S F) (r : Result (ℕ × ℕ) ImageError) → IfSome (refuses_to_clear old offset n how) (λ e. (r ≡ Err e) × (new ≡ old))
    not_early new r = none_early (refuses_to_clear old offset n how) (λ e. (r ≡ Err e) × (new ≡ old)) allowed.0

    -- ---- no cluster is whole
    module _ (least : last ≤ first) where
      empty : to_in old offset n ≤ from_in old offset n
      empty = let from = first_so in let to = ap (λ (r : ℕ × ℕ). r.1) allowed.1 in omega (arith, from, to, least)

      touches_none : {B : Type 0} → from_in old offset n < to_in old offset n → B
      touches_none some = let none = empty in absurd (omega (arith, some, none))

      pub idle_step : ClearsStep view backing old old (Ok (first, 0))
      idle_step = record {
        image = record { number = refl; size = refl; writable = refl; lacks = refl; beside = refl };
        marks = refl;
        since = part_none view old;
        once_written = fails_none view old (Ok (first, 0));
        header_cluster = behind_none;
        faults = counted_ok view backing old old (first, 0) (untouched view backing old old refl refl refl);
      }

      pub idle_fails : FailsToClear view backing how old old offset n (Ok (first, 0))
      idle_fails = record {
        early = not_early old (Ok (first, 0));
        late = λ _. tt;
        refused = tt;
        pinned = λ some _ own. touches_none some;
        under = λ _ some out sound. touches_none some;
        freed = λ _ some out sound. tt;
        limit = λ _ some out sound. tt;
      }

      sound_idle : ClearsSoundly view backing how old old offset n (Ok (from_in old offset n, 0))
      sound_idle = record {
        range = none_answered (from_in old offset n) (to_in old offset n) offset n (from_in old offset n) refl empty;
        nothing = λ _ _. (refl, refl);
        sees = clears_nothing view backing old how offset n (clear_works old offset n how allowed.0) empty;
        covers = λ out sound. covers_none how (from_in old offset n) (to_in old offset n) old.file.header.fields (known_in view old.file) empty;
        emptied = λ some. touches_none some;
        changed = λ out sound some. touches_none some;
      }

      pub idle_sound : ClearsSoundly view backing how old old offset n (Ok (first, 0))
      idle_sound = subst (λ k. ClearsSoundly view backing how old old offset n (Ok (k, 0))) (sym first_so) sound_idle

-- a call begins that clears the clusters between two offsets
pub record BeginsClearing {S F : Type 0} (view : S → StorageView) (backing : F → BackingView) (old : Qcow2 S F) (how : ClearMode) (offset n : ℕ) (begun : Qcow2 S F) (first last : ℕ) : Type 0 where
  pub first_is : first ≡ from_in old offset n
  pub last_is : last ≡ to_in old offset n
  pub works : is_failed old ≡ false
  pub quiet : (out : Mappings) → ImageInvariant view backing (pending_in view backing old out) old out → Quietly view backing out old begun
  pub seen : (out : Mappings) → ImageInvariant view backing (pending_in view backing old out) old out → InternalCall view backing old begun out
  pub whole : (out : Mappings) → InternalCall view backing old begun out → IsClearable begun.file.header.fields how first last

module _ {S F : Type 0} (view : S → StorageView) (backing : F → BackingView) (old : Qcow2 S F) (how : ClearMode) (offset n : ℕ) (checked : Result (ℕ × ℕ) ImageError)
    (check : MatchOption (refuses_to_clear old offset n how) (checked ≡ Ok (from_in old offset n, to_in old offset n)) (λ e. checked ≡ Err e)) (first last : ℕ) (was : checked ≡ Ok (first, last)) (begun : Qcow2 S F) where
  pub begins_clearing : ((p : Pending) (out : Mappings) → ImageInvariant view backing p old out → InternalStep view backing p p old begun out) → begun.file.free_list ≡ old.file.free_list
      → (IsTrue (needs_zero_entries how) → 3 ≤ old.file.header.fields.version) → BeginsClearing view backing old how offset n begun first last
  begins_clearing keeps list version =
      let range = not_refused checked (from_in old offset n, to_in old offset n) (refuses_to_clear old offset n how) (first, last) check was in
      let from : first ≡ from_in old offset n = ap (λ (r : ℕ × ℕ). r.0) range.1 in
      let to : last ≡ to_in old offset n = ap (λ (r : ℕ × ℕ). r.1) range.1 in
      let usable = clear_works old offset n how range.0 in
      let still : (out : Mappings) → ImageInvariant view backing (pending_in view backing old out) old out → Quietly view backing out old begun = λ out sound. record { keeps = keeps (pending_in view backing old out) out sound; list = list } in
      record {
        first_is = from;
        last_is = to;
        works = usable;
        quiet = still;
        seen = begins view backing old how offset n usable begun begun still;
        whole = λ out call.
            subst (λ k. IsClearable begun.file.header.fields how k last) (sym from) (subst (λ k. IsClearable begun.file.header.fields how (from_in old offset n) k) (sym to)
            (whole_in view backing old how offset n usable begun begun still out call version));
      }

-- it cleared them
pub parts_cleared : {S F : Type 0} (view : S → StorageView) (backing : F → BackingView) (old : Qcow2 S F) (how : ClearMode) (offset n : ℕ) (begun : Qcow2 S F) (first last : ℕ) → BeginsClearing view backing old how offset n begun first last
    → (entries : Qcow2 S F) (r : Result (Unit {0}) ImageError) (x : Unit {0}) → r ≡ Ok x
    → ((out : Mappings) → ImageInvariant view backing (pending_in view backing begun out) begun out → IsClearable begun.file.header.fields how first last → ClearsOrRefuses view backing how first last begun entries out r)
    → (out : Mappings) → InternalCall view backing old begun out → ClearsPart view backing how (from_in old offset n) (to_in old offset n) begun entries out
parts_cleared view backing old how offset n begun first last b entries r x done clears out call =
    subst (λ k. ClearsPart view backing how k (to_in old offset n) begun entries out) b.first_is (subst (λ k. ClearsPart view backing how first k begun entries out) b.last_is
    (subst (ClearsOrRefuses view backing how first last begun entries out) done (clears out call.sound (b.whole out call))))

-- Why a command was refused, one call at a time.
use Rattle.qcow2_alloc.specs.declared.error.ImageError.TheVariants as I
use Rattle.qcow2_session.specs.declared.session.Command.TheVariants as C
use Rattle.qcow2_session.specs.declared.session.Reply.TheVariants as R
use Rattle.std.proofs.Common.{◌≡◌, ◌⊎◌, ◌+◌, ◌<◌, ◌≤◌, ◌&&◌, ◌==◌, inl, inr, ℕ, Bool, true, false, not, IsTrue, List, Option, Some, None, Bor, refl, sym, ap, ◌∙◌, subst, arith, IfErr, Result, Ok, Err, is_some}
use Rattle.qcow2_session.proofs.Common.{Global, Vec, nat_lt, IfSome, IfOk, IsSome, MatchOption, slice_get, option_or, cases_lt, eq-eqb, lt-ltb, ltb-true, common_steps, BackingView, StorageView, Clearing, known_in, ImageError, IsUnderMapping, from_in, refuses_clearing, to_in, lacks_data_file, is_failed, number_of, abstract_of, MayFailAlone, MayFailReadingRange, MayFailAllocating, Qcow2, Mapping, CommitRefused, Kept, Prepared, IsHandedBackBy, MayFailToRead, MayFailPreparing, passes, refuse_if, refuses_mapping, refuses_to_read, unusable, HasNothingToDo, MayFailOnSound, MayFailReadingFrom, RefusalJustified, IsUntouchedUnder, MayFailWith, ReportsMisuse, first_cause, ClearingMayFail, CommandMayFailAllocating, reply_of_clearing, refusal_in, IsOfReading, Command, Reply, and_parts, Mappings}
use Rattle.qcow2_alloc.proofs.CachedEntries.Lists.{option_or-none}

-- ---- what was refused at once

pub if_some_to : {E : Type 0} {P Q : E → Type 0} (o : Option E) → ((e : E) → P e → Q e) → IfSome o P → IfSome o Q
if_some_to None to is = tt
if_some_to (Some e) to is = to e is

if_some_all : {E : Type 0} {P : E → Type 0} (o : Option E) → ((e : E) → P e) → IfSome o P
if_some_all None to = tt
if_some_all (Some e) to = to e

pub same_error : {A E : Type 0} {e f : E} → (◌≡◌ {A = Result A E} (Err e) (Err f)) → e ≡ f
same_error is = cc

pub some_error : {E : Type 0} {e f : E} → Some e ≡ Some f → e ≡ f
some_error is = cc

-- a failed image is refused first
pub where_failed : (P : ImageError → Type 0) (b : Bool) → (IsTrue b → P I.Failed) → IfSome (refuse_if b I.Failed) P
where_failed P true first = first refl
where_failed P false first = tt

pub not_failed : (b : Bool) → refuse_if b I.Failed ≡ None → b ≡ false
not_failed true none = absurd (let no : Some I.Failed ≡ None = none in cc)
not_failed false none = refl

-- what a lookup is refused for, a read may be
pub mapping_reading : {S F : Type 0} (A X : Type 0) (image : Qcow2 S F) (e : ImageError) → IfSome (unusable image) (λ x. (◌≡◌ {A = Result A ImageError} (Err e) (Err x)) × X) → (unusable image ≡ None → MayFailToRead e) → IsOfReading e
mapping_reading A X image e early late = by (is_failed image) (lacks_data_file image) early late
  where
    by : (a b : Bool) → IfSome (option_or (refuse_if a I.Failed) (refuse_if b I.Dependency)) (λ x. (◌≡◌ {A = Result A ImageError} (Err e) (Err x)) × X) → (option_or (refuse_if a I.Failed) (refuse_if b I.Dependency) ≡ None → MayFailToRead e) → IsOfReading e
    by true b early late = inr (inr (inl (same_error early.0)))
    by false true early late = inr (inr (inr (same_error early.0)))
    by false false early late = inl (late refl)

-- ---- what a reply is made of

module _ {S F : Type 0} (view : S → StorageView) (backing : F → BackingView) (old new : Qcow2 S F) (before : Mappings) {found : ℕ → Option Mapping} (command : Command) where
  -- nothing was called
  pub is_misused : ReportsMisuse before.slots found command R.Misuse → new ≡ old → MayFailOnSound view backing old new before found command R.Misuse → RefusalJustified view backing old new before found command R.Misuse
  is_misused misuse same respects = record {
    misuse = misuse;
    still = λ _. same;
    early = if_some_all (first_cause old command) (λ e. (inr refl, same));
    late = λ _. tt;
    may_fail = λ _ _. tt;
    idle = λ _ _. refl;
    respects = λ _ _. respects;
  }

  -- it was answered, so nothing refused it at once
  pub is_done : (reply : Reply) → (reply ≡ R.Misuse → ⊥) → ReportsMisuse before.slots found command reply → refusal_in reply ≡ None → IfSome (first_cause old command) (λ e. ⊥)
      → (first_cause old command ≡ None → (abstract_of view backing old before).is_sound → MayFailOnSound view backing old new before found command reply) → RefusalJustified view backing old new before found command reply
  is_done reply never misuse done early respects = record {
    misuse = misuse;
    still = λ is. absurd (never is);
    early = if_some_to (first_cause old command) (λ e no. absurd no) early;
    late = λ _. subst (λ o. IfSome o (MayFailWith old new before.slots found command)) (sym done) tt;
    may_fail = λ _ _. subst (λ o. IfSome o (CommandMayFailAllocating view old new before command)) (sym done) tt;
    idle = λ _ _. done;
    respects = respects;
  }

  pub is_answered : {A : Type 0} (Same : Type 0) (a : A) (reply : Reply) → (reply ≡ R.Misuse → ⊥) → ReportsMisuse before.slots found command reply → refusal_in reply ≡ None → IfSome (first_cause old command) (λ e. (◌≡◌ {A = Result A ImageError} (Ok a) (Err e)) × Same)
      → (first_cause old command ≡ None → (abstract_of view backing old before).is_sound → MayFailOnSound view backing old new before found command reply) → RefusalJustified view backing old new before found command reply
  is_answered Same a reply never misuse done early respects = is_done reply never misuse done (if_some_to (first_cause old command) (λ e no. let is = no.0 in cc) early) respects

  -- it was refused
  pub is_refused : (e : ImageError) (reply : Reply) → (reply ≡ R.Misuse → ⊥) → ReportsMisuse before.slots found command reply → refusal_in reply ≡ Some e → IfSome (first_cause old command) (λ x. (e ≡ x) × (new ≡ old))
      → (first_cause old command ≡ None → MayFailWith old new before.slots found command e) → (first_cause old command ≡ None → (abstract_of view backing old before).is_sound → CommandMayFailAllocating view old new before command e)
      → (first_cause old command ≡ None → HasNothingToDo view backing old new before command → ⊥)
      → (first_cause old command ≡ None → (abstract_of view backing old before).is_sound → MayFailOnSound view backing old new before found command reply) → RefusalJustified view backing old new before found command reply
  is_refused e reply never misuse is early late may_fail idle respects = record {
    misuse = misuse;
    still = λ is. absurd (never is);
    early = if_some_to (first_cause old command) (λ x h. (inl (is ∙ ap Some h.0), h.1)) early;
    late = λ none. subst (λ o. IfSome o (MayFailWith old new before.slots found command)) (sym is) (late none);
    may_fail = λ none sound. subst (λ o. IfSome o (CommandMayFailAllocating view old new before command)) (sym is) (may_fail none sound);
    idle = λ none nothing. absurd (idle none nothing);
    respects = respects;
  }

-- the refusal that an image's call began with
pub begun_with : (A Same : Type 0) (e : ImageError) (o : Option ImageError) → IfSome o (λ x. (◌≡◌ {A = Result A ImageError} (Err e) (Err x)) × Same) → IfSome o (λ x. (e ≡ x) × Same)
begun_with A Same e o early = if_some_to o (λ x h. (same_error h.0, h.1)) early

-- a range of some bytes that doesn't pass the size begins below it
pub fits_below : (size offset n : ℕ) → passes size offset n ≡ false → 0 < n → offset < size
fits_below size offset n fits some = elim (cases_lt offset size) [
  | inl below ↦ below
  | inr past ↦ let passed : passes size offset n ≡ true = grind (arith, common_steps) in absurd (let no : true ≡ false = sym passed ∙ fits in cc)
]

-- ---- reads and writes

-- a refusal while no mapping is prepared is 20 only for its cause
far_alone : {C D : Type 0} (e : ImageError) → MayFailAlone C D e → e ≡ I.Overflow → D
far_alone e (inl (inl (inl fault))) is = absurd cc
far_alone e (inl (inl (inr fault))) is = absurd cc
far_alone e (inl (inr limit)) is = absurd cc
far_alone e (inr (inl compressed)) is = absurd (let why = compressed.0 in cc)
far_alone e (inr (inr far)) is = far.1

-- the same of refusals that come while clusters are allocated
pub far_taking : {H K C D : Type 0} (e : ImageError) → MayFailAllocating H K C D e → e ≡ I.Overflow → D
far_taking e (inl alone) is = far_alone e alone is
far_taking e (inr (inl used)) is = absurd (let why = used.0 in cc)
far_taking e (inr (inr kept)) is = absurd (let why = kept.0 in cc)

module _ {S F : Type 0} (view : S → StorageView) (backing : F → BackingView) (old new : Qcow2 S F) (before : Mappings) {found : ℕ → Option Mapping} where
  pub read_answered : (Same : Type 0) (offset n : ℕ) (bytes : Vec ℕ Global) → IfSome (refuses_to_read old offset n) (λ x. (◌≡◌ {A = Result (Vec ℕ Global) ImageError} (Ok bytes) (Err x)) × Same) → RefusalJustified view backing old new before found (C.Read offset n) (R.Bytes bytes)
  read_answered Same offset n bytes early = is_answered view backing old new before (C.Read offset n) Same bytes (R.Bytes bytes) (λ is. absurd cc) (λ is. absurd cc, λ is. absurd is) refl early (λ _ _. tt)

  pub read_refused : (offset n : ℕ) (e : ImageError) → IfSome (refuses_to_read old offset n) (λ x. (◌≡◌ {A = Result (Vec ℕ Global) ImageError} (Err e) (Err x)) × (new ≡ old)) → (refuses_to_read old offset n ≡ None → MayFailReadingFrom new offset (offset + n) e × (0 < n))
      → (refuses_to_read old offset n ≡ None → (out : Mappings) → (abstract_of view backing old out).is_sound → MayFailReadingRange out offset (offset + n) old.file.header.fields (known_in view old.file) e)
      → RefusalJustified view backing old new before found (C.Read offset n) (R.Refused e)
  read_refused offset n e early late may_fail =
      is_refused view backing old new before (C.Read offset n) e (R.Refused e) (λ is. absurd cc) (λ is. absurd cc, λ is. absurd is) refl (begun_with (Vec ℕ Global) (new ≡ old) e (refuses_to_read old offset n) early)
      (λ none. (late none).0) (λ _ _. tt) (λ none empty. let some = (late none).1 in omega (arith, some, empty)) (λ none sound. may_fail none before sound)

  pub size_answered : (n : ℕ) → RefusalJustified view backing old new before found C.Size (R.Size n)
  size_answered n = is_done view backing old new before C.Size (R.Size n) (λ is. absurd cc) (λ is. absurd cc, λ is. absurd is) refl tt (λ _ _. tt)

  pub leaks_answered : (n : ℕ) → RefusalJustified view backing old new before found C.Leaked (R.Leaked n)
  leaks_answered n = is_done view backing old new before C.Leaked (R.Leaked n) (λ is. absurd cc) (λ is. absurd cc, λ is. absurd is) refl tt (λ _ _. tt)

-- ---- mappings of the image

own_is : {S F : Type 0} (image : Qcow2 S F) (number : ℕ) → number ≡ number_of image → not (number == number_of image) ≡ false
own_is image number own = ap not (eq-eqb number (number_of image) own)

pub own_mapping : {S F : Type 0} (image : Qcow2 S F) (number : ℕ) → number ≡ number_of image → refuses_mapping image number ≡ unusable image
own_mapping image number own = ap (λ b. option_or (unusable image) (refuse_if b I.ForeignState)) (own_is image number own) ∙ option_or-none (unusable image)

-- one cause more, after others
module _ (u : Option ImageError) (test : Bool) (cause : ImageError) where
  pub then_early : (P : ImageError → Type 0) → IfSome u P → (u ≡ None → test ≡ true → P cause) → IfSome (option_or u (refuse_if test cause)) P
  then_early P early here = behind u test early here
    where
      behind : (v : Option ImageError) (b : Bool) → IfSome v P → (v ≡ None → b ≡ true → P cause) → IfSome (option_or v (refuse_if b cause)) P
      behind (Some e) b early here = early
      behind None true early here = here refl refl
      behind None false early here = tt

  -- where none holds
  pub then_none : option_or u (refuse_if test cause) ≡ None → (u ≡ None) × (test ≡ false)
  then_none none = behind u test none
    where
      behind : (v : Option ImageError) (b : Bool) → option_or v (refuse_if b cause) ≡ None → (v ≡ None) × (b ≡ false)
      behind (Some e) b none = absurd (let no : Some e ≡ None = none in cc)
      behind None true none = absurd (let no : Some cause ≡ None = none in cc)
      behind None false none = (refl, refl)

and_isnt : (a b : Bool) → (a && b) ≡ false → a ≡ true → b ≡ true → ⊥
and_isnt true true isnt a b = let no : true ≡ false = isnt in cc
and_isnt true false isnt a b = let no : false ≡ true = b in cc
and_isnt false b isnt a is = let no : false ≡ true = a in cc

is_below : (a b : ℕ) → nat_lt a b ≡ true → a < b
is_below a b is = ltb-true a b is

-- bytes are put, and the image isn't to be written
pub put_reads : (n : ℕ) (writable : Bool) → (nat_lt 0 n && not writable) ≡ true → (0 < n) × (writable ≡ false)
put_reads n true is = absurd (let no : false ≡ true = (and_parts (nat_lt 0 n) false is).1 in cc)
put_reads n false is = (is_below 0 n (and_parts (nat_lt 0 n) true is).0, refl)

pub put_writes : (n : ℕ) (writable : Bool) → (nat_lt 0 n && not writable) ≡ false → 0 < n → IsTrue writable
put_writes n true isnt some = refl
put_writes n false isnt some = absurd (and_isnt (nat_lt 0 n) true isnt (lt-ltb 0 n some) refl)

-- a mode allocates clusters of a larger disk
pub takes_larger : (old size : ℕ) (takes : Bool) → (nat_lt old size && takes) ≡ true → (old < size) × IsTrue takes
takes_larger old size takes is = let both = and_parts (nat_lt old size) takes is in (is_below old size both.0, both.1)

pub takes_none : (old size : ℕ) (takes : Bool) → (nat_lt old size && takes) ≡ false → old < size → IsTrue takes → ⊥
takes_none old size takes isnt larger does = and_isnt (nat_lt old size) takes isnt (lt-ltb old size larger) does

-- a mapping in a slot is the one that is there
pub same_mapping : (out : List (Option Prepared)) (slot : ℕ) {p q : Prepared} → slice_get out slot ≡ Some (Some p) → slice_get out slot ≡ Some (Some q) → q ≡ p
same_mapping out slot at is = let both = sym is ∙ at in cc

pub not_free : (out : List (Option Prepared)) (slot : ℕ) {p : Prepared} → slice_get out slot ≡ Some (Some p) → slice_get out slot ≡ Some None → ⊥
not_free out slot at is = let both = sym is ∙ at in cc

-- a refused commit
pub kept_error : {A : Type 0} {e f : ImageError} {p q : Prepared} {r : CommitRefused} → r ≡ Kept e q → (◌≡◌ {A = Result A CommitRefused} (Err r) (Err (Kept f p))) → e ≡ f
kept_error {e = e} {f = f} {p = p} {q = q} {r = r} kept is = let same : Kept e q ≡ Kept f p = cc in cc

-- a mapping that is handed back is the one that was to be committed
pub kept_same : {e : ImageError} {q : Prepared} {r : CommitRefused} (p : Prepared) → r ≡ Kept e q → IsHandedBackBy p r → q ≡ p
kept_same p kept back = subst (λ (x : CommitRefused). IsHandedBackBy p x) kept back

-- what an image that works comes to alone
pub where_works : (X : Type 0) (b : Bool) → (IsTrue b → ⊥) → (b ≡ false → X) → X
where_works X true never works = absurd (never refl)
where_works X false never works = works refl

pub none_of : (o : Option ℕ) → (IsSome o → ⊥) → o ≡ None
none_of None never = refl
none_of (Some t) never = absurd (never refl)

-- a slot that is in use holds a mapping
pub holds : (out : List (Option Prepared)) (slot : ℕ) (r : Option (Bor Prepared)) → MatchOption r (slice_get out slot ≡ Some None) (λ p. slice_get out slot ≡ Some (Some p.now)) → is_some r ≡ true → (p : Prepared) × (slice_get out slot ≡ Some (Some p))
holds out slot None at is = absurd cc
holds out slot (Some p) at is = (p.now, at)

-- what refuses a larger disk, where its mode isn't what does
pub grow_meets : {X : Type 0} (e : ImageError) (old size : ℕ) (takes : Bool) → (nat_lt old size && takes) ≡ false → (size ≤ old → ⊥) → X ⊎ ((e ≡ I.Preallocation) × IsTrue takes) → X
grow_meets e old size takes none larger (inl may_fail) = may_fail
grow_meets e old size takes none larger (inr mode) = absurd (elim (cases_lt old size) [ inl lt ↦ takes_none old size takes none lt mode.1 | inr le ↦ larger le ])

-- ---- clearing a range

module _ {S F : Type 0} (view : S → StorageView) (backing : F → BackingView) (old new : Qcow2 S F) (before : Mappings) {found : ℕ → Option Mapping} (offset n : ℕ) (how : Clearing) (command : Command)
    (cause : first_cause old command ≡ refuses_clearing old offset n how) (nothing : HasNothingToDo view backing old new before command → to_in old offset n ≤ from_in old offset n)
    (may : (e : ImageError) → MayFailPreparing new e → MayFailWith old new before.slots found command e) (taking : (e : ImageError) → ClearingMayFail view old new before offset n e → CommandMayFailAllocating view old new before command e) (heed : (reply : Reply) → IsUntouchedUnder view backing old new before offset n reply → MayFailOnSound view backing old new before found command reply)
    (misuse : (reply : Reply) → (reply ≡ R.Misuse → ⊥) → ReportsMisuse before.slots found command reply) where
  clears_as : (r : Result (ℕ × ℕ) ImageError) → IfSome (refuses_clearing old offset n how) (λ e. (r ≡ Err e) × (new ≡ old)) → (refuses_clearing old offset n how ≡ None → IfErr r (MayFailPreparing new)) → (refuses_clearing old offset n how ≡ None → (abstract_of view backing old before).is_sound → IfErr r (ClearingMayFail view old new before offset n))
      → (refuses_clearing old offset n how ≡ None → to_in old offset n ≤ from_in old offset n → (r ≡ Ok (from_in old offset n, 0)) × (new ≡ old))
      → (refuses_clearing old offset n how ≡ None → from_in old offset n < to_in old offset n → (abstract_of view backing old before).is_sound → IfErr r (λ e. e ≡ I.TablePrepared → IsUnderMapping old.file.header.fields (from_in old offset n) before) × IfOk r (λ range. ¬ IsUnderMapping old.file.header.fields (from_in old offset n) before))
      → RefusalJustified view backing old new before found command (reply_of_clearing r)
  clears_as (Ok range) early late may_fail idle under =
      is_answered view backing old new before command (new ≡ old) range (R.Range range.0 range.1) (λ is. absurd cc) (misuse (R.Range range.0 range.1) (λ is. absurd cc)) refl (subst (λ o. IfSome o (λ e. (◌≡◌ {A = Result (ℕ × ℕ) ImageError} (Ok range) (Err e)) × (new ≡ old))) (sym cause) early)
      (λ none sound. heed (R.Range range.0 range.1) (λ some is. (under (sym cause ∙ none) some sound).1 is))
  clears_as (Err e) early late may_fail idle under =
      is_refused view backing old new before command e (R.Refused e) (λ is. absurd cc) (misuse (R.Refused e) (λ is. absurd cc)) refl (subst (λ o. IfSome o (λ x. (e ≡ x) × (new ≡ old))) (sym cause) (begun_with (ℕ × ℕ) (new ≡ old) e (refuses_clearing old offset n how) early))
      (λ none. may e (late (sym cause ∙ none))) (λ none sound. taking e (may_fail (sym cause ∙ none) sound))
      (λ none is. let no : (◌≡◌ {A = Result (ℕ × ℕ) ImageError} (Err e) (Ok (from_in old offset n, 0))) = (idle (sym cause ∙ none) (nothing is)).0 in absurd cc)
      (λ none sound. heed (R.Refused e) (λ some is. (under (sym cause ∙ none) some sound).0 (some_error is)))

  pub clears_rightly : (r : Result (ℕ × ℕ) ImageError) (reply : Reply) → reply ≡ reply_of_clearing r → IfSome (refuses_clearing old offset n how) (λ e. (r ≡ Err e) × (new ≡ old)) → (refuses_clearing old offset n how ≡ None → IfErr r (MayFailPreparing new)) → (refuses_clearing old offset n how ≡ None → (abstract_of view backing old before).is_sound → IfErr r (ClearingMayFail view old new before offset n))
      → (refuses_clearing old offset n how ≡ None → to_in old offset n ≤ from_in old offset n → (r ≡ Ok (from_in old offset n, 0)) × (new ≡ old))
      → (refuses_clearing old offset n how ≡ None → from_in old offset n < to_in old offset n → (abstract_of view backing old before).is_sound → IfErr r (λ e. e ≡ I.TablePrepared → IsUnderMapping old.file.header.fields (from_in old offset n) before) × IfOk r (λ range. ¬ IsUnderMapping old.file.header.fields (from_in old offset n) before))
      → RefusalJustified view backing old new before found command reply
  clears_rightly r reply is early late may_fail idle under = subst (λ q. RefusalJustified view backing old new before found command q) (sym is) (clears_as r early late may_fail idle under)

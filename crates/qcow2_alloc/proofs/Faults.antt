-- Which calls count a failure of the image's storage, and how such calls compose.
use Rattle.std.proofs.Common.{◌≡◌, ◌≢◌, ◌≤◌, ℕ, Bool, true, false, eqb, inl, inr, List, Option, Some, None, Result, Ok, Err, IsErr, IsErrAnd, IsSome, refl, sym, ap, ◌∙◌, subst, arith, IfSome}
use Rattle.qcow2_alloc.proofs.Common.{IsNone, lookup, lookup_entry, remove_entry, promoted, IsErrOf, StorageView, HasCause, Rose, UnlessErr, StorageError, storage_result, MetadataError, CacheError, Slot, ImageError, Steps, Unit₀, Flushes, GetsNew, InsertsNew, Replaces, FaultsReported, faults_of, storage_of, met_fault_of, RecordsFaults, l2_steps, rb_steps, cleared_l2, cleared_rb, IsTableOf, IsBlockOf, ImageStorage, L2TableView, RefBlockView, HeaderFields, of_storage, of_metadata, of_cache, IsTableFault, answer_refused, table_steps}
use Rattle.image_access.specs.declared.error.StorageError.TheVariants as S
use Rattle.qcow2_metadata.specs.declared.error.MetadataError.TheVariants as M
use Rattle.qcow2_alloc.specs.declared.async_lru_cache.error.CacheError.TheVariants as C
use Rattle.qcow2_alloc.specs.declared.error.ImageError.TheVariants as I
use Rattle.qcow2_alloc.proofs.CacheFaults as F
use Rattle.qcow2_alloc.proofs.KeptTables.Fetching.{none_or_some}
use Rattle.qcow2_alloc.proofs.KeptTables.Inserting.{found_or_not, lookup_none}

-- what the storage answered
pub unless_fault : {A : Type 0} (r : Result A StorageError) (P : Type 0) → UnlessErr r S.Fault P → ¬ IsErrOf r S.Fault → P
unless_fault (Ok x) P holds other = holds
unless_fault (Err e) P holds other = holds (λ is. other (ap Err is))

module _ {T A E : Type 0} (of_error : E → ImageError) (before now : ℕ) (answer : Result A E) (IsIncremented : Type 0) (raised : (e : E) → answer ≡ Err e → of_error e ≡ I.Storage → IsIncremented)
    (no_fewer : before ≤ now) (rose : IsIncremented → Rose before now) (stays : (e : E) → answer ≡ Err e → of_error e ≢ I.Storage → now ≡ before) where
  -- an error of a call that `?` hands on
  pub handed_on : (e : E) (result : Result T ImageError) → answer ≡ Err e → IsErr result × IsErrAnd result (λ x. x ≡ of_error e) → FaultsReported before now result
  handed_on e (Ok _) is on = absurd (let bad = on.0 in cc)
  handed_on e (Err x) is on = record { no_fewer = no_fewer; rose = λ storage. let same : x ≡ I.Storage = cc in rose (raised e is (sym on.1 ∙ same)); told = λ other. stays e is (λ bad. other (on.1 ∙ bad)) }

-- what holds of a failure that was met and of a refusal, holds of what that is told as
pub told_as : (P : ImageError → Type 0) (recorded : Bool) (x e : ImageError) → (recorded ≡ true → x ≡ I.Storage) → (recorded ≡ false → x ≡ e) → P I.Storage → P e → P x
told_as P true x e met unmet storage other = subst P (sym (met refl)) storage
told_as P false x e met unmet storage other = subst P (sym (unmet refl)) other

-- ---- errors of the lower layers

storage_fault : (e : StorageError) → of_storage e ≡ I.Storage → e ≡ S.Fault
storage_fault S.Fault is = refl
storage_fault S.Memory is = absurd (cc)

metadata_fault : (A : Type 0) (x : MetadataError) → of_metadata x ≡ I.Storage → storage_result {T = A} (Err x) ≡ Err S.Fault
metadata_fault A (M.Storage e) is = ap Err (storage_fault e is)
metadata_fault A M.Memory is = absurd (cc)
metadata_fault A M.Version is = absurd (cc)
metadata_fault A M.Unaligned is = absurd (cc)
metadata_fault A M.Limit is = absurd (cc)
metadata_fault A M.Format is = absurd (cc)

metadata_told : (A : Type 0) (x : MetadataError) → storage_result {T = A} (Err x) ≡ Err S.Fault → of_metadata x ≡ I.Storage
metadata_told A (M.Storage S.Fault) is = refl
metadata_told A (M.Storage S.Memory) is = absurd (cc)
metadata_told A M.Memory is = absurd (cc)
metadata_told A M.Version is = absurd (cc)
metadata_told A M.Unaligned is = absurd (cc)
metadata_told A M.Limit is = absurd (cc)
metadata_told A M.Format is = absurd (cc)

-- what a cache's answer says of them: of a flush of all, and of a call that stops at its first failure
pub record FlushReports {A : Type 0} (before now : ℕ) (answer : Result A (CacheError ℕ MetadataError)) : Type 0 where
  pub no_fewer : before ≤ now
  pub rose : (e : CacheError ℕ MetadataError) → answer ≡ Err e → of_cache e ≡ I.Storage → Rose before now
  pub same : (x : A) → answer ≡ Ok x → now ≡ before

pub record CacheReports {A : Type 0} (before now : ℕ) (answer : Result A (CacheError ℕ MetadataError)) : Type 0 where
  pub no_fewer : before ≤ now
  pub rose : (e : CacheError ℕ MetadataError) → answer ≡ Err e → of_cache e ≡ I.Storage → Rose before now
  pub same : (x : A) → answer ≡ Ok x → now ≡ before
  pub stays : (e : CacheError ℕ MetadataError) → answer ≡ Err e → of_cache e ≢ I.Storage → now ≡ before

pub cache_told : {T A : Type 0} (before now : ℕ) (answer : Result A (CacheError ℕ MetadataError)) (e : CacheError ℕ MetadataError) (result : Result T ImageError) → CacheReports before now answer → answer ≡ Err e → IsErr result × IsErrAnd result (λ x. x ≡ of_cache e)
    → FaultsReported before now result
cache_told before now answer e result told = handed_on of_cache before now answer (Rose before now) told.rose told.no_fewer (λ rose. rose) told.stays e result

-- ---- calls of a cache of tables
module _ {S V : Type 0} (view : S → StorageView) (bits : ℕ) (bytes : V → List ℕ) (is_modified : V → Bool) (cleared : V → V) (IsFit : V → Type 0) where
  abbrev steps : Steps S ℕ V MetadataError
  steps = table_steps view bits bytes is_modified cleared IsFit

  abbrev faults : S → ℕ
  faults s = (view s).faults

  once : (s t : S) (x : MetadataError) → HasCause (faults s) (faults t) (answer_refused x) → F.FailsOnce steps faults IsTableFault s x t
  once s t x cause = record { fails = record { no_fewer = cause.no_fewer; rose = cause.fault }; stays = unless_fault (answer_refused x) (faults t ≡ faults s) cause.told }

  counts : F.CountsFaults steps faults IsTableFault
  counts = record {
    loaded = λ s t k v h. h.calls.cause.told;
    load_failed = λ s t k x h. once s t x h.calls.cause;
    flushed = λ s t k v w h. h.calls.cause.told;
    flush_failed = λ s t k v x h. once s t x h.calls.cause;
  }

  -- an answer that isn't a failure leaves the number, whatever failures tell
  module _ (Told : S → MetadataError → S → Type 0) (A : Type 0) (s t : S) (fewer : (x : MetadataError) → Told s x t → faults s ≤ faults t) (raises : (x : MetadataError) → Told s x t → IsTableFault x → Rose (faults s) (faults t)) where
    fewest : (answer : Result A (CacheError ℕ MetadataError)) → F.AnswersBy steps faults IsTableFault Told s answer t → faults s ≤ faults t
    fewest (Ok _) told = omega (arith, told)
    fewest (Err C.InUse) told = omega (arith, told)
    fewest (Err (C.StillInUse _)) told = absurd told
    fewest (Err C.Memory) told = omega (arith, told)
    fewest (Err (C.Backend x)) told = fewer x told

    raised : (e : CacheError ℕ MetadataError) → F.AnswersBy steps faults IsTableFault Told {A = A} s (Err e) t → of_cache e ≡ I.Storage → Rose (faults s) (faults t)
    raised C.InUse told is = absurd (cc)
    raised (C.StillInUse _) told is = absurd told
    raised C.Memory told is = absurd (cc)
    raised (C.Backend x) told is = raises x told (metadata_fault (Unit {0}) x is)

    kept : (stays : (x : MetadataError) → Told s x t → ¬ IsTableFault x → faults t ≡ faults s) (e : CacheError ℕ MetadataError) → F.AnswersBy steps faults IsTableFault Told {A = A} s (Err e) t → of_cache e ≢ I.Storage → faults t ≡ faults s
    kept stays C.InUse told other = told
    kept stays (C.StillInUse _) told other = absurd told
    kept stays C.Memory told other = told
    kept stays (C.Backend x) told other = stays x told (λ is. other (metadata_told (Unit {0}) x is))

  reports : {A : Type 0} (s t : S) (answer : Result A (CacheError ℕ MetadataError)) → F.Answers steps faults IsTableFault s answer t → CacheReports (faults s) (faults t) answer
  reports {A = A} s t answer told =
      let fewer = λ (x : MetadataError) (f : F.FailsOnce steps faults IsTableFault s x t). f.fails.no_fewer in
      let raises = λ (x : MetadataError) (f : F.FailsOnce steps faults IsTableFault s x t). f.fails.rose in
      record {
        no_fewer = fewest (F.FailsOnce steps faults IsTableFault) A s t fewer raises answer told;
        rose = λ e is. raised (F.FailsOnce steps faults IsTableFault) A s t fewer raises e (subst (λ a. F.Answers steps faults IsTableFault s a t) is told);
        same = λ x is. subst (λ a. F.Answers steps faults IsTableFault s a t) is told;
        stays = λ e is. kept (F.FailsOnce steps faults IsTableFault) A s t fewer raises (λ x f. f.stays) e (subst (λ a. F.Answers steps faults IsTableFault s a t) is told);
      }

  flush_told : {A : Type 0} (s t : S) (answer : Result A (CacheError ℕ MetadataError)) → F.FlushAnswers steps faults IsTableFault s answer t → FlushReports (faults s) (faults t) answer
  flush_told {A = A} s t answer told =
      let fewer = λ (x : MetadataError) (f : F.Fails steps faults IsTableFault s x t). f.no_fewer in
      let raises = λ (x : MetadataError) (f : F.Fails steps faults IsTableFault s x t). f.rose in
      record {
        no_fewer = fewest (F.Fails steps faults IsTableFault) A s t fewer raises answer told;
        rose = λ e is. raised (F.Fails steps faults IsTableFault) A s t fewer raises e (subst (λ a. F.FlushAnswers steps faults IsTableFault s a t) is told);
        same = λ x is. subst (λ a. F.FlushAnswers steps faults IsTableFault s a t) is told;
      }

  pub flush_tells : (s t : S) (es fs : List (ℕ × Slot V)) (answer : Result Unit₀ (CacheError ℕ MetadataError)) → Flushes steps s es answer t fs → FlushReports (faults s) (faults t) answer
  flush_tells s t es fs answer h = flush_told s t answer (F.flush_answers steps faults IsTableFault counts s t es fs answer h)

  module _ (size : ℕ) (may_flush : Bool) (key : ℕ) (s t : S) (es fs : List (ℕ × Slot V)) (answer : Result Bool (CacheError ℕ MetadataError)) where
    still : (b : Bool) → answer ≡ Ok b → t ≡ s → CacheReports (faults s) (faults t) answer
    still b is same = subst (λ t. CacheReports (faults s) (faults t) answer) (sym same) (record { no_fewer = omega arith; rose = λ e bad. absurd (let f = sym is ∙ bad in cc); same = λ x is. refl; stays = λ e bad. absurd (let f = sym is ∙ bad in cc) })

    pub get_tells : (IsSome (lookup (eqb key) es) → (answer ≡ Ok true) × (fs ≡ promoted (eqb key) es) × (t ≡ s)) → (IsNone (lookup (eqb key) es) → GetsNew steps eqb size may_flush key s es answer t fs) → CacheReports (faults s) (faults t) answer
    get_tells hit miss = elim (none_or_some (lookup (eqb key) es)) [
      | inl there ↦ still true (hit there).0 (hit there).2
      | inr missing ↦ reports s t answer (F.get_answers steps faults IsTableFault counts eqb size may_flush s t key es fs answer (miss missing))
    ]

    pub put_tells : (value left : Option V) (P : Type 0) → (IsNone value → (answer ≡ Ok false) × P × (t ≡ s) × (left ≡ None))
        → IfSome (lookup_entry (eqb key) es) (λ e. IfSome value (λ v. Replaces steps key e (remove_entry (eqb key) es) v may_flush s es answer t fs left))
        → (IsNone (lookup (eqb key) es) → IfSome value (λ v. InsertsNew steps eqb size may_flush key v s es answer t fs left)) → CacheReports (faults s) (faults t) answer
    put_tells None left P nothing there missing = still false (nothing refl).0 (nothing refl).2
    put_tells (Some v) left P nothing there missing =
        found_or_not (lookup_entry (eqb key) es)
        (λ none. reports s t answer (F.insert_answers steps faults IsTableFault counts eqb size may_flush s t key v es fs left answer (missing (rw (lookup_none (eqb key) es none) refl))))
        (λ x some. reports s t answer (F.replace_answers steps faults IsTableFault counts s t key x (remove_entry (eqb key) es) v may_flush es fs left answer (rw some at there)))

-- ---- those of the two caches
module _ {S : Type 0} (view : S → StorageView) (h : HeaderFields) where
  abbrev seen : ImageStorage S → StorageView
  seen s = view (storage_of s)

  pub l2_flush_tells : (s t : ImageStorage S) (es fs : List (ℕ × Slot L2TableView)) (answer : Result Unit₀ (CacheError ℕ MetadataError)) → Flushes (l2_steps seen h) s es answer t fs → FlushReports (faults_of view s) (faults_of view t) answer
  l2_flush_tells = flush_tells seen h.cluster_bits (λ (t : L2TableView). t.bytes) (λ t. t.is_modified) cleared_l2 (IsTableOf h)

  pub rb_flush_tells : (s t : ImageStorage S) (es fs : List (ℕ × Slot RefBlockView)) (answer : Result Unit₀ (CacheError ℕ MetadataError)) → Flushes (rb_steps seen h) s es answer t fs → FlushReports (faults_of view s) (faults_of view t) answer
  rb_flush_tells = flush_tells seen h.cluster_bits (λ (b : RefBlockView). b.bytes) (λ b. b.is_modified) cleared_rb (IsBlockOf h)

module _ {S : Type 0} (view : S → StorageView) (s t : ImageStorage S) where
  -- a flush of all that was watched: where a failure is noted, that is told
  pub flush_refused : {T A : Type 0} (answer : Result A (CacheError ℕ MetadataError)) (e : CacheError ℕ MetadataError) (x : ImageError) → met_fault_of s ≡ false → RecordsFaults view s t → FlushReports (faults_of view s) (faults_of view t) answer → answer ≡ Err e
      → (met_fault_of t ≡ true → x ≡ I.Storage) → (met_fault_of t ≡ false → x ≡ of_cache e) → FaultsReported {T = T} (faults_of view s) (faults_of view t) (Err x)
  flush_refused {T} answer e x none notes told is met unmet = by (met_fault_of t) refl where
    by : (recorded : Bool) → met_fault_of t ≡ recorded → FaultsReported {T = T} (faults_of view s) (faults_of view t) (Err x)
    by true recorded = record {
      no_fewer = notes.no_fewer;
      rose = λ storage. elim (notes.met recorded) [ inl earlier ↦ absurd (let bad = sym none ∙ earlier in cc) | inr rose ↦ rose ];
      told = λ other. absurd (other (met recorded));
    }
    by false recorded = record {
      no_fewer = notes.no_fewer;
      rose = λ storage. told.rose e is (let same : x ≡ I.Storage = cc in sym (unmet recorded) ∙ same);
      told = λ other. (notes.unmet recorded).1;
    }

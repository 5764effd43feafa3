-- Which replies a command may get: a failed image refuses before everything else, and what is done lies within the size.
use Rattle.std.proofs.Common.{◌≡◌, ◌+◌, ◌≤◌, ◌<◌, inl, inr, ℕ, Bool, true, IsTrue, ap, ◌∙◌, subst, arith, List, length, Option, Some, None, Result, Ok, Err}
use Rattle.qcow2_session.proofs.Common.{IfSome, option_or, cases_lt, cases_Bool, cond-true, cond-false, common_steps, BackingView, StorageView, ImageError, AbstractImage, another, read, write, get_mapping, prepare, done, bytes_are, prepared_is, refused, write_refused, IsAnswer, Qcow2, Prepared, CommitRefused, Kept, Spent, refusal_of, is_failed, lacks_data_file, is_writable, size_of, HasNothingToFree, abstract_of, to_free, of_tables, of_data, refuse_if, passes, unusable, refuses_to_read, refuses_to_prepare, refuses_mapping, disk_size, sound_is_usable, Mappings}
use Rattle.qcow2_alloc.specs.declared.error.ImageError.TheVariants as I

-- ---- a failed image

module _ {S F : Type 0} (image : Qcow2 S F) (P : ImageError → Type 0) where
  pub first_of_all : (more : Option ImageError) → IfSome (option_or (unusable image) more) P → IsTrue (is_failed image) → P I.Failed
  first_of_all more early failed = subst (λ b. IfSome (option_or (option_or (refuse_if b I.Failed) (refuse_if (lacks_data_file image) I.Dependency)) more) P) failed early

  pub unusable_first : IfSome (unusable image) P → IsTrue (is_failed image) → P I.Failed
  unusable_first early failed = subst (λ b. IfSome (option_or (refuse_if b I.Failed) (refuse_if (lacks_data_file image) I.Dependency)) P) failed early

  pub reading_first : (offset n : ℕ) → IfSome (refuses_to_read image offset n) P → IsTrue (is_failed image) → P I.Failed
  reading_first offset n early failed = first_of_all _ early failed

  pub preparing_first : (offset n : ℕ) → IfSome (refuses_to_prepare image offset n) P → IsTrue (is_failed image) → P I.Failed
  preparing_first offset n early failed = first_of_all _ early failed

  pub mapping_first : (number : ℕ) → IfSome (refuses_mapping image number) P → IsTrue (is_failed image) → P I.Failed
  mapping_first number early failed = first_of_all _ early failed

-- a refusal of a call that answers an A
abbrev refusal : (A E : Type 0) → E → Result A E
refusal A E e = Err e

pub error_is : {A Same : Type 0} {e f : ImageError} → (refusal A ImageError e ≡ Err f) × Same → refusal_of e ≡ refusal_of f
error_is {e = e} {f = f} h = let is = h.0 in let same : e ≡ f = cc in ap refusal_of same

pub not_both : {A E Same : Type 0} {a : A} {e : E} → (Ok a ≡ Err e) × Same → ⊥
not_both h = let is = h.0 in cc

pub write_error_is : {A Same : Type 0} {e f : ImageError} {n m : ℕ} → (refusal A (ImageError × ℕ) (e, n) ≡ Err (f, m)) × Same → (refusal_of e ≡ refusal_of f) × (n ≡ m)
write_error_is {e = e} {f = f} {n = n} {m = m} h = let is = h.0 in let pair : (e, n) ≡ (f, m) = cc in (ap (λ (p : ImageError × ℕ). refusal_of p.0) pair, ap (λ (p : ImageError × ℕ). p.1) pair)

-- a commit that a failed image refuses hands the mapping back
pub not_old_tables : {A Same : Type 0} {e f : ImageError} {p : Prepared} {r : CommitRefused} → r ≡ Spent e → (refusal A CommitRefused r ≡ Err (Kept f p)) × Same → ⊥
not_old_tables {e = e} {f = f} {p = p} {r = r} old_tables h = let is = h.0 in let no : Spent e ≡ Kept f p = cc in cc

pub kept_is : {A Same : Type 0} {e f : ImageError} {p q : Prepared} {r : CommitRefused} → r ≡ Kept e q → (refusal A CommitRefused r ≡ Err (Kept f p)) × Same → refusal_of e ≡ refusal_of f
kept_is {e = e} {f = f} {p = p} {q = q} {r = r} kept h = let is = h.0 in let same : e ≡ f = cc in ap refusal_of same

-- ---- what is done lies within the size

within : (P : ImageError → Type 0) → ((e : ImageError) → P e → ⊥) → (u rest : Option ImageError) (size offset n : ℕ)
    → IfSome (option_or u (option_or (refuse_if (passes size offset n) I.BeyondSize) rest)) P → 0 < n → offset + n ≤ size
within P never (Some e) rest size offset n early some = absurd (never e early)
within P never None rest size offset n early some = elim (cases_lt size (offset + n)) [
  | inr inside ↦ inside
  | inl past ↦
      let passed : passes size offset n ≡ true = grind (arith, common_steps) in
      absurd (never I.BeyondSize (subst (λ b. IfSome (option_or (refuse_if b I.BeyondSize) rest) P) passed early))
]

read_within : (P : ImageError → Type 0) → ((e : ImageError) → P e → ⊥) → (u : Option ImageError) (size offset n : ℕ)
    → IfSome (option_or u (refuse_if (passes size offset n) I.BeyondSize)) P → 0 < n → offset + n ≤ size
read_within P never (Some e) size offset n early some = absurd (never e early)
read_within P never None size offset n early some = elim (cases_lt size (offset + n)) [
  | inr inside ↦ inside
  | inl past ↦
      let passed : passes size offset n ≡ true = grind (arith, common_steps) in
      absurd (never I.BeyondSize (subst (λ b. IfSome (refuse_if b I.BeyondSize) P) passed early))
]

-- ---- commands

module _ {S F : Type 0} (view : S → StorageView) (backing : F → BackingView) (image : Qcow2 S F) (out : Mappings) where
  pub reads_answer : (P : ImageError → Type 0) → ((e : ImageError) → P e → ⊥) → (offset n : ℕ) (bytes : List ℕ) → IfSome (refuses_to_read image offset n) P
      → {w : AbstractImage} → IsAnswer (abstract_of view backing image out) w (read offset n) (bytes_are bytes)
  reads_answer P never offset n bytes early = record {
    sized = λ _. tt;
    failed = λ f. absurd (never I.Failed (reading_first image P offset n early f));
    may = λ sound some. subst (λ size. offset + n ≤ size) (disk_size view backing image out sound) (read_within P never (unusable image) (size_of image) offset n early some);
  }

  pub writes_answer : (P : ImageError → Type 0) → ((e : ImageError) → P e → ⊥) → (offset : ℕ) (bytes : List ℕ) → IfSome (refuses_to_prepare image offset (length bytes)) P
      → {w : AbstractImage} → IsAnswer (abstract_of view backing image out) w (write offset bytes) done
  writes_answer P never offset bytes early = record {
    sized = λ _. tt;
    failed = λ f. absurd (never I.Failed (preparing_first image P offset (length bytes) early f));
    may = λ sound some. subst (λ size. offset + length bytes ≤ size) (disk_size view backing image out sound) (within P never (unusable image) _ (size_of image) offset (length bytes) early some);
  }

  pub write_refused_answer : (P : ImageError → Type 0) (offset : ℕ) (bytes : List ℕ) (e : ImageError) (n : ℕ) → (P I.Failed → (refusal_of e ≡ another 16) × (n ≡ 0)) → IfSome (refuses_to_prepare image offset (length bytes)) P → n ≤ length bytes
      → {w : AbstractImage} → IsAnswer (abstract_of view backing image out) w (write offset bytes) (write_refused (refusal_of e) n)
  write_refused_answer P offset bytes e n is early no_more = record { sized = λ _. tt; failed = λ f. is (preparing_first image P offset (length bytes) early f); may = λ _. no_more }

  -- a range was prepared
  pub prepares_answer : (P : ImageError → Type 0) → ((e : ImageError) → P e → ⊥) → (slot offset n : ℕ) (overwrite : Bool) (host count : ℕ) (is_existing : Bool) → IfSome (refuses_to_prepare image offset n) P
      → {w : AbstractImage} → IsAnswer (abstract_of view backing image out) w (prepare slot offset n overwrite) (prepared_is host count is_existing)
  prepares_answer P never slot offset n overwrite host count is_existing early = record {
    sized = λ _. tt;
    failed = λ f. absurd (never I.Failed (preparing_first image P offset n early f));
    may = λ sound some. subst (λ size. offset + n ≤ size) (disk_size view backing image out sound) (within P never (unusable image) _ (size_of image) offset n early some);
  }

  -- where the list is empty, nothing is to be freed
  pub none_to_free : (IsTrue (is_writable image) → HasNothingToFree image) → (k : ℕ) → (abstract_of view backing image out).to_be_freed k ≡ 0
  none_to_free emptied k = elim (cases_Bool (is_writable image)) [
    | inl writes ↦ cond-true (is_writable image) _ 0 writes ∙ ap (λ l. to_free of_tables l k + to_free of_data l k) (emptied writes)
    | inr reads ↦ cond-false (is_writable image) _ 0 reads
  ]

  -- a lookup was refused
  pub lookup_answer : (slot offset max : ℕ) (e : ImageError) → (IsTrue (is_failed image) → refusal_of e ≡ another 16) → (unusable image ≡ None → size_of image ≤ offset → ⊥)
      → {w : AbstractImage} → IsAnswer (abstract_of view backing image out) w (get_mapping slot offset max) (refused (refusal_of e))
  lookup_answer slot offset max e failed past = record {
    sized = λ _. tt;
    failed = failed;
    may = λ sound. elim (cases_lt offset (size_of image)) [
      | inl below ↦ subst (λ size. offset < size) (disk_size view backing image out sound) below
      | inr beyond ↦ absurd (past (sound_is_usable view backing image out sound) beyond)
    ];
  }

-- The single write of a put, and what the put leaves before it.
use Rattle.std.proofs.Common.{◌≡◌, ◌+◌, ℕ, Bool, List, [], Option, Some, None, IsSome, IsSomeAnd, Result, Ok, Err, IfErr, IfSome, inl, inr, refl, sym, ap, ◌∙◌, subst}
use Rattle.qcow2_image.specs.CallParts.{HasChanged, WritesBeside}
use Rattle.qcow2_image.proofs.Common.{BackingView, overwritten, StorageView, passes_none, ImageError, view_in, changes_of, Qcow2, Prepared, IsWriteOutcome, InternalCall, IsBegun, storage_of_image, ImageInvariant, abstract_of, pending_in, PutsOnce, offset_of, table_of, InternalFillingStep, InternalStep, Pending, LooksQuietly, IsSpecial, MappingKind, MayFail, MayFailWriting, Mappings}
use Rattle.qcow2_image.proofs.Call.FailingErrors.{writing_met}
use Rattle.qcow2_alloc.specs.declared.error.ImageError.TheVariants as I
use Rattle.qcow2_image.proofs.Lemmas.{Quietly, listed, image_step_stays, stays_kept, stays_then, image_step_none, listed_after_same, looks_none, looks_begun}

-- bytes that are not written are neither outdated nor compressed
pub written_current : {A : Type 0} (result : Result A ImageError) → IfErr result MayFailWriting → result ≡ Err I.OutdatedMapping → ⊥
written_current (Ok done) why is = absurd cc
written_current (Err e) why is = let outdated : e ≡ I.OutdatedMapping = cc in subst MayFail outdated (writing_met _ e why)

pub written_plain : {A : Type 0} (kind : MappingKind) (result : Result A ImageError) → IfErr result MayFailWriting → result ≡ Err I.Compressed → IsSpecial kind
written_plain kind (Ok done) why is = absurd cc
written_plain kind (Err e) why is =
    let compressed : e ≡ I.Compressed = cc in
    elim why [
      | inl (inl storage) ↦ let no : I.Storage ≡ I.Compressed = sym storage ∙ compressed in absurd cc
      | inl (inr memory) ↦ let no : I.Memory ≡ I.Compressed = sym memory ∙ compressed in absurd cc
      | inr metadata ↦ let no : I.Metadata ≡ I.Compressed = sym metadata ∙ compressed in absurd cc
    ]

-- a call that changes nothing
pub unseen_none : {S F : Type 0} (view : S → StorageView) (backing : F → BackingView) (image : Qcow2 S F) (out : Mappings) → ImageInvariant view backing (pending_in view backing image out) image out → InternalCall view backing image image out
unseen_none view backing image out sound =
    let p = pending_in view backing image out in
    image_step_stays view backing out image image sound (subst (λ q. InternalFillingStep view backing p q image image out) (sym (listed_after_same view backing out p image image refl)) (image_step_none view backing out image p sound))

-- a part that keeps what is known, and lists nothing
pub checked_unseen : {S F : Type 0} (view : S → StorageView) (backing : F → BackingView) (old now : Qcow2 S F) (out : Mappings)
    → ((p : Pending) (out : Mappings) → ImageInvariant view backing p old out → InternalStep view backing p p old now out) → now.file.free_list ≡ old.file.free_list → ImageInvariant view backing (pending_in view backing old out) old out → InternalCall view backing old now out
checked_unseen view backing old now out keeps list sound =
    let quiet : Quietly view backing out old now = record { keeps = keeps (pending_in view backing old out) out sound; list = list } in
    stays_kept view backing out old now sound (listed view backing out old now (λ _. quiet) sound)

-- a refused write of which nothing is there
outcome_none : (e : ImageError) (old changed : List ℕ) → IsWriteOutcome (Err e) old changed old
outcome_none I.Storage old changed = inl refl
outcome_none e old changed = refl

-- what a write left of the data file
written_of : {S F : Type 0} (view : S → StorageView) (mid new : Qcow2 S F) (change : List ℕ → List ℕ) (result : Result (Unit {0}) ImageError) (file : Option S) → IfSome file (WritesBeside view mid new change result) → IfSome file (λ was. IsSomeAnd new.data_file (HasChanged view was change result))
written_of view mid new change result None writes = tt
written_of view mid new change result (Some file) writes = writes.written

-- told of the file that there was, and of the place that the bytes were for
pub put_beside : {S F : Type 0} (view : S → StorageView) (file : Option S) (mid new : Qcow2 S F) (host place : ℕ) (bytes : List ℕ) (result : Result (Unit {0}) ImageError) → mid.data_file ≡ file → host ≡ place → IfSome mid.data_file (WritesBeside view mid new (λ b. overwritten b host bytes) result)
    → IfSome file (λ was. IsSomeAnd new.data_file (HasChanged view was (λ b. overwritten b place bytes) result))
put_beside view file mid new host place bytes result same here writes =
    subst (λ o. IfSome file (λ was. IsSomeAnd new.data_file (HasChanged view was (λ b. overwritten b o bytes) result))) here
    (written_of view mid new (λ b. overwritten b host bytes) result file (subst (λ f. IfSome f (WritesBeside view mid new (λ b. overwritten b host bytes) result)) same writes))

module _ {S F : Type 0} (view : S → StorageView) (backing : F → BackingView) (p : Prepared) (at : ℕ) (bytes : List ℕ) where
  -- what no guest sees of a part, on a sound image
  abbrev IsInternal : Qcow2 S F → Qcow2 S F → Type 0
  IsInternal old now = (out : Mappings) → (abstract_of view backing old out).is_sound → InternalCall view backing old now out

  -- a data file that stays the same after a refusal, and after a write of no bytes
  file_unchanged : (old now : Option S) (e : ImageError) → now ≡ old → IfSome old (λ was. IsSomeAnd now (HasChanged view was (λ b. overwritten b (offset_of p + at) bytes) (Err e)))
  file_unchanged None now e same = tt
  file_unchanged (Some file) now e same = subst (λ n. IsSomeAnd n (HasChanged view file (λ b. overwritten b (offset_of p + at) bytes) (Err e))) (sym same) (λ honest. (honest, outcome_none e _ _))

  file_with_none : (old : Option S) → bytes ≡ [] → IfSome old (λ was. IsSomeAnd old (HasChanged view was (λ b. overwritten b (offset_of p + at) bytes) (Ok tt)))
  unfolding overwritten
  file_with_none None empty = tt
  file_with_none (Some file) empty = λ honest. (honest, subst (λ (b : List ℕ). (view file).contents ≡ overwritten (view file).contents (offset_of p + at) b) (sym empty) refl)

  -- a put that is refused before its bytes are written, and one of no bytes
  pub put_unwritten : (old now : Qcow2 S F) (e : ImageError) → ((view_in view old.file).is_honest → (view_in view now.file).is_honest) → (IsSome (table_of p) → now ≡ old) → LooksQuietly view (p.guest + at) old now → now.data_file ≡ old.data_file → IsInternal old now → PutsOnce view backing p at bytes old now (Err e)
  put_unwritten old now e honest idle quiet same unseen = record {
    quiet = quiet;
    before = now;
    honest = honest;
    unseen = unseen;
    idle = λ some. (ap (λ (i : Qcow2 S F). storage_of_image i) (idle some), ap (λ (i : Qcow2 S F). changes_of i.file.storage) (idle some));
    time = λ _. passes_none (view_in view now.file) _;
    written = λ _ _. outcome_none e _ _;
    beside = file_unchanged old.data_file now.data_file e same;
  }

  pub put_refused : (old : Qcow2 S F) (e : ImageError) → PutsOnce view backing p at bytes old old (Err e)
  put_refused old e = put_unwritten old old e (λ h. h) (λ _. refl) (looks_none view (p.guest + at) old) refl (λ out sound. unseen_none view backing old out sound)

  pub put_nothing : (old : Qcow2 S F) → bytes ≡ [] → PutsOnce view backing p at bytes old old (Ok tt)
  unfolding overwritten
  put_nothing old empty = record {
    before = old;
    quiet = looks_none view (p.guest + at) old;
    honest = λ h. h;
    unseen = λ out sound. unseen_none view backing old out sound;
    idle = λ _. (refl, refl);
    time = λ _. passes_none (view_in view old.file) _;
    written = λ _ _. subst (λ (b : List ℕ). (view_in view old.file).contents ≡ overwritten (view_in view old.file).contents (offset_of p + at) b) (sym empty) refl;
    beside = file_with_none old.data_file empty;
  }

  -- a call of one part that puts them, whose end is marked
  pub put_in_call : (old begun is new : Qcow2 S F) (r : Result (Unit {0}) ImageError) → IsBegun old begun → IsInternal old begun → PutsOnce view backing p at bytes begun is r → (failed : Bool) → new ≡ record is { is_failed = failed } → PutsOnce view backing p at bytes old new r
  put_in_call old begun is new r begins quiet puts failed marked =
      subst (λ (i : Qcow2 S F). PutsOnce view backing p at bytes old i r) (sym marked) (record {
        before = puts.before;
        quiet = looks_begun view (p.guest + at) old begun puts.before begins puts.quiet;
        honest = λ h. puts.honest (subst (λ (s : S). (view s).is_honest) (sym begins.storage) h);
        unseen = λ out sound. let first = quiet out sound in stays_then view backing out old begun puts.before first (puts.unseen out first.sound);
        idle = λ some. ((puts.idle some).0 ∙ begins.storage, (puts.idle some).1 ∙ begins.counts);
        time = puts.time;
        written = λ none. puts.written (ap (λ (i : Qcow2 S F). i.data_file) begins.rest ∙ none);
        beside = subst (λ file. IfSome file (λ was. IsSomeAnd is.data_file (HasChanged view was (λ b. overwritten b (offset_of p + at) bytes) r))) (ap (λ (i : Qcow2 S F). i.data_file) begins.rest) puts.beside;
      })

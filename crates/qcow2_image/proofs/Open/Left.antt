-- What opening leaves of a storage, part by part.
use Rattle.std.proofs.Common.{◌≡◌, ◌≢◌, ◌⊎◌, ◌≤◌, ◌&&◌, ◌==◌, if◌then◌else◌, inl, inr, ℕ, Bool, true, false, List, Result, Ok, Err, refl, sym, ap, ◌∙◌, subst}
use Rattle.qcow2_image.proofs.Common.{not, IsOk, cases_eq, ne_eqb, Calls, Changes, ContentsBecome, ContentsStay, EachMomentSince, HasCause, StorageView, IsLeftBy, StorageError, passes_if, passes_on, rose_since, whole_or_nothing, byte_at, HeaderView, header, with_fields, without_autoclear, IsHeaderIn, autoclear_cleared, OnlyReads, MetadataError, autoclear_still, of_storage, view_in, storage_of, ImageError, ImageFile, ImageStorage, Qcow2, LeavesFile, LeavesStorage, OpensAtOnce, StandsOpened, StandsRefused, opened_contents}
use Rattle.image_access.specs.declared.error.StorageError.TheVariants.{Fault, Memory}

-- where no bit is set they stay
pub opened_none : (writable : Bool) (contents : List ℕ) → (header (byte_at contents)).autoclear ≡ 0 → opened_contents writable contents ≡ contents
opened_none true contents none = subst (λ (k : ℕ). (if true && not (k == 0) then (autoclear_cleared contents) else contents) ≡ contents) (sym none) refl
opened_none false contents none = refl

pub opened_some : (contents : List ℕ) → (header (byte_at contents)).autoclear ≢ 0 → opened_contents true contents ≡ autoclear_cleared contents
opened_some contents some = subst (λ (t : Bool). (if true && not t then (autoclear_cleared contents) else contents) ≡ (autoclear_cleared contents)) (sym (ne_eqb (header (byte_at contents)).autoclear 0 some)) refl

-- ---- a storage that was read
pub moments_read : (writable : Bool) (old new : StorageView) → EachMomentSince old new (IsLeftBy new) → new.contents ≡ old.contents → OpensAtOnce writable old new
moments_read writable old new time same = passes_if _ (λ c is. inl (is ∙ same)) time

moments_then : (writable : Bool) (old mid new : StorageView) → EachMomentSince old mid (IsLeftBy old) → mid.contents ≡ old.contents → OpensAtOnce writable mid new → OpensAtOnce writable old new
moments_then writable old mid new time same more =
    passes_on (λ (c : List ℕ). (c ≡ old.contents) ⊎ (c ≡ opened_contents writable old.contents)) (passes_if _ (λ c is. inl is) time) more
    (λ c is. subst (λ (l : List ℕ). (c ≡ l) ⊎ (c ≡ opened_contents writable l)) same is)

opened_then : (writable : Bool) (old mid new : StorageView) (v : HeaderView) → mid.contents ≡ old.contents → StandsOpened writable mid new v → StandsOpened writable old new v
opened_then writable old mid new v same stands = record { contents = stands.contents ∙ ap (opened_contents writable) same; header = stands.header }

refused_then : (writable : Bool) (old mid new : StorageView) (e : ImageError) → old.faults ≤ mid.faults → mid.contents ≡ old.contents → StandsRefused writable mid new e → StandsRefused writable old new e
refused_then writable old mid new e le same stands = elim stands [
  | inl stay ↦ inl (stay ∙ same)
  | inr made ↦ inr (made.0, rose_since old.faults mid.faults new.faults le made.1, made.2 ∙ ap (opened_contents writable) same)
]

module _ {S : Type 0} (view : S → StorageView) where
  -- ---- a file that was read
  module _ (writable : Bool) (old mid : ImageFile S) (rest : mid ≡ record old { storage = mid.storage }) (honest : (view_in view old).is_honest → (view_in view mid).is_honest)
      (same : ContentsStay (view_in view old) (view_in view mid)) (time : EachMomentSince (view_in view old) (view_in view mid) (IsLeftBy (view_in view mid))) where
    stands_still : (view_in view old).is_honest → IsHeaderIn old.header (view_in view old).contents → IsHeaderIn mid.header (view_in view mid).contents
    stands_still is there = subst (λ (v : HeaderView). IsHeaderIn v (view_in view mid).contents) (sym (ap (λ (f : ImageFile S). f.header) rest)) (subst (IsHeaderIn old.header) (sym (same is)) there)

    time_still : (view_in view old).is_honest → EachMomentSince (view_in view old) (view_in view mid) (IsLeftBy (view_in view old))
    time_still is = passes_if _ (λ c at. at ∙ same is) time

    -- and refused
    pub file_refused : {T : Type 0} (e : ImageError) → LeavesFile {T = T} view writable old mid (Err e)
    file_refused e = record { honest = honest; at_once = λ is there. moments_read writable (view_in view old) (view_in view mid) time (same is); contents = λ is there. inl (same is) }

    -- opened for reading
    pub file_read : {T : Type 0} (x : T) → writable ≡ false → LeavesFile view writable old mid (Ok x)
    file_read x never = record {
      honest = honest;
      at_once = λ is there. moments_read writable (view_in view old) (view_in view mid) time (same is);
      contents = λ is there. record {
        contents = same is ∙ ap (λ (w : Bool). opened_contents w (view_in view old).contents) (sym never);
        header = stands_still is there;
      };
    }

    -- read, and opened by what follows
    pub file_then : {T R : Type 0} (new : ImageFile S) (x : T) (y : R) → LeavesFile view writable mid new (Ok x) → LeavesFile view writable old new (Ok y)
    file_then new x y left = record {
      honest = λ is. left.honest (honest is);
      at_once = λ is there. moments_then writable (view_in view old) (view_in view mid) (view_in view new) (time_still is) (same is) (left.at_once (honest is) (stands_still is there));
      contents = λ is there. opened_then writable (view_in view old) (view_in view mid) (view_in view new) new.header (same is) (left.contents (honest is) (stands_still is there));
    }

    -- or refused by it
    pub file_then_refused : {T R : Type 0} (new : ImageFile S) (e : ImageError) → (view_in view old).faults ≤ (view_in view mid).faults → LeavesFile {T = T} view writable mid new (Err e) → LeavesFile {T = R} view writable old new (Err e)
    file_then_refused new e le left = record {
      honest = λ is. left.honest (honest is);
      at_once = λ is there. moments_then writable (view_in view old) (view_in view mid) (view_in view new) (time_still is) (same is) (left.at_once (honest is) (stands_still is there));
      contents = λ is there. refused_then writable (view_in view old) (view_in view mid) (view_in view new) e le (same is) (left.contents (honest is) (stands_still is there));
    }

  -- ---- the autoclear bits are cleared, where one is set
  module _ (file : ImageFile S) (told after : ImageStorage S) (same : storage_of told ≡ storage_of file.storage) (result : Result (Unit {0}) StorageError) (calls : Calls (view (storage_of told)) (view (storage_of after)) result)
      (written : file.header.fields.autoclear ≢ 0 → Changes (view (storage_of told)) (view (storage_of after)) result autoclear_cleared)
      (idle : file.header.fields.autoclear ≡ 0 → IsOk result × (after ≡ told)) where
    abbrev was : StorageView
    was = view (storage_of told)

    abbrev now : StorageView
    now = view (storage_of after)

    some_stands : IsHeaderIn file.header was.contents → file.header.fields.autoclear ≢ 0 → (header (byte_at was.contents)).autoclear ≢ 0
    some_stands there some none = some (ap (λ h. h.autoclear) there.fields ∙ none)

    moments_cleared : was.is_honest → IsHeaderIn file.header was.contents → OpensAtOnce true was now
    moments_cleared is there = elim (cases_eq file.header.fields.autoclear 0) [
      | inl none ↦ passes_if _ (λ c at. inl (at ∙ ap (λ (s : ImageStorage S). (view (storage_of s)).contents) (idle none).1)) (calls.time is)
      | inr some ↦
          passes_if _ (λ c at. elim (whole_or_nothing result was.contents (autoclear_cleared was.contents) now.contents (written some is)) [ inl stay ↦ inl (at ∙ stay) | inr changed ↦ inr (at ∙ changed ∙ sym (opened_some was.contents (some_stands there some))) ]) (calls.time is)
    ]

    module _ (v : HeaderView) (ok : v ≡ with_fields file.header (without_autoclear file.header.fields)) where
      header_unset : file.header.fields.autoclear ≡ 0 → v ≡ file.header
      header_unset none = ok ∙ ap (λ (n : ℕ). with_fields file.header (record file.header.fields { autoclear = n })) (sym none)

      opened_cleared : (u : Unit {0}) → result ≡ Ok u → was.is_honest → IsHeaderIn file.header was.contents → StandsOpened true was now v
      opened_cleared u done is there = elim (cases_eq file.header.fields.autoclear 0) [
        | inl none ↦ record {
          contents = ap (λ (s : ImageStorage S). (view (storage_of s)).contents) (idle none).1 ∙ sym (opened_none true was.contents (ap (λ h. h.autoclear) (sym there.fields) ∙ none));
          header = subst (λ (w : HeaderView). IsHeaderIn w now.contents) (sym (header_unset none)) (subst (λ (s : ImageStorage S). IsHeaderIn file.header (view (storage_of s)).contents) (sym (idle none).1) there);
        }
        | inr some ↦
            let made : now.contents ≡ autoclear_cleared was.contents = subst (λ (r : Result (Unit {0}) StorageError). ContentsBecome r was.contents (autoclear_cleared was.contents) now.contents) done (written some is) in record {
              contents = made ∙ sym (opened_some was.contents (some_stands there some));
              header = subst (λ (w : HeaderView). IsHeaderIn w now.contents) (sym ok) (subst (IsHeaderIn (with_fields file.header (without_autoclear file.header.fields))) (sym made) (autoclear_still _ _ some there));
            }
      ]

      pub file_cleared : {T : Type 0} (x : T) (u : Unit {0}) → result ≡ Ok u → LeavesFile view true file (record file { storage = after; header = v }) (Ok x)
      file_cleared x u done = record {
        honest = subst (λ (s : S). (view s).is_honest → now.is_honest) same calls.honest;
        at_once = subst (λ (s : S). (view s).is_honest → IsHeaderIn file.header (view s).contents → OpensAtOnce true (view s) now) same moments_cleared;
        contents = subst (λ (s : S). (view s).is_honest → IsHeaderIn file.header (view s).contents → StandsOpened true (view s) now v) same (opened_cleared u done);
      }

    refused_as : (e : StorageError) → HasCause {T = Unit {0}} was.faults now.faults (Err e) → IsHeaderIn file.header was.contents → file.header.fields.autoclear ≢ 0 → ContentsBecome {T = Unit {0}} (Err e) was.contents (autoclear_cleared was.contents) now.contents
        → StandsRefused true was now (of_storage e)
    refused_as Fault cause there some may = elim may [ inl stay ↦ inl stay | inr changed ↦ inr (refl, cause.fault refl, changed ∙ sym (opened_some was.contents (some_stands there some))) ]
    refused_as Memory cause there some stay = inl stay

    refused_cleared : (e : StorageError) → result ≡ Err e → was.is_honest → IsHeaderIn file.header was.contents → StandsRefused true was now (of_storage e)
    refused_cleared e done is there = elim (cases_eq file.header.fields.autoclear 0) [
      | inl none ↦ absurd (let bad : false ≡ true = subst (λ (r : Result (Unit {0}) StorageError). IsOk r) done (idle none).0 in cc)
      | inr some ↦ refused_as e (subst (HasCause was.faults now.faults) done calls.cause) there some
          (subst (λ (r : Result (Unit {0}) StorageError). ContentsBecome r was.contents (autoclear_cleared was.contents) now.contents) done (written some is))
    ]

    pub file_not_cleared : {T : Type 0} (v : HeaderView) (e : StorageError) → result ≡ Err e → LeavesFile {T = T} view true file (record file { storage = after; header = v }) (Err (of_storage e))
    file_not_cleared v e done = record {
      honest = subst (λ (s : S). (view s).is_honest → now.is_honest) same calls.honest;
      at_once = subst (λ (s : S). (view s).is_honest → IsHeaderIn file.header (view s).contents → OpensAtOnce true (view s) now) same moments_cleared;
      contents = subst (λ (s : S). (view s).is_honest → IsHeaderIn file.header (view s).contents → StandsRefused true (view s) now (of_storage e)) same (refused_cleared e done);
    }

  -- ---- the header was loaded
  module _ {T F : Type 0} (writable : Bool) (old start loaded : S) (same : start ≡ old) (result : Result T MetadataError) (reads : OnlyReads (view start) (view loaded) result) where
    -- and no more
    pub left_loaded : (e : ImageError) (last : S) → last ≡ loaded → LeavesStorage {F = F} view writable (view old) (Err (last, e))
    left_loaded e last is = subst (λ (s : S). LeavesStorage {F = F} view writable (view old) (Err (s, e))) (sym is) (subst (λ (s : S). LeavesStorage {F = F} view writable (view s) (Err (loaded, e))) same (record {
      honest = reads.honest;
      at_once = λ is. passes_if _ (λ c at. inl at) (reads.time is);
      contents = λ is. inl (reads.same is);
    }))

  -- and the tables then
  module _ {T : Type 0} (writable : Bool) (old start : S) (file : ImageFile S) (same : start ≡ old) (result : Result T MetadataError) (reads : OnlyReads (view start) (view_in view file) result)
      (there : (view start).is_honest → IsHeaderIn file.header (view start).contents) where
    there_still : (view start).is_honest → IsHeaderIn file.header (view_in view file).contents
    there_still is = subst (IsHeaderIn file.header) (sym (reads.same is)) (there is)

    pub left_opened : {R F : Type 0} (x : R) (image : Qcow2 S F) → LeavesFile view writable file image.file (Ok x) → LeavesStorage view writable (view old) (Ok image)
    left_opened x image left = subst (λ (s : S). LeavesStorage view writable (view s) (Ok image)) same (record {
      honest = λ is. left.honest (reads.honest is);
      at_once = λ is. moments_then writable (view start) (view_in view file) (view_in view image.file) (reads.time is) (reads.same is) (left.at_once (reads.honest is) (there_still is));
      contents = λ is. opened_then writable (view start) (view_in view file) (view_in view image.file) image.file.header (reads.same is) (left.contents (reads.honest is) (there_still is));
    })

    pub left_refused : {R F : Type 0} (new : ImageFile S) (e : ImageError) (last : S) → last ≡ storage_of new.storage → LeavesFile {T = R} view writable file new (Err e) → LeavesStorage {F = F} view writable (view old) (Err (last, e))
    left_refused {R} {F} new e last is left = subst (λ (s : S). LeavesStorage {F = F} view writable (view old) (Err (s, e))) (sym is) (subst (λ (s : S). LeavesStorage {F = F} view writable (view s) (Err (storage_of new.storage, e))) same (record {
      honest = λ is. left.honest (reads.honest is);
      at_once = λ is. moments_then writable (view start) (view_in view file) (view_in view new) (reads.time is) (reads.same is) (left.at_once (reads.honest is) (there_still is));
      contents = λ is. refused_then writable (view start) (view_in view file) (view_in view new) e reads.cause.no_fewer (reads.same is) (left.contents (reads.honest is) (there_still is));
    }))

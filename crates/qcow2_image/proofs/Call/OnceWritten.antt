-- A call begins with no recorded change, does parts that record their changes, and marks a failure: if memory runs out, the image fails exactly if a change was counted.
use Rattle.std.proofs.Common.{◌≡◌, ◌⊎◌, ◌<◌, ◌≤◌, ◌||◌, ℕ, Bool, true, false, Ok, Err, inl, inr, refl, sym, ap, ◌∙◌, subst, arith, IsTrue, Result}
use Rattle.qcow2_image.proofs.Common.{or_cases, or_left, or_right, le_refl, le_trans, StorageView, ContentsStay, Rose, CountsChanges, KeepsFileNotes, view_in, changes_of, is_changed_of, storage_of, MetadataCaches, ImageError, Memory, ImageFile, ImageStorage, Qcow2, IsBegun, has_noted_change, is_failed, with_marks, ChangesRose, CommitFailsOnceWritten, CountsImageChanges, FailsOnceWritten, HasMoreChanges, MarksOnceChanged, NoFewerChanges, RecordsChanges, RecordsPart, ReleasesOneMapping, CommitRefused, MarksFailed, rose_since}

-- a number that rose has risen since before, and goes on having risen
rose_later : (a b c : ℕ) → b ≤ c → Rose a b → Rose a c
rose_later a b c le rose = le_trans rose le

-- a newly counted change is recorded
counted_noted : (was is : Bool) (before now : ℕ) → CountsChanges was before is now → before < now → IsTrue is
counted_noted was is before now counts more = elim counts.on [ inl same ↦ absurd (omega (arith, same, more)) | inr recorded ↦ recorded ]

module _ {S F : Type 0} where
  -- ---- numbers of changes
  fewer_none : (a : Qcow2 S F) → NoFewerChanges a a
  fewer_none a = record { storage = le_refl (changes_of a.file.storage); tables = le_refl a.file.caches.changes }

  fewer_then : (a b c : Qcow2 S F) → NoFewerChanges a b → NoFewerChanges b c → NoFewerChanges a c
  fewer_then a b c first then' = record { storage = le_trans first.storage then'.storage; tables = le_trans first.tables then'.tables }

  pub changes_later : (a b c : Qcow2 S F) → NoFewerChanges b c → ChangesRose a b → ChangesRose a c
  changes_later a b c fewer rose = elim rose [
    | inl storage ↦ inl (rose_later (changes_of a.file.storage) (changes_of b.file.storage) (changes_of c.file.storage) fewer.storage storage)
    | inr tables ↦ inr (rose_later a.file.caches.changes b.file.caches.changes c.file.caches.changes fewer.tables tables)
  ]

  pub changes_before : (a b c : Qcow2 S F) → NoFewerChanges a b → ChangesRose b c → ChangesRose a c
  changes_before a b c fewer rose = elim rose [
    | inl storage ↦ inl (rose_since (changes_of a.file.storage) (changes_of b.file.storage) (changes_of c.file.storage) fewer.storage storage)
    | inr tables ↦ inr (rose_since a.file.caches.changes b.file.caches.changes c.file.caches.changes fewer.tables tables)
  ]

module _ {S F : Type 0} (view : S → StorageView) where
  -- ---- nothing at all was done
  pub part_none : (image : Qcow2 S F) → RecordsPart view image image
  part_none image = record { honest = λ h. h; no_fewer = fewer_none image; why = λ recorded. inl recorded; contents = λ none few honest. refl }

  pub once_none : (image : Qcow2 S F) → MarksOnceChanged view image image
  once_none image = record {
    contents = λ works honest. refl;
    changed = λ failed. inl failed;
    marked = λ more. absurd (elim more [ inl lt ↦ omega (arith, lt) | inr lt ↦ omega (arith, lt) ]);
  }

  pub counts_still : (image : Qcow2 S F) → CountsImageChanges view image image
  counts_still image = record { no_fewer = fewer_none image; honest = λ h. h; contents = λ few honest. refl }

  pub fails_none : {A : Type 0} (image : Qcow2 S F) (result : Result A ImageError) → FailsOnceWritten view image image result
  fails_none image result = record { counts = counts_still image; memory = λ memory. once_none image }

  pub commit_fails_none : {A : Type 0} (image : Qcow2 S F) (result : Result A CommitRefused) → CommitFailsOnceWritten view image image result
  commit_fails_none image (Ok done) = record { counts = counts_still image; memory = tt }
  commit_fails_none image (Err refused) = record { counts = counts_still image; memory = λ memory. once_none image }

  -- ---- one call after another, and one that was answered
  pub counts_on : (a b c : Qcow2 S F) → CountsImageChanges view a b → CountsImageChanges view b c → CountsImageChanges view a c
  counts_on a b c first next = record {
    no_fewer = fewer_then a b c first.no_fewer next.no_fewer;
    honest = λ h. next.honest (first.honest h);
    contents = λ few honest. next.contents (λ rose. few (changes_before a b c first.no_fewer rose)) (first.honest honest) ∙ first.contents (λ rose. few (changes_later a b c next.no_fewer rose)) honest;
  }

  pub answered_counts : {A : Type 0} (old new : Qcow2 S F) (x : A) → CountsImageChanges view old new → FailsOnceWritten view old new (Ok x)
  answered_counts old new x counts = record { counts = counts; memory = λ bad. absurd (cc) }

  pub counts_noted : (old new : Qcow2 S F) → RecordsChanges view old new → CountsImageChanges view old new
  counts_noted old new notes = record { no_fewer = notes.no_fewer; honest = notes.honest; contents = notes.contents }

  -- a mapping was let go
  pub counts_released : (old new : Qcow2 S F) → ReleasesOneMapping view old new → CountsImageChanges view old new
  counts_released old new released =
      let storage : new.file.storage ≡ old.file.storage = ap (λ (i : Qcow2 S F). i.file.storage) released.rest in
      record {
        no_fewer = record { storage = subst (λ (s : ImageStorage S). changes_of old.file.storage ≤ changes_of s) (sym storage) (le_refl (changes_of old.file.storage)); tables = subst (λ n. old.file.caches.changes ≤ n) (sym released.counted) (le_refl old.file.caches.changes) };
        honest = λ h. subst (λ (s : ImageStorage S). (view (storage_of s)).is_honest) (sym storage) h;
        contents = λ few honest. ap (λ (s : ImageStorage S). (view (storage_of s)).contents) storage;
      }

  -- ---- a part that keeps recorded changes
  module _ (old new : Qcow2 S F) (kept : KeepsFileNotes view old.file new.file) where
    pub kept_fewer : NoFewerChanges old new
    kept_fewer = record { storage = kept.storage.changes.no_fewer; tables = kept.tables.no_fewer }

    pub kept_why : IsTrue (has_noted_change new) → IsTrue (has_noted_change old) ⊎ ChangesRose old new
    kept_why recorded = elim (or_cases (is_changed_of new.file.storage) new.file.caches.is_changed recorded) [
      | inl storage ↦ elim (kept.storage.changes.why storage) [ inl was ↦ inl (or_left (is_changed_of old.file.storage) old.file.caches.is_changed was) | inr rose ↦ inr (inl rose) ]
      | inr tables ↦ elim (kept.tables.why tables) [ inl was ↦ inl (or_right (is_changed_of old.file.storage) old.file.caches.is_changed was) | inr rose ↦ inr (inr rose) ]
    ]

    pub kept_noted : IsTrue (has_noted_change old) → IsTrue (has_noted_change new)
    kept_noted recorded = elim (or_cases (is_changed_of old.file.storage) old.file.caches.is_changed recorded) [
      | inl storage ↦ or_left (is_changed_of new.file.storage) new.file.caches.is_changed (kept.storage.changes.recorded storage)
      | inr tables ↦ or_right (is_changed_of new.file.storage) new.file.caches.is_changed (kept.tables.recorded tables)
    ]

    pub kept_counted : HasMoreChanges old new → IsTrue (has_noted_change new)
    kept_counted more = elim more [
      | inl lt ↦ or_left (is_changed_of new.file.storage) new.file.caches.is_changed (counted_noted (is_changed_of old.file.storage) (is_changed_of new.file.storage) (changes_of old.file.storage) (changes_of new.file.storage) kept.storage.changes lt)
      | inr lt ↦ or_right (is_changed_of new.file.storage) new.file.caches.is_changed (counted_noted old.file.caches.is_changed new.file.caches.is_changed old.file.caches.changes new.file.caches.changes kept.tables lt)
    ]

    kept_contents : ¬ IsTrue (has_noted_change new) → ContentsStay (view_in view old.file) (view_in view new.file)
    kept_contents none = kept.storage.contents (λ recorded. none (or_left (is_changed_of new.file.storage) new.file.caches.is_changed recorded))

  -- one that writes nothing as data
  pub notes_part : (old new : Qcow2 S F) → KeepsFileNotes view old.file new.file → RecordsPart view old new
  notes_part old new kept = record {
    honest = kept.storage.honest;
    no_fewer = kept_fewer old new kept;
    why = kept_why old new kept;
    contents = λ none few. kept_contents old new kept (λ recorded. elim (kept_why old new kept recorded) [ inl was ↦ none was | inr rose ↦ few rose ]);
  }

  -- ---- one part after another, and a part after a call
  pub parts_then : (a b c : Qcow2 S F) → RecordsPart view a b → RecordsPart view b c → RecordsPart view a c
  parts_then a b c first then' = record {
    honest = λ h. then'.honest (first.honest h);
    no_fewer = fewer_then a b c first.no_fewer then'.no_fewer;
    why = λ recorded. elim (then'.why recorded) [
      | inl was ↦ elim (first.why was) [ inl before ↦ inl before | inr rose ↦ inr (changes_later a b c then'.no_fewer rose) ]
      | inr rose ↦ inr (changes_before a b c first.no_fewer rose)
    ];
    contents = λ none few honest.
        let few_first : ¬ ChangesRose a b = λ rose. few (changes_later a b c then'.no_fewer rose) in
        then'.contents (λ recorded. elim (first.why recorded) [ inl was ↦ none was | inr rose ↦ few_first rose ]) (λ rose. few (changes_before a b c first.no_fewer rose)) (first.honest honest)
        ∙ first.contents none few_first honest;
  }

  pub call_then : (a b c : Qcow2 S F) → RecordsChanges view a b → RecordsPart view b c → RecordsChanges view a c
  call_then a b c first then' = record {
    honest = λ h. then'.honest (first.honest h);
    no_fewer = fewer_then a b c first.no_fewer then'.no_fewer;
    why = λ recorded. elim (then'.why recorded) [
      | inl was ↦ changes_later a b c then'.no_fewer (first.why was)
      | inr rose ↦ changes_before a b c first.no_fewer rose
    ];
    contents = λ few honest.
        let few_first : ¬ ChangesRose a b = λ rose. few (changes_later a b c then'.no_fewer rose) in
        then'.contents (λ recorded. few_first (first.why recorded)) (λ rose. few (changes_before a b c first.no_fewer rose)) (first.honest honest)
        ∙ first.contents few_first honest;
  }

  -- ---- a call that begins
  module _ (old begun : Qcow2 S F) (begins : IsBegun old begun) where
    tables_same : begun.file.caches.changes ≡ old.file.caches.changes
    tables_same = ap (λ (c : MetadataCaches S). c.changes) begins.caches

    pub nothing_noted : ¬ IsTrue (has_noted_change begun)
    nothing_noted recorded = elim (or_cases (is_changed_of begun.file.storage) begun.file.caches.is_changed recorded) [
      | inl storage ↦ absurd (let bad : false ≡ true = sym begins.unrecorded ∙ storage in cc)
      | inr tables ↦ absurd (let bad : false ≡ true = sym (ap (λ (c : MetadataCaches S). c.is_changed) begins.caches) ∙ tables in cc)
    ]

    rose_begun : (new : Qcow2 S F) → ChangesRose begun new → ChangesRose old new
    rose_begun new rose = elim rose [
      | inl storage ↦ inl (subst (λ n. Rose n (changes_of new.file.storage)) begins.counts storage)
      | inr tables ↦ inr (subst (λ n. Rose n new.file.caches.changes) tables_same tables)
    ]

    more_begun : (new : Qcow2 S F) → HasMoreChanges old new → HasMoreChanges begun new
    more_begun new more = elim more [
      | inl storage ↦ inl (subst (λ n. n < changes_of new.file.storage) (sym begins.counts) storage)
      | inr tables ↦ inr (subst (λ n. n < new.file.caches.changes) (sym tables_same) tables)
    ]

    -- and does a part
    pub notes_begun : (new : Qcow2 S F) → RecordsPart view begun new → RecordsChanges view old new
    notes_begun new part = record {
      honest = λ h. part.honest (subst (λ (s : S). (view s).is_honest) (sym begins.storage) h);
      no_fewer = record {
        storage = subst (λ n. n ≤ changes_of new.file.storage) begins.counts part.no_fewer.storage;
        tables = subst (λ n. n ≤ new.file.caches.changes) tables_same part.no_fewer.tables;
      };
      why = λ recorded. elim (part.why recorded) [ inl was ↦ absurd (nothing_noted was) | inr rose ↦ rose_begun new rose ];
      contents = λ few. subst (λ (s : S). ContentsStay (view s) (view_in view new.file)) begins.storage (part.contents nothing_noted (λ rose. few (rose_begun new rose)));
    }

    pub part_of_call : (new : Qcow2 S F) → RecordsChanges view old new → RecordsPart view old new
    part_of_call new call = record { honest = call.honest; no_fewer = call.no_fewer; why = λ recorded. inr (call.why recorded); contents = λ none. call.contents }

    pub notes_since : (new : Qcow2 S F) → KeepsFileNotes view begun.file new.file → RecordsPart view old new
    notes_since new kept = part_of_call new (notes_begun new (notes_part begun new kept))

    pub counts_begun : (new : Qcow2 S F) → KeepsFileNotes view begun.file new.file → CountsImageChanges view old new
    counts_begun new kept = record {
      no_fewer = record {
        storage = subst (λ n. n ≤ changes_of new.file.storage) begins.counts (kept_fewer begun new kept).storage;
        tables = subst (λ n. n ≤ new.file.caches.changes) tables_same (kept_fewer begun new kept).tables;
      };
      honest = λ h. kept.storage.honest (subst (λ (s : S). (view s).is_honest) (sym begins.storage) h);
      contents = λ few. subst (λ (s : S). ContentsStay (view s) (view_in view new.file)) begins.storage
          (kept_contents begun new kept (λ recorded. elim (kept_why begun new kept recorded) [ inl was ↦ nothing_noted was | inr rose ↦ few (rose_begun new rose) ]));
    }

    -- where it is marked at its end, and wasn't before
    pub once_marked : {A : Type 0} (mid new : Qcow2 S F) (done : Result A ImageError) → KeepsFileNotes view begun.file new.file → is_failed mid ≡ is_failed old → MarksFailed mid new done → done ≡ Err Memory → MarksOnceChanged view old new
    once_marked {A} mid new done kept same marks is =
        let mark : is_failed new ≡ (is_failed mid || has_noted_change new) = subst (λ (r : Result A ImageError). MarksFailed mid new r) is marks in
        record {
          contents = λ works. subst (λ (s : S). ContentsStay (view s) (view_in view new.file)) begins.storage (kept_contents begun new kept (λ recorded. works (mark ∙ or_right (is_failed mid) (has_noted_change new) recorded)));
          changed = λ failed. elim (or_cases (is_failed mid) (has_noted_change new) (sym mark ∙ failed)) [
            | inl was ↦ inl (sym same ∙ was)
            | inr recorded ↦ elim (kept_why begun new kept recorded) [ inl before ↦ absurd (nothing_noted before) | inr rose ↦ inr (rose_begun new rose) ]
          ];
          marked = λ more. mark ∙ or_right (is_failed mid) (has_noted_change new) (kept_counted begun new kept (more_begun new more));
        }

    pub fails_marked : {A B : Type 0} (mid new : Qcow2 S F) (done : Result A ImageError) → KeepsFileNotes view begun.file new.file → is_failed mid ≡ is_failed old → MarksFailed mid new done → (result : Result B ImageError) → (result ≡ Err Memory → done ≡ Err Memory)
        → FailsOnceWritten view old new result
    fails_marked mid new done kept same marks result from = record { counts = counts_begun new kept; memory = λ memory. once_marked mid new done kept same marks (from memory) }

    pub fails_once : {A B : Type 0} (last new : Qcow2 S F) (done : Result A ImageError) → KeepsFileNotes view begun.file last.file → is_failed last ≡ is_failed old → MarksFailed last new done → new ≡ record last { is_failed = new.is_failed } → (result : Result B ImageError)
        → (result ≡ Err Memory → done ≡ Err Memory) → FailsOnceWritten view old new result
    fails_once last new done kept same marks rest result from =
        fails_marked last new done (subst (λ (f : ImageFile S). KeepsFileNotes view begun.file f) (sym (ap (λ (i : Qcow2 S F). i.file) rest)) kept) same marks result from

    -- what was answered is marked by nothing
    pub answered_once : {B : Type 0} (last new : Qcow2 S F) → KeepsFileNotes view begun.file last.file → new ≡ record last { is_failed = new.is_failed } → (x : B) → FailsOnceWritten view old new (Ok x)
    answered_once last new kept rest x = answered_counts old new x (counts_begun new (subst (λ (f : ImageFile S). KeepsFileNotes view begun.file f) (sym (ap (λ (i : Qcow2 S F). i.file) rest)) kept))

  -- Everything was done before the image is marked, and whether a change was counted since the call began is recorded.
  marks_refused : {A : Type 0} (old last new : Qcow2 S F) (done : Result A ImageError) → RecordsChanges view old last → (done ≡ Err Memory → IsTrue (is_failed last) → IsTrue (is_failed old) ⊎ ChangesRose old last)
      → new ≡ with_marks last (is_changed_of new.file.storage) (is_failed new) → (ChangesRose old last → IsTrue (has_noted_change new)) → (IsTrue (has_noted_change new) → IsTrue (has_noted_change last) ⊎ ChangesRose old last)
      → MarksFailed last new done → done ≡ Err Memory → MarksOnceChanged view old new
  marks_refused {A} old last new done notes failed_last rest recorded why marks is =
      let mark : is_failed new ≡ (is_failed last || has_noted_change new) = subst (λ (r : Result A ImageError). MarksFailed last new r) is marks in
      let marked : ChangesRose old last → IsTrue (is_failed new) = λ rose. mark ∙ or_right (is_failed last) (has_noted_change new) (recorded rose) in
      record {
        contents = λ works. subst (λ (i : Qcow2 S F). ContentsStay (view_in view old.file) (view_in view i.file)) (sym rest) (notes.contents (λ rose. works (marked rose)));
        changed = λ failed. subst (λ (i : Qcow2 S F). IsTrue (is_failed old) ⊎ ChangesRose old i) (sym rest) (elim (or_cases (is_failed last) (has_noted_change new) (sym mark ∙ failed)) [
          | inl was ↦ failed_last is was
          | inr is_noted ↦ elim (why is_noted) [ inl was ↦ inr (notes.why was) | inr rose ↦ inr rose ]
        ]);
        marked = λ more. marked (more_rose old last (subst (λ (i : Qcow2 S F). HasMoreChanges old i) rest more));
      }
    where
      more_rose : (a b : Qcow2 S F) → HasMoreChanges a b → ChangesRose a b
      more_rose a b more = elim more [ inl lt ↦ inl (omega (arith, lt)) | inr lt ↦ inr (omega (arith, lt)) ]

  pub refused_once : {A : Type 0} (old last new : Qcow2 S F) (done : Result A ImageError) → RecordsChanges view old last → (done ≡ Err Memory → IsTrue (is_failed last) → IsTrue (is_failed old) ⊎ ChangesRose old last)
      → new ≡ with_marks last (is_changed_of new.file.storage) (is_failed new) → (ChangesRose old last → IsTrue (has_noted_change new)) → (IsTrue (has_noted_change new) → IsTrue (has_noted_change last) ⊎ ChangesRose old last)
      → MarksFailed last new done → FailsOnceWritten view old new done
  refused_once old last new done notes failed_last rest recorded why marks = record {
    counts = subst (λ (i : Qcow2 S F). CountsImageChanges view old i) (sym rest) (record { no_fewer = record { storage = notes.no_fewer.storage; tables = notes.no_fewer.tables }; honest = notes.honest; contents = notes.contents });
    memory = marks_refused old last new done notes failed_last rest recorded why marks;
  }

-- what a refused part of a call marked
pub failed_part : {S F A : Type 0} (old new : Qcow2 S F) (done : Result A ImageError) → (IsTrue (has_noted_change new) → ChangesRose old new) → MarksFailed old new done → done ≡ Err Memory → IsTrue (is_failed new) → IsTrue (is_failed old) ⊎ ChangesRose old new
failed_part {A = A} old new done why marks is failed =
    let mark : is_failed new ≡ (is_failed old || has_noted_change new) = subst (λ (r : Result A ImageError). MarksFailed old new r) is marks in
    elim (or_cases (is_failed old) (has_noted_change new) (sym mark ∙ failed)) [ inl was ↦ inl was | inr recorded ↦ inr (why recorded) ]

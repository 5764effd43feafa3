-- What a write into a prepared mapping does, from its parts.
use Rattle.std.proofs.Common.{◌≡◌, ◌+◌, ◌/◌, ◌%◌, ◌≤◌, ◌∷◌, ⊎_elim, inl, inr, ℕ, Bool, true, false, List, length, [], refl, sym, ap, ◌∙◌, subst, arith, is_some, cond, Option, Some, None, Result, Ok, Err}
use Rattle.qcow2_image.proofs.Common.{is_data_file, slice_get, BackingView, overwritten, StorageView, EachMomentSince, IsLeftBy, Bytes, byte_at, laid_over, HeaderFields, cluster_size, cover, L2Mapping, Data, Uncovered, AreDataAt, EffectOnSound, AnsweredEffect, storage, given_by_put, PreparedMapping, put_mapping, put_disk, GivenBytes, Guest, guest_of, meaning_at, run_data, works_less, works_then, ImageError, ImageStorage, storage_of, view_in, known_in, Qcow2, Prepared, raw, kind_at, IsMappedAs, put_guest, IsPut, IsWriteOutcome, PutsPart, ImageInvariant, pending_in, abstract_of, meaning, Puts, all_given_by_put, refusal_of, number_of, is_failed, cases_lt, cases_eq, cond-true, cond-false, eq-eqb, ne_eqb, known_byte, with_bytes, laid_outside, fun_ext, Mappings}
use Rattle.qcow2_alloc.specs.declared.error.ImageError.TheVariants as I
use Rattle.qcow2_image.specs.declared.mapping.MappingKind.TheVariants as Kind
use Rattle.qcow2_image.proofs.Lemmas.{Quietly, quiet_works, quiet_sound, quiet_same, works_none, outcome_answered, outcome_refused, same_guest, MayMarkBy, still_moved}
use Rattle.qcow2_disk.proofs.RunSteps.{acts_none}
use Rattle.qcow2_image.proofs.Write.Put.{put_covers, put_works, put_sound, put_seen}

-- what is mapped in place is contiguous
mapped_data : (h : HeaderFields) (known : Bytes) (offset n host : ℕ) (external backed : Bool) (v : L2Mapping) → cover h known (offset / cluster_size h) ≡ v → raw external host true ≡ kind_at h backed offset v
    → ((w : L2Mapping) → cover h known (offset / cluster_size h) ≡ w → (start : ℕ) (copied : Bool) → w ≡ Data start copied → AreDataAt h known copied offset (start + offset % cluster_size h) n) → AreDataAt h known true offset host n
mapped_data h known offset n host external backed (Data start copied) is kind given =
    let marked : true ≡ copied = cc in
    let place : host ≡ start + offset % cluster_size h = cc in
    subst (λ b. AreDataAt h known b offset host n) (sym marked) (subst (λ p. AreDataAt h known copied offset p n) (sym place) (given (Data start copied) is start copied refl))
mapped_data h known offset n host external true Uncovered is kind given = absurd cc
mapped_data h known offset n host external backed v is kind given = absurd cc

module _ {S F : Type 0} (view : S → StorageView) (backing : F → BackingView) (out : Mappings) (k : ℕ) (p : Prepared) (at : ℕ) (bytes : List ℕ) (placed : slice_get out.slots k ≡ Some (Some p)) where
  abbrev given_bytes : Qcow2 S F → List GivenBytes
  given_bytes image = all_given_by_put view backing image image out.place (abstract_of view backing image out) p at bytes

  -- nothing was done
  pub puts_nothing : (old : Qcow2 S F) (e : ImageError) → ImageInvariant view backing (pending_in view backing old out) old out → PutsPart view backing old old out k p at bytes (Err e)
  puts_nothing old e sound = record { works = (acts_none (abstract_of view backing old out) (given_bytes old) []).works sound; sound = sound; is = inl refl }

  -- a part that no guest sees, and is refused then
  pub puts_refused : (old new : Qcow2 S F) (e : ImageError) → Quietly view backing out old new → ImageInvariant view backing (pending_in view backing old out) old out → PutsPart view backing old new out k p at bytes (Err e)
  puts_refused old new e quiet sound = record {
    works = works_less (abstract_of view backing old out) (abstract_of view backing new out) [] (given_bytes old) [] (λ o v none. absurd none) (λ g u. tt) (quiet_works view backing out old new (λ _. quiet) sound);
    sound = quiet_sound view backing out old new (λ _. quiet) sound;
    is = inl (quiet_same view backing out old new (λ _. quiet) sound);
  }

  is_put_of : (a b put put' c : Guest) (r : Result (Unit {0}) ImageError) → b ≡ a → put' ≡ put → IsPut r b put' c → IsPut r a put c
  is_put_of a b put put' c (Ok _) same puts is = is ∙ puts
  is_put_of a b put put' c (Err e) same puts is = ⊎_elim (λ (still : c ≡ b). inl (still ∙ same)) (λ (fault : e ≡ I.Storage). inr fault) is

  -- or goes on
  pub puts_then : (a b c : Qcow2 S F) (r : Result (Unit {0}) ImageError) → Quietly view backing out a b → ImageInvariant view backing (pending_in view backing a out) a out → PutsPart view backing b c out k p at bytes r
      → PutsPart view backing a c out k p at bytes r
  puts_then a b c r quiet sound part =
      let same = quiet_same view backing out a b (λ _. quiet) sound in
      let mid = quiet_sound view backing out a b (λ _. quiet) sound in
      let at_place : (image : Qcow2 S F) → (guest_of (abstract_of view backing image out)).slots k ≡ Some (meaning view backing out.place image p) = λ image. ap (meaning_at (meaning view backing out.place image)) placed in
      let means : Some (meaning view backing out.place b p) ≡ Some (meaning view backing out.place a p) = sym (at_place b) ∙ ap (λ (g : Guest). g.slots k) same ∙ at_place a in
      let mean : meaning view backing out.place b p ≡ meaning view backing out.place a p = cc in
      let gives : given_bytes b ≡ given_bytes a = ap (λ (g : Guest). given_by_put g.disk (meaning view backing out.place b p) at bytes ∷ []) same ∙ ap (λ (m : PreparedMapping). given_by_put (guest_of (abstract_of view backing a out)).disk m at bytes ∷ []) mean in
      record {
        works = works_then (abstract_of view backing a out) (abstract_of view backing b out) (abstract_of view backing c out) (given_bytes a) [] mid
            (works_less (abstract_of view backing a out) (abstract_of view backing b out) [] (given_bytes a) [] (λ o v none. absurd none) (λ g u. tt) (quiet_works view backing out a b (λ _. quiet) sound))
            (subst (λ (given : List GivenBytes). EffectOnSound (abstract_of view backing b out) (abstract_of view backing c out) given []) gives part.works);
        sound = part.sound;
        is = is_put_of (guest_of (abstract_of view backing a out)) (guest_of (abstract_of view backing b out)) (put_guest (guest_of (abstract_of view backing a out)) k (meaning view backing out.place a p) at bytes)
            (put_guest (guest_of (abstract_of view backing b out)) k (meaning view backing out.place b p) at bytes) (guest_of (abstract_of view backing c out)) r same
            (ap (λ g. put_guest g k (meaning view backing out.place b p) at bytes) same ∙ ap (λ m. put_guest (guest_of (abstract_of view backing a out)) k m at bytes) mean) part.is;
      }

  -- what is mapped in place is data in a row
  pub mapped_in_place : (old : Qcow2 S F) → (p.table ≡ None → IsMappedAs view old (p.guest + at) (Kind.Raw p.place (p.offset + at) true) (length bytes))
      → p.table ≡ None → AreDataAt old.file.header.fields (known_in view old.file) true (p.guest + at) (p.offset + at) (length bytes)
  mapped_in_place old mapped none =
      let h = old.file.header.fields in
      let known = known_in view old.file in
      let run = mapped none in
      mapped_data h known (p.guest + at) (length bytes) (p.offset + at) (is_data_file p.place) (is_some old.backing) (cover h known ((p.guest + at) / cluster_size h)) refl run.kind_is
      (λ w covered start copied is_data. run_data h known (p.guest + at) (length bytes) run.alike start copied (covered ∙ is_data))

  -- the write itself
  module _ (old : Qcow2 S F) (sound : ImageInvariant view backing (pending_in view backing old out) old out) (fits : at + length bytes ≤ p.length)
      (in_place : p.table ≡ None → AreDataAt old.file.header.fields (known_in view old.file) true (p.guest + at) (p.offset + at) (length bytes)) where
    module _ (storage : ImageStorage S) (honest : (view (storage_of storage)).is_honest) (time : EachMomentSince (view_in view old.file) (view (storage_of storage)) (IsLeftBy (view (storage_of storage)))) where
      abbrev new : Qcow2 S F
      new = record old { file = record old.file { storage = storage } }

      -- it is there
      puts_changed : (view (storage_of storage)).contents ≡ overwritten (view_in view old.file).contents (p.offset + at) bytes
          → EffectOnSound (abstract_of view backing old out) (abstract_of view backing new out) (given_bytes old) [] × ImageInvariant view backing (pending_in view backing new out) new out
          × (guest_of (abstract_of view backing new out) ≡ put_guest (guest_of (abstract_of view backing old out)) k (meaning view backing out.place old p) at bytes)
      puts_changed is = (
        put_works view backing old out sound storage bytes k p at is honest time placed fits in_place,
        put_sound view backing old out sound storage bytes k p at is honest time placed fits in_place,
        put_seen view backing old out sound storage bytes k p at is honest time placed fits in_place,
      )

      pub puts_covers : (view (storage_of storage)).contents ≡ overwritten (view_in view old.file).contents (p.offset + at) bytes
          → (g : ℕ) → cover old.file.header.fields (known_in view old.file) g ≡ cover new.file.header.fields (known_in view new.file) g
      puts_covers is = put_covers view backing old out sound storage bytes k p at is honest time placed fits in_place

      -- or it isn't
      puts_still : (e : ImageError) → (view (storage_of storage)).contents ≡ (view_in view old.file).contents → PutsPart view backing old new out k p at bytes (Err e)
      puts_still e same = puts_refused old new e (record { keeps = still_moved view backing old out (pending_in view backing old out) sound storage honest time same; list = refl }) sound

      pub puts_written : (r : Result (Unit {0}) ImageError) → IsWriteOutcome r (view_in view old.file).contents (overwritten (view_in view old.file).contents (p.offset + at) bytes) (view (storage_of storage)).contents
          → PutsPart view backing old new out k p at bytes r
      puts_written (Ok done) is = let put = puts_changed is in record { works = put.0; sound = put.1; is = put.2 }
      puts_written (Err I.Storage) is = ⊎_elim (λ same. puts_still I.Storage same)
          (λ (changed : (view (storage_of storage)).contents ≡ overwritten (view_in view old.file).contents (p.offset + at) bytes). let put = puts_changed changed in record { works = put.0; sound = put.1; is = inr refl }) is
      puts_written (Err I.ReadOnly) is = puts_still I.ReadOnly is
      puts_written (Err I.BeyondSize) is = puts_still I.BeyondSize is
      puts_written (Err I.Version) is = puts_still I.Version is
      puts_written (Err I.UnalignedTable) is = puts_still I.UnalignedTable is
      puts_written (Err I.InvalidOption) is = puts_still I.InvalidOption is
      puts_written (Err I.Preallocation) is = puts_still I.Preallocation is
      puts_written (Err I.Compressed) is = puts_still I.Compressed is
      puts_written (Err I.InUse) is = puts_still I.InUse is
      puts_written (Err I.TablePrepared) is = puts_still I.TablePrepared is
      puts_written (Err I.OutdatedMapping) is = puts_still I.OutdatedMapping is
      puts_written (Err I.ForeignState) is = puts_still I.ForeignState is
      puts_written (Err I.Dependency) is = puts_still I.Dependency is
      puts_written (Err I.Limit) is = puts_still I.Limit is
      puts_written (Err I.Memory) is = puts_still I.Memory is
      puts_written (Err I.Failed) is = puts_still I.Failed is
      puts_written (Err I.MappingPrepared) is = puts_still I.MappingPrepared is
      puts_written (Err (I.NotCompressed offset)) is = puts_still (I.NotCompressed offset) is
      puts_written (Err I.Metadata) is = puts_still I.Metadata is
      puts_written (Err I.Overflow) is = puts_still I.Overflow is
      puts_written (Err (I.StillInUse tables)) is = puts_still (I.StillInUse tables) is

-- ---- a whole write into a mapping

-- of no bytes nothing is left
laid_nothing : {A : Type 0} (place : ℕ) (top under : ℕ → A) (o : ℕ) → laid_over place 0 top under o ≡ under o
laid_nothing place top under o = laid_outside place 0 top under o (elim (cases_lt o place) [ inl below ↦ inl below | inr past ↦ inr (omega arith) ])

put_none : (g : Guest) (k : ℕ) (m : PreparedMapping) (at : ℕ) → g.slots k ≡ Some m → put_guest g k m at [] ≡ g
put_none g k m at there =
    let value : (o : ℕ) → (put_disk g.disk m at []).value o ≡ g.disk.value o = λ o. elim (m.is_private o) as (λ (b : Bool). cond b (g.disk.value o) ((with_bytes g.disk (m.from + at) []).value o) ≡ g.disk.value o) [
      | true ↦ refl
      | false ↦ laid_nothing (m.from + at) (λ i. known_byte (byte_at [] i)) g.disk.value o
    ] in
    let shown : (o : ℕ) → (put_mapping m at []).shown o ≡ m.shown o = λ o. elim (m.is_private o) as (λ (b : Bool). cond b (laid_over (m.from + at) 0 (λ i. known_byte (byte_at [] i)) m.shown o) (m.shown o) ≡ m.shown o) [
      | true ↦ laid_nothing (m.from + at) (λ i. known_byte (byte_at [] i)) m.shown o
      | false ↦ refl
    ] in
    let still : put_mapping m at [] ≡ m = ap (λ f. record m { shown = f }) (fun_ext shown) in
    let slot : (j : ℕ) → (put_guest g k m at []).slots j ≡ g.slots j = λ j. elim (cases_eq j k) [
      | inl here ↦ cond-true _ _ _ (eq-eqb _ _ here) ∙ ap Some still ∙ sym there ∙ ap g.slots (sym here)
      | inr other ↦ cond-false _ _ _ (ne_eqb _ _ other)
    ] in
    same_guest _ _ (ap (λ f. record g.disk { value = f }) (fun_ext value)) (fun_ext slot)

module _ {S F : Type 0} (view : S → StorageView) (backing : F → BackingView) (old : Qcow2 S F) (p : Prepared) (at : ℕ) (bytes : List ℕ) (usable : is_failed old ≡ false) where
  pub puts_none : bytes ≡ [] → (done : Unit {0}) → Puts view backing old old p at bytes (Ok done)
  puts_none none done = λ out k placed.
      let v = abstract_of view backing old out in
      outcome_answered view backing old old out out (all_given_by_put view backing old old out.place v p at bytes)
      (λ sound. works_less v v [] (all_given_by_put view backing old old out.place v p at bytes) [] (λ o w never. absurd never) (λ g u. tt) (works_none v sound)) (λ sound. sound) refl usable
      (λ sound. sym (ap (λ b. put_guest (guest_of v) k (meaning view backing out.place old p) at b) none ∙ put_none (guest_of v) k (meaning view backing out.place old p) at (ap (meaning_at (meaning view backing out.place old)) placed)))

  -- refused before any work
  pub puts_early : (e : ImageError) → (refusal_of e ≡ storage → ⊥) → Puts view backing old old p at bytes (Err e)
  puts_early e other = λ out k placed.
      let v = abstract_of view backing old out in
      record { acts = acts_none v (all_given_by_put view backing old old out.place v p at bytes) []; answer = λ sound. inl (sound, refl); fault = λ is. absurd (other is) }

  module _ (new : Qcow2 S F) (marked : Bool) (number : number_of new ≡ number_of old) where
    pub puts_with_outcome : (r : Result (Unit {0}) ImageError) → MayMarkBy r (is_failed new) marked
        → ((out : Mappings) (k : ℕ) → slice_get out.slots k ≡ Some (Some p) → ImageInvariant view backing (pending_in view backing old out) old out → PutsPart view backing old new out k p at bytes r)
        → Puts view backing old (record new { is_failed = marked }) p at bytes r
    puts_with_outcome (Ok done) marks part = λ out k placed.
        subst (λ (f : Bool). let v = abstract_of view backing old out in let w = abstract_of view backing (record new { is_failed = f }) out in
        AnsweredEffect v w (all_given_by_put view backing old new out.place v p at bytes) [] (guest_of w ≡ put_guest (guest_of v) k (meaning view backing out.place old p) at bytes)) (sym marks)
        (outcome_answered view backing old new out out (all_given_by_put view backing old new out.place (abstract_of view backing old out) p at bytes) (λ sound. (part out k placed sound).works) (λ sound. (part out k placed sound).sound) number usable (λ sound. (part out k placed sound).is))
    puts_with_outcome (Err e) marks part = λ out k placed.
        outcome_refused view backing old new out out (all_given_by_put view backing old new out.place (abstract_of view backing old out) p at bytes) (λ sound. (part out k placed sound).works) (λ sound. (part out k placed sound).sound) number usable marked e marks
        (λ sound. (part out k placed sound).is)

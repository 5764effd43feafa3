-- Clearing as a call: it succeeds, or is refused and perhaps marked as failed.
use Rattle.std.proofs.Common.{◌≡◌, ◌⊎◌, ◌+◌, ◌-◌, ◌<◌, ◌≤◌, ◌∷◌, ◌&&◌, inl, inr, ℕ, Bool, true, false, List, [], Option, refl, sym, ap, ◌∙◌, subst, arith, min, cond, IsTrue, IsErr, IsErrAnd, Result, Ok, Err, Some, None, nat_lt}
use Rattle.qcow2_image.proofs.Common.{IfSome, MatchOption, not, option_or, pow_pos, cases_lt, cond-true, cond-false, le-ltb, lt-ltb, fun_ext, BackingView, StorageView, HeaderFields, cluster_size, entries_per_cluster, Value, known_byte, Bytes, laid_over, AbstractImage, Setting, guest_of, Clearing, to_backing, IsRefusalByFault, IsSame, Refusal, storage, another, EffectOnSound, RefusedEffect, cleared, with_disk, Disk, given_shown, answered, touched_to, GivenBytes, Sizes-from, works_less, works_then, laid_outside, ImageError, contents_in, known_in, EndsFreeing, RefusedCall, InternalCall, refusal_of, Clears, ClearsImageCovers, ClearsPart, IsUnderMapping, IsClearable, RefusesUngiven, from_in, given_bytes_between, all_given_by_clear, needs_zero_entries, refuses_to_clear, rounds_past, setting_of, shown_by, to_in, ClearMode, Qcow2, Prepared, number_of, lacks_data_file, is_failed, is_writable, size_of, has_noted_change, ImageInvariant, abstract_of, disk_of, pending_in, passes, refuse_if, MovesTables, CoversStay, Mappings}
use Rattle.qcow2_alloc.specs.declared.error.ImageError.TheVariants as I
use Rattle.qcow2_image.proofs.Call.Marked.{MayMark}
use Rattle.qcow2_image.proofs.Call.Called.{Quietly, listed, refuses_early, works_none}
use Rattle.qcow2_image.proofs.Call.Refused.{refused_then, refuses_left, stays_kept}
use Rattle.qcow2_image.proofs.Call.CallOutcomes.{outcome_answered}
use Rattle.qcow2_image.proofs.Clear.Between.{clears_after, whole_format}
use Rattle.qcow2_image.proofs.Clear.Ranges.{from_whole, to_whole, to_within}
use Rattle.qcow2_image.proofs.Images.Sizes.{disk_size}
use Rattle.qcow2_image.specs.declared.mapping.Place.{Place}

-- ---- what a check of the range answered
pub err_is : {A : Type 0} {e : ImageError} (r : Result A ImageError) → IsErr r × IsErrAnd r (λ x. x ≡ e) → r ≡ Err e
err_is (Ok a) is = absurd (let no : false ≡ true = is.0 in cc)
err_is (Err x) is = ap Err is.1

module _ {A : Type 0} (r : Result A ImageError) (a : A) where
  pub refused_for : (o : Option ImageError) (x : ImageError) → MatchOption o (r ≡ Ok a) (λ e. r ≡ Err e) → r ≡ Err x → o ≡ Some x
  refused_for None x is was = absurd (let no : Ok a ≡ Err x = sym is ∙ was in cc)
  refused_for (Some e) x is was = let both : Err e ≡ Err x = sym is ∙ was in cc

  pub not_refused : (o : Option ImageError) (b : A) → MatchOption o (r ≡ Ok a) (λ e. r ≡ Err e) → r ≡ Ok b → (o ≡ None) × (b ≡ a)
  not_refused None b is was = (refl, (let both : Ok b ≡ Ok a = sym was ∙ is in cc))
  not_refused (Some e) b is was = absurd (let no : Ok b ≡ Err e = sym was ∙ is in cc)

pub if_some : {B : Type 0} {S : Type 0} (s : S) (o : Option ImageError) (x : ImageError) (r : Result B ImageError) → o ≡ Some x → r ≡ Err x → IfSome o (λ e. (r ≡ Err e) × (s ≡ s))
if_some s None x r is was = absurd cc
if_some s (Some e) x r is was = ((let same : e ≡ x = cc in was ∙ ap Err (sym same)), refl)

-- none of them is that the storage failed
none_fails : (a b c d e f : Bool) (x : ImageError)
    → option_or (option_or (refuse_if a I.Failed) (refuse_if b I.Dependency)) (option_or (refuse_if c I.ReadOnly) (option_or (refuse_if d I.BeyondSize) (option_or (refuse_if e I.Version) (refuse_if f I.Overflow)))) ≡ Some x → refusal_of x ≡ storage → ⊥
none_fails true b c d e f x is fault = let same : I.Failed ≡ x = cc in absurd (let no : another 16 ≡ storage = ap refusal_of same ∙ fault in cc)
none_fails false true c d e f x is fault = let same : I.Dependency ≡ x = cc in absurd (let no : another 12 ≡ storage = ap refusal_of same ∙ fault in cc)
none_fails false false true d e f x is fault = let same : I.ReadOnly ≡ x = cc in absurd (let no : another 1 ≡ storage = ap refusal_of same ∙ fault in cc)
none_fails false false false true e f x is fault = let same : I.BeyondSize ≡ x = cc in absurd (let no : another 2 ≡ storage = ap refusal_of same ∙ fault in cc)
none_fails false false false false true f x is fault = let same : I.Version ≡ x = cc in absurd (let no : another 3 ≡ storage = ap refusal_of same ∙ fault in cc)
none_fails false false false false false true x is fault = let same : I.Overflow ≡ x = cc in absurd (let no : another 20 ≡ storage = ap refusal_of same ∙ fault in cc)
none_fails false false false false false false x is fault = absurd cc

pub works_if : (a : Bool) (more rest : Option ImageError) → option_or (option_or (refuse_if a I.Failed) more) rest ≡ None → a ≡ false
works_if false more rest is = refl
works_if true more rest is = absurd cc

pub clear_works : {S F : Type 0} (image : Qcow2 S F) (offset n : ℕ) (how : ClearMode) → refuses_to_clear image offset n how ≡ None → is_failed image ≡ false
clear_works image offset n how is = works_if (is_failed image) (refuse_if (lacks_data_file image) I.Dependency) _ is

-- of nothing, nothing is cleared
none_laid : (from to : ℕ) (values : ℕ → ℕ → Value) (d : Disk) → to ≤ from → record d { value = laid_over from (to - from) (values from) d.value } ≡ d
none_laid from to values d le =
    let none : to - from ≡ 0 = omega (arith, le) in
    let value : (o : ℕ) → laid_over from (to - from) (values from) d.value o ≡ d.value o = λ o. laid_outside from (to - from) (values from) d.value o (outside o) in
    ap (λ f. record d { value = f }) (fun_ext value)
  where
    outside : (o : ℕ) → (o < from) ⊎ (from + (to - from) ≤ o)
    outside o = elim (cases_lt o from) [ inl below ↦ inl below | inr above ↦ inr (omega (arith, above, le)) ]

none_cleared : (x : Setting) (d : Disk) (how : Clearing) (from to : ℕ) → to ≤ from → cleared x d how from to ≡ d
none_cleared x d to_backing from to le = none_laid from to (λ f i. known_byte (x.backing (f + i))) d le
none_cleared x d _ from to le = none_laid from to (λ f i. known_byte 0) d le

-- what is refused gives nothing more
pub refuses_more : (v w : AbstractImage) (gs : List GivenBytes) (e : Refusal) (still : Type 0) → RefusedEffect v w [] [] e still → RefusedEffect v w gs [] e still
refuses_more v w gs e still r = record {
  acts = record { number = r.acts.number; works = λ sound. works_less v w [] gs [] (λ o x never. absurd never) (λ g u. tt) (r.acts.works sound); rests = r.acts.rests };
  answer = r.answer;
  fault = r.fault;
}

-- it was refused before anything was done
pub clears_early : {S F : Type 0} (view : S → StorageView) (backing : F → BackingView) (old : Qcow2 S F) (how : ClearMode) (offset n : ℕ) (x : ImageError) → refuses_to_clear old offset n how ≡ Some x → Clears view backing how old old offset n (Err x)
clears_early view backing old how offset n x is = λ out.
    let v = abstract_of view backing old out in
    refuses_more v v (all_given_by_clear view backing out.place old how offset n) (refusal_of x) _
    (refuses_early v (refusal_of x) (none_fails (is_failed old) (lacks_data_file old) (not (is_writable old)) (passes (size_of old) offset n) (needs_zero_entries how && nat_lt old.file.header.fields.version 3) (rounds_past (cluster_size old.file.header.fields) (size_of old) offset n) x is))

-- nor did that give anything
pub ungiven_early : {S F : Type 0} (view : S → StorageView) (backing : F → BackingView) (old : Qcow2 S F) (x : ImageError) → RefusesUngiven view backing old old x
ungiven_early view backing old x none out = refuses_early (abstract_of view backing old out) (refusal_of x) (λ is. none (subst IsRefusalByFault (sym is) tt))

pub under_before : (h h' : HeaderFields) (offset : ℕ) (out : Mappings) → MovesTables h h' → IsUnderMapping h' offset out → IsUnderMapping h offset out
under_before h h' offset out format under =
    let u = subst (λ (x : HeaderFields). IsUnderMapping x offset out) format under in
    record { place = u.place; other = u.other; is_out = u.is_out; keeps_table = u.keeps_table; same_table = u.same_table }

pub under_after : (h h' : HeaderFields) (offset : ℕ) (out : Mappings) → MovesTables h h' → IsUnderMapping h offset out → IsUnderMapping h' offset out
under_after h h' offset out format u =
    subst (λ (x : HeaderFields). IsUnderMapping x offset out) (sym format) (record { place = u.place; other = u.other; is_out = u.is_out; keeps_table = u.keeps_table; same_table = u.same_table })

pub covers_after : (how : ClearMode) (from to : ℕ) (h h' h'' : HeaderFields) (known known' known'' : Bytes) → ClearsImageCovers how from to h known h' known' → CoversStay h' known' h'' known'' → ClearsImageCovers how from to h known h'' known''
covers_after how from to h h' h'' known known' known'' covers same g = sym (same g) ∙ covers g

module _ {S F : Type 0} (view : S → StorageView) (backing : F → BackingView) (old : Qcow2 S F) (how : ClearMode) (offset n : ℕ) (usable : is_failed old ≡ false) where
  abbrev from : ℕ
  from = from_in old offset n

  abbrev to : ℕ
  to = to_in old offset n

  abbrev given_bytes : Place → List GivenBytes
  given_bytes place = all_given_by_clear view backing place old how offset n

  module _ (out : Mappings) (sound : ImageInvariant view backing (pending_in view backing old out) old out) where
    abbrev v : AbstractImage
    v = abstract_of view backing old out

    size_is : size_of old ≡ (disk_of view backing out.place old).size
    size_is = disk_size view backing old out sound

    to_shown : to ≡ touched_to (cluster_size old.file.header.fields) (disk_of view backing out.place old).size offset n
    to_shown = ap (λ size. touched_to (cluster_size old.file.header.fields) size offset n) size_is

    given_bytes_are : given_bytes_between view backing out.place old how from to ≡ (given_bytes out.place)
    given_bytes_are = ap (λ end. given_shown (cleared (setting_of view backing old) (disk_of view backing out.place old) (shown_by how) from end) from end ∷ []) to_shown

    disk_is : cleared (setting_of view backing old) (disk_of view backing out.place old) (shown_by how) from to ≡ cleared (setting_of view backing old) (disk_of view backing out.place old) (shown_by how) from (touched_to (cluster_size old.file.header.fields) (disk_of view backing out.place old).size offset n)
    disk_is = ap (cleared (setting_of view backing old) (disk_of view backing out.place old) (shown_by how) from) to_shown

    answer_some : from < to → (from, min to (offset + n) - from) ≡ answered (cluster_size old.file.header.fields) (disk_of view backing out.place old).size offset n
    answer_some lt =
        ap (λ l. (from, l)) (sym (cond-true (nat_lt from to) (min to (offset + n) - from) 0 (lt-ltb from to lt)))
        ∙ ap (λ end. (from, (cond (nat_lt from end) (min end (offset + n) - from) 0))) to_shown

    answer_none : to ≤ from → (from, 0) ≡ answered (cluster_size old.file.header.fields) (disk_of view backing out.place old).size offset n
    answer_none le =
        ap (λ l. (from, l)) (sym (cond-false (nat_lt from to) (min to (offset + n) - from) 0 (le-ltb from to le)))
        ∙ ap (λ end. (from, (cond (nat_lt from end) (min end (offset + n) - from) 0))) to_shown

  -- nothing is touched
  pub clears_nothing : to ≤ from → Clears view backing how old old offset n (Ok (from, 0))
  clears_nothing le = λ out.
      outcome_answered view backing old old out out (given_bytes out.place) (λ sound. works_less (v out sound) (v out sound) [] (given_bytes out.place) [] (λ o x never. absurd never) (λ g u. tt) (works_none (v out sound) sound)) (λ sound. sound) refl usable
      (λ sound. (answer_none out sound le, ap (λ d. with_disk (guest_of (v out sound)) d) (sym (none_cleared (setting_of view backing old) (disk_of view backing out.place old) (shown_by how) from to le) ∙ disk_is out sound)))

  -- ---- it begins, and clusters are cleared
  module _ (begun entries : Qcow2 S F) (quiet : (out : Mappings) → ImageInvariant view backing (pending_in view backing old out) old out → Quietly view backing out old begun) where
    pub begins : (out : Mappings) → ImageInvariant view backing (pending_in view backing old out) old out → InternalCall view backing old begun out
    begins out sound = stays_kept view backing out old begun sound (listed view backing out old begun (quiet out) sound)

    -- the touched range is one of whole clusters
    pub whole_in : (out : Mappings) → InternalCall view backing old begun out → (IsTrue (needs_zero_entries how) → 3 ≤ old.file.header.fields.version) → IsClearable begun.file.header.fields how (from_in old offset n) (to_in old offset n)
    whole_in out call version =
        let h = old.file.header.fields in
        let h' = begun.file.header.fields in
        let sizes = Sizes-from h' (contents_in view begun.file) call.sound.file.caches.kept.kept.crash_invariant.top.header_reads in
        let some : 0 < cluster_size h = pow_pos h.cluster_bits in
        let rows : 0 < entries_per_cluster h = subst (λ (x : HeaderFields). 0 < entries_per_cluster x) call.header sizes.entries in
        whole_format view backing out h h' how (from_in old offset n) (to_in old offset n) call.header
        (record { begins = from_whole h some rows (size_of old) offset n; ends = to_whole h some rows (size_of old) offset n; within = to_within h some rows (size_of old) offset n; version = version })

    -- that was refused
    refused_ungiven : (e : ImageError) (marked : Bool) → number_of entries ≡ number_of old → MayMark e (is_failed entries) marked → (e ≡ I.Memory → IsTrue (has_noted_change entries) → IsTrue marked)
        → ((out : Mappings) → InternalCall view backing old begun out → RefusedCall view backing begun entries out e) → (out : Mappings)
        → RefusedEffect (abstract_of view backing old out) (abstract_of view backing (record entries { is_failed = marked }) out) [] [] (refusal_of e) (IsSame (abstract_of view backing old out) (abstract_of view backing (record entries { is_failed = marked }) out))
    refused_ungiven e marked number marks memory refused out = refuses_left view backing out old usable entries marked number e marks memory (λ sound. refused_then view backing out old begun entries (begins out sound) e (refused out (begins out sound)))

    pub ungiven_refused : (e : ImageError) (marked : Bool) → number_of entries ≡ number_of old → MayMark e (is_failed entries) marked → (e ≡ I.Memory → IsTrue (has_noted_change entries) → IsTrue marked)
        → ((out : Mappings) → InternalCall view backing old begun out → RefusedCall view backing begun entries out e) → RefusesUngiven view backing old (record entries { is_failed = marked }) e
    ungiven_refused e marked number marks memory refused none out = refused_ungiven e marked number marks memory refused out

    pub clear_refused : (e : ImageError) (marked : Bool) → number_of entries ≡ number_of old → MayMark e (is_failed entries) marked → (e ≡ I.Memory → IsTrue (has_noted_change entries) → IsTrue marked)
        → ((out : Mappings) → InternalCall view backing old begun out → RefusedCall view backing begun entries out e) → Clears view backing how old (record entries { is_failed = marked }) offset n (Err e)
    clear_refused e marked number marks memory refused = λ out.
        refuses_more (abstract_of view backing old out) (abstract_of view backing (record entries { is_failed = marked }) out) (given_bytes out.place) (refusal_of e) _
        (refused_ungiven e marked number marks memory refused out)

    module _ (parts : (out : Mappings) → InternalCall view backing old begun out → ClearsPart view backing how from to begun entries out) (freed : Qcow2 S F) (r : Result (Unit {0}) ImageError)
        (ends : (out : Mappings) → ImageInvariant view backing (pending_in view backing entries out) entries out → EndsFreeing view backing entries freed out r) (number : number_of freed ≡ number_of old) where
      pub part : (out : Mappings) → ImageInvariant view backing (pending_in view backing old out) old out → ClearsPart view backing how from to old entries out
      part out sound = clears_after view backing out old begun entries how from to (begins out sound) (parts out (begins out sound))

      part_works : (out : Mappings) (sound : ImageInvariant view backing (pending_in view backing old out) old out) → EffectOnSound (abstract_of view backing old out) (abstract_of view backing entries out) (given_bytes out.place) []
      part_works out sound = subst (λ gs. EffectOnSound (abstract_of view backing old out) (abstract_of view backing entries out) gs []) (given_bytes_are out sound) (part out sound).works

      -- the mappings of guest clusters afterwards
      pub clear_covers : r ≡ Ok tt → (out : Mappings) → ImageInvariant view backing (pending_in view backing old out) old out
          → ClearsImageCovers how (from_in old offset n) (to_in old offset n) old.file.header.fields (known_in view old.file) freed.file.header.fields (known_in view freed.file)
      clear_covers ok out sound =
          let it = part out sound in
          let call : InternalCall view backing entries freed out = subst (EndsFreeing view backing entries freed out) ok (ends out it.sound) in
          covers_after how from to old.file.header.fields entries.file.header.fields freed.file.header.fields (known_in view old.file) (known_in view entries.file) (known_in view freed.file) it.covers call.covers

      -- clusters were freed
      pub clear_done : r ≡ Ok tt → from < to → Clears view backing how old freed offset n (Ok (from, min to (offset + n) - from))
      clear_done ok lt = λ out.
          let a = abstract_of view backing old out in
          let e = abstract_of view backing entries out in
          let f = abstract_of view backing freed out in
          let call : ImageInvariant view backing (pending_in view backing old out) old out → InternalCall view backing entries freed out = λ sound. subst (EndsFreeing view backing entries freed out) ok (ends out (part out sound).sound) in
          outcome_answered view backing old freed out out (given_bytes out.place)
          (λ sound. works_then a e f (given_bytes out.place) [] (part out sound).sound (part_works out sound) (works_less e f [] (given_bytes out.place) [] (λ o x never. absurd never) (λ g u. tt) (call sound).works))
          (λ sound. (call sound).sound) number usable
          (λ sound. (answer_some out sound lt, (call sound).same ∙ (part out sound).shows ∙ ap (λ d. with_disk (guest_of a) d) (disk_is out sound)))

      -- that was refused: the image failed
      pub clear_interruption : (x : ImageError) → r ≡ Err x → (refusal_of x ≡ storage → IsTrue (is_failed freed)) → Clears view backing how old freed offset n (Err x)
      clear_interruption x refused marked = λ out.
          let a = abstract_of view backing old out in
          let e = abstract_of view backing entries out in
          let f = abstract_of view backing freed out in
          let ended : (sound : ImageInvariant view backing (pending_in view backing old out) old out) → EndsFreeing view backing entries freed out (Err x) = λ sound. subst (EndsFreeing view backing entries freed out) refused (ends out (part out sound).sound) in
          let failed : (sound : ImageInvariant view backing (pending_in view backing old out) old out) → IsTrue (is_failed freed) = λ sound. (ended sound).2 (part out sound).recorded in
          record {
            acts = record {
              number = number;
              works = λ sound. works_then a e f (given_bytes out.place) [] (part out sound).sound (part_works out sound) (works_less e f [] (given_bytes out.place) [] (λ o y never. absurd never) (λ g u. tt) ((ended sound).0.acts.works (part out sound).sound));
              rests = λ was. absurd (let no : true ≡ false = sym was ∙ usable in cc);
            };
            answer = λ sound. inr ((ended sound).1, failed sound);
            fault = marked;
          }

      -- it was a fault
      pub fault_interruption : (x : ImageError) → r ≡ Err x → (out : Mappings) → ImageInvariant view backing (pending_in view backing old out) old out → IsRefusalByFault (refusal_of x)
      fault_interruption x refused out sound = (subst (EndsFreeing view backing entries freed out) refused (ends out (part out sound).sound)).1

      pub ungiven_interruption : (x : ImageError) → r ≡ Err x → RefusesUngiven view backing old freed x
      ungiven_interruption x refused none out =
          let fault : ImageInvariant view backing (pending_in view backing old out) old out → ⊥ = λ sound. none (subst (EndsFreeing view backing entries freed out) refused (ends out (part out sound).sound)).1 in
          record {
            acts = record { number = number; works = λ sound. absurd (fault sound); rests = λ was. absurd (let no : true ≡ false = sym was ∙ usable in cc) };
            answer = λ sound. absurd (fault sound);
            fault = λ is. absurd (none (subst IsRefusalByFault (sym is) tt));
          }

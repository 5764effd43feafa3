-- The disk of an image is made equal to a raw disk, range by range.
use Rattle.std.proofs.Common.{◌≡◌, ◌⊎◌, ◌+◌, ◌-◌, ◌*◌, ◌/◌, ◌%◌, ◌<◌, ◌≤◌, ◌∷◌, ◌++◌, ⊎_elim, inl, inr, ℕ, List, [], replicate, take, drop, length, refl, sym, ap, ◌∙◌, subst, arith, Option, Result, Ok, Err}
use Rattle.qcow2_session.proofs.Common.{div-add-mod, mod-eq_of_lt, zero-mod, mul-add-mod_self_left, cases_lt, common_steps, length-replicate, bytes_at, same_contents, length-bytes_at, byte_at-bytes_at, byte_at, known_byte, Disk, with_bytes, GivenBytes, IsGiven, given_of, Setting, AbstractImage, Guest, guest_of, Refusal, memory, storage, not_compressed, another, AnsweredEffect, RefusedEffect, Shows, MayWrite, WritesSome, IsSame, with_disk, BackingView, StorageView, ImageError, refusal_of, FlushesImage, Qcow2, Prepared, size_of, abstract_of, HasWritten, ReadsInto, Writes, EndsCluster, cluster_size_of, RefusedConversion, HasSome, IsRawOf, Imports, ImportsAll, ImportsAt, ImportsAny, ImportsAnyAt, ImportsAnyOf, stops_none, rests_none, touches_part, Mappings}
use Rattle.qcow2_session.proofs.Bytes.{cut_short, cut_part, byte_in, byte_out, cases_place, no_bytes, same_values, part_within, rest_long, rest_part}
use Rattle.qcow2_session.proofs.Chunks.{may_write_none}
use Rattle.qcow2_session.proofs.Turns.{IsWithin, all_within, none_within, does_if, does_why, does_less, does_then, acts_less, acts_then}
use Rattle.qcow2_session.proofs.Writing.{writes_more, may_write_more}

-- no call at all
pub does_nothing : (v : AbstractImage) → AnsweredEffect v v [] [] (guest_of v ≡ guest_of v)
does_nothing v = record {
  acts = record {
    number = refl;
    works = λ h. record {
      setting = refl;
      surplus = λ _. refl;
      beside = λ _ g untouched. refl;
      leaks = refl;
      stops = stops_none v v [] [] refl (λ _. refl);
    };
    rests = λ failed. rests_none v v refl refl failed refl;
  };
  answer = λ h. (h, refl);
}

-- ---- calls that were refused

pub interrupted : {old new : AbstractImage} {given : List GivenBytes} {e : Refusal} {A : Type 0} → RefusedEffect old new given [] e A → RefusedConversion old new given e A
interrupted r = record { acts = r.acts; answer = r.answer }

pub interrupted_here : {old new : AbstractImage} {given : List GivenBytes} {A : Type 0} (e : Refusal) → AnsweredEffect old new given [] A → RefusedConversion old new given e A
interrupted_here e d = record { acts = d.acts; answer = λ sound. inl (d.answer sound) }

module _ {old new : AbstractImage} {given : List GivenBytes} {e : Refusal} {A B : Type 0} where
  pub interrupted_if : (A → B) → RefusedConversion old new given e A → RefusedConversion old new given e B
  interrupted_if to r = record { acts = r.acts; answer = λ sound. ⊎_elim (λ (a : new.is_sound × A). inl (a.0, to a.1)) (λ h. inr h) (r.answer sound) }

  pub interrupted_why : (old.is_sound → B) → RefusedConversion old new given e A → RefusedConversion old new given e (A × B)
  interrupted_why why r = record { acts = r.acts; answer = λ sound. ⊎_elim (λ (a : new.is_sound × A). inl (a.0, (a.1, why sound))) (λ h. inr h) (r.answer sound) }

module _ {old new : AbstractImage} {gs fewer : List GivenBytes} (within : IsWithin old gs fewer) where
  pub interrupted_less : {e : Refusal} {A : Type 0} → RefusedConversion old new gs e A → RefusedConversion old new fewer e A
  interrupted_less r = record { acts = acts_less within r.acts; answer = r.answer }

module _ {old mid new : AbstractImage} {gs more : List GivenBytes} {A : Type 0} (within : old.is_sound → A → IsWithin mid more gs) (first : AnsweredEffect old mid gs [] A) where
  pub interrupted_then : {e : Refusal} {B : Type 0} → RefusedConversion mid new more e B → RefusedConversion old new gs e (A × B)
  interrupted_then {B = B} then = record {
    acts = acts_then within first then.acts;
    answer = λ sound. let a = first.answer sound in ⊎_elim (λ (b : new.is_sound × B). inl (b.0, (a.1, b.1))) (λ h. inr h) (then.answer a.0);
  }

-- ---- a range

-- bytes that a disk shows are there already
pub shown_same : (d : Disk) (at : ℕ) (bytes : List ℕ) → Shows d at bytes → with_bytes d at bytes ≡ d
shown_same d at bytes shows = same_values _ _ refl (λ o. elim (cases_place at (length bytes) o) [
  | inl inside ↦
      let place : at + (o - at) ≡ o = omega (arith, inside.0) in
      byte_in d at bytes o inside.0 inside.1 ∙ sym (shows (o - at) (omega (arith, inside.0, inside.1))) ∙ ap d.value place
  | inr out ↦ byte_out d at bytes o out
])

pub shown_written : (g g' : Guest) (at : ℕ) (bytes : List ℕ) → Shows g.disk at bytes × (g' ≡ g) → HasWritten at bytes g g'
shown_written g g' at bytes h = h.1 ∙ sym (ap (λ (d : Disk). with_disk g d) (shown_same g.disk at bytes h.0))

-- none of a part of a cluster was written, where so much was as ends with a cluster
pub none_of : (size at n m : ℕ) → at % size ≡ 0 → m ≤ size → (0 < n → (n < m) × ((at + n) % size ≡ 0)) → n ≡ 0
none_of size at n m start short ends = elim (cases_lt 0 n) [
  | inl some ↦
      let h = ends some in
      let whole : size * (at / size) + at % size ≡ at = div-add-mod at size in
      let place : at + n ≡ size * (at / size) + n = omega (arith, whole, start) in
      let is : n % size ≡ 0 = sym (ap (λ k. k % size) place ∙ mul-add-mod_self_left size (at / size) n) ∙ h.1 in
      let small : n % size ≡ n = mod-eq_of_lt {n = n} {m = size} (omega (arith, h.0, short)) in
      sym small ∙ is
  | inr none ↦ omega (arith, none)
]

-- the bytes of a range are some of all
pub range_is : (contents : List ℕ) (at n : ℕ) → at + n ≤ length contents → bytes_at contents at n ≡ take n (drop at contents)
range_is contents at n le =
    let long : length (bytes_at contents at n) ≡ n = length-bytes_at contents at n in
    let cut : length (take n (drop at contents)) ≡ n = grind (arith, common_steps) in
    same_contents (bytes_at contents at n) (take n (drop at contents)) (long ∙ sym cut) (λ o lt. byte_at-bytes_at contents at n o (omega (arith, lt, long)) ∙ byte_there contents at n o (omega (arith, lt, long)) le)
  where
    byte_there : (contents : List ℕ) (at n o : ℕ) → o < n → at + n ≤ length contents → byte_at contents (at + o) ≡ byte_at (take n (drop at contents)) o
    byte_there contents at n o lt le = grind (arith, common_steps)

none_taken : (a b : List ℕ) → take 0 a ≡ take 0 b
none_taken a b = grind (arith, common_steps)

-- a value with the first bytes there is one with none of them or with all
first_or_all : (d : Disk) (at n : ℕ) (bytes : List ℕ) (o : ℕ)
    → ((with_bytes d at (take n bytes)).value o ≡ (with_bytes d at (take 0 bytes)).value o) ⊎ ((with_bytes d at (take n bytes)).value o ≡ (with_bytes d at bytes).value o)
first_or_all d at n bytes o = elim (cases_place at (length (take n bytes)) o) [
  | inl inside ↦
      let short : length (take n bytes) ≤ length bytes = cut_short n bytes in
      inr (byte_in d at (take n bytes) o inside.0 inside.1 ∙ ap known_byte (cut_part n bytes (o - at) (omega (arith, inside.0, inside.1))) ∙ sym (byte_in d at bytes o inside.0 (omega (arith, inside.1, short))))
  | inr out ↦
      let none : with_bytes d at (take 0 bytes) ≡ d = no_bytes d at (take 0 bytes) (grind (arith, common_steps)) in
      inl (byte_out d at (take n bytes) o out ∙ sym (ap (λ (k : Disk). k.value o) none))
]

-- what a refused write of the first bytes left is what one of all of them would leave
pub may_write_first : (e : Refusal) (g g' : Guest) (at n : ℕ) (bytes : List ℕ) → MayWrite e g at (take n bytes) 0 g' → MayWrite e g at bytes 0 g'
may_write_first memory g g' at n bytes may =
    let d : Disk = may.1.0 in
    let some : WritesSome g.disk at (take n bytes) 0 d = may.1.1 in (
      omega arith,
      (
        d,
        record {
          size = some.size;
          values = λ o. ⊎_elim
              (λ (e : d.value o ≡ (with_bytes g.disk at (take 0 (take n bytes))).value o). inl (e ∙ ap (λ (b : List ℕ). (with_bytes g.disk at b).value o) (none_taken (take n bytes) bytes)))
              (λ (e : d.value o ≡ (with_bytes g.disk at (take n bytes)).value o). ⊎_elim
              (λ (h : (with_bytes g.disk at (take n bytes)).value o ≡ (with_bytes g.disk at (take 0 bytes)).value o). inl (e ∙ h))
              (λ (h : (with_bytes g.disk at (take n bytes)).value o ≡ (with_bytes g.disk at bytes).value o). inr (e ∙ h)) (first_or_all g.disk at n bytes o))
              (some.values o);
        },
        may.1.2,
      ),
    )
may_write_first storage g g' at n bytes may = (omega arith, may.1 ∙ ap (λ (b : List ℕ). with_disk g (with_bytes g.disk at b)) (none_taken (take n bytes) bytes))
may_write_first (not_compressed k) g g' at n bytes may = (omega arith, may.1 ∙ ap (λ (b : List ℕ). with_disk g (with_bytes g.disk at b)) (none_taken (take n bytes) bytes))
may_write_first (another k) g g' at n bytes may = (omega arith, may.1 ∙ ap (λ (b : List ℕ). with_disk g (with_bytes g.disk at b)) (none_taken (take n bytes) bytes))

-- a write of a range was refused, and none of it is there
pub written_none : (e : Refusal) (g g' : Guest) (at n : ℕ) (bytes : List ℕ) → n ≡ 0 → MayWrite e g at bytes n g' → MayWrite e g at bytes 0 g'
written_none e g g' at n bytes none may = subst (λ k. MayWrite e g at bytes k g') none may

-- ---- one range after another
module _ (old mid new : AbstractImage) (contents : List ℕ) (at count : ℕ) (fits : at + count ≤ length contents) (chunk : List ℕ) (is : chunk ≡ bytes_at contents at count)
    (first : AnsweredEffect old mid (given_of 0 contents ∷ []) [] (guest_of mid ≡ with_disk (guest_of old) (with_bytes (guest_of old).disk 0 (take at contents)))) where
  chunk_is : chunk ≡ take count (drop at contents)
  chunk_is = is ∙ range_is contents at count fits

  short : at ≤ length contents
  short = omega (arith, fits)

  chunk_within : IsWithin mid (given_of at chunk ∷ []) (given_of at (drop at contents) ∷ [])
  chunk_within = record {
    values = λ o w h. inr (part_within at at 0 (drop at contents) (take count (drop at contents)) (omega arith) (omega (arith, cut_short count (drop at contents)))
        (λ i lt. cut_part count (drop at contents) i lt ∙ ap (byte_at (drop at contents)) (omega arith)) o w (subst (λ (b : List ℕ). IsGiven (given_of at b ∷ []) o w) chunk_is h));
    touches = let same = ap length chunk_is in let cut = cut_short count (drop at contents) in touches_part mid.setting.cluster_size _ _ _ _ (omega arith) (omega (arith, same, cut));
  }

  rest_within : IsWithin mid (given_of at (drop at contents) ∷ []) (given_of 0 contents ∷ [])
  rest_within = record {
    values = λ o w h. inr (part_within 0 at at contents (drop at contents) (omega arith) (rest_long at contents short) (λ i lt. rest_part at contents i short lt) o w h);
    touches = let long = rest_long at contents short in touches_part mid.setting.cluster_size _ _ _ _ (omega arith) (omega (arith, long));
  }

  pub imports_more : AnsweredEffect mid new (given_of at chunk ∷ []) [] (HasWritten at chunk (guest_of mid) (guest_of new))
      → AnsweredEffect old new (given_of 0 contents ∷ []) [] (guest_of new ≡ with_disk (guest_of old) (with_bytes (guest_of old).disk 0 (take (at + count) contents)))
  imports_more next = writes_more 0 at at contents short (omega arith) old mid new first count
      (does_if (λ h. subst (λ (b : List ℕ). HasWritten at b (guest_of mid) (guest_of new)) chunk_is h) (does_less chunk_within next))

  -- the range was refused, and lies within a cluster
  pub imports_refused : (e : Refusal) (size : ℕ) (aligned : Type 0) → at % size ≡ 0 → (old.is_sound → aligned)
      → RefusedConversion mid new (given_of at chunk ∷ []) e (aligned → MayWrite e (guest_of mid) at chunk 0 (guest_of new))
      → RefusedConversion old new (given_of 0 contents ∷ []) e (HasSome size contents e (guest_of old) (guest_of new))
  imports_refused e size aligned start is_aligned next =
      interrupted_if (λ h. (
        at,
        inl start,
        may_write_more 0 at at contents short (omega arith) e (guest_of old) (guest_of mid) (guest_of new) h.0.0 (may_write_first e (guest_of mid) (guest_of new) at count (drop at contents) (subst (λ (b : List ℕ). MayWrite e (guest_of mid) at b 0 (guest_of new)) chunk_is (h.0.1 h.1))),
      ))
      (interrupted_why is_aligned (interrupted_then {more = given_of at (drop at contents) ∷ []} (λ _ _. rest_within) first (interrupted_less chunk_within next)))

-- ---- a range, in the calls' words
module _ {S F : Type 0} (view : S → StorageView) (backing : F → BackingView) (old new : Qcow2 S F) (at : ℕ) (bytes : List ℕ) where
  -- nothing was written
  pub at_refused : (e : ImageError) (r : Result (Unit {0}) ImageError) → r ≡ Err e
      → ((out : Mappings) → RefusedConversion (abstract_of view backing old out) (abstract_of view backing new out) [] (refusal_of e) (IsSame (abstract_of view backing old out) (abstract_of view backing new out)))
      → ImportsAt view backing old new at bytes r
  at_refused e r is off = subst (λ x. ImportsAt view backing old new at bytes x) (sym is) (λ out.
      interrupted_if (λ same start short. may_write_none (refusal_of e) (guest_of (abstract_of view backing old out)) (guest_of (abstract_of view backing new out)) at bytes same)
      (interrupted_less (none_within (abstract_of view backing old out) (given_of at bytes ∷ [])) (off out)))

  -- the bytes were there
  pub at_shown : (present wanted : List ℕ) → wanted ≡ present → wanted ≡ bytes → ReadsInto view backing old new at present (Ok tt) → ImportsAt view backing old new at bytes (Ok tt)
  at_shown present wanted same are reads out =
      does_if (λ h. shown_written (guest_of (abstract_of view backing old out)) (guest_of (abstract_of view backing new out)) at bytes
      (subst (λ (b : List ℕ). Shows (guest_of (abstract_of view backing old out)).disk at b) (sym same ∙ are) h.0, h.1))
      (does_less (none_within (abstract_of view backing old out) (given_of at bytes ∷ [])) (reads out))

  module _ (mid : Qcow2 S F) (present : List ℕ) (reads : ReadsInto view backing old mid at present (Ok tt)) (wanted : List ℕ) (are : wanted ≡ bytes) where
    read_same : (out : Mappings) → AnsweredEffect (abstract_of view backing old out) (abstract_of view backing mid out) (given_of at wanted ∷ []) [] (guest_of (abstract_of view backing mid out) ≡ guest_of (abstract_of view backing old out))
    read_same out = does_if (λ h. h.1) (does_less (none_within (abstract_of view backing old out) (given_of at wanted ∷ [])) (reads out))

    -- they are written
    pub at_written : Writes view backing mid new at wanted (Ok tt) → ImportsAt view backing old new at bytes (Ok tt)
    at_written writes = subst (λ (b : List ℕ). ImportsAt view backing old new at b (Ok tt)) are (λ out.
        does_if (λ h. h.1 ∙ ap (λ (g : Guest). with_disk g (with_bytes g.disk at wanted)) h.0) (does_then (λ _ _. all_within (abstract_of view backing mid out) (given_of at wanted ∷ [])) (read_same out) (writes out)))

    -- the write was refused
    pub at_unwritten : (e : ImageError) (n : ℕ) → Writes view backing mid new at wanted (Err (e, n))
        → ((out : Mappings) → (abstract_of view backing mid out).is_sound → 0 < n → (n < length wanted) × EndsCluster mid (at + n)) → ImportsAt view backing old new at bytes (Err e)
    at_unwritten e n writes ends = subst (λ (b : List ℕ). ImportsAt view backing old new at b (Err e)) are (λ out.
        let first = read_same out in
        interrupted_if (λ h start short.
        let none : n ≡ 0 = none_of (cluster_size_of old) at n (length wanted) start short (λ some. let x = h.1.1 some in (x.0, subst (λ size. (at + n) % size ≡ 0) h.1.0 x.1)) in
        written_none (refusal_of e) (guest_of (abstract_of view backing old out)) (guest_of (abstract_of view backing new out)) at n wanted none
        (subst (λ (g : Guest). MayWrite (refusal_of e) g at wanted n (guest_of (abstract_of view backing new out))) h.0.0 h.0.1))
        (interrupted_why {B = (cluster_size_of mid ≡ cluster_size_of old) × (0 < n → (n < length wanted) × EndsCluster mid (at + n))} (λ sound. (ap (λ (x : Setting). x.cluster_size) (first.acts.works sound).setting, ends out (first.answer sound).0)) (interrupted_then (λ _ _. all_within (abstract_of view backing mid out) (given_of at wanted ∷ [])) first (interrupted (writes out)))))

-- ---- all ranges, in the calls' words

-- nothing yet
pub imports_none : (v : AbstractImage) (contents : List ℕ) → AnsweredEffect v v (given_of 0 contents ∷ []) [] (guest_of v ≡ with_disk (guest_of v) (with_bytes (guest_of v).disk 0 (take 0 contents)))
imports_none v contents =
    let none : with_bytes (guest_of v).disk 0 (take 0 contents) ≡ (guest_of v).disk = no_bytes (guest_of v).disk 0 (take 0 contents) (grind (arith, common_steps)) in
    does_if (λ same. sym (ap (λ (d : Disk). with_disk (guest_of v) d) none)) (does_less (none_within v (given_of 0 contents ∷ [])) (does_nothing v))

pub may_write_all : (e : Refusal) (g g' : Guest) (contents : List ℕ) → HasWritten 0 contents g g' → MayWrite e g 0 contents (length contents) g'
may_write_all e g g' contents written =
    let all : take (length contents) contents ≡ contents = grind (arith, common_steps) in
    let plain : g' ≡ with_disk g (with_bytes g.disk 0 (take (length contents) contents)) = written ∙ sym (ap (λ (b : List ℕ). with_disk g (with_bytes g.disk 0 b)) all) in
    elim e as (λ k. MayWrite k g 0 contents (length contents) g') [
      | memory ↦ (omega arith, (with_bytes g.disk 0 (take (length contents) contents), record { size = refl; values = λ o. inl refl }, plain))
      | storage ↦ (omega arith, plain)
      | not_compressed n ↦ (omega arith, plain)
      | another n ↦ (omega arith, plain)
    ]

-- a disk on which all of a raw disk's bytes are written
pub raw_written : (g g' : Guest) (contents : List ℕ) → length contents ≡ g.disk.size → HasWritten 0 contents g g' → IsRawOf g'.disk contents
raw_written g g' contents long written =
    let disk-is : g'.disk ≡ with_bytes g.disk 0 contents = ap (λ (x : Guest). x.disk) written in (
      long ∙ sym (ap (λ (d : Disk). d.size) disk-is),
      λ i lt.
          let at : 0 + i ≡ i = omega arith in
          let back : 0 + i - 0 ≡ i = omega arith in
          ap (λ (d : Disk). d.value (0 + i)) disk-is ∙ byte_in g.disk 0 contents (0 + i) (omega arith) (omega (arith, lt)) ∙ ap (λ k. known_byte (byte_at contents k)) back,
    )

module _ {S F : Type 0} (view : S → StorageView) (backing : F → BackingView) (old : Qcow2 S F) (contents : List ℕ) where
  pub imports_nothing : (e : ImageError) (r : Result ℕ ImageError) → r ≡ Err e → Imports view backing old old contents r
  imports_nothing e r is = subst (λ x. Imports view backing old old contents x) (sym is) (λ out.
      let v = abstract_of view backing old out in
      interrupted_if (λ same. (0, inl (zero-mod (cluster_size_of old)), may_write_none (refusal_of e) (guest_of v) (guest_of v) 0 contents same))
      (interrupted_less (none_within v (given_of 0 contents ∷ [])) (interrupted_here (refusal_of e) (does_nothing v))))

  module _ (mid new : Qcow2 S F) where
    -- the flush was refused
    pub imports_unflushed : (e : ImageError) (r : Result ℕ ImageError) → r ≡ Err e → ImportsAll view backing old mid contents (Ok tt) → FlushesImage view backing mid new (Err e) → Imports view backing old new contents r
    imports_unflushed e r is all flush = subst (λ x. Imports view backing old new contents x) (sym is) (λ out.
        interrupted_if (λ h. (length contents, inr refl, may_write_all (refusal_of e) (guest_of (abstract_of view backing old out)) (guest_of (abstract_of view backing new out)) contents (h.1 ∙ h.0)))
        (interrupted_then (λ _ _. none_within (abstract_of view backing mid out) (given_of 0 contents ∷ [])) (all out) (interrupted (flush out))))

    pub imports_flushed : (n : ℕ) → n ≡ length contents → ((out : Mappings) → (abstract_of view backing old out).is_sound → length contents ≡ (guest_of (abstract_of view backing old out)).disk.size)
        → ImportsAll view backing old mid contents (Ok tt) → FlushesImage view backing mid new (Ok tt) → Imports view backing old new contents (Ok n)
    imports_flushed n count sized all flush out =
        let v = abstract_of view backing old out in
        let w = abstract_of view backing new out in
        does_if (λ h.
        let written : HasWritten 0 contents (guest_of v) (guest_of w) = h.0.1.1 ∙ h.0.0 in
        (count, raw_written (guest_of v) (guest_of w) contents h.1 written, written, h.0.1.0))
        (does_why (sized out) (does_then (λ _ _. none_within (abstract_of view backing mid out) (given_of 0 contents ∷ [])) (all out) (flush out)))

    module _ (at count : ℕ) (fits : at + count ≤ length contents) (chunk : List ℕ) (is : chunk ≡ bytes_at contents at count)
        (first : (out : Mappings) → AnsweredEffect (abstract_of view backing old out) (abstract_of view backing mid out) (given_of 0 contents ∷ []) []
        (guest_of (abstract_of view backing mid out) ≡ with_disk (guest_of (abstract_of view backing old out)) (with_bytes (guest_of (abstract_of view backing old out)).disk 0 (take at contents)))) where
      pub all_more : ImportsAt view backing mid new at chunk (Ok tt) → (out : Mappings) → AnsweredEffect (abstract_of view backing old out) (abstract_of view backing new out) (given_of 0 contents ∷ []) []
          (guest_of (abstract_of view backing new out) ≡ with_disk (guest_of (abstract_of view backing old out)) (with_bytes (guest_of (abstract_of view backing old out)).disk 0 (take (at + count) contents)))
      all_more next out = imports_more (abstract_of view backing old out) (abstract_of view backing mid out) (abstract_of view backing new out) contents at count fits chunk is (first out) (next out)

      pub all_refused : (e : ImageError) (r : Result (Unit {0}) ImageError) → r ≡ Err e → at % cluster_size_of old ≡ 0 → count ≤ cluster_size_of old
          → ImportsAt view backing mid new at chunk (Err e) → ImportsAll view backing old new contents r
      all_refused e r err start small next = subst (λ x. ImportsAll view backing old new contents x) (sym err) (λ out.
          let long : length chunk ≡ count = ap length is ∙ length-bytes_at contents at count in
          imports_refused (abstract_of view backing old out) (abstract_of view backing mid out) (abstract_of view backing new out) contents at count fits chunk is (first out)
          (refusal_of e) (cluster_size_of old) ((at % cluster_size_of mid ≡ 0) × (length chunk ≤ cluster_size_of mid)) start
          (λ sound.
          let same : cluster_size_of mid ≡ cluster_size_of old = ap (λ (x : Setting). x.cluster_size) ((first out).acts.works sound).setting in
          (subst (λ size. at % size ≡ 0) (sym same) start, omega (arith, same, long, small)))
          (interrupted_if (λ f both. f both.0 both.1) (next out)))

-- the same range of the same bytes
pub same_range : (c d : List ℕ) (at n m : ℕ) → c ≡ d → n ≡ m → bytes_at c at n ≡ bytes_at d at m
same_range c d at n m lists counts = ap (λ k. bytes_at k at n) lists ∙ ap (λ k. bytes_at d at k) counts

-- ---- whatever the raw disk is

-- bytes that were written are the first of more
module _ (read whole : List ℕ) (at : ℕ) (long : length read ≡ at) (front : take at whole ≡ read) where
  first_within : (v : AbstractImage) → IsWithin v (given_of 0 read ∷ []) (given_of 0 whole ∷ [])
  first_within v = record {
    values = λ o w h. inr (part_within 0 0 0 whole (take at whole) (omega arith) (omega (arith, cut_short at whole)) (λ i lt. cut_part at whole i lt ∙ ap (byte_at whole) (omega arith)) o w (subst (λ (b : List ℕ). IsGiven (given_of 0 b ∷ []) o w) (sym front) h));
    touches = let same = ap length front in let cut = cut_short at whole in touches_part v.setting.cluster_size _ _ _ _ (omega arith) (omega (arith, same, cut));
  }

  pub first_of : (v m : AbstractImage) → AnsweredEffect v m (given_of 0 read ∷ []) [] (HasWritten 0 read (guest_of v) (guest_of m))
      → AnsweredEffect v m (given_of 0 whole ∷ []) [] (guest_of m ≡ with_disk (guest_of v) (with_bytes (guest_of v).disk 0 (take at whole)))
  first_of v m first = does_if (λ e. subst (λ (b : List ℕ). guest_of m ≡ with_disk (guest_of v) (with_bytes (guest_of v).disk 0 b)) (sym front) e) (does_less (first_within v) first)

-- a list, and parts of it in a row
front_is : (read rest : List ℕ) → take (length read) (read ++ rest) ≡ read
front_is read rest = grind (arith, common_steps)

behind_is : (read rest : List ℕ) → drop (length read) (read ++ rest) ≡ rest
behind_is read rest = grind (arith, common_steps)

next_is : (read chunk rest : List ℕ) (at : ℕ) → length read ≡ at → chunk ≡ bytes_at (read ++ (chunk ++ rest)) at (length chunk)
next_is read chunk rest at long =
    let whole = read ++ (chunk ++ rest) in
    let fits : at + length chunk ≤ length whole = fit read chunk rest at long in
    sym (range_is whole at (length chunk) fits ∙ ap (λ k. take (length chunk) (drop k whole)) (sym long) ∙ ap (take (length chunk)) (behind_is read (chunk ++ rest)) ∙ front_is chunk rest)
  where
    fit : (read chunk rest : List ℕ) (at : ℕ) → length read ≡ at → at + length chunk ≤ length (read ++ (chunk ++ rest))
    fit read chunk rest at long = grind (arith, common_steps)

all_taken : (read chunk : List ℕ) (at : ℕ) → length read ≡ at → take (at + length chunk) (read ++ (chunk ++ [])) ≡ read ++ (chunk ++ [])
all_taken read chunk at long = grind (arith, common_steps)

in_row : (read chunk rest : List ℕ) (at : ℕ) → length read ≡ at → (at + length chunk) + length rest ≡ length (read ++ (chunk ++ rest))
in_row read chunk rest at long = grind (arith, common_steps)

-- nothing yet
pub any_none : {S F : Type 0} (view : S → StorageView) (backing : F → BackingView) (old : Qcow2 S F) → ImportsAnyOf view backing old old 0 (Ok tt)
any_none view backing old = ([], refl, λ out. imports_none (abstract_of view backing old out) [])

-- nothing was done
pub any_nothing : {S F : Type 0} (view : S → StorageView) (backing : F → BackingView) (old : Qcow2 S F) (e : ImageError) (r : Result ℕ ImageError) → r ≡ Err e → ImportsAny view backing old old r
any_nothing view backing old e r is = (replicate (size_of old) 0, length-replicate (size_of old) 0, imports_nothing view backing old (replicate (size_of old) 0) e r is)

module _ {S F : Type 0} (view : S → StorageView) (backing : F → BackingView) (old mid new : Qcow2 S F) (at : ℕ) (first : ImportsAnyOf view backing old mid at (Ok tt)) (n : ℕ) where
  -- a range more
  pub any_more : ImportsAnyAt view backing mid new at n (Ok tt) → ImportsAnyOf view backing old new (at + n) (Ok tt)
  any_more next =
      let read : List ℕ = first.0 in
      let chunk : List ℕ = next.0 in
      let long : length read ≡ at = first.1 in
      let count : length chunk ≡ n = next.1 in
      let whole : List ℕ = read ++ (chunk ++ []) in
      let row : (at + length chunk) + 0 ≡ length whole = in_row read chunk [] at long in
      let front : take at whole ≡ read = ap (λ k. take k whole) (sym long) ∙ front_is read (chunk ++ []) in (
        whole,
        omega (arith, row, count),
        λ out.
            let v = abstract_of view backing old out in
            does_if (λ e. subst (λ (b : List ℕ). guest_of (abstract_of view backing new out) ≡ with_disk (guest_of v) (with_bytes (guest_of v).disk 0 b)) (all_taken read chunk at long) e)
            (all_more view backing old whole mid new at (length chunk) (omega (arith, row)) chunk (next_is read chunk [] at long)
            (λ out. first_of read whole at long front (abstract_of view backing old out) (abstract_of view backing mid out) (first.2 out)) next.2 out),
      )

  -- the range was refused; any bytes may be given after it
  pub any_refused : (size : ℕ) → at + n ≤ size → (e : ImageError) (r : Result (Unit {0}) ImageError) → r ≡ Err e → at % cluster_size_of old ≡ 0 → n ≤ cluster_size_of old
      → ImportsAnyAt view backing mid new at n (Err e) → ImportsAnyOf view backing old new size r
  any_refused size fits e r err start small next =
      let read : List ℕ = first.0 in
      let chunk : List ℕ = next.0 in
      let long : length read ≡ at = first.1 in
      let count : length chunk ≡ n = next.1 in
      let rest : List ℕ = replicate (size - (at + n)) 0 in
      let left : length rest ≡ size - (at + n) = length-replicate (size - (at + n)) 0 in
      let whole : List ℕ = read ++ (chunk ++ rest) in
      let row : (at + length chunk) + length rest ≡ length whole = in_row read chunk rest at long in
      let front : take at whole ≡ read = ap (λ k. take k whole) (sym long) ∙ front_is read (chunk ++ rest) in (
        whole,
        omega (arith, row, count, left, fits),
        all_refused view backing old whole mid new at (length chunk) (omega (arith, row)) chunk (next_is read chunk rest at long)
            (λ out. first_of read whole at long front (abstract_of view backing old out) (abstract_of view backing mid out) (first.2 out)) e r err start (omega (arith, count, small)) next.2,
      )

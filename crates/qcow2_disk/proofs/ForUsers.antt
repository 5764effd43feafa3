-- The laws for users: values that were given, put and committed.
use Rattle.std.proofs.Common.{◌≡◌, ◌⊎◌, ◌+◌, ◌-◌, ◌<◌, ◌≤◌, ◌∷◌, if◌then◌else◌, IsTrue, ⊎_elim, inl, inr, ltb, leb, ℕ, refl, sym, ap, ◌∙◌, subst, Bool, true, false, Option, Some, List, [], length, arith}
use Rattle.qcow2_disk.proofs.Common.{cases_lt, cond-true, cond-false, lt-leb, le-ltb, and_left, and_right, byte_at, laid_over, Value, known_byte, Disk, disk, with_bytes, given_at, IsGiven, PreparedMapping, given_by_put, put_disk, put_mapping, committed}
use Rattle.qcow2_disk.specs.ForUsers.{PrivateBytesAreUnseen, CommittedIsReadBack, PutIsReadInPlace, HiddenBytesAreNotGiven, FlushedIsExact}

pub exact : FlushedIsExact
exact backing header_bytes b d stop =
    let size = ⊎_elim (λ (e : (disk b backing).size ≡ d.size). e) (λ h. absurd h) stop.size in
    (size, (λ o lt. ⊎_elim (λ (e : (disk b backing).value o ≡ d.value o). e) (λ h. absurd h) (stop.values o (subst (λ s. o < s) (sym size) lt) lt)))

some_is : {X : Type 0} {a b : X} → Some a ≡ Some b → a ≡ b
some_is e = cc

byte_is : {a b : ℕ} → known_byte a ≡ known_byte b → a ≡ b
byte_is e = cc

both : {X : Type 0} (test : Bool) (a x b c v : X) → a ≡ v → c ≡ v → (if test then (if test then a else x) else (if test then b else c)) ≡ v
both true a x b c v e f = e
both false a x b c v e f = f

pub laid_inside : {A : Type 0} (place n : ℕ) (top under : ℕ → A) (i : ℕ) → i < n → laid_over place n top under (place + i) ≡ top i
unfolding laid_over
laid_inside place n top under i lt = grind arith

pub laid_outside : {A : Type 0} (place n : ℕ) (top under : ℕ → A) (o : ℕ) → (o < place) ⊎ (place + n ≤ o) → laid_over place n top under o ≡ under o
unfolding laid_over
laid_outside place n top under o (inl below) = cond-false _ _ _ (and_left (leb place o) (ltb o (place + n)) (lt-leb place o below))
laid_outside place n top under o (inr past) = cond-false _ _ _ (and_right (leb place o) (ltb o (place + n)) (le-ltb o (place + n) past))

either : {X : Type 0} (test : Bool) (a b v : X) → a ≡ v → b ≡ v → (if test then a else b) ≡ v
either true a b v e f = e
either false a b v e f = f

-- bytes that are put where a mapping is private leave the disk
put_unseen : (d : Disk) (m : PreparedMapping) (at : ℕ) (bytes : List ℕ) → ((i : ℕ) → i < length bytes → IsTrue (m.is_private (m.from + at + i))) → (o : ℕ) → (put_disk d m at bytes).value o ≡ d.value o
put_unseen d m at bytes private o = elim (cases_lt o (m.from + at)) [
  | inl below ↦ either (m.is_private o) (d.value o) ((with_bytes d (m.from + at) bytes).value o) (d.value o) refl (laid_outside (m.from + at) (length bytes) (λ k. known_byte (byte_at bytes k)) d.value o (inl below))
  | inr above ↦ elim (cases_lt o (m.from + at + length bytes)) [
    | inl inside ↦
        let here : m.from + at + (o - (m.from + at)) ≡ o = omega arith in
        cond-true (m.is_private o) (d.value o) ((with_bytes d (m.from + at) bytes).value o) (subst (λ n. IsTrue (m.is_private n)) here (private (o - (m.from + at)) (omega arith)))
    | inr past ↦ either (m.is_private o) (d.value o) ((with_bytes d (m.from + at) bytes).value o) (d.value o) refl (laid_outside (m.from + at) (length bytes) (λ k. known_byte (byte_at bytes k)) d.value o (inr past))
  ]
]

pub unseen : PrivateBytesAreUnseen
unseen x found g0 g1 g2 g3 slot offset n host count at overwrite is_existing bytes prepared private put discard = grind (arith, put_unseen)

-- the values at the offsets of the bytes that were put, once they are committed
there_at : (g : Disk) (m : PreparedMapping) (at : ℕ) (bytes : List ℕ) (i : ℕ) → i < length bytes
    → (committed (put_disk g m at bytes) (put_mapping m at bytes)).value (m.from + at + i) ≡ known_byte (byte_at bytes i)
there_at g m at bytes i lt = grind (arith, laid_inside)

pub read_back : CommittedIsReadBack
read_back x found g0 g1 g2 g3 m slot at n i bytes answer there put commit read lt within = grind (arith, there_at)

pub read_in_place : PutIsReadInPlace
read_in_place x found g0 g1 g2 m slot at offset n i bytes answer there put read lt = grind arith

-- what a put gives: a byte of those that were put, or where they are hidden what the disk shows
pub put_given : (d : Disk) (m : PreparedMapping) (at : ℕ) (bytes : List ℕ) (o : ℕ) (v : Value) → IsGiven (given_by_put d m at bytes ∷ []) o v
    → (m.from + at ≤ o) × (o < m.from + at + length bytes) × (v ≡ (if m.is_hidden o then d.value o else known_byte (byte_at bytes (o - (m.from + at)))))
put_given d m at bytes o v (inr none) = absurd none
put_given d m at bytes o v (inl given) =
    let here : m.from + at + (o - (m.from + at)) ≡ o = omega (arith, given.0) in
    (given.0, given.1, given.2 ∙ ap (λ n. if m.is_hidden n then d.value n else known_byte (byte_at bytes (o - (m.from + at)))) here)

pub hidden_given : HiddenBytesAreNotGiven
hidden_given x g m slot at o bytes v there hidden given =
    let is = put_given g.disk m at bytes o v (subst (λ (n : Option PreparedMapping). IsGiven (given_at n (λ k. given_by_put g.disk k at bytes)) o v) there given) in
    is.2 ∙ cond-true (m.is_hidden o) (g.disk.value o) (known_byte (byte_at bytes (o - (m.from + at)))) hidden

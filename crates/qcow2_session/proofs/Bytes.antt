-- Bytes at an offset of a disk, in parts.
use Rattle.std.proofs.Common.{◌≡◌, ◌⊎◌, ◌+◌, ◌-◌, ◌<◌, ◌≤◌, ◌∷◌, ◌++◌, inl, inr, ⊎_elim, ℕ, leb, ltb, min, List, [], take, drop, length, true, false, refl, sym, ap, ◌∙◌, subst, arith}
use Rattle.qcow2_session.proofs.Common.{cond-true, cond-false, cases_Bool, leb-true, ltb-true, leb-false, ltb-false, take-append-le, length-take-le, common_steps, fun_ext, byte_at, laid_over, is_within, Value, known_byte, Disk, with_bytes, IsGiven, given_of, Shows}
use Rattle.std.proofs.Math.Seq.{take-append-add}
use Rattle.qcow2_disk.proofs.ForUsers.{laid_inside, laid_outside}

-- where an offset lies
pub cases_place : (place n o : ℕ) → (place ≤ o) × (o < place + n) ⊎ ((o < place) ⊎ (place + n ≤ o))
cases_place place n o = elim (cases_Bool (leb place o)) [
  | inl low ↦ elim (cases_Bool (ltb o (place + n))) [
    | inl high ↦ inl (leb-true place o low, ltb-true o (place + n) high)
    | inr past ↦ inr (inr (ltb-false o (place + n) past))
  ]
  | inr below ↦ inr (inl (leb-false place o below))
]

pub laid_in : {A : Type 0} (place n : ℕ) (top under : ℕ → A) (o : ℕ) → is_within place n o ≡ true → laid_over place n top under o ≡ top (o - place)
unfolding laid_over
laid_in place n top under o inside = cond-true (is_within place n o) (top (o - place)) (under o) inside

pub laid_out : {A : Type 0} (place n : ℕ) (top under : ℕ → A) (o : ℕ) → is_within place n o ≡ false → laid_over place n top under o ≡ under o
unfolding laid_over
laid_out place n top under o outside = cond-false (is_within place n o) (top (o - place)) (under o) outside

-- ---- bytes of a disk

pub byte_in : (d : Disk) (offset : ℕ) (bytes : List ℕ) (o : ℕ) → offset ≤ o → o < offset + length bytes → (with_bytes d offset bytes).value o ≡ known_byte (byte_at bytes (o - offset))
byte_in d offset bytes o low high =
    let at : offset + (o - offset) ≡ o = omega arith in
    subst (λ k. (with_bytes d offset bytes).value k ≡ known_byte (byte_at bytes (o - offset))) at (laid_inside offset (length bytes) (λ i. known_byte (byte_at bytes i)) d.value (o - offset) (omega arith))

pub byte_out : (d : Disk) (offset : ℕ) (bytes : List ℕ) (o : ℕ) → (o < offset) ⊎ (offset + length bytes ≤ o) → (with_bytes d offset bytes).value o ≡ d.value o
byte_out d offset bytes o out = laid_outside offset (length bytes) (λ i. known_byte (byte_at bytes i)) d.value o out

pub same_values : (d e : Disk) → d.size ≡ e.size → ((o : ℕ) → d.value o ≡ e.value o) → d ≡ e
same_values d e size values = ap (λ n. record d { size = n }) size ∙ ap (λ (f : ℕ → Value). record e { value = f }) (fun_ext values)

pub no_bytes : (d : Disk) (offset : ℕ) (bytes : List ℕ) → length bytes ≡ 0 → with_bytes d offset bytes ≡ d
no_bytes d offset bytes none = same_values _ _ refl (λ o. byte_out d offset bytes o (⊎_elim (λ h. absurd (omega (arith, h.0, h.1, none))) (λ h. h) (cases_place offset (length bytes) o)))

byte_first : (a b : List ℕ) (i : ℕ) → i < length a → byte_at (a ++ b) i ≡ byte_at a i
byte_first a b i lt = grind (arith, common_steps)

byte_second : (a b : List ℕ) (i : ℕ) → byte_at (a ++ b) (length a + i) ≡ byte_at b i
byte_second a b i = grind (arith, common_steps)

long_both : (a b : List ℕ) → length (a ++ b) ≡ length a + length b
long_both a b = grind (arith, common_steps)

-- one part after another
pub with_both : (d : Disk) (offset : ℕ) (a b : List ℕ) → with_bytes (with_bytes d offset a) (offset + length a) b ≡ with_bytes d offset (a ++ b)
with_both d offset a b = same_values _ _ refl (λ o.
    let long = long_both a b in
    elim (cases_place (offset + length a) (length b) o) [
      | inl second ↦
          let i-is : o - offset ≡ length a + (o - (offset + length a)) = omega (arith, second.0) in
          byte_in (with_bytes d offset a) (offset + length a) b o second.0 second.1
          ∙ ap known_byte (sym (ap (byte_at (a ++ b)) i-is ∙ byte_second a b (o - (offset + length a))))
          ∙ sym (byte_in d offset (a ++ b) o (omega (arith, second.0)) (omega (arith, second.1, long)))
      | inr outside ↦ byte_out (with_bytes d offset a) (offset + length a) b o outside ∙ elim (cases_place offset (length a) o) [
        | inl first ↦
            byte_in d offset a o first.0 first.1 ∙ ap known_byte (sym (byte_first a b (o - offset) (omega (arith, first.0, first.1)))) ∙ sym (byte_in d offset (a ++ b) o first.0 (omega (arith, first.1, long)))
        | inr none ↦ byte_out d offset a o none ∙ sym (byte_out d offset (a ++ b) o (apart o offset (length a) (length b) (length (a ++ b)) outside none long))
      ]
    ])
  where
    apart : (o offset n p s : ℕ) → (o < offset + n) ⊎ (offset + n + p ≤ o) → (o < offset) ⊎ (offset + n ≤ o) → s ≡ n + p → (o < offset) ⊎ (offset + s ≤ o)
    apart o offset n p s (inl lt) (inl below) e = inl below
    apart o offset n p s (inl lt) (inr past) e = absurd (omega (arith, lt, past))
    apart o offset n p s (inr past) (inl below) e = inl below
    apart o offset n p s (inr past) (inr _) e = inr (omega (arith, past, e))

-- ---- bytes that are shown

pub shows_as : {d e : Disk} {place offset : ℕ} {a b : List ℕ} → d ≡ e → place ≡ offset → a ≡ b → Shows d place a → Shows e offset b
shows_as {d = d} {e = e} {place = place} {offset = offset} {a = a} disks places lists shows =
    subst (λ k. Shows e offset k) lists (subst (λ n. Shows e n a) places (subst (λ (k : Disk). Shows k place a) disks shows))

pub shows_both : (d : Disk) (offset : ℕ) (a b : List ℕ) → Shows d offset a → Shows d (offset + length a) b → Shows d offset (a ++ b)
shows_both d offset a b first second i lt =
    let long = long_both a b in
    elim (cases_Bool (ltb i (length a))) [
      | inl inside ↦ first i (ltb-true i (length a) inside) ∙ ap known_byte (sym (byte_first a b i (ltb-true i (length a) inside)))
      | inr past ↦
          let k = i - length a in
          let past-is : length a ≤ i = ltb-false i (length a) past in
          let place : offset + i ≡ offset + length a + k = omega (arith, past-is) in
          let at : i ≡ length a + k = omega (arith, past-is) in
          ap d.value place ∙ second k (omega (arith, past-is, lt, long)) ∙ ap known_byte (sym (ap (byte_at (a ++ b)) at ∙ byte_second a b k))
    ]

-- a buffer whose first bytes stay, and the next are read
pub first_two : (count n : ℕ) (old new post : List ℕ) → count ≤ length old → n ≤ length new → take count old ++ take n new ≡ take (count + n) (take count old ++ (new ++ post))
first_two count n old new post le short =
    let first = take count old in
    let long : length first ≡ count = length-take-le count old le in
    sym (ap (λ k. take (k + n) (first ++ (new ++ post))) (sym long) ∙ take-append-add first (new ++ post) n ∙ ap (λ k. first ++ k) (take-append-le n new post short))

-- ---- what a part gives

-- a part of the bytes gives some of what they give
pub part_within : (offset place k : ℕ) (bytes part : List ℕ) → place ≡ offset + k → k + length part ≤ length bytes → ((i : ℕ) → i < length part → byte_at part i ≡ byte_at bytes (k + i))
    → (o : ℕ) (w : Value) → IsGiven (given_of place part ∷ []) o w → IsGiven (given_of offset bytes ∷ []) o w
part_within offset place k bytes part at short same o w (inr h) = absurd h
part_within offset place k bytes part at short same o w (inl h) =
    let inside : o - place < length part = omega (arith, h.0, h.1) in
    let i-is : k + (o - place) ≡ o - offset = omega (arith, h.0, at) in
    inl (omega (arith, h.0, at), omega (arith, h.1, at, short), h.2 ∙ ap known_byte (same (o - place) inside ∙ ap (byte_at bytes) i-is))

-- ---- the first bytes of some, and the rest

pub cut_long : (n a : ℕ) (bytes : List ℕ) → n ≡ min (length bytes) a → length (take n bytes) ≡ min (length bytes) a
cut_long n a bytes e = grind (arith, common_steps)

pub cut_short : (n : ℕ) (bytes : List ℕ) → length (take n bytes) ≤ length bytes
cut_short n bytes = grind (arith, common_steps)

pub cut_part : (n : ℕ) (bytes : List ℕ) (i : ℕ) → i < length (take n bytes) → byte_at (take n bytes) i ≡ byte_at bytes i
cut_part n bytes i lt = grind (arith, common_steps)

pub rest_long : (n : ℕ) (bytes : List ℕ) → n ≤ length bytes → n + length (drop n bytes) ≤ length bytes
rest_long n bytes le = grind (arith, common_steps)

pub rest_part : (n : ℕ) (bytes : List ℕ) (i : ℕ) → n ≤ length bytes → i < length (drop n bytes) → byte_at (drop n bytes) i ≡ byte_at bytes (n + i)
rest_part n bytes i le lt = grind (arith, common_steps)

-- Refcounts in the bytes of refblocks.
use Rattle.std.proofs.Common.{◌≡◌, ◌≢◌, ◌+◌, ◌-◌, ◌*◌, ◌/◌, ◌%◌, ◌^◌, ◌<◌, ◌≤◌, ◌∷◌, ℕ, zero, suc, inl, inr, List, [], length, get_or, set, replicate, refl, sym, ap, ◌∙◌, arith, lit<, zero-add}
use Rattle.qcow2_metadata.proofs.Common.{w16, w32, w64, from_be_bytes, to_be_bytes, mul-le-mul_right, div-mul-le_self, cases_eq, cases_lt, length-set, get_or-set_same, get_or-set_other, pow_pos, pow-add, le-div, shl_whole, shr-shr, shr_below, field_of, mod-pow-add, mod_low, mod_below, div-add-mod', div-mul-add, mod-mul-add, from_be_bytes-to_be_bytes_2, from_be_bytes-to_be_bytes_4, from_be_bytes-to_be_bytes_8, overwritten, byte_at-overwritten, byte_at-overwritten_outside, length-overwritten_within, Bytes, byte_at, number_at, block_count, count_in, ChangesCount}
use Rattle.qcow2_metadata.proofs.BigEndian.{number_at-same, from_be_bytes-4, from_be_bytes-8}
use Rattle.qcow2_metadata.proofs.TableEntries.{number_at-moved, number_at-zeros, byte_at-zeros}

-- ---- bits of a byte

-- the bits from one on, so many, depend on those from a lower one on
higher_bits : (b c s t w : ℕ) → s ≤ t → b / 2 ^ s ≡ c / 2 ^ s → b / 2 ^ t % 2 ^ w ≡ c / 2 ^ t % 2 ^ w
higher_bits b c s t w le same =
    let split : t ≡ s + (t - s) = omega arith in
    let down : (n : ℕ) → n / 2 ^ t ≡ n / 2 ^ s / 2 ^ (t - s) = λ n. ap (λ k. n / 2 ^ k) split ∙ sym (shr-shr n s (t - s)) in
    ap (λ n. n % 2 ^ w) (down b ∙ ap (λ n. n / 2 ^ (t - s)) same ∙ sym (down c))

-- or on those below a higher one
lower_bits : (b c s t w : ℕ) → t + w ≤ s → b % 2 ^ s ≡ c % 2 ^ s → b / 2 ^ t % 2 ^ w ≡ c / 2 ^ t % 2 ^ w
lower_bits b c s t w le same =
    let split : s ≡ s - (w + t) + (w + t) = omega arith in
    let low : (n : ℕ) → n % 2 ^ (w + t) ≡ n % 2 ^ s % 2 ^ (w + t) = λ n.
    sym (ap (λ k. n % 2 ^ k % 2 ^ (w + t)) split ∙ ap (λ m. m % 2 ^ (w + t)) (mod-pow-add n (s - (w + t)) (w + t)) ∙ mod_low (n / 2 ^ (w + t) % 2 ^ (s - (w + t))) (w + t) (n % 2 ^ (w + t)) (mod_below n (2 ^ (w + t)) (pow_pos (w + t)))) in
    let part : (n : ℕ) → n / 2 ^ t % 2 ^ w ≡ n % 2 ^ (w + t) / 2 ^ t = λ n. sym (field_of n w t) in
    part b ∙ ap (λ n. n / 2 ^ t) (low b ∙ ap (λ n. n % 2 ^ (w + t)) same ∙ sym (low c)) ∙ sym (part c)

-- a byte after w of its bits from s on were set to v
record SetsBits (b c s w v : ℕ) : Type 0 where
  bits : c / 2 ^ s % 2 ^ w ≡ v
  below : c % 2 ^ s ≡ b % 2 ^ s
  above : c / 2 ^ (s + w) ≡ b / 2 ^ (s + w)

sets_bits : (b s w v : ℕ) → v < 2 ^ w → SetsBits b (b - b / 2 ^ s % 2 ^ w * 2 ^ s + v * 2 ^ s) s w v
sets_bits b s w v fits =
    let rest = b % 2 ^ s in
    let high = b / 2 ^ s / 2 ^ w in
    let old = b / 2 ^ s % 2 ^ w in
    let one = div-add-mod' b (2 ^ s) in
    let two = div-add-mod' (b / 2 ^ s) (2 ^ w) in
    let small = mod_below b (2 ^ s) (pow_pos s) in
    let three : (high * 2 ^ w + old) * 2 ^ s ≡ b / 2 ^ s * 2 ^ s = ap (λ n. n * 2 ^ s) two in
    let is : b - old * 2 ^ s + v * 2 ^ s ≡ (high * 2 ^ w + v) * 2 ^ s + rest = omega (arith, one, three) in
    let quotient : (b - old * 2 ^ s + v * 2 ^ s) / 2 ^ s ≡ high * 2 ^ w + v = ap (λ n. n / 2 ^ s) is ∙ div-mul-add (high * 2 ^ w + v) (2 ^ s) rest small in
    record {
      bits = ap (λ n. n % 2 ^ w) quotient ∙ mod-mul-add high (2 ^ w) v fits;
      below = ap (λ n. n % 2 ^ s) is ∙ mod-mul-add (high * 2 ^ w + v) (2 ^ s) rest small;
      above = sym (shr-shr (b - old * 2 ^ s + v * 2 ^ s) s w) ∙ ap (λ n. n / 2 ^ w) quotient ∙ div-mul-add high (2 ^ w) v fits ∙ shr-shr b s w;
    }

-- the code's shifts of a u8
pub shifted : (v s w : ℕ) → v < 2 ^ w → s + w ≤ 8 → v * 2 ^ s % 256 ≡ v * 2 ^ s
shifted v s w fits within = shl_whole v w s 8 fits (omega arith)

pub field_fits : (b s w : ℕ) → b / 2 ^ s % 2 ^ w < 2 ^ w
field_fits b s w = mod_below (b / 2 ^ s) (2 ^ w) (pow_pos w)

pub set_byte_fits : (b s w v : ℕ) → b < 256 → v < 2 ^ w → s + w ≤ 8 → b - b / 2 ^ s % 2 ^ w * 2 ^ s + v * 2 ^ s < 256
set_byte_fits b s w v byte fits within =
    let c = b - b / 2 ^ s % 2 ^ w * 2 ^ s + v * 2 ^ s in
    let sets = sets_bits b s w v fits in
    let top : b / 2 ^ (s + w) < 2 ^ (8 - (s + w)) = shr_below b (8 - (s + w)) (s + w) (let e : 8 - (s + w) + (s + w) ≡ 8 = omega arith in rw e byte) in
    elim (cases_lt c 256) [
      | inl lt ↦ lt
      | inr big ↦
          let e : 8 - (s + w) + (s + w) ≡ 8 = omega arith in
          let split : 2 ^ (8 - (s + w)) * 2 ^ (s + w) ≡ 256 = sym (pow-add 2 (8 - (s + w)) (s + w)) ∙ ap (λ k. 2 ^ k) e in
          let many : 2 ^ (8 - (s + w)) ≤ c / 2 ^ (s + w) = le-div (2 ^ (8 - (s + w))) c (2 ^ (s + w)) (pow_pos (s + w)) (omega arith) in
          absurd (omega (arith, sets.above))
    ]

-- ---- counts by their width

-- of at most a byte
pub narrow_count : (bytes : List ℕ) (order i : ℕ) → order ≤ 3 → byte_at bytes (i * 2 ^ order / 8) < 256
    → count_in order bytes i ≡ byte_at bytes (i * 2 ^ order / 8) / 2 ^ (i * 2 ^ order % 8) % 2 ^ (2 ^ order)
unfolding block_count number_at
narrow_count bytes zero i le small = ap (λ place. byte_at bytes place / 2 ^ (i * 1 % 8) % 2 ^ 1) (zero-add (i * 1 / 8))
narrow_count bytes (suc zero) i le small = ap (λ place. byte_at bytes place / 2 ^ (i * 2 % 8) % 2 ^ 2) (zero-add (i * 2 / 8))
narrow_count bytes (suc (suc zero)) i le small = ap (λ place. byte_at bytes place / 2 ^ (i * 4 % 8) % 2 ^ 4) (zero-add (i * 4 / 8))
narrow_count bytes (suc (suc (suc zero))) i le small = grind arith
narrow_count bytes (suc (suc (suc (suc order)))) i le small = absurd (omega arith)

-- it depends on its byte alone
narrow_count-same : (bytes new : List ℕ) (order i : ℕ) → order ≤ 3 → byte_at new (i * 2 ^ order / 8) ≡ byte_at bytes (i * 2 ^ order / 8) → count_in order new i ≡ count_in order bytes i
unfolding block_count number_at
narrow_count-same bytes new zero i le same = let place : 0 + i * 1 / 8 ≡ i * 1 / 8 = zero-add (i * 1 / 8) in rw place (ap (λ b. b / 2 ^ (i * 1 % 8) % 2) same)
narrow_count-same bytes new (suc zero) i le same = let place : 0 + i * 2 / 8 ≡ i * 2 / 8 = zero-add (i * 2 / 8) in rw place (ap (λ b. b / 2 ^ (i * 2 % 8) % 4) same)
narrow_count-same bytes new (suc (suc zero)) i le same = let place : 0 + i * 4 / 8 ≡ i * 4 / 8 = zero-add (i * 4 / 8) in rw place (ap (λ b. b / 2 ^ (i * 4 % 8) % 16) same)
narrow_count-same bytes new (suc (suc (suc zero))) i le same = let place : 0 + i * 1 + 0 ≡ i * 8 / 8 = omega arith in rw place (omega (arith, same))
narrow_count-same bytes new (suc (suc (suc (suc order)))) i le same = absurd (omega arith)

-- of 2, 4 or 8 bytes
pub count_of_16 : (bytes : List ℕ) (i : ℕ) → count_in 4 bytes i ≡ number_at (byte_at bytes) (i * 2) 2
unfolding block_count
count_of_16 bytes i = ap (λ place. number_at (byte_at bytes) place 2) (zero-add (i * 2))

pub count_of_32 : (bytes : List ℕ) (i : ℕ) → count_in 5 bytes i ≡ number_at (byte_at bytes) (i * 4) 4
unfolding block_count
count_of_32 bytes i = ap (λ place. number_at (byte_at bytes) place 4) (zero-add (i * 4))

pub count_of_64 : (bytes : List ℕ) (i : ℕ) → count_in 6 bytes i ≡ number_at (byte_at bytes) (i * 8) 8
unfolding block_count
count_of_64 bytes i = ap (λ place. number_at (byte_at bytes) place 8) (zero-add (i * 8))

from_be_bytes-2 : (xs : List ℕ) (b : Bytes) (place : ℕ) → ((i : ℕ) → i < 2 → get_or xs i 0 ≡ b (place + i)) → from_be_bytes w16 xs ≡ number_at b place 2
unfolding number_at
from_be_bytes-2 xs b place h = omega (arith, h 0 (lit< tt), h 1 (lit< tt))

pub pair_of_bytes : (bytes : List ℕ) (place : ℕ) → from_be_bytes w16 (get_or bytes place 0 ∷ get_or bytes (place + 1) 0 ∷ []) ≡ number_at (byte_at bytes) place 2
unfolding number_at
pair_of_bytes bytes place =
    let first : place + 0 ≡ place = omega arith in
    omega (arith, ap (byte_at bytes) first)

-- in bytes that are all 0
pub zero_count : (order : ℕ) (bytes : List ℕ) (j : ℕ) → ((k : ℕ) → byte_at bytes k ≡ 0) → count_in order bytes j ≡ 0
unfolding block_count
zero_count order bytes j zeros = grind (arith, number_at-zeros)

-- a cleared refblock
pub count_in-zeros : (order n i : ℕ) → count_in order (replicate n 0) i ≡ 0
count_in-zeros order n i = zero_count order (replicate n 0) i (byte_at-zeros n)

-- ---- one count set

-- two counts of one byte have no bit in common
apart_in_byte : (i j w : ℕ) → i < j → i * w / 8 ≡ j * w / 8 → i * w % 8 + w ≤ j * w % 8
apart_in_byte i j w lt same =
    let more : (i + 1) * w ≤ j * w = mul-le-mul_right w (omega arith) in
    omega (arith, more, same)

narrow_others : (bytes : List ℕ) (order i j v : ℕ) → (new : ℕ) → order ≤ 3 → byte_at bytes (i * 2 ^ order / 8) < 256 → i * 2 ^ order / 8 < length bytes → new < 256
    → SetsBits (byte_at bytes (i * 2 ^ order / 8)) new (i * 2 ^ order % 8) (2 ^ order) v → j ≢ i
    → count_in order (set bytes (i * 2 ^ order / 8) new) j ≡ count_in order bytes j
narrow_others bytes order i j v new le byte within small sets apart =
    let w = 2 ^ order in
    let here = i * w / 8 in
    let there = j * w / 8 in
    let old = byte_at bytes here in
    let bit = j * w % 8 in
    elim (cases_eq there here) [
      | inl same ↦
          let is : byte_at (set bytes here new) there ≡ new = ap (byte_at (set bytes here new)) same ∙ get_or-set_same bytes here new 0 within in
          narrow_count (set bytes here new) order j le (omega (arith, is))
          ∙ ap (λ b. b / 2 ^ bit % 2 ^ w) is
          ∙ elim (cases_lt i j) [
            | inl below ↦ higher_bits new old (i * w % 8 + w) bit w (apart_in_byte i j w below (sym same)) sets.above
            | inr above ↦ lower_bits new old (i * w % 8) bit w (apart_in_byte j i w (omega arith) same) sets.below
          ]
          ∙ ap (λ k. byte_at bytes k / 2 ^ bit % 2 ^ w) (sym same)
          ∙ sym (narrow_count bytes order j le (omega (arith, ap (byte_at bytes) same, byte)))
      | inr other ↦ narrow_count-same bytes (set bytes here new) order j le (get_or-set_other bytes here there new 0 other)
    ]

-- a byte with other bits in the place of a count's own
narrow_changes : (bytes : List ℕ) (order i v : ℕ) → order ≤ 3 → byte_at bytes (i * 2 ^ order / 8) < 256 → i * 2 ^ order / 8 < length bytes → v < 2 ^ (2 ^ order) → i * 2 ^ order % 8 + 2 ^ order ≤ 8
    → (new : ℕ)
    → new ≡ byte_at bytes (i * 2 ^ order / 8) - byte_at bytes (i * 2 ^ order / 8) / 2 ^ (i * 2 ^ order % 8) % 2 ^ (2 ^ order) * 2 ^ (i * 2 ^ order % 8) + v * 2 ^ (i * 2 ^ order % 8)
    → ChangesCount order bytes (set bytes (i * 2 ^ order / 8) new) i v
narrow_changes bytes order i v le byte within fits in_byte new is = grind (arith, sets_bits, set_byte_fits, get_or-set_same, narrow_count, narrow_others, length-set)

-- a number put in the place of another: it is there, and those beside it stay
put_same : (bytes xs : List ℕ) (i n : ℕ) → length xs ≡ n → number_at (byte_at (overwritten bytes (i * n) xs)) (i * n) n ≡ number_at (byte_at xs) 0 n
put_same bytes xs i n long = grind (arith, number_at-moved, byte_at-overwritten)

put_other : (bytes xs : List ℕ) (i j n : ℕ) → length xs ≡ n → j ≢ i → number_at (byte_at (overwritten bytes (i * n) xs)) (j * n) n ≡ number_at (byte_at bytes) (j * n) n
put_other bytes xs i j n long apart =
    number_at-same _ _ (j * n) n (λ k lt.
    byte_at-overwritten_outside bytes (i * n) xs (j * n + k)
    (elim (cases_lt j i) [
      | inl below ↦ let rows : (j + 1) * n ≤ i * n = mul-le-mul_right n (omega arith) in inl (omega arith)
      | inr above ↦ let rows : (i + 1) * n ≤ j * n = mul-le-mul_right n (omega arith) in inr (omega arith)
    ]))

changes_wide : (order n : ℕ) → ((bytes : List ℕ) (i : ℕ) → count_in order bytes i ≡ number_at (byte_at bytes) (i * n) n) → (bytes xs : List ℕ) (i v : ℕ) → length xs ≡ n → number_at (byte_at xs) 0 n ≡ v
    → i * n + n ≤ length bytes → ChangesCount order bytes (overwritten bytes (i * n) xs) i v
changes_wide order n count_of bytes xs i v long is within = grind (arith, put_same, put_other, length-overwritten_within)

-- the same at an order that the code has tested
module _ (bytes new : List ℕ) (order i v : ℕ) (whole : length bytes % 8 ≡ 0) (inside : i < length bytes * 8 / 2 ^ order) (fits : v < 2 ^ (2 ^ order)) where
  pub wide_changes_16 : order ≡ 4 → new ≡ overwritten bytes (i * 2) (to_be_bytes w16 v) → ChangesCount order bytes new i v
  wide_changes_16 is put =
      let there = rw is at inside in
      let xs : List ℕ = to_be_bytes w16 v in
      rw (is, put) (changes_wide 4 2 count_of_16 bytes xs i v refl (sym (from_be_bytes-2 xs (byte_at xs) 0 (λ k lt. ap (byte_at xs) (sym (zero-add k)))) ∙ from_be_bytes-to_be_bytes_2 v (rw is at fits)) (omega (arith, whole, there)))

  pub wide_changes_32 : order ≡ 5 → new ≡ overwritten bytes (i * 4) (to_be_bytes w32 v) → ChangesCount order bytes new i v
  wide_changes_32 is put =
      let there = rw is at inside in
      let xs : List ℕ = to_be_bytes w32 v in
      rw (is, put) (changes_wide 5 4 count_of_32 bytes xs i v refl (sym (from_be_bytes-4 xs (byte_at xs) 0 (λ k lt. ap (byte_at xs) (sym (zero-add k)))) ∙ from_be_bytes-to_be_bytes_4 v (rw is at fits)) (omega (arith, whole, there)))

  pub wide_changes_64 : order ≡ 6 → new ≡ overwritten bytes (i * 8) (to_be_bytes w64 v) → ChangesCount order bytes new i v
  wide_changes_64 is put =
      let there = rw is at inside in
      let xs : List ℕ = to_be_bytes w64 v in
      rw (is, put) (changes_wide 6 8 count_of_64 bytes xs i v refl (sym (from_be_bytes-8 xs (byte_at xs) 0 (λ k lt. ap (byte_at xs) (sym (zero-add k)))) ∙ from_be_bytes-to_be_bytes_8 v (rw is at fits)) (omega (arith, whole, there)))

-- the byte of a count is within the block
narrow_within : (n i w : ℕ) → 0 < w → i < n * 8 / w → i * w / 8 < n
narrow_within n i w pos inside =
    let rows : (i + 1) * w ≤ n * 8 / w * w = mul-le-mul_right w (omega arith) in
    omega (arith, rows, div-mul-le_self (n * 8) w)

-- the same as the code computes it
pub set_narrow_changes : (bytes : List ℕ) (order i v k bit width new : ℕ) → order ≤ 3 → k ≡ i * 2 ^ order / 8 → bit ≡ i * 2 ^ order % 8 → width ≡ 2 ^ order → bit + 2 ^ order ≤ 8
    → byte_at bytes k < 256 → i < length bytes * 8 / 2 ^ order → v < 2 ^ (2 ^ order) → new ≡ byte_at bytes k - byte_at bytes k / 2 ^ bit % 2 ^ width * 2 ^ bit + v * 2 ^ bit
    → ChangesCount order bytes (set bytes k new) i v
set_narrow_changes bytes order i v k bit width new le place low wide in_byte byte inside fits is =
    rw place (narrow_changes bytes order i v le (rw place at byte) (narrow_within (length bytes) i (2 ^ order) (pow_pos order) inside) fits (rw low at in_byte) new (rw (place, low, wide) at is))

-- Entries in the bytes of tables.
use Rattle.std.proofs.Common.{◌≡◌, ◌+◌, ◌*◌, ◌^◌, ◌<◌, ◌≤◌, ℕ, zero, suc, inl, inr, List, length, replicate, refl, sym, ap, ◌∙◌, arith}
use Rattle.qcow2_metadata.proofs.Common.{w64, to_be_bytes, cases_lt, get_or-replicate, get_or_past, length-replicate, from_be_bytes-to_be_bytes_8, bytes_at, overwritten, byte_at-bytes_at, byte_at-overwritten, byte_at-overwritten_outside, length-overwritten_within, Bytes, byte_at, number_at, l2_entry, entry_at, ChangesEntry}
use Rattle.qcow2_metadata.proofs.BigEndian.{number_at-same, from_be_bytes-8}

-- a number depends only on its own bytes, wherever they lie
pub number_at-moved : (b c : Bytes) (p q n : ℕ) → ((i : ℕ) → i < n → b (p + i) ≡ c (q + i)) → number_at b p n ≡ number_at c q n
unfolding number_at
number_at-moved b c p q zero same = refl
number_at-moved b c p q (suc n) same =
    let front = number_at-moved b c p q n (λ i lt. same i (omega arith)) in
    let last = same n (omega arith) in
    cc

pub number_at-zeros : (b : Bytes) (place n : ℕ) → ((i : ℕ) → b i ≡ 0) → number_at b place n ≡ 0
unfolding number_at
number_at-zeros b place zero none = refl
number_at-zeros b place (suc n) none =
    let front = number_at-zeros b place n none in
    let last = none (place + n) in
    omega arith

pub byte_at-zeros : (n i : ℕ) → byte_at (replicate n 0) i ≡ 0
byte_at-zeros n i = grind (arith, get_or-replicate, get_or_past, length-replicate)

-- a cleared table
pub entry_at-zeros : (n i : ℕ) → entry_at (replicate n 0) i ≡ 0
unfolding l2_entry
entry_at-zeros n i = number_at-zeros (byte_at (replicate n 0)) (0 + 8 * i) 8 (byte_at-zeros n)

-- an entry of a loaded table is that of the file
pub entry_at-loaded : (contents : List ℕ) (at n i : ℕ) → 8 * i + 8 ≤ n → entry_at (bytes_at contents at n) i ≡ l2_entry (byte_at contents) at i
unfolding l2_entry
entry_at-loaded contents at n i within = grind (arith, number_at-moved, byte_at-bytes_at)

pub set_entry_changes : (bytes : List ℕ) (i entry : ℕ) → 8 * i + 8 ≤ length bytes → entry < 2 ^ 64 → ChangesEntry bytes (overwritten bytes (8 * i) (to_be_bytes w64 entry)) i entry
unfolding l2_entry
set_entry_changes bytes i entry within fits =
    let new = overwritten bytes (8 * i) (to_be_bytes w64 entry) in
    record {
      entry_is =
          let here : 0 + 8 * i ≡ 8 * i = omega arith in
          ap (λ place. number_at (byte_at new) place 8) here
          ∙ sym (from_be_bytes-8 (to_be_bytes w64 entry) (byte_at new) (8 * i) (λ k lt. sym (byte_at-overwritten bytes (8 * i) (to_be_bytes w64 entry) k lt)))
          ∙ from_be_bytes-to_be_bytes_8 entry fits;
      others = λ j apart.
          number_at-same (byte_at new) (byte_at bytes) (0 + 8 * j) 8 (λ k lt.
          byte_at-overwritten_outside bytes (8 * i) (to_be_bytes w64 entry) (0 + 8 * j + k)
          (elim (cases_lt j i) [ inl below ↦ inl (omega arith) | inr above ↦ inr (omega arith) ]));
      as_long = length-overwritten_within bytes (8 * i) (to_be_bytes w64 entry) within;
    }

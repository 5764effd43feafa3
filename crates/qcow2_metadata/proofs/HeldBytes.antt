-- Bytes at an offset of a file.
use Rattle.std.proofs.Common.{◌≡◌, ◌+◌, ◌-◌, ◌^◌, ◌<◌, ◌++◌, ℕ, List, length, refl, sym, ap, ◌∙◌, arith}
use Rattle.qcow2_metadata.proofs.Common.{w32, w64, to_be_bytes, length-append, get_or_append_left, get_or-append_right, ext_get_or, length-map-range_with_len, get_or-map-range_with_len, from_be_bytes-to_be_bytes_4, from_be_bytes-to_be_bytes_8, overwritten, byte_at-overwritten, Bytes, byte_at, bytes_from, number_at}
use Rattle.qcow2_metadata.proofs.BigEndian.{from_be_bytes-4, from_be_bytes-8}

abbrev pub Holds : Bytes → ℕ → List ℕ → Type 0
Holds b place bytes = (i : ℕ) → i < length bytes → b (place + i) ≡ byte_at bytes i

pub holds_written : (contents : List ℕ) (at : ℕ) (bytes : List ℕ) → Holds (byte_at (overwritten contents at bytes)) at bytes
holds_written contents at bytes = byte_at-overwritten contents at bytes

module _ (b : Bytes) (place : ℕ) where
  pub holds_left : (xs ys : List ℕ) → Holds b place (xs ++ ys) → Holds b place xs
  holds_left xs ys holds i lt = holds i (omega (arith, length-append xs ys)) ∙ get_or_append_left xs ys 0 i lt

  pub holds_right : (xs ys : List ℕ) → Holds b place (xs ++ ys) → Holds b (place + length xs) ys
  holds_right xs ys holds i lt =
      let behind : place + length xs + i ≡ place + (length xs + i) = omega arith in
      let rest : length xs + i - length xs ≡ i = omega arith in
      ap b behind ∙ holds (length xs + i) (omega (arith, length-append xs ys))
      ∙ get_or-append_right xs ys (length xs) (length xs + i) 0 refl (omega arith) ∙ ap (byte_at ys) rest

  pub held_4 : (n : ℕ) → n < 2 ^ 32 → Holds b place (to_be_bytes w32 n) → number_at b place 4 ≡ n
  held_4 n fits holds = sym (from_be_bytes-4 (to_be_bytes w32 n) b place (λ i lt. sym (holds i lt))) ∙ from_be_bytes-to_be_bytes_4 n fits

  pub held_8 : (n : ℕ) → n < 2 ^ 64 → Holds b place (to_be_bytes w64 n) → number_at b place 8 ≡ n
  held_8 n fits holds = sym (from_be_bytes-8 (to_be_bytes w64 n) b place (λ i lt. sym (holds i lt))) ∙ from_be_bytes-to_be_bytes_8 n fits

  pub held_bytes : (bytes : List ℕ) → Holds b place bytes → bytes_from b place (length bytes) ≡ bytes
  held_bytes bytes holds =
      let len = length-map-range_with_len b place (length bytes) in
      ext_get_or 0 _ _ len (λ i lt.
      let within : i < length bytes = omega (arith, len) in
      get_or-map-range_with_len b place (length bytes) i (place + i) 0 within refl ∙ holds i within)

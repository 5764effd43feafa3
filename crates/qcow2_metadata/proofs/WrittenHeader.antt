-- The numbers of a header after some of them were written.
use Rattle.std.proofs.Common.{◌≡◌, ◌+◌, ◌^◌, ◌<◌, ◌≤◌, ◌==◌, ◌∷◌, ◌++◌, if◌then◌else◌, inl, inr, ℕ, Bool, true, false, List, [], length, replicate, refl, sym, arith, lit<}
use Rattle.qcow2_metadata.proofs.Common.{cases_lt, overwritten, byte_at-overwritten_below, byte_at-overwritten_behind, byte_at, number_at, Four, Eight, bytes_of_numbers, header, with_size, with_l1_table, with_reftable, without_autoclear, w32, w64, to_be_bytes}
use Rattle.qcow2_metadata.proofs.BigEndian.{number_at-same}
use Rattle.qcow2_metadata.proofs.SameHeader.{SameElsewhere, header_after}
use Rattle.qcow2_metadata.proofs.HeldBytes.{holds_written, holds_left, holds_right, held_4, held_8}

-- ---- numbers after a write
pub number_below : (contents bytes : List ℕ) (at place n : ℕ) → place + n ≤ at → number_at (byte_at (overwritten contents at bytes)) place n ≡ number_at (byte_at contents) place n
number_below contents bytes at place n le = number_at-same _ _ place n (λ i lt. byte_at-overwritten_below contents at bytes (place + i) (omega arith))

pub number_behind : (contents bytes : List ℕ) (at place n : ℕ) → at + length bytes ≤ place → number_at (byte_at (overwritten contents at bytes)) place n ≡ number_at (byte_at contents) place n
number_behind contents bytes at place n le = number_at-same _ _ place n (λ i lt. byte_at-overwritten_behind contents at bytes (place + i) (omega arith))

-- a write that changes no other place
apart_from : (contents bytes : List ℕ) (at : ℕ)
    → ((i : ℕ) → (24 ≤ i → i < 32 → ⊥) → (36 ≤ i → i < 60 → ⊥) → (88 ≤ i → i < 96 → ⊥) → at ≤ i → at + length bytes ≤ i)
    → SameElsewhere (byte_at contents) (byte_at (overwritten contents at bytes))
apart_from contents bytes at behind i lt x y z = elim (cases_lt i at) [
  | inl low ↦ sym (byte_at-overwritten_below contents at bytes i low)
  | inr le ↦ sym (byte_at-overwritten_behind contents at bytes i (behind i x y z le))
]

anyway : (test : Bool) (n : ℕ) → n ≡ 0 → (if test then 0 else n) ≡ 0
anyway true n none = refl
anyway false n none = none

module _ (contents : List ℕ) where
  pub size_after : (n : ℕ) → n < 2 ^ 64 → header (byte_at (overwritten contents 24 (to_be_bytes w64 n))) ≡ with_size (header (byte_at contents)) n
  unfolding header
  size_after n fits =
      let bytes : List ℕ = to_be_bytes w64 n in
      let all = header_after _ _ (apart_from contents bytes 24 (λ i x y z le. omega (arith, x))) in
      let size = held_8 (byte_at (overwritten contents 24 bytes)) 24 n fits (holds_written contents 24 bytes) in
      let l1_entries = number_behind contents bytes 24 36 4 (omega arith) in
      let l1_offset = number_behind contents bytes 24 40 8 (omega arith) in
      let reftable_offset = number_behind contents bytes 24 48 8 (omega arith) in
      let reftable_clusters = number_behind contents bytes 24 56 4 (omega arith) in
      let autoclear = number_behind contents bytes 24 88 8 (omega arith) in
      cc

  pub l1_table_after : (entries offset : ℕ) → entries < 2 ^ 32 → offset < 2 ^ 64
      → header (byte_at (overwritten contents 36 (bytes_of_numbers (Four entries ∷ Eight offset ∷ [])))) ≡ with_l1_table (header (byte_at contents)) offset entries
  unfolding header bytes_of_numbers
  l1_table_after entries offset fits_entries fits_offset =
      let first : List ℕ = to_be_bytes w32 entries in
      let second : List ℕ = to_be_bytes w64 offset in
      let b = byte_at (overwritten contents 36 (first ++ second)) in
      let holds = holds_written contents 36 (first ++ second) in
      let all = header_after _ _ (apart_from contents (first ++ second) 36 (λ i x y z le. omega (arith, y))) in
      let size = number_below contents (first ++ second) 36 24 8 (omega arith) in
      let l1_entries = held_4 b 36 entries fits_entries (holds_left b 36 first second holds) in
      let l1_offset = held_8 b 40 offset fits_offset (holds_right b 36 first second holds) in
      let reftable_offset = number_behind contents (first ++ second) 36 48 8 (omega arith) in
      let reftable_clusters = number_behind contents (first ++ second) 36 56 4 (omega arith) in
      let autoclear = number_behind contents (first ++ second) 36 88 8 (omega arith) in
      cc

  pub reftable_after : (offset clusters : ℕ) → offset < 2 ^ 64 → clusters < 2 ^ 32
      → header (byte_at (overwritten contents 48 (bytes_of_numbers (Eight offset ∷ Four clusters ∷ [])))) ≡ with_reftable (header (byte_at contents)) offset clusters
  unfolding header bytes_of_numbers
  reftable_after offset clusters fits_offset fits_clusters =
      let first : List ℕ = to_be_bytes w64 offset in
      let second : List ℕ = to_be_bytes w32 clusters in
      let b = byte_at (overwritten contents 48 (first ++ second)) in
      let holds = holds_written contents 48 (first ++ second) in
      let all = header_after _ _ (apart_from contents (first ++ second) 48 (λ i x y z le. omega (arith, y))) in
      let size = number_below contents (first ++ second) 48 24 8 (omega arith) in
      let l1_entries = number_below contents (first ++ second) 48 36 4 (omega arith) in
      let l1_offset = number_below contents (first ++ second) 48 40 8 (omega arith) in
      let reftable_offset = held_8 b 48 offset fits_offset (holds_left b 48 first second holds) in
      let reftable_clusters = held_4 b 56 clusters fits_clusters (holds_right b 48 first second holds) in
      let autoclear = number_behind contents (first ++ second) 48 88 8 (omega arith) in
      cc

  pub autoclear_after : header (byte_at (overwritten contents 88 (replicate 8 0))) ≡ without_autoclear (header (byte_at contents))
  unfolding header
  autoclear_after =
      let bytes : List ℕ = replicate 8 0 in
      let b = byte_at (overwritten contents 88 bytes) in
      let all = header_after _ _ (apart_from contents bytes 88 (λ i x y z le. omega (arith, z))) in
      let size = number_below contents bytes 88 24 8 (omega arith) in
      let l1_entries = number_below contents bytes 88 36 4 (omega arith) in
      let l1_offset = number_below contents bytes 88 40 8 (omega arith) in
      let reftable_offset = number_below contents bytes 88 48 8 (omega arith) in
      let reftable_clusters = number_below contents bytes 88 56 4 (omega arith) in
      let cleared : number_at b 88 8 ≡ 0 = held_8 b 88 0 (lit< tt) (holds_written contents 88 bytes) in
      let autoclear = anyway (number_at (byte_at contents) 4 4 == 2) (number_at b 88 8) cleared in
      cc

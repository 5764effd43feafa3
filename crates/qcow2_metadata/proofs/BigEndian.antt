-- Numbers made of bytes.
use Rattle.std.proofs.Common.{◌≡◌, ◌+◌, ◌-◌, ◌<◌, ℕ, zero, suc, List, get_or, take, drop, refl, ap, ◌∙◌, arith, lit<}
use Rattle.qcow2_metadata.proofs.Common.{w32, w64, from_be_bytes, get_or-take, get_or-drop, Bytes, byte_at, number_at, SameFrom}

-- a number depends on its own bytes alone
pub number_at-same : (b c : Bytes) (place n : ℕ) → SameFrom place n b c → number_at b place n ≡ number_at c place n
unfolding number_at
number_at-same b c place zero h = refl
number_at-same b c place (suc n) h =
    let front = number_at-same b c place n (λ i lt. h i (omega arith)) in
    let last = h n (omega arith) in
    cc

-- the bytes of a part, which is cut from a place on
part_byte : (bytes part : List ℕ) (place n i : ℕ) → part ≡ take (place + n - place) (drop place bytes) → i < n → get_or part i 0 ≡ get_or bytes (place + i) 0
part_byte bytes part place n i e lt = ap (λ xs. get_or xs i 0) e ∙ get_or-take (place + n - place) (drop place bytes) i 0 (omega arith) ∙ get_or-drop place bytes i 0

pub from_be_bytes-4 : (xs : List ℕ) (b : Bytes) (place : ℕ) → ((i : ℕ) → i < 4 → get_or xs i 0 ≡ b (place + i)) → from_be_bytes w32 xs ≡ number_at b place 4
unfolding number_at
from_be_bytes-4 xs b place h = omega (arith, h 0 (lit< tt), h 1 (lit< tt), h 2 (lit< tt), h 3 (lit< tt))

pub from_be_bytes-8 : (xs : List ℕ) (b : Bytes) (place : ℕ) → ((i : ℕ) → i < 8 → get_or xs i 0 ≡ b (place + i)) → from_be_bytes w64 xs ≡ number_at b place 8
unfolding number_at
from_be_bytes-8 xs b place h =
    omega (arith, h 0 (lit< tt), h 1 (lit< tt), h 2 (lit< tt), h 3 (lit< tt), h 4 (lit< tt), h 5 (lit< tt), h 6 (lit< tt), h 7 (lit< tt))

-- the number of a part that was cut from a place on
pub read_4 : (bytes part : List ℕ) (place : ℕ) → part ≡ take (place + 4 - place) (drop place bytes) → from_be_bytes w32 part ≡ number_at (byte_at bytes) place 4
read_4 bytes part place e = from_be_bytes-4 part (byte_at bytes) place (λ i lt. part_byte bytes part place 4 i e lt)

pub read_8 : (bytes part : List ℕ) (place : ℕ) → part ≡ take (place + 8 - place) (drop place bytes) → from_be_bytes w64 part ≡ number_at (byte_at bytes) place 8
read_8 bytes part place e = from_be_bytes-8 part (byte_at bytes) place (λ i lt. part_byte bytes part place 8 i e lt)

pub ruleset numbers_read = (read_4, read_8)

-- Tables whose bytes are in a file.
use Rattle.std.proofs.Common.{◌≡◌, ◌+◌, ◌*◌, ◌/◌, ◌%◌, ◌^◌, ◌<◌, ◌≤◌, ℕ, zero, suc, List, Result, Ok, Err, length, sym, ap, ◌∙◌, arith, OnOk}
use Rattle.qcow2_metadata.proofs.Common.{bytes_at, overwritten, ContentsBecome, StorageError, length-bytes_at, byte_at-bytes_at, byte_at-overwritten, Bytes, byte_at, number_at, l2_entry, block_count, entry_at, RefBlockView, count_in, IsRefBlock, IsRefBlockAt, L2TableView, IsL2Table, IsL2TableAt}
use Rattle.qcow2_metadata.proofs.Quotients.{multiple_of_8}
use Rattle.qcow2_metadata.proofs.TableEntries.{number_at-moved}

-- these bytes are there
abbrev pub HasBytesAt : Bytes → ℕ → List ℕ → Type 0
HasBytesAt b place bytes = (k : ℕ) → k < length bytes → byte_at bytes k ≡ b (place + k)

-- read from there
pub stand_at-loaded : (contents : List ℕ) (at place n : ℕ) (bytes : List ℕ) → bytes ≡ bytes_at contents at n → at ≡ place → HasBytesAt (byte_at contents) place bytes
stand_at-loaded contents at place n bytes is there k lt =
    ap (λ l. byte_at l k) is ∙ byte_at-bytes_at contents at n k (omega (arith, ap length is, length-bytes_at contents at n, lt)) ∙ ap (λ p. byte_at contents (p + k)) there

-- written there
pub stand_at-written : (old new : List ℕ) (at place : ℕ) (bytes held : List ℕ) → new ≡ overwritten old at bytes → at ≡ place → bytes ≡ held → HasBytesAt (byte_at new) place held
stand_at-written old new at place bytes held is there same k lt =
    sym (ap (λ l. byte_at l (place + k)) (is ∙ ap (λ p. overwritten old p bytes) there ∙ ap (overwritten old place) same) ∙ byte_at-overwritten old place held k lt)

-- ---- entries

pub entry_stands : (b : Bytes) (place : ℕ) (bytes : List ℕ) (i : ℕ) → HasBytesAt b place bytes → 8 * i + 8 ≤ length bytes → entry_at bytes i ≡ l2_entry b place i
unfolding l2_entry
entry_stands b place bytes i stands within = grind (arith, number_at-moved)

pub l2_table_at : (b : Bytes) (place : ℕ) (table : L2TableView) → IsL2Table table → HasBytesAt b place table.bytes → IsL2TableAt b place table
l2_table_at b place table is stands i lt = entry_stands b place table.bytes i stands (omega (arith, lt, is.whole))

-- ---- counts

number_stands : (b : Bytes) (place : ℕ) (bytes : List ℕ) (i n : ℕ) → HasBytesAt b place bytes → i * n + n ≤ length bytes → number_at (byte_at bytes) (0 + i * n) n ≡ number_at b (place + i * n) n
number_stands b place bytes i n stands within = grind (arith, number_at-moved)

bits_stand : (b : Bytes) (place : ℕ) (bytes : List ℕ) (k bit w : ℕ) → HasBytesAt b place bytes → k < length bytes → byte_at bytes (0 + k) / 2 ^ bit % 2 ^ w ≡ b (place + k) / 2 ^ bit % 2 ^ w
bits_stand b place bytes k bit w stands within =
    let here : 0 + k ≡ k = omega arith in
    ap (λ v. v / 2 ^ bit % 2 ^ w) (ap (byte_at bytes) here ∙ stands k within)

pub count_stands : (b : Bytes) (place : ℕ) (bytes : List ℕ) (order i : ℕ) → HasBytesAt b place bytes → length bytes % 8 ≡ 0 → order ≤ 6 → i < length bytes * 8 / 2 ^ order
    → count_in order bytes i ≡ block_count b (2 ^ order) place i
unfolding block_count
count_stands b place bytes zero i stands whole le lt = bits_stand b place bytes (i * 1 / 8) (i * 1 % 8) 1 stands (omega arith)
count_stands b place bytes (suc zero) i stands whole le lt = bits_stand b place bytes (i * 2 / 8) (i * 2 % 8) 2 stands (omega arith)
count_stands b place bytes (suc (suc zero)) i stands whole le lt = bits_stand b place bytes (i * 4 / 8) (i * 4 % 8) 4 stands (omega arith)
count_stands b place bytes (suc (suc (suc zero))) i stands whole le lt = number_stands b place bytes i 1 stands (omega arith)
count_stands b place bytes (suc (suc (suc (suc zero)))) i stands whole le lt = number_stands b place bytes i 2 stands (omega arith)
count_stands b place bytes (suc (suc (suc (suc (suc zero))))) i stands whole le lt = number_stands b place bytes i 4 stands (omega arith)
count_stands b place bytes (suc (suc (suc (suc (suc (suc zero)))))) i stands whole le lt = number_stands b place bytes i 8 stands (omega arith)
count_stands b place bytes (suc (suc (suc (suc (suc (suc (suc order))))))) i stands whole le lt = absurd (omega arith)

pub ref_block_at : (b : Bytes) (place : ℕ) (block : RefBlockView) → IsRefBlock block → HasBytesAt b place block.bytes → IsRefBlockAt b place block
ref_block_at b place block is stands i lt =
    let n = is.whole in
    count_stands b place block.bytes block.refcount_order i stands (rw n (multiple_of_8 block.cluster_bits (omega (arith, is.bits.0)))) is.order (rw n lt)

-- ---- after a write

pub written_stands : {T : Type 0} (result : Result T StorageError) (old new : List ℕ) (at place : ℕ) (bytes held : List ℕ) (P : Bytes → Type 0)
    → ((b : Bytes) → HasBytesAt b place held → P b) → at ≡ place → bytes ≡ held → ContentsBecome result old (overwritten old at bytes) new → OnOk result (P (byte_at new))
written_stands (Ok _) old new at place bytes held P holds there same is = holds (byte_at new) (stand_at-written old new at place bytes held is there same)
written_stands (Err _) old new at place bytes held P holds there same is = tt

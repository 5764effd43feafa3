-- Tables of entries of 64 bits.
use Rattle.std.proofs.Common.{◌≡◌, ◌+◌, ◌-◌, ◌*◌, ◌/◌, ◌%◌, ◌^◌, ◌≤◌, ◌++◌, if◌then◌else◌, ℕ, inl, inr, subst, lit<, List, [], Option, nat_lt, length, take, drop, replicate, Vec, refl, sym, ap, ◌∙◌, arith}
use Rattle.qcow2_metadata.proofs.Common.{bit_and, drop-replicate, get_or_append_left, get_or-append_right, length-replicate, nil_from_length, and_block, and_le_l, and_mask, mod_below, pow-add, shr_split, bytes_at, overwritten, byte_at_past, length-bytes_at, put_mid-overwritten, byte_at, number_at, HeaderFields, reftable_entries, l1_entry, l2_entry, reftable_entry, L1EntryReads, ReftableEntryReads, entry_at, ChangesEntry, EntryTableView, EachReads, HasRoomIfPlaced, IsClear, IsL1TableOf, IsReasonNotToLoad, IsRefTableOf, NamesL1Table, NamesRefTable, PassesLimit, SomeUnread, MetadataError, Limit, Format}
use Rattle.std.specs.List.{length_refill}
use Rattle.qcow2_metadata.proofs.TableEntries.{byte_at-zeros, entry_at-loaded, entry_at-zeros, number_at-moved, number_at-zeros}

-- other items in a `Vec` don't change its length
pub refilled : {A : Type 0} (v : Vec ℕ A) (new : List ℕ) → length (take v.len (new ++ drop (length new) v.items)) ≡ length v.items
refilled v new = sym (length_refill v.len v.items new v.ok.0) ∙ v.ok.0

-- past its end a table has no entry
pub entry_at_past : (bytes : List ℕ) (i : ℕ) → length bytes ≤ 8 * i → entry_at bytes i ≡ 0
unfolding l2_entry
entry_at_past bytes i past =
    number_at-moved (byte_at bytes) (byte_at []) (0 + 8 * i) 0 8 (λ k lt. byte_at_past bytes (0 + 8 * i + k) (omega arith))
    ∙ number_at-zeros (byte_at []) 0 8 (λ k. refl)

-- no entry has no reserved bit
pub none_is_clear : (entry reserved : ℕ) → entry ≡ 0 → IsClear reserved entry
none_is_clear entry reserved none = omega (arith, and_le_l entry reserved)

pub no_bytes_at : (contents : List ℕ) (at n : ℕ) → n ≡ 0 → bytes_at contents at n ≡ []
no_bytes_at contents at n none = nil_from_length (bytes_at contents at n) (length-bytes_at contents at n ∙ none)

-- a table is its three parts
pub same_table : (cluster cluster' : Option ℕ) (bytes bytes' : List ℕ) (bits bits' : ℕ) → cluster ≡ cluster' → bytes ≡ bytes' → bits ≡ bits'
    → record { cluster = cluster; bytes = bytes; cluster_bits = bits } ≡ (let t : EntryTableView = record { cluster = cluster'; bytes = bytes'; cluster_bits = bits' } in t)
same_table cluster cluster' bytes bytes' bits bits' p q r = rw (p, q, r)

-- 64 bits hold the end of a table of this place and length
pub room_as : (t : EntryTableView) (cluster : Option ℕ) (bits n : ℕ) → t.cluster ≡ cluster → t.cluster_bits ≡ bits → length t.bytes ≡ n → HasRoomIfPlaced bits n cluster → HasRoomIfPlaced t.cluster_bits (length t.bytes) t.cluster
room_as t cluster bits n p q r room = rw (p, q, r) room

-- a table overlaid on a longer one of zeros
pub overwritten-zeros : (bytes : List ℕ) (n : ℕ) → length bytes ≤ n → overwritten (replicate n 0) 0 bytes ≡ bytes ++ replicate (n - length bytes) 0
overwritten-zeros bytes n fits =
    sym (put_mid-overwritten (replicate n 0) 0 bytes (omega (arith, length-replicate {A = ℕ} n 0)))
    ∙ ap (λ (l : List ℕ). bytes ++ l) (drop-replicate (length bytes) n 0)

-- ---- reserved bits

pub l1_mask : (entry : ℕ) → bit_and entry 0x7f000000000001ff ≡ entry / 2 ^ 56 % 2 ^ 7 * 2 ^ 56 + entry % 2 ^ 9
l1_mask entry =
    let low : entry % 2 ^ 56 % 2 ^ 9 ≡ entry % 2 ^ 9 = omega arith in
    let parts : entry ≡ entry / 2 ^ 56 * 2 ^ 56 + entry % 2 ^ 56 = sym (shr_split entry 56) in
    ap (λ n. bit_and n 0x7f000000000001ff) parts
    ∙ and_block 56 (entry / 2 ^ 56) 127 (entry % 2 ^ 56) 511 (mod_below entry (2 ^ 56) (lit< tt)) (lit< tt)
    ∙ ap (λ n. n * 2 ^ 56 + bit_and (entry % 2 ^ 56) 511) (and_mask (entry / 2 ^ 56) 7)
    ∙ ap (λ n. entry / 2 ^ 56 % 2 ^ 7 * 2 ^ 56 + n) (and_mask (entry % 2 ^ 56) 9 ∙ low)

pub clear_l1_reads : (entry : ℕ) → IsClear 0x7f000000000001ff entry → L1EntryReads entry
clear_l1_reads entry clear = (omega (arith, l1_mask entry, clear), omega (arith, l1_mask entry, clear))

pub l1_reads_clear : (entry : ℕ) → L1EntryReads entry → IsClear 0x7f000000000001ff entry
l1_reads_clear entry reads = omega (arith, l1_mask entry, reads.0, reads.1)

pub clear_reftable_reads : (entry : ℕ) → IsClear 0x1ff entry → ReftableEntryReads entry
clear_reftable_reads entry clear = omega (arith, and_mask entry 9, clear)

pub reftable_reads_clear : (entry : ℕ) → ReftableEntryReads entry → IsClear 0x1ff entry
reftable_reads_clear entry reads = omega (arith, and_mask entry 9, reads)

-- ---- what each entry keeps

pub EachReads-zeros : (Reads : ℕ → Type 0) → Reads 0 → (n : ℕ) → EachReads Reads (replicate n 0)
EachReads-zeros Reads none n = λ i. subst Reads (sym (entry_at-zeros n i)) none

pub entry_at-grown : (bytes : List ℕ) (n i : ℕ) → entry_at (bytes ++ replicate n 0) i ≡ entry_at bytes i
unfolding l2_entry
entry_at-grown bytes n i = grind (arith, get_or_append_left, get_or-append_right, byte_at-zeros, byte_at_past)

pub EachReads-grown : (Reads : ℕ → Type 0) (bytes : List ℕ) (n : ℕ) → EachReads Reads bytes → EachReads Reads (bytes ++ replicate n 0)
EachReads-grown Reads bytes n reads = λ i. subst Reads (sym (entry_at-grown bytes n i)) (reads i)

pub EachReads-set : (Reads : ℕ → Type 0) (old new : List ℕ) (i entry : ℕ) → ChangesEntry old new i entry → Reads entry → EachReads Reads old → EachReads Reads new
EachReads-set Reads old new i entry changes here reads = grind arith

-- ---- why a table isn't loaded

-- an entry with a reserved bit is one that doesn't read
pub IsReasonNotToLoad-reads : (Reads Clear : ℕ → Type 0) (bytes : List ℕ) (passes passes' honest : Type 0) (e : MetadataError) → (passes → passes') → ((entry : ℕ) → Reads entry → Clear entry)
    → IsReasonNotToLoad passes (honest → SomeUnread Clear bytes) e → IsReasonNotToLoad passes' (honest → SomeUnread Reads bytes) e
IsReasonNotToLoad-reads Reads Clear bytes passes passes' honest Limit so clear why = so why
IsReasonNotToLoad-reads Reads Clear bytes passes passes' honest Format so clear why = λ h. let some = why h in (some.0, some.1, λ reads. some.2 (clear _ reads))
IsReasonNotToLoad-reads Reads Clear bytes passes passes' honest _ so clear why = why

-- what passes the limit by where it begins passes it by where it ends
pub passes_further : (greatest bits n cluster entries : ℕ) → PassesLimit greatest bits 0 cluster entries → PassesLimit greatest bits n cluster entries
passes_further greatest bits n cluster entries passes = elim passes [ inl many ↦ inl many | inr past ↦ inr (omega (arith, past)) ]

-- ---- entries of a loaded table

-- each entry is that at its place in the file, and past the end there is none
loaded : (contents : List ℕ) (at n : ℕ) (bytes : List ℕ) → bytes ≡ bytes_at contents at (8 * n) → (i : ℕ) → entry_at bytes i ≡ (if nat_lt i n then number_at (byte_at contents) (at + 8 * i) 8 else 0)
unfolding l2_entry
loaded contents at n bytes is i = grind (arith, entry_at-loaded, entry_at_past, length-bytes_at)

pub l1_entries-loaded : (h : HeaderFields) (contents bytes : List ℕ) → bytes ≡ bytes_at contents h.l1_offset (8 * h.l1_entries)
    → (i : ℕ) → entry_at bytes i ≡ l1_entry h (byte_at contents) i
unfolding l1_entry
l1_entries-loaded h contents bytes is = loaded contents h.l1_offset h.l1_entries bytes is

pub reftable_entries-loaded : (h : HeaderFields) (contents bytes : List ℕ) → bytes ≡ bytes_at contents h.reftable_offset (8 * reftable_entries h)
    → (i : ℕ) → entry_at bytes i ≡ reftable_entry h (byte_at contents) i
unfolding reftable_entry
reftable_entries-loaded h contents bytes is = loaded contents h.reftable_offset (reftable_entries h) bytes is

pub IsL1TableOf-loaded : (h : HeaderFields) (contents : List ℕ) (place entries : ℕ) (t : EntryTableView) → NamesL1Table h place entries → t.bytes ≡ bytes_at contents place (8 * entries) → IsL1TableOf h (byte_at contents) t
unfolding l1_entry
IsL1TableOf-loaded h contents place entries t names is = λ i. rw (names.0, names.1) (loaded contents place entries t.bytes is i)

pub IsRefTableOf-loaded : (h : HeaderFields) (contents : List ℕ) (place entries : ℕ) (t : EntryTableView) → NamesRefTable h place entries → t.bytes ≡ bytes_at contents place (8 * entries) → IsRefTableOf h (byte_at contents) t
unfolding reftable_entry
IsRefTableOf-loaded h contents place entries t names is = λ i. rw (names.0, names.1) (loaded contents place entries t.bytes is i)

-- ---- entries that are entered

-- what begins with a cluster begins on a multiple of 512
pub on_sector : (cluster cluster_bits : ℕ) → 9 ≤ cluster_bits → cluster * 2 ^ cluster_bits % 512 ≡ 0
on_sector cluster cluster_bits low =
    let split : cluster_bits ≡ (cluster_bits - 9) + 9 = omega arith in
    let whole : cluster * 2 ^ cluster_bits ≡ cluster * 2 ^ (cluster_bits - 9) * 512 = ap (λ k. cluster * 2 ^ k) split ∙ ap (λ n. cluster * n) (pow-add 2 (cluster_bits - 9) 9) ∙ omega arith in
    omega (arith, whole)

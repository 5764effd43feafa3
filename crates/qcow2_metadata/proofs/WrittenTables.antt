-- What the file holds of a written table.
use Rattle.std.proofs.Common.{◌≡◌, ◌≢◌, ◌+◌, ◌*◌, ◌%◌, ◌^◌, ◌<◌, ◌≤◌, if◌then◌else◌, ℕ, List, Option, Some, None, Result, Ok, Err, nat_lt, length, sym, ◌∙◌, subst, arith, IfSome, OnOk}
use Rattle.qcow2_metadata.proofs.Common.{w64, to_be_bytes, from_be_bytes-to_be_bytes_8, overwritten, StorageView, ContentsBecome, Changes, StorageError, byte_at-overwritten, byte_at-overwritten_outside, byte_at, number_at, HeaderFields, reftable_entries, l1_entry, l2_entry, reftable_entry, entry_at, EntryTableView, entry_count, IsL1TableOf, IsL1TableBut, IsRefTableOf, IsRefTableBut, NamesL1Table, NamesRefTable}
use Rattle.qcow2_metadata.proofs.BigEndian.{number_at-same, from_be_bytes-8}
use Rattle.qcow2_metadata.proofs.TableEntries.{number_at-moved}
use Rattle.qcow2_metadata.proofs.EntryTables.{entry_at_past}

-- what holds of the contents that are written holds after the write
after_becomes : {T : Type 0} (result : Result T StorageError) (old changed new : List ℕ) (P : List ℕ → Type 0) → P changed → ContentsBecome result old changed new → OnOk result (P new)
after_becomes (Ok _) old changed new P holds is = subst P (sym is) holds
after_becomes (Err _) old changed new P holds is = tt

pub after_write : {T : Type 0} (cluster : Option ℕ) (result : Result T StorageError) (old new : StorageView) (change : ℕ → List ℕ → List ℕ) (Named : ℕ → Type 0) (P : List ℕ → Type 0)
    → ((c : ℕ) → Named c → P (change c old.contents)) → old.is_honest → IfSome cluster (λ c. Changes old new result (change c)) → IfSome cluster (λ c. Named c → OnOk result (P new.contents))
after_write None result old new change Named P holds honest changes = tt
after_write (Some c) result old new change Named P holds honest changes = λ named. after_becomes result old.contents (change c old.contents) new.contents P (holds c named) (changes honest)

-- ---- a whole table

number_at-written : (contents : List ℕ) (at : ℕ) (bytes : List ℕ) (i : ℕ) → 8 * i + 8 ≤ length bytes → number_at (byte_at (overwritten contents at bytes)) (at + 8 * i) 8 ≡ entry_at bytes i
unfolding l2_entry
number_at-written contents at bytes i within = grind (arith, number_at-moved, byte_at-overwritten)

written : (contents : List ℕ) (at n : ℕ) (bytes : List ℕ) → length bytes ≡ 8 * n → (i : ℕ) → entry_at bytes i ≡ (if nat_lt i n then number_at (byte_at (overwritten contents at bytes)) (at + 8 * i) 8 else 0)
written contents at n bytes whole i = grind (arith, number_at-written, entry_at_past)

pub IsL1TableOf-written : (h : HeaderFields) (contents : List ℕ) (place : ℕ) (t : EntryTableView) → length t.bytes % 8 ≡ 0 → NamesL1Table h place (entry_count t)
    → IsL1TableOf h (byte_at (overwritten contents place t.bytes)) t
unfolding l1_entry
IsL1TableOf-written h contents place t whole names = λ i. rw (names.0, names.1) (written contents place (entry_count t) t.bytes (omega arith) i)

pub IsRefTableOf-written : (h : HeaderFields) (contents : List ℕ) (place : ℕ) (t : EntryTableView) → length t.bytes % 8 ≡ 0 → NamesRefTable h place (entry_count t)
    → IsRefTableOf h (byte_at (overwritten contents place t.bytes)) t
unfolding reftable_entry
IsRefTableOf-written h contents place t whole names = λ i. rw (names.0, names.1) (written contents place (entry_count t) t.bytes (omega arith) i)

-- ---- one entry

module _ (contents : List ℕ) (at i entry : ℕ) where
  here : entry < 2 ^ 64 → number_at (byte_at (overwritten contents (at + 8 * i) (to_be_bytes w64 entry))) (at + 8 * i) 8 ≡ entry
  here fits =
      let bytes : List ℕ = to_be_bytes w64 entry in
      sym (from_be_bytes-8 bytes (byte_at (overwritten contents (at + 8 * i) bytes)) (at + 8 * i) (λ k lt. sym (byte_at-overwritten contents (at + 8 * i) bytes k lt)))
      ∙ from_be_bytes-to_be_bytes_8 entry fits

  elsewhere : (j : ℕ) → j ≢ i → number_at (byte_at (overwritten contents (at + 8 * i) (to_be_bytes w64 entry))) (at + 8 * j) 8 ≡ number_at (byte_at contents) (at + 8 * j) 8
  elsewhere j apart = grind (arith, number_at-same, byte_at-overwritten_outside)

-- the others were there before
written_entry : (contents : List ℕ) (at n : ℕ) (bytes : List ℕ) (i : ℕ) → i < n → entry_at bytes i < 2 ^ 64
    → ((j : ℕ) → j ≢ i → entry_at bytes j ≡ (if nat_lt j n then number_at (byte_at contents) (at + 8 * j) 8 else 0))
    → (j : ℕ) → entry_at bytes j ≡ (if nat_lt j n then number_at (byte_at (overwritten contents (at + 8 * i) (to_be_bytes w64 (entry_at bytes i)))) (at + 8 * j) 8 else 0)
written_entry contents at n bytes i within fits before j = grind (arith, here, elsewhere)

pub IsL1TableOf-written_entry : (h : HeaderFields) (contents : List ℕ) (place : ℕ) (t : EntryTableView) (i : ℕ) → i < entry_count t → entry_at t.bytes i < 2 ^ 64
    → NamesL1Table h place (entry_count t) × IsL1TableBut i h (byte_at contents) t → IsL1TableOf h (byte_at (overwritten contents (place + 8 * i) (to_be_bytes w64 (entry_at t.bytes i)))) t
unfolding l1_entry
IsL1TableOf-written_entry h contents place t i within fits named =
    let few : i < h.l1_entries = omega (arith, named.0.1) in
    λ j. rw (← named.0.0) ((written_entry contents h.l1_offset h.l1_entries t.bytes i few fits named.1) j)

pub IsRefTableOf-written_entry : (h : HeaderFields) (contents : List ℕ) (place : ℕ) (t : EntryTableView) (i : ℕ) → i < entry_count t → entry_at t.bytes i < 2 ^ 64
    → NamesRefTable h place (entry_count t) × IsRefTableBut i h (byte_at contents) t → IsRefTableOf h (byte_at (overwritten contents (place + 8 * i) (to_be_bytes w64 (entry_at t.bytes i)))) t
unfolding reftable_entry
IsRefTableOf-written_entry h contents place t i within fits named =
    let few : i < reftable_entries h = omega (arith, named.0.1) in
    λ j. rw (← named.0.0) ((written_entry contents h.reftable_offset (reftable_entries h) t.bytes i few fits named.1) j)

-- A header is still the one in its contents after the same field is written to both.
use Rattle.std.proofs.Common.{◌≡◌, ◌≢◌, ◌⊎◌, ◌+◌, ◌^◌, ◌<◌, ◌≤◌, ◌==◌, ◌∷◌, if◌then◌else◌, inl, inr, ℕ, List, [], length, replicate, refl, sym, ap, ◌∙◌, subst, arith}
use Rattle.qcow2_metadata.proofs.Common.{eq-eqb, w64, to_be_bytes, overwritten, byte_at-overwritten_behind, Four, Eight, Bytes, byte_at, number_at, HeaderFields, HeaderView, header, backing_name, with_fields, with_size, with_l1_table, with_reftable, without_autoclear, IsInRange, IsWithinLimits, IsWellFormed, IsHeaderOf, IsHeaderIn, bytes_of_numbers, size_written, l1_table_pointer_written, reftable_pointer_written, autoclear_cleared}
use Rattle.qcow2_metadata.proofs.SameHeader.{is_header_of-same}
use Rattle.qcow2_metadata.proofs.WrittenHeader.{size_after, l1_table_after, reftable_after, autoclear_after}

-- the header of version 2 has 72 bytes, that of version 3 more
of_version : (v : ℕ) (l : ℕ) → (v ≡ 2) ⊎ (v ≡ 3) → (v ≡ 3 → 104 ≤ (if v == 2 then 72 else l)) → 72 ≤ (if v == 2 then 72 else l)
of_version v l (inl old) long = subst (λ test. 72 ≤ (if test then 72 else l)) (sym (eq-eqb v 2 old)) (omega arith)
of_version v l (inr new) long = omega (arith, long new)

header_long : (b : Bytes) → IsInRange (header b) → 72 ≤ (header b).header_length
unfolding header
header_long b in_range = of_version (number_at b 4 4) (number_at b 100 4) in_range.version in_range.header_length.0

-- one with an autoclear bit is of version 3
of_bits : (v l a : ℕ) → (v ≡ 2) ⊎ (v ≡ 3) → (v ≡ 3 → 104 ≤ (if v == 2 then 72 else l)) → (if v == 2 then 0 else a) ≢ 0 → 104 ≤ (if v == 2 then 72 else l)
of_bits v l a (inl old) long some = absurd (some (ap (λ test. if test then 0 else a) (eq-eqb v 2 old)))
of_bits v l a (inr new) long some = long new

header_new : (b : Bytes) → IsInRange (header b) → (header b).autoclear ≢ 0 → 104 ≤ (header b).header_length
unfolding header
header_new b in_range some = of_bits (number_at b 4 4) (number_at b 100 4) (number_at b 88 8) in_range.version in_range.header_length.0 some

four_eight : (n m : ℕ) → length (bytes_of_numbers (Four n ∷ Eight m ∷ [])) ≡ 12
unfolding bytes_of_numbers
four_eight n m = refl

eight_four : (n m : ℕ) → length (bytes_of_numbers (Eight n ∷ Four m ∷ [])) ≡ 12
unfolding bytes_of_numbers
eight_four n m = refl

-- the numbers that the driver changes
module _ (size l1_entries l1_offset reftable_offset reftable_clusters autoclear : HeaderFields → ℕ) where
  abbrev changed : HeaderFields → HeaderFields
  changed h = record h {
    size = size h;
    l1_entries = l1_entries h;
    l1_offset = l1_offset h;
    reftable_offset = reftable_offset h;
    reftable_clusters = reftable_clusters h;
    autoclear = autoclear h;
  }

  well_formed-changed : (h : HeaderFields) (b : Bytes) → IsWellFormed h b → IsWellFormed (changed h) b
  well_formed-changed h b formed = record {
    in_range = record {
      magic = formed.in_range.magic;
      version = formed.in_range.version;
      cluster_bits = formed.in_range.cluster_bits;
      refcount_order = formed.in_range.refcount_order;
      not_encrypted = formed.in_range.not_encrypted;
      incompatible = formed.in_range.incompatible;
      header_length = formed.in_range.header_length;
    };
    extensions = formed.extensions;
    backing_name = record { inside = formed.backing_name.inside; behind_header = formed.backing_name.behind_header; text = formed.backing_name.text };
  }

  still : (v : HeaderView) (h : HeaderFields) (b : Bytes) → IsHeaderOf v h b → IsWithinLimits (changed v.fields) → IsHeaderOf (with_fields v (changed v.fields)) (changed h) b
  unfolding backing_name well_formed-changed
  still v h b is limits = record {
    fields = ap changed is.fields;
    reads = record { well_formed = well_formed-changed h b is.reads.well_formed; within_limits = subst (λ k. IsWithinLimits (changed k)) is.fields limits };
    backing_name = is.backing_name;
    backing_format = is.backing_format;
    data_file_name = is.data_file_name;
  }

  -- a write among the header's numbers, after which they are these
  still_written : (contents bytes : List ℕ) (at : ℕ) (v : HeaderView) → header (byte_at (overwritten contents at bytes)) ≡ changed (header (byte_at contents)) → at + length bytes ≤ (header (byte_at contents)).header_length
      → IsWithinLimits (changed v.fields) → IsHeaderIn v contents → IsHeaderIn (with_fields v (changed v.fields)) (overwritten contents at bytes)
  still_written contents bytes at v after fits limits is =
      subst (λ k. IsHeaderOf (with_fields v (changed v.fields)) k (byte_at (overwritten contents at bytes))) (sym after)
      (still v (header (byte_at contents)) _ (is_header_of-same (header (byte_at contents)) _ _ (λ i le lt. sym (byte_at-overwritten_behind contents at bytes i (omega arith))) v is) limits)

module _ (contents : List ℕ) (v : HeaderView) where
  pub size_still : (old : ℕ) → v.fields.size < 2 ^ 64 → IsWithinLimits v.fields → IsHeaderIn (with_fields v (with_size v.fields old)) contents → IsHeaderIn v (size_written v.fields contents)
  size_still old fits limits is =
      still_written (λ _. v.fields.size) (λ k. k.l1_entries) (λ k. k.l1_offset) (λ k. k.reftable_offset) (λ k. k.reftable_clusters) (λ k. k.autoclear) contents (to_be_bytes w64 v.fields.size) 24
      (with_fields v (with_size v.fields old)) (size_after contents v.fields.size fits) (let long = header_long (byte_at contents) is.reads.well_formed.in_range in omega arith) limits is

  pub l1_table_still : (offset entries : ℕ) → v.fields.l1_entries < 2 ^ 32 → v.fields.l1_offset < 2 ^ 64 → IsWithinLimits v.fields
      → IsHeaderIn (with_fields v (with_l1_table v.fields offset entries)) contents → IsHeaderIn v (l1_table_pointer_written v.fields contents)
  l1_table_still offset entries fits_entries fits_offset limits is =
      still_written (λ k. k.size) (λ _. v.fields.l1_entries) (λ _. v.fields.l1_offset) (λ k. k.reftable_offset) (λ k. k.reftable_clusters) (λ k. k.autoclear)
      contents (bytes_of_numbers (Four v.fields.l1_entries ∷ Eight v.fields.l1_offset ∷ [])) 36 (with_fields v (with_l1_table v.fields offset entries)) (l1_table_after contents v.fields.l1_entries v.fields.l1_offset fits_entries fits_offset)
      (let long = header_long (byte_at contents) is.reads.well_formed.in_range in omega (arith, four_eight v.fields.l1_entries v.fields.l1_offset)) limits is

  pub reftable_still : (offset clusters : ℕ) → v.fields.reftable_offset < 2 ^ 64 → v.fields.reftable_clusters < 2 ^ 32 → IsWithinLimits v.fields
      → IsHeaderIn (with_fields v (with_reftable v.fields offset clusters)) contents → IsHeaderIn v (reftable_pointer_written v.fields contents)
  reftable_still offset clusters fits_offset fits_clusters limits is =
      still_written (λ k. k.size) (λ k. k.l1_entries) (λ k. k.l1_offset) (λ _. v.fields.reftable_offset) (λ _. v.fields.reftable_clusters) (λ k. k.autoclear)
      contents (bytes_of_numbers (Eight v.fields.reftable_offset ∷ Four v.fields.reftable_clusters ∷ [])) 48 (with_fields v (with_reftable v.fields offset clusters)) (reftable_after contents v.fields.reftable_offset v.fields.reftable_clusters fits_offset fits_clusters)
      (let long = header_long (byte_at contents) is.reads.well_formed.in_range in omega (arith, eight_four v.fields.reftable_offset v.fields.reftable_clusters)) limits is

  pub autoclear_still : v.fields.autoclear ≢ 0 → IsHeaderIn v contents → IsHeaderIn (with_fields v (without_autoclear v.fields)) (autoclear_cleared contents)
  autoclear_still some is =
      let limits = subst IsWithinLimits (sym is.fields) is.reads.within_limits in
      still_written (λ k. k.size) (λ k. k.l1_entries) (λ k. k.l1_offset) (λ k. k.reftable_offset) (λ k. k.reftable_clusters) (λ _. 0) contents (replicate 8 0) 88 v (autoclear_after contents)
      (let long = header_new (byte_at contents) is.reads.well_formed.in_range (λ none. some (ap (λ (k : HeaderFields). k.autoclear) is.fields ∙ none)) in omega arith)
      (record { few_l1_entries = limits.few_l1_entries; few_reftable_entries = limits.few_reftable_entries }) is

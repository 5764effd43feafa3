-- The calls that write header numbers, as steps outside of the caches' modified tables.
use Rattle.std.proofs.Common.{◌≡◌, ◌≢◌, ◌⊎◌, ◌+◌, ◌<◌, ◌≤◌, if◌then◌else◌, inl, inr, ℕ, List, replicate, ap, ◌∙◌, subst, lit≤, arith}
use Rattle.qcow2_laws.proofs.Common.{eq-eqb, Bytes, byte_at, number_at, HeaderFields, HeaderView, header, HeaderReads, cluster_size, with_size, with_l1_table, with_reftable, without_autoclear, CachedTable, IsOfHeaderRest, Direction, Pending, Places, with_places, IsSameBut, WritesHeader, resized_places, with_l1_at, with_reftable_at, known_bytes, CacheInvariantOver}
use Rattle.std.specs.Int.{w64, to_be_bytes}
use Rattle.qcow2_metadata.specs.HeaderLoad.{IsHeaderIn}
use Rattle.qcow2_metadata.specs.HeaderWrite.{bytes_of_numbers, size_written, l1_table_pointer_written, reftable_pointer_written, autoclear_cleared}
use Rattle.qcow2_laws.proofs.Beside.{overwritten_but, header_beside}

-- a pointer has twelve bytes
l1_pointer_but : (h : HeaderFields) (contents : List ℕ) → IsSameBut 36 12 (byte_at contents) (byte_at (l1_table_pointer_written h contents))
unfolding bytes_of_numbers
l1_pointer_but h contents = overwritten_but contents 36 _

reftable_pointer_but : (h : HeaderFields) (contents : List ℕ) → IsSameBut 48 12 (byte_at contents) (byte_at (reftable_pointer_written h contents))
unfolding bytes_of_numbers
reftable_pointer_but h contents = overwritten_but contents 48 _

-- the size and the pointers to the tables lie outside of the rest of the header
rest_apart : (h : HeaderFields) (place n o : ℕ) → 24 ≤ place → (place + n ≤ 32) ⊎ (36 ≤ place) → place + n ≤ 60 → IsOfHeaderRest h o → (o < place) ⊎ (place + n ≤ o)
rest_apart h place n o from gap to of_rest = grind arith

-- so do the autoclear bits, where there are any
old_has_none : (b : Bytes) → (header b).version ≡ 2 → (header b).autoclear ≡ 0
unfolding header
old_has_none b old = ap (λ test. if test then 0 else number_at b 88 8) (eq-eqb (number_at b 4 4) 2 old)

bits_apart : (h : HeaderFields) (b : Bytes) (o : ℕ) → header b ≡ h → h.autoclear ≢ 0 → IsOfHeaderRest h o → (o < 88) ⊎ (96 ≤ o)
bits_apart h b o is some of_rest = grind (arith, old_has_none)

module _ (h : HeaderFields) (d : Direction) (p : Pending) (l2s rbs : List CachedTable) (contents : List ℕ) (kept : CacheInvariantOver h d p l2s rbs (byte_at contents)) where
  abbrev known : List ℕ → Bytes
  known c = known_bytes (cluster_size h) l2s rbs (byte_at c)

  header_is : header (byte_at contents) ≡ h
  header_is = kept.crash_invariant.top.header_is

  -- what the header of the contents reads as, the same header reads
  reads_as : (a : Places) (v : HeaderView) (c : List ℕ) → header (byte_at c) ≡ with_places h a → IsHeaderIn v c → HeaderReads (with_places h a) (byte_at c)
  reads_as a v c is there = subst (λ k. HeaderReads k (byte_at c)) is there.reads

  -- the size
  pub size_beside : (v : HeaderView) → header (byte_at (size_written v.fields contents)) ≡ with_size (header (byte_at contents)) v.fields.size → IsHeaderIn v (size_written v.fields contents)
      → WritesHeader h (resized_places h v.fields.size h.autoclear) (byte_at contents) (known contents) (byte_at (size_written v.fields contents)) (known (size_written v.fields contents))
  size_beside v fields there =
      let a = resized_places h v.fields.size h.autoclear in
      let new = size_written v.fields contents in
      let is : header (byte_at new) ≡ with_places h a = fields ∙ ap (λ k. with_size k v.fields.size) header_is in
      header_beside h d p l2s rbs (byte_at contents) (byte_at new) kept a 24 8 (lit≤ tt) (λ o of_rest. rest_apart h 24 8 o (lit≤ tt) (inl (lit≤ tt)) (lit≤ tt) of_rest) (overwritten_but contents 24 (to_be_bytes w64 v.fields.size)) is (reads_as a v new is there)

  -- the place of the L1 table
  pub l1_pointer_beside : (v : HeaderView)
      → header (byte_at (l1_table_pointer_written v.fields contents)) ≡ with_l1_table (header (byte_at contents)) v.fields.l1_offset v.fields.l1_entries
      → IsHeaderIn v (l1_table_pointer_written v.fields contents)
      → WritesHeader h (with_l1_at h v.fields.l1_offset v.fields.l1_entries) (byte_at contents) (known contents) (byte_at (l1_table_pointer_written v.fields contents))
      (known (l1_table_pointer_written v.fields contents))
  l1_pointer_beside v fields there =
      let a = with_l1_at h v.fields.l1_offset v.fields.l1_entries in
      let new = l1_table_pointer_written v.fields contents in
      let is : header (byte_at new) ≡ with_places h a = fields ∙ ap (λ k. with_l1_table k v.fields.l1_offset v.fields.l1_entries) header_is in
      header_beside h d p l2s rbs (byte_at contents) (byte_at new) kept a 36 12 (lit≤ tt) (λ o of_rest. rest_apart h 36 12 o (lit≤ tt) (inr (lit≤ tt)) (lit≤ tt) of_rest) (l1_pointer_but v.fields contents) is (reads_as a v new is there)

  -- that of the reftable
  pub reftable_pointer_beside : (v : HeaderView)
      → header (byte_at (reftable_pointer_written v.fields contents)) ≡ with_reftable (header (byte_at contents)) v.fields.reftable_offset v.fields.reftable_clusters
      → IsHeaderIn v (reftable_pointer_written v.fields contents)
      → WritesHeader h (with_reftable_at h v.fields.reftable_offset v.fields.reftable_clusters) (byte_at contents) (known contents) (byte_at (reftable_pointer_written v.fields contents))
      (known (reftable_pointer_written v.fields contents))
  reftable_pointer_beside v fields there =
      let a = with_reftable_at h v.fields.reftable_offset v.fields.reftable_clusters in
      let new = reftable_pointer_written v.fields contents in
      let is : header (byte_at new) ≡ with_places h a = fields ∙ ap (λ k. with_reftable k v.fields.reftable_offset v.fields.reftable_clusters) header_is in
      header_beside h d p l2s rbs (byte_at contents) (byte_at new) kept a 48 12 (lit≤ tt) (λ o of_rest. rest_apart h 48 12 o (lit≤ tt) (inr (lit≤ tt)) (lit≤ tt) of_rest) (reftable_pointer_but v.fields contents) is (reads_as a v new is there)

  -- no autoclear bit any more, where one was set
  pub autoclear_beside : (v : HeaderView) → h.autoclear ≢ 0 → header (byte_at (autoclear_cleared contents)) ≡ without_autoclear (header (byte_at contents)) → IsHeaderIn v (autoclear_cleared contents)
      → WritesHeader h (resized_places h h.size 0) (byte_at contents) (known contents) (byte_at (autoclear_cleared contents)) (known (autoclear_cleared contents))
  autoclear_beside v some fields there =
      let a = resized_places h h.size 0 in
      let new = autoclear_cleared contents in
      let is : header (byte_at new) ≡ with_places h a = fields ∙ ap without_autoclear header_is in
      header_beside h d p l2s rbs (byte_at contents) (byte_at new) kept a 88 8 (lit≤ tt) (λ o of_rest. bits_apart h (byte_at contents) o header_is some of_rest) (overwritten_but contents 88 (replicate 8 0)) is (reads_as a v new is there)

-- A prepared mapping that isn't existing lies in clusters that an entry can hold, so within 64 bits.
use Rattle.qcow2_image.proofs.Common.{div-add-mod', mod_below, pow_pos, slice_get-get_or, BackingView, StorageView, Bytes, CoverIsAligned, cover, cover_of, cover_under, host_offset, cluster_size, greatest_offset, HeaderFields, L2Mapping, Pending, contents_in, known_in, Qcow2, Prepared, ClusterMapping, InPlace, Kept, New, cluster_of, host_begin_of, IsPending, IsReadyWith, IsClusterMappingAt, ImageInvariant, table_of, Mappings, IsKeptAt, IsNewAt}
use Rattle.std.proofs.Common.{◌≡◌, ◌+◌, ◌*◌, ◌/◌, ◌%◌, ◌^◌, ◌<◌, ◌≤◌, if◌then◌else◌, ℕ, Bool, true, false, List, Option, Some, None, refl, subst, arith, get_or, pow_mono}
use Rattle.qcow2_metadata.specs.declared.l2_mapping.L2Mapping.TheVariants as M
use Rattle.qcow2_image.proofs.Commit.Entered.{HasFirst}
use Rattle.qcow2_image.proofs.Images.ClusterMappings.{byte_place, byte_of_mapping}
use Rattle.qcow2_image.proofs.Images.Places.{at_image}

-- ---- places that entries name

-- Where data lie, by what an entry says: at an offset that an entry can hold.
pub record IsNearData (mapping : L2Mapping) : Type 0 where
  pub near : (host : ℕ) (copied : Bool) → mapping ≡ M.Data host copied → host ≤ greatest_offset

host_near : (entry : ℕ) → host_offset entry ≤ greatest_offset
host_near entry = let lt = mod_below (entry / 2 ^ 9) (2 ^ 47) (pow_pos 47) in omega (arith, lt)

near_if : (b : Bool) (x y : L2Mapping) → IsNearData x → IsNearData y → IsNearData (if b then x else y)
near_if true x y here there = here
near_if false x y here there = there

near_uncovered : IsNearData M.Uncovered
near_uncovered = record { near = λ host copied is. absurd (let no : M.Uncovered ≡ M.Data host copied = is in cc) }

near_compressed : (place sectors : ℕ) → IsNearData (M.Compressed place sectors)
near_compressed place sectors = record { near = λ host copied is. absurd (let no : M.Compressed place sectors ≡ M.Data host copied = is in cc) }

near_zero : (kept : Option (ℕ × Bool)) → IsNearData (M.Zero kept)
near_zero kept = record { near = λ host copied is. absurd (let no : M.Zero kept ≡ M.Data host copied = is in cc) }

near_data : (entry : ℕ) (mark : Bool) → IsNearData (M.Data (host_offset entry) mark)
near_data entry mark = record { near = λ host copied is. let same : host_offset entry ≡ host = cc in subst (λ n. n ≤ greatest_offset) same (host_near entry) }

pub cover_near : (h : HeaderFields) (b : Bytes) (g : ℕ) → IsNearData (cover h b g)
unfolding cover cover_under cover_of
cover_near h b g = near_if _ _ _ near_uncovered (near_if _ _ _ (near_compressed _ _) (near_if _ _ _ (near_zero _) (near_if _ _ _ (near_data _ _) near_uncovered)))

-- ---- where a prepared mapping lies

module _ {S F : Type 0} (view : S → StorageView) (backing : F → BackingView) (old : Qcow2 S F) (out : Mappings) (pending : Pending) (sound : ImageInvariant view backing pending old out) (p : Prepared) where
  abbrev h : HeaderFields
  h = old.file.header.fields

  abbrev size : ℕ
  size = cluster_size h

  pub small : size ≤ 2 ^ 21
  small = pow_mono sound.file.caches.kept.kept.crash_invariant.top.header_reads.well_formed.in_range.cluster_bits.1

  -- where the cluster of a cluster mapping lies
  pub stands_first : (cluster_mapping : ClusterMapping) (i : ℕ) → IsClusterMappingAt h out.place (known_in view old.file) (contents_in view old.file) p i cluster_mapping → HasFirst h p i
  stands_first InPlace i is =
      let aligned : host_begin_of h p i % size ≡ 0 = subst (CoverIsAligned h) is (sound.file.caches.kept.kept.crash_invariant.known_aligned (cluster_of h p + i)) in
      let whole : host_begin_of h p i / size * size + host_begin_of h p i % size ≡ host_begin_of h p i = div-add-mod' (host_begin_of h p i) size in
      let near = (cover_near h (known_in view old.file) (cluster_of h p + i)).near (host_begin_of h p i) true is in
      record { first = host_begin_of h p i / size; place = omega (arith, aligned, whole); nameable = omega (arith, aligned, whole, near) }
  stands_first Kept i is = let at : IsKeptAt h (known_in view old.file) (contents_in view old.file) p i = at_image (λ place. IsClusterMappingAt h place (known_in view old.file) (contents_in view old.file) p i Kept) sound is in record { first = at.first; place = at.place; nameable = at.nameable }
  stands_first (New taken old_data) i is =
      let at : IsNewAt h (known_in view old.file) (contents_in view old.file) p i taken old_data = at_image (λ place. IsClusterMappingAt h place (known_in view old.file) (contents_in view old.file) p i (New taken old_data)) sound is in
      record { first = at.first; place = at.place; nameable = at.nameable }

  -- a byte of a mapping that isn't existing lies within 64 bits
  byte_near : (table : ℕ) → IsPending h out.place (known_in view old.file) (contents_in view old.file) p table → (at n : ℕ) → at + n ≤ p.length → 0 < n → p.offset + at < 2 ^ 64
  byte_near table ready at n fits some =
      let place = byte_place h p (known_in view old.file) (contents_in view old.file) table ready at 0 n fits some in
      let index = (p.guest % size + at + 0) / size in
      let found = slice_get-get_or p.clusters.items index InPlace (byte_of_mapping h p (known_in view old.file) (contents_in view old.file) table ready at 0 n fits some) in
      let stands = stands_first (get_or p.clusters.items index InPlace) index (ready.each index (get_or p.clusters.items index InPlace) found) in
      let begins = stands.place in
      let near = stands.nameable in
      let rest = mod_below (p.guest + at + 0) size (pow_pos h.cluster_bits) in
      let s = small in
      omega (arith, place, begins, near, rest, s)

  -- so a place past them is one of an existing mapping
  pub past_existing : IsReadyWith h out.place (known_in view old.file) (contents_in view old.file) p p.table → (at n : ℕ) → at + n ≤ p.length → 0 < n → 2 ^ 64 ≤ p.offset + at → table_of p ≡ None
  past_existing ready at n fits some past = by_table p.table ready where
    by_table : (t : Option ℕ) → IsReadyWith h out.place (known_in view old.file) (contents_in view old.file) p t → t ≡ None
    by_table None none = refl
    by_table (Some t) is = absurd (let near = byte_near t is at n fits some in omega (arith, near, past))

-- If the rest of a header stays the same, the names, the extensions and the refcount width do too.
use Rattle.std.proofs.Common.{◌≡◌, ◌+◌, ◌^◌, ◌<◌, ◌≤◌, if◌then◌else◌, ℕ, inl, List, ap, arith}
use Rattle.qcow2_disk.proofs.Common.{eq-eqb, Bytes, number_at, header, cluster_size, backing_name, AreExtensions, HeaderReads, IsOfHeaderRest, KeepsHeaderRest}
use Rattle.std.proofs.Math.Pow.{pow_mono}
use Rattle.qcow2_metadata.proofs.BigEndian.{number_at-same}
use Rattle.qcow2_metadata.proofs.SameHeader.{SameBetween, extensions-same, backing_name-same}
use Rattle.qcow2_disk.specs.ForUsers.{HeaderRestHasNames}

module _ (old new : Bytes) (reads : HeaderReads (header old) old) (keeps : KeepsHeaderRest old new) where
  large : 512 ≤ cluster_size (header old)
  large = let low : 2 ^ 9 ≤ 2 ^ (header old).cluster_bits = pow_mono reads.well_formed.in_range.cluster_bits.0 in omega (arith, low)

  number_stays : (place k : ℕ) → place + k ≤ 104 → ((i : ℕ) → i < k → IsOfHeaderRest (header old) (place + i)) → number_at new place k ≡ number_at old place k
  number_stays place k fits of_rest = number_at-same new old place k (λ i lt. keeps.bytes (place + i) (omega (arith, large, fits, lt)) (of_rest i lt))

  front_stays : (place k : ℕ) → place + k ≤ 24 → number_at new place k ≡ number_at old place k
  front_stays place k fits = number_stays place k (omega (arith, fits)) (λ i lt. inl (omega (arith, fits, lt)))

  offset_stays : (header new).backing_offset ≡ (header old).backing_offset
  unfolding header
  offset_stays = front_stays 8 8 (omega arith)

  length_stays : (header new).backing_length ≡ (header old).backing_length
  unfolding header
  length_stays = front_stays 16 4 (omega arith)

  header_length_stays : (header new).header_length ≡ (header old).header_length
  unfolding header
  header_length_stays = grind (arith, number_stays)

  -- so do the bits of counts
  pub order_stays : (header new).refcount_order ≡ (header old).refcount_order
  unfolding header
  order_stays = grind (arith, number_stays)

  old_length : (header old).version ≡ 2 → (header old).header_length ≡ 72
  unfolding header
  old_length is = ap (λ test. if test then 72 else number_at old 100 4) (eq-eqb (number_at old 4 4) 2 is)

  behind_header : SameBetween (header old).header_length (cluster_size (header old)) old new
  behind_header i le lt = grind (arith, old_length)

  name_stays : backing_name (header new) new ≡ backing_name (header old) old
  unfolding backing_name
  name_stays = grind (arith, offset_stays, length_stays, backing_name-same, behind_header)

  extensions_stay : (list : List (ℕ × List ℕ)) → AreExtensions old (cluster_size (header old)) (header old).header_length list → AreExtensions new (cluster_size (header new)) (header new).header_length list
  extensions_stay list are = grind (arith, header_length_stays, extensions-same, behind_header)

pub names_stay : HeaderRestHasNames
names_stay old new reads keeps = record { backing_name = name_stays old new reads keeps; extensions = extensions_stay old new reads keeps }

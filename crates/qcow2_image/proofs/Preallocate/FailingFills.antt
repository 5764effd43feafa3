-- Why filling a range, and growing a disk, is refused on a sound image.
use Rattle.qcow2_image.proofs.Common.{div-lt_iff_lt-mul, cases_lt, div-add-mod', mul-le, pow_pos, BackingView, StorageView, PreallocateMode, Bytes, cover, HasRoomIfPlaced, entry_count, cluster_size, entries_per_cluster, rounded_up, copied_host, zero_cover, HeaderFields, L2Mapping, Compressed, IsCompressed, Touches, is_copied_data, Pending, IsFault, known_in, ImageError, HasPinnedMapping, InternalCall, IsUnderMapping, l1_index_of, ImageInvariant, NeedsOverflowingL1Entry, ReachesOffset, IsPlacedNear, copied_end, CopiesCompressed, HasCompressedIn, HasNearEntries, MayFailGrowing, MayFailAllocating, KeepsL1Place, MovesTables, FillsPart, IsTaken, Qcow2, Prepared, Mappings}
use Rattle.std.proofs.Common.{◌≡◌, ◌⊎◌, ◌+◌, ◌-◌, ◌*◌, ◌/◌, ◌%◌, ◌^◌, ◌<◌, ◌≤◌, inl, inr, ℕ, Bool, true, false, List, Option, Some, None, sym, ap, ◌∙◌, subst, arith, pow_mono}
use Rattle.qcow2_disk.specs.GrownCovers.{FilledCovers}
use Rattle.qcow2_image.proofs.Grow.L1Lengths.{index_moved, index_rising, last_cluster}
use Rattle.qcow2_image.proofs.Preallocate.Covers.{touches_or}
use Rattle.qcow2_image.proofs.Preallocate.FilledGrowth.{up_rising}
use Rattle.qcow2_image.proofs.Preallocate.FillSteps.{same_size, same_version}
use Rattle.qcow2_image.proofs.Prepare.FailingAllocations.{taking_as}
use Rattle.qcow2_image.proofs.Prepare.Unannounced.{compressed_in}

-- ---- refusals

-- clusters that are listed are freed after the refusal, or a fault refuses that
pub met_filling_freed : (out : Mappings) (mode : PreallocateMode) (from to : ℕ) (h : HeaderFields) (known : Bytes) (e e' : ImageError) → (e' ≡ e) ⊎ IsFault e' → MayFailGrowing out mode from to h known e → MayFailGrowing out mode from to h known e'
met_filling_freed out mode from to h known e e' told may_fail = elim told [ inl same ↦ subst (MayFailGrowing out mode from to h known) (sym same) may_fail | inr fault ↦ inl (inl (inl (inl fault))) ]

-- a mapping for which a table is kept is prepared
pub taken_prepared : (h : HeaderFields) (known : Bytes) (offset n : ℕ) (out : Mappings) → IsTaken h known offset n out → HasPinnedMapping out
taken_prepared h known offset n out taken = record { place = taken.place; mapping = taken.other; there = taken.is_out; pins = taken.keeps_table }

pub under_prepared : (h : HeaderFields) (offset : ℕ) (out : Mappings) → IsUnderMapping h offset out → HasPinnedMapping out
under_prepared h offset out under = record { place = under.place; mapping = under.other; there = under.is_out; pins = under.keeps_table }

-- ---- what is compressed

-- copied data isn't, nor are zeros
copied_plain : (v : L2Mapping) → is_copied_data v ≡ true → IsCompressed v → ⊥
copied_plain (Compressed place sectors) copied_is is = let no : false ≡ true = copied_is in absurd cc
copied_plain _ copied_is is = is

zeros_plain : (kept : Option ℕ) → IsCompressed (zero_cover kept) → ⊥
zeros_plain None is = is
zeros_plain (Some host) is = is

-- once a range was filled no more is than before
still_compressed : (cs : ℕ) → 0 < cs → (first from to : ℕ) (h : HeaderFields) (known : Bytes) (h' : HeaderFields) (known' : Bytes) → FilledCovers cs first from to h known h' known' → (g : ℕ) → IsCompressed (cover h' known' g) → IsCompressed (cover h known g)
still_compressed cs some first from to h known h' known' covers g is = elim (touches_or cs some from to g) [
  | inr beside ↦ subst IsCompressed (sym (covers.beside g beside)) is
  | inl touches ↦ elim (cases_lt (g * cs) first) [
    | inl before ↦ absurd (copied_plain (cover h' known' g) (covers.copied g touches before) is)
    | inr past ↦ absurd (zeros_plain (copied_host (cover h known g)) (subst IsCompressed (covers.zeros g touches past) is))
  ]
]

-- a range within another one
pub compressed_wider : (h : HeaderFields) (known : Bytes) (from to from' to' : ℕ) → from ≤ from' → to' ≤ to → HasCompressedIn from' to' h known → HasCompressedIn from to h known
compressed_wider h known from to from' to' low high has =
    let a = has.touched.0 in
    let b = has.touched.1 in
    let c = has.touched.2 in
    record { guest = has.guest; touched = (omega (arith, a, low, high), omega (arith, b, low), omega (arith, c, high)); is = has.is }

-- by a header of which at most tables moved
compressed_moved : (h h' : HeaderFields) (known known' : Bytes) (from to : ℕ) → MovesTables h h' → ((g : ℕ) → IsCompressed (cover h' known' g) → IsCompressed (cover h known g)) → HasCompressedIn from to h' known' → HasCompressedIn from to h known
compressed_moved h h' known known' from to file_step was has = record {
  guest = has.guest;
  touched = subst (λ s. Touches s from to has.guest) (same_size h h' file_step) has.touched;
  is = was has.guest has.is;
}

-- ---- where the L1 entries lie

-- the entries of a table that stays where it is are near still
pub near_moved : (h h' : HeaderFields) (to to' : ℕ) → MovesTables h h' → KeepsL1Place h h' → to' ≤ to → HasNearEntries to h → HasNearEntries to' h'
near_moved h h' to to' file_step kept le near =
    let rising = index_rising h (to' - 1) (to - 1) (omega (arith, le)) in
    let index = index_moved h h' (to' - 1) file_step in
    let reaches = near.reaches in
    let room = near.near in
    let place = kept.0 in
    let many = kept.1 in
    record { reaches = omega (arith, rising, index, reaches, many); near = omega (arith, room, place, many) }

-- a range that they reach ends within 64 bits
pub near_ends : (h : HeaderFields) (to : ℕ) → (9 ≤ h.cluster_bits) × (h.cluster_bits ≤ 21) → h.l1_entries ≤ 4194304 → HasNearEntries to h → to < 2 ^ 64
near_ends h to bits few near =
    let cs = cluster_size h in
    let rows = entries_per_cluster h in
    let long : 2 ^ 9 ≤ 2 ^ h.cluster_bits = pow_mono bits.0 in
    let large : 2 ^ h.cluster_bits ≤ 2 ^ 21 = pow_mono bits.1 in
    let cluster : (to - 1) / cluster_size h < h.l1_entries * entries_per_cluster h = (div-lt_iff_lt-mul (let some : 0 < rows = omega (arith, long) in some)).0 near.reaches in
    let byte : to - 1 < h.l1_entries * entries_per_cluster h * cluster_size h = (div-lt_iff_lt-mul (pow_pos h.cluster_bits)).0 cluster in
    let most : h.l1_entries * entries_per_cluster h ≤ 4194304 * 262144 = mul-le h.l1_entries rows 4194304 262144 few (omega (arith, large)) in
    let all : h.l1_entries * entries_per_cluster h * cluster_size h ≤ 4194304 * 262144 * 2097152 = mul-le (h.l1_entries * entries_per_cluster h) cs (4194304 * 262144) 2097152 most large in
    omega (arith, byte, all)

-- 64 bits hold where an entry of a table lies that ends near
room_near : (h : HeaderFields) (bits : ℕ) (cluster : Option ℕ) (index : ℕ) → bits ≡ h.cluster_bits → cluster ≡ Some (h.l1_offset / cluster_size h) → index < h.l1_entries → h.l1_offset + 8 * h.l1_entries ≤ 2 ^ 64 → HasRoomIfPlaced bits (8 * index) cluster
room_near h bits cluster index same is within near =
    let parts : h.l1_offset / cluster_size h * cluster_size h + h.l1_offset % cluster_size h ≡ h.l1_offset = div-add-mod' h.l1_offset (cluster_size h) in
    let size : h.l1_offset / cluster_size h * 2 ^ bits ≡ h.l1_offset / cluster_size h * cluster_size h = ap (λ b. h.l1_offset / cluster_size h * 2 ^ b) same in
    subst (λ (o : Option ℕ). HasRoomIfPlaced bits (8 * index) o) (sym is) (omega (arith, parts, size, within, near))

module _ {S F : Type 0} (view : S → StorageView) (backing : F → BackingView) (out : Mappings) where
  module _ (p : Pending) (image : Qcow2 S F) (sound : ImageInvariant view backing p image out) (from to : ℕ) (lt : from < to) (near : HasNearEntries to image.file.header.fields) where
    -- the table has an entry for each byte before
    pub entry_reached : l1_index_of image.file.header.fields from < entry_count image.l1_table
    entry_reached =
        let rising = index_rising image.file.header.fields from (to - 1) (omega (arith, lt)) in
        let reaches = near.reaches in
        let count = sound.l1_table.count in
        omega (arith, rising, reaches, count)

    -- and none past 64 bits would have to be written for it
    pub never_far : NeedsOverflowingL1Entry image from → ⊥
    never_far needs =
        let within = entry_reached in
        let count = sound.l1_table.count in
        let h = image.file.header.fields in
        let inside : l1_index_of image.file.header.fields from < image.file.header.fields.l1_entries = omega (arith, within, count) in
        needs.0.far (room_near h image.l1_table.cluster_bits image.l1_table.cluster (l1_index_of h from) sound.l1_table.bits (sound.l1_table.cluster (omega (arith, inside))) inside near.near)

    -- why preparing the first bytes of a range is refused
    pub met_piece : (n : ℕ) → from + n ≤ to → (overwrite : Bool) (e : ImageError) → MayFailAllocating (HasPinnedMapping out) (IsTaken image.file.header.fields (known_in view image.file) from n out) (CopiesCompressed from n overwrite image.file.header.fields (known_in view image.file)) (NeedsOverflowingL1Entry image from) e
        → MayFailAllocating (HasPinnedMapping out) (HasPinnedMapping out) (HasCompressedIn from to image.file.header.fields (known_in view image.file)) ⊥ e
    met_piece n within overwrite e may_fail =
        let h = image.file.header.fields in
        let known = known_in view image.file in
        taking_as (λ held. held) (taken_prepared h known from n out) (λ found. compressed_wider h known from to from (from + n) (omega arith) within (compressed_in h known from n overwrite found)) never_far e may_fail

  -- what ends within a range that they reach, rounded up to a cluster, doesn't pass 64 bits
  pub never_past : (p : Pending) (image : Qcow2 S F) → ImageInvariant view backing p image out → (size at cs : ℕ) → at ≤ size → cs ≡ cluster_size image.file.header.fields → HasNearEntries (rounded_up (cluster_size image.file.header.fields) size) image.file.header.fields → 2 ^ 64 ≤ rounded_up cs at → ⊥
  never_past p image sound size at cs le same near past =
      let h = image.file.header.fields in
      let reads = sound.file.caches.kept.kept.crash_invariant.top.header_reads in
      let ends = near_ends h (rounded_up (cluster_size h) size) reads.well_formed.in_range.cluster_bits reads.within_limits.few_l1_entries near in
      let rising = up_rising (cluster_size h) at size (pow_pos h.cluster_bits) le in
      let here : rounded_up cs at ≡ rounded_up (cluster_size image.file.header.fields) at = ap (λ s. rounded_up s at) same in
      omega (arith, ends, rising, here, past)

  -- ---- after a part that was filled
  module _ (first from at : ℕ) (old now : Qcow2 S F) (part : FillsPart view backing first from at old now out) where
    pub compressed_before : (from' to' x y : ℕ) → x ≤ from' → to' ≤ y → HasCompressedIn from' to' now.file.header.fields (known_in view now.file) → HasCompressedIn x y old.file.header.fields (known_in view old.file)
    compressed_before from' to' x y low high has =
        let h = old.file.header.fields in
        let h' = now.file.header.fields in
        compressed_wider h (known_in view old.file) x y from' to' low high
        (compressed_moved h h' (known_in view old.file) (known_in view now.file) from' to' part.header (still_compressed (cluster_size h) (pow_pos h.cluster_bits) first from at h (known_in view old.file) h' (known_in view now.file) part.covers) has)

    pub met_before : (from' to' x y : ℕ) → x ≤ from' → to' ≤ y → (e : ImageError) → MayFailAllocating (HasPinnedMapping out) (HasPinnedMapping out) (HasCompressedIn from' to' now.file.header.fields (known_in view now.file)) ⊥ e
        → MayFailAllocating (HasPinnedMapping out) (HasPinnedMapping out) (HasCompressedIn x y old.file.header.fields (known_in view old.file)) ⊥ e
    met_before from' to' x y low high e may_fail = taking_as (λ held. held) (λ kept. kept) (compressed_before from' to' x y low high) (λ never. never) e may_fail

    -- the entries that they reach are near still: the L1 table stays where it is
    pub near_behind : (to to' : ℕ) → at ≤ to → to' ≤ to → HasNearEntries to old.file.header.fields → HasNearEntries to' now.file.header.fields
    near_behind to to' low le near =
        let rising = index_rising old.file.header.fields (at - 1) (to - 1) (omega (arith, low)) in
        let reaches = near.reaches in
        near_moved old.file.header.fields now.file.header.fields to to' part.header (part.l1_table (omega (arith, rising, reaches))) le near

-- ---- a larger disk
module _ {S F : Type 0} (view : S → StorageView) (backing : F → BackingView) (out : Mappings) where
  -- the entries of an L1 table that was made as long as a size asks for are near, up to the end of the last cluster
  pub near_longer_ends : (h : HeaderFields) (p : Pending) (long : Qcow2 S F) (size : ℕ) → 0 < size → MovesTables h long.file.header.fields → ReachesOffset (size - 1) h long.file.header.fields → ImageInvariant view backing p long out → IsPlacedNear long.l1_table
      → HasNearEntries (rounded_up (cluster_size long.file.header.fields) size) long.file.header.fields
  near_longer_ends h p long size any file_step reaches sound placed =
      let h' = long.file.header.fields in
      let index = index_moved h h' (size - 1) file_step in
      let last : l1_index_of long.file.header.fields (rounded_up (cluster_size long.file.header.fields) size - 1) ≡ l1_index_of long.file.header.fields (size - 1) = ap (λ x. x / entries_per_cluster h') (last_cluster (cluster_size h') size (pow_pos h'.cluster_bits) any) in
      let within : l1_index_of long.file.header.fields (rounded_up (cluster_size long.file.header.fields) size - 1) < long.file.header.fields.l1_entries = omega (arith, reaches, index, last) in
      record { reaches = within; near = near_end (sound.l1_table.cluster (omega (arith, within))) }
    where
      near_end : long.l1_table.cluster ≡ Some (long.file.header.fields.l1_offset / cluster_size long.file.header.fields) → long.file.header.fields.l1_offset + 8 * long.file.header.fields.l1_entries ≤ 2 ^ 64
      near_end is =
          let cs = cluster_size long.file.header.fields in
          let there : Some placed.cluster ≡ Some (long.file.header.fields.l1_offset / cluster_size long.file.header.fields) = sym placed.is ∙ is in
          let same : placed.cluster ≡ long.file.header.fields.l1_offset / cluster_size long.file.header.fields = cc in
          let parts : long.file.header.fields.l1_offset / cluster_size long.file.header.fields * cluster_size long.file.header.fields + long.file.header.fields.l1_offset % cluster_size long.file.header.fields ≡ long.file.header.fields.l1_offset = div-add-mod' long.file.header.fields.l1_offset cs in
          let place : placed.cluster * 2 ^ long.l1_table.cluster_bits ≡ long.file.header.fields.l1_offset / cluster_size long.file.header.fields * cluster_size long.file.header.fields = ap (λ b. placed.cluster * 2 ^ b) sound.l1_table.bits ∙ ap (λ c. c * cs) same in
          let aligned = sound.file.caches.kept.kept.crash_invariant.top.l1_aligned in
          let nameable = placed.nameable in
          let few = placed.few in
          let count = sound.l1_table.count in
          omega (arith, parts, place, aligned, nameable, few, count)

  -- why filling past the old end is refused after the L1 table was made longer
  pub met_behind : (old long : Qcow2 S F) (mode : PreallocateMode) (size from : ℕ) (e : ImageError) → InternalCall view backing old long out → MayFailGrowing out mode from (rounded_up (cluster_size long.file.header.fields) size) long.file.header.fields (known_in view long.file) e
      → MayFailGrowing out mode from (rounded_up (cluster_size old.file.header.fields) size) old.file.header.fields (known_in view old.file) e
  met_behind old long mode size from e call may_fail =
      let h = old.file.header.fields in
      let h' = long.file.header.fields in
      let end : copied_end (cluster_size h') from (rounded_up (cluster_size h') size) mode ≡ copied_end (cluster_size h) from (rounded_up (cluster_size h) size) mode = ap (λ s. copied_end s from (rounded_up s size) mode) (same_size h h' call.header) in
      elim may_fail [
        | inl alone ↦ inl (taking_as (λ held. held) (λ kept. kept)
            (λ has. subst (λ n. HasCompressedIn from n h (known_in view old.file)) end
            (compressed_moved h h' (known_in view old.file) (known_in view long.file) from (copied_end (cluster_size h') from (rounded_up (cluster_size h') size) mode) call.header (λ g is. subst IsCompressed (sym (call.covers g)) is) has))
            (λ never. never) e alone)
        | inr version ↦ inr (version.0, (version.1.0, subst (λ v. v < 3) (same_version h h' call.header) version.1.1))
      ]

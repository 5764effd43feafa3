-- Why reads, lookups and writes of a sound image are refused.
use Rattle.qcow2_alloc.specs.declared.error.ImageError.TheVariants as I
use Rattle.qcow2_image.specs.declared.mapping.MappingKind.TheVariants as M
use Rattle.std.proofs.Common.{if◌then◌else◌, ◌≡◌, ◌+◌, ◌-◌, ◌*◌, ◌/◌, ◌%◌, ◌^◌, ◌<◌, ◌≤◌, ◌∷◌, ◌&&◌, inl, inr, ℕ, zero, suc, Bool, true, false, List, [], Option, Some, None, refl, sym, ap, ◌∙◌, subst, arith, pow_mono, ⊎_elim, is_some}
use Rattle.qcow2_image.specs.declared.mapping.Place.TheVariants.{DataFile}
use Rattle.qcow2_session.proofs.Common.{file_of, place_in, IsNone, IsSome, slice_get, cases_lt, common_steps, div-add-mod', mod_below, pow_pos, BackingView, StorageView, Bytes, is_within, cover, cluster_size, header, HeaderFields, L2Mapping, Compressed, Data, Uncovered, Zero, AreDataAt, EffectOnSound, Kind, IsCompressed, IsFoundIn, eof, indirect, kind_at, raw, rest_of_table, special, zeros, Touches, contents_in, known_in, ImageError, header_is, HasPinnedMapping, IsFoundWhole, found_kind, further_by, size_of, ImageInvariant, IsReadyWith, abstract_of, meaning, pending_in, IsUnlimited, fault_unlimited, CopiesCompressed, HasCompressedIn, IsCacheHeld, MayFailLooking, MayFailMapped, MayFailPutting, MayFailReadingRange, IsSpecial, MayFailLookingAgain, guest_offset_of, length_of, offset_of, table_of, IsAnswered, Qcow2, Image, Prepared, Mappings}
use Rattle.qcow2_disk.specs.Found.{IsFound as IsFoundOf}
use Rattle.qcow2_image.proofs.Map.Looked.{compressed_there, data_found, kind_inside, found_upto, product_le}
use Rattle.qcow2_image.proofs.Prepare.NameablePlaces.{IsNearData, cover_near}
use Rattle.qcow2_image.proofs.Images.ClusterMappings.{never_private}
use Rattle.qcow2_image.specs.declared.mapping.MappingKind.{MappingKind}
use Rattle.qcow2_session.proofs.Copied.{kept_cover, same_size}
use Rattle.qcow2_image.proofs.Images.Places.{put_first, alone_of}

-- where the cache is full of tables that are held, a mapping is prepared
pub looking_prepared : {S F : Type 0} (image : Qcow2 S F) (out : Mappings) (e : ImageError) → MayFailLooking (IsCacheHeld image out) e → MayFailLooking (HasPinnedMapping out) e
looking_prepared image out e (inl fault) = inl fault
looking_prepared image out e (inr used) = inr (used.0, prepared used.1)
  where
    prepared : IsCacheHeld image out → HasPinnedMapping out
    prepared held = held.1

-- want of memory is a fault
pub memory_looking : {held : Type 0} (e : ImageError) → e ≡ I.Memory → MayFailLooking held e
memory_looking e is = inl (inr is)

-- so far on it is as special as where it begins
special_first : (n : ℕ) (kind : MappingKind) → IsSpecial (further_by n kind) → IsSpecial kind
special_first n (M.Special offset) is = tt
special_first n (M.Raw file offset writable) is = absurd is
special_first n (M.Indirect offset) is = absurd is
special_first n (M.Zero explicit) is = absurd is
special_first n M.Eof is = absurd is

-- ---- kinds, no byte further on

-- where it lies
abbrev place_of : Kind → ℕ
place_of (raw external place writable) = place
place_of (indirect place) = place
place_of (zeros explicit) = 0
place_of (special place) = place
place_of eof = 0

place_near : (h : HeaderFields) (backed : Bool) (offset : ℕ) (m : L2Mapping) → IsNearData m → cluster_size h ≤ 2 ^ 21 → offset < 2 ^ 64 → place_of (kind_at h backed offset m) < 2 ^ 64
place_near h backed offset (Data host copied) is small near = let lies = is.near host copied refl in let rest = mod_below offset (cluster_size h) (pow_pos h.cluster_bits) in let within : host + offset % cluster_size h < 2 ^ 64 = omega (arith, lies, rest, small) in within
place_near h backed offset (Zero kept) is small near = omega arith
place_near h backed offset (Compressed host sectors) is small near = near
place_near h true offset Uncovered is small near = near
place_near h false offset Uncovered is small near = omega arith

none_further : (kind : MappingKind) → place_of (found_kind kind) < 2 ^ 64 → further_by 0 kind ≡ kind
none_further (M.Raw file offset writable) near = let below : offset < 2 ^ 64 = near in let same : (offset + 0) % 2 ^ 64 ≡ offset = omega (arith, below) in ap (λ n. M.Raw file n writable) same
none_further (M.Indirect offset) near = let below : offset < 2 ^ 64 = near in let same : (offset + 0) % 2 ^ 64 ≡ offset = omega (arith, below) in ap M.Indirect same
none_further (M.Special offset) near = let below : offset < 2 ^ 64 = near in let same : (offset + 0) % 2 ^ 64 ≡ offset = omega (arith, below) in ap M.Special same
none_further (M.Zero explicit) near = refl
none_further M.Eof near = refl

-- the guest cluster of the first byte of a range has a byte of it
first_touched : (h : HeaderFields) (offset n : ℕ) → 0 < n → Touches (cluster_size h) offset (offset + n) (offset / cluster_size h)
first_touched h offset n some =
    let size = cluster_size h in
    let split : offset / size * size + offset % size ≡ offset = div-add-mod' offset size in
    let within = mod_below offset size (pow_pos h.cluster_bits) in
    (omega (arith, some), omega (arith, split, within), omega (arith, split, some))

-- what is compressed in a part of a range is so in the range, where each guest cluster has the same mapping
pub compressed_within : (h h' : HeaderFields) (known known' : Bytes) → cluster_size h' ≡ cluster_size h → ((g : ℕ) → cover h known g ≡ cover h' known' g) → (from to first last : ℕ) → from ≤ first → last ≤ to
    → HasCompressedIn first last h known → HasCompressedIn from to h' known'
compressed_within h h' known known' size same from to first last low high found =
    let g = found.guest in
    let t = found.touched in
    let times : g * cluster_size h' ≡ g * cluster_size h = ap (λ k. g * k) size in
    record {
      guest = g;
      touched = (omega (arith, t.0, low, high), omega (arith, t.1, low, times, size), omega (arith, t.2, high, times));
      is = subst (λ (m : L2Mapping). IsCompressed m) (same g) found.is;
    }

module _ {S F : Type 0} (view : S → StorageView) (backing : F → BackingView) (out : Mappings) where
  -- what was just found is found as a whole, and nothing further on
  pub found_there : (image : Qcow2 S F) (sound : ImageInvariant view backing (pending_in view backing image out) image out) (offset max n : ℕ) (kind : MappingKind) → offset < 2 ^ 64 → offset < size_of image
      → IsFoundIn (known_in view image.file) (is_some image.backing) offset max (found_kind kind) n → IsFoundWhole view image offset (further_by 0 kind) n
  found_there image sound offset max n kind near below is =
      let h = image.file.header.fields in
      let known = known_in view image.file in
      let whole : IsFoundOf h known (is_some image.backing) offset n (found_kind kind) n = subst (λ (h : HeaderFields). IsFoundOf h known (is_some image.backing) offset n (found_kind kind) n) (header_is view backing image out sound)
      (found_upto (header known) known (is_some image.backing) offset max (found_kind kind) n is) in
      let place : place_of (found_kind kind) < 2 ^ 64 = subst (λ k. place_of k < 2 ^ 64) (sym (whole.run below).kind_is)
      (place_near h (is_some image.backing) offset (cover h known (offset / cluster_size h)) (cover_near h known (offset / cluster_size h)) (pow_mono sound.file.caches.kept.kept.crash_invariant.top.header_reads.well_formed.in_range.cluster_bits.1) near) in
      subst (λ k. IsFoundWhole view image offset k n) (sym (none_further kind place)) whole

  module _ (old mid : Qcow2 S F) (sound : ImageInvariant view backing (pending_in view backing old out) old out) (sound' : ImageInvariant view backing (pending_in view backing mid out) mid out) where
    -- reading what was just looked up is refused as a lookup, or because the first cluster is compressed
    pub reads_found : {whole : Type 0} (offset n max m : ℕ) (kind : MappingKind) (e : ImageError) → 0 < n → offset < size_of mid → known_in view mid.file ≡ known_in view old.file
        → IsFoundIn (known_in view mid.file) (is_some mid.backing) offset max (found_kind kind) m → (e ≡ I.OutdatedMapping → ⊥) → MayFailMapped (IsCacheHeld mid out) (further_by 0 kind) whole e
        → MayFailReadingRange out offset (offset + n) old.file.header.fields (known_in view old.file) e
    reads_found offset n max m kind e some below same is never (inl (inl looking)) = inl (looking_prepared mid out e looking)
    reads_found offset n max m kind e some below same is never (inl (inr outdated)) = absurd (never outdated)
    reads_found offset n max m kind e some below same is never (inr compressed) =
        let known = known_in view mid.file in
        let lies : offset < (header known).size = subst (λ (h : HeaderFields). offset < h.size) (sym (header_is view backing mid out sound')) below in
        let there : IsCompressed (cover (header known) known (offset / cluster_size (header known))) =
        compressed_there (header known) false (is_some mid.backing) offset kind (cover (header known) known (offset / cluster_size (header known))) ((is.run lies).kind_is ∙ sym (kind_inside (header known) (is_some mid.backing) offset (cover (header known) known (offset / cluster_size (header known))))) (special_first 0 kind compressed.1) in
        inr (
          compressed.0,
          record {
            guest = offset / cluster_size old.file.header.fields;
            touched = first_touched old.file.header.fields offset n some;
            is = subst (λ (h : HeaderFields). IsCompressed (cover h (known_in view old.file) (offset / cluster_size h))) (header_is view backing old out sound)
                (subst (λ (b : Bytes). IsCompressed (cover (header b) b (offset / cluster_size (header b)))) same there);
          },
        )

    -- what refuses a part of a range that is read would refuse the whole
    pub reads_part : EffectOnSound (abstract_of view backing old out) (abstract_of view backing mid out) [] [] → (from to first last : ℕ) (e : ImageError) → from ≤ first → last ≤ to
        → MayFailReadingRange out first last mid.file.header.fields (known_in view mid.file) e → MayFailReadingRange out from to old.file.header.fields (known_in view old.file) e
    reads_part effect from to first last e low high (inl looking) = inl looking
    reads_part effect from to first last e low high (inr compressed) = inr (
      compressed.0,
      compressed_within mid.file.header.fields old.file.header.fields (known_in view mid.file) (known_in view old.file) (sym (same_size view backing old mid out effect))
          (λ g. sym (kept_cover view backing old mid out sound sound' effect g tt)) from to first last low high compressed.1,
    )

    -- what is compressed and copied is so after a call that changes nothing
    pub compressed_behind : EffectOnSound (abstract_of view backing old out) (abstract_of view backing mid out) [] [] → (offset n : ℕ)
        → CopiesCompressed offset n true old.file.header.fields (known_in view old.file) → CopiesCompressed offset n true mid.file.header.fields (known_in view mid.file)
    compressed_behind effect offset n c =
        let t = c.touched in
        let same : cluster_size mid.file.header.fields ≡ cluster_size old.file.header.fields = same_size view backing old mid out effect in
        let times : c.guest * cluster_size mid.file.header.fields ≡ c.guest * cluster_size old.file.header.fields = ap (λ k. c.guest * k) same in
        record {
          guest = c.guest;
          touched = (t.0, omega (arith, t.1, times, same), omega (arith, t.2, times));
          is = subst (λ (m : L2Mapping). IsCompressed m) (kept_cover view backing old mid out sound sound' effect c.guest tt) c.is;
          at = c.at;
          within = ap (λ k. c.at / k) same ∙ c.within;
          left = c.left;
        }

-- what is so in a part of a range that is written, and that begins where a cluster does, is so in the range
pub compressed_in_part : (h : HeaderFields) (known : Bytes) (offset n done at m : ℕ) → at ≡ offset + done → at + m ≡ offset + n → at % cluster_size h ≡ 0 → CopiesCompressed at m true h known → CopiesCompressed offset n true h known
compressed_in_part h known offset n done at m there upto begins c =
    let g = c.guest in
    let t = c.touched in
    let size = cluster_size h in
    let split : at / size * size + at % size ≡ at = div-add-mod' at size in
    let behind : at ≤ g * size = whole_behind (at / size) g (omega (arith, split, begins)) t.1 in
    let place : c.at / size * size + c.at % size ≡ c.at = div-add-mod' c.at size in
    let lies : g * size ≤ c.at = let k = ap (λ x. x * size) c.within in omega (arith, place, k) in
    record {
      guest = g;
      touched = (omega (arith, t.0, there, upto), omega (arith, t.1, there), omega (arith, t.2, upto));
      is = c.is;
      at = c.at;
      within = c.within;
      left = left_behind c.at (omega (arith, behind, lies)) c.left;
    }
  where
    whole_behind : (k g : ℕ) → at ≡ k * cluster_size h → at < g * cluster_size h + cluster_size h → at ≤ g * cluster_size h
    whole_behind k g is lt = elim (cases_lt g k) [
      | inl less ↦ let more : (g + 1) * cluster_size h ≤ k * cluster_size h = product_le (g + 1) k (cluster_size h) (omega (arith, less)) in absurd (omega (arith, more, is, lt))
      | inr le ↦ let more : k * cluster_size h ≤ g * cluster_size h = product_le k g (cluster_size h) (omega (arith, le)) in omega (arith, more, is)
    ]

    left_behind : (o : ℕ) → at ≤ o → (true && is_within at m o) ≡ false → (true && is_within offset n o) ≡ false
    left_behind o from left = grind (arith, common_steps, there, upto, from, left)

-- ---- a put into a mapping that was just prepared

-- what is prepared beside an existing one was prepared before
prepared_beside : (out : Mappings) (p : Prepared) → table_of p ≡ None → HasPinnedMapping (put_first (Some p) out) → HasPinnedMapping out
prepared_beside out p existing has = at has.place has.mapping has.there has.pins
  where
    at : (k : ℕ) (q : Prepared) → slice_get (Some p ∷ out.slots) k ≡ Some (Some q) → IsSome (table_of q) → HasPinnedMapping out
    at zero q there pins = let same : p ≡ q = cc in absurd (let no : false ≡ true = subst (λ t. IsSome t) (ap table_of (sym same) ∙ existing) pins in cc)
    at (suc k) q there pins = record { place = k; mapping = q; there = there; pins = pins }

-- so bytes are put but for a fault, and where tables are held, where an existing one is found as it was prepared
pub put_looking : (held : Type 0) (out : Mappings) (p : Prepared) (e : ImageError) → (held → HasPinnedMapping (put_first (Some p) out)) → (table_of p ≡ None → offset_of p < 2 ^ 64) → (table_of p ≡ None → e ≡ I.OutdatedMapping → ⊥)
    → MayFailPutting held p 0 e → MayFailLooking (HasPinnedMapping out) e
put_looking held out p e prepared near found (inl fault) = inl fault
put_looking held out p e prepared near found (inr again) = elim (again.1) [
  | inl again' ↦ elim again' [
    | inl looking ↦ elim looking [ inl fault ↦ inl fault | inr used ↦ inr (used.0, prepared_beside out p again.0 (prepared used.1)) ]
    | inr outdated ↦ absurd (found again.0 outdated)
  ]
  | inr far ↦ absurd (let past = far.1 in let below = near again.0 in omega (arith, past, below))
]

-- no limit is passed by a put
pub put_unlimited : (held : Type 0) (p : Prepared) (at : ℕ) (e : ImageError) → MayFailPutting held p at e → IsUnlimited e
put_unlimited held p at e (inl fault) = fault_unlimited e fault
put_unlimited held p at e (inr again) = ⊎_elim
    (λ (again' : MayFailLookingAgain held e). ⊎_elim (λ (looking : MayFailLooking held e). ⊎_elim (λ fault. fault_unlimited e fault) (λ used. subst IsUnlimited (sym used.0) tt) looking) (λ outdated. subst IsUnlimited (sym outdated) tt) again')
    (λ far. subst IsUnlimited (sym far.0) tt) again.1

module _ {S F : Type 0} (view : S → StorageView) (backing : F → BackingView) (out : Mappings) (old mid : Qcow2 S F) (p : Prepared) (offset n : ℕ)
    (sound : ImageInvariant view backing (pending_in view backing mid (put_first (Some p) out)) mid (put_first (Some p) out)) (same : cluster_size mid.file.header.fields ≡ cluster_size old.file.header.fields)
    (answered : IsAnswered old.file.header.fields (known_in view old.file) offset n mid.file.header.fields (known_in view mid.file) p (meaning view backing out.place mid p)) (some : 0 < n) (existing : table_of p ≡ None) where
  abbrev h : HeaderFields
  h = mid.file.header.fields

  -- an existing mapping is as long as its range
  pub existing_long : length_of p ≡ n
  existing_long = answered.whole (subst (λ t. IsNone t) (sym existing) refl)

  -- it is copied data in a row
  existing_data : AreDataAt h (known_in view mid.file) true offset (offset_of p) n
  existing_data i lt =
      let ready = subst (IsReadyWith h out.place (known_in view mid.file) (contents_in view mid.file) p) existing (sound.ready 0 p refl).mapped in
      answered.stays i (let long = existing_long in omega (arith, lt, long)) (never_private view backing mid p ready (offset + i))

  -- so it begins within 64 bits
  pub existing_near : offset_of p < 2 ^ 64
  existing_near =
      let first = existing_data 0 some in
      let small : cluster_size h ≤ 2 ^ 21 = pow_mono sound.file.caches.kept.kept.crash_invariant.top.header_reads.well_formed.in_range.cluster_bits.1 in
      let near = (cover_near h (known_in view mid.file) ((offset + 0) / cluster_size h)).near first.0 true first.1 in
      let rest = mod_below (offset + 0) (cluster_size h) (pow_pos h.cluster_bits) in
      let place = first.2 in
      omega (arith, near, rest, place, small)

  existing_in_image : offset + n ≤ size_of mid → guest_offset_of p ≡ offset → (m : ℕ) → m ≡ n → IsFoundWhole view mid (guest_offset_of p + 0) (M.Raw Image (offset_of p + 0) true) m
  existing_in_image below from m long =
      let reaches : n ≤ rest_of_table h offset = let within = answered.within in let all = existing_long in let rest : rest_of_table h offset ≡ rest_of_table old.file.header.fields offset = ap (λ size. size * (size / 8) - offset % (size * (size / 8))) same in omega (arith, within, all, rest) in
      let begin : offset ≡ guest_offset_of p + 0 = omega (arith, from) in
      let place : offset_of p ≡ offset_of p + 0 = omega arith in
      subst (λ k. IsFoundWhole view mid k (M.Raw Image (offset_of p + 0) true) m) begin
      (subst (λ k. IsFoundWhole view mid offset (M.Raw Image k true) m) place
      (subst (λ k. IsFoundWhole view mid offset (M.Raw Image (offset_of p) true) k) (sym long)
      (data_found h (known_in view mid.file) (is_some mid.backing) offset true (offset_of p) n some below reaches existing_data)))

  -- and it is found where it was prepared
  pub existing_found : offset + n ≤ size_of mid → file_of p ≡ place_in mid → guest_offset_of p ≡ offset → (m : ℕ) → m ≡ n → IsFoundWhole view mid (guest_offset_of p + 0) (M.Raw (file_of p) (offset_of p + 0) true) m
  existing_found below file from m long =
      let here : file_of p ≡ Image = file ∙ ap (λ (f : Option S). if is_some f then DataFile else Image) (alone_of sound) in
      subst (λ k. IsFoundWhole view mid (guest_offset_of p + 0) (M.Raw k (offset_of p + 0) true) m) (sym here) (existing_in_image below from m long)

-- Bytes of a cluster that the caller did not promise to overwrite are copied into the new one. So a compressed cluster is refused only if it has such a byte.
use Rattle.std.proofs.Common.{◌≡◌, ◌⊎◌, ◌+◌, ◌-◌, ◌*◌, ◌/◌, ◌%◌, ◌<◌, ◌≤◌, ◌&&◌, ◌==◌, inl, inr, ℕ, Bool, true, false, Option, Some, None, refl, sym, ◌∙◌, subst, arith, min, nat_lt}
use Rattle.qcow2_image.proofs.Common.{IfSome, and_from, and_left, and_right, cases_eq, cases_lt, cond-false, cond-true, eq-eqb, le-leb, le-ltb, lt-leb, lt-ltb, div-add-mod', div-mul-add, mod_below, pow_pos, Bytes, is_within, cover, cluster_size, HeaderFields, L2Mapping, IsCompressed, Touches, within_is, announced_range_of, copy_range_of, uncut_copy_range, CopiesCompressed, HasCompressedIn, HasUnannounced, IsCopiedCompressed, CoversStay, CopyRange}

-- ---- a part to copy

-- where all is announced there is none
none_left : (cs alignment start n : ℕ) → start ≡ 0 → cs ≤ min n (cs - start) → copy_range_of cs alignment (announced_range_of cs start n true) ≡ None
none_left cs alignment start n begins whole =
    let uncut : uncut_copy_range cs (announced_range_of cs start n true) ≡ record { start = start + min n (cs - start); end = cs } = cond-true (start == 0) _ _ (eq-eqb start 0 begins) in
    cond-false (nat_lt (uncut_copy_range cs (announced_range_of cs start n true)).start (uncut_copy_range cs (announced_range_of cs start n true)).end) _ _
    (subst (λ (r : CopyRange). nat_lt r.start r.end ≡ false) (sym uncut) (le-ltb (start + min n (cs - start)) cs (omega (arith, whole))))

-- so where there is one, a byte isn't announced
pub part_left : (cs alignment offset n : ℕ) (overwrite : Bool) (r : Option CopyRange) → 0 < cs → r ≡ copy_range_of cs alignment (announced_range_of cs (offset % cs) n overwrite) → IfSome r (λ part. HasUnannounced cs offset n overwrite)
part_left cs alignment offset n overwrite None some is = tt
part_left cs alignment offset n false (Some r) some is = record { at = 0; inside = some; left = refl }
part_left cs alignment offset n true (Some r) some is = elim (cases_eq (offset % cs) 0) [
  | inr behind ↦ record { at = 0; inside = some; left = and_left _ _ (lt-leb (offset % cs) 0 (omega (arith, behind))) }
  | inl begins ↦ elim (cases_lt (min n (cs - offset % cs)) cs) [
    | inl part ↦ record { at = min n (cs - offset % cs); inside = part; left = and_right _ _ (le-ltb (min n (cs - offset % cs)) (offset % cs + min n (cs - offset % cs)) (omega (arith, begins))) }
    | inr whole ↦ absurd (let no : Some r ≡ None = is ∙ none_left cs alignment (offset % cs) n begins whole in cc)
  ]
]

-- ---- a cluster of a range

unannounced_as : (overwrite x y : Bool) → (x ≡ true → y ≡ true) → (overwrite && y) ≡ false → (overwrite && x) ≡ false
unannounced_as false x y to none = refl
unannounced_as true false y to none = refl
unannounced_as true true y to none = sym (to refl) ∙ none

-- by a header of clusters of the same size
pub copied_as : (h h' : HeaderFields) (mapping : L2Mapping) (offset n : ℕ) (overwrite : Bool) → cluster_size h' ≡ cluster_size h → IsCopiedCompressed h' mapping offset n overwrite → IsCopiedCompressed h mapping offset n overwrite
copied_as h h' mapping offset n overwrite size copied = (copied.0, subst (λ s. HasUnannounced s offset n overwrite) size copied.1)

-- The cluster of a byte of a range, where the range or the cluster begins: what isn't announced there of the rest of the range isn't announced of the range.
pub compressed_at : (h : HeaderFields) (known : Bytes) (from n byte rest : ℕ) (overwrite : Bool) → from ≤ byte → 0 < rest → byte + rest ≡ from + n → (byte ≡ from) ⊎ (byte % cluster_size h ≡ 0)
    → IsCopiedCompressed h (cover h known (byte / cluster_size h)) byte rest overwrite → CopiesCompressed from n overwrite h known
compressed_at h known from n byte rest overwrite above some ends begins copied =
    let whole : byte / cluster_size h * cluster_size h + byte % cluster_size h ≡ byte = div-add-mod' byte (cluster_size h) in
    let below : byte % cluster_size h < cluster_size h = mod_below byte (cluster_size h) (pow_pos h.cluster_bits) in
    let inside = copied.1.inside in
    record {
      guest = byte / cluster_size h;
      touched = (omega (arith, above, some, ends), omega (arith, above, whole, below), omega (arith, some, ends, whole));
      is = copied.0;
      at = byte / cluster_size h * cluster_size h + copied.1.at;
      within = div-mul-add (byte / cluster_size h) (cluster_size h) copied.1.at inside;
      left = unannounced_as overwrite (is_within from n (byte / cluster_size h * cluster_size h + copied.1.at)) (is_within (byte % cluster_size h) (min rest (cluster_size h - byte % cluster_size h)) copied.1.at)
          (λ is.
          let there = within_is from n (byte / cluster_size h * cluster_size h + copied.1.at) is in
          let high = there.0 in
          let low = there.1 in
          let behind : byte % cluster_size h ≤ copied.1.at = elim begins [ inl same ↦ omega (arith, same, high, whole) | inr none ↦ omega (arith, none) ] in
          and_from _ _ (le-leb (byte % cluster_size h) copied.1.at behind)
          (lt-ltb copied.1.at (byte % cluster_size h + min rest (cluster_size h - byte % cluster_size h)) (omega (arith, low, ends, whole, inside, below))))
          copied.1.left;
    }

-- so it was where tables moved meanwhile
pub compressed_as : (h h' : HeaderFields) (known known' : Bytes) (from n : ℕ) (overwrite : Bool) → cluster_size h' ≡ cluster_size h → CoversStay h known h' known' → CopiesCompressed from n overwrite h' known' → CopiesCompressed from n overwrite h known
compressed_as h h' known known' from n overwrite size covers found =
    record {
      guest = found.guest;
      touched = subst (λ s. Touches s from (from + n) found.guest) size found.touched;
      is = subst IsCompressed (sym (covers found.guest)) found.is;
      at = found.at;
      within = subst (λ s. found.at / s ≡ found.guest) size found.within;
      left = found.left;
    }

-- what has to be copied is compressed
pub compressed_in : (h : HeaderFields) (known : Bytes) (from n : ℕ) (overwrite : Bool) → CopiesCompressed from n overwrite h known → HasCompressedIn from (from + n) h known
compressed_in h known from n overwrite found = record { guest = found.guest; touched = found.touched; is = found.is }

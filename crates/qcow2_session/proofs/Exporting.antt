-- A raw disk is made equal to the disk of an image, range by range.
use Rattle.std.proofs.Common.{◌≡◌, ◌+◌, ◌-◌, ◌/◌, ◌<◌, ◌≤◌, false, inl, inr, ℕ, Bool, List, [], is_some, length, refl, replicate, sym, ap, ◌∙◌, subst, arith, None, Option, Result, Err}
use Rattle.qcow2_session.proofs.Common.{cases_lt, common_steps, length-replicate, get_or-replicate, option_or, BackingView, overwritten, resized, StorageView, length-resized, byte_at-resized, byte_at-resized_past, length-overwritten_within, byte_at-overwritten, byte_at-overwritten_below, byte_at-overwritten_behind, byte_at, cover, known_byte, cluster_size, HeaderFields, Disk, Guest, guest_of, AnsweredEffect, Shows, IsSame, IsFoundIn, known_in, state_in, ImageError, refusal_of, IsSameImage, is_failed, size_of, passes, refuse_if, refuses_to_read, unusable, Qcow2, Prepared, ImageInvariant, abstract_of, backing_bytes, disk_of, pending_in, header_is, RefusedConversion, IsRawOf, IsUnchanged, IsFilledUpTo, Fills, Mappings}
use Rattle.qcow2_disk.specs.Found.{IsFound as IsFoundOf}
use Rattle.qcow2_disk.specs.Found as K
use Rattle.qcow2_alloc.specs.declared.error.ImageError.TheVariants as I
use Rattle.qcow2_image.proofs.Map.Reading.{none_below, zero_shown}
use Rattle.qcow2_session.proofs.Causing.{then_none}
use Rattle.qcow2_session.proofs.Parts.{not_failed_yet, part_reads}
use Rattle.qcow2_image.proofs.Images.Places.{inside_of, from_image}

-- a range of zeros isn't written
pub filled_same : (d : Disk) (size at n : ℕ) (contents bytes : List ℕ) → IsFilledUpTo d size at contents → Shows d at bytes → bytes ≡ replicate n 0 → IsFilledUpTo d size (at + n) contents
filled_same d size at n contents bytes filled shows zeros = record {
  long = filled.long;
  front = λ o lt. elim (cases_lt o at) [
    | inl below ↦ filled.front o below
    | inr past ↦
        let long : length bytes ≡ n = ap length zeros ∙ length-replicate {A = ℕ} n 0 in
        let place : at + (o - at) ≡ o = omega (arith, past) in
        ap d.value (sym place) ∙ shows (o - at) (omega (arith, past, lt, long))
        ∙ ap known_byte (ap (λ b. byte_at b (o - at)) zeros ∙ get_or-replicate n (o - at) 0 0 (omega (arith, past, lt)) ∙ sym (filled.behind o past))
  ];
  behind = λ o le. filled.behind o (omega (arith, le));
}

-- any other is
pub filled_more : (d : Disk) (size at : ℕ) (contents bytes : List ℕ) → IsFilledUpTo d size at contents → Shows d at bytes → at + length bytes ≤ size → IsFilledUpTo d size (at + length bytes) (overwritten contents at bytes)
filled_more d size at contents bytes filled shows within = record {
  long = length-overwritten_within contents at bytes (omega (arith, filled.long, within)) ∙ filled.long;
  front = λ o lt. elim (cases_lt o at) [
    | inl below ↦ filled.front o below ∙ ap known_byte (sym (byte_at-overwritten_below contents at bytes o below))
    | inr past ↦
        let place : at + (o - at) ≡ o = omega (arith, past) in
        let inside : o - at < length bytes = omega (arith, past, lt) in
        ap d.value (sym place) ∙ shows (o - at) inside ∙ ap known_byte (sym (ap (byte_at (overwritten contents at bytes)) (sym place) ∙ byte_at-overwritten contents at bytes (o - at) inside))
  ];
  behind = λ o le. byte_at-overwritten_behind contents at bytes o le ∙ filled.behind o (omega (arith, le));
}

-- cut to nothing and grown
pub filled_first : (d : Disk) (c a b : List ℕ) (size : ℕ) → a ≡ resized c 0 → b ≡ resized a size → IsFilledUpTo d size 0 b
filled_first d c a b size cut grown =
    subst (λ k. IsFilledUpTo d size 0 k) (sym (grown ∙ ap (λ k. resized k size) cut))
    (record {
      long = length-resized (resized c 0) size;
      front = λ o lt. absurd (omega (arith, lt));
      behind = λ o le. elim (cases_lt o size) [
        | inl within ↦ byte_at-resized (resized c 0) size o within ∙ byte_at-resized_past c 0 o le
        | inr past ↦ byte_at-resized_past (resized c 0) size o past
      ];
    })

-- all is written
pub filled_all : (d : Disk) (size : ℕ) (bytes : List ℕ) → IsFilledUpTo d size size bytes → size ≡ d.size → (size ≡ length bytes) × IsRawOf d bytes
filled_all d size bytes filled is =
    (sym filled.long, (filled.long ∙ is, λ i lt. let at : 0 + i ≡ i = omega arith in ap d.value at ∙ filled.front i (omega (arith, lt, filled.long))))

module _ {S F : Type 0} (view : S → StorageView) (backing : F → BackingView) (old new : Qcow2 S F) where
  -- a refusal that was passed on
  pub unchanged_refused : {A : Type 0} (e : ImageError) (r : Result A ImageError) → r ≡ Err e
      → ((out : Mappings) → RefusedConversion (abstract_of view backing old out) (abstract_of view backing new out) [] (refusal_of e) (IsSame (abstract_of view backing old out) (abstract_of view backing new out)))
      → IsUnchanged view backing old new r
  unchanged_refused e r is off = subst (λ x. IsUnchanged view backing old new x) (sym is) off

  -- one range after others; here new is the image between them
  pub fills_more : (from at n m : ℕ) (a b c : List ℕ) → ((out : Mappings) → AnsweredEffect (abstract_of view backing old out) (abstract_of view backing new out) [] [] (guest_of (abstract_of view backing new out) ≡ guest_of (abstract_of view backing old out)))
      → Fills view backing old from at a b → Fills view backing new at (at + n) b c → n ≡ m → Fills view backing old from (at + m) a c
  fills_more from at n m a b c same first next count out sound size le filled =
      let mid = (same out).answer sound in
      let d : Disk = (guest_of (abstract_of view backing old out)).disk in
      let disk-is : (guest_of (abstract_of view backing new out)).disk ≡ d = ap (λ (x : Guest). x.disk) mid.1 in
      subst (λ k. IsFilledUpTo d size (at + k) c) count
      (subst (λ (k : Disk). IsFilledUpTo k size (at + n) c) disk-is
      (next out mid.0 size (omega (arith, le, count)) (subst (λ (k : Disk). IsFilledUpTo k size at b) (sym disk-is) (first out sound size (omega (arith, le)) filled))))

-- a part of the disk is read, of an image that may be used
pub part_of_disk : {S F : Type 0} (old mid : Qcow2 S F) → IsSameImage old mid → (at n : ℕ) → at + n ≤ size_of old → is_failed mid ≡ false → refuses_to_read old 0 0 ≡ None → refuses_to_read mid at n ≡ None
part_of_disk old mid same at n fits works none =
    let usable = (then_none (unusable old) (passes (size_of old) 0 0) I.BeyondSize none).0 in
    let whole : refuses_to_read old 0 (size_of old) ≡ None = ap (λ u. option_or u (refuse_if (passes (size_of old) 0 (size_of old)) I.BeyondSize)) usable ∙ ap (λ b. refuse_if b I.BeyondSize) (all_within (size_of old)) in
    part_reads old mid same 0 (size_of old) at n (omega arith) (omega (arith, fits)) (works ∙ sym (not_failed_yet old mid same usable)) whole
  where
    all_within : (size : ℕ) → passes size 0 size ≡ false
    all_within size = grind (arith, common_steps)

-- zeros by the tables are zeros of the disk
module _ {S F : Type 0} (view : S → StorageView) (backing : F → BackingView) (image : Qcow2 S F) (out : Mappings) (sound : ImageInvariant view backing (pending_in view backing image out) image out) where
  pub zeros_there : (at max n : ℕ) (explicit : Bool) → IsFoundIn (known_in view image.file) (is_some image.backing) at max (K.zeros explicit) n → Shows (disk_of view backing out.place image) at (replicate n 0)
  zeros_there at max n explicit is i lt =
      let h = image.file.header.fields in
      let known = known_in view image.file in
      let below = backing_bytes view backing image.backing in
      let found : IsFoundOf h known (is_some image.backing) at max (K.zeros explicit) n = subst (λ (h : HeaderFields). IsFoundOf h known (is_some image.backing) at max (K.zeros explicit) n) (header_is view backing image out sound) is in
      let inside : i < n = omega (arith, lt, length-replicate {A = ℕ} n 0) in
      elim (cases_lt at h.size) [
        | inl lies ↦ let run = found.run lies in
            from_image (λ place. (disk_of view backing place image).value (at + i) ≡ known_byte (byte_at (replicate n 0) i)) sound (zero_shown (state_in view image.file (pending_in view backing image out)) sound.file.caches.kept.kept.crash_invariant (inside_of sound) at n run.longest.alike (is_some image.backing) below
            (cover h known (at / cluster_size h)) refl (none_below view backing image.backing) explicit run.kind_is i inside
            ∙ ap known_byte (sym (get_or-replicate n i 0 0 inside)))
        | inr past ↦ let never = (found.past past).0 in absurd cc
      ]

-- What the calls of an image do to it as a block device.
use Rattle.qcow2_image.specs.ImageInvariant.{in_image}
use Rattle.std.proofs.Common.{◌≡◌, ◌⊎◌, ◌+◌, ◌-◌, ◌<◌, ◌≤◌, inl, inr, ℕ, List, [], length, take, sym, ap, subst, ◌∙◌, arith, min, Some}
use Rattle.qimg_nbd.proofs.Common.{IsTrue, cases_lt, BackingView, StorageView, known_byte, cluster_size, AbstractImage, Guest, Setting, guest_of, AnsweredEffect, CallEffect, IsSame, Refusal, RefusedEffect, WritesSome, another, memory, not_compressed, storage, with_disk, answered, touched_from, touched_to, Qcow2, abstract_of, AreUnits, Clears, DeviceView, MayWrite, Shows, Stays, Writes, byte_of, device_of}
use Rattle.std.proofs.lemmas.List.{get_or-take, length-take-le}
use Rattle.std.proofs.lemmas.Nat.{pow_pos}
use Rattle.qcow2_metadata.specs.Bytes.{byte_at, laid_over}
use Rattle.qcow2_disk.specs.Calls.{MayWrite as MayWriteTo, Shows as ShowsBytes}
use Rattle.qcow2_disk.specs.Disk.{Disk, with_bytes, zeroed_between}
use Rattle.qcow2_disk.specs.Stops.{GivenBytes}
use Rattle.qcow2_disk.proofs.ForUsers.{laid_inside, laid_outside}
use Rattle.qcow2_image.proofs.Clear.Touched.{rounded_from}
use Rattle.qimg_nbd.proofs.Parts.{answered_length, part_units, touched_within}

-- ---- disks

old_byte : (d : Disk) (offset : ℕ) (bytes : List ℕ) (o : ℕ) → (o < offset) ⊎ (offset + length bytes ≤ o) → (with_bytes d offset bytes).value o ≡ d.value o
old_byte d offset bytes o out = laid_outside offset (length bytes) (λ i. known_byte (byte_at bytes i)) d.value o out

new_byte : (d : Disk) (offset : ℕ) (bytes : List ℕ) (i : ℕ) → i < length bytes → (with_bytes d offset bytes).value (offset + i) ≡ known_byte (byte_at bytes i)
new_byte d offset bytes i lt = laid_inside offset (length bytes) (λ k. known_byte (byte_at bytes k)) d.value i lt

-- where the leading bytes are written, a byte is one of them, or the old one
front_byte : (d : Disk) (offset n : ℕ) (bytes : List ℕ) → n ≤ length bytes → (i : ℕ) → i < length bytes
    → ((with_bytes d offset (take n bytes)).value (offset + i) ≡ d.value (offset + i)) ⊎ ((with_bytes d offset (take n bytes)).value (offset + i) ≡ known_byte (byte_at bytes i))
front_byte d offset n bytes le i lt =
    let len : length (take n bytes) ≡ n = length-take-le n bytes le in
    elim (cases_lt i n) [
      | inl below ↦ inr (new_byte d offset (take n bytes) i (omega (arith, len)) ∙ ap (λ (b : ℕ). known_byte b) (get_or-take n bytes i 0 below))
      | inr past ↦ inl (old_byte d offset (take n bytes) (offset + i) (inr (omega (arith, len))))
    ]

front_outside : (d : Disk) (offset n : ℕ) (bytes : List ℕ) → n ≤ length bytes → (o : ℕ) → (o < offset) ⊎ (offset + length bytes ≤ o) → (with_bytes d offset (take n bytes)).value o ≡ d.value o
front_outside d offset n bytes le o out =
    let len : length (take n bytes) ≡ n = length-take-le n bytes le in
    old_byte d offset (take n bytes) o (elim out [ inl below ↦ inl below | inr past ↦ inr (omega (arith, len)) ])

module _ {S F : Type 0} (view : S → StorageView) (backing : F → BackingView) (old new : Qcow2 S F) where
  -- the image, and the device that it is
  abbrev v : AbstractImage
  v = abstract_of view backing old (in_image [])

  abbrev w : AbstractImage
  w = abstract_of view backing new (in_image [])

  abbrev a : DeviceView
  a = device_of view backing old

  abbrev b : DeviceView
  b = device_of view backing new

  -- the clusters stay as large
  same_unit : (given : List GivenBytes) → CallEffect v w given [] → a.is_sound → b.unit ≡ a.unit
  same_unit given acts sound = ap (λ (x : Setting). x.cluster_size) (acts.works sound).setting

  pub same_guest : guest_of w ≡ guest_of v → b.unit ≡ a.unit → Stays a b
  same_guest e unit = record { size = ap (λ (x : Guest). x.disk.size) e; unit = unit; values = λ o lt out. ap (λ (x : Guest). byte_of (x.disk.value o)) e }

  pub refused_same : (given : List GivenBytes) (e : Refusal) → RefusedEffect v w given [] e (IsSame v w) → a.is_sound → (b.is_sound × Stays a b) ⊎ IsTrue b.is_failed
  refused_same given e effect sound = elim (effect.answer sound) [ inl kept ↦ inl (kept.0, same_guest kept.1 (same_unit given effect.acts sound)) | inr failed ↦ inr failed.1 ]

  pub answered_same : AnsweredEffect v w [] [] (guest_of w ≡ guest_of v) → a.is_sound → b.is_sound × Stays a b
  answered_same effect sound = let done = effect.answer sound in (done.0, same_guest done.1 (same_unit [] effect.acts sound))

  pub answered_flush : (P : Type 0) → AnsweredEffect v w [] [] (P × IsSame v w) → a.is_sound → b.is_sound × Stays a b
  answered_flush P effect sound = let done = effect.answer sound in (done.0, same_guest done.1.1 (same_unit [] effect.acts sound))

  pub read_bytes : (offset : ℕ) (bytes : List ℕ) → AnsweredEffect v w [] [] (ShowsBytes (guest_of v).disk offset bytes × (guest_of w ≡ guest_of v))
      → a.is_sound → b.is_sound × (Shows a offset bytes × Stays a b)
  read_bytes offset bytes effect sound = let done = effect.answer sound in (done.0, (λ i lt. ap byte_of (done.1.0 i lt), same_guest done.1.1 (same_unit [] effect.acts sound)))

  pub wrote_bytes : (offset : ℕ) (bytes : List ℕ) (given : List GivenBytes) → AnsweredEffect v w given [] (guest_of w ≡ with_disk (guest_of v) (with_bytes (guest_of v).disk offset bytes))
      → a.is_sound → b.is_sound × Writes offset bytes a b
  wrote_bytes offset bytes given effect sound = let done = effect.answer sound in let d = (guest_of v).disk in (
    done.0,
    record {
      beside = record {
        size = ap (λ (x : Guest). x.disk.size) done.1;
        unit = same_unit given effect.acts sound;
        values = λ o lt out. ap (λ (x : Guest). byte_of (x.disk.value o)) done.1 ∙ ap byte_of (old_byte d offset bytes o out);
      };
      within = λ i lt here. ap (λ (x : Guest). byte_of (x.disk.value (offset + i))) done.1 ∙ ap byte_of (new_byte d offset bytes i lt);
    },
  )

  -- the leading bytes are there
  wrote_front : (offset n : ℕ) (bytes : List ℕ) → n ≤ length bytes → guest_of w ≡ with_disk (guest_of v) (with_bytes (guest_of v).disk offset (take n bytes)) → b.unit ≡ a.unit → MayWrite offset bytes a b
  wrote_front offset n bytes le is unit = let d = (guest_of v).disk in record {
    beside = record {
      size = ap (λ (x : Guest). x.disk.size) is;
      unit = unit;
      values = λ o lt out. ap (λ (x : Guest). byte_of (x.disk.value o)) is ∙ ap byte_of (front_outside d offset n bytes le o out);
    };
    within = λ i lt here. let e = ap (λ (x : Guest). byte_of (x.disk.value (offset + i))) is in
        elim (front_byte d offset n bytes le i lt) [ inl kept ↦ inl (e ∙ ap byte_of kept) | inr byte ↦ inr (e ∙ ap byte_of byte) ];
  }

  -- any of the bytes after them may be written
  wrote_some : (offset n : ℕ) (bytes : List ℕ) → n ≤ length bytes → (d : Disk) → WritesSome (guest_of v).disk offset bytes n d → guest_of w ≡ with_disk (guest_of v) d → b.unit ≡ a.unit → MayWrite offset bytes a b
  wrote_some offset n bytes le d some is unit = let c = (guest_of v).disk in record {
    beside = record {
      size = ap (λ (x : Guest). x.disk.size) is ∙ some.size;
      unit = unit;
      values = λ o lt out. ap (λ (x : Guest). byte_of (x.disk.value o)) is ∙ ap byte_of (elim (some.values o) [
        | inl front ↦ front ∙ front_outside c offset n bytes le o out
        | inr all ↦ all ∙ old_byte c offset bytes o out
      ]);
    };
    within = λ i lt here. let e = ap (λ (x : Guest). byte_of (x.disk.value (offset + i))) is in
        elim (some.values (offset + i)) [
          | inl front ↦ elim (front_byte c offset n bytes le i lt) [ inl kept ↦ inl (e ∙ ap byte_of (front ∙ kept)) | inr byte ↦ inr (e ∙ ap byte_of (front ∙ byte)) ]
          | inr all ↦ inr (e ∙ ap byte_of (all ∙ new_byte c offset bytes i lt))
        ];
  }

  may_write : (e : Refusal) (offset n : ℕ) (bytes : List ℕ) → MayWriteTo e (guest_of v) offset bytes n (guest_of w) → b.unit ≡ a.unit → MayWrite offset bytes a b
  may_write memory offset n bytes may unit = wrote_some offset n bytes may.0 may.1.0 may.1.1 may.1.2 unit
  may_write storage offset n bytes may unit = wrote_front offset n bytes may.0 may.1 unit
  may_write (not_compressed place) offset n bytes may unit = wrote_front offset n bytes may.0 may.1 unit
  may_write (another number) offset n bytes may unit = wrote_front offset n bytes may.0 may.1 unit

  pub refused_write : (e : Refusal) (offset n : ℕ) (bytes : List ℕ) (given : List GivenBytes) → RefusedEffect v w given [] e (MayWriteTo e (guest_of v) offset bytes n (guest_of w))
      → a.is_sound → (b.is_sound × MayWrite offset bytes a b) ⊎ IsTrue b.is_failed
  refused_write e offset n bytes given effect sound = elim (effect.answer sound) [ inl kept ↦ inl (kept.0, may_write e offset n bytes kept.1 (same_unit given effect.acts sound)) | inr failed ↦ inr failed.1 ]

  pub cleared : (offset n : ℕ) (part : ℕ × ℕ) (given : List GivenBytes)
      → AnsweredEffect v w given [] ((part ≡ answered (cluster_size old.file.header.fields) (guest_of v).disk.size offset n)
      × (guest_of w ≡ with_disk (guest_of v) (zeroed_between (guest_of v).disk (touched_from (cluster_size old.file.header.fields) offset) (touched_to (cluster_size old.file.header.fields) (guest_of v).disk.size offset n))))
      → a.is_sound → b.is_sound × Clears offset n part a b
  cleared offset n part given effect sound =
      let done = effect.answer sound in let d = (guest_of v).disk in let cs = cluster_size old.file.header.fields in
      let from = touched_from cs offset in let to = touched_to cs d.size offset n in
      let begin : part.0 ≡ from = ap (λ (p : ℕ × ℕ). p.0) done.1.0 in
      let up : offset ≤ from = rounded_from cs offset (pow_pos old.file.header.fields.cluster_bits) in
      let size : b.size ≡ a.size = ap (λ (x : Guest). x.disk.size) done.1.1 in
      let value = λ (o : ℕ). let e : b.value o ≡ byte_of (laid_over from (to - from) (λ k. known_byte 0) d.value o) = ap (λ (x : Guest). byte_of (x.disk.value o)) done.1.1 in e in
      let kept = λ (o : ℕ) (out : (o < from) ⊎ (from + (to - from) ≤ o)). let e : b.value o ≡ a.value o = value o ∙ ap byte_of (laid_outside from (to - from) (λ k. known_byte 0) d.value o out) in e in
      let zeroed = λ (o : ℕ) (low : from ≤ o) (high : o < from + (to - from)).
      let at : from + (o - from) ≡ o = omega arith in
      let e : b.value o ≡ Some 0 = value o ∙ subst (λ (k : ℕ). byte_of (laid_over from (to - from) (λ j. known_byte 0) d.value k) ≡ Some 0) at (ap byte_of (laid_inside from (to - from) (λ j. known_byte 0) d.value (o - from) (omega arith))) in e in
      let count = ap (λ (p : ℕ × ℕ). p.1) done.1.0 in (
        done.0,
        record {
          low = omega (arith, begin, up);
          whole = λ some. let k = part_units cs d.size offset n (pow_pos old.file.header.fields.cluster_bits) (let c : part.1 ≡ (answered cs d.size offset n).1 = count in omega (arith, c, some)) in
              subst (λ (p : ℕ × ℕ). AreUnits cs d.size p.0 (p.0 + p.1)) (sym done.1.0) k;
          high = λ some. elim (answered_length from to (offset + n)) [ inl is ↦ let c : part.1 ≡ min to (offset + n) - from = count ∙ is.1 in omega (arith, c, begin, some) | inr is ↦ let c : part.1 ≡ 0 = count ∙ is.1 in absurd (omega (arith, c, some)) ];
          zeroes = record {
            beside = record {
              size = size;
              unit = same_unit given effect.acts sound;
              values = λ o lt out. kept o (elim (answered_length from to (offset + n)) [
                | inr is ↦ let c : part.1 ≡ 0 = count ∙ is.1 in elim out [ inl below ↦ inl (omega (arith, begin)) | inr past ↦ inr (omega (arith, begin, c, is.0)) ]
                | inl is ↦ let c : part.1 ≡ min to (offset + n) - from = count ∙ is.1 in elim out [
                  | inl below ↦ inl (omega (arith, begin))
                  | inr past ↦ inr (elim (touched_within cs d.size offset n) [ inl within ↦ omega (arith, begin, c, is.0, within) | inr end ↦ omega (arith, begin, c, is.0, end, lt) ])
                ]
              ]);
            };
            within = λ o lt low high. elim (answered_length from to (offset + n)) [
              | inl is ↦ let c : part.1 ≡ min to (offset + n) - from = count ∙ is.1 in zeroed o (omega (arith, begin, low)) (omega (arith, begin, c, is.0, high))
              | inr is ↦ let c : part.1 ≡ 0 = count ∙ is.1 in absurd (omega (arith, begin, c, low, high))
            ];
          };
        },
      )

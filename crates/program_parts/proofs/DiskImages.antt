-- An image that is filled with the bytes of a disk.
use Rattle.qcow2_image.specs.ImageInvariant.{in_image, Mappings, disk_of}
use Rattle.program_parts.proofs.Common.{common_steps, is_some, BackingView, StorageView, byte_at, header, known_byte, IsConsistent, Setting, IsOpened, guest_of, Shows, Disk, disk, disk_with, checkpoint_at, LeavesKept, header_rest_same, whole, Qcow2, storage_of_image, abstract_of, IsRawOf, IsNewDisk, disk_alone, zeros_below, IsKeptQuietly, IsSeenAs, SeenDisk, cluster_size, count_width, HeaderFields, contents_in}
use Rattle.std.proofs.Common.{◌≡◌, ◌⊎◌, ◌+◌, ◌<◌, ◌≤◌, ◌∷◌, ◌++◌, ⊎_elim, inl, inr, ℕ, List, [], length, take, refl, sym, ap, ◌∙◌, subst, arith, false, Option, Some, Result, Ok, Err, IfOk, drop, replicate}
use Rattle.std.proofs.lemmas.List.{get_or-replicate, length-replicate}
use Rattle.image_access.specs.Contents.{bytes_at}
use Rattle.image_access.specs.declared.storage.PreallocateMode.{PreallocateMode}
use Rattle.image_access.specs.declared.storage.PreallocateMode.TheVariants as Mode
use Rattle.qcow2_metadata.specs.Bytes.{Bytes}
use Rattle.qcow2_disk.specs.Calls.{AnsweredEffect, with_disk}
use Rattle.qcow2_disk.specs.Disk.{with_bytes}
use Rattle.qcow2_disk.specs.Mappings.{given_of}
use Rattle.qcow2_image.specs.Calls.{FlushesImage}
use Rattle.qcow2_image.specs.Growing.{SameFormat}
use Rattle.qcow2_image.specs.Opened.{IsKeptSince}
use Rattle.qcow2_image.specs.declared.prepared.Prepared.{Prepared}
use Rattle.qcow2_session.specs.Conversions.{ImportsAll, ImportsAt}
use Rattle.qcow2_session.specs.Sessions.{Writes}
use Rattle.qcow2_session.proofs.Bytes.{byte_out, shows_both, with_both}
use Rattle.qcow2_session.proofs.Converting.{all_more, first_of, imports_flushed, imports_none, range_is, shown_same}
use Rattle.qcow2_session.proofs.Turns.{does_if}
use Rattle.program_parts.proofs.Imported.{none_below}
use Rattle.program_parts.proofs.Placed.{gets_held, stays_held}
use Rattle.program_parts.specs.DiskImages.{FillsAt, FillsDisk, FillsUpTo, HoldsDisk, IsDiskMade, IsWholeOfDisk, ReplacesByDisk, ShowsNothing}
use Rattle.program_parts.specs.declared.disk_images.Layout.{Layout}
use Rattle.program_parts.specs.Places.{GetsName, NameView, StaysNamed}
use Rattle.qcow2_image.specs.declared.mapping.Place.TheVariants.{Image}
use Rattle.qcow2_image.proofs.Images.Places.{from_image}

-- ---- lists in a row

both_long : (read chunk : List ℕ) → length (read ++ chunk) ≡ length read + length chunk
both_long read chunk = grind (arith, common_steps)

front_is : (read chunk : List ℕ) → take (length read) (read ++ chunk) ≡ read
front_is read chunk = grind (arith, common_steps)

behind_is : (read chunk : List ℕ) → drop (length read) (read ++ chunk) ≡ chunk
behind_is read chunk = grind (arith, common_steps)

all_taken : (bytes : List ℕ) → take (length bytes) bytes ≡ bytes
all_taken bytes = grind (arith, common_steps)

-- what a disk shows, one that was read before shows too
shows_as : (from now : SeenDisk) (at end : ℕ) (bytes : List ℕ) → (from.is_honest → IsSeenAs from.disk now) → (now.is_honest → end ≤ now.disk.size → Shows now.disk at bytes) → from.is_honest → end ≤ from.disk.size → Shows from.disk at bytes
shows_as from now at end bytes seen shows honest within =
    let one = seen honest in
    subst (λ (d : Disk). Shows d at bytes) one.disk (shows one.honest (subst (λ (d : Disk). end ≤ d.size) (sym one.disk) within))

-- ---- one range more

module _ {S F : Type 0} (view : S → StorageView) (backing : F → BackingView) (old mid new : Qcow2 S F) (read chunk : List ℕ) (first : ImportsAll view backing old mid read (Ok tt)) where
  so_far : (out : Mappings) → AnsweredEffect (abstract_of view backing old out) (abstract_of view backing mid out) (given_of 0 (read ++ chunk) ∷ []) []
      (guest_of (abstract_of view backing mid out) ≡ with_disk (guest_of (abstract_of view backing old out)) (with_bytes (guest_of (abstract_of view backing old out)).disk 0 (take (length read) (read ++ chunk))))
  so_far out = first_of read (read ++ chunk) (length read) refl (front_is read chunk) (abstract_of view backing old out) (abstract_of view backing mid out) (first out)

  -- it was written
  more_written : ImportsAt view backing mid new (length read) chunk (Ok tt) → ImportsAll view backing old new (read ++ chunk) (Ok tt)
  more_written next out =
      let whole = read ++ chunk in
      let fits : length read + length chunk ≤ length whole = let long = both_long read chunk in omega (arith, long) in
      let is : chunk ≡ bytes_at whole (length read) (length chunk) = sym (range_is whole (length read) (length chunk) fits ∙ ap (take (length chunk)) (behind_is read chunk) ∙ all_taken chunk) in
      let all : take (length read + length chunk) whole ≡ whole = ap (λ n. take n whole) (sym (both_long read chunk)) ∙ all_taken whole in
      does_if (λ e. subst (λ (b : List ℕ). guest_of (abstract_of view backing new out) ≡ with_disk (guest_of (abstract_of view backing old out)) (with_bytes (guest_of (abstract_of view backing old out)).disk 0 b)) all e)
      (all_more view backing old whole mid new (length read) (length chunk) fits chunk is so_far next out)

  -- it is zeros, and was zeros
  more_zeros : chunk ≡ replicate (length chunk) 0 → (size : ℕ) → length read + length chunk ≤ size → ShowsNothing view backing size old → ImportsAll view backing old mid (read ++ chunk) (Ok tt)
  more_zeros zeros size fits nothing out =
      let does = so_far out in
      record {
        acts = does.acts;
        answer = λ sound. let a = does.answer sound in (a.0, with_zeros (guest_of (abstract_of view backing old out)).disk (from_image (λ place. Shows (disk_of view backing place old) 0 (replicate size 0)) sound nothing) a.1);
      }
    where
      zero_at : (d : Disk) (o place : ℕ) → place ≡ o → o < size → Shows d 0 (replicate size 0) → d.value place ≡ known_byte 0
      zero_at d o place is lt shows =
          let long = length-replicate {A = ℕ} size 0 in
          let at : place ≡ 0 + o = omega (arith, is) in
          ap d.value at ∙ shows o (omega (arith, lt, long)) ∙ ap known_byte (get_or-replicate size o 0 0 lt)

      with_zeros : (d : Disk) → Shows d 0 (replicate size 0) → guest_of (abstract_of view backing mid out) ≡ with_disk (guest_of (abstract_of view backing old out)) (with_bytes d 0 (take (length read) (read ++ chunk)))
          → guest_of (abstract_of view backing mid out) ≡ with_disk (guest_of (abstract_of view backing old out)) (with_bytes d 0 (read ++ chunk))
      with_zeros d shows e =
          let there : Shows (with_bytes d 0 read) (0 + length read) chunk = λ i lt.
          let inside : i < size = omega (arith, lt, fits) in
          byte_out d 0 read (0 + length read + i) (inr (omega arith))
          ∙ zero_at d (length read + i) (0 + length read + i) (omega arith) (omega (arith, lt, fits)) shows
          ∙ ap known_byte (sym (ap (λ b. byte_at b i) zeros ∙ get_or-replicate (length chunk) i 0 0 lt))
          in
          let same : with_bytes d 0 read ≡ with_bytes d 0 (read ++ chunk) = sym (shown_same (with_bytes d 0 read) (0 + length read) chunk there) ∙ with_both d 0 read chunk in
          subst (λ (k : Disk). guest_of (abstract_of view backing mid out) ≡ with_disk (guest_of (abstract_of view backing old out)) k) (ap (λ (b : List ℕ). with_bytes d 0 b) (front_is read chunk) ∙ same) e

module _ {S F : Type 0} (view : S → StorageView) (backing : F → BackingView) (old : Qcow2 S F) where
  -- nothing yet
  pub fills_none : (from : SeenDisk) → FillsUpTo view backing old old 0 from
  fills_none from = record {
    bytes = [];
    long = refl;
    filled = λ out. imports_none (abstract_of view backing old out) [];
    shows = λ honest within i lt. absurd (omega (arith, lt));
  }

  module _ (mid new : Qcow2 S F) where
    pub fills_more : (size at n : ℕ) (from now : SeenDisk) → at + n ≤ size → ShowsNothing view backing size old → (from.is_honest → IsSeenAs from.disk now)
        → FillsUpTo view backing old mid at from → FillsAt view backing mid new at n now → FillsUpTo view backing old new (at + n) from
    fills_more size at n from now fits nothing seen first next =
        let read = first.bytes in
        let chunk = next.bytes in
        let fits_all : length read + length chunk ≤ size = omega (arith, fits, first.long, next.long) in
        record {
          bytes = read ++ chunk;
          long = let long = both_long read chunk in omega (arith, long, first.long, next.long);
          filled = ⊎_elim
              (λ (zeros : (chunk ≡ replicate n 0) × (new ≡ mid)). subst (λ image. ImportsAll view backing old image (read ++ chunk) (Ok tt)) (sym zeros.1)
              (more_zeros view backing old mid mid read chunk first.filled (zeros.0 ∙ ap (λ k. replicate k 0) (sym next.long)) size fits_all nothing))
              (λ written. more_written view backing old mid new read chunk first.filled (subst (λ k. ImportsAt view backing mid new k chunk (Ok tt)) (sym first.long) written)) next.filled;
          shows = λ honest within.
              let place : at ≡ 0 + length read = omega (arith, first.long) in
              shows_both from.disk 0 read chunk (first.shows honest (omega (arith, within))) (subst (λ k. Shows from.disk k chunk) place (shows_as from now at (at + n) chunk seen next.shows honest within));
        }

-- ---- a range

module _ {S F : Type 0} (view : S → StorageView) (backing : F → BackingView) (old : Qcow2 S F) where
  -- it is zeros
  pub fills_zeros : (at n : ℕ) (bytes : List ℕ) (from : SeenDisk) → bytes ≡ replicate n 0 → (from.is_honest → at + n ≤ from.disk.size → Shows from.disk at bytes) → FillsAt view backing old old at n from
  fills_zeros at n bytes from zeros shows = record { bytes = bytes; long = ap length zeros ∙ length-replicate n 0; filled = inl (zeros, refl); shows = shows }

  -- it was written
  pub fills_written : (new : Qcow2 S F) (at n : ℕ) (bytes : List ℕ) (from : SeenDisk) → length bytes ≡ n → (from.is_honest → at + n ≤ from.disk.size → Shows from.disk at bytes) → Writes view backing old new at bytes (Ok tt)
      → FillsAt view backing old new at n from
  fills_written new at n bytes from long shows writes = record { bytes = bytes; long = long; filled = inr writes; shows = shows }

-- ---- all of it, flushed

pub fills_flushed : {S F : Type 0} (view : S → StorageView) (backing : F → BackingView) (old mid new : Qcow2 S F) (n : ℕ) (from : SeenDisk)
    → ((out : Mappings) → (abstract_of view backing old out).is_sound → n ≡ (guest_of (abstract_of view backing old out)).disk.size)
    → FillsUpTo view backing old mid n from → FlushesImage view backing mid new (Ok tt) → FillsDisk view backing old new n from
fills_flushed view backing old mid new n from sized all flush = record {
  bytes = all.bytes;
  long = all.long;
  filled = imports_flushed view backing old all.bytes mid new n (sym all.long) (λ out sound. all.long ∙ sized out sound) all.filled flush;
  shows = all.shows;
}

-- ---- a new image

disk_size : (b : Bytes) → (disk b zeros_below).size ≡ (header b).size
unfolding disk_with
disk_size b = refl

new_disk_zeros : (mode : PreallocateMode) (n : ℕ) (b : Bytes) → IsNewDisk mode n b → (o : ℕ) → (disk b zeros_below).value o ≡ known_byte 0
new_disk_zeros Mode.None n b new o = new.shows_below zeros_below o
new_disk_zeros Mode.Zero n b new o = new.zeros o
new_disk_zeros Mode.FormatAllocate n b new o = new.zeros o
new_disk_zeros Mode.FullAllocate n b new o = new.zeros o
new_disk_zeros Mode.WriteData n b new o = new.zeros o

module _ {S F : Type 0} (view : S → StorageView) (backing : F → BackingView) where
  -- it is zeros once it is opened
  pub opened_nothing : (mode : PreallocateMode) (n k : ℕ) (created : StorageView) (image : Qcow2 S F) → IsNewDisk mode n (byte_at created.contents) → IsConsistent (byte_at created.contents) → IsKeptSince created (view (storage_of_image image))
      → IsOpened (abstract_of view backing image (in_image [])) → is_some image.backing ≡ false → ShowsNothing view backing k image
  opened_nothing mode n k created image new consistent kept opened alone i lt =
      let b = byte_at created.contents in
      let m = checkpoint_at (disk b zeros_below) b in
      let start : LeavesKept zeros_below m created = record { consistent = consistent; rest = header_rest_same b; size = inl refl; values = λ o. inl refl } in
      let left = kept.contents zeros_below m start start in
      let v = abstract_of view backing image (in_image []) in
      let stored = byte_at (view (storage_of_image image)).contents in
      let here : (disk stored zeros_below).value (0 + i) ≡ known_byte 0 = ⊎_elim (λ same. same ∙ new_disk_zeros mode n b new (0 + i)) (λ given. absurd given) (left.values (0 + i)) in
      let inside : i < k = let long = length-replicate {A = ℕ} k 0 in omega (arith, lt, long) in
      subst (λ below. (disk v.known below).value (0 + i) ≡ known_byte (byte_at (replicate k 0) i)) (sym (none_below view backing image.backing alone))
      (subst (λ known. (disk known zeros_below).value (0 + i) ≡ known_byte (byte_at (replicate k 0) i)) (sym opened.clean) (here ∙ ap known_byte (sym (get_or-replicate k i 0 0 inside))))

  -- the image has the bytes that it was filled with
  pub disk_made : (old new : Qcow2 S F) (n : ℕ) (from : SeenDisk) (layout : Layout) (h : HeaderFields) → SameFormat h old.file.header.fields → cluster_size h ≡ layout.cluster → count_width (header (contents_in view new.file)) ≡ layout.width → IsOpened (abstract_of view backing old (in_image [])) → is_some old.backing ≡ false → (from.is_honest → n ≡ from.disk.size) → FillsDisk view backing old new n from
      → IsDiskMade from layout n (view (storage_of_image new))
  disk_made old new n from layout h format cluster width opened alone count fills =
      let w = abstract_of view backing new (in_image []) in
      let does = fills.filled (in_image []) in
      let done = does.answer opened.sound in
      let clean = done.1.3 in
      let is_whole = whole view backing new (in_image []) done.0 in
      let setting : w.setting ≡ (abstract_of view backing old (in_image [])).setting = (does.acts.works opened.sound).setting in
      let below : w.setting.backing ≡ zeros_below = ap (λ (x : Setting). x.backing) setting ∙ none_below view backing old.backing alone in
      let stored = byte_at (view (storage_of_image new)).contents in
      let is_disk : IsRawOf (disk_alone stored) fills.bytes =
      subst (λ below. IsRawOf (disk stored below) fills.bytes) below (subst (λ known. IsRawOf (disk known w.setting.backing) fills.bytes) clean done.1.1)
      in
      record {
        honest = done.0.file.honest;
        whole = record {
          image = record { consistent = subst IsConsistent clean is_whole.consistent; size = sym (disk_size stored) ∙ sym is_disk.0 ∙ fills.long };
          disk = λ honest.
              let shows = fills.shows honest (omega (arith, count honest)) in
              record {
                size = sym (count honest) ∙ sym fills.long ∙ is_disk.0;
                bytes = λ o lt.
                    let inside : o < length fills.bytes = omega (arith, lt, count honest, fills.long) in
                    let at : o ≡ 0 + o = omega arith in
                    (byte_at fills.bytes o, ap from.disk.value at ∙ shows o inside, ap (disk_alone stored).value at ∙ is_disk.1 o inside);
              };
          clusters = ap (λ b. cluster_size (header b)) (sym clean) ∙ sym is_whole.cluster_size ∙ ap (λ (x : Setting). x.cluster_size) setting ∙ ap cluster_size format ∙ cluster;
          counts = width;
        };
      }

-- so it has those of a disk that was read before
pub disk_made_as : {S F : Type 0} (view : S → StorageView) (backing : F → BackingView) (old new : Qcow2 S F) (n : ℕ) (from now : SeenDisk) (layout : Layout) (h : HeaderFields) → SameFormat h old.file.header.fields → cluster_size h ≡ layout.cluster → count_width (header (contents_in view new.file)) ≡ layout.width → IsOpened (abstract_of view backing old (in_image [])) → is_some old.backing ≡ false → (from.is_honest → n ≡ from.disk.size)
    → (from.is_honest → IsSeenAs from.disk now) → FillsDisk view backing old new n now → IsDiskMade from layout n (view (storage_of_image new))
disk_made_as view backing old new n from now layout h format cluster width opened alone count seen fills = disk_made view backing old new n from layout h format cluster width opened alone count (record {
  bytes = fills.bytes;
  long = fills.long;
  filled = fills.filled;
  shows = shows_as from now 0 n fills.bytes seen fills.shows;
})

-- ---- what a range is for a disk that was read before

pub fills_as : {S F : Type 0} (view : S → StorageView) (backing : F → BackingView) (old new : Qcow2 S F) (at n m : ℕ) (from now : SeenDisk) → n ≡ m → (from.is_honest → IsSeenAs from.disk now) → FillsAt view backing old new at n now → FillsAt view backing old new at m from
fills_as view backing old new at n m from now count seen fills = record {
  bytes = fills.bytes;
  long = fills.long ∙ count;
  filled = ⊎_elim (λ (zeros : (fills.bytes ≡ replicate n 0) × (new ≡ old)). inl (zeros.0 ∙ ap (λ k. replicate k 0) count, zeros.1)) (λ written. inr written) fills.filled;
  shows = λ honest within. shows_as from now at (at + n) fills.bytes seen fills.shows honest (omega (arith, within, count));
}

pub shows_fewer : (d : Disk) (at n k : ℕ) → k ≤ n → Shows d at (replicate n 0) → Shows d at (replicate k 0)
shows_fewer d at n k few shows i lt =
    let short = length-replicate {A = ℕ} k 0 in
    let long = length-replicate {A = ℕ} n 0 in
    let inside : i < k = omega (arith, lt, short) in
    shows i (omega (arith, inside, few, long)) ∙ ap known_byte (get_or-replicate n i 0 0 (omega (arith, inside, few)) ∙ sym (get_or-replicate k i 0 0 inside))

pub seen_then : (a b c : SeenDisk) → IsSeenAs a.disk b → (b.is_honest → IsSeenAs b.disk c) → IsSeenAs a.disk c
seen_then a b c one then = let two = then one.honest in record { honest = two.honest; disk = two.disk ∙ one.disk }

-- ---- a name

module _ (seen : SeenDisk) (layout : Layout) (old : NameView) where
  module _ (new : NameView) (n : ℕ) (bytes : List ℕ) (whole : IsWholeOfDisk seen layout n bytes) where
    holds_disk : (held : Option (List ℕ)) → held ≡ Some bytes → HoldsDisk seen layout n held
    holds_disk held is = subst (HoldsDisk seen layout n) (sym is) whole

    pub disk_named : {E : Type 0} → GetsName bytes old new → ReplacesByDisk {E = E} seen layout old new (Ok n)
    disk_named {E} gets = record { each_moment = gets_held bytes old new (λ held. (n : ℕ) × HoldsDisk seen layout n held) (n, whole) gets; done = holds_disk new.holds gets.holds }

    pub disk_maybe : {E : Type 0} (e : E) → StaysNamed old new ⊎ GetsName bytes old new → ReplacesByDisk {E = E} seen layout old new (Err e)
    disk_maybe {E} e either = record {
      each_moment = ⊎_elim (stays_held old new (λ held. (n : ℕ) × HoldsDisk seen layout n held)) (gets_held bytes old new (λ held. (n : ℕ) × HoldsDisk seen layout n held) (n, whole)) either;
      done = tt;
    }

-- it is so still once it was compared
pub disk_still : {E : Type 0} (seen : SeenDisk) (layout : Layout) (n : ℕ) (a b : StorageView) (r : Result ℕ E) → r ≡ Ok n → IfOk r (λ k. IsDiskMade seen layout k a) → IsKeptQuietly a b → IsDiskMade seen layout n b
disk_still {E} seen layout n a b r is made kept =
    let one = subst (λ (q : Result ℕ E). IfOk q (λ k. IsDiskMade seen layout k a)) is made in
    let quiet = kept one.honest in
    record { honest = quiet.honest; whole = subst (IsWholeOfDisk seen layout n) (sym quiet.contents) one.whole }

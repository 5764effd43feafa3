-- Why an image is not made from a raw disk, and why a raw disk is not made from an image.
use Rattle.qcow2_image.specs.ImageInvariant.{in_image}
use Rattle.std.proofs.Common.{◌≡◌, ◌≢◌, ◌⊎◌, ◌+◌, ◌≤◌, ◌^◌, inl, inr, ⊎_elim, ℕ, List, [], None, Result, Ok, Err, refl, sym, ap, ◌∙◌, subst, true, false, arith, Option, length, option_map}
use Rattle.program_parts.proofs.Common.{IfErr, IsTrue, unwrap_or, option_or, BackingView, StorageView, Bytes, byte_at, IsConsistent, header, HeaderFields, IsOpened, IsFault, known_in, state_in, ImageError, IsAllowed, IsCreated, IsReasonNotToCreateOpen, allocates_over, backing_format_in, backing_name_in, IsSameImage, is_writable, size_of, storage_of_image, abstract_of, pending_in, NoBacking, Qcow2CreateBuilder, Qcow2, opening_reasons, MayFailImporting, IsImageOfSize, IsLayout, MayFailExporting, MayFailOnceCreated, MayFailReadingDisk, IsRefusedUntouched, IsUnopened, OpensToExport, asked_for}
use Rattle.std.specs.String.{string_bytes}
use Rattle.std.proofs.Math.Pow.{pow_mono}
use Rattle.qcow2_image.specs.Created.{data_file_name_in}
use Rattle.qcow2_metadata.specs.HeaderWrite.{name_place}
use Rattle.image_access.specs.declared.storage.PreallocateMode.TheVariants as Mode
use Rattle.qcow2_laws.proofs.Internal.{known_header}
use Rattle.qcow2_alloc.specs.declared.error.ImageError.TheVariants as I
use Rattle.qcow2_image.specs.MayFail.{MayFailReadingRange}
use Rattle.qcow2_image.specs.Opened.{NeedsAnother}
use Rattle.qcow2_image.specs.Readable.{HeaderSuits, IsJustifiedRefusal, OpensRightly}
use Rattle.qcow2_image.specs.Refusals.{MayFailToRead, passes, refuse_if, refuses_to_read}
use Rattle.qcow2_image.specs.declared.image.Missing.TheVariants as M
use Rattle.qcow2_image.proofs.Create.Faults.{none_prepared}
use Rattle.qcow2_image.proofs.Images.Sizes.{sound_is_usable}
use Rattle.qcow2_session.specs.Sessions.{IsOfReading}

-- what is so where a call was refused
pub of_err : {A E : Type 0} (P : E → Type 0) (r : Result A E) (e : E) → r ≡ Err e → IfErr r P → P e
of_err {A} {E} P r e is h = let Q : Result A E → Type 0 = λ it. IfErr it P in subst Q is h

pub err_then : {A E : Type 0} {P Q : E → Type 0} (r : Result A E) → ((e : E) → P e → Q e) → IfErr r P → IfErr r Q
err_then (Ok a) to h = tt
err_then (Err e) to h = to e h

-- ---- an image of a raw disk

-- the same clusters and counts are allowed, whatever the storage is
layout_as : {S T : Type 0} (a : Qcow2CreateBuilder S) (b : Qcow2CreateBuilder T) → b.cluster_size ≡ a.cluster_size → b.refcount_width ≡ a.refcount_width → b.backing_name ≡ None → b.backing_format ≡ None → b.data_file_name ≡ None → IsAllowed a → IsAllowed b
layout_as a b clusters counts name format unnamed allowed = record {
  cluster_bits = allowed.cluster_bits;
  refcount_order = allowed.refcount_order;
  cluster_size_is = clusters ∙ allowed.cluster_size_is;
  refcount_width_is = counts ∙ allowed.refcount_width_is;
  no_smaller = allowed.no_smaller;
  no_larger = allowed.no_larger;
  no_wider = allowed.no_wider;
  room =
      let low : 2 ^ 9 ≤ 2 ^ allowed.cluster_bits = pow_mono allowed.no_smaller in
      let size : b.cluster_size ≡ 2 ^ allowed.cluster_bits = clusters ∙ allowed.cluster_size_is in
      let short : name_place (backing_format_in b) (data_file_name_in b) + length (unwrap_or (backing_name_in b) []) ≡ 112 =
      ap (λ (f : Option _). name_place (option_map string_bytes f) (data_file_name_in b) + length (unwrap_or (backing_name_in b) [])) format
      ∙ ap (λ (f : Option _). name_place None (option_map string_bytes f) + length (unwrap_or (backing_name_in b) [])) unnamed
      ∙ ap (λ (n : Option _). 112 + length (unwrap_or (option_map string_bytes n) [])) name in
      omega (arith, low, size, short);
}

-- a builder that is like one without a data file
pub plain_so : {S : Type 0} (builder other : Qcow2CreateBuilder S) → builder ≡ other → other.data_file_name ≡ None → other.data_file ≡ None → (builder.data_file_name ≡ None) × (builder.data_file ≡ None)
plain_so builder other is name file = (ap (λ (b : Qcow2CreateBuilder _). b.data_file_name) is ∙ name, ap (λ (b : Qcow2CreateBuilder _). b.data_file) is ∙ file)

module _ {S : Type 0} where
  -- the builder, as it is told one after the other
  pub asked_so : (storage : S) (n cluster width : ℕ) (new sized clustered whole : Qcow2CreateBuilder S) → new ≡ record { image = storage; size = 0; preallocate = Mode.None; cluster_size = 65536; refcount_width = 16; backing_name = None; backing_format = None; data_file_name = None; data_file = None }
      → sized ≡ record new { size = n } → clustered ≡ record sized { cluster_size = cluster } → whole ≡ record clustered { refcount_width = width } → whole ≡ asked_for storage n cluster width
  asked_so storage n cluster width new sized clustered whole first second third fourth =
      fourth ∙ ap (λ (b : Qcow2CreateBuilder S). record b { refcount_width = width }) (third ∙ ap (λ (b : Qcow2CreateBuilder S). record b { cluster_size = cluster }) (second ∙ ap (λ (b : Qcow2CreateBuilder S). record b { size = n }) first))

  module _ (storage : S) (n cluster width : ℕ) (built : Qcow2CreateBuilder S) (is : built ≡ asked_for storage n cluster width) where
    pub no_layout : ¬ IsLayout cluster width → ¬ IsAllowed built
    no_layout none allowed = none (layout_as built (asked_for {S = Unit {0}} tt 0 cluster width) (sym (ap (λ (b : Qcow2CreateBuilder S). b.cluster_size) is)) (sym (ap (λ (b : Qcow2CreateBuilder S). b.refcount_width) is)) refl refl refl allowed)

    pub of_layout : IsLayout cluster width → IsAllowed built
    of_layout layout = layout_as (asked_for {S = Unit {0}} tt 0 cluster width) built (ap (λ (b : Qcow2CreateBuilder S). b.cluster_size) is) (ap (λ (b : Qcow2CreateBuilder S). b.refcount_width) is) (ap (λ (b : Qcow2CreateBuilder S). b.backing_name) is) (ap (λ (b : Qcow2CreateBuilder S). b.backing_format) is) (ap (λ (b : Qcow2CreateBuilder S). b.data_file_name) is) layout

    -- it names no file below, and takes no clusters over one
    pub unnamed : built.backing_name ≡ None
    unnamed = ap (λ (b : Qcow2CreateBuilder S). b.backing_name) is

    pub allocates_alone : allocates_over built ≡ false
    allocates_alone = ap (λ (b : Qcow2CreateBuilder S). allocates_over b) is

    -- the storage is as it was where the builder says so
    pub untouched : {A : Type 0} (left : S) (r : Result A ImageError) (e reason : ImageError) → r ≡ Err e → (r ≡ Err reason) × (left ≡ built.image) → IsRefusedUntouched reason storage (left, Err e)
    untouched {A} left r e reason was told = (told.1 ∙ ap (λ (b : Qcow2CreateBuilder S). b.image) is, inl (by (sym was ∙ told.0))) where
      by : ◌≡◌ {A = Result A ImageError} (Err e) (Err reason) → e ≡ reason
      by same = cc

-- a call that was answered wasn't refused
pub not_refused : {A : Type 0} {P X : Type 0} (r : Result A ImageError) (x : A) (reason : ImageError) → r ≡ Ok x → (r ≡ Err reason) × X → P
not_refused {A} r x reason was told = absurd (by (sym was ∙ told.0)) where
  by : ◌≡◌ {A = Result A ImageError} (Ok x) (Err reason) → ⊥
  by same = cc

-- opening that is refused for another reason than a file is refused as where none is missing
none_missing : (contents : List ℕ) (e : ImageError) → ¬ NeedsAnother contents → IsJustifiedRefusal contents true M.OtherFiles e → IsJustifiedRefusal contents true M.Nothing e
none_missing contents e alone = by e where
  suits : HeaderSuits contents true M.OtherFiles → HeaderSuits contents true M.Nothing
  suits so = record { reads = so.reads; on_clusters = so.on_clusters; needs_none = λ needs. absurd (let bad : false ≡ true = needs.needs in cc) }

  by : (e : ImageError) → IsJustifiedRefusal contents true M.OtherFiles e → IsJustifiedRefusal contents true M.Nothing e
  by I.Metadata why = ⊎_elim (λ ill. inl ill) (λ table. inr (suits table.0, table.1)) why
  by I.Limit why = ⊎_elim (λ past. inl past) (λ table. inr (suits table.0, table.1)) why
  by I.UnalignedTable why = why
  by I.Dependency why = absurd (alone why.1)
  by I.Memory why = tt
  by I.Storage why = tt
  by e why = absurd why

-- an image that was created is refused so as it is opened
pub opening_refused : {S : Type 0} (view : S → StorageView) (builder : Qcow2CreateBuilder S) (storage : S) (refused : S × ImageError) → builder.backing_name ≡ None → IsCreated builder (view storage)
    → OpensRightly {S = S} {F = NoBacking} (view storage) true M.OtherFiles (Err refused) → IsReasonNotToCreateOpen view builder refused
opening_refused {S} view builder storage refused unnamed made rightly =
    let why = none_missing (view storage).contents refused.1 (made.alone unnamed) (rightly.1 made.honest) in
    let result : Result (Qcow2 S NoBacking) (S × ImageError) = Err refused in
    opening_reasons builder view storage result made
    (λ is. absurd (no_truth (subst (λ (e : ImageError). IsJustifiedRefusal (view storage).contents true M.Nothing e) is why).1.needs), λ honest. why)
  where
    no_truth : false ≡ true → ⊥
    no_truth bad = cc

module _ {S F : Type 0} (view : S → StorageView) (backing : F → BackingView) (image : Qcow2 S F) (opened : IsOpened (abstract_of view backing image (in_image []))) where
  -- an image that was opened may be read
  pub may_be_read : refuses_to_read image 0 0 ≡ None
  may_be_read = ap (λ r. option_or r (refuse_if (passes (size_of image) 0 0) I.BeyondSize)) (sound_is_usable view backing image (in_image []) opened.sound)

  module _ (contents : List ℕ) (same : (view (storage_of_image image)).contents ≡ contents) where
    known_is : known_in view image.file ≡ byte_at contents
    known_is = opened.clean ∙ ap byte_at same

    -- and has the header of its storage
    pub header_is : image.file.header.fields ≡ header (byte_at contents)
    header_is = sym (known_header (state_in view image.file (pending_in view backing image (in_image []))) opened.sound.file.caches.kept.kept.crash_invariant) ∙ ap header known_is

    met_disk : (e : ImageError) → MayFailReadingRange (in_image []) 0 (size_of image) image.file.header.fields (known_in view image.file) e → MayFailReadingDisk (byte_at contents) e
    met_disk e may_fail =
        let headed = subst (λ (h : HeaderFields). MayFailReadingRange (in_image []) 0 h.size h (known_in view image.file) e) header_is may_fail in
        let h = header (byte_at contents) in
        ⊎_elim (λ looking. ⊎_elim (λ fault. inl fault) (λ held. absurd (none_prepared held.1)) looking) (λ some. inr some) (subst (λ (b : Bytes). MayFailReadingRange (in_image []) 0 h.size h b e) known_is headed)

    pub met_disks : {A : Type 0} (r : Result A ImageError) → IfErr r (MayFailReadingRange (in_image []) 0 (size_of image) image.file.header.fields (known_in view image.file)) → IfErr r (MayFailReadingDisk (byte_at contents))
    met_disks r may_fail = err_then r met_disk may_fail

-- an import of a raw disk of the image's size
pub met_importing : {A : Type 0} {n m : ℕ} (P : ImageError → Type 0) (r : Result A ImageError) (e : ImageError) → r ≡ Err e → n ≡ m → IfErr r (λ x. x ≡ I.InvalidOption → n ≢ m) → IfErr r (λ x. (x ≡ I.InvalidOption) ⊎ P x) → P e
met_importing {A} {n} {m} P r e is same option may_fail =
    ⊎_elim (λ bad. absurd (of_err (λ x. x ≡ I.InvalidOption → n ≢ m) r e is option bad same)) (λ p. p) (of_err (λ x. (x ≡ I.InvalidOption) ⊎ P x) r e is may_fail)

-- the image that was created is handed back then
pub met_once_created : {S A : Type 0} (view : S → StorageView) (n : ℕ) (old new : Qcow2 S NoBacking) (storage : S) (r : Result A ImageError) → storage ≡ storage_of_image new → size_of old ≡ n → IsTrue (is_writable old) → IsSameImage old new
    → IsImageOfSize n (byte_at (view (storage_of_image new)).contents) → IfErr r (MayFailImporting view 0 (size_of old) new (in_image [])) → IfErr r (MayFailOnceCreated view n storage)
met_once_created view n old new storage r is size writable same stands = err_then r (λ e may_fail. record {
  left = new;
  is_left = sym is;
  writable = subst IsTrue (sym same.writable) writable;
  stands = subst (λ s. IsImageOfSize n (byte_at (view s).contents)) (sym is) stands;
  may_fail = subst (λ k. MayFailImporting view 0 k new (in_image []) e) size may_fail;
})

-- ---- a raw disk of an image
pub met_exporting : {R A B : Type 0} (contents : List ℕ) (old new : R) (copied : Result B ImageError) (told : Result A ImageError) → OpensToExport contents → IfErr told (λ e. (copied ≡ Err e) ⊎ IsFault e) → IfErr copied IsOfReading
    → (IsConsistent (byte_at contents) → IfErr copied (MayFailReadingDisk (byte_at contents))) → IfErr told (λ e. IsUnopened contents old new e ⊎ MayFailExporting contents e)
met_exporting contents old new copied (Ok n) opens cause reading may_fail = tt
met_exporting contents old new copied (Err e) opens cause reading may_fail = inr (record {
  opens = opens;
  of_reading = ⊎_elim (λ is. of_err IsOfReading copied e is reading) (λ fault. inl (⊎_elim (λ (storage : e ≡ I.Storage). subst MayFailToRead (sym storage) tt) (λ (memory : e ≡ I.Memory). subst MayFailToRead (sym memory) tt) fault)) cause;
  may_fail = λ consistent. ⊎_elim (λ is. of_err (MayFailReadingDisk (byte_at contents)) copied e is (may_fail consistent)) (λ fault. inl fault) cause;
})

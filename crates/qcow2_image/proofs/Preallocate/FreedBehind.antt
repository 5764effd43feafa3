-- A growth is refused, and clusters are freed after the refusal.
use Rattle.std.proofs.Common.{◌≡◌, ◌<◌, ◌⊎◌, ◌∙◌, inl, inr, ℕ, true, List, [], sym, subst, Option, Result, Err}
use Rattle.qcow2_image.proofs.Common.{MayFailPreparing, HeaderView, BackingView, StorageView, PreallocateMode, GivenBytes, works_less, works_then, IsFault, ImageError, RefusedCall, Qcow2, Prepared, ImageInvariant, abstract_of, pending_in, FillsGrownInPart, InterruptedGiving, all_given_by_growing, FreesRefused, IsFaultOrLimit, MayFailToGrow, TablePrepared, Mappings}
use Rattle.qcow2_image.proofs.Call.FailingErrors.{freeing_met}
use Rattle.qcow2_image.proofs.Prepare.PinnedL2Tables.{freed_untaken}

pub same_refusal : {A : Type 0} (r : Result A ImageError) (e e' : ImageError) → r ≡ Err e → r ≡ Err e' → e ≡ e'
same_refusal r e e' was is = let both : Err e ≡ Err e' = sym was ∙ is in cc

-- what is reported afterwards is the refusal, or one of freeing clusters
pub grow_told : {S F : Type 0} (mid new : Qcow2 S F) (mode : PreallocateMode) (e e' : ImageError) → new.file.header ≡ mid.file.header → (MayFailPreparing mid e → MayFailPreparing new e') → MayFailToGrow mid mode e → (e' ≡ e) ⊎ IsFaultOrLimit e' → MayFailToGrow new mode e'
grow_told mid new mode e e' header cause (inl preparing) told = inl (cause preparing)
grow_told mid new mode e e' header cause (inr version) (inl same) = inr (same ∙ version.0, version.1, subst (λ (h : HeaderView). h.fields.version < 3) (sym header) version.2)
grow_told mid new mode e e' header cause (inr version) (inr tables) = inl (inl (freeing_met _ e' tables))

pub taken_told : (e e' : ImageError) → (e' ≡ e) ⊎ IsFaultOrLimit e' → e' ≡ TablePrepared → e ≡ TablePrepared
taken_told e e' (inl same) taken = sym same ∙ taken
taken_told e e' (inr tables) taken = absurd (freed_untaken e' tables taken)

module _ {S F : Type 0} (view : S → StorageView) (backing : F → BackingView) (out : Mappings) (old mid new : Qcow2 S F) (size : ℕ) (mode : PreallocateMode) (e e' : ImageError) where
  abbrev given : List GivenBytes
  given = all_given_by_growing view backing out.place old size mode

  abbrev Left : Qcow2 S F → ImageError → Type 0
  Left image refusal = FillsGrownInPart view backing size mode old image out ⊎ InterruptedGiving view backing given old image out refusal

  module _ (left : Left mid e) (fault : IsFault e → (e' ≡ e) × (new ≡ mid)) where
    -- no more bytes change by that
    pub grown_freed : (ImageInvariant view backing (pending_in view backing mid out) mid out → RefusedCall view backing mid new out e') → Left new e'
    grown_freed frees =
        let a = abstract_of view backing old out in
        let m = abstract_of view backing mid out in
        let n = abstract_of view backing new out in
        let failed = abstract_of view backing (record new { is_failed = true }) out in
        elim left [
          | inl part ↦ elim (frees part.sound) [
            | inl still ↦ inl (record {
              works = works_then a m n given [] part.sound part.works (works_less m n [] given [] (λ o x never. absurd never) (λ g u. tt) still.works);
              sound = still.sound;
              now = part.now;
              may = part.may;
              shows = still.same ∙ part.shows;
            })
            | inr broken ↦ inr (record { fault = broken.fault; recorded = broken.recorded; works = works_then a m failed given [] part.sound part.works (works_less m failed [] given [] (λ o x never. absurd never) (λ g u. tt) broken.works) })
          ]
          | inr broken ↦ let is = fault broken.fault in inr (subst (λ (x : ImageError). InterruptedGiving view backing given old new out x) (sym is.0) (subst (λ (image : Qcow2 S F). InterruptedGiving view backing given old image out e) (sym is.1) broken))
        ]

    -- nothing is left to be freed then
    pub grown_left : (ImageInvariant view backing (pending_in view backing mid out) mid out → FreesRefused new e') → FreesRefused new e'
    grown_left empties = elim left [
      | inl part ↦ empties part.sound
      | inr broken ↦ inl (subst IsFault (sym (fault broken.fault).0) broken.fault)
    ]

    -- what is answered then is the refusal, or a fault
    pub grown_told : (ImageInvariant view backing (pending_in view backing mid out) mid out → (e' ≡ e) ⊎ IsFault e') → (e' ≡ e) ⊎ IsFault e'
    grown_told told = elim left [ inl part ↦ told part.sound | inr broken ↦ inl (fault broken.fault).0 ]

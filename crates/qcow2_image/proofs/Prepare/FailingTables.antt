-- Why finding or making an L2 table, and clearing entries in one, is refused on a sound image.
use Rattle.std.proofs.Common.{◌≡◌, ◌+◌, ◌-◌, ◌/◌, ◌%◌, ◌<◌, ◌≤◌, ◌⊎◌, inl, inr, ℕ, List, Option, Result, Ok, Err, sym, ap, subst, IfErr, IsErr, IsErrAnd, IsSome}
use Rattle.qcow2_image.proofs.Common.{BackingView, StorageView, cluster_size, entries_per_cluster, Pending, IsInUseOrFault, IsFault, FileInvariant, known_in, IsEntryAt, l2_at, ImageError, handed_on, HasPinnedMapping, RefusedCall, InternalCall, IsClearable, ClearMode, Qcow2, Prepared, l1_index_of, ImageInvariant, pending_in, NeedsOverflowingL1Entry, MayFailAlone, MayFailLooking, HoldsTable, Mappings}
use Rattle.qcow2_image.proofs.Clear.Between.{fits_table}
use Rattle.qcow2_image.proofs.Prepare.MissingL2Table.{loads_looking}
use Rattle.qcow2_image.proofs.Images.Places.{inside_of}

-- ---- refusals
module _ {A : Type 0} (compressed far : Type 0) where
  pub hands_alone : (r : Result A ImageError) (e : ImageError) → IsErr r × IsErrAnd r (λ x. x ≡ e) → MayFailAlone compressed far e → IfErr r (MayFailAlone compressed far)
  hands_alone r e on why = handed_on (λ (x : Result _ _). IfErr x (MayFailAlone compressed far)) r e on why

module _ {S F : Type 0} (view : S → StorageView) (backing : F → BackingView) (out : Mappings) where
  -- a table is loaded but for a fault, or where a mapping is prepared
  pub faults_looking : {A : Type 0} (p : Pending) (image : Qcow2 S F) → ImageInvariant view backing p image out → (r : Result A ImageError) → IfErr r (IsInUseOrFault image.file.caches) → IfErr r (MayFailLooking (HasPinnedMapping out))
  faults_looking p image sound (Ok x) cause = tt
  faults_looking p image sound (Err e) cause = loads_looking view backing out p image sound e cause

  -- clusters that are listed are freed after the refusal, or a fault refuses that
  pub met_freed : (C : ImageError → Type 0) → ((e : ImageError) → IsFault e → C e) → (old mid new : Qcow2 S F) (e e' : ImageError) → RefusedCall view backing old mid out e → (IsFault e → (e' ≡ e) × (new ≡ mid))
      → (ImageInvariant view backing (pending_in view backing mid out) mid out → (e' ≡ e) ⊎ IsFault e') → C e → C e'
  met_freed C faults old mid new e e' left fault told why = elim left [
    | inl stays ↦ elim (told stays.sound) [ inl same ↦ subst C (sym same) why | inr now ↦ faults e' now ]
    | inr broken ↦ faults e' (subst IsFault (sym (fault broken.fault).0) broken.fault)
  ]

-- ---- the entries of a held table
module _ {S F : Type 0} (view : S → StorageView) (backing : F → BackingView) (out : Mappings) (old mid : Qcow2 S F) (how : ClearMode) (from to table : ℕ) (found : InternalCall view backing old mid out) (held : HoldsTable view backing mid from table) where
  -- the entries of a range that can be cleared lie in the cached table, and reading them is refused only for a fault
  pub reading_fault : IsClearable old.file.header.fields how from to → from < to → (first n : ℕ) (e : ImageError) → first ≡ from / cluster_size mid.file.header.fields → n ≡ (to - from) / cluster_size mid.file.header.fields
      → ((q : Pending) (i : ℕ) → FileInvariant view q mid.file → mid.file.header.fields.incompatible ≡ 0 → IsEntryAt mid.file.header.fields (known_in view mid.file) i table (first % entries_per_cluster mid.file.header.fields) → first / entries_per_cluster mid.file.header.fields ≡ i
      → first % entries_per_cluster mid.file.header.fields + n ≤ entries_per_cluster mid.file.header.fields → IsSome (l2_at mid.file.caches table) → IsFault e) → IsFault e
  reading_fault whole some first n e at many faults =
      let h = mid.file.header.fields in
      faults (pending_in view backing mid out) (l1_index_of h from) found.sound.file (inside_of found.sound) (subst (λ k. IsEntryAt h (known_in view mid.file) (l1_index_of h from) table (k % entries_per_cluster h)) (sym at) held.entry) (ap (λ k. k / entries_per_cluster h) at)
      (subst (λ k. k % entries_per_cluster h + n ≤ entries_per_cluster h) (sym at) (subst (λ k. from / cluster_size h % entries_per_cluster h + k ≤ entries_per_cluster h) (sym many) (fits_table view backing out old mid how from to found whole some))) held.new_data

-- a call that has begun needs an entry past 64 bits only where that was so before
pub far_before : {S F : Type 0} (old begun : Qcow2 S F) (offset : ℕ) → begun ≡ record old { file = record old.file { storage = begun.file.storage; caches = begun.file.caches } } → NeedsOverflowingL1Entry begun offset → NeedsOverflowingL1Entry old offset
far_before {S} {F} old begun offset rest needs =
    let is = subst (λ (i : Qcow2 S F). NeedsOverflowingL1Entry i offset) rest needs in
    (record { within = is.0.within; far = is.0.far }, is.1)

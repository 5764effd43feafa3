-- Tables are loaded and evicted, and bytes are read, in an image without modified cached tables: nothing is written, whatever the image contains.
use Rattle.std.proofs.Common.{◌≡◌, ⊎_elim, inl, inr, ℕ, Bool, Result, refl, sym, ap, subst, ◌∙◌}
use Rattle.qcow2_image.proofs.Common.{StorageView, ContentsStay, EachMomentSince, IsLeftBy, QuietCalls, passes_if, StorageError, ImageFile, ImageStorage, storage_of, AreAllWritten, IsQuiet, KeepAllWritten, written_none, written_then, Qcow2, IsBegun, ContentsStayThroughout, ReadsQuietly, MetadataCaches, GetsTableQuietly, own_table, LoadsQuietly, LooksQuietly, OnlyLooks}
use Rattle.qcow2_alloc.proofs.KeptTables.Quiet.{quiet_none, quiet_read, quiet_then}
use Rattle.qcow2_alloc.specs.Quiet.{WritesNothing}

-- a call of the storage that leaves its contents: it had them at each moment
pub kept_throughout : (old new : StorageView) → EachMomentSince old new (IsLeftBy new) → ContentsStay old new → old.is_honest → ContentsStayThroughout old new
kept_throughout old new time same honest = (same, passes_if (IsLeftBy old) (λ c is. is ∙ same honest) time)

module _ {S F : Type 0} (view : S → StorageView) where
  -- no call at all
  pub reads_none : (image : Qcow2 S F) → ReadsQuietly view image image
  reads_none image = written_none view image.file.storage image.file.caches

  -- the file stays as it is
  pub reads_same : (old new : Qcow2 S F) → new.file ≡ old.file → ReadsQuietly view old new
  reads_same old new same = subst (λ (f : ImageFile S). KeepAllWritten view old.file.storage old.file.caches f.storage f.caches) (sym same) (reads_none old)

  -- its storage is the same one, and its caches hold as little that is modified
  pub reads_aside : (old new : Qcow2 S F) → storage_of new.file.storage ≡ storage_of old.file.storage → (AreAllWritten old.file.caches → AreAllWritten new.file.caches) → ReadsQuietly view old new
  reads_aside old new same tables = record {
    tables = tables;
    quiet = λ all honest. subst (λ s. IsQuiet (view (storage_of old.file.storage)) (view s)) (sym same) (quiet_none (view (storage_of old.file.storage)) honest);
  }

  pub reads_bytes : {T : Type 0} (old : Qcow2 S F) (storage : ImageStorage S) (result : Result T StorageError) → QuietCalls (view (storage_of old.file.storage)) (view (storage_of storage)) result
      → ContentsStay (view (storage_of old.file.storage)) (view (storage_of storage)) → ReadsQuietly view old (record old { file = record old.file { storage = storage } })
  reads_bytes old storage result calls same = record {
    tables = λ all. all;
    quiet = λ all honest. quiet_read (view (storage_of old.file.storage)) (view (storage_of storage)) result calls same honest;
  }

  -- a call that begins, does a part, and marks a failure
  pub reads_call : (old begun new last : Qcow2 S F) (flag : Bool) → IsBegun old begun → ReadsQuietly view begun new → last ≡ record new { is_failed = flag } → ReadsQuietly view old last
  reads_call old begun new last flag is reads rest =
      let first : ReadsQuietly view old begun = reads_aside old begun is.storage (λ all. subst AreAllWritten (sym is.caches) all) in
      written_then view (written_then view first reads) (reads_same new last (ap (λ (image : Qcow2 S F). image.file) rest))

  -- ---- lookups

  pub looks_none : (offset : ℕ) (image : Qcow2 S F) → LooksQuietly view offset image image
  looks_none offset image loads honest = quiet_none (view (storage_of image.file.storage)) honest

  pub only_none : (offset : ℕ) (image : Qcow2 S F) → OnlyLooks view offset image image
  only_none offset image = record { quiet = looks_none offset image; still = λ kind n is. is; data_file = refl }

  -- what follows a lookup writes nothing
  pub looks_then : (offset : ℕ) (old mid new : Qcow2 S F) → LooksQuietly view offset old mid → WritesNothing view mid.file.storage new.file.storage → LooksQuietly view offset old new
  looks_then offset old mid new looks rests loads honest =
      let one = looks loads honest in
      quiet_then (view (storage_of old.file.storage)) (view (storage_of mid.file.storage)) (view (storage_of new.file.storage)) one (rests one.honest)

  begun_loads : (offset : ℕ) (old begun : Qcow2 S F) → IsBegun old begun → LoadsQuietly old offset → LoadsQuietly begun offset
  begun_loads offset old begun is loads = subst (λ (i : Qcow2 S F). LoadsQuietly i offset) (sym is.rest)
      (⊎_elim (λ none. inl none) (λ gets. inr (subst (λ (k : MetadataCaches S). GetsTableQuietly k (own_table old offset)) (sym is.caches) gets)) loads)

  pub looks_begun : (offset : ℕ) (old begun new : Qcow2 S F) → IsBegun old begun → LooksQuietly view offset begun new → LooksQuietly view offset old new
  looks_begun offset old begun new is looks loads honest =
      subst (λ (s : S). IsQuiet (view s) (view (storage_of new.file.storage))) is.storage (looks (begun_loads offset old begun is loads) (subst (λ (s : S). (view s).is_honest) (sym is.storage) honest))

  pub looks_call : (offset : ℕ) (old begun new last : Qcow2 S F) (flag : Bool) → IsBegun old begun → LooksQuietly view offset begun new → last ≡ record new { is_failed = flag } → LooksQuietly view offset old last
  looks_call offset old begun new last flag is looks rest = subst (λ (i : Qcow2 S F). LooksQuietly view offset old i) (sym rest) (looks_begun offset old begun new is looks)

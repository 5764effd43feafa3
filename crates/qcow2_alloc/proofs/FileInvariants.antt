-- What makes the file of an image sound.
use Rattle.std.proofs.Common.{ℕ, Result, Ok, Err, IfErr}
use Rattle.qcow2_alloc.proofs.Common.{StorageView, Pending, AreNamedBlocks, AllFit, CachesHaveRoom, refblocks, err_of, FailsFor, HasPlace, ImageError, IsInUseOrFault, MayFailInsertingL2, MayFailLoadingL2, MetadataCaches, CacheInvariant, view_in, contents_in, FileInvariant, ImageFile}
use Rattle.qcow2_alloc.proofs.KeptTables.Causes.{named_fit, in_use_alone, l2_place}

module _ {S : Type 0} {view : S → StorageView} {p : Pending} {file : ImageFile S} where
  -- a file is sound by the facts that its invariant has
  abbrev pub file_invariant_of : (view_in view file).is_honest → CacheInvariant file.header.fields p file.caches (contents_in view file) → AreNamedBlocks file.header.fields (refblocks file.caches) (contents_in view file)
      → CachesHaveRoom file.caches → FileInvariant view p file
  file_invariant_of honest caches named_blocks room = record { honest = honest; caches = caches; named_blocks = named_blocks; room = room }

-- the cached tables of a sound file can be written
pub file_fits : {S : Type 0} (view : S → StorageView) (p : Pending) (file : ImageFile S) → FileInvariant view p file → AllFit file.caches
file_fits view p file sound = named_fit file.header.fields p file.caches (contents_in view file) sound.caches sound.named_blocks

-- so a table is loaded or inserted but for a fault, unless all are in use
module _ {S A : Type 0} (view : S → StorageView) (p : Pending) (file : ImageFile S) (sound : FileInvariant view p file) {before now : ℕ} (r : Result A ImageError) where
  pub file_loads : (caches : MetadataCaches S) (k : ℕ) → HasPlace file.header.fields.cluster_bits k → FailsFor before now (err_of r) (MayFailLoadingL2 file.caches caches k) → IfErr r (IsInUseOrFault file.caches)
  file_loads caches k here fails = by r fails where
    by : (r : Result A ImageError) → FailsFor before now (err_of r) (MayFailLoadingL2 file.caches caches k) → IfErr r (IsInUseOrFault file.caches)
    by (Ok x) fails = tt
    by (Err e) fails = in_use_alone file.caches e (λ full. full.0) (file_fits view p file sound, l2_place file.header.fields p file.caches (contents_in view file) sound.caches k here) fails.cause

  pub file_inserts : FailsFor before now (err_of r) (MayFailInsertingL2 file.caches) → IfErr r (IsInUseOrFault file.caches)
  file_inserts fails = by r fails where
    by : (r : Result A ImageError) → FailsFor before now (err_of r) (MayFailInsertingL2 file.caches) → IfErr r (IsInUseOrFault file.caches)
    by (Ok x) fails = tt
    by (Err e) fails = in_use_alone file.caches e (λ full. full) (file_fits view p file sound) fails.cause

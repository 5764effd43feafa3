-- Data are written to the image's own storage, past cluster 0.
use Rattle.std.proofs.Common.{◌≡◌, ◌≤◌, ◌^◌, ℕ, List, Result, ap, refl}
use Rattle.qcow2_image.proofs.Common.{Calls, Changes, ImageStep, ImageStorage, Qcow2, SameNotes, StorageError, StorageView, notes_of_storage, overwritten, storage_of, told_kept}
use Rattle.qcow2_alloc.specs.ImageStorage.{RecordsWrite}
use Rattle.qcow2_image.proofs.Call.BehindHeader.{behind_guard, behind_wrote}

-- the storage is told what kind of bytes come, and then they are written
pub own_written : {S F : Type 0} {view : S → StorageView} (old : Qcow2 S F) (told new : ImageStorage S) (result : Result (Unit {0}) StorageError) (at size : ℕ) (bytes : List ℕ) → storage_of told ≡ storage_of old.file.storage → SameNotes old.file.storage told
    → size ≡ 2 ^ old.file.header.fields.cluster_bits → size ≤ at → Changes (view (storage_of told)) (view (storage_of new)) result (λ b. overwritten b at bytes) → Calls (view (storage_of told)) (view (storage_of new)) result → RecordsWrite told new result
    → ImageStep view old (record old { file = record old.file { storage = new } })
own_written {view} old told new result at size bytes same notes is behind changes calls recorded = record {
  stays = record { image = record { number = refl; size = refl; writable = refl; lacks = refl; beside = refl }; failed = refl };
  notes = notes_of_storage (told_kept old.file.storage told new result same notes _ changes calls recorded);
  header_cluster = behind_wrote result at bytes (ap view same) (λ bits lies. behind_guard bits _ size at lies.header is behind) changes calls;
}

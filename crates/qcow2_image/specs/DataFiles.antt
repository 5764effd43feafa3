-- Calls that reach the data file of an image: those that leave its bytes the same, and those that resize it.
use Rattle.std.specs.Prelude.{◌≡◌, None, IfErr, IfSome, IsSomeAnd, List, Option, Result, Ok}
use Rattle.image_access.specs.Backing.{BackingView}
use Rattle.image_access.specs.Moments.{StorageView, ContentsStay}
use Rattle.qcow2_laws.specs.CrashInvariant.{Pending}
use Rattle.qcow2_alloc.specs.ImageError.{IsFault}
use Rattle.qcow2_alloc.specs.ImageFile.{view_in}
use Rattle.qcow2_alloc.specs.Quiet.{WritesNothing}
use Rattle.qcow2_alloc.specs.declared.error.ImageError.{ImageError}
use Rattle.qcow2_image.specs.Faults.{CountsImageFaults}
use Rattle.qcow2_image.specs.Image.{is_beside}
use Rattle.qcow2_image.specs.ImageInvariant.{ImageInvariant, Mappings}
use Rattle.qcow2_image.specs.ImageSteps.{ImageFails, ImageStep}
use Rattle.qcow2_image.specs.InternalSteps.{InternalStep}
use Rattle.qcow2_image.specs.declared.image.Qcow2.{Qcow2}
use Rattle.qcow2_image.specs.declared.prepared.Prepared.{Prepared}

module _ {S F : Type 0} (view : S → StorageView) (backing : F → BackingView) (old new : Qcow2 S F) where
  -- A call reaches the data file alone, if there is one, and its bytes stay the same. Each fault is counted and reported.
  pub record CallsBeside (result : Result (Unit {0}) ImageError) : Type 0 where
    pub none : old.data_file ≡ None → (result ≡ Ok tt) × (new ≡ old)
    pub rest : new ≡ record old { data_file = new.data_file }
    pub beside : is_beside new ≡ is_beside old
    pub same : IfSome old.data_file (λ was. IsSomeAnd new.data_file (λ now. ContentsStay (view was) (view now)))
    pub faults : CountsImageFaults view backing old new result
    pub cause : IfErr result IsFault

  -- Guests' data are read, from the data file or the image's own storage. Nothing is written, and all else in memory stays the same.
  pub record ReadsData : Type 0 where
    pub rest : new ≡ record old { file = record old.file { storage = new.file.storage }; data_file = new.data_file }
    pub keeps : (p : Pending) (out : Mappings) → ImageInvariant view backing p old out → InternalStep view backing p p old new out
    pub same : ContentsStay (view_in view old.file) (view_in view new.file)
    pub quiet : WritesNothing view old.file.storage new.file.storage

  -- A part of a call resizes the data file or leaves it the same, and all else in memory stays the same. Each fault is counted and reported, and a refusal has one of these causes.
  pub record DataFileStep (Refuses : ImageError → Type 0) (result : Result (Unit {0}) ImageError) : Type 0 where
    pub part : ImageStep view old new
    pub fails : ImageFails view backing old new result Refuses
    pub rest : new ≡ record old { file = record old.file { storage = new.file.storage }; data_file = new.data_file }

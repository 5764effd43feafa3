-- What a call, or a part of one, leaves unchanged whatever the image contains, and why it is refused.
use Rattle.std.specs.Prelude.{◌≡◌, Result, IfErr}
use Rattle.image_access.specs.Backing.{BackingView}
use Rattle.image_access.specs.Moments.{StorageView}
use Rattle.qcow2_alloc.specs.KeptMarks.{KeepsFileNotes}
use Rattle.qcow2_alloc.specs.declared.error.ImageError.{ImageError}
use Rattle.qcow2_image.specs.BehindHeader.{PreservesHeaderCluster}
use Rattle.qcow2_image.specs.Faults.{CountsImageFaults}
use Rattle.qcow2_image.specs.Image.{ImageStays, IsSameImage, KeepsWholeHeader}
use Rattle.qcow2_image.specs.Noted.{FailsOnceWritten}
use Rattle.qcow2_image.specs.Refusals.{IsUnlimited, MarksFailed}
use Rattle.qcow2_image.specs.Unwritten.{ReadsQuietly}
use Rattle.qcow2_image.specs.declared.image.Qcow2.{Qcow2}

module _ {S F : Type 0} (view : S → StorageView) where
  -- A part of a call: it is the same image, marked as failed if it was before. Changes are recorded as they are made, and the header's cluster stays the same.
  pub record ImageStep (old new : Qcow2 S F) : Type 0 where
    pub stays : ImageStays old new
    pub notes : KeepsFileNotes view old.file new.file
    pub header_cluster : PreservesHeaderCluster view old new

  -- A part of a call that leaves the header's cluster the same under a condition.
  pub record ImageStepWhere (premise : Type 0) (old new : Qcow2 S F) : Type 0 where
    pub stays : ImageStays old new
    pub notes : KeepsFileNotes view old.file new.file
    pub header_cluster : premise → PreservesHeaderCluster view old new

  -- A part that only reads: the header and the list of clusters to free stay the same, and nothing is written if no cached table is modified.
  pub record ReadingStep (old new : Qcow2 S F) : Type 0 where
    pub part : ImageStep old new
    pub header : new.file.header ≡ old.file.header
    pub list : new.file.free_list ≡ old.file.free_list
    pub quiet : ReadsQuietly view old new

  module _ (backing : F → BackingView) {T : Type 0} (old new : Qcow2 S F) (result : Result T ImageError) where
    -- Each fault is counted and reported. A refusal has one of these causes.
    pub record ImageFails (Refuses : ImageError → Type 0) : Type 0 where
      pub faults : CountsImageFaults view backing old new result
      pub cause : IfErr result Refuses

    -- Each fault is counted and reported. A refusal has one of these causes, and is not a limit.
    pub record FailsUnlimited (Refuses : ImageError → Type 0) : Type 0 where
      pub faults : CountsImageFaults view backing old new result
      pub cause : IfErr result Refuses
      pub limited : IfErr result IsUnlimited

    -- A call marks the image as failed by the rule: after an I/O error, or if memory ran out after a change. Each change and each fault is counted, and the header's cluster stays the same.
    pub record MarkedStep : Type 0 where
      pub marks : MarksFailed old new result
      pub once_written : FailsOnceWritten view old new result
      pub header_cluster : PreservesHeaderCluster view old new
      pub faults : CountsImageFaults view backing old new result

    -- A call that leaves the size of the disk the same, and marks the image as failed by the rule.
    pub record CallStep : Type 0 where
      pub image : IsSameImage old new
      pub marks : MarksFailed old new result
      pub once_written : FailsOnceWritten view old new result
      pub header_cluster : PreservesHeaderCluster view old new
      pub faults : CountsImageFaults view backing old new result

    -- A call that only reads: the header in memory stays the same, and nothing is written if no cached table is modified.
    pub record ReadingCall : Type 0 where
      pub image : IsSameImage old new
      pub header : KeepsWholeHeader old new
      pub marks : MarksFailed old new result
      pub once_written : FailsOnceWritten view old new result
      pub header_cluster : PreservesHeaderCluster view old new
      pub faults : CountsImageFaults view backing old new result
      pub quiet : ReadsQuietly view old new

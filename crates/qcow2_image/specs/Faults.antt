-- Counting I/O errors of an image's storage, of its backing disk and of its data file, in each call that reads or writes one of them.
use Rattle.std.specs.Prelude.{ℕ, ◌≡◌, ◌≢◌, ◌⊎◌, ◌≤◌, Option, Some, None, Result, Ok, Err, IfErr}
use Rattle.image_access.specs.Backing.{BackingView}
use Rattle.image_access.specs.Moments.{StorageView, Rose, UnlessErr}
use Rattle.qcow2_alloc.specs.declared.error.ImageError.{ImageError}
use Rattle.qcow2_alloc.specs.declared.error.ImageError.TheVariants.{Storage}
use Rattle.qcow2_alloc.specs.Faults.{faults_of}
use Rattle.qcow2_image.specs.declared.image.Qcow2.{Qcow2}
use Rattle.qcow2_image.specs.ImageInvariant.{faults_below}

-- A refusal that is not an I/O error.
abbrev pub IsNotOfStorage : ImageError → Type 0
IsNotOfStorage e = e ≢ Storage

-- How often the data file has failed.
abbrev pub faults_beside : {S : Type 0} → (S → StorageView) → Option S → ℕ
faults_beside view None = 0
faults_beside view (Some file) = (view file).faults

module _ {S F : Type 0} (view : S → StorageView) (backing : F → BackingView) where
  -- No number of faults falls.
  pub record NoFewerFaults (old new : Qcow2 S F) : Type 0 where
    pub storage : faults_of view old.file.storage ≤ faults_of view new.file.storage
    pub below : faults_below view backing old.backing ≤ faults_below view backing new.backing
    pub beside : faults_beside view old.data_file ≤ faults_beside view new.data_file

  -- All numbers of faults stay the same.
  pub record SameFaults (old new : Qcow2 S F) : Type 0 where
    pub storage : faults_of view new.file.storage ≡ faults_of view old.file.storage
    pub below : faults_below view backing new.backing ≡ faults_below view backing old.backing
    pub beside : faults_beside view new.data_file ≡ faults_beside view old.data_file

  -- One of the numbers rose, or is the greatest u64.
  abbrev pub OneRose : Qcow2 S F → Qcow2 S F → Type 0
  OneRose old new =
      Rose (faults_of view old.file.storage) (faults_of view new.file.storage)
      ⊎ (Rose (faults_below view backing old.backing) (faults_below view backing new.backing) ⊎ Rose (faults_beside view old.data_file) (faults_beside view new.data_file))

  -- A refusal with an I/O error comes only after a fault was counted.
  abbrev pub ReportsFault : Qcow2 S F → Qcow2 S F → ImageError → Type 0
  ReportsFault old new e = e ≡ Storage → OneRose old new

  -- Every fault is reported: unless a call is refused with an I/O error, all numbers stay the same.
  abbrev pub ReportsEach : {T : Type 0} → Qcow2 S F → Qcow2 S F → Result T ImageError → Type 0
  ReportsEach old new result = UnlessErr result Storage (SameFaults old new)

  -- Every fault is reported, where the error is wrapped in another type.
  abbrev pub ReportsEachBy : {T E : Type 0} → (E → ImageError) → Qcow2 S F → Qcow2 S F → Result T E → Type 0
  ReportsEachBy reason old new (Ok _) = SameFaults old new
  ReportsEachBy reason old new (Err e) = reason e ≢ Storage → SameFaults old new

  abbrev pub ReportsEachIn : Qcow2 S F → Qcow2 S F → Option ImageError → Type 0
  ReportsEachIn old new None = SameFaults old new
  ReportsEachIn old new (Some e) = e ≢ Storage → SameFaults old new

  -- A number of faults never falls. If a call is refused with an I/O error, one of them rose, or is the greatest u64. Otherwise all stay the same.
  pub record CountsImageFaults {T : Type 0} (old new : Qcow2 S F) (result : Result T ImageError) : Type 0 where
    pub no_fewer : NoFewerFaults old new
    pub rose : IfErr result (ReportsFault old new)
    pub told : ReportsEach old new result

-- When a command makes its image fail, and which changes it counts.
use Rattle.std.specs.Prelude.{◌≡◌, ◌≢◌, Bool, IsTrue, Option, Some, None, Result, Ok, Err, IfErr, OnOk}
use Rattle.image_access.specs.Moments.{StorageView}
use Rattle.qcow2_alloc.specs.declared.error.ImageError.{ImageError}
use Rattle.qcow2_alloc.specs.declared.error.ImageError.TheVariants.{Memory, Storage}
use Rattle.qcow2_image.specs.Image.{is_failed}
use Rattle.qcow2_image.specs.Noted.{CountsImageChanges, MarksOnceChanged}
use Rattle.qcow2_image.specs.declared.image.Qcow2.{Qcow2}
use Rattle.qcow2_session.specs.declared.session.Command.{Command}
use Rattle.qcow2_session.specs.declared.session.Command.TheVariants as C

-- An I/O error makes the image fail, a failed allocation may, and no other refusal does. A failed image stays failed.
abbrev pub FailsBy : Option ImageError → (before now : Bool) → Type 0
FailsBy (Some Storage) before now = IsTrue now
FailsBy (Some Memory) before now = IsTrue before → IsTrue now
FailsBy reason before now = now ≡ before

-- The refusal of a call, if it was refused.
abbrev pub reason_in : {A : Type 0} → Result A ImageError → Option ImageError
reason_in (Ok answer) = None
reason_in (Err e) = Some e

-- The last of several calls ran out of memory: it went from one image to another, and marked it exactly after a change of its own. The calls before it, and what came after it, marked nothing.
pub record LastCallMarks {S F : Type 0} (view : S → StorageView) (old new : Qcow2 S F) : Type 0 where
  pub from : Qcow2 S F
  pub to : Qcow2 S F
  pub before : CountsImageChanges view old from
  pub unmarked : is_failed from ≡ is_failed old
  pub marks : MarksOnceChanged view from to
  pub after : CountsImageChanges view to new
  pub marked : is_failed new ≡ is_failed to

module _ {S F : Type 0} (view : S → StorageView) (reason : Option ImageError) (old new : Qcow2 S F) where
  -- One call of the image, with this refusal. It counts its changes. An I/O error makes the image fail. If memory runs out, the image fails exactly after a change, and otherwise the contents are the same.
  pub record MarksAtOnce : Type 0 where
    pub fails : FailsBy reason (is_failed old) (is_failed new)
    pub counts : CountsImageChanges view old new
    pub memory : reason ≡ Some Memory → MarksOnceChanged view old new

  -- Several calls of the image. If the last one runs out of memory, the image fails exactly after a change in that call.
  pub record MarksInParts : Type 0 where
    pub fails : FailsBy reason (is_failed old) (is_failed new)
    pub counts : CountsImageChanges view old new
    pub memory : reason ≡ Some Memory → LastCallMarks view old new

module _ {S F : Type 0} (view : S → StorageView) (old new : Qcow2 S F) where
  -- What a command does to the mark: a read, a write and a fill are several calls, every other command is one.
  abbrev pub MarksBy : Command → Option ImageError → Type 0
  MarksBy (C.Read offset n) reason = MarksInParts view reason old new
  MarksBy (C.Write offset bytes) reason = MarksInParts view reason old new
  MarksBy (C.Fill offset n byte) reason = MarksInParts view reason old new
  MarksBy command reason = MarksAtOnce view reason old new

  -- A conversion is several calls of the image, and of a raw disk. A failed image stays failed. Otherwise only an I/O error makes it fail, or a failed allocation after a change in the same call.
  pub record MarksConversion {A : Type 0} (result : Result A ImageError) : Type 0 where
    pub answered : OnOk result (is_failed new ≡ is_failed old)
    pub works : IfErr result (λ e. e ≢ Memory → e ≢ Storage → is_failed new ≡ is_failed old)
    pub stays : IsTrue (is_failed old) → IsTrue (is_failed new)
    pub counts : CountsImageChanges view old new
    pub memory : result ≡ Err Memory → LastCallMarks view old new

-- What a run has done and printed, whatever its status is.
use Rattle.std.specs.Prelude.{◌≡◌, ◌⊎◌, ℕ, Bool, false, List, [], length, map, Vec, Option, Some, None, IfSome, Result, Ok, Err, is_ok, IfOk, OnOk}
use Rattle.std.specs.Fmt.{option_append}
use Rattle.std.specs.Global.{Global}
use Rattle.std.specs.Io.KnownBytes.{Appends}
use Rattle.std.specs.List.{list_any}
use Rattle.std.specs.declared.io.Error.{Error}
use Rattle.image_access.specs.Backing.{BackingView}
use Rattle.image_access.specs.Moments.{StorageView}
use Rattle.qcow2_alloc.specs.declared.error.ImageError.{ImageError}
use Rattle.qcow2_alloc.specs.declared.error.ImageError.TheVariants.{Memory}
use Rattle.qcow2_image.specs.declared.image.Qcow2.{Qcow2}
use Rattle.qcow2_image.specs.Calls.{FlushesImage}
use Rattle.qcow2_image.specs.Image.{storage_of_image}
use Rattle.qcow2_session.specs.Opening.{CountsSinceBefore, Headline, ReportsOfOpened}
use Rattle.qcow2_session.specs.declared.session.Command.{Command}
use Rattle.qcow2_session.specs.declared.session.Reply.{Reply}
use Rattle.qimg.specs.Lines.{order_of_command}
use Rattle.qimg.specs.Printed.{end_text, is_accepted, refusal_text, run_text, run_status}
use Rattle.qimg.specs.Printing.{is_refusal, text_of}
use Rattle.qimg.specs.Reading.{Asks, IsScriptOf, is_cut}
use Rattle.qimg.specs.declared.reading.ScriptEnd.{ScriptEnd}

-- The commands have one reply each, none of them a refusal, and the lines of the replies were printed.
pub record ArePrinted (count : ℕ) (replies : List Reply) (old new : Option (List ℕ)) : Type 0 where
  pub one_each : length replies ≡ count
  pub accepted : list_any is_refusal replies ≡ false
  pub printed : IfSome (text_of replies) (Appends old new)

module _ {S F : Type 0} (view : S → StorageView) (backing : F → BackingView) (start end : S) where
  -- The commands were run on an image that was opened from a storage, as the headline says, and it was flushed and closed. The replies of that run were printed.
  pub record HasRun (commands : List Command) (old new : Option (List ℕ)) : Type 0 where
    pub run : Qcow2 S F × Vec Reply Global
    pub headline : Headline view backing (view start) None commands (Ok run)
    pub answers : ArePrinted (length commands) run.1.items old new
    pub flushed : Qcow2 S F
    pub flush : FlushesImage view backing run.0 flushed (Ok tt)
    pub storage : end ≡ storage_of_image flushed

  -- Each line of a text, if it is known, is a command, and these were run.
  pub record HasRunText (text : Option (List ℕ)) (old new : Option (List ℕ)) : Type 0 where
    pub commands : List Command
    pub asks : IfSome text (λ text. Asks text (map order_of_command commands) [])
    pub ran : HasRun commands old new

  -- An image that was opened was flushed, with this result, and closed. If none was opened, its storage was returned.
  abbrev pub IsClosed : Result (Qcow2 S F × Vec Reply Global) (S × ImageError) → Result (Unit {0}) ImageError → Type 0
  IsClosed (Ok run) flush = (flushed : Qcow2 S F) × FlushesImage view backing run.0 flushed flush × (end ≡ storage_of_image flushed)
  IsClosed (Err refused) flush = end ≡ refused.0

  -- Whatever the status is, these commands were run: on an image that was opened from a storage, or on none, if opening was refused. It is refused with an I/O error only if one was counted.
  pub record EndsRun (commands : List Command) : Type 0 where
    pub run : Result (Qcow2 S F × Vec Reply Global) (S × ImageError)
    pub headline : Headline view backing (view start) None commands run
    pub told : ReportsOfOpened view backing (view start) None 1 commands run
    pub counts : CountsSinceBefore view backing (view start) None run
    pub flush : Result (Unit {0}) ImageError
    pub closed : IsClosed run flush

  -- The commands were run, and the result says whether nothing was refused. If the output took every write, the lines of that run were printed.
  pub record PrintsRun (commands : List Command) (answer : Result Bool Error) (old new : Option (List ℕ)) : Type 0 where
    pub ran : EndsRun commands
    pub accepted : IfOk answer (λ accepted. accepted ≡ is_accepted (length commands) ran.run ran.flush)
    pub text : OnOk answer (IfSome (run_text (length commands) ran.run ran.flush) (Appends old new))

  -- Whatever the status is, the commands in the lines of a text were run: all of them, or those before an unreadable line. If the output took every write and its flush, the lines of that run were printed, and one for the unreadable line. The status is that of the run.
  pub record EndsScript (text : Option (List ℕ)) (status : ℕ) (written : Result (Unit {0}) Error) (old new : Option (List ℕ)) : Type 0 where
    pub commands : List Command
    pub stop : ScriptEnd
    pub asks : IfSome text (λ text. IsScriptOf text (map order_of_command commands) stop)
    pub ran : EndsRun commands
    pub printed : OnOk written (IfSome (option_append (run_text (length commands) ran.run ran.flush) (Some (end_text (is_cut stop) (length commands)))) (Appends old new))
    pub status_is : status ≡ run_status (is_cut stop) (is_accepted (length commands) ran.run ran.flush) (is_ok written)

  -- The run ended as `EndsScript` says; or there was no memory for the commands, the storage is unchanged, and that was printed.
  abbrev pub EndsOrLeaves : Option (List ℕ) → ℕ → Result (Unit {0}) Error → Option (List ℕ) → Option (List ℕ) → Type 0
  EndsOrLeaves text status written old new = ((status ≡ 1) × (end ≡ start) × OnOk written (Appends old new (refusal_text Memory))) ⊎ EndsScript text status written old new

-- What a run has done and printed, from its parts.
use Rattle.std.proofs.Common.{◌≡◌, ℕ, Bool, true, false, not, ◌&&◌, List, [], ◌++◌, length, map, if◌then◌else◌, Option, Some, None, IfSome, Vec, Result, Ok, Err, is_ok, IsOk, IfOk, IfErr, OnOk, inl, inr, refl, sym, ap, ◌∙◌, subst, append-nil, eqb-true, arith}
use Rattle.std.specs.Fmt.{option_append}
use Rattle.std.specs.Global.{Global}
use Rattle.std.specs.Io.KnownBytes.{Appends, Keeps}
use Rattle.std.specs.List.{list_any}
use Rattle.std.specs.declared.io.Error.{Error}
use Rattle.image_access.specs.Backing.{BackingView}
use Rattle.image_access.specs.Moments.{StorageView}
use Rattle.qcow2_alloc.specs.declared.error.ImageError.{ImageError}
use Rattle.qcow2_image.specs.declared.image.Qcow2.{Qcow2}
use Rattle.qcow2_session.specs.Opening.{Headline}
use Rattle.qcow2_session.specs.declared.session.Command.{Command}
use Rattle.qcow2_session.specs.declared.session.Reply.{Reply}
use Rattle.qimg.proofs.Known.{appends_known, known_kept}
use Rattle.qimg.proofs.Scripts.{asked_all}
use Rattle.qimg.specs.Lines.{order_of_command}
use Rattle.qimg.specs.Printed.{are_accepted, end_text, is_accepted, replies_text, run_text, run_status}
use Rattle.qimg.specs.Printing.{is_refusal, text_of}
use Rattle.qimg.specs.Reading.{is_cut}
use Rattle.qimg.specs.Program.{ArePrinted, EndsOrLeaves, EndsScript, HasRun, HasRunText, IsClosed}

-- two texts were printed, one after the other, where the second writer's answer is that of the first or another
pub printed_both : (first : Option (List ℕ)) (second : List ℕ) (answered printed : Result Bool Error) (old mid new : Option (List ℕ)) → OnOk answered (IfSome first (Appends old mid)) → OnOk printed (IsOk answered) → OnOk printed (Appends mid new second) → OnOk printed (IfSome (option_append first (Some second)) (Appends old new))
printed_both first second answered (Err e) old mid new a is b = tt
printed_both first second (Err e) (Ok y) old mid new a is b = let never : false ≡ true = is in absurd cc
printed_both first second (Ok x) (Ok y) old mid new a is b = appends_known old mid new first (Some second) a b

-- nothing was refused before, nor by the flush
pub accepted_both : (before flushed : Bool) (answered printed : Result Bool Error) → IfOk answered (λ a. a ≡ before) → OnOk printed (IsOk answered) → IfOk printed (λ a. IfOk answered (λ b. a ≡ (flushed && b))) → IfOk printed (λ a. a ≡ (flushed && before))
accepted_both before flushed answered (Err e) is answers both = tt
accepted_both before flushed (Err e) (Ok y) is answers both = let never : false ≡ true = answers in absurd cc
accepted_both before flushed (Ok x) (Ok y) is answers both = both ∙ ap (λ b. flushed && b) is

-- what was printed is printed still once the output is flushed
pub printed_to_the_end : (first : Option (List ℕ)) (second : List ℕ) (answer ended last : Result Bool Error) (written : Result (Unit {0}) Error) (old mid late new : Option (List ℕ)) → OnOk answer (IfSome first (Appends old mid)) → IfOk ended (λ a. answer ≡ Ok a) → OnOk ended (Appends mid late second) → IfOk last (λ a. ended ≡ Ok a) → Keeps late new → (is_ok written ≡ true → is_ok last ≡ true) → OnOk written (IfSome (option_append first (Some second)) (Appends old new))
printed_to_the_end first second answer ended last (Err e) old mid late new a from_answer b from_ended keeps ok = tt
printed_to_the_end first second answer ended (Err e) (Ok done) old mid late new a from_answer b from_ended keeps ok = let never : false ≡ true = ok refl in absurd cc
printed_to_the_end first second answer (Err e) (Ok y) (Ok done) old mid late new a from_answer b from_ended keeps ok = let never : Err e ≡ Ok y = from_ended in absurd cc
printed_to_the_end first second (Err e) (Ok x) (Ok y) (Ok done) old mid late new a from_answer b from_ended keeps ok = let never : Err e ≡ Ok x = from_answer in absurd cc
printed_to_the_end first second (Ok w) (Ok x) (Ok y) (Ok done) old mid late new a from_answer b from_ended keeps ok = known_kept old late new (option_append first (Some second)) (appends_known old mid late first (Some second) a b) keeps

-- the status by the run's replies is the status by its result
pub status_told : (cut before : Bool) (status : ℕ) (answer ended last : Result Bool Error) (written : Result (Unit {0}) Error) → IfOk answer (λ a. a ≡ before) → IfOk ended (λ a. answer ≡ Ok a) → IfOk last (λ a. ended ≡ Ok a) → IfOk last (λ a. (written ≡ Ok tt) × (status ≡ run_status cut a true)) → IfErr last (λ e. (written ≡ Err e) × ((a : Bool) → status ≡ run_status cut a false)) → status ≡ run_status cut before (is_ok written)
status_told cut before status answer ended (Err e) written is from_answer from_ended done failed = failed.1 before ∙ ap (λ w. run_status cut before (is_ok w)) (sym failed.0)
status_told cut before status answer (Err e) (Ok y) written is from_answer from_ended done failed = let never : Err e ≡ Ok y = from_ended in absurd cc
status_told cut before status (Err e) (Ok x) (Ok y) written is from_answer from_ended done failed = let never : Err e ≡ Ok x = from_answer in absurd cc
status_told cut before status (Ok w) (Ok x) (Ok y) written is from_answer from_ended done failed =
    let first : w ≡ x = cc in
    let second : x ≡ y = cc in
    let same : y ≡ before = sym second ∙ sym first ∙ is in
    done.1 ∙ ap (λ a. run_status cut a true) same ∙ ap (λ v. run_status cut before (is_ok v)) (sym done.0)

pub written_told : (cut : Bool) (status : ℕ) (last : Result Bool Error) (written : Result (Unit {0}) Error) → IfErr last (λ e. (written ≡ Err e) × ((a : Bool) → status ≡ run_status cut a false)) → is_ok written ≡ true → is_ok last ≡ true
written_told cut status (Ok y) written failed ok = refl
written_told cut status (Err e) written failed ok = let never : false ≡ true = ap is_ok (sym failed.0) ∙ ok in absurd cc

-- status 0 is of a script that wasn't cut, was accepted and was written
pub status_zero : (cut accepted written : Bool) → run_status cut accepted written ≡ 0 → (cut ≡ false) × (accepted ≡ true) × (written ≡ true)
status_zero true accepted written is = absurd cc
status_zero false false written is = absurd cc
status_zero false true false is = absurd cc
status_zero false true true is = (refl, refl, refl)

accepted_lines : (same refused : Bool) (text : Option (List ℕ)) (other : List ℕ) (old new : Option (List ℕ)) → (same && not refused) ≡ true → IfSome (option_append (option_append (if same then text else Some other) (Some [])) (Some [])) (Appends old new) → (same ≡ true) × (refused ≡ false) × IfSome text (Appends old new)
accepted_lines false refused text other old new is printed = absurd cc
accepted_lines true true text other old new is printed = absurd cc
accepted_lines true false None other old new is printed = (refl, refl, tt)
accepted_lines true false (Some xs) other old new is printed =
    let whole : (xs ++ []) ++ [] ≡ xs = append-nil (xs ++ []) ∙ append-nil xs in
    (refl, refl, subst (Appends old new) whole printed)

accepted_replies : (count : ℕ) (replies : List Reply) (old new : Option (List ℕ)) → are_accepted count replies ≡ true → IfSome (option_append (option_append (replies_text count replies) (Some [])) (Some [])) (Appends old new) → ArePrinted count replies old new
accepted_replies count replies old new is printed =
    let lines = accepted_lines _ (list_any is_refusal replies) (text_of replies) _ old new is printed in
    record { one_each = eqb-true (length replies) count lines.0; accepted = lines.1; printed = lines.2 }

module _ {S F : Type 0} (view : S → StorageView) (backing : F → BackingView) (start end : S) where
  has_run : (commands : List Command) (run : Result (Qcow2 S F × Vec Reply Global) (S × ImageError)) (flush : Result (Unit {0}) ImageError) (old new : Option (List ℕ)) → Headline view backing (view start) None commands run → IsClosed view backing start end run flush → is_accepted (length commands) run flush ≡ true → IfSome (option_append (run_text (length commands) run flush) (Some [])) (Appends old new) → HasRun view backing start end commands old new
  has_run commands (Err refused) flush old new headline closed is printed = absurd cc
  has_run commands (Ok run) (Err e) old new headline closed is printed = absurd cc
  has_run commands (Ok run) (Ok done) old new headline closed is printed = record {
    run = run;
    headline = headline;
    answers = accepted_replies (length commands) run.1.items old new is printed;
    flushed = closed.0;
    flush = closed.1;
    storage = closed.2;
  }

  ended_script : (text : Option (List ℕ)) (status : ℕ) (written : Result (Unit {0}) Error) (old new : Option (List ℕ)) → EndsScript view backing start end text status written old new → status ≡ 0 → HasRunText view backing start end text old new
  ended_script text status (Err e) old new ends is =
      let zero : (is_cut ends.stop ≡ false) × (is_accepted (length ends.commands) ends.ran.run ends.ran.flush ≡ true) × (false ≡ true) = status_zero _ _ _ (sym ends.status_is ∙ is) in
      let never : false ≡ true = zero.2 in
      absurd cc
  ended_script text status (Ok done) old new ends is =
      let count = length ends.commands in
      let zero : (is_cut ends.stop ≡ false) × (is_accepted count ends.ran.run ends.ran.flush ≡ true) × (true ≡ true) = status_zero _ _ _ (sym ends.status_is ∙ is) in
      record {
        commands = ends.commands;
        asks = asked_all text (map order_of_command ends.commands) ends.stop ends.asks zero.0;
        ran = has_run ends.commands ends.ran.run ends.ran.flush old new ends.ran.headline ends.ran.closed zero.1 (subst (λ cut. IfSome (option_append (run_text count ends.ran.run ends.ran.flush) (Some (end_text cut count))) (Appends old new)) zero.0 ends.printed);
      }

  -- what a run that ended with 0 has done
  pub ended_well : (text : Option (List ℕ)) (status : ℕ) (written : Result (Unit {0}) Error) (old new : Option (List ℕ)) → EndsOrLeaves view backing start end text status written old new → status ≡ 0 → HasRunText view backing start end text old new
  ended_well text status written old new (inl left) is = absurd (omega (arith, left.0, is))
  ended_well text status written old new (inr ends) is = ended_script text status written old new ends is

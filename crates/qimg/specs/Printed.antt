-- The text that a run prints, and its exit status.
use Rattle.std.specs.Prelude.{ℕ, ◌+◌, ◌==◌, Bool, false, not, ◌&&◌, codes, List, [], ◌∷◌, ◌++◌, length, if◌then◌else◌, Vec, Option, Some, Result, Ok, Err, is_ok}
use Rattle.std.specs.Fmt.{decimal, option_append}
use Rattle.std.specs.Global.{Global}
use Rattle.std.specs.List.{list_any}
use Rattle.qcow2_alloc.specs.declared.error.ImageError.{ImageError}
use Rattle.qcow2_alloc.specs.declared.error.ImageError.TheVariants.{Memory}
use Rattle.qcow2_image.specs.declared.image.Qcow2.{Qcow2}
use Rattle.qcow2_session.specs.declared.session.Reply.{Reply}
use Rattle.program_parts.specs.Lines.{◌␣◌}
use Rattle.qimg.specs.Printing.{is_refusal, refusal_line, text_of}

-- The line of a refusal, with its line feed.
abbrev pub refusal_text : ImageError → List ℕ
refusal_text e = refusal_line e ++ 10 ∷ []

-- The lines of the replies to these commands. If they have not one reply each, there was no memory for the replies.
abbrev pub replies_text : ℕ → List Reply → Option (List ℕ)
replies_text count replies = if length replies == count then text_of replies else Some (refusal_text Memory)

-- A flush has a line only if it was refused.
abbrev pub flush_text : Result (Unit {0}) ImageError → List ℕ
flush_text (Ok done) = []
flush_text (Err e) = refusal_text e

-- The line for an unreadable line after these commands.
abbrev pub end_text : Bool → ℕ → List ℕ
end_text is_cut count = if is_cut then (codes "bad line" ␣ decimal (count + 1)) ++ 10 ∷ [] else []

-- Each of these commands has a reply, and none of them is a refusal.
abbrev pub are_accepted : ℕ → List Reply → Bool
are_accepted count replies = (length replies == count) && not (list_any is_refusal replies)

-- The status: 2 for an unreadable line; otherwise 0 if nothing was refused and everything was printed, and 1 if not.
abbrev pub run_status : Bool → Bool → Bool → ℕ
run_status is_cut accepted written = if is_cut then 2 else if accepted && written then 0 else 1

module _ {S F : Type 0} where
  -- What a run of these commands prints: the lines of its replies and of the flush after them, or why no image was opened.
  abbrev pub run_text : ℕ → Result (Qcow2 S F × Vec Reply Global) (S × ImageError) → Result (Unit {0}) ImageError → Option (List ℕ)
  run_text count (Ok run) flush = option_append (replies_text count run.1.items) (Some (flush_text flush))
  run_text count (Err refused) flush = Some (refusal_text refused.1)

  -- Whether nothing was refused: not the opening, no command, and not the flush.
  abbrev pub is_accepted : ℕ → Result (Qcow2 S F × Vec Reply Global) (S × ImageError) → Result (Unit {0}) ImageError → Bool
  is_accepted count (Ok run) flush = is_ok flush && are_accepted count run.1.items
  is_accepted count (Err refused) flush = false

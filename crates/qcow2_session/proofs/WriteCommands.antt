-- Commands that write: given bytes, or one byte over a range. And a write that was refused before any work.
use Rattle.qcow2_alloc.specs.declared.error.ImageError.TheVariants as I
use Rattle.qcow2_session.specs.declared.session.Command.TheVariants as C
use Rattle.qcow2_session.specs.declared.session.Reply.TheVariants as R
use Rattle.std.proofs.Common.{◌≡◌, ◌≢◌, ◌+◌, ◌∙◌, inl, inr, ℕ, List, Option, Some, None, Ok, Err, Result, refl, sym, ap, subst, arith, length, replicate}
use Rattle.qcow2_session.proofs.Common.{Global, Vec, IfSome, length-replicate, BackingView, StorageView, ImageError, IsUnderMappingIn, abstract_of, storage, behind_none, reads_none, refusal_of, taking_as, IsNotOfStorage, Qcow2, Mapping, Prepared, MayFailPreparing, refuses_to_prepare, HasNothingToDo, MayFailOnSound, MayFailWith, ReportsMisuse, first_cause, CommandMayFailAllocating, refusal_in, Writes, Command, Reply, MarksInParts, MarksBy, SlotsAfter, ReplyMatchesImage, ListsNoMore, command_of, mappings_in, write, done_as, refused_as, Mappings, in_image}
use Rattle.qcow2_session.specs.CallSteps.{AnswersCommand, WriteFails, WriteStep, WroteSoundly}
use Rattle.qcow2_session.specs.Causes.{StopsRightly, WriteMayFailAllocating}
use Rattle.qcow2_session.specs.Commands.{reply_of_write}
use Rattle.qcow2_session.specs.Sessions.{Finds}
use Rattle.qcow2_session.specs.declared.slots.Slots.{Slots}
use Rattle.qcow2_session.proofs.Answering.{not_both, write_error_is, writes_answer, write_refused_answer}
use Rattle.qcow2_session.proofs.Causing.{far_taking, if_some_to, is_done, is_refused, same_error, some_error}
use Rattle.qcow2_session.proofs.Chunks.{may_write_none}
use Rattle.qcow2_session.proofs.Converting.{does_nothing}
use Rattle.qcow2_session.proofs.Copied.{rightly_written}
use Rattle.qcow2_session.proofs.Marking.{at_rest, in_parts, unmarked}
use Rattle.qcow2_session.proofs.Told.{image_itself}
use Rattle.qcow2_session.proofs.Turns.{does_if, does_less, none_within, refuses_here}

module _ {S F : Type 0} (view : S → StorageView) (backing : F → BackingView) (old new : Qcow2 S F) (slots : Slots) where
  abbrev before : Mappings
  before = (in_image slots.prepared.items)

  abbrev found : ℕ → Option Mapping
  found = mappings_in slots.mappings.items

  -- what the definitions say of a command that writes these bytes
  pub record WritesGiven (command : Command) (offset : ℕ) (bytes : List ℕ) : Type 0 where
    pub means : command_of command ≡ write offset bytes
    pub cause : first_cause old command ≡ refuses_to_prepare old offset (length bytes)
    pub marks : (reason : Option ImageError) → MarksInParts view reason old new → MarksBy view old new command reason
    pub misuse : (reply : Reply) → (reply ≡ R.Misuse → ⊥) → ReportsMisuse before.slots found command reply
    pub may : (e : ImageError) → MayFailPreparing new e → MayFailWith old new before.slots found command e
    pub taking : (e : ImageError) → WriteMayFailAllocating view old new before offset (length bytes) e → CommandMayFailAllocating view old new before command e
    pub idle : HasNothingToDo view backing old new before command → length bytes ≡ 0
    pub respects : (reply : Reply) → (refusal_in reply ≡ Some I.TablePrepared → IsUnderMappingIn old.file.header.fields offset (offset + length bytes) before) × StopsRightly view backing old new before offset bytes reply → MayFailOnSound view backing old new before found command reply
    pub finds : (reply : Reply) → Finds slots slots command reply
    pub after : (reply : Reply) → SlotsAfter before.slots command reply before.slots
    pub freeing : ((abstract_of view backing old before).is_sound → ListsNoMore old new) → ReplyMatchesImage view backing old new before.slots before.slots command R.Done
    pub told : (e : ImageError) (n : ℕ) → ReplyMatchesImage view backing old new before.slots before.slots command (R.WriteRefused e n)

  pub given_bytes : (offset : ℕ) (bytes : Vec ℕ Global) → WritesGiven (C.Write offset bytes) offset bytes.items
  given_bytes offset bytes = record { means = refl; cause = refl; marks = λ _ m. m; misuse = λ _ never. (λ is. absurd (never is), λ is. absurd is); may = λ _ is. is; taking = λ _ is. is; idle = λ is. is; respects = λ _ h. h; finds = λ _ _. refl; after = λ _. refl; freeing = λ same. same; told = λ _ _. tt }

  pub given_byte : (offset n byte : ℕ) → WritesGiven (C.Fill offset n byte) offset (replicate n byte)
  given_byte offset n byte = let long : length (replicate n byte) ≡ n = length-replicate n byte in record { means = refl; cause = ap (refuses_to_prepare old offset) (sym long); marks = λ _ m. m; misuse = λ _ never. (λ is. absurd (never is), λ is. absurd is); may = λ _ is. is; taking = λ e. subst (λ k. WriteMayFailAllocating view old new before offset k e) long; idle = λ is. long ∙ is; respects = λ reply h. (subst (λ k. refusal_in reply ≡ Some I.TablePrepared → IsUnderMappingIn old.file.header.fields offset (offset + k) before) long h.0, h.1); finds = λ _ _. refl; after = λ _. refl; freeing = λ same. same; told = λ _ _. tt }

  module _ {command : Command} {offset : ℕ} {bytes : List ℕ} (is : WritesGiven command offset bytes) where
    writes_done : WriteStep view backing old new (Ok tt) → WriteFails view backing old new (Ok tt) offset (length bytes) → ((out : Mappings) → (abstract_of view backing old out).is_sound → WroteSoundly view backing old new (Ok tt) offset bytes out)
        → Writes view backing old new offset bytes (Ok tt) → AnswersCommand view backing old new slots slots command R.Done
    writes_done step fails sound sees = record {
      keeps = image_itself step.image;
      size = λ _. step.image.size;
      counts = record { no_fewer = step.faults.0; rose = tt; told = step.faults.2 };
      marks = is.marks None step.marks;
      header_cluster = λ _. step.header_cluster;
      slots = refl;
      steps = λ _ x s stands founds. done_as x _ _ s _ _ _ is.means stands (writes_answer view backing old before _ (λ e h. not_both h) offset bytes fails.early) (sees before) (λ f. f) (λ _ _. refl)
          (λ still. rightly_written view backing new before ((sees before).answer still).0 offset (length bytes) (λ some. ((sound before still).copied some).range));
      finds = is.finds R.Done;
      after = is.after R.Done;
      reports = is.freeing (λ still. (sound before still).freeing);
      causes = is_done view backing old new before command R.Done (λ is. absurd cc) (is.misuse R.Done (λ is. absurd cc)) refl (subst (λ o. IfSome o (λ e. ⊥)) (sym is.cause) (if_some_to (refuses_to_prepare old offset (length bytes)) (λ e no. not_both no) fails.early))
          (λ none still. is.respects R.Done (λ is. absurd cc, (sound before still).taken_part (sym is.cause ∙ none)));
      quiet = λ reading existing. record { reading = step.image.writable ∙ reading; quiet = step.quiet reading; existing = existing };
    }

    writes_stopped : (e : ImageError) (k : ℕ) → WriteStep view backing old new (Err (e, k)) → WriteFails view backing old new (Err (e, k)) offset (length bytes)
        → ((out : Mappings) → (abstract_of view backing old out).is_sound → WroteSoundly view backing old new (Err (e, k)) offset bytes out) → Writes view backing old new offset bytes (Err (e, k)) → AnswersCommand view backing old new slots slots command (R.WriteRefused e k)
    writes_stopped e k step fails sound sees = record {
      keeps = image_itself step.image;
      size = λ _. step.image.size;
      counts = record { no_fewer = step.faults.0; rose = step.faults.1; told = step.faults.2 };
      marks = is.marks (Some e) step.marks;
      header_cluster = λ _. step.header_cluster;
      slots = refl;
      steps = λ _ x s stands founds. refused_as x _ _ s _ _ _ _ is.means stands (write_refused_answer view backing old before _ offset bytes e k (λ h. write_error_is h) fails.early fails.within) (sees before) (λ f. f) (λ f. f) (λ _ _. refl) tt;
      finds = is.finds (R.WriteRefused e k);
      after = is.after (R.WriteRefused e k);
      reports = is.told e k;
      causes = is_refused view backing old new before command e (R.WriteRefused e k) (λ is. absurd cc) (is.misuse (R.WriteRefused e k) (λ is. absurd cc)) refl
          (subst (λ o. IfSome o (λ x. (e ≡ x) × (new ≡ old))) (sym is.cause) (if_some_to (refuses_to_prepare old offset (length bytes)) (λ x h. (let is = h.0 in let pair : (e, k) ≡ (x, 0) = same_error is in ap (λ (p : ImageError × ℕ). p.0) pair, h.1)) fails.early))
          (λ none. is.may e (fails.late (sym is.cause ∙ none)).0) (λ none still. is.taking e (taking_as (λ held. held) (λ kept. kept) (λ is. is) (λ far. tt) e ((sound before still).may_fail (sym is.cause ∙ none))))
          (λ none empty. let some = (fails.late (sym is.cause ∙ none)).1 in let zero = is.idle empty in omega (arith, some, zero))
          (λ none still. let w = sound before still in let free = sym is.cause ∙ none in is.respects (R.WriteRefused e k) (λ is. w.taken free (some_error is), (w.limit free, w.taken_part free, far_taking e (w.may_fail free))));
      quiet = λ reading existing. record { reading = step.image.writable ∙ reading; quiet = step.quiet reading; existing = existing };
    }

    pub writes_answered : (r : Result (Unit {0}) (ImageError × ℕ)) (reply : Reply) → reply ≡ reply_of_write r → WriteStep view backing old new r → WriteFails view backing old new r offset (length bytes)
        → ((out : Mappings) → (abstract_of view backing old out).is_sound → WroteSoundly view backing old new r offset bytes out) → Writes view backing old new offset bytes r → AnswersCommand view backing old new slots slots command reply
    writes_answered r reply it step fails sound sees = subst (λ q. AnswersCommand view backing old new slots slots command q) (sym it) (by r step fails sound sees)
      where
        by : (r : Result (Unit {0}) (ImageError × ℕ)) → WriteStep view backing old new r → WriteFails view backing old new r offset (length bytes) → ((out : Mappings) → (abstract_of view backing old out).is_sound → WroteSoundly view backing old new r offset bytes out)
            → Writes view backing old new offset bytes r → AnswersCommand view backing old new slots slots command (reply_of_write r)
        by (Ok done) step fails sound sees = writes_done step fails sound sees
        by (Err (e, k)) step fails sound sees = writes_stopped e k step fails sound sees

-- the bytes of a fill are as many as it was asked for
pub fill_fails : {S F : Type 0} (view : S → StorageView) (backing : F → BackingView) (old new : Qcow2 S F) (r : Result (Unit {0}) (ImageError × ℕ)) (offset n byte : ℕ) → WriteFails view backing old new r offset n → WriteFails view backing old new r offset (length (replicate n byte))
fill_fails view backing old new r offset n byte fails = subst (λ k. WriteFails view backing old new r offset k) (sym (length-replicate n byte)) fails

-- ---- a write that was refused before any work

not_storage : (e : ImageError) → e ≢ I.Storage → refusal_of e ≡ storage → ⊥
not_storage I.Storage never is = never refl
not_storage e never is = cc

pub memory_never : {e : ImageError} → e ≡ I.Memory → IsNotOfStorage e
memory_never lacks is = let no : I.Memory ≡ I.Storage = sym lacks ∙ is in cc

module _ {S F : Type 0} (view : S → StorageView) (backing : F → BackingView) (image : Qcow2 S F) (e : ImageError) (never : IsNotOfStorage e) where
  pub unwritten_step : WriteStep view backing image image (Err (e, 0))
  unwritten_step = record { image = record { number = refl; size = refl; writable = refl; lacks = refl; beside = refl }; faults = (record { storage = omega arith; below = omega arith; beside = omega arith }, λ is. absurd (never is), λ _. record { storage = refl; below = refl; beside = refl }); header_cluster = behind_none; marks = in_parts view (at_rest view (Some e) image (unmarked e _ _ never refl)); quiet = λ _. reads_none view image }

  pub unwritten_sees : (offset : ℕ) (bytes : List ℕ) → Writes view backing image image offset bytes (Err (e, 0))
  unwritten_sees offset bytes = λ out. let v = abstract_of view backing image out in refuses_here (refusal_of e) (not_storage e never) (does_if (λ same. may_write_none (refusal_of e) _ _ offset bytes same) (does_less (none_within v _) (does_nothing v)))

  -- on a sound image, only for want of memory
  pub unwritten_soundly : (offset : ℕ) (bytes : List ℕ) (out : Mappings) → (refuses_to_prepare image offset (length bytes) ≡ None → e ≡ I.Memory) → WroteSoundly view backing image image (Err (e, 0)) offset bytes out
  unwritten_soundly offset bytes out lacks = record { may_fail = λ none. inl (inl (inl (inr (lacks none)))); taken = λ none is. absurd (let no : I.Memory ≡ I.TablePrepared = sym (lacks none) ∙ is in cc); taken_part = λ none. (λ is. absurd (let no : I.Memory ≡ I.TablePrepared = sym (lacks none) ∙ is in cc), λ i lt. absurd (omega (arith, lt))); limit = λ none is. absurd (let no : I.Memory ≡ I.Limit = sym (lacks none) ∙ is in cc); ends = λ some. absurd (omega (arith, some)); freeing = tt; copied = λ _. tt }

-- The lookups at the start of a run of an image that was just opened.
use Rattle.std.proofs.Common.{◌≡◌, ◌∷◌, inl, inr, List, [], Bool, false, sym, ap, ◌∙◌, subst, ℕ, map}
use Rattle.qcow2_session.proofs.Common.{BackingView, StorageView, Bytes, Kind, IsFoundIn, Setting, State, CommandStep, get_mapping, mapping_is, known_in, found_kind, command_of, reply_of, LooksUp, RunPoint, StepsAlong}
use Rattle.qcow2_disk.specs.Runs.{Command}
use Rattle.qcow2_session.specs.declared.session.Command.{Command as SessionCommand}
use Rattle.qcow2_session.specs.declared.session.Command.TheVariants as C
use Rattle.qcow2_session.specs.declared.session.Reply.{Reply as SessionReply}
use Rattle.qcow2_session.specs.declared.session.Reply.TheVariants as R

none_looked : (b : Bytes) (is_backed : Bool) (commands : List Command) → LooksUp b is_backed commands []
none_looked b is_backed [] = tt
none_looked b is_backed (get_mapping place offset max ∷ commands) = tt
none_looked b is_backed (command ∷ commands) = tt

-- without replies nothing is said
pub none_said : (b : Bytes) (is_backed : Bool) (commands : List Command) (replies : List SessionReply) → replies ≡ [] → LooksUp b is_backed commands (map reply_of replies)
none_said b is_backed commands replies none = subst (λ (l : List SessionReply). LooksUp b is_backed commands (map reply_of l)) (sym none) (none_looked b is_backed commands)

-- a lookup that was answered doesn't fail a run
still_works : (x : Setting) (s t : State) (place offset max : ℕ) (from : ℕ) (kind : Kind) (n : ℕ) → CommandStep x s (get_mapping place offset max) (mapping_is from kind n) t → s.is_failed ≡ false → t.is_failed ≡ false
still_works x s t place offset max from kind n (inl (failed, answer, same)) ok = ap (λ (u : State). u.is_failed) same ∙ ok
still_works x s t place offset max from kind n (inr (inl (works, may, answered, (guest, means, is)))) ok = ap (λ (u : State). u.is_failed) is
still_works x s t place offset max from kind n (inr (inr (works, may, fault, is))) ok = absurd fault

module _ {S F : Type 0} (view : S → StorageView) (backing : F → BackingView) (x : Setting) (b : Bytes) where
  pub looked_up : (first : RunPoint S F) (s end : State) (commands : List SessionCommand) (replies : List SessionReply) (points : List (RunPoint S F)) → StepsAlong view backing x first s commands replies points end
      → s.is_failed ≡ false → known_in view first.image.file ≡ b → LooksUp b x.is_backed (map command_of commands) (map reply_of replies)
  looked_up first s end (C.GetMapping slot offset max ∷ commands) (R.Mapping m ∷ replies) (next ∷ points) steps ok same =
      let works = still_works x s steps.0.end slot offset max m.offset (found_kind m.kind) m.length steps.0.step ok in
      let finds = steps.0.interval.told works in
      let known : known_in view next.image.file ≡ b = finds.1 ∙ same in
      (subst (λ (k : Bytes). IsFoundIn k x.is_backed offset max (found_kind m.kind) m.length) known finds.0, looked_up next steps.0.end end commands replies points steps.1 works known)
  looked_up first s end (C.GetMapping slot offset max ∷ commands) (R.Mapping m ∷ replies) [] steps ok same = absurd steps
  looked_up first s end commands replies points steps ok same = tt

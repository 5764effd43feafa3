-- What a run reports about its image, one command after another.
use Rattle.std.proofs.Common.{◌≡◌, ◌∷◌, ◌++◌, ℕ, map, List, [], false, refl, sym, ap, ◌∙◌, subst, Option, Some, None, replicate, Ok, Err}
use Rattle.qcow2_session.proofs.Common.{fun_ext, IfSome, BackingView, StorageView, Setting, Found, State, RefinesState, RefinesCommand, HasNoInvalidation, KeepsUnflushed, begun, Qcow2, Mapping, Prepared, IsSameImage, is_beside, lacks_data_file, is_writable, number_of, abstract_of, image_abstraction, free_places, command_of, reply_of, mappings_in, range_of, AreReportedAlong, IsReportedStep, KeepsItself, RunPoint, StepsAlong, abstract_at, first_point, free_slots, Command, Reply, in_image}
use Rattle.qcow2_session.proofs.Meanings.{step_found, found_same, ranges_after}
use Rattle.qcow2_session.proofs.Runs.{free_stands, none_found, none_mapped}
use Rattle.qcow2_image.specs.declared.mapping.Place.TheVariants.{Image}

-- what was answered wasn't refused early
pub none_refused : {A E : Type 0} (X : Type 0) (o : Option E) (a : A) → IfSome o (λ e. (Ok a ≡ Err e) × X) → o ≡ None
none_refused X None a early = refl
none_refused X (Some e) a early = absurd (let no : Ok a ≡ Err e = early.0 in cc)

-- ---- an image keeps itself

pub same_itself : {S F : Type 0} {old new : Qcow2 S F} → new ≡ old → KeepsItself old new
same_itself same = record { number = ap number_of same; writable = ap is_writable same; lacks = ap lacks_data_file same; beside = ap is_beside same }

pub image_itself : {S F : Type 0} {old new : Qcow2 S F} → IsSameImage old new → KeepsItself old new
image_itself same = record { number = same.number; writable = same.writable; lacks = same.lacks; beside = same.beside }

pub itself_then : {S F : Type 0} {old mid new : Qcow2 S F} → KeepsItself old mid → KeepsItself mid new → KeepsItself old new
itself_then first second = record { number = second.number ∙ first.number; writable = second.writable ∙ first.writable; lacks = second.lacks ∙ first.lacks; beside = second.beside ∙ first.beside }

-- a list of commands without an invalidation, up to its last one
pub none_before : (commands : List Command) (command : Command) → HasNoInvalidation (map command_of (commands ++ command ∷ [])) → HasNoInvalidation (map command_of commands) × KeepsUnflushed (command_of command)
none_before [] command none = (tt, none.0)
none_before (c ∷ commands) command none = let rest = none_before commands command none.1 in ((none.0, rest.0), rest.1)

-- ---- a run so far

module _ {S F : Type 0} (view : S → StorageView) (backing : F → BackingView) where
  -- one command more
  told_push : (first : RunPoint S F) (commands : List Command) (replies : List Reply) (points : List (RunPoint S F)) (last : RunPoint S F) (command : Command) (reply : Reply) (next : RunPoint S F)
      → AreReportedAlong view backing first commands replies points last → IsReportedStep view backing last next command reply → AreReportedAlong view backing first (commands ++ command ∷ []) (replies ++ reply ∷ []) (points ++ next ∷ []) next
  told_push first [] [] [] last command reply next same step = (subst (λ (p : RunPoint S F). IsReportedStep view backing p next command reply) same step, refl)
  told_push first (c ∷ commands) (r ∷ replies) (p ∷ points) last command reply next along step = (along.0, told_push p commands replies points last command reply next along.1 step)
  told_push first [] [] (p ∷ points) last command reply next along step = absurd along
  told_push first [] (r ∷ replies) points last command reply next along step = absurd along
  told_push first (c ∷ commands) [] points last command reply next along step = absurd along
  told_push first (c ∷ commands) (r ∷ replies) [] last command reply next along step = absurd along

  steps_push : (x : Setting) (first : RunPoint S F) (s : State) (commands : List Command) (replies : List Reply) (points : List (RunPoint S F)) (last : RunPoint S F) (t : State) (command : Command) (reply : Reply) (next : RunPoint S F)
      → AreReportedAlong view backing first commands replies points last → StepsAlong view backing x first s commands replies points t
      → (step : RefinesCommand x (abstract_at view backing last) (abstract_at view backing next) t (command_of command) (reply_of reply))
      → StepsAlong view backing x first s (commands ++ command ∷ []) (replies ++ reply ∷ []) (points ++ next ∷ []) step.end
  steps_push x first s [] [] [] last t command reply next along same step =
      subst (λ (p : RunPoint S F). StepsAlong view backing x p s (command ∷ []) (reply ∷ []) (next ∷ []) step.end) along
      (subst (λ (r : State). StepsAlong view backing x last r (command ∷ []) (reply ∷ []) (next ∷ []) step.end) same (step, refl))
  steps_push x first s (c ∷ commands) (r ∷ replies) (p ∷ points) last t command reply next along steps step = (steps.0, steps_push x p steps.0.end commands replies points last t command reply next along.1 steps.1 step)
  steps_push x first s [] [] (p ∷ points) last t command reply next along steps step = absurd along
  steps_push x first s [] (r ∷ replies) points last t command reply next along steps step = absurd along
  steps_push x first s (c ∷ commands) [] points last t command reply next along steps step = absurd along
  steps_push x first s (c ∷ commands) (r ∷ replies) [] last t command reply next along steps step = absurd along

  -- the steps so far, and the state of the run at the last point
  pub record StepsSoFar (x : Setting) (first last : RunPoint S F) (s : State) (commands : List Command) (replies : List Reply) (points : List (RunPoint S F)) : Type 0 where
    pub end : State
    pub steps : StepsAlong view backing x first s commands replies points end
    pub stands : RefinesState x (abstract_at view backing last) end
    pub found : end.is_failed ≡ false → (k : ℕ) → end.found k ≡ range_of (last.found k)

  -- what was reported so far
  pub record IsToldSoFar (old : Qcow2 S F) (last : RunPoint S F) (commands : List Command) (replies : List Reply) : Type 0 where
    pub points : List (RunPoint S F)
    pub along : AreReportedAlong view backing (first_point old) commands replies points last
    pub so_far : HasNoInvalidation (map command_of commands) → (x : Setting) (s : State) → RefinesState x (abstract_of view backing old (in_image [])) s → StepsSoFar x (first_point old) last (begun s) commands replies points

  pub first_told : (image : Qcow2 S F) (out : List (Option Prepared)) (mappings : List (Option Mapping)) (replies : List Reply) → out ≡ free_slots → mappings ≡ replicate 256 None → replies ≡ []
      → IsToldSoFar image (record { image = image; prepared = out; found = mappings_in mappings }) [] replies
  first_told image out mappings replies none nothing unanswered =
      subst (λ (o : List (Option Prepared)). IsToldSoFar image (record { image = image; prepared = o; found = mappings_in mappings }) [] replies) (sym none)
      (subst (λ (m : List (Option Mapping)). IsToldSoFar image (record { image = image; prepared = free_slots; found = mappings_in m }) [] replies) (sym nothing)
      (subst (λ (r : List Reply). IsToldSoFar image (record { image = image; prepared = free_slots; found = mappings_in (replicate 256 None) }) [] r) (sym unanswered)
      (record {
        points = [];
        along = ap (λ (f : ℕ → Option Mapping). record { image = image; prepared = free_slots; found = f }) (fun_ext (λ k. sym (none_mapped 256 k)));
        so_far = λ none x s stands. record {
          end = begun s;
          steps = refl;
          stands = free_stands (image_abstraction view backing) (free_places view backing Image) image 256 x s stands;
          found = λ ok k. none_found 256 k;
        };
      })))

  pub told_more : (old : Qcow2 S F) (last next : RunPoint S F) (commands : List Command) (replies : List Reply) (command : Command) (reply : Reply) → IsToldSoFar old last commands replies → IsReportedStep view backing last next command reply
      → (KeepsUnflushed (command_of command) → (x : Setting) (s : State) → RefinesState x (abstract_at view backing last) s → (s.is_failed ≡ false → (k : ℕ) → s.found k ≡ range_of (last.found k)) → RefinesCommand x (abstract_at view backing last) (abstract_at view backing next) s (command_of command) (reply_of reply))
      → IsToldSoFar old next (commands ++ command ∷ []) (replies ++ reply ∷ [])
  told_more old last next commands replies command reply told step command_step = record {
    points = told.points ++ next ∷ [];
    along = told_push (first_point old) commands replies told.points last command reply next told.along step;
    so_far = λ none x s stands.
        let parts = none_before commands command none in
        let before = told.so_far parts.0 x s stands in
        let now = command_step parts.1 x before.end before.stands before.found in record {
          end = now.end;
          steps = steps_push x (first_point old) (begun s) commands replies told.points last before.end command reply next told.along before.steps now;
          stands = now.stands;
          found = λ ok k.
              let so = step_found x before.end now.end (command_of command) (reply_of reply) now.step ok in
              ap (λ (f : ℕ → Option Found). f k) so.1 ∙ found_same before.end.found (λ j. range_of (last.found j)) (command_of command) (reply_of reply) (before.found so.0) k ∙ sym (ap range_of (step.finds k) ∙ ranges_after last.found command reply k);
        };
  }

-- A run of commands on an image with as many empty places as there are slots.
use Rattle.std.proofs.Common.{◌≡◌, ◌+◌, ◌∷◌, ◌++◌, ℕ, zero, suc, List, [], false, refl, sym, ap, ◌∙◌, subst, Option, None, take, map, replicate}
use Rattle.qcow2_session.proofs.Common.{map-append, Setting, Abstraction, HasFreePlaces, abstract_image, Found, State, RefinesState, CommandStep, RefinesCommand, Run, RefinesRun, begun, found_after, ran_none, ran_more, Mapping, found_in, mappings_in}
use Rattle.qcow2_disk.specs.Runs.{Command, Reply}
use Rattle.qcow2_session.proofs.Meanings.{step_found, found_same}
use Rattle.qcow2_session.proofs.Places.{guest_none, sound_none}

run_last : (x : Setting) (s : State) (commands : List Command) (replies : List Reply) (command : Command) (reply : Reply) (end : State)
    → Run x s (commands ++ command ∷ []) (replies ++ reply ∷ []) end → (mid : State) × Run x s commands replies mid × CommandStep x mid command reply end
run_last x s [] [] command reply end run = (s, refl, subst (λ t. CommandStep x s command reply t) (sym run.2) run.1)
run_last x s (c ∷ commands) (r ∷ replies) command reply end run = let rest = run_last x run.0 commands replies command reply end run.2 in (rest.0, (run.0, run.1, rest.1), rest.2)
run_last x s [] (r ∷ []) command reply end run = absurd run.2
run_last x s [] (r ∷ (q ∷ replies)) command reply end run = absurd run.2
run_last x s (c ∷ []) [] command reply end run = absurd run.2
run_last x s (c ∷ (d ∷ commands)) [] command reply end run = absurd run.2

module _ {D P : Type 0} (spec : Abstraction D P) where
  -- a run so far, with what was found so far
  pub record GoesOn (x : Setting) (old : D) (before : List (Option P)) (new : D) (out : List (Option P)) (s : State) (commands : List Command) (replies : List Reply) (mappings : List (Option Mapping)) : Type 0 where
    pub ran : RefinesRun spec x old before new out s commands replies
    pub found : (end : State) → Run x s commands replies end → end.is_failed ≡ false → (k : ℕ) → end.found k ≡ found_in mappings k

pub none_found : (n k : ℕ) → None ≡ found_in (replicate n None) k
none_found zero k = refl
none_found (suc n) zero = refl
none_found (suc n) (suc k) = none_found n k

pub none_mapped : (n k : ℕ) → None ≡ mappings_in (replicate n None) k
none_mapped zero k = refl
none_mapped (suc n) zero = refl
none_mapped (suc n) (suc k) = none_mapped n k

module _ {D P : Type 0} (spec : Abstraction D P) where
  -- an image is at the same point of the run, with empty slots
  pub free_stands : HasFreePlaces spec → (d : D) (n : ℕ) (x : Setting) (s : State) → RefinesState x (abstract_image spec d []) s → RefinesState x (abstract_image spec d (replicate n None)) (begun s)
  free_stands has d n x s stands = record {
    setting = stands.setting;
    works = λ ok. sound_none spec has d n (stands.works ok);
    failed = stands.failed;
    guest = λ ok. sym (guest_none spec has d n) ∙ stands.guest ok;
    known = stands.known;
    contents = stands.contents;
    at_rest = stands.at_rest;
  }

  -- nothing was answered yet
  pub first_of_all : HasFreePlaces spec → (d : D) (n : ℕ) (x : Setting) (s : State) (out : List (Option P)) (mappings : List (Option Mapping)) (replies : List Reply)
      → out ≡ replicate n None → mappings ≡ replicate n None → replies ≡ []
      → RefinesState x (abstract_image spec d []) s → GoesOn spec x d (replicate n None) d out (begun s) [] replies mappings
  first_of_all has d n x s out mappings replies none nothing unanswered stands =
      let free : List (Option P) = replicate n None in
      subst (λ (o : List (Option P)). GoesOn spec x d free d o (begun s) [] replies mappings) (sym none)
      (subst (λ (m : List (Option Mapping)). GoesOn spec x d free d free (begun s) [] replies m) (sym nothing)
      (subst (λ (r : List Reply). GoesOn spec x d free d free (begun s) [] r (replicate n None)) (sym unanswered)
      (record {
        ran = ran_none spec x d free (begun s) (free_stands has d n x s stands);
        found = λ end same ok k. ap (λ (t : State). t.found k) same ∙ none_found n k;
      })))

  -- one command more
  pub command_step_on : (x : Setting) (old mid new : D) (before out out' : List (Option P)) (s : State) (commands : List Command) (replies : List Reply) (mappings mappings' : List (Option Mapping)) (command : Command) (reply : Reply)
      → GoesOn spec x old before mid out s commands replies mappings
      → ((s' : State) → RefinesState x (abstract_image spec mid out) s' → (s'.is_failed ≡ false → (k : ℕ) → s'.found k ≡ found_in mappings k) → RefinesCommand x (abstract_image spec mid out) (abstract_image spec new out') s' command reply)
      → ((k : ℕ) → found_in mappings' k ≡ found_after (found_in mappings) command reply k)
      → GoesOn spec x old before new out' s (commands ++ command ∷ []) (replies ++ reply ∷ []) mappings'
  command_step_on x old mid new before out out' s commands replies mappings mappings' command reply so_far steps finds =
      record {
        ran = ran_more spec x old mid new before out out' s commands replies command reply so_far.ran (steps so_far.ran.end so_far.ran.stands (so_far.found so_far.ran.end so_far.ran.run));
        found = λ end run ok k.
            let last = run_last x s commands replies command reply end run in
            let so = step_found x last.0 end command reply last.2 ok in
            ap (λ (f : ℕ → Option Found). f k) so.1 ∙ found_same last.0.found (found_in mappings) command reply (so_far.found last.0 last.1 so.0) k ∙ sym (finds k);
      }

-- the items up to the next
pub map_more : {X Y : Type 0} (f : X → Y) (xs : List X) (i : ℕ) (item : X) → take (i + 1) xs ≡ take i xs ++ item ∷ [] → map f (take (i + 1) xs) ≡ map f (take i xs) ++ f item ∷ []
map_more f xs i item e = ap (map f) e ∙ map-append f (take i xs) (item ∷ [])

-- One call is one step of a run.
use Rattle.std.proofs.Common.{arith, ◌≡◌, ◌⊎◌, ◌∷◌, ◌++◌, ⊎_elim, inl, inr, ℕ, List, [], Bool, true, false, IsTrue, refl, sym, ap, ◌∙◌, subst, Option, None}
use Rattle.qcow2_disk.proofs.Common.{fun_ext, EachMomentSince, passes_none, passes_if, passes_more, passes_on, Bytes, byte_at, Value, Disk, KeepsHeaderRest, GivenBytes, IsGiven, Checkpoint, checkpoint_at, checkpoint_with, StopOkEverywhere, StopOk, LeavesKept, LeavesOk, PreparedMapping, Setting, Guest, Abstraction, AbstractImage, abstract_image, guest_of, stored_bytes, IsWhole, Refusal, storage, CallEffect, AnsweredEffect, RefusedEffect, IsRefusalByFault, EffectOnSound, EffectOnFailed, Stops, Command, Reply, Found, CommandMeaning, IsFaultReply, IsStorageReply, MayAnswer, IsAnswerOfFailed, ReplyMatches, ResizesLast, State, CommandStep, Run, IsSafeWhile, RefinesGuest, RefinesAlong, IsStopIn, RefinesState, RefinesCommand, RefinesRun, RefinesWholeRun, RefinesDisk, IsOwnInterval, started, checkpoint_during, checkpoint_after, stepped, given_by, asked_by, flush, shrink, done, number_is}
use Rattle.image_access.proofs.EachMomentSince.{since_start as since_began}
use Rattle.qcow2_disk.specs.UngivenCovers.{UngivenStay}
use Rattle.qcow2_disk.proofs.Compose.{TouchesLess, works_less, stops_none, rests_none}
use Rattle.qcow2_disk.proofs.Stops.{stop_of_kept, stop_more}

bool_cases : (b : Bool) → (b ≡ true) ⊎ (b ≡ false)
bool_cases true = inl refl
bool_cases false = inr refl

-- how a call ends on an image that worked
pub record Ends (found : ℕ → Option Found) (old new : AbstractImage) (command : Command) (reply : Reply) : Type 0 where
  pub ends : (new.is_sound × CommandMeaning old.setting found (guest_of old) command reply (guest_of new) × (¬ IsStorageReply reply)) ⊎ (IsFaultReply reply × IsTrue new.is_failed)
  pub finds : new.is_sound → ReplyMatches new.setting old.known new command reply
  pub checkpoint : (x : Setting) (s : State) → RefinesState x old s → s.is_failed ≡ false → new.is_sound → (checkpoint_after x s command reply (guest_of new) ≡ checkpoint_during x s command)
      ⊎ (StopOkEverywhere new.setting.backing (checkpoint_after x s command reply (guest_of new)) new.known × LeavesKept new.setting.backing (checkpoint_after x s command reply (guest_of new)) new.storage)

-- what a command may be answered, on an image that failed and on one that works, and how a resize passes
pub record IsAnswer (old new : AbstractImage) (command : Command) (reply : Reply) : Type 0 where
  pub sized : old.is_sound → ResizesLast (guest_of old).disk.size old.storage new.storage command
  pub failed : IsTrue old.is_failed → IsAnswerOfFailed command reply
  pub may : old.is_sound → MayAnswer (guest_of old).disk command reply

-- a fault isn't an answer
mark_of_fault : (x : Setting) (s : State) (command : Command) (reply : Reply) (new : Guest) → IsFaultReply reply → checkpoint_after x s command reply new ≡ checkpoint_during x s command
mark_of_fault x s flush done new fault = absurd fault
mark_of_fault x s (shrink size) (number_is answer) new fault = absurd fault
mark_of_fault x s command reply new fault = refl

module _ (x : Setting) (old new : AbstractImage) (s : State) (command : Command) (reply : Reply) (stands : RefinesState x old s) where
  rested : IsTrue s.is_failed → IsAnswerOfFailed command reply → EffectOnFailed old new → RefinesCommand x old new s command reply
  rested failed answer rests = grind arith

  module _ (ok : s.is_failed ≡ false) (may : MayAnswer s.guest.disk command reply) (sized : ResizesLast s.guest.disk.size old.storage new.storage command) (acts : EffectOnSound old new (given_by x s.guest command) (asked_by command)) where
    not_failed : IsTrue s.is_failed → ⊥
    not_failed failed = let t : s.is_failed ≡ true = failed in cc

    backing-is : old.setting.backing ≡ x.backing
    backing-is = ap (λ (y : Setting). y.backing) stands.setting

    new_backing : new.setting.backing ≡ x.backing
    new_backing = ap (λ (y : Setting). y.backing) (acts.setting ∙ stands.setting)

    stops : Stops old new (given_by x s.guest command) (asked_by command) s.checkpoint
    stops = acts.stops s.checkpoint (subst (λ b. LeavesKept b s.checkpoint old.storage) (sym backing-is) (stands.contents ok), subst (λ b. StopOkEverywhere b s.checkpoint old.known) (sym backing-is) (stands.known ok))

    kept_contents : LeavesKept x.backing (checkpoint_during x s command) new.storage
    kept_contents = subst (λ b. LeavesKept b (checkpoint_during x s command) new.storage) backing-is stops.contents

    kept_known : new.is_sound → StopOkEverywhere x.backing (checkpoint_during x s command) new.known
    kept_known sound = subst (λ b. StopOkEverywhere b (checkpoint_during x s command) new.known) backing-is (stops.known sound)

    moments : EachMomentSince old.storage new.storage (λ c. StopOk x.backing (checkpoint_during x s command) (byte_at c))
    moments =
        passes_if (λ c. StopOk x.backing (checkpoint_during x s command) (byte_at c))
        (λ c k. stop_of_kept x.backing (checkpoint_during x s command) (byte_at c) (subst (λ b. StopOkEverywhere b (checkpoint_during x s command) (byte_at c)) backing-is k)) stops.moments

    own : IsOwnInterval x.backing old.storage new.storage old.known (given_by x s.guest command) (asked_by command)
    own m contents known = subst (λ b. EachMomentSince old.storage new.storage (λ c. StopOkEverywhere b (checkpoint_with (given_by x s.guest command) (asked_by command) m) (byte_at c))) backing-is
        (acts.stops m (subst (λ b. LeavesKept b m old.storage) (sym backing-is) contents, subst (λ b. StopOkEverywhere b m old.known) (sym backing-is) known)).moments

    safe_to : (after : Checkpoint) → LeavesOk x.backing after new.storage → IsSafeWhile x.backing old.storage new.storage s.is_failed (checkpoint_during x s command) after
    safe_to after at = record { moments = λ _. moments; at_return = at; silent = λ f. absurd (not_failed f); unchanged = λ f. absurd (not_failed f) }

    failing : IsFaultReply reply → IsTrue new.is_failed → RefinesCommand x old new s command reply
    failing fault failed =
        let at : LeavesOk x.backing (checkpoint_after x s command reply s.guest) new.storage =
        subst (λ m. LeavesOk x.backing m new.storage) (sym (mark_of_fault x s command reply s.guest fault)) (stop_of_kept x.backing (checkpoint_during x s command) (stored_bytes new) kept_contents) in
        record {
          end = stepped x s command reply s.guest true;
          step = inr (inr (ok, may, fault, refl));
          stands = record {
            setting = acts.setting ∙ stands.setting;
            works = λ e. absurd (cc);
            failed = λ _. failed;
            guest = λ e. absurd (cc);
            known = λ e. absurd (cc);
            contents = λ e. absurd (cc);
            at_rest = at;
          };
          safe = safe_to (checkpoint_after x s command reply s.guest) at;
          interval = record { own = λ _. own; sized = λ _. sized; told = λ e. absurd (cc); beside = λ e. absurd (cc) };
          surplus = λ e. absurd (cc);
          leaks = acts.leaks;
          since = λ _. ok;
        }

    going : new.is_sound → CommandMeaning x s.found s.guest command reply (guest_of new) → (¬ IsStorageReply reply) → ReplyMatches new.setting old.known new command reply
        → ((checkpoint_after x s command reply (guest_of new) ≡ checkpoint_during x s command)
        ⊎ (StopOkEverywhere new.setting.backing (checkpoint_after x s command reply (guest_of new)) new.known × LeavesKept new.setting.backing (checkpoint_after x s command reply (guest_of new)) new.storage))
        → RefinesCommand x old new s command reply
    going sound means works finds checkpoint =
        let after = checkpoint_after x s command reply (guest_of new) in
        let kept : LeavesKept x.backing after new.storage =
        ⊎_elim
        (λ (e : checkpoint_after x s command reply (guest_of new) ≡ checkpoint_during x s command). subst (λ m. LeavesKept x.backing m new.storage) (sym e) kept_contents)
        (λ (f : StopOkEverywhere new.setting.backing (checkpoint_after x s command reply (guest_of new)) new.known × LeavesKept new.setting.backing (checkpoint_after x s command reply (guest_of new)) new.storage).
        subst (λ b. LeavesKept b (checkpoint_after x s command reply (guest_of new)) new.storage) new_backing f.1) checkpoint in
        let at = stop_of_kept x.backing after (stored_bytes new) kept in
        record {
          end = stepped x s command reply (guest_of new) false;
          step = inr (inl (ok, may, works, ((guest_of new), means, refl)));
          stands = record {
            setting = acts.setting ∙ stands.setting;
            works = λ _. sound;
            failed = λ e. absurd (let t : false ≡ true = e in cc);
            guest = λ _. refl;
            known = λ _. ⊎_elim
                (λ (e : checkpoint_after x s command reply (guest_of new) ≡ checkpoint_during x s command). subst (λ m. StopOkEverywhere x.backing m new.known) (sym e) (kept_known sound))
                (λ (f : StopOkEverywhere new.setting.backing (checkpoint_after x s command reply (guest_of new)) new.known × LeavesKept new.setting.backing (checkpoint_after x s command reply (guest_of new)) new.storage).
                subst (λ b. StopOkEverywhere b (checkpoint_after x s command reply (guest_of new)) new.known) new_backing f.0) checkpoint;
            contents = λ _. kept;
            at_rest = at;
          };
          safe = safe_to after at;
          interval = record {
            own = λ _. own;
            sized = λ _. sized;
            told = λ _. subst (λ y. ReplyMatches y old.known new command reply) (acts.setting ∙ stands.setting) finds;
            beside = λ _. subst (λ (y : Setting). UngivenStay y.cluster_size (given_by x s.guest command) old.known new.known) stands.setting (acts.beside sound);
          };
          surplus = λ _. acts.surplus sound;
          leaks = acts.leaks;
          since = λ _. ok;
        }

  -- the whole step, from what the call's contract says
  pub called : IsAnswer old new command reply → CallEffect old new (given_by old.setting (guest_of old) command) (asked_by command) → (old.is_sound → Ends s.found old new command reply) → RefinesCommand x old new s command reply
  called answer acts ends = elim (bool_cases s.is_failed) [
    | inl failed ↦ rested failed (answer.failed (stands.failed failed)) (acts.rests (stands.failed failed))
    | inr ok ↦
        let sound = stands.works ok in
        let may : MayAnswer s.guest.disk command reply = subst (λ (h : Guest). MayAnswer h.disk command reply) (stands.guest ok) (answer.may sound) in
        let sized : ResizesLast s.guest.disk.size old.storage new.storage command = subst (λ (h : Guest). ResizesLast h.disk.size old.storage new.storage command) (stands.guest ok) (answer.sized sound) in
        let worked : EffectOnSound old new (given_by x s.guest command) (asked_by command) =
        subst (λ y. EffectOnSound old new (given_by y s.guest command) (asked_by command)) stands.setting
        (subst (λ h. EffectOnSound old new (given_by old.setting h command) (asked_by command)) (stands.guest ok) (acts.works sound)) in
        ⊎_elim
        (λ (done : new.is_sound × CommandMeaning old.setting s.found (guest_of old) command reply (guest_of new) × (¬ IsStorageReply reply)).
        going ok may sized worked done.0
        (subst (λ y. CommandMeaning y s.found s.guest command reply (guest_of new)) stands.setting (subst (λ h. CommandMeaning old.setting s.found h command reply (guest_of new)) (stands.guest ok) done.1)) done.2
        ((ends sound).finds done.0) ((ends sound).checkpoint x s stands ok done.0))
        (λ (interruption : IsFaultReply reply × IsTrue new.is_failed). failing ok may sized worked interruption.0 interruption.1)
        (ends sound).ends
  ]

-- how a refusal ends: a fault of the storage fails the image
refusal_ends : {old new : AbstractImage} {given : List GivenBytes} {asked : List ℕ} {Still : Type 0} (reply : Reply) (error : Refusal) → RefusedEffect old new given asked error Still → (IsRefusalByFault error → IsFaultReply reply) → (IsStorageReply reply → error ≡ storage)
    → old.is_sound → (new.is_sound × Still × (¬ IsStorageReply reply)) ⊎ (IsFaultReply reply × IsTrue new.is_failed)
refusal_ends {new = new} {Still = Still} reply error refuses fault by_storage sound = grind arith

-- a call that was answered, and one that was refused
pub done_as : (x : Setting) (old new : AbstractImage) (s : State) (command is : Command) (reply : Reply) → command ≡ is → RefinesState x old s → IsAnswer old new is reply
    → AnsweredEffect old new (given_by old.setting (guest_of old) is) (asked_by is) (CommandMeaning old.setting s.found (guest_of old) is reply (guest_of new))
    → (IsStorageReply reply → ⊥) → ((x' : Setting) (s' : State) → checkpoint_after x' s' is reply (guest_of new) ≡ checkpoint_during x' s' is) → (old.is_sound → ReplyMatches new.setting old.known new is reply) → RefinesCommand x old new s command reply
done_as x old new s command is reply e stands answer does answered checkpoint finds =
    subst (λ q. RefinesCommand x old new s q reply) (sym e) (called x old new s is reply stands answer does.acts
    (λ sound. let a = does.answer sound in record { ends = inl (a.0, a.1, answered); finds = λ _. finds sound; checkpoint = λ x' s' _ _ _. inl (checkpoint x' s') }))

pub refused_told : (x : Setting) (old new : AbstractImage) (s : State) (command is : Command) (reply : Reply) (error : Refusal) → command ≡ is → RefinesState x old s → IsAnswer old new is reply
    → RefusedEffect old new (given_by old.setting (guest_of old) is) (asked_by is) error (CommandMeaning old.setting s.found (guest_of old) is reply (guest_of new)) → (IsRefusalByFault error → IsFaultReply reply) → (IsStorageReply reply → error ≡ storage)
    → ((x' : Setting) (s' : State) → checkpoint_after x' s' is reply (guest_of new) ≡ checkpoint_during x' s' is) → (old.is_sound → ReplyMatches new.setting old.known new is reply) → RefinesCommand x old new s command reply
refused_told x old new s command is reply error e stands answer refuses fault by_storage checkpoint finds =
    subst (λ q. RefinesCommand x old new s q reply) (sym e) (called x old new s is reply stands answer refuses.acts
    (λ sound. record {
      ends = refusal_ends reply error refuses fault by_storage sound;
      finds = λ _. finds sound;
      checkpoint = λ x' s' _ _ _. inl (checkpoint x' s');
    }))

-- a reply that is only a refusal
pub refused_as : (x : Setting) (old new : AbstractImage) (s : State) (command is : Command) (reply : Reply) (error : Refusal) → command ≡ is → RefinesState x old s → IsAnswer old new is reply
    → RefusedEffect old new (given_by old.setting (guest_of old) is) (asked_by is) error (CommandMeaning old.setting s.found (guest_of old) is reply (guest_of new)) → (IsRefusalByFault error → IsFaultReply reply) → (IsStorageReply reply → error ≡ storage)
    → ((x' : Setting) (s' : State) → checkpoint_after x' s' is reply (guest_of new) ≡ checkpoint_during x' s' is) → ReplyMatches new.setting old.known new is reply → RefinesCommand x old new s command reply
refused_as x old new s command is reply error e stands answer refuses fault by_storage checkpoint finds = refused_told x old new s command is reply error e stands answer refuses fault by_storage checkpoint (λ _. finds)

-- no call at all
pub acts_none : (v : AbstractImage) (given : List GivenBytes) (asked : List ℕ) → CallEffect v v given asked
acts_none v given asked = record {
  number = refl;
  works = λ _. record {
    setting = refl;
    surplus = λ _. refl;
    beside = λ _ g untouched. refl;
    leaks = refl;
    stops = stops_none v v given asked refl (λ _. refl);
  };
  rests = λ failed. rests_none v v refl refl failed refl;
}

-- a flush that succeeded: what is on the storage is what the guest sees
kept_at_once : (v : AbstractImage) (header_bytes b : Bytes) → IsWhole v → b ≡ v.known → KeepsHeaderRest header_bytes b → StopOkEverywhere v.setting.backing (checkpoint_at (guest_of v).disk header_bytes) b
kept_at_once v header_bytes b whole same rest = grind arith

pub flushed_as : (x : Setting) (old new : AbstractImage) (s : State) (command is : Command) (reply : Reply) → command ≡ is → RefinesState x old s → IsAnswer old new is reply
    → AnsweredEffect old new (given_by old.setting (guest_of old) is) (asked_by is) ((new.known ≡ stored_bytes new) × CommandMeaning old.setting s.found (guest_of old) is reply (guest_of new))
    → (new.is_sound → IsWhole new) → (IsStorageReply reply → ⊥)
    → ((x' : Setting) (s' : State) → checkpoint_after x' s' is reply (guest_of new) ≡ checkpoint_at (guest_of new).disk s'.checkpoint.header_bytes) → ReplyMatches new.setting old.known new is reply → RefinesCommand x old new s command reply
flushed_as x old new s command is reply e stands answer does whole answered checkpoint finds =
    subst (λ q. RefinesCommand x old new s q reply) (sym e) (called x old new s is reply stands answer does.acts
    (λ sound. let a = does.answer sound in record {
      ends = inl (a.0, a.1.1, answered);
      finds = λ _. finds;
      checkpoint = λ x' s' there ok _.
          let below : old.setting.backing ≡ x'.backing = ap (λ (y : Setting). y.backing) there.setting in
          let stops = (does.acts.works sound).stops s'.checkpoint (subst (λ b. LeavesKept b s'.checkpoint old.storage) (sym below) (there.contents ok), subst (λ b. StopOkEverywhere b s'.checkpoint old.known) (sym below) (there.known ok)) in
          inr (
            subst (λ m. StopOkEverywhere new.setting.backing m new.known) (sym (checkpoint x' s')) (kept_at_once new s'.checkpoint.header_bytes new.known (whole a.0) refl (stops.known a.0).rest),
            subst (λ m. LeavesKept new.setting.backing m new.storage) (sym (checkpoint x' s')) (kept_at_once new s'.checkpoint.header_bytes (stored_bytes new) (whole a.0) (sym a.1.0) stops.contents.rest),
          );
    }))

-- One that was answered, and gave less than it might have given. Its mark afterwards has what it gave alone.
pub gave_less : (x : Setting) (old new : AbstractImage) (s : State) (command is : Command) (reply : Reply) (given : Setting → Guest → List GivenBytes) → command ≡ is → RefinesState x old s → IsAnswer old new is reply
    → (does : AnsweredEffect old new (given old.setting (guest_of old)) (asked_by is) (CommandMeaning old.setting s.found (guest_of old) is reply (guest_of new)))
    → (old.is_sound → (o : ℕ) (w : Value) → IsGiven (given old.setting (guest_of old)) o w → IsGiven (given_by old.setting (guest_of old) is) o w)
    → (old.is_sound → TouchesLess old.setting.cluster_size (given old.setting (guest_of old)) (given_by old.setting (guest_of old) is)) → (IsStorageReply reply → ⊥)
    → ((x' : Setting) (s' : State) → checkpoint_after x' s' is reply (guest_of new) ≡ checkpoint_with (given x' s'.guest) (asked_by is) s'.checkpoint) → ReplyMatches new.setting old.known new is reply → RefinesCommand x old new s command reply
gave_less x old new s command is reply given e stands answer does within touches answered checkpoint finds =
    let gs = given old.setting (guest_of old) in
    subst (λ q. RefinesCommand x old new s q reply) (sym e) (called x old new s is reply stands answer
    (record {
      number = does.acts.number;
      works = λ sound. works_less old new gs (given_by old.setting (guest_of old) is) (asked_by is) (λ o w g. inr (within sound o w g)) (touches sound) (does.acts.works sound);
      rests = does.acts.rests;
    })
    (λ sound. record {
      ends = (let a = does.answer sound in inl (a.0, a.1, answered));
      finds = λ _. finds;
      checkpoint = λ x' s' there ok sound'.
          let works = does.acts.works sound in
          let below : old.setting.backing ≡ x'.backing = ap (λ (y : Setting). y.backing) there.setting in
          let stops = works.stops s'.checkpoint (subst (λ b. LeavesKept b s'.checkpoint old.storage) (sym below) (there.contents ok), subst (λ b. StopOkEverywhere b s'.checkpoint old.known) (sym below) (there.known ok)) in
          let gave : gs ≡ given x' s'.guest = ap (λ (y : Setting). given y (guest_of old)) there.setting ∙ ap (λ (h : Guest). given x' h) (there.guest ok) in
          let marked : checkpoint_with gs (asked_by is) s'.checkpoint ≡ checkpoint_after x' s' is reply (guest_of new) = ap (λ (l : List GivenBytes). checkpoint_with l (asked_by is) s'.checkpoint) gave ∙ sym (checkpoint x' s') in
          let as_marked : (b : Bytes) → StopOkEverywhere old.setting.backing (checkpoint_with gs (asked_by is) s'.checkpoint) b → StopOkEverywhere new.setting.backing (checkpoint_after x' s' is reply (guest_of new)) b = λ b kept.
          subst (λ (y : Setting). StopOkEverywhere y.backing (checkpoint_after x' s' is reply (guest_of new)) b) (sym works.setting) (subst (λ m. StopOkEverywhere old.setting.backing m b) marked kept) in
          inr (as_marked new.known (stops.known sound'), as_marked (stored_bytes new) stops.contents);
    }))

-- a command that was misused: nothing is called
pub none_as : (x : Setting) (v : AbstractImage) (s : State) (command is : Command) (reply : Reply) → command ≡ is → RefinesState x v s → IsAnswer v v is reply
    → (v.is_sound → CommandMeaning v.setting s.found (guest_of v) is reply (guest_of v)) → (IsStorageReply reply → ⊥)
    → ((x' : Setting) (s' : State) → checkpoint_after x' s' is reply (guest_of v) ≡ checkpoint_during x' s' is) → ReplyMatches v.setting v.known v is reply → RefinesCommand x v v s command reply
none_as x v s command is reply e stands answer means answered checkpoint finds =
    subst (λ q. RefinesCommand x v v s q reply) (sym e) (called x v v s is reply stands answer
    (acts_none v (given_by v.setting (guest_of v) is) (asked_by is))
    (λ sound. record { ends = inl (sound, means sound, answered); finds = λ _. finds; checkpoint = λ x' s' _ _ _. inl (checkpoint x' s') }))

-- where a run begins
pub begins : (v : AbstractImage) → v.is_sound → IsWhole v → v.known ≡ stored_bytes v → RefinesState v.setting v (started v)
begins v sound whole same = grind arith

-- a run goes on by one step
pub Run-push : (x : Setting) (old mid new : State) (commands : List Command) (replies : List Reply) (command : Command) (reply : Reply)
    → Run x old commands replies mid → CommandStep x mid command reply new → Run x old (commands ++ command ∷ []) (replies ++ reply ∷ []) new
Run-push x old mid new [] [] command reply run step = (new, subst (λ s. CommandStep x s command reply new) run step, refl)
Run-push x old mid new (c ∷ commands) (r ∷ replies) command reply run step =
    (run.0, run.1, Run-push x run.0 mid new commands replies command reply run.2 step)
Run-push x old mid new _ _ command reply run step = absurd run

-- an image at a point of a run is as the run says
said_at : {x : Setting} {v : AbstractImage} {s : State} (before : ℕ → ℕ) (leaked : ℕ) → RefinesState x v s → (s.is_failed ≡ false → v.surplus ≡ before) → v.leaked ≡ leaked → RefinesGuest v s before leaked
said_at before leaked stands same leaks = record { works = stands.works; failed = stands.failed; guest = stands.guest; consistent = λ ok. (stands.known ok).consistent; surplus = same; leaks = leaks }

module _ {D P : Type 0} (spec : Abstraction D P) (x : Setting) (before : ℕ → ℕ) (leaked : ℕ) where
  -- so does the image along it
  along_push : (old mid new : D) (out : List (Option P)) (s t end : State) (commands : List Command) (replies : List Reply) (command : Command) (reply : Reply) (run : Run x s commands replies t) (step : CommandStep x t command reply end)
      → RefinesAlong spec x before leaked old mid s t commands replies run → RefinesGuest (abstract_image spec new out) end before leaked → IsSafeWhile x.backing (spec.storage mid) (spec.storage new) t.is_failed (checkpoint_during x t command) end.checkpoint
      → RefinesAlong spec x before leaked old new s end (commands ++ command ∷ []) (replies ++ reply ∷ []) (Run-push x s t end commands replies command reply run step)
  unfolding Run-push
  along_push old mid new out s t end [] [] command reply run step same said safe = grind arith
  along_push old mid new out s t end (c ∷ commands) (r ∷ replies) command reply run step so_far said safe =
      (so_far.0, so_far.1, so_far.2, so_far.3, along_push so_far.0 mid new out run.0 t end commands replies command reply run.2 step so_far.4 said safe)
  along_push old mid new out s t end _ _ command reply run step so_far said safe = absurd run

  -- the moments of a run fall under its commands
  within : (old new : D) (s end : State) (commands : List Command) (replies : List Reply) (run : Run x s commands replies end) → RefinesAlong spec x before leaked old new s end commands replies run
      → LeavesOk x.backing s.checkpoint (spec.storage old) → EachMomentSince (spec.storage old) (spec.storage new) (λ c. IsStopIn x s end commands replies run (byte_at c))
  within old new s end [] [] run same at = subst (λ (d : D). EachMomentSince (spec.storage old) (spec.storage d) (λ c. StopOk x.backing end.checkpoint (byte_at c))) (sym same) (passes_none (spec.storage old) (λ c. StopOk x.backing end.checkpoint (byte_at c)))
  within old new s end (command ∷ commands) (reply ∷ replies) run safe at =
      let here : EachMomentSince (spec.storage old) (spec.storage safe.0) (λ c. StopOk x.backing (checkpoint_during x s command) (byte_at c)) = elim (bool_cases s.is_failed) [
        | inl failed ↦ passes_if (λ c. StopOk x.backing (checkpoint_during x s command) (byte_at c))
            (λ c e. subst (λ k. StopOk x.backing (checkpoint_during x s command) (byte_at k)) (sym e) (stop_more x.backing (given_by x s.guest command) (asked_by command) s.checkpoint (byte_at (spec.storage old).contents) at)) (safe.3.silent failed)
        | inr ok ↦ safe.3.moments ok
      ] in
      passes_more here (within safe.0 new run.0 end commands replies run.2 safe.4 safe.3.at_return)
  within old new s end _ _ run safe at = absurd run

  stop_at_end : (s end : State) (commands : List Command) (replies : List Reply) (run : Run x s commands replies end) (b : Bytes) → StopOk x.backing end.checkpoint b → IsStopIn x s end commands replies run b
  stop_at_end s end [] [] run b at = at
  stop_at_end s end (command ∷ commands) (reply ∷ replies) run b at = inr (stop_at_end run.0 end commands replies run.2 b at)
  stop_at_end s end _ _ run b at = absurd run

  rest_at_end : (old new : D) (s end : State) (commands : List Command) (replies : List Reply) (run : Run x s commands replies end) → RefinesAlong spec x before leaked old new s end commands replies run
      → LeavesOk x.backing s.checkpoint (spec.storage old) → LeavesOk x.backing end.checkpoint (spec.storage new)
  rest_at_end old new s end [] [] run same at = subst (λ (d : D). LeavesOk x.backing end.checkpoint (spec.storage d)) (sym same) (subst (λ (t : State). LeavesOk x.backing t.checkpoint (spec.storage old)) (sym run) at)
  rest_at_end old new s end (command ∷ commands) (reply ∷ replies) run safe at = rest_at_end safe.0 new run.0 end commands replies run.2 safe.4 safe.3.at_return
  rest_at_end old new s end _ _ run safe at = absurd run

  -- a stop at the start of the run is one before the first command, or at the end
  first_in : (old new : D) (s end : State) (commands : List Command) (replies : List Reply) (run : Run x s commands replies end) → RefinesAlong spec x before leaked old new s end commands replies run
      → LeavesOk x.backing s.checkpoint (spec.storage old) → IsStopIn x s end commands replies run (byte_at (spec.storage old).contents)
  first_in old new s end [] [] run same at = subst (λ (t : State). LeavesOk x.backing t.checkpoint (spec.storage old)) (sym run) at
  first_in old new s end (command ∷ commands) (reply ∷ replies) run safe at = inl (stop_more x.backing (given_by x s.guest command) (asked_by command) s.checkpoint (byte_at (spec.storage old).contents) at)
  first_in old new s end _ _ run safe at = absurd run

  -- and so do those while its mappings are let go
  pub whole_passes : (old last new : D) (s end : State) (commands : List Command) (replies : List Reply) (run : Run x s commands replies end)
      → LeavesOk x.backing s.checkpoint (spec.storage old) → RefinesAlong spec x before leaked old last s end commands replies run → IsSafeWhile x.backing (spec.storage last) (spec.storage new) end.is_failed end.checkpoint end.checkpoint
      → EachMomentSince (spec.storage old) (spec.storage new) (λ c. IsStopIn x s end commands replies run (byte_at c))
  whole_passes old last new s end commands replies run at stops leaves =
      let In = λ (k : List ℕ). IsStopIn x s end commands replies run (byte_at k) in
      let ending : EachMomentSince (spec.storage last) (spec.storage new) In = elim (bool_cases end.is_failed) [
        | inl failed ↦ passes_if In (λ k e. subst In (sym e) (stop_at_end s end commands replies run (byte_at (spec.storage last).contents) (rest_at_end old last s end commands replies run stops at))) (leaves.silent failed)
        | inr ok ↦ passes_if In (λ k stop. stop_at_end s end commands replies run (byte_at k) stop) (leaves.moments ok)
      ] in
      passes_on In (within old last s end commands replies run stops at) ending (λ k h. h)

  -- and none but these since its start
  pub since_start : (old last new : D) (s end : State) (commands : List Command) (replies : List Reply) (run : Run x s commands replies end) → ((c : List ℕ) → (spec.storage old).had_since (spec.storage old).moment c → c ≡ (spec.storage old).contents)
      → LeavesOk x.backing s.checkpoint (spec.storage old) → RefinesAlong spec x before leaked old last s end commands replies run → IsSafeWhile x.backing (spec.storage last) (spec.storage new) end.is_failed end.checkpoint end.checkpoint
      → (c : List ℕ) → (spec.storage new).had_since (spec.storage old).moment c → IsStopIn x s end commands replies run (byte_at c)
  since_start old last new s end commands replies run only at stops leaves c had =
      let In = λ (k : List ℕ). IsStopIn x s end commands replies run (byte_at k) in
      ⊎_elim (λ (e : c ≡ (spec.storage old).contents). subst In (sym e) (first_in old last s end commands replies run stops at))
      (λ (p : In c). p) (since_began only (whole_passes old last new s end commands replies run at stops leaves) c had)

module _ {D P : Type 0} (spec : Abstraction D P) where
  pub ran_none : (x : Setting) (d : D) (out : List (Option P)) (s : State) → RefinesState x (abstract_image spec d out) s → RefinesRun spec x d out d out s [] []
  ran_none x d out s stands = record { end = s; run = refl; along = refl; stands = stands; surplus = λ _. refl; leaks = refl }

  pub ran_more : (x : Setting) (old mid new : D) (before out out' : List (Option P)) (s : State) (commands : List Command) (replies : List Reply) (command : Command) (reply : Reply)
      → (ran : RefinesRun spec x old before mid out s commands replies) → RefinesCommand x (abstract_image spec mid out) (abstract_image spec new out') ran.end command reply
      → RefinesRun spec x old before new out' s (commands ++ command ∷ []) (replies ++ reply ∷ [])
  ran_more x old mid new before out out' s commands replies command reply ran command_step = record {
    end = command_step.end;
    run = Run-push x s ran.end command_step.end commands replies command reply ran.run command_step.step;
    along = along_push spec x (spec.surplus old before) (spec.leaked old) old mid new out' s ran.end command_step.end commands replies command reply ran.run command_step.step ran.along
        (said_at (spec.surplus old before) (spec.leaked old) command_step.stands (λ e. command_step.surplus e ∙ ran.surplus (command_step.since e)) (command_step.leaks ∙ ran.leaks)) command_step.safe;
    stands = command_step.stands;
    surplus = λ e. command_step.surplus e ∙ ran.surplus (command_step.since e);
    leaks = command_step.leaks ∙ ran.leaks;
  }

  -- a run whose mappings are let go at its end
  module _ (x : Setting) (old last new : D) (before out : List (Option P)) (s : State) (commands : List Command) (replies : List Reply) (ran : RefinesRun spec x old before last out s commands replies)
      (does : AnsweredEffect (abstract_image spec last out) (abstract_image spec new []) [] [] ((guest_of (abstract_image spec new [])).disk ≡ (guest_of (abstract_image spec last out)).disk)) where
    backing_then : (spec.setting last).backing ≡ x.backing
    backing_then = ap (λ (y : Setting). y.backing) ran.stands.setting

    at_end : ran.end.is_failed ≡ false → Stops (abstract_image spec last out) (abstract_image spec new []) [] [] ran.end.checkpoint
    at_end ok =
        (does.acts.works (ran.stands.works ok)).stops ran.end.checkpoint
        (subst (λ b. LeavesKept b ran.end.checkpoint (spec.storage last)) (sym backing_then) (ran.stands.contents ok), subst (λ b. StopOkEverywhere b ran.end.checkpoint (spec.known last)) (sym backing_then) (ran.stands.known ok))

    setting_then : spec.setting new ≡ x
    setting_then = elim (bool_cases ran.end.is_failed) [
      | inl failed ↦ (does.acts.rests (ran.stands.failed failed)).setting ∙ ran.stands.setting
      | inr ok ↦ (does.acts.works (ran.stands.works ok)).setting ∙ ran.stands.setting
    ]

    leaks_then : spec.leaked new ≡ spec.leaked last
    leaks_then = elim (bool_cases ran.end.is_failed) [
      | inl failed ↦ (does.acts.rests (ran.stands.failed failed)).leaks
      | inr ok ↦ (does.acts.works (ran.stands.works ok)).leaks
    ]

    kept_then : ran.end.is_failed ≡ false → LeavesKept x.backing ran.end.checkpoint (spec.storage new)
    kept_then ok = subst (λ b. LeavesKept b ran.end.checkpoint (spec.storage new)) backing_then (at_end ok).contents

    resting : LeavesOk x.backing ran.end.checkpoint (spec.storage new)
    resting = elim (bool_cases ran.end.is_failed) [
      | inl failed ↦ subst (λ k. StopOk x.backing ran.end.checkpoint (byte_at k)) (sym (does.acts.rests (ran.stands.failed failed)).contents) ran.stands.at_rest
      | inr ok ↦ stop_of_kept x.backing ran.end.checkpoint (byte_at (spec.storage new).contents) (kept_then ok)
    ]

    pub completes : ((k : ℕ) → (abstract_image spec new []).slots k ≡ None) → spec.surplus old before ≡ spec.surplus old [] → RefinesWholeRun spec x old new s commands replies
    completes empty same = record {
      end = ran.end;
      run = ran.run;
      last = last;
      along = subst (λ (k : ℕ → ℕ). RefinesAlong spec x k (spec.leaked old) old last s ran.end commands replies ran.run) same ran.along;
      leaves = record {
        moments = λ ok. passes_if (λ c. StopOk x.backing ran.end.checkpoint (byte_at c))
            (λ c k. stop_of_kept x.backing ran.end.checkpoint (byte_at c) (subst (λ b. StopOkEverywhere b ran.end.checkpoint (byte_at c)) backing_then k)) (at_end ok).moments;
        at_return = resting;
        silent = λ failed. (does.acts.rests (ran.stands.failed failed)).moments;
        unchanged = λ failed. (does.acts.rests (ran.stands.failed failed)).contents;
      };
      stands = record {
        setting = setting_then;
        works = λ ok. (does.answer (ran.stands.works ok)).0;
        failed = λ failed. (does.acts.rests (ran.stands.failed failed)).failed;
        guest = λ ok.
            ap (λ (f : ℕ → Option PreparedMapping). record (guest_of (abstract_image spec new [])) { slots = f }) (fun_ext empty)
            ∙ ap (λ (d : Disk). record { disk = d; slots = λ _. None }) ((does.answer (ran.stands.works ok)).1 ∙ ap (λ (g : Guest). g.disk) (ran.stands.guest ok));
        known = λ ok. subst (λ b. StopOkEverywhere b ran.end.checkpoint (spec.known new)) backing_then ((at_end ok).known (does.answer (ran.stands.works ok)).0);
        contents = kept_then;
        at_rest = resting;
      };
      surplus = λ ok. (does.acts.works (ran.stands.works ok)).surplus (does.answer (ran.stands.works ok)).0 ∙ ran.surplus ok ∙ same;
      leaks = leaks_then ∙ ran.leaks;
    }

  -- a whole run of an image that was just opened
  pub refines_the_disk : (old new : D) (commands : List Command) (replies : List Reply) → ((c : List ℕ) → (spec.storage old).had_since (spec.storage old).moment c → c ≡ (spec.storage old).contents)
      → RefinesState (spec.setting old) (abstract_image spec old []) (started (abstract_image spec old []))
      → RefinesWholeRun spec (spec.setting old) old new (started (abstract_image spec old [])) commands replies → RefinesDisk spec old new commands replies
  refines_the_disk old new commands replies only stands all = record {
    end = all.end;
    run = all.run;
    at_start = stands.at_rest;
    last = all.last;
    along = all.along;
    leaves = all.leaves;
    at_end = said_at (spec.surplus old []) (spec.leaked old) all.stands all.surplus all.leaks;
    setting = all.stands.setting;
    since_start = since_start spec (spec.setting old) (spec.surplus old []) (spec.leaked old) old all.last new (started (abstract_image spec old [])) all.end commands replies all.run only stands.at_rest all.along all.leaves;
  }

  -- the moments of a whole run, with what is let go at its end
  pub passes_run : (old new : D) (commands : List Command) (replies : List Reply) (all : RefinesDisk spec old new commands replies)
      → EachMomentSince (spec.storage old) (spec.storage new) (λ c. IsStopIn (spec.setting old) (started (abstract_image spec old [])) all.end commands replies all.run (byte_at c))
  passes_run old new commands replies all =
      whole_passes spec (spec.setting old) (spec.surplus old []) (spec.leaked old) old all.last new (started (abstract_image spec old [])) all.end commands replies all.run all.at_start all.along all.leaves

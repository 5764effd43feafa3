-- A run of an image that was opened from bytes.
use Rattle.std.proofs.Common.{◌≡◌, ◌∷◌, ⊎_elim, inl, ℕ, List, [], Option, refl, sym, ap, ◌∙◌, subst, arith}
use Rattle.qcow2_disk.proofs.Common.{StorageView, EachMomentSince, passes_if, passes_on, Bytes, byte_at, IsConsistent, header, Disk, disk, disk_with, KeepsHeaderRest, checkpoint_at, StopOkEverywhere, StopOk, SafeThroughout, Setting, Guest, Abstraction, abstract_image, guest_of, surplus_of, Command, Reply, State, Run, RefinesDisk, IsStopIn, started, checkpoint_during, given_by, asked_by}
use Rattle.qcow2_disk.specs.Headline.{shown_below, setting_in, guest_in, IsHeadline}
use Rattle.qcow2_disk.proofs.HeaderRest.{header_rest_same, header_rest_then, header_rest_back}
use Rattle.qcow2_disk.proofs.Stops.{stop_of_kept, stop_more}
use Rattle.qcow2_disk.proofs.RunSteps.{passes_run}

-- nothing was given since, so the disk is the same
same_disk : (backing header_bytes : Bytes) (d : Disk) (b : Bytes) → StopOkEverywhere backing (checkpoint_at d header_bytes) b → disk b backing ≡ d
same_disk backing header_bytes d b kept = grind arith

pub at_once : (backing b : Bytes) → IsConsistent b → StopOkEverywhere backing (checkpoint_at (disk b backing) b) b
at_once backing b consistent = record { consistent = consistent; rest = header_rest_same b; size = inl refl; values = λ o. inl refl }

-- what a stop may leave where a run begins falls under its first command, or its end
first_stop : (x : Setting) (s end : State) (commands : List Command) (replies : List Reply) (run : Run x s commands replies end) (b : Bytes) → StopOk x.backing s.checkpoint b → IsStopIn x s end commands replies run b
first_stop x s end [] [] run b at = subst (λ (t : State). StopOk x.backing t.checkpoint b) (sym run) at
first_stop x s end (command ∷ commands) (reply ∷ replies) run b at = inl (stop_more x.backing (given_by x s.guest command) (asked_by command) s.checkpoint b at)
first_stop x s end _ _ run b at = absurd run

-- whatever it leaves is consistent
pub stop_consistent : (x : Setting) (s end : State) (commands : List Command) (replies : List Reply) (run : Run x s commands replies end) (b : Bytes) → IsStopIn x s end commands replies run b → IsConsistent b
stop_consistent x s end [] [] run b at = at.consistent
stop_consistent x s end (command ∷ commands) (reply ∷ replies) run b at = ⊎_elim
    (λ (now : StopOk x.backing (checkpoint_during x s command) b). now.consistent)
    (λ (later : IsStopIn x run.0 end commands replies run.2 b). stop_consistent x run.0 end commands replies run.2 b later) at
stop_consistent x s end _ _ run b at = absurd at

module _ {D P : Type 0} (spec : Abstraction D P) (before : StorageView) (below : Option Bytes) (opened new : D) (commands : List Command) (replies : List Reply)
    (consistent : IsConsistent (byte_at before.contents)) (nothing_before : (c : List ℕ) → before.had_since before.moment c → c ≡ before.contents)
    (since : SafeThroughout before (spec.storage opened) (byte_at before.contents) (λ _. []) []) (clean : spec.known opened ≡ byte_at (spec.storage opened).contents) (in_image : spec.data_bytes opened ≡ spec.known opened)
    (setting : spec.setting opened ≡ setting_in below (byte_at before.contents)) (sound : spec.is_sound opened [])
    (surplus : spec.surplus opened [] ≡ surplus_of (header (byte_at before.contents)) (byte_at before.contents)) (leaks : spec.leaked opened ≡ 0) (refines : RefinesDisk spec opened new commands replies) where
  abbrev b : Bytes
  b = byte_at before.contents

  abbrev shown : Bytes
  shown = shown_below below

  start : StopOkEverywhere shown (checkpoint_at (disk b shown) b) b
  start = at_once shown b consistent

  backing-is : (spec.setting opened).backing ≡ shown
  backing-is = ap (λ (x : Setting). x.backing) setting

  shows : guest_of (abstract_image spec opened []) ≡ guest_in below b
  shows =
      let known : disk_with (spec.known opened) (spec.data_bytes opened) (spec.setting opened).backing ≡ disk (byte_at (spec.storage opened).contents) shown =
      ap (λ (k : Bytes). disk_with (spec.known opened) k (spec.setting opened).backing) in_image
      ∙ ap (λ (k : Bytes). disk k (spec.setting opened).backing) clean ∙ ap (λ (k : Bytes). disk (byte_at (spec.storage opened).contents) k) backing-is in
      ap (λ (d : Disk). record (guest_in below b) { disk = d }) (known ∙ same_disk shown b (disk b shown) (byte_at (spec.storage opened).contents) (since.contents shown (checkpoint_at (disk b shown) b) start start))

  abbrev In : List ℕ → Type 0
  In c = IsStopIn (spec.setting opened) (started (abstract_image spec opened [])) refines.end commands replies refines.run (byte_at c)

  rest : KeepsHeaderRest b (byte_at (spec.storage opened).contents)
  rest = (since.contents shown (checkpoint_at (disk b shown) b) start start).rest

  -- what kept the rest of the header before keeps that of the opened image
  since_opened : (c : List ℕ) → StopOk shown (checkpoint_at (disk b shown) b) (byte_at c) → StopOk shown (checkpoint_at (disk b shown) (byte_at (spec.storage opened).contents)) (byte_at c)
  since_opened c stop = record {
    consistent = stop.consistent;
    rest = header_rest_then (byte_at (spec.storage opened).contents) b (byte_at c) (header_rest_back b (byte_at (spec.storage opened).contents) rest) stop.rest;
    size = stop.size;
    values = stop.values;
  }

  kept_in : (c : List ℕ) → StopOkEverywhere shown (checkpoint_at (disk b shown) b) (byte_at c) → In c
  kept_in c kept = first_stop (spec.setting opened) (started (abstract_image spec opened [])) refines.end commands replies refines.run (byte_at c)
      (subst (λ (g : Guest). StopOk (spec.setting opened).backing (checkpoint_at g.disk (byte_at (spec.storage opened).contents)) (byte_at c)) (sym shows)
      (subst (λ (k : Bytes). StopOk k (checkpoint_at (disk b shown) (byte_at (spec.storage opened).contents)) (byte_at c)) (sym backing-is) (since_opened c (stop_of_kept shown (checkpoint_at (disk b shown) b) (byte_at c) kept))))

  opening : EachMomentSince before (spec.storage opened) In
  opening = passes_if In (λ c kept. kept_in c (kept shown (checkpoint_at (disk b shown) b) start start)) since.moments

  whole : EachMomentSince before (spec.storage new) In
  whole = passes_on In opening (passes_run spec opened new commands replies refines) (λ c h. h)

  pub from_bytes : IsHeadline spec before below new commands replies
  from_bytes = record {
    opened = opened;
    setting = setting;
    shows = shows;
    rest = rest;
    sound = sound;
    surplus = surplus;
    leaks = leaks;
    refines = refines;
    stops = λ c had. ⊎_elim (λ (h : before.had_since before.moment c). subst In (sym (nothing_before c h)) (kept_in before.contents start)) (λ p. p) (whole.each before.moment c (omega arith) had);
  }

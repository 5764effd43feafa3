-- What calls on prepared mappings do, as commands of a run.
use Rattle.std.proofs.Common.{◌≡◌, ◌+◌, ◌-◌, ◌<◌, ◌≤◌, ◌≢◌, ◌∷◌, ◌==◌, if◌then◌else◌, inl, inr, ℕ, zero, suc, min, eqb, get_or, List, [], Bool, true, false, refl, sym, ap, ◌∙◌, subst, Option, Some, None, length, Bor, arith, is_some}
use Rattle.qcow2_session.proofs.Common.{slice_get, slice_set, MatchOption, cond-true, cond-false, cases_Bool, cases_eq, cases_lt, eq-eqb, ne_eqb, slice_get-get_or, slice_get_read, fun_ext, Bytes, HeaderFields, IsFound, Kind, GivenBytes, PreparedMapping, IsPrepared, put_mapping, put_disk, committed, given_by_put, given_by_commit, Setting, HostRange, Abstraction, AbstractImage, abstract_image, guest_of, meaning_at, Refusal, CallEffect, AnsweredEffect, RefusedEffect, IsSame, with_disk, with_slot, Found, State, RefinesState, CommandMeaning, CommandStep, found_after, given_at, given_by, put, commit, discard, prepare, done, prepared_is, Mapping, command_of, reply_of, looked_up_after, mapping_at, mappings_in, range_of, get_set_same}
use Rattle.qcow2_disk.specs.Runs.{Command, Reply}
use Rattle.qcow2_session.specs.declared.session.Command.{Command as SessionCommand}
use Rattle.qcow2_session.specs.declared.session.Command.TheVariants as C
use Rattle.qcow2_session.specs.declared.session.Reply.{Reply as SessionReply}
use Rattle.qcow2_session.specs.declared.session.Reply.TheVariants as R

module _ {D P : Type 0} (spec : Abstraction D P) where
  -- what a mapping at a place means
  pub found_at : (d : D) (out : List (Option P)) (slot : ℕ) (p : P) → slice_get out slot ≡ Some (Some p) → (abstract_image spec d out).slots slot ≡ Some (spec.means d p)
  found_at d out slot p e = ap (λ (o : Option (Option P)). meaning_at (spec.means d) o) e

  pub none_at : (d : D) (out : List (Option P)) (slot : ℕ) → slice_get out slot ≡ Some None → (abstract_image spec d out).slots slot ≡ None
  none_at d out slot e = ap (λ (o : Option (Option P)). meaning_at (spec.means d) o) e

  -- where it is to be written
  pub host_at : (d : D) (out : List (Option P)) (slot : ℕ) (p : P) → slice_get out slot ≡ Some (Some p) → (abstract_image spec d out).hosts slot ≡ Some (spec.host p)
  host_at d out slot p e = ap (λ (o : Option (Option P)). meaning_at spec.host o) e

  -- a place that was looked at
  module _ (d : D) (out : List (Option P)) (slot : ℕ) where
    pub taken : (r : Option (Bor P)) → MatchOption r (slice_get out slot ≡ Some None) (λ p. slice_get out slot ≡ Some (Some p.now)) → is_some r ≡ true → (abstract_image spec d out).slots slot ≡ None → ⊥
    taken None at is free = absurd cc
    taken (Some p) at is free = let e = found_at d out slot p.now at in let f : Some (spec.means d p.now) ≡ None = sym e ∙ free in cc

    pub untaken : (r : Option (Bor P)) → MatchOption r (slice_get out slot ≡ Some None) (λ p. slice_get out slot ≡ Some (Some p.now)) → is_some r ≡ false → slice_get out slot ≡ Some None
    untaken None at is = at
    untaken (Some p) at is = absurd cc

module _ {old new : AbstractImage} (found : ℕ → Option Found) (slot : ℕ) (m : PreparedMapping) (e : old.slots slot ≡ Some m) where
  at_slot : (bytes_given : PreparedMapping → GivenBytes) → CallEffect old new (bytes_given m ∷ []) [] → CallEffect old new (given_at (old.slots slot) bytes_given) []
  at_slot bytes_given acts = subst (λ (o : Option PreparedMapping). CallEffect old new (given_at o bytes_given) []) (sym e) acts

  pub does_commit : AnsweredEffect old new (given_by_commit old.setting.cluster_size (guest_of old).disk m ∷ []) [] (guest_of new ≡ with_slot (with_disk (guest_of old) (committed (guest_of old).disk m)) slot None)
      → AnsweredEffect old new (given_by old.setting (guest_of old) (commit slot)) [] (CommandMeaning old.setting found (guest_of old) (commit slot) done (guest_of new))
  does_commit does = record { acts = at_slot (given_by_commit old.setting.cluster_size (guest_of old).disk) does.acts; answer = λ sound. let a = does.answer sound in (a.0, (m, e, a.1)) }

  pub refuses_commit : {error : Refusal} → RefusedEffect old new (given_by_commit old.setting.cluster_size (guest_of old).disk m ∷ []) [] error (IsSame old new)
      → RefusedEffect old new (given_by old.setting (guest_of old) (commit slot)) [] error (IsSame old new)
  refuses_commit r = record { acts = at_slot (given_by_commit old.setting.cluster_size (guest_of old).disk) r.acts; answer = r.answer; fault = r.fault }

  module _ (at : ℕ) (bytes : List ℕ) where
    pub does_put : at + length bytes ≤ m.length → AnsweredEffect old new (given_by_put (guest_of old).disk m at bytes ∷ []) [] (guest_of new ≡ with_slot (with_disk (guest_of old) (put_disk (guest_of old).disk m at bytes)) slot (Some (put_mapping m at bytes)))
        → AnsweredEffect old new (given_by old.setting (guest_of old) (put slot at bytes)) [] (CommandMeaning old.setting found (guest_of old) (put slot at bytes) done (guest_of new))
    does_put fits does = record { acts = at_slot (λ n. given_by_put (guest_of old).disk n at bytes) does.acts; answer = λ sound. let a = does.answer sound in (a.0, (m, e, fits, a.1)) }

    pub refuses_put : {error : Refusal} → RefusedEffect old new (given_by_put (guest_of old).disk m at bytes ∷ []) [] error (IsSame old new)
        → RefusedEffect old new (given_by old.setting (guest_of old) (put slot at bytes)) [] error (IsSame old new)
    refuses_put r = record { acts = at_slot (λ n. given_by_put (guest_of old).disk n at bytes) r.acts; answer = r.answer; fault = r.fault }

  pub does_discard : AnsweredEffect old new [] [] (guest_of new ≡ with_slot (guest_of old) slot None) → AnsweredEffect old new [] [] (CommandMeaning old.setting found (guest_of old) (discard slot) done (guest_of new))
  does_discard does = record { acts = does.acts; answer = λ sound. let a = does.answer sound in (a.0, ((λ (h : old.slots slot ≡ None). cc), a.1)) }

pub does_prepare : {old new : AbstractImage} (found : ℕ → Option Found) (slot offset n : ℕ) (overwrite : Bool) (m : PreparedMapping) (host count : ℕ) (is_existing : Bool) → old.slots slot ≡ None → m.length ≡ count
    → AnsweredEffect old new [] [] (IsPrepared old.setting.cluster_size (guest_of old).disk offset n overwrite m × (guest_of new ≡ with_slot (guest_of old) slot (Some m)))
    → AnsweredEffect old new [] [] (CommandMeaning old.setting found (guest_of old) (prepare slot offset n overwrite) (prepared_is host count is_existing) (guest_of new))
does_prepare found slot offset n overwrite m host count is_existing free long does = record { acts = does.acts; answer = λ sound. let a = does.answer sound in (a.0, (free, (m, a.1.0, long, a.1.1))) }

abbrev host_range : ℕ → ℕ → Bool → HostRange
host_range offset length is_existing = record { offset = offset; length = length; is_existing = is_existing }

-- what is reported of a mapping is where it is to be written
pub prepared_at : {a b n m : ℕ} {e f : Bool} → a ≡ b → n ≡ m → e ≡ f → Some (host_range b m f) ≡ Some (host_range a n e)
prepared_at offset length existing = ap Some (λ i. record { offset = sym offset i; length = sym length i; is_existing = sym existing i })

-- what holds of a mapping holds of the one in its slot
pub so_in_slot : (v : AbstractImage) (slot : ℕ) (m : PreparedMapping) (IsSo : PreparedMapping → Type 0) → v.slots slot ≡ Some m → IsSo m → (n : PreparedMapping) → v.slots slot ≡ Some n → IsSo n
so_in_slot v slot m IsSo there so n is = let same : m ≡ n = (let e : Some m ≡ Some n = sym there ∙ is in cc) in subst IsSo same so

-- a range that passes the end of what is at a place
pub is_past : {m o : Option PreparedMapping} (at n : ℕ) → o ≡ m → MatchOption m (Unit {0}) (λ p. p.length < at + n) → MatchOption o (Unit {0}) (λ p. p.length < at + n)
is_past at n e past = subst (λ (k : Option PreparedMapping). MatchOption k (Unit {0}) (λ p. p.length < at + n)) (sym e) past

pub is_beyond : {m o : Option Found} (at n : ℕ) → o ≡ m → MatchOption m (Unit {0}) (λ f. f.length < at + n) → MatchOption o (Unit {0}) (λ f. f.length < at + n)
is_beyond at n e past = subst (λ (k : Option Found). MatchOption k (Unit {0}) (λ f. f.length < at + n)) (sym e) past

pub passes_mapped : {m o : Option Mapping} (at n : ℕ) → o ≡ m → MatchOption m (Unit {0}) (λ f. f.length < at + n) → MatchOption o (Unit {0}) (λ f. f.length < at + n)
passes_mapped at n e past = subst (λ (k : Option Mapping). MatchOption k (Unit {0}) (λ f. f.length < at + n)) (sym e) past

-- a range within what was looked up doesn't pass its end
pub isnt_beyond : {o : Option Mapping} (f : Mapping) (at n : ℕ) → o ≡ Some f → at + n ≤ f.length → MatchOption o (Unit {0}) (λ f. f.length < at + n) → ⊥
isnt_beyond f at n is within beyond = let past = subst (λ (k : Option Mapping). MatchOption k (Unit {0}) (λ f. f.length < at + n)) is beyond in omega (arith, past, within)

-- ---- what was found

get_set_other : {X : Type 0} (xs : List X) (slot k : ℕ) (a : X) → k ≢ slot → slice_get (slice_set xs slot a) k ≡ slice_get xs k
get_set_other [] slot k a other = refl
get_set_other (x ∷ xs) zero zero a other = absurd (other refl)
get_set_other (x ∷ xs) zero (suc k) a other = refl
get_set_other (x ∷ xs) (suc slot) zero a other = refl
get_set_other (x ∷ xs) (suc slot) (suc k) a other = get_set_other xs slot k a (λ e. other (ap suc e))

-- a mapping is put at a place
pub found_set : (xs : List (Option Mapping)) (slot : ℕ) (m : Mapping) (k : ℕ) → slot < length xs
    → mappings_in (slice_set xs slot (Some m)) k ≡ (if k == slot then Some m else mappings_in xs k)
found_set xs slot m k lt = elim (cases_eq k slot) [
  | inl is ↦
      ap (λ j. mappings_in (slice_set xs slot (Some m)) j) is ∙ ap mapping_at (get_set_same xs slot (Some m) _ (slice_get-get_or xs slot None lt)) ∙ sym (cond-true (eqb k slot) (Some m) (mappings_in xs k) (eq-eqb k slot is))
  | inr other ↦
      ap mapping_at (get_set_other xs slot k (Some m) other) ∙ sym (cond-false (eqb k slot) (Some m) (mappings_in xs k) (ne_eqb k slot other))
]

-- what was found for a slot that was looked at
pub mapped_here : (xs : List (Option Mapping)) (slot i : ℕ) (m : Option Mapping) → i ≡ slot → slot < length xs → m ≡ get_or xs i m → mappings_in xs slot ≡ m
mapped_here xs slot i m same lt is = ap mapping_at (slice_get_read xs (length xs) slot m refl lt (subst (λ k. m ≡ get_or xs k m) same is))

-- the ranges of the mappings that were looked up are those that a run found
if_range : (b : Bool) (m : Mapping) (o : Option Mapping) → range_of (if b then Some m else o) ≡ (if b then Some (record { from = m.offset; length = m.length }) else range_of o)
if_range true m o = refl
if_range false m o = refl

pub ranges_after : (found : ℕ → Option Mapping) (command : SessionCommand) (reply : SessionReply) (k : ℕ) → range_of (looked_up_after found command reply k) ≡ found_after (λ j. range_of (found j)) (command_of command) (reply_of reply) k
ranges_after found (C.GetMapping slot offset max) (R.Mapping m) k = if_range (k == slot) m (found k)
ranges_after found command reply k = refl

-- what is found as a whole lies below the size
least_of : (n a rest : ℕ) → n ≤ min (min n a) rest → n ≤ a
least_of n a rest within = omega arith

pub found_fits : {h : HeaderFields} {known : Bytes} {is_backed : Bool} {kind : Kind} (offset n : ℕ) → IsFound h known is_backed offset n kind n → 0 < n → offset + n ≤ h.size
found_fits {h = h} offset n found some = elim (cases_lt offset h.size) [
  | inl below ↦ let fits = least_of n (h.size - offset) _ (found.run below).longest.within in omega (arith, below, fits)
  | inr past ↦ let none = (found.past past).1 in omega (arith, none, some)
]

-- an image that works isn't in a run that failed
pub live : {x : Setting} {v : AbstractImage} {s : State} → RefinesState x v s → v.is_failed ≡ false → s.is_failed ≡ false
live {s = s} stands works = elim (cases_Bool s.is_failed) [
  | inl failed ↦ absurd (let e : true ≡ false = sym (stands.failed failed) ∙ works in cc)
  | inr ok ↦ ok
]

pub found_same : (f g : ℕ → Option Found) (command : Command) (reply : Reply) → ((k : ℕ) → f k ≡ g k) → (k : ℕ) → found_after f command reply k ≡ found_after g command reply k
found_same f g command reply same k = ap (λ (h : ℕ → Option Found). found_after h command reply k) (fun_ext same)

-- after a step that didn't fail
pub step_found : (x : Setting) (s t : State) (command : Command) (reply : Reply) → CommandStep x s command reply t → t.is_failed ≡ false → (s.is_failed ≡ false) × (t.found ≡ found_after s.found command reply)
step_found x s t command reply (inl (failed, answer, same)) ok = absurd (let e : t.is_failed ≡ true = ap (λ (u : State). u.is_failed) same ∙ failed in cc)
step_found x s t command reply (inr (inl (works, may, answered, (guest, means, is)))) ok = (works, ap (λ (u : State). u.found) is)
step_found x s t command reply (inr (inr (works, may, fault, is))) ok = absurd (let e : t.is_failed ≡ true = ap (λ (u : State). u.is_failed) is in cc)

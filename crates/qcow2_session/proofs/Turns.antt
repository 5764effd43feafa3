-- Calls one after another, whatever they return.
use Rattle.std.proofs.Common.{◌≡◌, ◌⊎◌, ◌<◌, ⊎_elim, inl, inr, ℕ, zero, suc, List, [], true, false, IsTrue, refl, sym, ap, ◌∙◌, arith, Option, Some, None, IfErr, Result, Ok, Err}
use Rattle.qcow2_session.proofs.Common.{IfSome, IsErr, IsErrAnd, Value, GivenBytes, IsGiven, disk, AbstractImage, Refusal, memory, storage, not_compressed, another, IsRefusalByFault, EffectOnSound, CallEffect, AnsweredEffect, RefusedEffect, works_less, works_then, rests_then, stops_resting, TouchesLess}

-- a refusal that was passed on
pub refused_is : {A E : Type 0} (r : Result A E) (e : E) → IsErr r × IsErrAnd r (λ x. x ≡ e) → r ≡ Err e
refused_is (Ok a) e is = absurd (let no : false ≡ true = is.0 in cc)
refused_is (Err x) e is = ap Err is.1

-- what isn't refused of nothing is refused of some alone
pub refused_some : {A E : Type 0} (P : E → Type 0) (n : ℕ) (r : Result A E) (a : A) → IfErr r P → (n ≡ 0 → r ≡ Ok a) → IfErr r (λ e. P e × (0 < n))
refused_some P n (Ok b) a may_fail done = tt
refused_some P zero (Err e) a may_fail done = absurd (let no : Err e ≡ Ok a = done refl in cc)
refused_some P (suc n) (Err e) a may_fail done = (may_fail, omega arith)

-- where a call that begins another one was answered, the other one had nothing to refuse before any work
pub nothing_refused : {A E : Type 0} (S : Type 0) (X : E → Type 0) (o : Option E) (r : Result A E) (a : A) → IfSome o (λ x. (r ≡ Err x) × S) → r ≡ Ok a → IfSome o X
nothing_refused S X None r a early was = tt
nothing_refused S X (Some x) r a early was = absurd (let no : Ok a ≡ Err x = sym was ∙ early.0 in cc)

-- what a call gives was there already, or is given anyway, and it touches no more guest clusters
pub record IsWithin (v : AbstractImage) (more gs : List GivenBytes) : Type 0 where
  pub values : (o : ℕ) (w : Value) → IsGiven more o w → (w ≡ (disk v.known v.setting.backing).value o) ⊎ IsGiven gs o w
  pub touches : TouchesLess v.setting.cluster_size more gs

pub none_within : (v : AbstractImage) (gs : List GivenBytes) → IsWithin v [] gs
none_within v gs = record { values = λ o w h. absurd h; touches = λ g untouched. tt }

pub all_within : (v : AbstractImage) (gs : List GivenBytes) → IsWithin v gs gs
all_within v gs = record { values = λ o w h. inr h; touches = λ g untouched. untouched }

module _ {old new : AbstractImage} {given : List GivenBytes} {asked : List ℕ} {A B : Type 0} where
  pub does_if : (A → B) → AnsweredEffect old new given asked A → AnsweredEffect old new given asked B
  does_if to d = record { acts = d.acts; answer = λ sound. let a = d.answer sound in (a.0, to a.1) }

  pub does_why : (old.is_sound → B) → AnsweredEffect old new given asked A → AnsweredEffect old new given asked (A × B)
  does_why why d = record { acts = d.acts; answer = λ sound. let a = d.answer sound in (a.0, (a.1, why sound)) }

  pub refuses_if : {e : Refusal} → (A → B) → RefusedEffect old new given asked e A → RefusedEffect old new given asked e B
  refuses_if to r = record { acts = r.acts; answer = λ sound. ⊎_elim (λ (a : new.is_sound × A). inl (a.0, to a.1)) (λ h. inr h) (r.answer sound); fault = r.fault }

  pub refuses_why : {e : Refusal} → (old.is_sound → B) → RefusedEffect old new given asked e A → RefusedEffect old new given asked e (A × B)
  refuses_why why r = record { acts = r.acts; answer = λ sound. ⊎_elim (λ (a : new.is_sound × A). inl (a.0, (a.1, why sound))) (λ h. inr h) (r.answer sound); fault = r.fault }

-- the session refuses by itself, after a call that was answered
pub refuses_here : {old new : AbstractImage} {given : List GivenBytes} {asked : List ℕ} {A : Type 0} (e : Refusal) → (e ≡ storage → ⊥) → AnsweredEffect old new given asked A → RefusedEffect old new given asked e A
refuses_here e none d = record { acts = d.acts; answer = λ sound. inl (d.answer sound); fault = λ is. absurd (none is) }

-- a fault fails the image, so only want of memory can leave it sound
pub refuses_fault : {old new : AbstractImage} {given : List GivenBytes} {asked : List ℕ} {A : Type 0} (B : Refusal → Type 0) (e : Refusal) → (A → IsRefusalByFault e) → (A → B memory)
    → RefusedEffect old new given asked e A → RefusedEffect old new given asked e (B e)
refuses_fault B memory why to r = refuses_if to r
refuses_fault B storage why to r = record { acts = r.acts; answer = λ sound. inr (tt, r.fault refl); fault = r.fault }
refuses_fault {new = new} {A = A} B (not_compressed n) why to r = record { acts = r.acts; answer = λ sound. ⊎_elim (λ (a : new.is_sound × A). absurd (why a.1)) (λ h. inr h) (r.answer sound); fault = r.fault }
refuses_fault {new = new} {A = A} B (another n) why to r = record { acts = r.acts; answer = λ sound. ⊎_elim (λ (a : new.is_sound × A). absurd (why a.1)) (λ h. inr h) (r.answer sound); fault = r.fault }

module _ {old new : AbstractImage} {gs fewer : List GivenBytes} (within : IsWithin old gs fewer) where
  pub acts_less : CallEffect old new gs [] → CallEffect old new fewer []
  acts_less a = record { number = a.number; works = λ sound. works_less old new gs fewer [] within.values within.touches (a.works sound); rests = a.rests }

  pub does_less : {A : Type 0} → AnsweredEffect old new gs [] A → AnsweredEffect old new fewer [] A
  does_less d = record { acts = acts_less d.acts; answer = d.answer }

  pub refuses_less : {e : Refusal} {A : Type 0} → RefusedEffect old new gs [] e A → RefusedEffect old new fewer [] e A
  refuses_less r = record { acts = acts_less r.acts; answer = r.answer; fault = r.fault }

-- a call after one that was answered
module _ {old mid new : AbstractImage} {gs more : List GivenBytes} {A : Type 0} (within : old.is_sound → A → IsWithin mid more gs) (first : AnsweredEffect old mid gs [] A) where
  pub acts_then : CallEffect mid new more [] → CallEffect old new gs []
  acts_then acts = record {
    number = acts.number ∙ first.acts.number;
    works = λ sound. let a = first.answer sound in works_then old mid new gs [] a.0 (first.acts.works sound) (works_less mid new more gs [] (within sound a.1).values (within sound a.1).touches (acts.works a.0));
    rests = λ failed. let r = first.acts.rests failed in rests_then old mid new r (acts.rests r.failed);
  }

  pub does_then : {B : Type 0} → AnsweredEffect mid new more [] B → AnsweredEffect old new gs [] (A × B)
  does_then then = record { acts = acts_then then.acts; answer = λ sound. let a = first.answer sound in let b = then.answer a.0 in (b.0, (a.1, b.1)) }

  pub refuses_then : {e : Refusal} {B : Type 0} → RefusedEffect mid new more [] e B → RefusedEffect old new gs [] e (A × B)
  refuses_then {B = B} then = record {
    acts = acts_then then.acts;
    answer = λ sound. let a = first.answer sound in ⊎_elim (λ (b : new.is_sound × B). inl (b.0, (a.1, b.1))) (λ h. inr h) (then.answer a.0);
    fault = then.fault;
  }

-- a call that gives nothing, after one that was refused
module _ {old mid new : AbstractImage} {gs : List GivenBytes} {e : Refusal} {A B : Type 0} (fine : new.is_sound → new.is_failed ≡ false) (first : RefusedEffect old mid gs [] e A) (then : AnsweredEffect mid new [] [] B) where
  never : IsTrue mid.is_failed → new.is_sound → ⊥
  never failed sound = let t : new.is_failed ≡ true = (then.acts.rests failed).failed in let f : true ≡ false = sym t ∙ fine sound in cc

  works_broken : EffectOnSound old mid gs [] → IsTrue mid.is_failed → EffectOnSound old new gs []
  works_broken w failed = let r = then.acts.rests failed in record {
    setting = r.setting ∙ w.setting;
    surplus = λ sound. absurd (never failed sound);
    beside = λ sound. absurd (never failed sound);
    leaks = r.leaks ∙ w.leaks;
    stops = λ m starts. stops_resting old mid new gs [] r (never failed) m (w.stops m starts);
  }

  pub refused_then : RefusedEffect old new gs [] e (A × B)
  refused_then = record {
    acts = record {
      number = then.acts.number ∙ first.acts.number;
      works = λ sound. ⊎_elim
          (λ (a : mid.is_sound × A). works_then old mid new gs [] a.0 (first.acts.works sound) (works_less mid new [] gs [] (none_within mid gs).values (none_within mid gs).touches (then.acts.works a.0)))
          (λ (f : IsRefusalByFault e × IsTrue mid.is_failed). works_broken (first.acts.works sound) f.1) (first.answer sound);
      rests = λ failed. let r = first.acts.rests failed in rests_then old mid new r (then.acts.rests r.failed);
    };
    answer = λ sound. ⊎_elim
        (λ (a : mid.is_sound × A). let b = then.answer a.0 in inl (b.0, (a.1, b.1)))
        (λ (f : IsRefusalByFault e × IsTrue mid.is_failed). inr (f.0, (then.acts.rests f.1).failed)) (first.answer sound);
    fault = λ is. (then.acts.rests (first.fault is)).failed;
  }

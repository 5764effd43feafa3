use Rattle.qcow2_image.proofs.Lemmas.{filling_none, keeping_of_filling, keeping_of_read, hands_met, met_as, only_none}
use Rattle.std.proofs.Common.{◌≡◌, ◌+◌, ◌∙◌, inr, None, true, sym, subst, arith, rules, Result, ℕ}
use Rattle.qcow2_image.proofs.Common.{Raw, IsFoundWhole, IsMappedAs, handed_on, none_of, FitsTables, IsCacheHeld, MayFailLookingAgain, table_of, IfOk-weaker, on_ok_weaker, OnlyLooks, ImageError, MayFailFindingAgain, IsHeldAs, OutdatedMapping}
use Rattle.qcow2_alloc.specs.declared.error.ImageError.TheVariants.{Compressed}
use Rattle.qcow2_image.proofs.image.Qcow2.check_in_place.Goals as goal

pub returns-in_err-guest-clause-sound : goal.returns-in_err-guest-clause-sound
returns-in_err-guest-clause-sound g c = λ p out sound.
    record {
      keeps = search rules;
      may_fail = let none : table_of c.args.prepared.now ≡ None = none_of (sym c.if-is_some.false ∙ c.is_some.ensures) in
          hands_met (λ e. (table_of c.args.prepared.now ≡ None) × MayFailLookingAgain (IsCacheHeld c.args.self.now out) e) c.from_residual.result c.in_err-guest.field-0.0 c.from_residual.ensures (none, inr c.in_err-guest.ensures.cause);
      outdated = λ some is whole. absurd (let no = (whole.past c.in_err-guest.ensures.past).1 in omega arith);
      mapped = search rules;
      found = search rules;
    }

pub returns-clause-sound : goal.returns-clause-sound
returns-clause-sound g c = λ p out sound.
    let old = c.args.self.now in
    let view = g.S.Storage.view in
    record {
      keeps = (c.check_mapped.ensures.sound p out sound).keeps;
      may_fail = let none : table_of c.args.prepared.now ≡ None = none_of (sym c.if-is_some.false ∙ c.is_some.ensures) in
          met_as (MayFailLookingAgain (IsCacheHeld old out)) (λ e. (table_of c.args.prepared.now ≡ None) × MayFailLookingAgain (IsCacheHeld old out) e) c.check_mapped.result (λ e why. (none, why)) ((c.check_mapped.ensures.sound p out sound).may_fail);
      outdated = λ some is whole. (c.check_mapped.ensures.sound p out sound).outdated is (subst (λ o. IsFoundWhole view old o (Raw c.args.prepared.now.place c.args.host true) c.args.length) (sym c.in_ok-guest.ensures.place) whole);
      mapped = λ none some. IfOk-weaker c.check_mapped.result _ _ (λ done is. subst (λ o. IsMappedAs view c.check_mapped.new.self o (Raw c.args.prepared.now.place c.args.host true) c.args.length) c.in_ok-guest.ensures.place is)
          ((c.check_mapped.ensures.sound p out sound).mapped some);
      found = λ none. on_ok_weaker c.check_mapped.result (λ is. subst (λ o. IsFoundWhole view old o (Raw c.args.prepared.now.place c.args.host true) c.args.length) c.in_ok-guest.ensures.place is) ((c.check_mapped.ensures.sound p out sound).found);
    }

pub returns-in_err-guest-clause-held : goal.returns-in_err-guest-clause-held
returns-in_err-guest-clause-held g c = λ none some.
    handed_on (λ (r : Result _ _). FitsTables c.args.self.now c.args.self.now (c.args.prepared.now.guest + c.args.at) (Raw c.args.prepared.now.place c.args.host true) c.args.length r) c.from_residual.result c.in_err-guest.field-0.0 c.from_residual.ensures
    (let isnt : ¬ IsHeldAs c.args.self.now (c.args.prepared.now.guest + c.args.at) (Raw c.args.prepared.now.place c.args.host true) c.args.length = λ whole. let b = whole.below in let p = c.in_err-guest.ensures.past in omega (arith, b, p, some) in
    record { outdated = λ outdated. (isnt, isnt); compressed = λ compressed. let no : OutdatedMapping ≡ Compressed = sym c.in_err-guest.ensures.cause ∙ compressed in absurd cc })

pub returns-then-is_some-clause-step : goal.returns-then-is_some-clause-step
returns-then-is_some-clause-step g c = keeping_of_filling filling_none

pub returns-in_err-guest-clause-step : goal.returns-in_err-guest-clause-step
returns-in_err-guest-clause-step g c = keeping_of_filling filling_none

pub returns-clause-step : goal.returns-clause-step
returns-clause-step g c = keeping_of_read c.check_mapped.ensures.step

pub returns-then-is_some-clause-looks : goal.returns-then-is_some-clause-looks
returns-then-is_some-clause-looks g c = only_none g.S.Storage.view (c.args.prepared.now.guest + c.args.at) c.args.self.now

pub returns-in_err-guest-clause-looks : goal.returns-in_err-guest-clause-looks
returns-in_err-guest-clause-looks g c = only_none g.S.Storage.view (c.args.prepared.now.guest + c.args.at) c.args.self.now

pub returns-clause-looks : goal.returns-clause-looks
returns-clause-looks g c = subst (λ o. OnlyLooks g.S.Storage.view o c.args.self.now c.check_mapped.new.self) c.in_ok-guest.ensures.place c.check_mapped.ensures.looks

pub returns-clause-fails : goal.returns-clause-fails
returns-clause-fails g c = record {
  faults = search rules;
  cause = let none : table_of c.args.prepared.now ≡ None = none_of (sym c.if-is_some.false ∙ c.is_some.ensures) in
      let n = c.args.length in
      let Again : ℕ → ImageError → Type 0 = λ o. MayFailFindingAgain c.args.self.now c.check_mapped.new.self o n in
      met_as (Again c.in_ok-guest.guest) (λ e. (table_of c.args.prepared.now ≡ None) × Again (c.args.prepared.now.guest + c.args.at) e) c.check_mapped.result (λ e why. (none, subst (λ o. Again o e) c.in_ok-guest.ensures.place why)) c.check_mapped.ensures.fails.cause;
}

pub returns-in_err-guest-clause-fails : goal.returns-in_err-guest-clause-fails
returns-in_err-guest-clause-fails g c = record {
  faults = search rules;
  cause = let none : table_of c.args.prepared.now ≡ None = none_of (sym c.if-is_some.false ∙ c.is_some.ensures) in
      hands_met (λ e. (table_of c.args.prepared.now ≡ None) × MayFailFindingAgain c.args.self.now c.args.self.now (c.args.prepared.now.guest + c.args.at) c.args.length e) c.from_residual.result c.in_err-guest.field-0.0 c.from_residual.ensures (none, inr c.in_err-guest.ensures.cause);
}

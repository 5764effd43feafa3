use Rattle.std.proofs.Common.{◌≡◌, ◌≢◌, ◌+◌, ◌-◌, ◌<◌, ◌≤◌, ◌^◌, ◌⊎◌, inl, inr, ℕ, List, Option, Some, None, arith, subst, sym, ap, ◌∙◌}
use Rattle.std.proofs.lemmas.Bool.{cases_eq}
use Rattle.number_runs.specs.NumberRuns.{run_at, IsIn, AreApart, Adds}
use Rattle.number_runs.proofs.Runs.{gave, gave_it, gave_stays, gave_was, is_in, out_of, there}
use Rattle.number_runs.proofs.NumberRuns.give.Goals as goal

-- the two steps leave each run but the joined ones
step_others : (old mid new : List (ℕ × ℕ)) (first behind number : ℕ) → first ≤ number → ((k : ℕ) → k ≢ first → run_at mid k ≡ run_at old k) → (behind ≡ 0 → new ≡ mid) → ((k : ℕ) → k ≢ number + 1 → run_at new k ≡ run_at mid k)
    → (k : ℕ) → k ≢ first → ((k ≡ number + 1) × (0 < behind) → ⊥) → run_at new k ≡ run_at old k
step_others old mid new first behind number low put none gone k other unjoined = elim (cases_eq k (number + 1)) [
  | inl next ↦ elim (cases_eq behind 0) [
    | inl zero ↦ ap (λ es. run_at es k) (none zero) ∙ put k other
    | inr more ↦ absurd (unjoined (next, omega (arith, more)))
  ]
  | inr away ↦ gone k away ∙ put k other
]

below : (at : ℕ → Option ℕ) (first number : ℕ) → (first ≡ number) ⊎ ((first < number) × (at first ≡ Some (number - first))) → first ≤ number
below at first number left = elim left [ inl same ↦ omega (arith, same) | inr before ↦ let b = before.0 in omega (arith, b) ]

-- what the two steps leave
gives : (old mid new : List (ℕ × ℕ)) (first behind number : ℕ) → AreApart (run_at old) → number + 1 < 2 ^ 64 → (IsIn old number → ⊥)
    → (first ≡ number) ⊎ ((first < number) × (run_at old first ≡ Some (number - first))) → (behind ≡ 0) ⊎ ((0 < behind) × (run_at old (number + 1) ≡ Some behind))
    → run_at mid first ≡ Some (number - first + 1 + behind) → ((k : ℕ) → k ≢ first → run_at mid k ≡ run_at old k)
    → (0 < behind → run_at new (number + 1) ≡ None) → (behind ≡ 0 → new ≡ mid) → ((k : ℕ) → k ≢ number + 1 → run_at new k ≡ run_at mid k) → AreApart (run_at new) × Adds old new number 1
gives old mid new first behind number lie near out left right set put gone none others =
    let low = below (run_at old) first number left in
    let is : run_at new first ≡ Some (number - first + 1 + behind) = others first (λ same. omega (arith, same, low)) ∙ set in
    let rest = step_others old mid new first behind number low put none others in (
      gave (run_at old) (run_at new) first behind number lie near out left right is gone rest,
      record {
        added = λ k from under. subst (λ j. IsIn new j) (omega (arith, from, under)) (gave_it (run_at old) (run_at new) first behind number lie near out left right is gone rest);
        stays = gave_stays (run_at old) (run_at new) first behind number lie near out left right is gone rest;
        was = λ k is_now beside. gave_was (run_at old) (run_at new) first behind number lie near out left right is gone rest k (λ same. beside (omega (arith, same)) (omega (arith, same))) is_now;
      },
    )

pub returns-then-is_some-clause-given : goal.returns-then-is_some-clause-given
returns-then-is_some-clause-given c = λ is.
    there c.self.inside.runs.entries c.args.self.now c.self.view_is c.args.number (is_in c.self.inside.runs.entries c.args.number c.find.result (sym c.is_some.ensures ∙ c.if-is_some.true) c.find.ensures.run c.find.ensures.within)

pub invariant_of-self : goal.invariant_of-self
invariant_of-self c = record {
  apart = subst (λ es. AreApart (run_at es)) (sym (c.put.ensures.refused c.if-not-put.true)) c.self.invariant.apart;
  few = c.put.ensures.few c.self.invariant.few;
}

pub invariant_of-self-2 : goal.invariant_of-self-2
invariant_of-self-2 c =
    let out = out_of c.self.inside.runs.entries c.args.number c.find.result (sym c.is_some.ensures ∙ c.if-is_some.false) c.find.ensures.none in
    let here = c.if-number-eq18446744073709551615.false in
    let fits = c.ranges.number.fits in
    record {
      apart = (gives c.self.inside.runs.entries c.put.new.runs.entries c.drop_run.new.runs.entries c.begin_before-first.result c.length_at-behind.result c.args.number c.self.invariant.apart (omega (arith, here, fits)) out
          c.begin_before-first.ensures c.length_at-behind.ensures.run (c.put.ensures.some c.if-not-put.false (omega arith)) c.put.ensures.others c.drop_run.ensures.gone c.drop_run.ensures.none c.drop_run.ensures.others).0;
      few = let a = c.put.ensures.few c.self.invariant.few in let b = c.drop_run.ensures.few in omega (arith, a, b);
    }

pub returns-clause-given : goal.returns-clause-given
returns-clause-given c = λ is.
    let out = out_of c.self.inside.runs.entries c.args.number c.find.result (sym c.is_some.ensures ∙ c.if-is_some.false) c.find.ensures.none in
    let here = c.if-number-eq18446744073709551615.false in
    let fits = c.ranges.number.fits in
    subst (λ es. Adds es c.drop_run.new.runs.entries c.args.number 1) c.self.view_is
    (gives c.self.inside.runs.entries c.put.new.runs.entries c.drop_run.new.runs.entries c.begin_before-first.result c.length_at-behind.result c.args.number c.self.invariant.apart (omega (arith, here, fits)) out
    c.begin_before-first.ensures c.length_at-behind.ensures.run (c.put.ensures.some c.if-not-put.false (omega arith)) c.put.ensures.others c.drop_run.ensures.gone c.drop_run.ensures.none c.drop_run.ensures.others).1

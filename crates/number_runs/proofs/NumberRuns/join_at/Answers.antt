use Rattle.std.proofs.Common.{◌≡◌, ◌≢◌, ◌+◌, ◌<◌, ◌≤◌, ◌⊎◌, inl, inr, ℕ, List, Option, Some, None, arith, subst, ◌∙◌}
use Rattle.std.proofs.lemmas.Bool.Decides.{nat_tests}
use Rattle.number_runs.specs.NumberRuns.{run_at, AreApart, SameNumbers}
use Rattle.number_runs.proofs.Runs.{joined_apart, joined_stays, joined_was}
use Rattle.number_runs.proofs.NumberRuns.join_at.Goals as goal

some_behind : (at : ℕ → Option ℕ) (number behind : ℕ) → (behind ≡ 0) ⊎ ((0 < behind) × (at number ≡ Some behind)) → behind ≢ 0 → (0 < behind) × (at number ≡ Some behind)
some_behind at number behind is some = elim is [ inl zero ↦ absurd (some zero) | inr so ↦ so ]

-- what the two steps leave
joins : (old mid new : List (ℕ × ℕ)) (first n number behind : ℕ) → AreApart (run_at old) → run_at old first ≡ Some n → first < number → number ≤ first + n → run_at old number ≡ Some behind → 0 < behind
    → (0 < n + behind → run_at mid first ≡ Some (n + behind)) → ((k : ℕ) → k ≢ first → run_at mid k ≡ run_at old k) → (0 < behind → run_at new number ≡ None) → ((k : ℕ) → k ≢ number → run_at new k ≡ run_at mid k)
    → AreApart (run_at new) × SameNumbers old new
joins old mid new first n number behind lie run less over next some set put gone others =
    let le = lie.apart first n number behind run next less in
    let ends : first + n ≡ number = omega (arith, le, over) in
    let other : first ≢ number = λ same. omega (arith, same, less) in
    let set' : run_at new first ≡ Some (n + behind) = others first other ∙ set (omega (arith, some)) in
    let both : (k : ℕ) → k ≢ first → k ≢ number → run_at new k ≡ run_at old k = λ k a b. others k b ∙ put k a in (
      joined_apart (run_at old) (run_at new) first n number behind lie run ends next set' (gone some) both,
      (λ k. (
        joined_stays (run_at old) (run_at new) first n number behind lie run ends next set' (gone some) both k,
        joined_was (run_at old) (run_at new) first n number behind lie run ends next set' (gone some) both k,
      )),
    )

pub returns-in-Some : goal.returns-in-Some
returns-in-Some c =
    let some = some_behind (run_at c.self.inside.runs.entries) c.args.number c.length_at-behind.result c.length_at-behind.ensures.run c.if-behind-eq0.false in
    let low = c.in-Some.ensures.within in
    let asked = c.length_at-behind.ensures.asked some.0 in
    let up : 0 < c.args.number = grind (arith, nat_tests, asked) in
    subst (λ es. SameNumbers es c.drop_run.new.runs.entries) c.self.view_is
    (joins c.self.inside.runs.entries c.set_length.new.runs.entries c.drop_run.new.runs.entries c.in-Some.first c.in-Some.n c.args.number c.length_at-behind.result c.self.invariant.apart c.in-Some.ensures.run
    (let a = low.0 in omega (arith, a, up)) (let b = low.1 in omega (arith, b, up)) some.1 some.0 c.set_length.ensures.some c.set_length.ensures.others c.drop_run.ensures.gone c.drop_run.ensures.others).1

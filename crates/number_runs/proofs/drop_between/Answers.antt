use Rattle.std.proofs.Common.{◌≡◌, ◌≤◌, inl, inr, ℕ, List, Some, length, arith, refl, sym, subst, ◌∙◌}
use Rattle.std.proofs.lemmas.Bool.{cases_eq}
use Rattle.number_runs.specs.NumberRuns.{run_at, AreKept}
use Rattle.number_runs.proofs.Runs.{not_at, not_both, shorter, forgot, fewer}
use Rattle.number_runs.proofs.drop_between.Goals as goal

-- runs that were there before are apart, and no more than then
kept : (old new : List (ℕ × ℕ)) (most : ℕ) → AreKept old most → ((k n : ℕ) → run_at new k ≡ Some n → run_at old k ≡ Some n) → length new ≤ length old → AreKept new most
kept old new most are was few = record { apart = fewer (run_at old) (run_at new) are.apart was; few = let m = are.few in omega (arith, m, few) }

pub dropping-init : goal.dropping-init
dropping-init c = record { was = λ k n is. is; below = λ k less. refl; behind = λ k from. refl; few = omega arith }

pub returns-then-at-end-clause-kept : goal.returns-then-at-end-clause-kept
returns-then-at-end-clause-kept c = kept _ _ _ c.requires.kept c.dropping.invariant.was c.dropping.invariant.few

pub returns-then-at-end-clause-forgets : goal.returns-then-at-end-clause-forgets
returns-then-at-end-clause-forgets c =
    let i = c.dropping.invariant in
    let past = c.if-at-end.true in
    forgot c.args.runs.now.entries c.dropping.runs.entries c.args.first c.args.end c.requires.begins c.requires.ends i.was i.below i.behind (λ k from up_to. c.in-Some.ensures.between k from (omega (arith, past, up_to)))

pub dropping-smaller : goal.dropping-smaller
dropping-smaller c = shorter c.remove.result c.in-Some.field-0-1 _ _ (c.remove.ensures.value ∙ c.in-Some.ensures.run) c.remove.ensures.len

pub dropping-preserved : goal.dropping-preserved
dropping-preserved c =
    let i = c.dropping.invariant in
    let u = c.remove.ensures.updates in
    let low = c.in-Some.ensures.from in
    let up_to = c.if-at-end.false in
    let less = shorter c.remove.result c.in-Some.field-0-1 _ _ (c.remove.ensures.value ∙ c.in-Some.ensures.run) c.remove.ensures.len in
    record {
      was = λ k n is. elim (cases_eq k c.in-Some.at) [
        | inl same ↦ absurd (not_both (run_at c.remove.new.self.entries c.in-Some.at) n (subst (λ q. run_at c.remove.new.self.entries q ≡ Some n) same is) u.1)
        | inr other ↦ i.was k n (sym (u.2 k (not_at c.in-Some.at k other)) ∙ is)
      ];
      below = λ k less. u.2 k (not_at c.in-Some.at k (λ same. omega (arith, low, less, same))) ∙ i.below k less;
      behind = λ k from. u.2 k (not_at c.in-Some.at k (λ same. omega (arith, up_to, from, same))) ∙ i.behind k from;
      few = let was = i.few in omega (arith, less, was);
    }

pub returns-clause-kept : goal.returns-clause-kept
returns-clause-kept c = kept _ _ _ c.requires.kept c.dropping.invariant.was c.dropping.invariant.few

pub returns-clause-forgets : goal.returns-clause-forgets
returns-clause-forgets c =
    let i = c.dropping.invariant in
    forgot c.args.runs.now.entries c.dropping.runs.entries c.args.first c.args.end c.requires.begins c.requires.ends i.was i.below i.behind (λ k from up_to. c.in_default.ensures.none refl k from)

use Rattle.std.proofs.Common.{◌≡◌, ◌≢◌, ◌+◌, ◌-◌, ◌<◌, ◌≤◌, ℕ, List, Some, None, arith, ap, ◌∙◌}
use Rattle.number_runs.specs.NumberRuns.{run_at, AreApart, Forgets, IsParted}
use Rattle.number_runs.proofs.Runs.{cut_apart, cut_gone, cut_before, cut_behind, cut_was, cut_finer}
use Rattle.number_runs.proofs.cut.Goals as goal

-- what the two steps of a cut leave
record Cuts (old new : List (ℕ × ℕ)) (low high : ℕ) : Type 0 where
  apart : AreApart (run_at new)
  cut : Forgets old new low high
  finer : (j : ℕ) → IsParted old j → IsParted new j

cuts : (old mid new : List (ℕ × ℕ)) (first n low high left right : ℕ) → AreApart (run_at old) → run_at old first ≡ Some n → first ≤ low → low ≤ high → first < high → first + left ≡ low → high + right ≡ first + n
    → (0 < right → run_at mid high ≡ Some right) → (right ≡ 0 → mid ≡ old) → ((k : ℕ) → k ≢ high → run_at mid k ≡ run_at old k)
    → (0 < left → run_at new first ≡ Some left) → (left ≡ 0 → run_at new first ≡ None) → ((k : ℕ) → k ≢ first → run_at new k ≡ run_at mid k) → Cuts old new low high
cuts old mid new first n low high left right lie run from in_order past left_is right_is behind last put before none set =
    let next : high ≢ first = λ same. omega (arith, past, same) in
    let others : (k : ℕ) → k ≢ first → k ≢ high → run_at new k ≡ run_at old k = λ k a b. set k a ∙ put k b in
    let more : 0 < right → run_at new high ≡ Some right = λ m. set high next ∙ behind m in
    let end : right ≡ 0 → run_at new high ≡ run_at old high = λ zero. set high next ∙ ap (λ es. run_at es high) (last zero) in
    record {
      apart = cut_apart (run_at old) (run_at new) first n low high left right lie run from in_order past left_is right_is before none more end others;
      cut = record {
        gone = cut_gone (run_at old) (run_at new) first n low high left right lie run from in_order past left_is right_is before none more end others;
        before = cut_before (run_at old) (run_at new) first n low high left right lie run from in_order past left_is right_is before none more end others;
        behind = cut_behind (run_at old) (run_at new) first n low high left right lie run from in_order past left_is right_is before none more end others;
        was = cut_was (run_at old) (run_at new) first n low high left right lie run from in_order past left_is right_is before none more end others;
      };
      finer = λ j parted. cut_finer (run_at old) (run_at new) first n low high left right lie run from in_order past left_is right_is before none more end others j (λ s m. parted s m);
    }

pub returns-clause-kept : goal.returns-clause-kept
returns-clause-kept c =
    let from = c.requires.order.0 in
    let order = c.requires.order.1 in
    let past = c.requires.past in
    let below = c.requires.below in
    let put = c.put.ensures in
    let cut = c.set_length.ensures in
    record {
      apart = (cuts c.args.runs.now.entries c.put.new.runs.entries c.set_length.new.runs.entries c.args.run.0 c.args.run.1 c.args.low c.args.high (c.args.low - c.args.run.0) (c.args.run.1 - (c.args.high - c.args.run.0))
          c.requires.kept.apart c.requires.run from order past (omega (arith, from)) (omega (arith, past, below)) (put.some c.if-not-put.false) (λ zero. (put.none zero).1) put.others cut.some cut.none cut.others).apart;
      few = let a = put.few c.requires.kept.few in let b = cut.few in omega (arith, a, b);
    }

pub returns-clause-cut : goal.returns-clause-cut
returns-clause-cut c = λ is.
    let from = c.requires.order.0 in
    let order = c.requires.order.1 in
    let past = c.requires.past in
    let below = c.requires.below in
    let put = c.put.ensures in
    let cut = c.set_length.ensures in
    (cuts c.args.runs.now.entries c.put.new.runs.entries c.set_length.new.runs.entries c.args.run.0 c.args.run.1 c.args.low c.args.high (c.args.low - c.args.run.0) (c.args.run.1 - (c.args.high - c.args.run.0))
    c.requires.kept.apart c.requires.run from order past (omega (arith, from)) (omega (arith, past, below)) (put.some c.if-not-put.false) (λ zero. (put.none zero).1) put.others cut.some cut.none cut.others).cut

pub returns-clause-finer : goal.returns-clause-finer
returns-clause-finer c =
    let from = c.requires.order.0 in
    let order = c.requires.order.1 in
    let past = c.requires.past in
    let below = c.requires.below in
    let put = c.put.ensures in
    let cut = c.set_length.ensures in
    (cuts c.args.runs.now.entries c.put.new.runs.entries c.set_length.new.runs.entries c.args.run.0 c.args.run.1 c.args.low c.args.high (c.args.low - c.args.run.0) (c.args.run.1 - (c.args.high - c.args.run.0))
    c.requires.kept.apart c.requires.run from order past (omega (arith, from)) (omega (arith, past, below)) (put.some c.if-not-put.false) (λ zero. (put.none zero).1) put.others cut.some cut.none cut.others).finer

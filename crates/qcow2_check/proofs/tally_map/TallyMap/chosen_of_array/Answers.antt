use Rattle.std.proofs.Common.{◌≡◌, ◌∷◌, ◌++◌, ℕ, List, [], sym, ap, ◌∙◌}
use Rattle.qcow2_check.proofs.Common.{Tally, tally_in, lines, takes, shown, numbered}
use Rattle.qcow2_check.proofs.Rising.{lines-none, lines-passed, lines-failed}
use Rattle.qcow2_check.proofs.tally_map.TallyMap.chosen_of_array.Goals as goal
use Rattle.qcow2_check.proofs.tally_map.TallyMap.chosen_of_array.Goals.{then-takes+in_ok-push, else-takes}

pub loop-cluster-init : goal.loop-cluster-init
loop-cluster-init c = c.new-chosen.ensures.items ∙ sym (lines-none (takes c.args.choice) numbered (λ q. shown c.args.choice q (tally_in c.args.self.now q)))

pub loop-cluster-preserved : goal.loop-cluster-preserved
loop-cluster-preserved c =
    let test = takes c.args.choice in
    let t : ℕ → Tally = λ q. shown c.args.choice q (tally_in c.args.self.now q) in
    let n = c.loop-cluster.cluster in
    let value : c.shown-tally.result ≡ t n = c.shown-tally.ensures ∙ ap (shown c.args.choice n) c.get.ensures in
    let told : test (t n) ≡ c.takes.result = ap test (sym value) ∙ sym c.takes.ensures in
    elim c.if-takes.branch [
      | then-takes+in_ok-push w ↦
          ap (λ v. v.items) w.chosen-is ∙ w.in_ok-push.ensures.items
          ∙ ap (λ (xs : List (ℕ × Tally)). xs ++ ((n, c.shown-tally.result) ∷ [])) c.loop-cluster.invariant
          ∙ ap (λ (u : Tally). lines n test numbered t ++ ((n, u) ∷ [])) value
          ∙ sym (lines-passed test numbered t n (told ∙ w.if-takes.true))
      | else-takes w ↦ ap (λ v. v.items) w.chosen-is ∙ c.loop-cluster.invariant ∙ sym (lines-failed test numbered t n (told ∙ w.if-takes.false))
    ]

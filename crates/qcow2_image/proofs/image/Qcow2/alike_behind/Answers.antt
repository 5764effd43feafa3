use Rattle.std.proofs.Common.{◌≡◌, ◌+◌, ◌*◌, ◌<◌, ◌≤◌, ⊎_elim, ℕ, ap, ◌∙◌, subst, arith, inl, inr}
use Rattle.qcow2_image.proofs.Common.{cases_lt, L2TableView, IsAlike, mapping_of, IsAlikeTo, AreAlikeBehind, HasUnalignedBehind, IsUnalignedIn, UnalignedTable}
use Rattle.qcow2_image.proofs.Lemmas.{hands_met}
use Rattle.qcow2_image.proofs.image.Qcow2.alike_behind.Goals as goal

one_more : (n size : ℕ) → (n + 1) * size ≡ n * size + size
one_more n size = omega arith

behind_more : (t : L2TableView) (cluster n : ℕ) → AreAlikeBehind t cluster n → IsAlikeTo t cluster (n + 1) → AreAlikeBehind t cluster (n + 1)
behind_more t cluster n before here k some le =
    ⊎_elim (λ (lt : k < n + 1). before k some (omega (arith, lt))) (λ (ge : n + 1 ≤ k). let is : n + 1 ≡ k = omega (arith, ge, le) in subst (IsAlikeTo t cluster) is here) (cases_lt k (n + 1))

pub loop-count-init : goal.loop-count-init
loop-count-init g c = record { near = let some = c.cluster_size-size.ensures.some in omega arith; alike = λ k some le. absurd (let s = some in let l = le in omega arith) }

pub loop-count-smaller : goal.loop-count-smaller
loop-count-smaller g c =
    let more = one_more c.loop-count.count c.cluster_size-size.result in
    let some = c.cluster_size-size.ensures.some in
    let before = c.loop-count-test.true in
    omega arith

pub loop-count-preserved : goal.loop-count-preserved
loop-count-preserved g c =
    let more = one_more c.loop-count.count c.cluster_size-size.result in
    let all = ap (λ n. (c.loop-count.count + 1) * n) c.cluster_size-size.ensures.value in
    let before = c.loop-count-test.true in
    let found = c.in_ok-are_alike.ensures.alike.0 c.if-not-branch.false in
    record {
      near = omega arith;
      alike = behind_more c.args.table.now c.args.cluster c.loop-count.count c.loop-count.invariant.alike
          (subst (λ n. IsAlike n (mapping_of c.args.table.now c.args.cluster) (mapping_of c.args.table.now (c.args.cluster + (c.loop-count.count + 1)))) all
          (subst (λ n. IsAlike ((c.loop-count.count + 1) * c.cluster_size-size.result) (mapping_of c.args.table.now c.args.cluster) (mapping_of c.args.table.now n)) (c.new-next.ensures ∙ omega arith) found));
    }

pub returns-in_err-are_alike-clause-cause : goal.returns-in_err-are_alike-clause-cause
returns-in_err-are_alike-clause-cause g c =
    let t = c.args.table.now in
    let k = c.loop-count.count in
    let at : c.new-next.result ≡ c.args.cluster + k + 1 = c.new-next.ensures ∙ omega arith in
    hands_met (λ e. (e ≡ UnalignedTable) × HasUnalignedBehind t c.args.cluster c.args.max) c.from_residual.result c.in_err-are_alike.field-0.0 c.from_residual.ensures (
      c.in_err-are_alike.ensures.cause.0,
      ⊎_elim (λ first. inl first)
          (λ next. inr (k, subst (λ n. k * n < c.args.max) c.cluster_size-size.ensures.value c.loop-count-test.true, subst (IsUnalignedIn t) at next)) c.in_err-are_alike.ensures.cause.1,
    )

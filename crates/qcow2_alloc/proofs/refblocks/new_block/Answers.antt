use Rattle.std.proofs.Common.{◌≡◌, ◌+◌, ◌-◌, ◌^◌, ◌<◌, inl, inr, ℕ, Bool, true, false, IsTrue, IsFalse, refl, sym, ap, ◌∙◌, subst, arith}
use Rattle.qcow2_alloc.proofs.Common.{cases_eq, cond-false, ne_eqb, pow_pos, RefBlockView, IsRefBlock, ChangesCount, count_at, count_limit, counts_of, one_at, first_counts}
use Rattle.qcow2_metadata.proofs.Sizes.{counts_in_block}
use Rattle.qcow2_alloc.proofs.FileSteps.{one_here}
use Rattle.qcow2_alloc.proofs.refblocks.new_block.Goals.{then-counts_itself+then-counts-gt0, else-counts_itself, else-counts_itself-via-then-counts_itself+else-counts-gt0, else-counts_itself-via-else-counts_itself}
use Rattle.qcow2_alloc.proofs.RunBlocks.{limit_above}
use Rattle.qcow2_alloc.proofs.refblocks.new_block.Goals as goal

-- a first count that is 0 rises
raised : (old new : RefBlockView) (done : Bool) → ((i : ℕ) → count_at old i ≡ 0) → (IsFalse done → count_at old 0 + 1 ≡ count_limit old)
    → (IsTrue done → ChangesCount old.refcount_order old.bytes new.bytes 0 (count_at old 0 + 1)) → (IsTrue done → new.refcount_order ≡ old.refcount_order) → (i : ℕ) → count_at new i ≡ one_at 0 i
raised old new false zeros full counted same i = absurd (let two = limit_above (2 ^ old.refcount_order) (pow_pos old.refcount_order) in let is = full refl in let none = zeros 0 in omega arith)
raised old new true zeros full counted same i =
    let changed = counted refl in
    let order = ap (λ (o : ℕ). count_at (record new { refcount_order = o }) i) (same refl) in
    elim (cases_eq i 0) [
      | inl e ↦ order ∙ ap (λ k. count_at (record new { refcount_order = old.refcount_order }) k) e ∙ changed.count_is ∙ ap (λ n. n + 1) (zeros 0) ∙ sym (one_here 0) ∙ ap (one_at 0) (sym e)
      | inr other ↦ order ∙ changed.others i other ∙ zeros i ∙ sym (cond-false {A = ℕ} _ 1 0 (ne_eqb i 0 other))
    ]

some_counts : (b : RefBlockView) → IsRefBlock b → 0 < counts_of b
some_counts b whole =
    let bits = whole.bits.0 in
    let order = whole.order in
    subst (λ n. 0 < n) (sym (counts_in_block b.cluster_bits b.refcount_order (omega arith))) (pow_pos (b.cluster_bits + 3 - b.refcount_order))

pub returns-clause-counts : goal.returns-clause-counts
returns-clause-counts c = λ i.
    let zeros = c.in_ok-block.ensures.zeros in
    elim c.if-counts_itself.branch [
      | then-counts_itself+then-counts-gt0 w ↦
          ap (λ (b : RefBlockView). count_at b i) w.block-is
          ∙ raised c.in_ok-block.block w.increment.new.self w.increment.result zeros w.increment.ensures.full w.increment.ensures.counted (λ done. ap (λ (b : RefBlockView). b.refcount_order) (w.increment.ensures.same done)) i
          ∙ ap (λ d. first_counts d i) (sym w.if-counts_itself.true)
      | else-counts_itself w ↦ elim w.else-counts_itself.branch [
        | else-counts_itself-via-then-counts_itself+else-counts-gt0 w' ↦ absurd (let some = some_counts c.in_ok-block.block w'.counts.ensures.whole in let is = w'.counts.ensures.value in let none = w'.if-counts-gt0.false in omega arith)
        | else-counts_itself-via-else-counts_itself w' ↦ ap (λ (b : RefBlockView). count_at b i) w.block-is ∙ zeros i ∙ ap (λ d. first_counts d i) (sym w'.if-counts_itself.false)
      ]
    ]

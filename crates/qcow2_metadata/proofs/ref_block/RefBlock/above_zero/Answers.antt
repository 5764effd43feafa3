use Rattle.qcow2_metadata.proofs.Common.{length, ◌∙◌, sym, ap, subst, arith, count_in, IsRefBlock}
use Rattle.qcow2_metadata.proofs.FirstZero.{ones_within}
use Rattle.qcow2_metadata.proofs.ref_block.RefBlock.above_zero.Goals as goal

pub are_ones-requires-clause-inside : goal.are_ones-requires-clause-inside
are_ones-requires-clause-inside c =
    let narrow = sym (ap (λ b. b.refcount_order) c.self.view_is) ∙ c.if-self-eq0.true in
    let within = ones_within c.args.self.now c.args.index (subst IsRefBlock c.self.view_is c.self.invariant.whole) narrow c.if-index-eq0.true c.requires in
    let many = within.0 in
    let room = within.1 in
    let bytes = ap length (c.deref.ensures.value ∙ ap (λ b. b.bytes) c.self.view_is) in
    omega (arith, many, room, bytes)

pub returns-then-are_ones-clause-within : goal.returns-then-are_ones-clause-within
returns-then-are_ones-clause-within c =
    let narrow = sym (ap (λ b. b.refcount_order) c.self.view_is) ∙ c.if-self-eq0.true in
    (ones_within c.args.self.now c.args.index (subst IsRefBlock c.self.view_is c.self.invariant.whole) narrow c.if-index-eq0.true c.requires).1

pub returns-then-are_ones-clause-above : goal.returns-then-are_ones-clause-above
returns-then-are_ones-clause-above c = λ k low high none.
    let narrow = sym (ap (λ b. b.refcount_order) c.self.view_is) ∙ c.if-self-eq0.true in
    let bytes = c.deref.ensures.value ∙ ap (λ b. b.bytes) c.self.view_is in
    c.are_ones.ensures c.if-are_ones.true k low high
    (ap (λ b. count_in 0 b k) bytes ∙ ap (λ order. count_in order c.args.self.now.bytes k) (sym narrow) ∙ none)

use Rattle.std.proofs.Common.{◌≡◌, ◌≢◌, ◌+◌, ◌/◌, ◌^◌, true, false, ap, sym, subst, refl, ◌∙◌, arith}
use Rattle.qcow2_alloc.proofs.Common.{block_offset, EntryTableView, entry_count, entry_at, NamesBlockIn, Spares, Allocator}
use Rattle.qcow2_alloc.proofs.SparedClusters.{block_more, block_none, named_rest, spares_none}
use Rattle.qcow2_alloc.proofs.allocation.Allocator.spare_refblocks.Goals.{in-Some+else-not-spare, in_default}
use Rattle.qcow2_alloc.proofs.allocation.Allocator.spare_refblocks.Goals as goal

pub sparing-init : goal.sparing-init
sparing-init c = record {
  rest = refl;
  within = omega arith;
  spares = spares_none (NamesBlockIn (2 ^ c.args.bits) 0 c.args.self.now.reftable) c.args.self.now.named (λ k is. let low = is.within in omega (arith, low));
}

pub sparing-preserved : goal.sparing-preserved
sparing-preserved c = elim c.match-get.branch [
  | in-Some+else-not-spare w ↦
      let is : w.in-Some.offset ≡ block_offset (entry_at c.args.self.now.reftable.bytes c.sparing.range) = w.in-Some.ensures.offset ∙ ap (λ (t : EntryTableView). block_offset (entry_at t.bytes c.sparing.range)) (ap (λ (x : Allocator). x.reftable) c.sparing.invariant.rest) in
      let some : block_offset (entry_at c.args.self.now.reftable.bytes c.sparing.range) ≢ 0 = λ none. absurd (let above = w.in-Some.ensures.some in omega (arith, above, is, none)) in
      let here : block_offset (entry_at c.args.self.now.reftable.bytes c.sparing.range) / 2 ^ c.args.bits ≡ w.value.result = ap (λ n. n / 2 ^ c.args.bits) (sym is) ∙ sym w.cluster.ensures ∙ sym w.value.ensures in
      record {
        rest = subst (λ (x : Allocator). x ≡ record c.args.self.now { named = x.named }) (sym w.self-is) (named_rest c.args.self.now c.sparing.self w.spare.new.self c.sparing.invariant.rest w.spare.ensures.rest);
        within = let lt = c.sparing-test.true in let is_end = c.len-range-end.ensures.value in omega (arith, lt, is_end);
        spares = subst (λ (x : Allocator). Spares (NamesBlockIn (2 ^ c.args.bits) (c.sparing.range + 1) c.args.self.now.reftable) c.args.self.now.named x.named true) (sym w.self-is)
            (block_more (2 ^ c.args.bits) c.sparing.range (c.sparing.range + 1) w.value.result c.args.self.now.reftable c.args.self.now.named c.sparing.self.named w.spare.new.self.named true (omega arith) some here (λ _. refl) c.sparing.invariant.spares
            (rw w.if-not-spare.false at w.spare.ensures.spares));
      }
  | in_default w ↦ record {
    rest = subst (λ (x : Allocator). x ≡ record c.args.self.now { named = x.named }) (sym w.self-is) c.sparing.invariant.rest;
    within = let lt = c.sparing-test.true in let is_end = c.len-range-end.ensures.value in omega (arith, lt, is_end);
    spares = subst (λ (x : Allocator). Spares (NamesBlockIn (2 ^ c.args.bits) (c.sparing.range + 1) c.args.self.now.reftable) c.args.self.now.named x.named true) (sym w.self-is)
        (block_none (2 ^ c.args.bits) c.sparing.range c.args.self.now.reftable c.args.self.now.named c.sparing.self.named (sym (ap (λ (t : EntryTableView). block_offset (entry_at t.bytes c.sparing.range)) (ap (λ (x : Allocator). x.reftable) c.sparing.invariant.rest)) ∙ rw w.in_default.is at c.get.ensures.none) c.sparing.invariant.spares);
  }
]

pub returns-then-not-spare-clause-spares : goal.returns-then-not-spare-clause-spares
returns-then-not-spare-clause-spares c =
    let is : c.in-Some.offset ≡ block_offset (entry_at c.args.self.now.reftable.bytes c.sparing.range) = c.in-Some.ensures.offset ∙ ap (λ (t : EntryTableView). block_offset (entry_at t.bytes c.sparing.range)) (ap (λ (x : Allocator). x.reftable) c.sparing.invariant.rest) in
    let some : block_offset (entry_at c.args.self.now.reftable.bytes c.sparing.range) ≢ 0 = λ none. absurd (let above = c.in-Some.ensures.some in omega (arith, above, is, none)) in
    let here : block_offset (entry_at c.args.self.now.reftable.bytes c.sparing.range) / 2 ^ c.args.bits ≡ c.value.result = ap (λ n. n / 2 ^ c.args.bits) (sym is) ∙ sym c.cluster.ensures ∙ sym c.value.ensures in
    block_more (2 ^ c.args.bits) c.sparing.range (entry_count c.args.self.now.reftable) c.value.result c.args.self.now.reftable c.args.self.now.named c.sparing.self.named c.spare.new.self.named false (let lt = c.sparing-test.true in let is_end = c.len-range-end.ensures.value in omega (arith, lt, is_end)) some here
    (λ so. absurd (let bad : false ≡ true = so in cc)) c.sparing.invariant.spares (rw c.if-not-spare.true at c.spare.ensures.spares)

pub returns-clause-spares : goal.returns-clause-spares
returns-clause-spares c =
    let all : c.sparing.range ≡ entry_count c.args.self.now.reftable = let within = c.sparing.invariant.within in let past = c.sparing-test.false in let is_end = c.len-range-end.ensures.value in omega (arith, within, past, is_end) in
    subst (λ n. Spares (NamesBlockIn (2 ^ c.args.bits) n c.args.self.now.reftable) c.args.self.now.named c.sparing.self.named true) all c.sparing.invariant.spares

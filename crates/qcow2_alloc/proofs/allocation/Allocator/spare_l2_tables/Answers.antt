use Rattle.std.proofs.Common.{◌≡◌, ◌≢◌, ◌+◌, ◌/◌, ◌^◌, true, false, ap, sym, subst, refl, ◌∙◌, arith}
use Rattle.qcow2_alloc.proofs.Common.{host_offset, entry_count, entry_at, NamesTableIn, Spares, Allocator}
use Rattle.qcow2_alloc.proofs.SparedClusters.{table_more, table_none, named_rest, spares_none}
use Rattle.qcow2_alloc.proofs.allocation.Allocator.spare_l2_tables.Goals.{in-Some+else-not-spare, in_default}
use Rattle.qcow2_alloc.proofs.allocation.Allocator.spare_l2_tables.Goals as goal

pub sparing-init : goal.sparing-init
sparing-init c = record {
  rest = refl;
  within = omega arith;
  spares = spares_none (NamesTableIn (2 ^ c.args.bits) 0 c.args.l1_table.now) c.args.self.now.named (λ k is. let low = is.within in omega (arith, low));
}

pub sparing-preserved : goal.sparing-preserved
sparing-preserved c = elim c.match-get.branch [
  | in-Some+else-not-spare w ↦
      let is : w.in-Some.entry.offset ≡ host_offset (entry_at c.args.l1_table.now.bytes c.sparing.index) = w.in-Some.ensures.offset in
      let some : host_offset (entry_at c.args.l1_table.now.bytes c.sparing.index) ≢ 0 = λ none. absurd (let above = w.in-Some.ensures.some in omega (arith, above, is, none)) in
      let here : host_offset (entry_at c.args.l1_table.now.bytes c.sparing.index) / 2 ^ c.args.bits ≡ w.value.result = ap (λ n. n / 2 ^ c.args.bits) (sym is) ∙ sym w.cluster.ensures ∙ sym w.value.ensures in
      record {
        rest = subst (λ (x : Allocator). x ≡ record c.args.self.now { named = x.named }) (sym w.self-is) (named_rest c.args.self.now c.sparing.self w.spare.new.self c.sparing.invariant.rest w.spare.ensures.rest);
        within = let lt = c.sparing-test.true in let is_end = c.len-index-end.ensures.value in omega (arith, lt, is_end);
        spares = subst (λ (x : Allocator). Spares (NamesTableIn (2 ^ c.args.bits) (c.sparing.index + 1) c.args.l1_table.now) c.args.self.now.named x.named true) (sym w.self-is)
            (table_more (2 ^ c.args.bits) c.sparing.index (c.sparing.index + 1) w.value.result c.args.l1_table.now c.args.self.now.named c.sparing.self.named w.spare.new.self.named true (omega arith) some here (λ _. refl) c.sparing.invariant.spares
            (rw w.if-not-spare.false at w.spare.ensures.spares));
      }
  | in_default w ↦ record {
    rest = subst (λ (x : Allocator). x ≡ record c.args.self.now { named = x.named }) (sym w.self-is) c.sparing.invariant.rest;
    within = let lt = c.sparing-test.true in let is_end = c.len-index-end.ensures.value in omega (arith, lt, is_end);
    spares = subst (λ (x : Allocator). Spares (NamesTableIn (2 ^ c.args.bits) (c.sparing.index + 1) c.args.l1_table.now) c.args.self.now.named x.named true) (sym w.self-is)
        (table_none (2 ^ c.args.bits) c.sparing.index c.args.l1_table.now c.args.self.now.named c.sparing.self.named (rw w.in_default.is at c.get.ensures.none) c.sparing.invariant.spares);
  }
]

pub returns-then-not-spare-clause-spares : goal.returns-then-not-spare-clause-spares
returns-then-not-spare-clause-spares c =
    let is : c.in-Some.entry.offset ≡ host_offset (entry_at c.args.l1_table.now.bytes c.sparing.index) = c.in-Some.ensures.offset in
    let some : host_offset (entry_at c.args.l1_table.now.bytes c.sparing.index) ≢ 0 = λ none. absurd (let above = c.in-Some.ensures.some in omega (arith, above, is, none)) in
    let here : host_offset (entry_at c.args.l1_table.now.bytes c.sparing.index) / 2 ^ c.args.bits ≡ c.value.result = ap (λ n. n / 2 ^ c.args.bits) (sym is) ∙ sym c.cluster.ensures ∙ sym c.value.ensures in
    table_more (2 ^ c.args.bits) c.sparing.index (entry_count c.args.l1_table.now) c.value.result c.args.l1_table.now c.args.self.now.named c.sparing.self.named c.spare.new.self.named false (let lt = c.sparing-test.true in let is_end = c.len-index-end.ensures.value in omega (arith, lt, is_end)) some here
    (λ so. absurd (let bad : false ≡ true = so in cc)) c.sparing.invariant.spares (rw c.if-not-spare.true at c.spare.ensures.spares)

pub returns-clause-spares : goal.returns-clause-spares
returns-clause-spares c =
    let all : c.sparing.index ≡ entry_count c.args.l1_table.now = let within = c.sparing.invariant.within in let past = c.sparing-test.false in let is_end = c.len-index-end.ensures.value in omega (arith, within, past, is_end) in
    subst (λ n. Spares (NamesTableIn (2 ^ c.args.bits) n c.args.l1_table.now) c.args.self.now.named c.sparing.self.named true) all c.sparing.invariant.spares

use Rattle.std.proofs.Common.{◌-◌, true, inl, inr, sym, ap, ◌∙◌, subst, arith}
use Rattle.qcow2_alloc.proofs.Common.{cases_eq, option_copied, ReportsZero}
use Rattle.qcow2_alloc.proofs.KeptTables.Counting.{zero_told}
use Rattle.qcow2_alloc.proofs.allocation.Allocator.free_from.Goals as goal

pub returns-in_default : goal.returns-in_default
returns-in_default g c = record {
  within = let below = c.requires.below in omega (arith, below);
  spared = λ k low high. absurd (omega (arith, low, high));
  free = λ k low high. absurd (omega (arith, low, high));
}

pub counting-init : goal.counting-init
counting-init g c = record { from = omega arith; below = c.spared_from-stop.ensures.from; free = λ k from below. absurd (omega (arith, from, below)) }

pub is_zero-requires : goal.is_zero-requires
is_zero-requires g c =
    let count = c.counts.ensures.value in
    let sum = c.saturating_add.ensures in
    let least = c.min-last.ensures in
    let test = c.counting-test.true in
    let low = c.requires.from in
    let from = c.counting.invariant.from in
    omega (arith, count, sum, least, test, low, from)

pub counting-preserved : goal.counting-preserved
counting-preserved g c = record {
  from = let from = c.counting.invariant.from in omega (arith, from);
  below = let least = c.min-last.ensures in let test = c.counting-test.true in omega (arith, least, test);
  free = λ k from below. elim (cases_eq k c.counting.next) [
    | inl same ↦ subst (λ n. ReportsZero c.args.caches.now c.args.block (n - c.args.first) true) (sym same) (subst (ReportsZero c.args.caches.now c.args.block (c.counting.next - c.args.first)) c.if-not-is_zero.false (λ h p on_storage n sound at there.
        let found = sym c.rb_peek.ensures ∙ ap option_copied c.in-Some.is in
        zero_told h p on_storage c.args.caches.now sound c.args.block (c.counting.next - c.args.first) c.in-Some.block.now found n at c.is_zero.result c.is_zero.ensures))
    | inr other ↦ c.counting.invariant.free k from (omega (arith, below, other))
  ];
}

pub returns-then-not-is_zero : goal.returns-then-not-is_zero
returns-then-not-is_zero g c = record {
  within = let from = c.counting.invariant.from in let below = c.counting.invariant.below in let to = c.spared_from-stop.ensures.to in omega (arith, from, below, to);
  spared = λ k low high. c.spared_from-stop.ensures.none k low (let from = c.counting.invariant.from in let below = c.counting.invariant.below in omega (arith, from, below, high));
  free = λ k low high. c.counting.invariant.free k low (let from = c.counting.invariant.from in omega (arith, from, high));
}

pub returns : goal.returns
returns g c = record {
  within = let from = c.counting.invariant.from in let below = c.counting.invariant.below in let to = c.spared_from-stop.ensures.to in omega (arith, from, below, to);
  spared = λ k low high. c.spared_from-stop.ensures.none k low (let from = c.counting.invariant.from in let below = c.counting.invariant.below in omega (arith, from, below, high));
  free = λ k low high. c.counting.invariant.free k low (let from = c.counting.invariant.from in omega (arith, from, high));
}

use Rattle.std.proofs.Common.{◌+◌, inl, inr, arith, refl}
use Rattle.qcow2_alloc.proofs.Common.{cases_lt}
use Rattle.qcow2_alloc.proofs.KeptRuns.{adds_none}
use Rattle.qcow2_alloc.proofs.allocation.Allocator.list_open.Goals as goal

pub returns-in-Some-clause-onward : goal.returns-in-Some-clause-onward
returns-in-Some-clause-onward g c =
    let within = c.in-Some.ensures.within in
    let least = c.min.ensures in
    let below = c.requires.below in
    (omega (arith, within, least, below), omega (arith, least), λ k from to. c.requires.none k (omega (arith, within, least, below, from)) to)

pub returns-in-Some-clause-listed : goal.returns-in-Some-clause-listed
returns-in-Some-clause-listed g c = λ k from below.
    let within = c.in-Some.ensures.within in
    let least = c.min.ensures in
    inl (c.in-Some.ensures.some.all k (omega (arith, within, from)) (omega (arith, below, least)))

pub returns-clause-onward : goal.returns-clause-onward
returns-clause-onward g c =
    let some = c.if-n-eq0.false in
    let within = c.free_from-n.ensures.within in
    (omega (arith, some), within, λ k from to is. c.requires.none k (omega (arith, from)) to ((c.add.ensures.added c.if-not-add.false).was k is (λ low high. omega (arith, from, high))))

pub returns-clause-listed : goal.returns-clause-listed
returns-clause-listed g c = λ k from below. inr ((c.add.ensures.added c.if-not-add.false).added k from below)

pub returns-in-Some-clause-adds : goal.returns-in-Some-clause-adds
returns-in-Some-clause-adds g c = adds_none c.args.self.now

pub returns-clause-adds : goal.returns-clause-adds
returns-clause-adds g c = record {
  rest = refl;
  stays = (c.add.ensures.added c.if-not-add.false).stays;
  spared = λ k is. elim (cases_lt k c.args.at) [
    | inl before ↦ inl ((c.add.ensures.added c.if-not-add.false).was k is (λ low high. omega (arith, before, low)))
    | inr from ↦ elim (cases_lt k (c.args.at + c.free_from-n.result)) [
      | inl below ↦ inr (c.free_from-n.ensures.spared k from below)
      | inr behind ↦ inl ((c.add.ensures.added c.if-not-add.false).was k is (λ low high. omega (arith, behind, high)))
    ]
  ];
}

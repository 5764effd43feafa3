use Rattle.std.proofs.Common.{◌≡◌, inl, inr, refl, ap, ◌∙◌, arith}
use Rattle.qcow2_alloc.proofs.Common.{cases_lt, Allocator}
use Rattle.qcow2_alloc.proofs.KeptRuns.{adds_none, adds_then, found_as}
use Rattle.qcow2_alloc.proofs.allocation.Allocator.list_free.Goals as goal

pub listing-init : goal.listing-init
listing-init g c = record {
  from = omega arith;
  below = c.requires.order;
  adds = adds_none c.args.self.now;
  none = c.requires.none;
  listed = λ k from below. absurd (omega (arith, from, below));
  same = refl;
}

pub listing-preserved : goal.listing-preserved
listing-preserved g c =
    let i = c.listing.invariant in
    let named : c.listing.self.named ≡ c.args.self.now.named = ap (λ (t : Allocator). t.named) i.adds.rest in
    record {
      from = let onward = c.in-Some.ensures.onward.0 in let from = i.from in omega (arith, onward, from);
      below = c.in-Some.ensures.onward.1;
      adds = adds_then c.args.self.now c.listing.self c.list_stretch.new.self i.adds c.list_stretch.ensures.adds;
      none = c.in-Some.ensures.onward.2;
      listed = λ k from below. elim (cases_lt k c.listing.at) [
        | inl before ↦ elim (i.listed k from before) [ inl found ↦ inl found | inr free ↦ inr (c.list_stretch.ensures.adds.stays k free) ]
        | inr behind ↦ elim (c.in-Some.ensures.listed k behind below) [
          | inl found ↦ inl (found_as c.listing.self c.args.self.now c.listing.caches c.args.caches.now c.args.block c.args.first c.args.end k named i.same found)
          | inr free ↦ inr free
        ]
      ];
      same = c.list_stretch.ensures.same ∙ i.same;
    }

pub returns-in_default-clause-adds : goal.returns-in_default-clause-adds
returns-in_default-clause-adds g c = adds_then c.args.self.now c.listing.self c.list_stretch.new.self c.listing.invariant.adds c.list_stretch.ensures.adds

pub returns-in_default-clause-same : goal.returns-in_default-clause-same
returns-in_default-clause-same g c = c.list_stretch.ensures.same ∙ c.listing.invariant.same

pub returns-clause-listed : goal.returns-clause-listed
returns-clause-listed g c = λ so k from below. c.listing.invariant.listed k from (let past = c.listing-test.false in omega (arith, past, below))

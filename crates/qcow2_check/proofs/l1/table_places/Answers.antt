use Rattle.std.proofs.Common.{◌≡◌, ◌/◌, length, ap, sym, ◌∙◌, arith, length-append}
use Rattle.qcow2_check.proofs.Common.{sum_by, sum_below, host_offset, entry_at}
use Rattle.std.proofs.lemmas.List.Sums.{sum_by_push}
use Rattle.std.proofs.lemmas.List.Sorted.{sum_by-IsPermutation}
use Rattle.qcow2_check.proofs.Sums.{sum_below_none, sum_below_more}
use Rattle.qcow2_check.proofs.l1.table_places.Goals as goal

pub loop-i-init : goal.loop-i-init
loop-i-init c = record {
  long = ap length c.new-places.ensures.items;
  sums = λ f. ap (sum_by f) c.new-places.ensures.items ∙ sym (sum_below_none _);
}

pub loop-i-preserved : goal.loop-i-preserved
loop-i-preserved c = record {
  long = omega (arith, ap length c.in_ok-push.ensures.items, simp length-append at (ap length c.in_ok-push.ensures.items));
  sums = λ f.
      let i = c.loop-i.i in
      let pushed = ap (sum_by f) c.in_ok-push.ensures.items ∙ sum_by_push f c.loop-i.places.items c.host_offset.result in
      let more = sum_below_more i (λ i. f (host_offset (entry_at c.args.l1.now i))) in
      let here : f c.host_offset.result ≡ f (host_offset (entry_at c.args.l1.now i)) = ap f (c.host_offset.ensures.value ∙ ap host_offset c.entry_at-entry.ensures) in
      omega (arith, pushed, more, here, c.loop-i.invariant.sums f);
}

pub returns-clause-sums : goal.returns-clause-sums
returns-clause-sums c f =
    let all : c.loop-i.i ≡ length c.args.l1.now / 8 = omega arith in
    sum_by-IsPermutation f _ _ c.sort_unstable.ensures.permutation ∙ c.loop-i.invariant.sums f ∙ ap (λ n. sum_below n (λ i. f (host_offset (entry_at c.args.l1.now i)))) all

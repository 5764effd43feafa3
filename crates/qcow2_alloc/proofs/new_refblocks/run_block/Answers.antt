use Rattle.std.proofs.Common.{◌+◌, ◌-◌, ◌*◌, ◌/◌, ◌^◌, ◌≤◌, min, inl, ap, ◌∙◌, sym, arith}
use Rattle.qcow2_alloc.proofs.Common.{count_at}
use Rattle.qcow2_alloc.proofs.RunBlocks.{raised_kept, raised_modified, counts_next}
use Rattle.qcow2_alloc.proofs.new_refblocks.run_block.Goals as goal

pub counting-preserved : goal.counting-preserved
counting-preserved c =
    let old = c.counting.block in
    let new = c.increment.new.self in
    let at = c.counting.counted - c.args.begin in
    let kept = raised_kept old new c.increment.result at (count_at old at + 1) c.increment.ensures.unchanged c.increment.ensures.same c.increment.ensures.counted in
    let low_le = c.counting.auto.counted in
    let begin_le : c.args.begin ≤ c.counting.counted = let low = c.counting.invariant.low in omega (arith, low, low_le) in
    record {
      cluster = kept.0 ∙ c.counting.invariant.cluster;
      bits = kept.1 ∙ c.counting.invariant.bits;
      order = kept.2 ∙ c.counting.invariant.order;
      whole = kept.3 c.counting.invariant.whole;
      modified = raised_modified old new c.increment.result c.increment.ensures.unchanged c.increment.ensures.same c.counting.invariant.modified;
      low = c.counting.invariant.low;
      high = c.counting.invariant.high ∙ sym (ap (λ n. min c.args.end (c.args.begin + 2 ^ n * 8 / 2 ^ new.refcount_order)) kept.1 ∙ ap (λ n. min c.args.end (c.args.begin + 2 ^ old.cluster_bits * 8 / 2 ^ n)) kept.2);
      few = inl (let lt = c.counting-test.true in omega (arith, lt));
      counts = counts_next old new c.increment.result c.max-low.result c.args.begin c.counting.counted low_le begin_le c.counting.invariant.counts c.increment.ensures.full c.increment.ensures.counted (λ done. kept.2);
    }

use Rattle.qcow2_alloc.proofs.Common.{ap, arith, EntryTableView, entry_at_past}
use Rattle.qcow2_alloc.proofs.allocation.Allocator.longer_reftable.Goals as goal

pub returns-clause-entries : goal.returns-clause-entries
returns-clause-entries c =
    let whole = c.len-old.ensures.is_table.table.whole in
    let old = c.len-old.ensures.value in
    let least = c.in-Some.ensures.least in
    let long = c.in_ok-table.ensures.length in
    record {
      bits = ap (λ (t : EntryTableView). t.cluster_bits) c.in_ok-table.ensures.table;
      long = omega (arith, long);
      longer = let longer = least.enough.longer in omega (arith, long, old, longer);
      entries = c.in_ok-table.ensures.entries;
      none = λ k past. entry_at_past c.args.self.now.reftable.bytes k (omega (arith, whole, past));
    }

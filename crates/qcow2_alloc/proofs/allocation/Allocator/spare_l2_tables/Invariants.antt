use Rattle.std.proofs.Common.{◌≡◌, ◌^◌, ◌≤◌, true}
use Rattle.qcow2_alloc.proofs.Common.{entry_count, NamesTableIn, Spares}
use Rattle.qcow2_alloc.proofs.allocation.Allocator.spare_l2_tables.Given as goal

-- the tables that the entries before this one name are spared
abbrev pub invariant-sparing : goal.invariant-sparing
invariant-sparing l = record {
  rest : l.self ≡ record l.fn.self { named = l.self.named };
  within : l.index ≤ entry_count l.fn.l1_table;
  spares : Spares (NamesTableIn (2 ^ l.fn.bits) l.index l.fn.l1_table) l.fn.self.named l.self.named true;
}

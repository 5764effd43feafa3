use Rattle.std.proofs.Common.{◌≡◌, ◌^◌, ◌≤◌, true}
use Rattle.qcow2_alloc.proofs.Common.{entry_count, NamesBlockIn, Spares}
use Rattle.qcow2_alloc.proofs.allocation.Allocator.spare_refblocks.Given as goal

-- the refblocks of the ranges before this one are spared
abbrev pub invariant-sparing : goal.invariant-sparing
invariant-sparing l = record {
  rest : l.self ≡ record l.fn.self { named = l.self.named };
  within : l.range ≤ entry_count l.fn.self.reftable;
  spares : Spares (NamesBlockIn (2 ^ l.fn.bits) l.range l.fn.self.reftable) l.fn.self.named l.self.named true;
}

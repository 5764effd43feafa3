use Rattle.qcow2_alloc.proofs.Common.{length, number_at}
use Rattle.qcow2_alloc.proofs.Uses.{IsNumbering}
use Rattle.qcow2_alloc.proofs.table_cache.uses.Uses.renumbered.Given as goal

abbrev pub invariant-numbering : goal.invariant-numbering
invariant-numbering g l = IsNumbering (number_at l.self-inside.marked.entries) l.self-inside.numbers.entries l.left l.anew

abbrev pub decreases-numbering : goal.decreases-numbering
decreases-numbering g l = length l.left

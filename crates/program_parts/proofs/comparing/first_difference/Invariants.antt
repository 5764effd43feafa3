use Rattle.std.proofs.Common.{◌≡◌, ◌<◌, ℕ}
use Rattle.program_parts.proofs.Common.{slice_index}
use Rattle.program_parts.proofs.comparing.first_difference.Given as goal

abbrev pub invariant-loop-i : goal.invariant-loop-i
invariant-loop-i l = (j : ℕ) → j < l.i → slice_index l.bytes j ≡ slice_index l.others j

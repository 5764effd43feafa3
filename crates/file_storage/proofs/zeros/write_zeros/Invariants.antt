use Rattle.std.proofs.Common.{◌-◌}
use Rattle.file_storage.proofs.zeros.write_zeros.Given as goal

abbrev pub decreases-loop-place : goal.decreases-loop-place
decreases-loop-place l = l.to - l.place

use Rattle.std.proofs.Common.{◌+◌, ◌-◌, ◌≤◌, length, option_copied}
use Rattle.qcow2_metadata.proofs.Common.{byte_at}
use Rattle.qcow2_metadata.proofs.Extensions.{IsReadSoFar}
use Rattle.qcow2_metadata.proofs.header.extensions.read_extensions.Given as goal

abbrev pub invariant-loop-extension : goal.invariant-loop-extension
invariant-loop-extension l = record {
  near : l.place ≤ length l.cluster + 8;
  so_far : IsReadSoFar (byte_at l.cluster) (length l.cluster) l.start l.place (option_copied l.backing_format) (option_copied l.data_file_name);
}

abbrev pub decreases-loop-extension : goal.decreases-loop-extension
decreases-loop-extension l = length l.cluster + 8 - l.place

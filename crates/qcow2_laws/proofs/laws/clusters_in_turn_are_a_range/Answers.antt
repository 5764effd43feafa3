use Rattle.qcow2_laws.proofs.MappedRanges.{clusters_in_turn_are_a_range}
use Rattle.qcow2_laws.proofs.laws.clusters_in_turn_are_a_range.Goals as goal

pub returns : goal.returns
returns c = clusters_in_turn_are_a_range

use Rattle.qcow2_metadata.proofs.Masks.{mask_tests_bit}
use Rattle.qcow2_metadata.proofs.l2_mapping.is_compressed.Goals as goal

pub returns : goal.returns
returns c = mask_tests_bit c.args.entry 62

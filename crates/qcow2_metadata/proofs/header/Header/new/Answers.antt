use Rattle.std.proofs.Common.{◌≡◌, option_map, rules}
use Rattle.qcow2_metadata.proofs.Common.{new_fields}
use Rattle.std.specs.String.{string_bytes}
use Rattle.qcow2_metadata.proofs.NewHeader.{new_kept}
use Rattle.qcow2_metadata.proofs.header.Header.new.Goals as goal

pub invariant_of-result : goal.invariant_of-result
invariant_of-result c =
    let fields : c.new_fields-fields.result ≡ new_fields c.args.cluster_bits c.args.refcount_order (option_map string_bytes c.args.backing_name) (option_map string_bytes c.args.backing_format) (option_map string_bytes c.args.data_file_name) = search rules in
    rw fields (new_kept _ _ _ _ _ c.requires)

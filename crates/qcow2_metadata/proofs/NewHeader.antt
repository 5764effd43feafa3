-- The numbers and names of a new header satisfy the invariant of headers.
use Rattle.std.proofs.Common.{◌^◌, ◌≤◌, ℕ, List, [], length, Option, Some, None, unwrap_or, arith}
use Rattle.qcow2_metadata.proofs.Common.{pow_mono, IsKept, IsShort, CanBeNew, extension_size, new_fields}

pub short_name : (name : Option (List ℕ)) → length (unwrap_or name []) ≤ 2097152 → IsShort name
short_name None short = tt
short_name (Some name) short = short

extension_short : (name : Option (List ℕ)) → extension_size name ≤ 2097152 → IsShort name
extension_short None short = tt
extension_short (Some name) short = omega arith

module _ (cluster_bits refcount_order : ℕ) (backing format data_file : Option (List ℕ)) (can : CanBeNew cluster_bits refcount_order backing format data_file) where
  pub size_high : 2 ^ cluster_bits ≤ 2097152
  size_high = let high : 2 ^ cluster_bits ≤ 2 ^ 21 = pow_mono can.high in omega arith

  pub format_short : IsShort format
  format_short = extension_short format (omega (arith, can.room, size_high))

  pub data_file_short : IsShort data_file
  data_file_short = extension_short data_file (omega (arith, can.room, size_high))

  pub new_kept : IsKept (new_fields cluster_bits refcount_order backing format data_file) backing format data_file
  new_kept = grind (arith, pow_mono)

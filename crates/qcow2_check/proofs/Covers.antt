-- What an entry refers to, by its host offset or as compressed data.
use Rattle.std.proofs.Common.{◌≡◌, ◌&&◌, Bool, true, false, refl}
use Rattle.qcow2_check.proofs.Common.{one_if}

pub never : (b : Bool) → one_if (b && false) ≡ 0
never true = refl
never false = refl

-- Tables are loaded and evicted, and bytes are read, in an image without modified tables: the contents of its storage stay the same.
use Rattle.std.proofs.Common.{◌≡◌}
use Rattle.qcow2_image.proofs.Common.{StorageView, EachMomentSince, IsLeftBy, IsQuiet}

-- ---- moments of a storage whose bytes stay: each is built here

-- calls that keep the contents of an honest storage
pub quiet_still : (old new : StorageView) → new.is_honest → EachMomentSince old new (IsLeftBy old) → new.contents ≡ old.contents → IsQuiet old new
quiet_still old new honest time same = record { honest = honest; contents = same; moments = time }

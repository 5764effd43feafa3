-- The header's cluster, cluster 0.
use Rattle.std.specs.Prelude.{ℕ, ◌/◌, ◌^◌, ◌<◌, ◌≤◌, ◌≡◌, ◌⊎◌, List}
use Rattle.image_access.specs.Moments.{StorageView, EachMomentSince}
use Rattle.qcow2_metadata.specs.Bytes.{byte_at}

-- The offsets of cluster 0.
abbrev pub IsInHeaderCluster : ℕ → ℕ → Type 0
IsInHeaderCluster bits o = o / 2 ^ bits ≡ 0

-- The offsets of cluster 0 outside of the header's pointer to the reftable.
abbrev pub IsBesidePointer : ℕ → ℕ → Type 0
IsBesidePointer bits o = IsInHeaderCluster bits o × ((o < 48) ⊎ (60 ≤ o))

-- The two contents have the same bytes at these offsets.
abbrev pub SameAt : (ℕ → Type 0) → List ℕ → List ℕ → Type 0
SameAt IsKept c c' = (o : ℕ) → IsKept o → byte_at c o ≡ byte_at c' o

-- The bytes at these offsets are the same at every moment since, and now.
pub record BytesStay (IsKept : ℕ → Type 0) (old new : StorageView) : Type 0 where
  pub moments : EachMomentSince old new (λ c. SameAt IsKept old.contents c)
  pub contents : SameAt IsKept old.contents new.contents

-- On an honest storage the bytes of cluster 0 stay the same, whatever they are.
abbrev pub KeepsHeaderCluster : ℕ → StorageView → StorageView → Type 0
KeepsHeaderCluster bits old new = old.is_honest → BytesStay (IsInHeaderCluster bits) old new

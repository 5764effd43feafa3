-- Cached tables over the bytes of the storage: the known contents, and the invariant of both caches.
use Rattle.std.specs.Prelude.{ℕ, ◌+◌, ◌*◌, ◌/◌, ◌%◌, ◌^◌, ◌<◌, ◌≡◌, ◌≢◌, Bool, false, List, [], ◌∷◌, map}
use Rattle.image_access.specs.Moments.{StorageView, EachMomentSince}
use Rattle.qcow2_metadata.specs.Bytes.{Bytes, byte_at}
use Rattle.qcow2_metadata.specs.declared.header.HeaderFields.{HeaderFields}
use Rattle.qcow2_metadata.specs.Header.{cluster_size}
use Rattle.qcow2_metadata.specs.Tables.{CachedTable}
use Rattle.qcow2_laws.specs.Clusters.{Direction}
use Rattle.qcow2_laws.specs.CrashInvariant.{Pending, IsMixed}
use Rattle.qcow2_laws.specs.Caches.{CacheInvariantOver, IsSafeBetween, HasL2, HasBlock}
use Rattle.qcow2_alloc.specs.declared.async_lru_cache.slot.Slot.{Slot}

-- An entry of a cache, as a table over the bytes.
abbrev pub cached_table : {V : Type 0} → ℕ → (V → List ℕ) → (V → Bool) → ℕ × Slot V → CachedTable
cached_table bits bytes is_modified e = record { place = e.0 * 2 ^ bits; bytes = byte_at (bytes e.1.value); is_modified = is_modified e.1.value }

abbrev pub cached_tables : {V : Type 0} → ℕ → (V → List ℕ) → (V → Bool) → List (ℕ × Slot V) → List CachedTable
cached_tables bits bytes is_modified es = map (cached_table bits bytes is_modified) es

-- None of the tables begins at this offset.
abbrev pub AreElsewhere : ℕ → List CachedTable → Type 0
AreElsewhere place [] = Unit {0}
AreElsewhere place (t ∷ ts) = (t.place ≢ place) × AreElsewhere place ts

-- The table holds the bytes of its cluster.
abbrev pub IsCurrent : ℕ → CachedTable → Bytes → Type 0
IsCurrent size t on_storage = (i : ℕ) → i < size → t.bytes i ≡ on_storage (t.place + i)

-- Each table fills a cluster of its own. An unmodified one holds the bytes of its cluster, if the cluster is named for a table of its kind.
abbrev pub AreLoaded : ℕ → (ℕ → Type 0) → List CachedTable → Bytes → Type 0
AreLoaded size IsNamed [] on_storage = Unit {0}
AreLoaded size IsNamed (t ∷ ts) on_storage =
    (t.place % size ≡ 0) × AreElsewhere t.place ts × (t.is_modified ≡ false → IsNamed (t.place / size) → IsCurrent size t on_storage) × AreLoaded size IsNamed ts on_storage

-- Each value satisfies `IsFit`.
abbrev pub AllValuesFit : {V : Type 0} → (V → Type 0) → List (ℕ × Slot V) → Type 0
AllValuesFit IsFit [] = Unit {0}
AllValuesFit IsFit (e ∷ es) = IsFit e.1.value × AllValuesFit IsFit es

-- The invariant of both caches over the bytes of a storage.
pub record AreKept (h : HeaderFields) (d : Direction) (p : Pending) (l2s rbs : List CachedTable) (on_storage : Bytes) : Type 0 where
  pub kept : CacheInvariantOver h d p l2s rbs on_storage
  pub l2_loaded : AreLoaded (cluster_size h) (HasL2 h on_storage) l2s on_storage
  pub rb_loaded : AreLoaded (cluster_size h) (HasBlock h on_storage) rbs on_storage

-- At every moment since, and now, a stop is as safe as with the old contents and the known ones.
pub record IsSafeSince (old new : StorageView) (known : Bytes) : Type 0 where
  pub moments : EachMomentSince old new (λ c. IsSafeBetween (byte_at old.contents) known (byte_at c))
  pub contents : IsSafeBetween (byte_at old.contents) known (byte_at new.contents)

-- At every moment since, and now, each cluster has the old bytes or the known ones. No table of the kind that the direction writes last is written
-- before all of the other kind are.
pub record IsInOrderSince (h : HeaderFields) (d : Direction) (old new : StorageView) (known : Bytes) : Type 0 where
  pub moments : EachMomentSince old new (λ c. IsMixed h d (byte_at old.contents) known (byte_at c))
  pub contents : IsMixed h d (byte_at old.contents) known (byte_at new.contents)

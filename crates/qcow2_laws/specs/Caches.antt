-- The caches of L2 tables and refblocks over a storage: where modified tables may lie, and what writing one does.
use Rattle.std.specs.Prelude.{ℕ, ◌/◌, ◌%◌, ◌≡◌, ◌≢◌, ◌⊎◌, true, false, List, [], ◌∷◌}
use Rattle.qcow2_metadata.specs.Bytes.{Bytes}
use Rattle.qcow2_metadata.specs.declared.header.HeaderFields.{HeaderFields}
use Rattle.qcow2_metadata.specs.Header.{cluster_size}
use Rattle.qcow2_metadata.specs.Entries.{l1_entry, is_copied, reftable_entry, block_offset}
use Rattle.qcow2_metadata.specs.Tables.{CachedTable, known, overlays}
use Rattle.qcow2_disk.specs.Stops.{Checkpoint, StopOkEverywhere}
use Rattle.qcow2_laws.specs.Clusters.{Direction, Neither, L2DependsOnRb, RbDependsOnL2}
use Rattle.qcow2_laws.specs.Guests.{table_at}
use Rattle.qcow2_laws.specs.CrashInvariant.{Pending, CrashInvariant}
use Rattle.qcow2_laws.specs.Writes.{IsUnnamed}

-- The known contents: the bytes on the storage with the modified tables of both caches overlaid on their clusters.
abbrev pub known_bytes : ℕ → List CachedTable → List CachedTable → Bytes → Bytes
known_bytes size l2s rbs b = known size l2s (known size rbs b)

-- No modified table covers the offset.
abbrev pub IsFreeAt : ℕ → List CachedTable → ℕ → Type 0
IsFreeAt size [] o = Unit {0}
IsFreeAt size (t ∷ tables) o = (overlays size t o ≡ false) × IsFreeAt size tables o

-- No modified table covers an offset of the cluster.
abbrev pub IsFreeOf : ℕ → List CachedTable → ℕ → Type 0
IsFreeOf size tables c = (o : ℕ) → o / size ≡ c → IsFreeAt size tables o

-- Each table begins at a cluster boundary, and no two modified tables overlap.
abbrev pub AreApart : ℕ → List CachedTable → Type 0
AreApart size [] = Unit {0}
AreApart size (t ∷ tables) = (t.place % size ≡ 0) × ((o : ℕ) → overlays size t o ≡ true → IsFreeAt size tables o) × AreApart size tables

abbrev pub AreClean : List CachedTable → Type 0
AreClean [] = Unit {0}
AreClean (t ∷ tables) = (t.is_modified ≡ false) × AreClean tables

-- The L1 table names an L2 table in this cluster.
abbrev pub HasL2 : HeaderFields → Bytes → ℕ → Type 0
HasL2 h b c = (i : ℕ) × (table_at h b i ≢ 0) × (table_at h b i / cluster_size h ≡ c)

abbrev pub HasBlock : HeaderFields → Bytes → ℕ → Type 0
HasBlock h b c = (k : ℕ) × (block_offset (reftable_entry h b k) ≢ 0) × (block_offset (reftable_entry h b k) / cluster_size h ≡ c)

-- The L1 table names an L2 table in this cluster, in an entry that is marked copied.
abbrev pub HasOwnL2 : HeaderFields → Bytes → ℕ → Type 0
HasOwnL2 h b c = (i : ℕ) × (table_at h b i ≢ 0) × (table_at h b i / cluster_size h ≡ c) × (is_copied (l1_entry h b i) ≡ true)

-- The invariant of the two caches over the storage. The L1 table names every modified L2 table, in an entry that is marked copied. The reftable names every modified refblock, or the refblock is new, in a cluster without references.
pub record CacheInvariantOver (h : HeaderFields) (d : Direction) (p : Pending) (l2s rbs : List CachedTable) (on_storage : Bytes) : Type 0 where
  pub crash_invariant : CrashInvariant h d p on_storage (known_bytes (cluster_size h) l2s rbs on_storage)
  pub l2_apart : AreApart (cluster_size h) l2s
  pub rb_apart : AreApart (cluster_size h) rbs
  pub l2_stand : (c : ℕ) → IsFreeOf (cluster_size h) l2s c ⊎ HasOwnL2 h on_storage c
  pub rb_stand : (c : ℕ) → IsFreeOf (cluster_size h) rbs c ⊎ (HasBlock h on_storage c ⊎ IsUnnamed h on_storage (known_bytes (cluster_size h) l2s rbs on_storage) c)

-- What the direction says must be written before a refblock may be: all L2 tables, or nothing.
abbrev pub BlocksMayGo : Direction → List CachedTable → Type 0
BlocksMayGo Neither l2s = Unit {0}
BlocksMayGo L2DependsOnRb l2s = Unit {0}
BlocksMayGo RbDependsOnL2 l2s = AreClean l2s

abbrev pub TablesMayGo : Direction → List CachedTable → Type 0
TablesMayGo Neither rbs = Unit {0}
TablesMayGo L2DependsOnRb rbs = AreClean rbs
TablesMayGo RbDependsOnL2 rbs = Unit {0}

-- What writing a table leaves: nothing changed; or its bytes are on the storage, and it is marked as before or as unmodified.
pub record IsWrittenSo (size : ℕ) (t t' : CachedTable) (b b' : Bytes) : Type 0 where
  pub place : t'.place ≡ t.place
  pub bytes : t'.bytes ≡ t.bytes
  pub outcome : ((b' ≡ b) × (t'.is_modified ≡ t.is_modified)) ⊎ ((b' ≡ known size (t ∷ []) b) × ((t'.is_modified ≡ t.is_modified) ⊎ (t'.is_modified ≡ false)))

-- At each checkpoint where the storage and the known contents are safe, these bytes are safe too.
abbrev pub IsSafeBetween : Bytes → Bytes → Bytes → Type 0
IsSafeBetween on_storage known b = (backing : Bytes) (m : Checkpoint) → StopOkEverywhere backing m on_storage → StopOkEverywhere backing m known → StopOkEverywhere backing m b

-- One more table is written: the invariant holds, the known contents are the same, and a stop is as safe as before.
pub record InternalTableWrite (h : HeaderFields) (d : Direction) (p : Pending) (l2s rbs : List CachedTable) (on_storage : Bytes) (l2s' rbs' : List CachedTable) (on_storage' : Bytes) : Type 0 where
  pub kept : CacheInvariantOver h d p l2s' rbs' on_storage'
  pub known : known_bytes (cluster_size h) l2s' rbs' on_storage' ≡ known_bytes (cluster_size h) l2s rbs on_storage
  pub safe : IsSafeBetween on_storage (known_bytes (cluster_size h) l2s rbs on_storage) on_storage'

-- The reftable names every modified refblock.
abbrev pub AreNamedBlocks : HeaderFields → List CachedTable → Bytes → Type 0
AreNamedBlocks h rbs on_storage = (c : ℕ) → IsFreeOf (cluster_size h) rbs c ⊎ HasBlock h on_storage c

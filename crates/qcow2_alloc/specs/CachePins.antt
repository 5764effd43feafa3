-- The marks of the caches: pins, and recorded changes.
use Rattle.std.specs.Prelude.{ℕ, ◌≡◌, ◌⊎◌, ◌<◌, ◌≤◌, ◌==◌, false, List, [], length, Vec, Result, Ok, Err}
use Rattle.std.specs.Global.{Global}
use Rattle.std.specs.Option.{option_map_or}
use Rattle.std.specs.Map.{keys_of, lookup}
use Rattle.qcow2_metadata.specs.Bytes.{Bytes}
use Rattle.qcow2_metadata.specs.declared.header.HeaderFields.{HeaderFields}
use Rattle.qcow2_laws.specs.CrashInvariant.{Pending}
use Rattle.qcow2_alloc.specs.AsyncLruCache.{pinned}
use Rattle.qcow2_alloc.specs.MetadataCaches.{order_of, l2_at, l2_tables, refblocks, known_of, CacheInvariant}
use Rattle.qcow2_alloc.specs.BehindHeader.{KeepBehindHeader}
use Rattle.qcow2_alloc.specs.CountedChanges.{CountsChanges}
use Rattle.qcow2_alloc.specs.ImageError.{IsFault}
use Rattle.qcow2_alloc.specs.declared.async_lru_cache.slot.Slot.{Slot}
use Rattle.qcow2_alloc.specs.declared.cache.MetadataCaches.{MetadataCaches}
use Rattle.qcow2_alloc.specs.declared.error.ImageError.{ImageError}
use Rattle.qcow2_alloc.specs.declared.error.ImageError.TheVariants as I

module _ {S : Type 0} where
  -- The number of pins of the L2 table in a cluster.
  abbrev pub l2_pins : MetadataCaches S → ℕ → ℕ
  l2_pins caches cluster = option_map_or (λ s. s.pins) (lookup (λ k. cluster == k) caches.l2.entries) 0

  -- Both caches have a size above 0, and no refblock is pinned. So there is always room for a refblock, and for an L2 table unless all are pinned.
  pub record CachesHaveRoom (caches : MetadataCaches S) : Type 0 where
    pub tables : 0 < caches.l2.size
    pub some : 0 < caches.rb.size
    pub free : pinned caches.rb.entries ≡ []

  -- Changes of the tables are recorded and counted.
  abbrev pub CountsTableChanges : MetadataCaches S → MetadataCaches S → Type 0
  CountsTableChanges old new = CountsChanges old.is_changed old.changes new.is_changed new.changes

  -- No change of a table is recorded.
  abbrev pub SameChanges : MetadataCaches S → MetadataCaches S → Type 0
  SameChanges old new = (new.is_changed ≡ old.is_changed) × (new.changes ≡ old.changes)

  -- Pins stay the same. A recorded change stays recorded, and a newly recorded one was counted.
  pub record KeepsPinsAndNotes (old new : MetadataCaches S) : Type 0 where
    pub pins : (cluster : ℕ) → l2_pins new cluster ≡ l2_pins old cluster
    pub room : CachesHaveRoom old → CachesHaveRoom new
    pub changes : CountsTableChanges old new

  -- The caches hold the same tables in the same order.
  pub record SameTables (old new : MetadataCaches S) : Type 0 where
    pub sound : (h : HeaderFields) (p : Pending) (on_storage : Bytes) → CacheInvariant h p old on_storage → CacheInvariant h p new on_storage
    pub known : (h : HeaderFields) (on_storage : Bytes) → known_of h new on_storage ≡ known_of h old on_storage
    pub l2_tables : l2_tables new ≡ l2_tables old
    pub refblocks : refblocks new ≡ refblocks old
    pub l2_at : (cluster : ℕ) → l2_at new cluster ≡ l2_at old cluster
    pub order : order_of new ≡ order_of old
    pub room : CachesHaveRoom old → CachesHaveRoom new
    pub behind : KeepBehindHeader old new

  -- The L2 table of a cluster has this many pins, and the others have as many as before.
  pub record SetsPins (old new : MetadataCaches S) (cluster pins : ℕ) : Type 0 where
    pub here : l2_pins new cluster ≡ pins
    pub others : (c : ℕ) → cluster == c ≡ false → l2_pins new c ≡ l2_pins old c

  -- The cache of L2 tables is full, and all of them are pinned.
  abbrev pub AreAllPinned : MetadataCaches S → Type 0
  AreAllPinned caches = (caches.l2.size ≤ length caches.l2.entries) × (pinned caches.l2.entries ≡ caches.l2.entries)

  -- The refusal is a fault, or all L2 tables are pinned (8).
  abbrev pub IsInUseOrFault : MetadataCaches S → ImageError → Type 0
  IsInUseOrFault caches e = ((e ≡ I.InUse) × AreAllPinned caches) ⊎ IsFault e

-- What invalidating a cache returns, and leaves of its entries. If none is pinned, none is left. If there was no memory for the list of keys, all are left. Otherwise the pinned ones are left,
-- and their clusters are returned.
abbrev pub LeavesPinned : {V : Type 0} → List (ℕ × Slot V) → Result (Unit {0}) ImageError → List (ℕ × Slot V) → Type 0
LeavesPinned es (Ok _) fs = (pinned es ≡ []) × (fs ≡ [])
LeavesPinned es (Err e) fs =
    (0 < length (pinned es)) × (((e ≡ I.Memory) × (fs ≡ es)) ⊎ ((keys : Vec ℕ Global) × (e ≡ I.StillInUse keys) × (keys.items ≡ keys_of (pinned es)) × (fs ≡ pinned es)))

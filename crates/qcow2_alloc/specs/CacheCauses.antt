-- Why calls of the caches are refused, whatever these hold.
use Rattle.std.specs.Prelude.{ℕ, ◌≡◌, ◌⊎◌, ◌≤◌, Bool, true, List, [], ◌∷◌, length}
use Rattle.qcow2_metadata.specs.L2Table.{L2TableView}
use Rattle.qcow2_metadata.specs.RefBlock.{RefBlockView}
use Rattle.qcow2_metadata.specs.TableBytes.{HasPlace}
use Rattle.qcow2_alloc.specs.AsyncLruCache.{pinned}
use Rattle.qcow2_alloc.specs.CachePins.{AreAllPinned}
use Rattle.qcow2_alloc.specs.ImageError.{IsFaultOr}
use Rattle.qcow2_alloc.specs.TableCaches.{IsBlockOf, IsTableOf}
use Rattle.qcow2_alloc.specs.declared.async_lru_cache.slot.Slot.{Slot}
use Rattle.qcow2_alloc.specs.declared.cache.MetadataCaches.{MetadataCaches}
use Rattle.qcow2_alloc.specs.declared.error.ImageError.{ImageError}
use Rattle.qcow2_alloc.specs.declared.error.ImageError.TheVariants as I

module _ {V : Type 0} (is_modified : V → Bool) (IsFit : V → Type 0) (Named : ℕ → Type 0) where
  -- The table has the right format. If it is modified, its cluster has this property.
  pub record IsStanding (k : ℕ) (v : V) : Type 0 where
    pub fits : IsFit v
    pub named : is_modified v ≡ true → Named k

  abbrev pub AreStanding : List (ℕ × Slot V) → Type 0
  AreStanding [] = Unit {0}
  AreStanding (e ∷ es) = IsStanding e.0 e.1.value × AreStanding es

module _ {S : Type 0} (caches : MetadataCaches S) where
  -- Each cached L2 table has the format of the image's tables, and the offset of each modified one fits into 64 bits. So they can be written.
  abbrev pub TablesFit : Type 0
  TablesFit = AreStanding (λ (t : L2TableView). t.is_modified) (IsTableOf caches.l2.backend.header.fields) (HasPlace caches.l2.backend.header.fields.cluster_bits) caches.l2.entries

  -- The same of the cached refblocks.
  abbrev pub BlocksFit : Type 0
  BlocksFit = AreStanding (λ (b : RefBlockView). b.is_modified) (IsBlockOf caches.rb.backend.header.fields) (HasPlace caches.rb.backend.header.fields.cluster_bits) caches.rb.entries

  -- All modified tables can be written.
  abbrev pub AllFit : Type 0
  AllFit = TablesFit × BlocksFit

  -- The cache of refblocks is full, and all of them are pinned.
  abbrev pub AreBlocksPinned : Type 0
  AreBlocksPinned = (caches.rb.size ≤ length caches.rb.entries) × (pinned caches.rb.entries ≡ caches.rb.entries)

  -- Why a table is not inserted: a fault; 8, if there is no place without a pin; or 13, if a modified table can't be written.
  abbrev pub MayFailInserting : Type 0 → ImageError → Type 0
  MayFailInserting full e = ((e ≡ I.InUse) × full) ⊎ IsFaultOr (¬ AllFit) e

  -- Why a table is not loaded: as one that is inserted; or 13, if the offset of its cluster passes 64 bits.
  abbrev pub MayFailLoading : Type 0 → (bits cluster : ℕ) → ImageError → Type 0
  MayFailLoading full bits cluster e = ((e ≡ I.InUse) × full) ⊎ IsFaultOr (¬ (AllFit × HasPlace bits cluster)) e

  abbrev pub MayFailInsertingL2 : ImageError → Type 0
  MayFailInsertingL2 = MayFailInserting (AreAllPinned caches)

  abbrev pub MayFailInsertingRb : ImageError → Type 0
  MayFailInsertingRb = MayFailInserting AreBlocksPinned

  abbrev pub MayFailLoadingRb : ℕ → ImageError → Type 0
  MayFailLoadingRb cluster = MayFailLoading AreBlocksPinned caches.rb.backend.header.fields.cluster_bits cluster

-- Why an L2 table is not loaded. If there is no place without a pin, there is none afterwards either.
abbrev pub MayFailLoadingL2 : {S : Type 0} → (caches caches' : MetadataCaches S) → ℕ → ImageError → Type 0
MayFailLoadingL2 caches caches' cluster = MayFailLoading caches (AreAllPinned caches × AreAllPinned caches') caches.l2.backend.header.fields.cluster_bits cluster

-- The reftable still names each refblock that it named before, and the offset of every table fits into 64 bits.
use Rattle.std.proofs.Common.{◌≡◌, ◌⊎◌, ◌*◌, ◌/◌, ◌%◌, ◌^◌, ◌<◌, inl, inr, ℕ, List, sym, ap, ◌∙◌, subst, arith}
use Rattle.qcow2_alloc.proofs.Common.{mod_below, pow_pos, div-add-mod', Bytes, HeaderFields, cluster_size, l1_entry, reftable_entry, host_offset, block_offset, RefBlockView, HasPlace, CachedTable, Direction, Pending, SameTop, known_bytes, IsFreeOf, HasL2, HasBlock, AreNamedBlocks, SameTop-sym, SameTop-trans, Slot, MetadataCaches, IsBlockOf, cached_tables, AreKept, refblocks, CacheInvariant}
use Rattle.qcow2_alloc.proofs.KeptTables.Standing.{AreStanding, standing_of, free_or_named}

-- ---- where tables are named
below_place : (place size k limit : ℕ) → place / size ≡ k → place < limit → k * size < limit
below_place place size k limit at below = let e = div-add-mod' place size in let m : place / size * size ≡ k * size = ap (λ n. n * size) at in omega arith

pub table_place : (h : HeaderFields) (on_storage : Bytes) (bits : ℕ) → bits ≡ h.cluster_bits → (k : ℕ) → HasL2 h on_storage k → HasPlace bits k
table_place h on_storage bits same k has =
    let low : l1_entry h on_storage has.0 / 2 ^ 9 % 2 ^ 47 < 2 ^ 47 = mod_below (l1_entry h on_storage has.0 / 2 ^ 9) (2 ^ 47) (pow_pos 47) in
    let below : host_offset (l1_entry h on_storage has.0) < 2 ^ 64 = omega arith in
    subst (λ n. HasPlace n k) (sym same) (below_place (host_offset (l1_entry h on_storage has.0)) (cluster_size h) k (2 ^ 64) has.2 below)

pub block_place : (h : HeaderFields) (on_storage : Bytes) (bits : ℕ) → bits ≡ h.cluster_bits → (k : ℕ) → HasBlock h on_storage k → HasPlace bits k
block_place h on_storage bits same k has =
    let low : reftable_entry h on_storage has.0 / 2 ^ 9 % 2 ^ 55 < 2 ^ 55 = mod_below (reftable_entry h on_storage has.0 / 2 ^ 9) (2 ^ 55) (pow_pos 55) in
    let below : block_offset (reftable_entry h on_storage has.0) < 2 ^ 64 = omega arith in
    subst (λ n. HasPlace n k) (sym same) (below_place (block_offset (reftable_entry h on_storage has.0)) (cluster_size h) k (2 ^ 64) has.2 below)

-- ---- the modified tables of sound caches stand there
module _ {S : Type 0} (h : HeaderFields) (p : Pending) (caches : MetadataCaches S) (on_storage : Bytes) (sound : CacheInvariant h p caches on_storage) where
  pub blocks_stand : AreNamedBlocks h (refblocks caches) on_storage → AreStanding (λ (b : RefBlockView). b.is_modified) (IsBlockOf caches.rb.backend.header.fields) (HasBlock h on_storage) caches.rb.entries
  blocks_stand named_blocks =
      standing_of caches.rb.backend.header.fields.cluster_bits (λ (b : RefBlockView). b.bytes) (λ b. b.is_modified) (IsBlockOf caches.rb.backend.header.fields) (HasBlock h on_storage) caches.rb.entries sound.rb_fit
      (subst (λ n. (c : ℕ) → IsFreeOf (2 ^ n) (refblocks caches) c ⊎ HasBlock h on_storage c) (sym sound.rb_format.bits) named_blocks)

-- refblocks that stand so are settled
pub named_blocks_in : (h : HeaderFields) (on_storage : Bytes) (bits : ℕ) → bits ≡ h.cluster_bits → (IsFit : RefBlockView → Type 0) (es : List (ℕ × Slot RefBlockView)) → AreStanding (λ (b : RefBlockView). b.is_modified) IsFit (HasBlock h on_storage) es
    → AreNamedBlocks h (cached_tables bits (λ (b : RefBlockView). b.bytes) (λ b. b.is_modified) es) on_storage
named_blocks_in h on_storage bits same IsFit es stand c =
    subst (λ n. IsFreeOf (2 ^ n) (cached_tables bits (λ (b : RefBlockView). b.bytes) (λ b. b.is_modified) es) c ⊎ HasBlock h on_storage c) same
    (free_or_named bits (λ (b : RefBlockView). b.bytes) (λ b. b.is_modified) IsFit (HasBlock h on_storage) es stand c)

-- ---- over other bytes of which the same is known
module _ (h : HeaderFields) (d d' : Direction) (p p' : Pending) (l2s rbs l2s' rbs' : List CachedTable) (on_storage on_storage' : Bytes) (kept : AreKept h d p l2s rbs on_storage) (kept' : AreKept h d' p' l2s' rbs' on_storage')
    (known : known_bytes (cluster_size h) l2s' rbs' on_storage' ≡ known_bytes (cluster_size h) l2s rbs on_storage) where
  pub top_still : SameTop h on_storage on_storage'
  top_still =
      SameTop-trans h on_storage (known_bytes (cluster_size h) l2s rbs on_storage) on_storage' kept.kept.crash_invariant.same_top
      (SameTop-sym h on_storage' (known_bytes (cluster_size h) l2s rbs on_storage) (subst (SameTop h on_storage') known kept'.kept.crash_invariant.same_top))

  block_still_named : (c : ℕ) → HasBlock h on_storage c → HasBlock h on_storage' c
  block_still_named c has =
      let e = ap block_offset (top_still.reftable has.0) in
      (has.0, (λ none. has.1 (e ∙ none)), ap (λ n. n / cluster_size h) (sym e) ∙ has.2)

  -- the same refblocks
  pub named_blocks_beside : AreNamedBlocks h rbs on_storage → AreNamedBlocks h rbs on_storage'
  named_blocks_beside named_blocks c = elim (named_blocks c) [ inl free ↦ inl free | inr has ↦ inr (block_still_named c has) ]

  -- others, of which those that are modified stand
  pub named_blocks_anew : (bits : ℕ) → bits ≡ h.cluster_bits → (IsFit : RefBlockView → Type 0) (es : List (ℕ × Slot RefBlockView)) → AreStanding (λ (b : RefBlockView). b.is_modified) IsFit (HasBlock h on_storage) es
      → AreNamedBlocks h (cached_tables bits (λ (b : RefBlockView). b.bytes) (λ b. b.is_modified) es) on_storage'
  named_blocks_anew bits same IsFit es stand c = elim (named_blocks_in h on_storage bits same IsFit es stand c) [ inl free ↦ inl free | inr has ↦ inr (block_still_named c has) ]

-- Why a lookup in a sound image is refused: its L1 table names aligned clusters, and if the cache has no room for an L2 table, a mapping is prepared.
use Rattle.std.proofs.Common.{◌≡◌, ◌≢◌, ◌/◌, ◌%◌, inl, inr, ℕ, false, true, List, Option, Some, Result, Ok, Err, sym, ap, ◌∙◌, subst, IfErr}
use Rattle.qcow2_image.proofs.Common.{IsOk, mod_below, BackingView, StorageView, host_offset, cluster_size, entries_per_cluster, HeaderFields, entry_at, Pending, table_at, Sizes-from, has_table, AreAllPinned, IsInUseOrFault, contents_in, known_in, IsEntryAt, ImageError, HasPinnedMapping, NamesL2Table, l1_index_of, l2_index_of, ImageInvariant, IsBegun, IsCacheHeld, MayFailLooking, Qcow2, Prepared, Mappings}
use Rattle.qcow2_image.proofs.Prepare.MissingL2Table.{pinned_prepared}

-- what answers is refused for nothing
pub answers_met : {A : Type 0} (C : ImageError → Type 0) (r : Result A ImageError) → IsOk r → IfErr r C
answers_met C (Ok x) is = tt
answers_met C (Err e) is = absurd (let no : false ≡ true = is in cc)

-- what is held as a call has begun was held before
pub held_since : {S F : Type 0} (old new : Qcow2 S F) (out : Mappings) → IsBegun old new → (C : Type 0 → Type 0) → C (IsCacheHeld new out) → C (IsCacheHeld old out)
held_since old new out begun C is = subst (λ caches. C (AreAllPinned caches × HasPinnedMapping out)) begun.caches is

module _ {S F : Type 0} (view : S → StorageView) (backing : F → BackingView) (out : Mappings) (p : Pending) (image : Qcow2 S F) (sound : ImageInvariant view backing p image out) where
  abbrev h : HeaderFields
  h = image.file.header.fields

  -- a table is loaded but for a fault, or where a mapping is prepared
  pub cache_looking : (e : ImageError) → IsInUseOrFault image.file.caches e → MayFailLooking (IsCacheHeld image out) e
  cache_looking e (inl used) = inr (used.0, (used.1, pinned_prepared view backing out p image sound used.1))
  cache_looking e (inr fault) = inl fault

  -- what the L1 table names is aligned
  pub named_aligned : (i : ℕ) → host_offset (entry_at image.l1_table.bytes i) ≢ 0 → host_offset (entry_at image.l1_table.bytes i) % cluster_size h ≡ 0
  named_aligned i real =
      let is = ap host_offset (sound.l1_table.entries i) in
      ap (λ n. n % cluster_size h) is
      ∙ sound.file.caches.kept.kept.crash_invariant.top.l2_tables_aligned i (has_table h (contents_in view image.file) i (λ none. real (is ∙ none)))

  -- the table that is named for an offset has its entry
  pub named_entry : (offset table : ℕ) → NamesL2Table view image offset (Some table) → IsEntryAt h (known_in view image.file) (l1_index_of h offset) table (l2_index_of h offset)
  named_entry offset table names =
      let invariant = sound.file.caches.kept.kept.crash_invariant in
      let there : table_at h (known_in view image.file) (l1_index_of h offset) ≡ table_at h (contents_in view image.file) (l1_index_of h offset) = ap host_offset (sym (invariant.same_top.l1 (l1_index_of h offset))) in
      record {
        real = λ none. names.1 (sym there ∙ none);
        place = there ∙ names.0;
        within = mod_below (offset / cluster_size h) (entries_per_cluster h) (Sizes-from h (contents_in view image.file) invariant.top.header_reads).entries;
      }

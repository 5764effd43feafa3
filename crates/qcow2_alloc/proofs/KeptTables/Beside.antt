-- A write to bytes that belong to no table keeps the invariant of the caches.
use Rattle.std.proofs.Common.{◌≡◌, ◌⊎◌, ◌/◌, ◌<◌, inl, inr, ℕ, refl, sym, ap, ◌∙◌, subst, arith}
use Rattle.qcow2_alloc.proofs.Common.{Bytes, HeaderFields, cluster_size, l1_entry, reftable_entry, host_offset, block_offset, is_copied, named_for_tables, Pending, CrashInvariant, SameIn, SameTop, HasL2, HasOwnL2, HasBlock, AreNamedBlocks, kept_beside, shares, top_stays, table_has, block_has, MetadataCaches, order_of, l2_tables, refblocks, known_of, CacheInvariant}
use Rattle.qcow2_alloc.proofs.KeptTables.Loaded.{loaded_beside}

module _ {S : Type 0} (h : HeaderFields) (p p' : Pending) (caches : MetadataCaches S) (on_storage on_storage' : Bytes) (sound : CacheInvariant h p caches on_storage) (named_blocks : AreNamedBlocks h (refblocks caches) on_storage)
    (each : (c : ℕ) → SameIn (cluster_size h) c on_storage on_storage' ⊎ (named_for_tables h on_storage c ≡ 0)) where
  -- a cluster with a table stays
  stays : (c : ℕ) → 0 < named_for_tables h on_storage c → SameIn (cluster_size h) c on_storage on_storage'
  stays c some = elim (each c) [ inl same ↦ same | inr none ↦ absurd (omega arith) ]

  pub top_beside : SameTop h on_storage on_storage'
  top_beside = top_stays h on_storage on_storage' sound.kept.kept.crash_invariant.top stays

  table_was : (c : ℕ) → HasL2 h on_storage' c → HasL2 h on_storage c
  table_was c has = let e = ap host_offset (sym (top_beside.l1 has.0)) in (has.0, (λ none. has.1 (e ∙ none)), ap (λ n. n / cluster_size h) (sym e) ∙ has.2)

  own_still : (c : ℕ) → HasOwnL2 h on_storage c → HasOwnL2 h on_storage' c
  own_still c has =
      let e = ap host_offset (top_beside.l1 has.0) in
      (has.0, (λ none. has.1 (e ∙ none)), ap (λ n. n / cluster_size h) (sym e) ∙ has.2, ap is_copied (sym (top_beside.l1 has.0)) ∙ has.3)

  block_still : (c : ℕ) → HasBlock h on_storage c → HasBlock h on_storage' c
  block_still c has = let e = ap block_offset (top_beside.reftable has.0) in (has.0, (λ none. has.1 (e ∙ none)), ap (λ n. n / cluster_size h) (sym e) ∙ has.2)

  block_was : (c : ℕ) → HasBlock h on_storage' c → HasBlock h on_storage c
  block_was c has = let e = ap block_offset (sym (top_beside.reftable has.0)) in (has.0, (λ none. has.1 (e ∙ none)), ap (λ n. n / cluster_size h) (sym e) ∙ has.2)

  back : (c : ℕ) → SameIn (cluster_size h) c on_storage on_storage' → SameIn (cluster_size h) c on_storage' on_storage
  back c same o in_c = sym (same o in_c)

  pub named_blocks_beside_write : AreNamedBlocks h (refblocks caches) on_storage'
  named_blocks_beside_write c = elim (named_blocks c) [ inl free ↦ inl free | inr has ↦ inr (block_still c has) ]

  -- so the caches are sound again, where the order of writes is kept
  pub sound_beside : CrashInvariant h (order_of caches) p' on_storage' (known_of h caches on_storage') → CacheInvariant h p' caches on_storage'
  sound_beside crash_invariant = record {
    l2_format = sound.l2_format;
    rb_format = sound.rb_format;
    l2_fit = sound.l2_fit;
    rb_fit = sound.rb_fit;
    kept = record {
      kept =
          kept_beside h h (order_of caches) (order_of caches) p p' (l2_tables caches) (refblocks caches) on_storage on_storage' sound.kept.kept refl crash_invariant
          (λ c has. inr (own_still c has))
          (λ c either. elim (named_blocks c) [ inl free ↦ inl free | inr has ↦ inr (inl (block_still c has)) ]);
      l2_loaded = loaded_beside (cluster_size h) (HasL2 h on_storage) (HasL2 h on_storage') on_storage on_storage' (l2_tables caches)
          (λ c has. let was = table_was c has in (was, back c (stays c (table_named c was)))) sound.kept.l2_loaded;
      rb_loaded = loaded_beside (cluster_size h) (HasBlock h on_storage) (HasBlock h on_storage') on_storage on_storage' (refblocks caches)
          (λ c has. let was = block_was c has in (was, back c (stays c (block_named c was)))) sound.kept.rb_loaded;
    };
  }
    where
      table_named : (c : ℕ) → HasL2 h on_storage c → 0 < named_for_tables h on_storage c
      table_named c has = subst (λ n. 0 < named_for_tables h on_storage n) has.2 (let s = shares h on_storage (host_offset (l1_entry h on_storage has.0) / cluster_size h) in let one = table_has h on_storage has.0 has.1 in omega arith)

      block_named : (c : ℕ) → HasBlock h on_storage c → 0 < named_for_tables h on_storage c
      block_named c has = subst (λ n. 0 < named_for_tables h on_storage n) has.2 (let s = shares h on_storage (block_offset (reftable_entry h on_storage has.0) / cluster_size h) in let one = block_has h on_storage has.0 has.1 in omega arith)

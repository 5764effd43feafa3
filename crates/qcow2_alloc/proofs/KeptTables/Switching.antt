-- Calls of the caches one after another, and changes of the order of writes.
use Rattle.std.proofs.Common.{◌≡◌, ◌⊎◌, inl, inr, List, ℕ, Result, Ok, Err, OnOk, refl, sym, ◌∙◌, subst}
use Rattle.qcow2_alloc.proofs.Common.{StorageView, EachMomentSince, IsLeftBy, passes_none, passes_on, passes_if, Bytes, byte_at, HeaderFields, StopOkEverywhere, Direction, Neither, L2DependsOnRb, RbDependsOnL2, Pending, MayTurn, AreClean, BlocksMayGo, TablesMayGo, IsSafeBetween, clean_covers, clean_counts, kept_turned, MetadataCaches, ImageStorage, storage_of, IsSafeSince, order, order_of, l2_tables, refblocks, known_of, AreAllWritten, CacheInvariant, InternalCacheStep, KeepSound}
use Rattle.qcow2_alloc.specs.declared.cache.Direction.TheVariants as D

-- ---- moments: a word for each elementary step of the caches

-- no table is written
pub safe_none : (v : StorageView) (known : Bytes) → IsSafeSince v v known
safe_none v known = record { moments = passes_none v _; contents = λ backing m ok known_ok. ok }

-- a call of the storage that keeps the contents
pub safe_keep : (old new : StorageView) (known : Bytes) → EachMomentSince old new (IsLeftBy new) → new.contents ≡ old.contents → IsSafeSince old new known
safe_keep old new known time same = record {
  moments = passes_if (λ c. IsSafeBetween (byte_at old.contents) known (byte_at c)) (λ c is backing m ok known_ok. subst (λ (l : List ℕ). StopOkEverywhere backing m (byte_at l)) (sym (is ∙ same)) ok) time;
  contents = λ backing m ok known_ok. subst (λ (l : List ℕ). StopOkEverywhere backing m (byte_at l)) (sym same) ok;
}

-- one call after another, of which the first changed nothing known
pub safe_then : (old mid new : StorageView) (known known' : Bytes) → known' ≡ known → IsSafeSince old mid known → IsSafeSince mid new known' → IsSafeSince old new known
safe_then old mid new known known' same first second = record {
  moments = passes_on _ first.moments second.moments (λ l safe backing m ok known_ok. safe backing m (first.contents backing m ok known_ok) (subst (StopOkEverywhere backing m) (sym same) known_ok));
  contents = λ backing m ok known_ok. second.contents backing m (first.contents backing m ok known_ok) (subst (StopOkEverywhere backing m) (sym same) known_ok);
}

module _ {S : Type 0} (view : S → StorageView) where
  -- nothing happens
  pub stay_none : (h : HeaderFields) (p : Pending) (s : ImageStorage S) (c : MetadataCaches S) → (view (storage_of s)).is_honest → CacheInvariant h p c (byte_at (view (storage_of s)).contents)
      → InternalCacheStep h p (view (storage_of s)) c (view (storage_of s)) c
  stay_none h p s c honest sound = record {
    honest = honest;
    sound = sound;
    known = refl;
    named_blocks = λ named_blocks. named_blocks;
    since = safe_none (view (storage_of s)) (known_of h c (byte_at (view (storage_of s)).contents));
  }

  pub keep_none : (s : ImageStorage S) (c : MetadataCaches S) → KeepSound view s c s c
  keep_none s c h p honest sound = stay_none h p s c honest sound

  pub stay_then : (h : HeaderFields) (p : Pending) (r s t : ImageStorage S) (a b c : MetadataCaches S) → InternalCacheStep h p (view (storage_of r)) a (view (storage_of s)) b
      → InternalCacheStep h p (view (storage_of s)) b (view (storage_of t)) c → InternalCacheStep h p (view (storage_of r)) a (view (storage_of t)) c
  stay_then h p r s t a b c first second = record {
    honest = second.honest;
    sound = second.sound;
    known = second.known ∙ first.known;
    named_blocks = λ named_blocks. second.named_blocks (first.named_blocks named_blocks);
    since = safe_then (view (storage_of r)) (view (storage_of s)) (view (storage_of t)) _ _ first.known first.since second.since;
  }

  pub keep_then : (r s t : ImageStorage S) (a b c : MetadataCaches S) → KeepSound view r a s b → KeepSound view s b t c → KeepSound view r a t c
  keep_then r s t a b c first second = λ h p honest sound.
      let f = first h p honest sound in
      stay_then h p r s t a b c f (second h p f.honest f.sound)

  -- then the direction turns
  pub keep_turned : (r s : ImageStorage S) (a b : MetadataCaches S) (to : _) → KeepSound view r a s b
      → ((h : HeaderFields) (p : Pending) → CacheInvariant h p b (byte_at (view (storage_of s)).contents)
      → MayTurn (order_of b) (order to) h (byte_at (view (storage_of s)).contents) (known_of h b (byte_at (view (storage_of s)).contents)))
      → KeepSound view r a s (record b { direction = to })
  keep_turned r s a b to keeps may = λ h p honest sound.
      let f = keeps h p honest sound in
      record {
        honest = f.honest;
        sound = record {
          l2_format = f.sound.l2_format;
          rb_format = f.sound.rb_format;
          l2_fit = f.sound.l2_fit;
          rb_fit = f.sound.rb_fit;
          kept = record {
            kept = kept_turned h (order_of b) p (l2_tables b) (refblocks b) (byte_at (view (storage_of s)).contents) f.sound.kept.kept (order to) (may h p f.sound);
            l2_loaded = f.sound.kept.l2_loaded;
            rb_loaded = f.sound.kept.rb_loaded;
          };
        };
        known = f.known;
        named_blocks = f.named_blocks;
        since = f.since;
      }

  -- from no direction, or once the L2 tables are written, refblocks may come first
  pub may_l2_depend : (b : MetadataCaches S) (s : ImageStorage S) → (order_of b ≡ Neither) ⊎ (order_of b ≡ RbDependsOnL2) × AreClean (l2_tables b) → (h : HeaderFields) (p : Pending)
      → CacheInvariant h p b (byte_at (view (storage_of s)).contents) → MayTurn (order_of b) L2DependsOnRb h (byte_at (view (storage_of s)).contents) (known_of h b (byte_at (view (storage_of s)).contents))
  may_l2_depend b s cases h p sound =
      let on_storage = byte_at (view (storage_of s)).contents in
      elim cases [
        | inl none ↦ subst (λ (d : Direction). MayTurn d L2DependsOnRb h on_storage (known_of h b on_storage)) (sym none) tt
        | inr turns ↦ subst (λ (d : Direction). MayTurn d L2DependsOnRb h on_storage (known_of h b on_storage)) (sym turns.0)
            (clean_covers h (order_of b) p (l2_tables b) (refblocks b) on_storage sound.kept.kept turns.1)
      ]

  pub may_rb_depend : (b : MetadataCaches S) (s : ImageStorage S) → (order_of b ≡ Neither) ⊎ (order_of b ≡ L2DependsOnRb) × AreClean (refblocks b) → (h : HeaderFields) (p : Pending)
      → CacheInvariant h p b (byte_at (view (storage_of s)).contents) → MayTurn (order_of b) RbDependsOnL2 h (byte_at (view (storage_of s)).contents) (known_of h b (byte_at (view (storage_of s)).contents))
  may_rb_depend b s cases h p sound =
      let on_storage = byte_at (view (storage_of s)).contents in
      elim cases [
        | inl none ↦ subst (λ (d : Direction). MayTurn d RbDependsOnL2 h on_storage (known_of h b on_storage)) (sym none) tt
        | inr turns ↦ subst (λ (d : Direction). MayTurn d RbDependsOnL2 h on_storage (known_of h b on_storage)) (sym turns.0)
            (clean_counts h (order_of b) p (l2_tables b) (refblocks b) on_storage sound.kept.kept turns.1)
      ]

-- ---- what may be written
module _ {S : Type 0} (c : MetadataCaches S) where
  pub tables_free : (c.direction ≡ D.None) ⊎ (c.direction ≡ D.RbDependsOnL2) → TablesMayGo (order_of c) (refblocks c)
  tables_free cases = elim cases [
    | inl is ↦ subst (λ (d : _). TablesMayGo (order d) (refblocks c)) (sym is) tt
    | inr is ↦ subst (λ (d : _). TablesMayGo (order d) (refblocks c)) (sym is) tt
  ]

  pub blocks_free : (c.direction ≡ D.None) ⊎ (c.direction ≡ D.L2DependsOnRb) → BlocksMayGo (order_of c) (l2_tables c)
  blocks_free cases = elim cases [
    | inl is ↦ subst (λ (d : _). BlocksMayGo (order d) (l2_tables c)) (sym is) tt
    | inr is ↦ subst (λ (d : _). BlocksMayGo (order d) (l2_tables c)) (sym is) tt
  ]

  pub tables_clean : c.direction ≡ D.L2DependsOnRb → AreClean (refblocks c) → TablesMayGo (order_of c) (refblocks c)
  tables_clean is clean = subst (λ (d : _). TablesMayGo (order d) (refblocks c)) (sym is) clean

  pub blocks_clean : c.direction ≡ D.RbDependsOnL2 → AreClean (l2_tables c) → BlocksMayGo (order_of c) (l2_tables c)
  blocks_clean is clean = subst (λ (d : _). BlocksMayGo (order d) (l2_tables c)) (sym is) clean

  -- the L2 tables are written, or needn't be
  pub blocks_either : (b : MetadataCaches S) → c.direction ≡ b.direction → (b.direction ≡ D.None) ⊎ (b.direction ≡ D.RbDependsOnL2) → AreClean (l2_tables c) → BlocksMayGo (order_of c) (l2_tables c)
  blocks_either b same cases clean = elim cases [
    | inl is ↦ blocks_free (inl (same ∙ is))
    | inr is ↦ blocks_clean (same ∙ is) clean
  ]

  pub blocks_still : (b : MetadataCaches S) → c.direction ≡ b.direction → (b.direction ≡ D.None) ⊎ (b.direction ≡ D.L2DependsOnRb) → BlocksMayGo (order_of c) (l2_tables c)
  blocks_still b same cases = elim cases [
    | inl is ↦ blocks_free (inl (same ∙ is))
    | inr is ↦ blocks_free (inr (same ∙ is))
  ]

pub always_ok : {T E : Type 0} {P : Type 0} (r : Result T E) → P → OnOk r P
always_ok (Ok _) p = p
always_ok (Err _) p = tt

pub both_written : {S E : Type 0} (b c : MetadataCaches S) (r : Result (Unit {0}) E) → c.l2 ≡ b.l2 → AreClean (l2_tables b) → OnOk r (AreClean (refblocks c)) → OnOk r (AreAllWritten c)
both_written b c (Ok _) same tables blocks = (rw same tables, blocks)
both_written b c (Err _) same tables blocks = tt

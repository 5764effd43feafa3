-- Tables are written in an order that the direction allows.
use Rattle.std.proofs.Common.{◌≡◌, ◌%◌, ◌^◌, ◌++◌, ◌∷◌, inl, inr, ℕ, false, List, refl, sym, ◌∙◌, subst}
use Rattle.qcow2_alloc.proofs.Common.{Bytes, HeaderFields, cluster_size, CachedTable, Direction, Neither, L2DependsOnRb, RbDependsOnL2, Pending, CrashInvariant, IsInOrder, IsMixed, SameCovers, SameCounts, known_bytes, BlocksMayGo, TablesMayGo, IsWrittenSo, IsSafeBetween, rb_mixed, l2_mixed, top_kept, either_cover, either_count, IsTop-top, SameTop-sym, SameTop-trans, AreElsewhere, AreKept}
use Rattle.qcow2_alloc.proofs.KeptTables.Flushing.{l2_step, rb_step}
use Rattle.qcow2_alloc.proofs.KeptTables.Getting.{HoldsWhatStands}
use Rattle.qcow2_alloc.proofs.KeptTables.Listing.{l2_drop, l2_add, l2_promote, rb_drop, rb_add, rb_promote}

-- ---- mixes

pub mixed_same : (h : HeaderFields) (d : Direction) (on_storage known : Bytes) → IsMixed h d on_storage known on_storage
mixed_same h d on_storage known = record { partly = λ c. inl (λ o in_c. refl); ordered = in_order d }
  where
    in_order : (e : Direction) → IsInOrder e h on_storage known on_storage
    in_order Neither = tt
    in_order L2DependsOnRb = inl (λ g. refl)
    in_order RbDependsOnL2 = inl (λ c. refl)

-- a mix of a mix and what is known
module _ (h : HeaderFields) (d : Direction) (p : Pending) (on_storage known b c : Bytes) (crash_invariant : CrashInvariant h d p on_storage known) (first : IsMixed h d on_storage known b) (second : IsMixed h d b known c) where
  counts_known : SameCounts h known b → SameCounts h known c
  counts_known same x =
      let kept = top_kept h on_storage known b crash_invariant.top crash_invariant.same_top first.partly in
      elim (either_count h b known c (IsTop-top h on_storage b kept crash_invariant.top) (SameTop-trans h b on_storage known (SameTop-sym h on_storage b kept) crash_invariant.same_top) second.partly x) [
        | inl as_b ↦ same x ∙ sym as_b
        | inr as_known ↦ sym as_known
      ]

  covers_known : SameCovers h known b → SameCovers h known c
  covers_known same g =
      let kept = top_kept h on_storage known b crash_invariant.top crash_invariant.same_top first.partly in
      elim (either_cover h b known c (IsTop-top h on_storage b kept crash_invariant.top) (SameTop-trans h b on_storage known (SameTop-sym h on_storage b kept) crash_invariant.same_top) second.partly g) [
        | inl as_b ↦ same g ∙ sym as_b
        | inr as_known ↦ sym as_known
      ]

  in_order : (e : Direction) → IsInOrder e h on_storage known b → IsInOrder e h b known c → IsInOrder e h on_storage known c
  in_order Neither one two = tt
  in_order L2DependsOnRb one two = elim two [
    | inr counted ↦ inr counted
    | inl same ↦ elim one [ inl before ↦ inl (λ g. before g ∙ same g) | inr counted ↦ inr (counts_known counted) ]
  ]
  in_order RbDependsOnL2 one two = elim two [
    | inr covered ↦ inr covered
    | inl same ↦ elim one [ inl before ↦ inl (λ x. before x ∙ same x) | inr covered ↦ inr (covers_known covered) ]
  ]

  pub mixed_then : IsMixed h d on_storage known c
  mixed_then = record {
    partly = λ x. elim (second.partly x) [
      | inr as_known ↦ inr as_known
      | inl as_b ↦ elim (first.partly x) [
        | inl as_on_storage ↦ inl (λ o in_x. as_b o in_x ∙ as_on_storage o in_x)
        | inr as_known ↦ inr (λ o in_x. as_b o in_x ∙ as_known o in_x)
      ]
    ];
    ordered = in_order d first.ordered second.ordered;
  }

-- ---- what is kept, and known as it was, over a mix of what there was and what is known
module _ (h : HeaderFields) (d : Direction) (p : Pending) (on_storage0 known0 : Bytes) (crash_invariant : CrashInvariant h d p on_storage0 known0) (bits : ℕ) (same_bits : bits ≡ h.cluster_bits) where
  abbrev size : ℕ
  size = cluster_size h

  -- of the L2 tables
  module _ (rbs : List CachedTable) where
    abbrev pub OrderedTables : List CachedTable → Bytes → Type 0
    OrderedTables ts on_storage = AreKept h d p ts rbs on_storage × (known_bytes size ts rbs on_storage ≡ known0) × IsMixed h d on_storage0 known0 on_storage

    pub l2_drop_ordered : (front back : List CachedTable) (t : CachedTable) (on_storage : Bytes) → OrderedTables (front ++ t ∷ back) on_storage → t.is_modified ≡ false
        → OrderedTables (front ++ back) on_storage × (known_bytes size (front ++ back) rbs on_storage ≡ known_bytes size (front ++ t ∷ back) rbs on_storage)
    l2_drop_ordered front back t on_storage are clean = let new = l2_drop h d p rbs front back t on_storage are.0 clean in ((new.0, new.1 ∙ are.1, are.2), new.1)

    pub l2_add_ordered : (t : CachedTable) (ts : List CachedTable) (on_storage : Bytes) → OrderedTables ts on_storage → t.place % 2 ^ bits ≡ 0 → AreElsewhere t.place ts → t.is_modified ≡ false
        → HoldsWhatStands (λ ts on_storage. known_bytes size ts rbs on_storage) (2 ^ bits) t ts on_storage → OrderedTables (t ∷ ts) on_storage × (known_bytes size (t ∷ ts) rbs on_storage ≡ known_bytes size ts rbs on_storage)
    l2_add_ordered t ts on_storage are aligned away clean current =
        let new = l2_add h d p rbs t ts on_storage are.0 (subst (λ n. t.place % 2 ^ n ≡ 0) same_bits aligned) away clean (subst (λ n. HoldsWhatStands (λ ts on_storage. known_bytes size ts rbs on_storage) (2 ^ n) t ts on_storage) same_bits current) in
        ((new.0, new.1 ∙ are.1, are.2), new.1)

    pub l2_promote_ordered : (front back : List CachedTable) (t : CachedTable) (on_storage : Bytes) → OrderedTables (front ++ t ∷ back) on_storage
        → OrderedTables (t ∷ (front ++ back)) on_storage × (known_bytes size (t ∷ (front ++ back)) rbs on_storage ≡ known_bytes size (front ++ t ∷ back) rbs on_storage)
    l2_promote_ordered front back t on_storage are = let new = l2_promote h d p rbs front back t on_storage are.0 in ((new.0, new.1 ∙ are.1, are.2), new.1)

    pub l2_step_ordered : TablesMayGo d rbs → (front back : List CachedTable) (t t' : CachedTable) (on_storage on_storage' : Bytes) → OrderedTables (front ++ t ∷ back) on_storage → IsWrittenSo (2 ^ bits) t t' on_storage on_storage'
        → OrderedTables (front ++ t' ∷ back) on_storage' × (known_bytes size (front ++ t' ∷ back) rbs on_storage' ≡ known_bytes size (front ++ t ∷ back) rbs on_storage)
        × IsSafeBetween on_storage (known_bytes size (front ++ t ∷ back) rbs on_storage) on_storage'
    l2_step_ordered may front back t t' on_storage on_storage' are so =
        let new = l2_step h d p bits same_bits rbs may front back t t' on_storage on_storage' are.0 so in
        let one : IsMixed h d on_storage known0 on_storage' =
        subst (λ (k : Bytes). IsMixed h d on_storage k on_storage') are.1 (l2_mixed h d p (front ++ t ∷ back) rbs on_storage are.0.kept front back t t' on_storage' refl (subst (λ n. IsWrittenSo (2 ^ n) t t' on_storage on_storage') same_bits so) may) in
        ((new.0, new.1 ∙ are.1, mixed_then h d p on_storage0 known0 on_storage on_storage' crash_invariant are.2 one), new.1, new.2)

  -- of the refblocks
  module _ (l2s : List CachedTable) where
    abbrev pub OrderedBlocks : List CachedTable → Bytes → Type 0
    OrderedBlocks ts on_storage = AreKept h d p l2s ts on_storage × (known_bytes size l2s ts on_storage ≡ known0) × IsMixed h d on_storage0 known0 on_storage

    pub rb_drop_ordered : (front back : List CachedTable) (t : CachedTable) (on_storage : Bytes) → OrderedBlocks (front ++ t ∷ back) on_storage → t.is_modified ≡ false
        → OrderedBlocks (front ++ back) on_storage × (known_bytes size l2s (front ++ back) on_storage ≡ known_bytes size l2s (front ++ t ∷ back) on_storage)
    rb_drop_ordered front back t on_storage are clean = let new = rb_drop h d p l2s front back t on_storage are.0 clean in ((new.0, new.1 ∙ are.1, are.2), new.1)

    pub rb_add_ordered : (t : CachedTable) (ts : List CachedTable) (on_storage : Bytes) → OrderedBlocks ts on_storage → t.place % 2 ^ bits ≡ 0 → AreElsewhere t.place ts → t.is_modified ≡ false
        → HoldsWhatStands (λ ts on_storage. known_bytes size l2s ts on_storage) (2 ^ bits) t ts on_storage → OrderedBlocks (t ∷ ts) on_storage × (known_bytes size l2s (t ∷ ts) on_storage ≡ known_bytes size l2s ts on_storage)
    rb_add_ordered t ts on_storage are aligned away clean current =
        let new = rb_add h d p l2s t ts on_storage are.0 (subst (λ n. t.place % 2 ^ n ≡ 0) same_bits aligned) away clean (subst (λ n. HoldsWhatStands (λ ts on_storage. known_bytes size l2s ts on_storage) (2 ^ n) t ts on_storage) same_bits current) in
        ((new.0, new.1 ∙ are.1, are.2), new.1)

    pub rb_promote_ordered : (front back : List CachedTable) (t : CachedTable) (on_storage : Bytes) → OrderedBlocks (front ++ t ∷ back) on_storage
        → OrderedBlocks (t ∷ (front ++ back)) on_storage × (known_bytes size l2s (t ∷ (front ++ back)) on_storage ≡ known_bytes size l2s (front ++ t ∷ back) on_storage)
    rb_promote_ordered front back t on_storage are = let new = rb_promote h d p l2s front back t on_storage are.0 in ((new.0, new.1 ∙ are.1, are.2), new.1)

    pub rb_step_ordered : BlocksMayGo d l2s → (front back : List CachedTable) (t t' : CachedTable) (on_storage on_storage' : Bytes) → OrderedBlocks (front ++ t ∷ back) on_storage → IsWrittenSo (2 ^ bits) t t' on_storage on_storage'
        → OrderedBlocks (front ++ t' ∷ back) on_storage' × (known_bytes size l2s (front ++ t' ∷ back) on_storage' ≡ known_bytes size l2s (front ++ t ∷ back) on_storage)
        × IsSafeBetween on_storage (known_bytes size l2s (front ++ t ∷ back) on_storage) on_storage'
    rb_step_ordered may front back t t' on_storage on_storage' are so =
        let new = rb_step h d p bits same_bits l2s may front back t t' on_storage on_storage' are.0 so in
        let one : IsMixed h d on_storage known0 on_storage' =
        subst (λ (k : Bytes). IsMixed h d on_storage k on_storage') are.1 (rb_mixed h d p l2s (front ++ t ∷ back) on_storage are.0.kept front back t t' on_storage' refl (subst (λ n. IsWrittenSo (2 ^ n) t t' on_storage on_storage') same_bits so) may) in
        ((new.0, new.1 ∙ are.1, mixed_then h d p on_storage0 known0 on_storage on_storage' crash_invariant are.2 one), new.1, new.2)

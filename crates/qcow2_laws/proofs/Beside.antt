-- Storage writes outside of the caches' modified tables: the known contents change as the storage does.
use Rattle.std.proofs.Common.{◌≡◌, ◌+◌, ◌*◌, ◌/◌, ◌<◌, ◌≤◌, ◌⊎◌, ℕ, inl, inr, List, length, refl, sym, ap, ◌∙◌, arith}
use Rattle.qcow2_laws.proofs.Common.{cases_lt, div-mul-add, overwritten, Bytes, byte_at, HeaderFields, header, HeaderReads, cluster_size, reftable_entries, l1_entry, reftable_entry, in_cluster, CachedTable, IsOfHeaderRest, GivenBytes, Direction, Pending, SameIn, IsUnnamed, MayChange, IsWritten, Places, with_places, IsSameBut, WritesL1Entry, WritesReftableEntry, WritesHeader, known_bytes, IsFreeOf, CacheInvariantOver, AreNamedBlocks}
use Rattle.image_access.proofs.Bytes.{byte_at-overwritten_outside}
use Rattle.qcow2_laws.proofs.Lemmas.{Sizes, l1-same, reftable-same, in_own, in_l1, in_reftable, l1_has, reftable_has, kept_sizes, rbs_free, l2s_free, unnamed_free_l2, unnamed_free_rb, writes_header}
use Rattle.qcow2_laws.proofs.KeptSteps.{known_beside, known_is_on_storage, still_agree}

-- a write to the storage, by the value at each offset
pub overwritten_but : (contents : List ℕ) (at : ℕ) (bytes : List ℕ) → IsSameBut at (length bytes) (byte_at contents) (byte_at (overwritten contents at bytes))
overwritten_but contents at bytes o outside = sym (byte_at-overwritten_outside contents at bytes o outside)

module _ (h : HeaderFields) (d : Direction) (p : Pending) (l2s rbs : List CachedTable) (on_storage on_storage' : Bytes) (kept : CacheInvariantOver h d p l2s rbs on_storage) where
  sizes : Sizes h
  sizes = kept_sizes h d p l2s rbs on_storage kept

  -- no modified table lies in the clusters of the header, the L1 table and the reftable
  pub first_free : (c : ℕ) → 0 < in_cluster h c 0 + in_l1 h c + in_reftable h c → IsFreeOf (cluster_size h) l2s c × IsFreeOf (cluster_size h) rbs c
  first_free c some = (l2s_free h d p l2s rbs on_storage kept c (omega arith), rbs_free h d p l2s rbs on_storage kept c (omega arith))

  but_known : (place n : ℕ) → IsSameBut place n on_storage on_storage' → IsSameBut place n (known_bytes (cluster_size h) l2s rbs on_storage) (known_bytes (cluster_size h) l2s rbs on_storage')
  but_known place n but o outside = known_beside (cluster_size h) l2s rbs on_storage on_storage' o (but o outside)

  -- in a cluster that no modified table lies in, what is known is on the storage
  free_in : (c : ℕ) → IsFreeOf (cluster_size h) l2s c × IsFreeOf (cluster_size h) rbs c → SameIn (cluster_size h) c (known_bytes (cluster_size h) l2s rbs on_storage') on_storage'
  free_in c free o in_c = known_is_on_storage (cluster_size h) l2s rbs on_storage' o (free.0 o in_c) (free.1 o in_c)

  -- ---- an entry of the L1 table, and one of the reftable
  pub l1_entry_beside : (i entry : ℕ) → i < h.l1_entries → IsSameBut (h.l1_offset + 8 * i) 8 on_storage on_storage' → l1_entry h on_storage' i ≡ entry
      → WritesL1Entry h on_storage (known_bytes (cluster_size h) l2s rbs on_storage) on_storage' (known_bytes (cluster_size h) l2s rbs on_storage') i entry
  l1_entry_beside i entry lt but is = record {
    within = lt;
    others = but;
    known_others = but_known (h.l1_offset + 8 * i) 8 but;
    is = is;
    known_is =
        let aligned = kept.crash_invariant.top.l1_aligned in
        l1-same h (known_bytes (cluster_size h) l2s rbs on_storage') on_storage' i sizes aligned (λ _.
        free_in ((h.l1_offset + 8 * i) / cluster_size h) (first_free ((h.l1_offset + 8 * i) / cluster_size h) (let one = l1_has h i sizes aligned lt in omega arith))) ∙ is;
  }

  pub reftable_entry_beside : (k entry : ℕ) → k < reftable_entries h → IsSameBut (h.reftable_offset + 8 * k) 8 on_storage on_storage' → reftable_entry h on_storage' k ≡ entry
      → WritesReftableEntry h on_storage (known_bytes (cluster_size h) l2s rbs on_storage) on_storage' (known_bytes (cluster_size h) l2s rbs on_storage') k entry
  reftable_entry_beside k entry lt but is = record {
    within = lt;
    others = but;
    known_others = but_known (h.reftable_offset + 8 * k) 8 but;
    is = is;
    known_is =
        let aligned = kept.crash_invariant.top.reftable_aligned in
        reftable-same h (known_bytes (cluster_size h) l2s rbs on_storage') on_storage' k sizes aligned (λ _.
        free_in ((h.reftable_offset + 8 * k) / cluster_size h) (first_free ((h.reftable_offset + 8 * k) / cluster_size h) (let one = reftable_has h k sizes aligned lt in omega arith))) ∙ is;
  }

  -- ---- the header
  pub header_beside : (a : Places) (place n : ℕ) → place + n ≤ 104 → ((o : ℕ) → IsOfHeaderRest h o → (o < place) ⊎ (place + n ≤ o)) → IsSameBut place n on_storage on_storage' → header on_storage' ≡ with_places h a → HeaderReads (with_places h a) on_storage'
      → WritesHeader h a on_storage (known_bytes (cluster_size h) l2s rbs on_storage) on_storage' (known_bytes (cluster_size h) l2s rbs on_storage')
  header_beside a place n small apart but is reads =
      writes_header h d p on_storage (known_bytes (cluster_size h) l2s rbs on_storage) on_storage' (known_bytes (cluster_size h) l2s rbs on_storage') kept.crash_invariant a place n
      (record {
        others = but;
        known_others = but_known place n but;
        agree = still_agree (cluster_size h) l2s rbs on_storage on_storage' (λ o. elim (cases_lt o (place + n)) [
          | inr past ↦ inl (but o (inr past))
          | inl lt ↦
              let large = sizes.large in
              let e : o ≡ 0 * cluster_size h + o = omega arith in
              let zero : o / cluster_size h ≡ 0 = ap (λ k. k / cluster_size h) e ∙ div-mul-add 0 (cluster_size h) o (omega arith) in
              let z : 0 / cluster_size h ≡ 0 = omega arith in
              let one : in_cluster h 0 0 ≡ 1 = ap (λ m. in_cluster h m 0) (sym z) ∙ in_own h 0 in
              let free = first_free 0 (omega arith) in
              inr (free.0 o zero, free.1 o zero)
        ]);
      }) small apart is reads

  -- ---- data, and bytes of new tables: no refblock is modified that nothing names
  pub data_beside : (given : List GivenBytes) → ((c : ℕ) → SameIn (cluster_size h) c on_storage on_storage' ⊎ (IsFreeOf (cluster_size h) l2s c × IsFreeOf (cluster_size h) rbs c))
      → ((c : ℕ) → MayChange h on_storage (known_bytes (cluster_size h) l2s rbs on_storage) on_storage' (known_bytes (cluster_size h) l2s rbs on_storage') given c)
      → IsWritten h on_storage (known_bytes (cluster_size h) l2s rbs on_storage) on_storage' (known_bytes (cluster_size h) l2s rbs on_storage') given
  data_beside given free each = record {
    agree = still_agree (cluster_size h) l2s rbs on_storage on_storage' (λ o. elim (free (o / cluster_size h)) [
      | inl same ↦ inl (same o refl)
      | inr none ↦ inr (none.0 o refl, none.1 o refl)
    ]);
    each = each;
  }

  -- a cluster that stays on the storage stays as known
  pub same_beside : (c : ℕ) → SameIn (cluster_size h) c on_storage on_storage' → SameIn (cluster_size h) c on_storage on_storage' × SameIn (cluster_size h) c (known_bytes (cluster_size h) l2s rbs on_storage) (known_bytes (cluster_size h) l2s rbs on_storage')
  same_beside c same = (same, (λ o in_c. known_beside (cluster_size h) l2s rbs on_storage on_storage' o (same o in_c)))

  pub unnamed_free : AreNamedBlocks h rbs on_storage → (c : ℕ) → IsUnnamed h on_storage (known_bytes (cluster_size h) l2s rbs on_storage) c → IsFreeOf (cluster_size h) l2s c × IsFreeOf (cluster_size h) rbs c
  unnamed_free named_blocks c unnamed = (unnamed_free_l2 h d p l2s rbs on_storage kept c unnamed.no_table, unnamed_free_rb h d p l2s rbs on_storage kept named_blocks c unnamed.no_table)

-- ---- what a new L2 table says

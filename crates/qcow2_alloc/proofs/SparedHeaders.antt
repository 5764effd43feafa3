-- Calls on an image's file that keep cluster 0, one after another.
use Rattle.std.proofs.Common.{◌≡◌, ◌⊎◌, ◌+◌, ◌*◌, ◌^◌, ◌<◌, ◌≤◌, inl, inr, ℕ, zero, suc, List, Option, Some, None, Result, IsSome, refl, sym, ap, ◌∙◌, subst, arith, IfSome}
use Rattle.qcow2_alloc.proofs.Common.{overwritten, StorageView, Calls, Changes, StorageError, whole_or_nothing, byte_at, HeaderFields, EntryTableView, entry_count, HeaderView, with_fields, with_reftable, bytes_of_numbers, reftable_pointer_written, IsInHeaderCluster, IsBesidePointer, BytesStay, KeepsHeaderCluster, KeepBehindHeader, StandsBehindHeader, CachesSpareHeader, SparesBytes, SparesHeader, PreservesHeaderButPointer, view_in, storage_of, MetadataCaches, ClustersToFreeEntry, ImageFile, ImageStorage, IsSameBut, overwritten_but}
use Rattle.qcow2_alloc.proofs.HeaderClusters.{below_others, bytes_stay, bytes_then, fewer_stay, call_keeps, wrote_above}

-- what begins at an offset that isn't 0 isn't cluster 0
pub not_first : (cluster size offset : ℕ) → 0 < offset → cluster * size ≡ offset → 0 < cluster
not_first cluster size offset some is = elim cluster as (λ n. n * size ≡ offset → 0 < n) [
  | zero ↦ λ is. absurd (omega (arith, some, is))
  | suc n ↦ λ is. omega arith
] is

-- what is said of a place is said of it where it is above 0
pub at_place : {A : Type 0} (o : Option ℕ) → IsSome o → IfSome o (λ c. 0 < c) → IfSome o (λ c. 0 < c → A) → A
at_place None some above says = absurd cc
at_place (Some c) some above says = says above

-- the pointer to the reftable has twelve bytes
pointer_but : (h : HeaderFields) (contents : List ℕ) → IsSameBut 48 12 (byte_at contents) (byte_at (reftable_pointer_written h contents))
unfolding bytes_of_numbers
pointer_but h contents = overwritten_but contents 48 _

-- a table that was placed above cluster 0 isn't there
pub placed_above : (o : Option ℕ) → IfSome o (λ c. 0 < c) → ¬ (o ≡ Some 0)
placed_above None above is = cc
placed_above (Some c) above is = let zero : c ≡ 0 = some_is is in omega (arith, above, zero)
  where
    some_is : {a b : ℕ} → Some a ≡ Some b → a ≡ b
    some_is e = cc

module _ {S : Type 0} {view : S → StorageView} where
  -- ---- nothing, one after another, and less said
  pub spares_none : {K : ℕ → ℕ → Type 0} {r : EntryTableView} {f : ImageFile S} → SparesBytes view K r f r f
  spares_none {K} {r} {f} = record { bytes = λ bits stands honest. bytes_stay (K bits) (view_in view f); behind = λ bits stands. stands }

  pub spares_then : {K : ℕ → ℕ → Type 0} {r r' r'' : EntryTableView} {a b c : ImageFile S} → SparesBytes view K r a r' b → SparesBytes view K r' b r'' c → SparesBytes view K r a r'' c
  spares_then {K} {r} {r'} {r''} {a} {b} {c} first then = record {
    bytes = λ bits stands honest.
        let one = first.bytes bits stands honest in
        bytes_then (K bits) (view_in view a) (view_in view b) (view_in view c) one (then.bytes bits (first.behind bits stands) (one.moments.honest honest));
    behind = λ bits stands. then.behind bits (first.behind bits stands);
  }

  pub spares_less : {r r' : EntryTableView} {a b : ImageFile S} → SparesHeader view r a r' b → PreservesHeaderButPointer view r a r' b
  spares_less {r} {r'} {a} {b} spares = record {
    bytes = λ bits stands honest. fewer_stay (IsInHeaderCluster bits) (IsBesidePointer bits) (view_in view a) (view_in view b) (λ o kept. kept.0) (spares.bytes bits stands honest);
    behind = spares.behind;
  }

  -- what is listed to be freed has no part in it
  pub spares_listed : {K : ℕ → ℕ → Type 0} {r r' : EntryTableView} {a b : ImageFile S} (list : List ClustersToFreeEntry) → SparesBytes view K r a r' b → SparesBytes view K r a r' (record b { free_list = list })
  spares_listed list spares = record {
    bytes = spares.bytes;
    behind = λ bits stands. let now = spares.behind bits stands in record { header = now.header; caches = now.caches; reftable_bits = now.reftable_bits; elsewhere = now.elsewhere };
  }

  -- ---- the parts of a file

  -- another file with the same header, whose caches and bytes were spared
  pub spares_parts : (r r' : EntryTableView) (a b : ImageFile S) → b.header.fields.cluster_bits ≡ a.header.fields.cluster_bits → r'.cluster_bits ≡ r.cluster_bits → r'.cluster ≡ r.cluster → (0 < entry_count r' → 0 < entry_count r)
      → KeepBehindHeader a.caches b.caches
      → ((bits : ℕ) → StandsBehindHeader bits r a → KeepsHeaderCluster bits (view_in view a) (view_in view b)) → SparesHeader view r a r' b
  spares_parts r r' a b header reftable_bits cluster some caches bytes = record {
    bytes = bytes;
    behind = λ bits stands. record {
      header = header ∙ stands.header;
      caches = caches bits stands.caches;
      reftable_bits = reftable_bits ∙ stands.reftable_bits;
      elsewhere = λ has is. stands.elsewhere (some has) (sym cluster ∙ is);
    };
  }

  pub spares_cached : (r : EntryTableView) (f : ImageFile S) (storage : ImageStorage S) (caches : MetadataCaches S) → CachesSpareHeader view f.storage f.caches storage caches → SparesHeader view r f r (record f { storage = storage; caches = caches })
  spares_cached r f storage caches spare = spares_parts r r f (record f { storage = storage; caches = caches }) refl refl refl (λ has. has) spare.behind (λ bits stands. spare.bytes bits stands.caches)

  pub spares_tables : (r : EntryTableView) (f : ImageFile S) (caches : MetadataCaches S) → KeepBehindHeader f.caches caches → SparesHeader view r f r (record f { caches = caches })
  spares_tables r f caches keep = spares_parts r r f (record f { caches = caches }) refl refl refl (λ has. has) keep (λ bits stands honest. bytes_stay (IsInHeaderCluster bits) (view_in view f))

  -- a table was written to another cluster, and its size is the image's
  pub spares_written : (r : EntryTableView) (f : ImageFile S) (bits : ℕ) (s : ImageStorage S) → bits ≡ f.header.fields.cluster_bits → KeepsHeaderCluster bits (view_in view f) (view (storage_of s)) → SparesHeader view r f r (record f { storage = s })
  spares_written r f bits s is keeps =
      spares_parts r r f (record f { storage = s }) refl refl refl (λ has. has) (λ n are. are) (λ n stands. subst (λ m. KeepsHeaderCluster m (view_in view f) (view (storage_of s))) (is ∙ stands.header) keeps)

-- ---- what is written beside cached tables
module _ {S : Type 0} (view : S → StorageView) where
  -- an entry of the reftable was changed and written
  module _ {T : Type 0} (r r' : EntryTableView) (f : ImageFile S) (caches : MetadataCaches S) (asked : S) (s : ImageStorage S) (index : ℕ) (entry : List ℕ) (result : Result T StorageError) (keep : KeepBehindHeader f.caches caches)
      (bits_stay : r'.cluster_bits ≡ r.cluster_bits) (place_stays : r'.cluster ≡ r.cluster) (same : asked ≡ storage_of f.storage)
      (written : IfSome r'.cluster (λ c. Changes (view asked) (view (storage_of s)) result (λ b. overwritten b (c * 2 ^ r'.cluster_bits + 8 * index) entry))) (calls : Calls (view asked) (view (storage_of s)) result) where
    entry_elsewhere : (o : Option ℕ) (bits n : ℕ) → n ≡ bits → ¬ (o ≡ Some 0) → IsSome o → IfSome o (λ c. Changes (view asked) (view (storage_of s)) result (λ b. overwritten b (c * 2 ^ n + 8 * index) entry)) → KeepsHeaderCluster bits (view asked) (view (storage_of s))
    entry_elsewhere None bits n is elsewhere some wrote = absurd cc
    entry_elsewhere (Some c) bits n is elsewhere some wrote =
        wrote_above (IsInHeaderCluster bits) (view asked) (view (storage_of s)) result (c * 2 ^ n + 8 * index) entry
        (λ o in_first. let below = below_others bits c o (above_zero c elsewhere) in_first in let e = ap (λ m. c * 2 ^ m) is in omega (arith, below, e)) wrote calls
      where
        above_zero : (k : ℕ) → ¬ (Some k ≡ Some 0) → 0 < k
        above_zero k other = elim k as (λ n. ¬ (Some n ≡ Some 0) → 0 < n) [ zero ↦ λ apart. absurd (apart refl) | suc n ↦ λ apart. omega arith ] other

    pub spares_entry : 0 < entry_count r → IsSome r'.cluster → SparesHeader view r f r' (record f { storage = s; caches = caches })
    spares_entry has some = spares_parts r r' f (record f { storage = s; caches = caches }) refl bits_stay place_stays (λ still. has) keep
        (λ bits stands. subst (λ (x : S). KeepsHeaderCluster bits (view x) (view (storage_of s))) same
        (entry_elsewhere r'.cluster bits r'.cluster_bits (bits_stay ∙ stands.reftable_bits) (λ is. stands.elsewhere has (sym place_stays ∙ is)) some written))

  -- the header's pointer was written, and names a reftable that isn't at cluster 0
  module _ {T : Type 0} (r : EntryTableView) (f : ImageFile S) (header : HeaderView) (caches : MetadataCaches S) (asked : S) (s : ImageStorage S) (offset clusters : ℕ) (result : Result T StorageError)
      (header_is : header ≡ with_fields f.header (with_reftable f.header.fields offset clusters)) (keep : KeepBehindHeader f.caches caches) (same : asked ≡ storage_of f.storage)
      (written : Changes (view asked) (view (storage_of s)) result (reftable_pointer_written header.fields)) (calls : Calls (view asked) (view (storage_of s)) result) where
    beside : (o : ℕ) → (o < 48) ⊎ (60 ≤ o) → (new : List ℕ) → (new ≡ (view asked).contents) ⊎ (new ≡ reftable_pointer_written header.fields (view asked).contents) → byte_at (view asked).contents o ≡ byte_at new o
    beside o outside new (inl is) = ap (λ l. byte_at l o) (sym is)
    beside o outside new (inr is) = pointer_but header.fields (view asked).contents o outside ∙ ap (λ l. byte_at l o) (sym is)

    pointer_stays : (bits : ℕ) → (view asked).is_honest → BytesStay (IsBesidePointer bits) (view asked) (view (storage_of s))
    pointer_stays bits honest = call_keeps (IsBesidePointer bits) (view asked) (view (storage_of s)) result calls honest
        (λ o kept. beside o kept.1 (view (storage_of s)).contents (whole_or_nothing result (view asked).contents (reftable_pointer_written header.fields (view asked).contents) (view (storage_of s)).contents (written honest)))

    -- the allocator's reftable is the former one still, or the new one
    pub spares_pointer : (r' : EntryTableView) → ((bits : ℕ) → StandsBehindHeader bits r f → (r'.cluster_bits ≡ bits) × (0 < entry_count r' → ¬ (r'.cluster ≡ Some 0))) → PreservesHeaderButPointer view r f r' (record f { storage = s; header = header; caches = caches })
    spares_pointer r' stand = record {
      bytes = λ bits stands. subst (λ (x : S). (view x).is_honest → BytesStay (IsBesidePointer bits) (view x) (view (storage_of s))) same (pointer_stays bits);
      behind = λ bits stands. let now = stand bits stands in record { header = ap (λ (h : HeaderView). h.fields.cluster_bits) header_is ∙ stands.header; caches = keep bits stands.caches; reftable_bits = now.0; elsewhere = now.1 };
    }

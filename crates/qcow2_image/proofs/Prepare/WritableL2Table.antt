-- An L1 entry gets an L2 table of its own: a new one, a copy, or the one that it had.
use Rattle.std.proofs.Common.{◌≡◌, ◌*◌, ◌/◌, ◌%◌, ◌<◌, ◌∷◌, ◌++◌, ◌==◌, inl, inr, ℕ, List, [], Option, None, Result, Ok, Err, true, refl, sym, ap, ◌∙◌, subst, arith, IsErr, IsSome}
use Rattle.qcow2_image.proofs.Common.{cond-true, eq-eqb, mod_below, BackingView, StorageView, Bytes, HeaderFields, cluster_size, entries_per_cluster, has_data_file, l2_entry, host_offset, is_copied, entry_cover, L2TableView, l2_table, table_in, entry_at, cover_of-0, Pending, table_at, safe_step_none, Sizes, Sizes-from, cover_none, cover_in, IsTop-top, MetadataCaches, ClustersToFreeEntry, metadata_entry, ImageError, ImageStorage, l2_pins, CachesHaveRoom, view_in, contents_in, known_in, state_in, storage_of, l2_at, IsEntryAt, ShowsKnown, InternalCacheStep, pending_same, Qcow2, Prepared, SaysKnown, MayName, NamesShared, NamesCopied, replacing, EntersTable, OwnsTable, NamesOwn, InternalStep, RefusedStep, pending_with_listed, HoldsTable, l1_index_of, ImageInvariant, Mappings}
use Rattle.qcow2_image.proofs.Call.Called.{keeps_then}
use Rattle.qcow2_image.proofs.Prepare.UnlinkedL2Table.{keeps_none, as_listed_after, interrupted_on, same_l1, keeps_listed, given_up, freed_table}
use Rattle.qcow2_image.proofs.Map.Loading.{caches_moved, with_caches}
use Rattle.qcow2_image.proofs.Prepare.L1EntryWritten.{table_alone}

-- what holds of each refusal holds of one
pub refused : {A E : Type 0} (P : Result A E → Type 0) (r : Result A E) → IsErr r → ((e : E) → P (Err e)) → P r
refused P (Ok x) is holds = absurd (let bad = is in cc)
refused P (Err e) is holds = holds e

module _ {S F : Type 0} (view : S → StorageView) (backing : F → BackingView) (out : Mappings) (p : Pending) (old : Qcow2 S F) (sound : ImageInvariant view backing p old out) (index : ℕ) where
  abbrev h : HeaderFields
  h = old.file.header.fields

  abbrev known : Bytes
  known = known_in view old.file

  -- nothing was done
  pub left_alone : (e : ImageError) → RefusedStep view backing p old old out e
  left_alone e = inl (as_listed_after view backing out p old old refl (keeps_none view backing out p old sound))

  known_table : table_at h known index ≡ table_at h (contents_in view old.file) index
  known_table = ap host_offset (sym (sound.file.caches.kept.kept.crash_invariant.same_top.l1 index))

  sizes : Sizes h
  sizes = let crash_invariant = sound.file.caches.kept.kept.crash_invariant in Sizes-from h known (IsTop-top h (contents_in view old.file) known crash_invariant.same_top crash_invariant.top).header_reads

  -- ---- where there is no table
  module _ (none : table_at h (contents_in view old.file) index ≡ 0) where
    pub may_none : MayName view old index
    may_none own = own.0 none

    pub says_none : (t : L2TableView) (bytes : List ℕ) → t ≡ l2_table h None bytes true → ((i : ℕ) → entry_at t.bytes i ≡ 0) → SaysKnown h known index t
    says_none t bytes is zeros = record {
      format = record { bits = ap (λ (u : L2TableView). u.cluster_bits) is; zero_bit = ap (λ (u : L2TableView). u.has_zero_bit) is; external = ap (λ (u : L2TableView). u.data_is_external) is };
      says = λ g here. cover_none h known g (ap (table_at h known) here ∙ known_table ∙ none) ∙ sym (ap (entry_cover h) (zeros (g % entries_per_cluster h)) ∙ cover_of-0 h.cluster_bits (h.version == 3) (has_data_file h));
    }

    replaces_none : (r : Pending) → replacing view r old index ≡ r
    replaces_none r =
        pending_same (replacing view r old index) r (λ k. refl) (λ k. refl)
        (λ k. let e : table_in h k (table_at h (contents_in view old.file) index) ≡ 0 = cond-true _ _ _ (eq-eqb (table_at h (contents_in view old.file) index) 0 none) in omega (arith, e)) (λ k. refl) (λ k. refl)

    pub entered_owns : (new : Qcow2 S F) (r : Result ℕ ImageError) → EntersTable view backing p old new out index r → OwnsTable view backing p old new out index r
    entered_owns new (Ok cluster) entered = (subst (λ (q : Pending). InternalStep view backing p q old new out) (replaces_none (pending_with_listed p old new)) entered.0, entered.1)
    entered_owns new (Err e) left = left

  -- ---- where it is a table's own
  pub owns_already : (cluster : ℕ) → NamesCopied view old index cluster → OwnsTable view backing p old old out index (Ok cluster)
  owns_already cluster named = (as_listed_after view backing out p old old refl (keeps_none view backing out p old sound), named)

  -- ---- where a copy takes the place of another
  module _ (former : ℕ) (shared : NamesShared view old index former) where
    replaces_former : (r : Pending) → replacing view r old index ≡ given_up view backing out r former
    replaces_former r =
        pending_same (replacing view r old index) (given_up view backing out r former) (λ k. refl) (λ k. refl)
        (λ k. let one = ap (table_in h k) shared.place ∙ table_alone h former k (λ none. shared.real (shared.place ∙ none)) in omega (arith, one)) (λ k. refl) (λ k. refl)

    pub swapped_owns : (new : Qcow2 S F) (cluster : ℕ) (entry : ClustersToFreeEntry) (list : List ClustersToFreeEntry) → entry ≡ metadata_entry former 1 → list ≡ new.file.free_list ++ entry ∷ [] → EntersTable view backing p old new out index (Ok cluster)
        → OwnsTable view backing p old (record new { file = record new.file { free_list = list } }) out index (Ok cluster)
    swapped_owns new cluster entry list is longer entered =
        let final : Qcow2 S F = record new { file = record new.file { free_list = list } } in
        let q = given_up view backing out (pending_with_listed p old new) former in
        let first : InternalStep view backing p q old new out = subst (λ (r : Pending). InternalStep view backing p r old new out) (replaces_former (pending_with_listed p old new)) entered.0 in (
          subst (λ (r : Pending). InternalStep view backing p r old final out)
              (freed_table view backing out p former old new final entry entered.0.list (ap (λ (e : ClustersToFreeEntry). e.first_cluster) is) (ap (λ (e : ClustersToFreeEntry). e.count) is) (ap (λ (e : ClustersToFreeEntry). e.kind) is) longer)
              (keeps_then view backing out old new final p q q (λ k some. some) first
              (keeps_listed view backing out q q new list (entry ∷ []) first.sound longer (safe_step_none (state_in view new.file q) first.sound.file.caches.kept.kept.crash_invariant))),
          record { place = entered.1.place; own = entered.1.own },
        )

    shown_at : (i : ℕ) → i < entries_per_cluster h → IsEntryAt h known index former i
    shown_at i lt = record { real = λ none. shared.real (sym known_table ∙ none); place = known_table ∙ shared.place; within = lt }

    -- a copy of the held one says what is known
    pub says_copy : (new_data t : L2TableView) → ShowsKnown old.file.caches former new_data → t ≡ record new_data { cluster = None; is_modified = true } → SaysKnown h known index t
    says_copy new_data t shows is =
        let on_storage = contents_in view old.file in
        let format = (shows h p on_storage index 0 sound.file.caches (shown_at 0 sizes.entries)).format in
        subst (SaysKnown h known index) (sym is) (record {
          format = record { bits = format.bits; zero_bit = format.zero_bit; external = format.external };
          says = λ g here.
              let at = ap (table_at h known) here in
              cover_in h known g (λ none. shared.real (sym known_table ∙ sym at ∙ none))
              ∙ ap (λ n. entry_cover h (l2_entry known n (g % entries_per_cluster h))) at
              ∙ ap (entry_cover h) (sym (shows h p on_storage index (g % entries_per_cluster h) sound.file.caches (shown_at (g % entries_per_cluster h) (mod_below g (entries_per_cluster h) sizes.entries))).entry);
        })

  -- ---- after another part that frees nothing
  module _ (mid : Qcow2 S F) (kept : InternalStep view backing p p old mid out) (list : mid.file.free_list ≡ old.file.free_list) where
    pub shared_still : mid.l1_table ≡ old.l1_table → (former : ℕ) → NamesShared view old index former → NamesShared view mid index former
    shared_still same former shared =
        let e = same_l1 view backing out p p old mid sound kept.sound same index in
        record {
          place = ap host_offset e ∙ shared.place ∙ ap (λ (x : HeaderFields). former * cluster_size x) (sym kept.unseen.header);
          real = λ none. shared.real (sym (ap host_offset e) ∙ none);
          may = λ own. shared.may (subst NamesOwn e own);
        }

    pub followed : (new : Qcow2 S F) → InternalStep view backing p (pending_with_listed p mid new) mid new out → InternalStep view backing p (pending_with_listed p old new) old new out
    followed new keeps = subst (λ (q : Pending). InternalStep view backing p q old new out) (ap (λ l. pending_with_listed p (record old { file = record old.file { free_list = l } }) new) list) (keeps_then view backing out old mid new p p (pending_with_listed p mid new) (λ k some. some) kept keeps)

    pub left_then : (new : Qcow2 S F) (e : ImageError) → RefusedStep view backing p mid new out e → RefusedStep view backing p old new out e
    left_then new e left = elim left [ inl keeps ↦ inl (followed new keeps) | inr interrupted ↦ inr (interrupted_on view backing out p p old mid new e kept interrupted) ]

    pub owned_then : (new : Qcow2 S F) (r : Result ℕ ImageError) → OwnsTable view backing p mid new out index r → OwnsTable view backing p old new out index r
    owned_then new (Ok cluster) owned = (followed new owned.0, owned.1)
    owned_then new (Err e) left = left_then new e left

-- ---- and then it is loaded
module _ {S F : Type 0} (view : S → StorageView) (backing : F → BackingView) (out : Mappings) (p : Pending) (old mid : Qcow2 S F) (offset cluster : ℕ) (owned : InternalStep view backing p (pending_with_listed p old mid) old mid out) (storage : ImageStorage S) (caches : MetadataCaches S)
    (stay : InternalCacheStep mid.file.header.fields (pending_with_listed p old mid) (view_in view mid.file) mid.file.caches (view (storage_of storage)) caches) (room : CachesHaveRoom mid.file.caches → CachesHaveRoom caches) (pins : (t : ℕ) → l2_pins caches t ≡ l2_pins mid.file.caches t) where
  abbrev q : Pending
  q = pending_with_listed p old mid

  abbrev loaded : Qcow2 S F
  loaded = with_caches view backing mid out q owned.sound storage caches

  loads : InternalStep view backing q q mid loaded out
  loads = caches_moved view backing mid out q owned.sound storage caches stay room pins

  pub keeps_loaded : InternalStep view backing p (pending_with_listed p old loaded) old loaded out
  keeps_loaded = keeps_then view backing out old mid loaded p q q (λ k some. some) owned loads

  pub holds_table : NamesCopied view mid (l1_index_of old.file.header.fields offset) cluster → IsSome (l2_at caches cluster) → HoldsTable view backing loaded offset cluster
  holds_table named new_data =
      let g = mid.file.header.fields in
      let i = l1_index_of mid.file.header.fields offset in
      let here : NamesCopied view mid i cluster = subst (λ (x : HeaderFields). NamesCopied view mid (l1_index_of x offset) cluster) (sym owned.unseen.header) named in
      let there : table_at g (known_in view loaded.file) i ≡ table_at g (contents_in view mid.file) i = ap (λ (b : Bytes). table_at g b i) stay.known ∙ known_table view backing out q mid owned.sound i in
      record {
        entry = record {
          real = λ none. here.own.0 (sym there ∙ none);
          place = there ∙ here.place;
          within = mod_below (offset / cluster_size g) (entries_per_cluster g) (sizes view backing out q mid owned.sound i).entries;
        };
        copied = ap is_copied (same_l1 view backing out q q mid loaded owned.sound loads.sound refl i) ∙ here.own.1;
        new_data = new_data;
      }

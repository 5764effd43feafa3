-- The bytes of a new L2 table are written to its cluster, and then the table is inserted into the cache.
use Rattle.std.proofs.Common.{◌≡◌, ◌+◌, ◌*◌, ◌^◌, ◌<◌, ℕ, List, length, Option, Result, Ok, refl, sym, ap, ◌∙◌, subst, arith, Err, Some}
use Rattle.qcow2_image.proofs.Common.{IfSome, OnOk, ImageError, BackingView, overwritten, StorageView, Changes, Calls, StorageError, byte_at-overwritten, Bytes, byte_at, HeaderFields, cluster_size, L2TableView, Pending, data_is_written, Allocator, ImageStorage, view_in, contents_in, state_in, storage_of, order_of, l2_tables, refblocks, l2_at, HoldsKnown, InternalCacheStep, HasBytesAt, l2_pins, CachesHaveRoom, MetadataCaches, AreClean, BlocksMayGo, IsFree, covers_written, known_there, file_step_rewritten, reftable_rewritten, IsAllocatorOf, Qcow2, Prepared, IsStored, PlacesNewTable, StandsReady, InternalStep, ImageInvariant, Mappings}
use Rattle.qcow2_alloc.proofs.PlacedBlocks.{in_own}
use Rattle.qcow2_image.proofs.Open.Reftables.{allocator_moved}
use Rattle.qcow2_image.proofs.Map.Loading.{caches_moved, with_caches}
use Rattle.qcow2_image.proofs.Images.Moving.{file_moved}

module _ {S F : Type 0} (view : S → StorageView) (backing : F → BackingView) (old : Qcow2 S F) (out : Mappings) (p : Pending) (sound : ImageInvariant view backing p old out)
    (stored : IsStored view old) (at : ℕ) (some : 0 < p.new_tables at) where
  abbrev h : HeaderFields
  h = old.file.header.fields

  -- nothing names it
  pub free_here : IsFree view p old.file at
  free_here =
      let crash_invariant = sound.file.caches.kept.kept.crash_invariant in
      let tally = (crash_invariant.each_cluster at).tally in
      let few = (crash_invariant.each_cluster at).pending (omega (arith, some)) in
      record {
        unnamed = data_is_written.new_tables (state_in view old.file p) at crash_invariant some (covers_written view p old.file sound.file stored.first);
        unheld = omega (arith, tally, few, some);
      }

  module _ (storage : ImageStorage S) (asked : S) (t t' : L2TableView) (result : Result (Unit {0}) StorageError) (same : asked ≡ storage_of old.file.storage) (is : t' ≡ record t { cluster = Some at }) (format : t.cluster_bits ≡ h.cluster_bits)
      (long : length t.bytes ≡ 2 ^ t.cluster_bits) (wrote : IfSome t'.cluster (λ k. Changes (view asked) (view (storage_of storage)) result (λ b. overwritten b (k * 2 ^ t'.cluster_bits) t'.bytes)))
      (called : Calls (view asked) (view (storage_of storage)) result) where
    abbrev bytes : List ℕ
    bytes = t.bytes

    abbrev pub placed : Qcow2 S F
    placed = record old { file = record old.file { storage = storage } }

    writes : Changes (view_in view old.file) (view (storage_of storage)) result (λ b. overwritten b (at * cluster_size h) bytes)
    writes =
        subst (λ (s : S). Changes (view s) (view (storage_of storage)) result (λ b. overwritten b (at * cluster_size h) bytes)) same
        (subst (λ n. Changes (view asked) (view (storage_of storage)) result (λ b. overwritten b (at * 2 ^ n) bytes)) format (subst (λ (u : L2TableView). IfSome u.cluster (λ k. Changes (view asked) (view (storage_of storage)) result (λ b. overwritten b (k * 2 ^ u.cluster_bits) u.bytes))) is wrote))

    calls : Calls (view_in view old.file) (view (storage_of storage)) result
    calls = subst (λ (s : S). Calls (view s) (view (storage_of storage)) result) same called

    full : length bytes ≡ cluster_size h
    full = long ∙ ap (λ n. 2 ^ n) format

    reftable : (a : Option Allocator) → IfSome a (IsAllocatorOf view old.file) → IfSome a (IsAllocatorOf view placed.file)
    reftable = allocator_moved view old.file placed.file p (file_step_rewritten view p old.file storage at bytes result sound.file free_here full writes calls)
        (reftable_rewritten view p old.file storage at bytes result sound.file free_here full writes calls)

    pub keeps_placed : InternalStep view backing p p old placed out
    keeps_placed = file_moved view backing old out p p sound placed.file old.allocator (file_step_rewritten view p old.file storage at bytes result sound.file free_here full writes calls) (reftable old.allocator sound.reftable) refl (λ t. refl) refl

    pub stands_there : (x : Unit {0}) → result ≡ Ok x → HasBytesAt (contents_in view placed.file) (at * cluster_size h) bytes
    stands_there x done i lt =
        sym (ap (λ l. byte_at l (at * cluster_size h + i)) (rw done at (writes sound.file.honest)) ∙ byte_at-overwritten (view_in view old.file).contents (at * cluster_size h) bytes i lt)

    -- the file is as before, and has the bytes that it had
    pub keeps_stored : IsStored view placed
    keeps_stored = record {
      counts = stored.counts;
      first = stored.first;
    }

-- ---- the table is put into its cache
module _ {S F : Type 0} (view : S → StorageView) (backing : F → BackingView) (old : Qcow2 S F) (out : Mappings) (p : Pending) (sound : ImageInvariant view backing p old out)
    (stored : IsStored view old) (at : ℕ) (some : 0 < p.new_tables at) (bytes : List ℕ) (long : length bytes ≡ cluster_size old.file.header.fields)
    (stands : HasBytesAt (contents_in view old.file) (at * cluster_size old.file.header.fields) bytes) where
  pub holds : HoldsKnown old.file.header.fields old.file.caches (contents_in view old.file) bytes at
  holds i lt =
      let h = old.file.header.fields in
      let there = known_there view p old.file at sound.file (free_here view backing old out p sound stored at some) in
      stands i (subst (λ n. i < n) (sym long) lt) ∙ sym (there (at * cluster_size h + i) (in_own h.cluster_bits at i lt))

  module _ (storage : ImageStorage S) (caches : MetadataCaches S) (stays : InternalCacheStep old.file.header.fields p (view_in view old.file) old.file.caches (view (storage_of storage)) caches) (room : CachesHaveRoom old.file.caches → CachesHaveRoom caches)
      (pins : (table : ℕ) → l2_pins caches table ≡ l2_pins old.file.caches table) (blocks : AreClean (refblocks old.file.caches) → AreClean (refblocks caches))
      (first : BlocksMayGo (order_of old.file.caches) (l2_tables old.file.caches) → BlocksMayGo (order_of caches) (l2_tables caches)) where
    abbrev pub put : Qcow2 S F
    put = with_caches view backing old out p sound storage caches

    pub keeps_put : InternalStep view backing p p old put out
    keeps_put = caches_moved view backing old out p sound storage caches stays room pins

    stored_put : IsStored view put
    stored_put = record {
      counts = blocks stored.counts;
      first = first stored.first;
    }

    stands_put : HasBytesAt (contents_in view put.file) (at * cluster_size old.file.header.fields) bytes
    stands_put i lt =
        let h = old.file.header.fields in
        let inside = subst (λ n. i < n) long lt in
        let there = known_there view p put.file at keeps_put.sound.file (free_here view backing put out p keeps_put.sound stored_put at some) in
        holds i inside ∙ ap (λ (b : Bytes). b (at * cluster_size h + i)) (sym stays.known) ∙ there (at * cluster_size h + i) (in_own h.cluster_bits at i inside)

    pub stands_ready : (t : L2TableView) → l2_at caches at ≡ Some t → t.bytes ≡ bytes → StandsReady view put at bytes
    stands_ready t new_data is = record { stored = stored_put; new_data = (t, new_data, is); stands = stands_put }

-- it is placed, or it isn't
pub places_when : {S F : Type 0} (view : S → StorageView) (backing : F → BackingView) (old new : Qcow2 S F) (out : Mappings) (p : Pending) (at : ℕ) (bytes : List ℕ) (r : Result (Unit {0}) ImageError)
    → InternalStep view backing p p old new out → OnOk r (StandsReady view new at bytes) → PlacesNewTable view backing p old new out at bytes r
places_when view backing old new out p at _ (Ok x) keeps ready = (keeps, ready)
places_when view backing old new out p at _ (Err e) keeps ready = keeps

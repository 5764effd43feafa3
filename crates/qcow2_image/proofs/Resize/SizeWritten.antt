-- The size of the disk is written: the image is as sound as before, whatever mappings are prepared, and shows the same bytes.
use Rattle.std.proofs.Common.{◌≡◌, ◌+◌, ◌/◌, ◌^◌, ◌<◌, ◌≢◌, ◌∷◌, inl, inr, ℕ, Bool, true, false, List, [], Option, Some, None, Result, Ok, Err, refl, sym, ap, ◌∙◌, subst, arith, IsTrue}
use Rattle.qcow2_image.proofs.Common.{IfSome, slice_get, cond-true, cond-false, fun_ext, BackingView, StorageView, Calls, Changes, EachMomentSince, IsLeftBy, StorageError, Bytes, byte_at, cover, cover_under, HeaderFields, l1_entry, count, count_under, reftable_entry, guest_value, known_byte, cluster_size, with_fields, with_size, size_written, guest_of, meaning_at, with_disk, disk, disk_with, SafeThroughout, Pending, SafeStep, WritesHeader, resized_places, SameUsedBytes, used_by_guests, own_data_of, header_elsewhere, header_fixed, header_l1, header_known_l1, header_known_covers, header_known_counts, tied, step_safe_throughout, header_is_written, known_header, named_some, table_bytes, Allocator, ImageStorage, of_storage, nothing_given, view_in, contents_in, known_in, state_in, storage_of, known_of, order_of, IsAllocatorOf, allocator_kept, InternalCall, Qcow2, Prepared, LastsKnown, ImageInvariant, abstract_of, backing_bytes, cluster_of, disk_of, is_private, meaning, pending_in, place_of, CoversStay, MayStand, SetsSize, WritesSize, HoldsAll, stops_of, file_invariant_of, Mappings, Image}
use Rattle.image_access.specs.declared.error.StorageError.TheVariants as SE
use Rattle.qcow2_laws.proofs.Values.{guest_value-same, size_is, value_is}
use Rattle.qcow2_alloc.specs.declared.error.ImageError.TheVariants as I
use Rattle.qcow2_alloc.proofs.Numbers.{size_writes}
use Rattle.qcow2_image.proofs.Lemmas.{same_guest, same_mapping, listed, stays_kept, still_moved, still_ready, private_used, pending_is, all_stay}
use Rattle.qcow2_image.proofs.Images.Formats.{ready_with}
use Rattle.qcow2_image.proofs.Open.HeaderKept.{resized_l1, resized_reftable, placed_named_blocks, placed_sound}
use Rattle.qcow2_image.proofs.Images.Places.{inside_of, from_image}

-- ---- what is read with a header of another size
module _ (h : HeaderFields) (size : ℕ) where
  cover_sized : (b : Bytes) (g : ℕ) → cover h b g ≡ cover (with_size h size) b g
  unfolding cover cover_under l1_entry
  cover_sized b g = refl

  value_sized : (b backing : Bytes) (o : ℕ) → guest_value (with_size h size) b b backing o ≡ guest_value h b b backing o
  unfolding guest_value cover cover_under l1_entry
  value_sized b backing o = refl

module _ {S F : Type 0} (view : S → StorageView) (backing : F → BackingView) (out : Mappings) (p : Pending) (old : Qcow2 S F) (sound : ImageInvariant view backing p old out) (size : ℕ) (fits : size < 2 ^ 64) where
  abbrev h : HeaderFields
  h = old.file.header.fields

  abbrev on_storage : Bytes
  on_storage = contents_in view old.file

  abbrev known : Bytes
  known = known_in view old.file

  abbrev change : List ℕ → List ℕ
  change = size_written (with_size old.file.header.fields size)

  abbrev changed : List ℕ
  changed = change (view_in view old.file).contents

  -- what is there where it is written
  safe_step_at : (b : Bytes) → WritesHeader h (resized_places h size h.autoclear) on_storage known b (known_of h old.file.caches b)
      → SafeStep (state_in view old.file p) (record (state_in view old.file p) { header = with_size h size; on_storage = b; known = known_of h old.file.caches b }) nothing_given (size ∷ [])
  safe_step_at b writes = header_is_written.size (state_in view old.file p) b (known_of h old.file.caches b) size h.autoclear sound.file.caches.kept.kept.crash_invariant writes

  -- whatever the storage answers
  pub lasts_resized : {T : Type 0} (result : Result T StorageError) (asked after : S) → asked ≡ storage_of old.file.storage → Changes (view asked) (view after) result (size_written (with_size old.file.header.fields size))
      → Calls (view asked) (view after) result → SafeThroughout (view_in view old.file) (view after) known nothing_given (size ∷ [])
  lasts_resized result asked after same wrote called =
      step_safe_throughout {result = result} (view_in view old.file) (view after) (state_in view old.file p) (record (state_in view old.file p) { header = with_size h size; on_storage = byte_at changed; known = known_of h old.file.caches (byte_at changed) })
      nothing_given (size ∷ []) change
      (subst (λ (s : S). Calls (view s) (view after) result) same called)
      (subst (λ (s : S). Changes (view s) (view after) result (size_written (with_size old.file.header.fields size))) same wrote)
      sound.file.honest refl refl (safe_step_at (byte_at changed) (size_writes view p old.file sound.file size fits))

  module _ (storage : ImageStorage S) (is : (view (storage_of storage)).contents ≡ size_written (with_size old.file.header.fields size) (view_in view old.file).contents) (honest : (view (storage_of storage)).is_honest) where
    abbrev pub sized : Qcow2 S F
    sized = record old { file = record old.file { storage = storage; header = with_fields old.file.header (with_size old.file.header.fields size) } }

    writes_now : WritesHeader h (resized_places h size h.autoclear) on_storage known (contents_in view sized.file) (known_of h old.file.caches (contents_in view sized.file))
    writes_now = subst (λ (c : List ℕ). WritesHeader h (resized_places h size h.autoclear) on_storage known (byte_at c) (known_of h old.file.caches (byte_at c))) (sym is) (size_writes view p old.file sound.file size fits)

    pub safe_step_now : SafeStep (state_in view old.file p) (state_in view sized.file p) nothing_given (size ∷ [])
    safe_step_now = safe_step_at (contents_in view sized.file) writes_now

    -- counts don't go by the size
    counts_too : (b : Bytes) (k : ℕ) → count (with_size h size) b k ≡ count h b k
    unfolding count count_under reftable_entry
    counts_too b k = refl

    counts_sized : (k : ℕ) → count h known k ≡ count (with_size h size) (known_in view sized.file) k
    counts_sized k =
        header_known_counts h (resized_places h size h.autoclear) (order_of old.file.caches) p on_storage known (contents_in view sized.file) (known_of h old.file.caches (contents_in view sized.file)) sound.file.caches.kept.kept.crash_invariant writes_now k
        ∙ sym (counts_too (known_in view sized.file) k)

    reftable_now : (a : Option Allocator) → IfSome a (IsAllocatorOf view old.file) → IfSome a (IsAllocatorOf view sized.file)
    reftable_now = allocator_kept view old.file sized.file
        (λ t has. record { cluster = has.cluster; bits = has.bits; count = has.count; entries = λ k. has.entries k ∙ sym (resized_reftable view p old.file sound.file size h.autoclear (contents_in view sized.file) writes_now k) })
        (λ k. let e = counts_sized k in omega arith)

    -- the L1 entries and the mappings of guest clusters stay
    l1_now : (i : ℕ) → l1_entry h (contents_in view sized.file) i ≡ l1_entry h on_storage i
    l1_now i = sym (header_l1 h (resized_places h size h.autoclear) (order_of old.file.caches) p on_storage known (contents_in view sized.file) (known_in view sized.file) sound.file.caches.kept.kept.crash_invariant writes_now i)

    known_l1_now : (i : ℕ) → l1_entry h known i ≡ l1_entry h (known_in view sized.file) i
    known_l1_now i = header_known_l1 h (resized_places h size h.autoclear) (order_of old.file.caches) p on_storage known (contents_in view sized.file) (known_in view sized.file) sound.file.caches.kept.kept.crash_invariant writes_now i

    covers_now : (g : ℕ) → cover h known g ≡ cover h (known_in view sized.file) g
    covers_now g = header_known_covers h (resized_places h size h.autoclear) (order_of old.file.caches) p on_storage known (contents_in view sized.file) (known_in view sized.file) sound.file.caches.kept.kept.crash_invariant writes_now g

    pub covers_stay : CoversStay h known sized.file.header.fields (known_in view sized.file)
    covers_stay g = covers_now g ∙ cover_sized h size (known_in view sized.file) g

    top : (i : ℕ) → l1_entry h on_storage i ≡ l1_entry h known i
    top = sound.file.caches.kept.kept.crash_invariant.same_top.l1

    pub resized_sound : ImageInvariant view backing p sized out
    resized_sound =
        let l1 = resized_l1 view p old.file sound.file size h.autoclear (contents_in view sized.file) writes_now in
        let blocks = resized_reftable view p old.file sound.file size h.autoclear (contents_in view sized.file) writes_now in record {
          works = sound.works;
          file = file_invariant_of
              honest
              (placed_sound view p p old.file sound.file (resized_places h size h.autoclear) (contents_in view sized.file) writes_now safe_step_now.sound l1 blocks)
              (placed_named_blocks view p p old.file sound.file (resized_places h size h.autoclear) (contents_in view sized.file) writes_now safe_step_now.sound l1 blocks)
              sound.file.room;
          l1_table = record { cluster = sound.l1_table.cluster; bits = sound.l1_table.bits; count = sound.l1_table.count; entries = λ i. sound.l1_table.entries i ∙ sym (l1 i) };
          reftable = reftable_now old.allocator sound.reftable;
          stands = sound.stands;
          below = sound.below;
          ready = λ k q at. let was = sound.ready k q at in record {
            own = was.own;
            mapped = ready_with h size h.reftable_offset h.reftable_clusters (known_in view sized.file) (contents_in view sized.file) out.place q q.table
                (still_ready h out.place known on_storage (known_in view sized.file) (contents_in view sized.file) q top (λ i. l1_now i ∙ top i ∙ known_l1_now i) (λ i _. l1_now i) (λ i. covers_now (cluster_of h q + i)) q.table was.mapped);
          };
          pinned = sound.pinned;
          once = sound.once;
        }

    -- what guests use lies elsewhere than the header
    used_bytes : SameUsedBytes (state_in view old.file p) (state_in view sized.file p)
    used_bytes = table_bytes (state_in view old.file p) (state_in view sized.file p) sound.file.caches.kept.kept.crash_invariant 0
        (header_fixed h (resized_places h size h.autoclear) (order_of old.file.caches) p on_storage known (contents_in view sized.file) (known_in view sized.file) sound.file.caches.kept.kept.crash_invariant writes_now) writes_now.known_others

    disk_now : (below : Bytes) → disk (known_in view sized.file) below ≡ record (disk known below) { size = size }
    unfolding disk_with
    disk_now below =
        let s = state_in view old.file p in
        let s' = state_in view sized.file p in
        let crash_invariant = sound.file.caches.kept.kept.crash_invariant in
        let was = known_header s crash_invariant in
        let is' = known_header s' safe_step_now.sound in
        let now : (disk (known_in view sized.file) below).size ≡ size = size_is (with_size h size) (known_in view sized.file) below is' in
        let value : (disk (known_in view sized.file) below).value ≡ (disk known below).value = fun_ext (λ o.
        value_is (with_size h size) (known_in view sized.file) below o is'
        ∙ value_sized h size (known_in view sized.file) below o
        ∙ sym (guest_value-same h known (known_in view sized.file) below o (own_data_of h (inside_of sound)) (covers_now (o / cluster_size h)) (crash_invariant.known_aligned (o / cluster_size h))
        (λ place some. sym (used_bytes place (let one = named_some s s' crash_invariant (place / cluster_size h) (o / cluster_size h) some in omega arith))))
        ∙ sym (value_is h known below o was)) in
        λ j. record { size = now j; value = value j }

    -- the places of mappings have the same bytes
    module _ (holds : HoldsAll view backing p out) where
      elsewhere : (o : ℕ) → 0 < used_by_guests (state_in view old.file p) (o / cluster_size h) → o / cluster_size h ≢ 0
      elsewhere o some = header_elsewhere h (resized_places h size h.autoclear) (order_of old.file.caches) p on_storage known (contents_in view sized.file) (known_in view sized.file) sound.file.caches.kept.kept.crash_invariant writes_now o
          (let t = (tied h p on_storage known (o / cluster_size h)).known in omega arith)

      place_now : (k : ℕ) (q : Prepared) → slice_get out.slots k ≡ Some (Some q) → (o : ℕ) → IsTrue (is_private view backing old q o) → contents_in view sized.file (place_of h q o) ≡ contents_in view old.file (place_of h q o)
      place_now k q at o private = sym (writes_now.others (place_of h q o) (elsewhere (place_of h q o) (private_used view backing old out p sound holds k q at o private)))

      shown_now : (k : ℕ) (q : Prepared) → slice_get out.slots k ≡ Some (Some q) → (o : ℕ) (b : Bool) → is_private view backing old q o ≡ b → (meaning view backing Image sized q).shown o ≡ (meaning view backing Image old q).shown o
      shown_now k q at o true is' = ap known_byte (cond-true _ _ _ is' ∙ place_now k q at o is' ∙ sym (cond-true _ _ _ is'))
      shown_now k q at o false is' = ap known_byte (cond-false _ _ _ is' ∙ sym (cond-false _ _ _ is'))

      slot_now : (k : ℕ) (m : Option (Option Prepared)) → slice_get out.slots k ≡ m → meaning_at (meaning view backing out.place sized) m ≡ meaning_at (meaning view backing out.place old) m
      slot_now k None at = refl
      slot_now k (Some None) at = refl
      slot_now k (Some (Some q)) at = ap Some (from_image (λ file. meaning view backing file sized q ≡ meaning view backing file old q) sound (same_mapping _ _ refl refl refl refl (fun_ext (λ o. shown_now k q at o (is_private view backing old q o) refl))))

      pub guest_now : guest_of (abstract_of view backing sized out) ≡ with_disk (guest_of (abstract_of view backing old out)) (record (disk_of view backing out.place old) { size = size })
      guest_now = same_guest _ _ (from_image (λ file. disk_of view backing file sized ≡ record (disk_of view backing file old) { size = size }) sound (disk_now (backing_bytes view backing old.backing))) (fun_ext (λ k. slot_now k (slice_get out.slots k) refl))

-- ---- as a part of a call
module _ {S F : Type 0} (view : S → StorageView) (backing : F → BackingView) (out : Mappings) (old : Qcow2 S F) (sound : ImageInvariant view backing (pending_in view backing old out) old out) (size : ℕ) (fits : size < 2 ^ 64) where
  abbrev q : Pending
  q = pending_in view backing old out

  -- the storage took it
  module _ (storage : ImageStorage S) (is : (view (storage_of storage)).contents ≡ size_written (with_size old.file.header.fields size) (view_in view old.file).contents) (honest : (view (storage_of storage)).is_honest)
      (since : SafeThroughout (view_in view old.file) (view (storage_of storage)) (known_in view old.file) nothing_given (size ∷ [])) where
    abbrev now : Qcow2 S F
    now = sized view backing out q old sound size fits storage is honest

    pending_now : q ≡ pending_in view backing now out
    pending_now = pending_is view backing now out q (safe_step_now view backing out q old sound size fits storage is honest).sound (inside_of sound) (record { new_data = λ k. refl; new_tables = λ k. refl; old_tables = λ k. refl; old_data = λ k. refl })

    pub sets_size : SetsSize view backing size old now out
    sets_size =
        let safe_step = safe_step_now view backing out q old sound size fits storage is honest in record {
          works = record {
            setting = refl;
            surplus = λ still. ap (λ (x : Pending). x.surplus) (sym pending_now);
            beside = λ still. all_stay view old.file now.file q q sound.file.caches.kept.kept.crash_invariant safe_step.sound [] (covers_stay view backing out q old sound size fits storage is honest);
            leaks = refl;
            stops = stops_of (abstract_of view backing old out) (abstract_of view backing now out) nothing_given (size ∷ []) since (λ still. safe_step.known);
          };
          sound = subst (λ (x : Pending). ImageInvariant view backing x now out) pending_now (resized_sound view backing out q old sound size fits storage is honest);
          shows = guest_now view backing out q old sound size fits storage is honest (λ k. omega arith);
          covers = covers_stay view backing out q old sound size fits storage is honest;
        }

  -- it failed, or had no memory for it
  module _ (storage : ImageStorage S) (honest : (view (storage_of storage)).is_honest) where
    abbrev unsized : Qcow2 S F
    unsized = record old { file = record old.file { storage = storage } }

    unsized_fails : SafeThroughout (view_in view old.file) (view (storage_of storage)) (known_in view old.file) nothing_given (size ∷ []) → MayStand view backing old unsized out size I.Storage
    unsized_fails since = record {
      fault = refl;
      works = record {
        setting = refl;
        surplus = λ still. absurd (let no : true ≡ false = still.works in cc);
        beside = λ still. absurd (let no : true ≡ false = still.works in cc);
        leaks = refl;
        stops = stops_of (abstract_of view backing old out) (abstract_of view backing (record unsized { is_failed = true }) out) nothing_given (size ∷ []) since (λ still. absurd (let no : true ≡ false = still.works in cc));
      };
    }

    unsized_stays : EachMomentSince (view_in view old.file) (view (storage_of storage)) (IsLeftBy (view (storage_of storage))) → (view (storage_of storage)).contents ≡ (view_in view old.file).contents → InternalCall view backing old unsized out
    unsized_stays time same =
        stays_kept view backing out old unsized sound (listed view backing out old unsized (λ s. record { keeps = still_moved view backing old out q s storage honest time same; list = refl }) sound)

  -- as the storage's call says it
  module _ (storage : ImageStorage S) (result : Result (Unit {0}) StorageError) (asked : S) (same : asked ≡ storage_of old.file.storage)
      (wrote : Changes (view asked) (view (storage_of storage)) result (size_written (with_size old.file.header.fields size))) (called : Calls (view asked) (view (storage_of storage)) result) where
    calls : Calls (view_in view old.file) (view (storage_of storage)) result
    calls = subst (λ (s : S). Calls (view s) (view (storage_of storage)) result) same called

    changes : Changes (view_in view old.file) (view (storage_of storage)) result (size_written (with_size old.file.header.fields size))
    changes = subst (λ (s : S). Changes (view s) (view (storage_of storage)) result (size_written (with_size old.file.header.fields size))) same wrote

    since : SafeThroughout (view_in view old.file) (view (storage_of storage)) (known_in view old.file) nothing_given (size ∷ [])
    since = lasts_resized view backing out q old sound size fits result asked (storage_of storage) same wrote called

    pub size_is_set : (x : Unit {0}) → result ≡ Ok x → (new : Qcow2 S F) → new ≡ record old { file = record old.file { storage = storage; header = with_fields old.file.header (with_size old.file.header.fields size) } } → WritesSize view backing old new out size (Ok x)
    size_is_set x done new is =
        subst (λ (a : Qcow2 S F). SetsSize view backing size old a out) (sym is) (sets_size storage (rw done at (changes sound.file.honest)) (calls.honest sound.file.honest) since)

    pub size_is_refused : (e : StorageError) → result ≡ Err e → (new : Qcow2 S F) → new ≡ record old { file = record old.file { storage = storage } } → WritesSize view backing old new out size (Err (of_storage e))
    size_is_refused SE.Fault done new is = inr (subst (λ (a : Qcow2 S F). MayStand view backing old a out size I.Storage) (sym is) (unsized_fails storage (calls.honest sound.file.honest) since))
    size_is_refused SE.Memory done new is =
        inl (subst (λ (a : Qcow2 S F). InternalCall view backing old a out) (sym is) (unsized_stays storage (calls.honest sound.file.honest) (calls.time sound.file.honest) (rw done at (changes sound.file.honest))))

-- ---- over every disk below
pub lasts_sized : {S F : Type 0} (view : S → StorageView) (backing : F → BackingView) (out : Mappings) (p : Pending) (old : Qcow2 S F) (sound : ImageInvariant view backing p old out) (size : ℕ) (fits : size < 2 ^ 64) (storage : ImageStorage S) (result : Result (Unit {0}) StorageError) (asked : S)
    → asked ≡ storage_of old.file.storage → Changes (view asked) (view (storage_of storage)) result (size_written (with_size old.file.header.fields size)) → Calls (view asked) (view (storage_of storage)) result
    → (x : Unit {0}) → result ≡ Ok x → (new : Qcow2 S F) → new ≡ record old { file = record old.file { storage = storage; header = with_fields old.file.header (with_size old.file.header.fields size) } } → LastsKnown view old new (size ∷ [])
lasts_sized {S = S} {F = F} view backing out p old sound size fits storage result asked same wrote called x done new is =
    let calls : Calls (view_in view old.file) (view (storage_of storage)) result = subst (λ (s : S). Calls (view s) (view (storage_of storage)) result) same called in
    let contents = rw done at (subst (λ (s : S). Changes (view s) (view (storage_of storage)) result (size_written (with_size old.file.header.fields size))) same wrote sound.file.honest) in
    let now : LastsKnown view old (sized view backing out p old sound size fits storage contents (calls.honest sound.file.honest)) (size ∷ []) = record {
      since = lasts_resized view backing out p old sound size fits result asked (storage_of storage) same wrote called;
      known = λ below m ok known. (safe_step_now view backing out p old sound size fits storage contents (calls.honest sound.file.honest)).known below m ok known;
    } in
    subst (λ (a : Qcow2 S F). LastsKnown view old a (size ∷ [])) (sym is) now

-- The autoclear bits are cleared while no cached table is modified: the file is as sound as before, and has the same tables.
use Rattle.std.proofs.Common.{◌≡◌, ◌≢◌, inl, inr, ℕ, List, [], Result, sym, ap, ◌∙◌, subst}
use Rattle.qcow2_image.proofs.Common.{cases_eq, BackingView, StorageError, StorageView, Calls, Changes, Bytes, byte_at, HeaderFields, HeaderView, header, with_fields, without_autoclear, IsHeaderIn, autoclear_cleared, l1_entry, reftable_entry, CacheInvariantOver, AreNamedBlocks, Pending, CrashInvariant, StopOkEverywhere, WritesHeader, resized_places, safe_throughout_none, safe_throughout_write, header_is_written, ImageFile, ImageStorage, nothing_given, view_in, contents_in, known_in, state_in, storage_of, order_of, l2_tables, refblocks, known_of, CacheInvariant, file_invariant_of, IsFresh, StaysFresh, IsKeptSince}
use Rattle.qcow2_laws.proofs.HeaderWrites.{autoclear_beside}
use Rattle.qcow2_image.proofs.Open.HeaderKept.{resized_l1, resized_reftable, placed_named_blocks, placed_sound}

module _ {S F : Type 0} (view : S → StorageView) (backing : F → BackingView) (p : Pending) (file : ImageFile S) (new_tables : IsFresh view backing p file) where
  abbrev h : HeaderFields
  h = file.header.fields

  abbrev h' : HeaderFields
  h' = without_autoclear file.header.fields

  abbrev on_storage : Bytes
  on_storage = contents_in view file

  kept : CacheInvariantOver file.header.fields (order_of file.caches) p (l2_tables file.caches) (refblocks file.caches) (contents_in view file)
  kept = new_tables.sound.caches.kept.kept

  module _ (on_storage' : Bytes) (writes : WritesHeader h (resized_places h h.size 0) on_storage (known_in view file) on_storage' (known_of h file.caches on_storage')) where
    cleared_crash_invariant : CrashInvariant h' (order_of file.caches) p on_storage' (known_of h file.caches on_storage')
    cleared_crash_invariant = (header_is_written.same_size (state_in view file p) on_storage' (known_of h file.caches on_storage') 0 kept.crash_invariant writes).sound

    l1_still : (i : ℕ) → l1_entry h' on_storage' i ≡ l1_entry h on_storage i
    l1_still = resized_l1 view p file new_tables.sound h.size 0 on_storage' writes

    reftable_still : (k : ℕ) → reftable_entry h' on_storage' k ≡ reftable_entry h on_storage k
    reftable_still = resized_reftable view p file new_tables.sound h.size 0 on_storage' writes

    cleared_named_blocks : AreNamedBlocks h' (refblocks file.caches) on_storage'
    cleared_named_blocks = placed_named_blocks view p p file new_tables.sound (resized_places h h.size 0) on_storage' writes cleared_crash_invariant l1_still reftable_still

    cleared_sound : CacheInvariant h' p file.caches on_storage'
    cleared_sound = placed_sound view p p file new_tables.sound (resized_places h h.size 0) on_storage' writes cleared_crash_invariant l1_still reftable_still

  pub stays_cleared : (storage : ImageStorage S) → file.header.fields.autoclear ≢ 0 → (view (storage_of storage)).is_honest → (view (storage_of storage)).contents ≡ autoclear_cleared (view_in view file).contents
      → header (byte_at (autoclear_cleared (view_in view file).contents)) ≡ without_autoclear (header (byte_at (view_in view file).contents))
      → IsHeaderIn (with_fields file.header (without_autoclear file.header.fields)) (autoclear_cleared (view_in view file).contents)
      → StaysFresh view backing p file (record file { storage = storage; header = with_fields file.header (without_autoclear file.header.fields) })
  stays_cleared storage some honest same fields there =
      let on_storage' : Bytes = byte_at (view (storage_of storage)).contents in
      let writes : WritesHeader h (resized_places h h.size 0) on_storage (known_in view file) on_storage' (known_of h file.caches on_storage') =
      subst (λ (c : List ℕ). WritesHeader h (resized_places h h.size 0) on_storage (known_in view file) (byte_at c) (known_of h file.caches (byte_at c))) (sym same)
      (autoclear_beside h (order_of file.caches) p (l2_tables file.caches) (refblocks file.caches) (view_in view file).contents kept (with_fields file.header h') some fields there) in record {
        new_tables = record {
          sound = file_invariant_of honest (cleared_sound on_storage' writes) (cleared_named_blocks on_storage' writes) new_tables.sound.room;
          header = subst (IsHeaderIn (with_fields file.header h')) (sym same) there;
          inside = new_tables.inside;
          clean = new_tables.clean;
          unpinned = new_tables.unpinned;
          list = new_tables.list;
        };
        l1_table = λ t has. record { cluster = has.cluster; bits = has.bits; count = has.count; entries = λ i. has.entries i ∙ sym (l1_still on_storage' writes i) };
        reftable = λ t has. record { cluster = has.cluster; bits = has.bits; count = has.count; entries = λ k. has.entries k ∙ sym (reftable_still on_storage' writes k) };
      }

  -- whether one was set or none
  pub stays_after : (storage : ImageStorage S) (v : HeaderView) → v ≡ with_fields file.header (without_autoclear file.header.fields) → ((view_in view file).is_honest → (view (storage_of storage)).is_honest)
      → (file.header.fields.autoclear ≢ 0 → (view_in view file).is_honest → (view (storage_of storage)).contents ≡ autoclear_cleared (view_in view file).contents)
      → (file.header.fields.autoclear ≡ 0 → storage ≡ file.storage)
      → header (byte_at (autoclear_cleared (view_in view file).contents)) ≡ without_autoclear (header (byte_at (view_in view file).contents))
      → (file.header.fields.autoclear ≢ 0 → IsHeaderIn file.header (view_in view file).contents → IsHeaderIn (with_fields file.header (without_autoclear file.header.fields)) (autoclear_cleared (view_in view file).contents))
      → StaysFresh view backing p file (record file { storage = storage; header = v })
  stays_after storage v is honest written untouched fields reads =
      subst (λ (w : HeaderView). StaysFresh view backing p file (record file { storage = storage; header = w })) (sym is)
      (elim (cases_eq file.header.fields.autoclear 0) [
        | inl none ↦
            let same : record file { storage = storage; header = with_fields file.header (without_autoclear file.header.fields) } ≡ file =
            ap (λ (s : ImageStorage S). record file { storage = s; header = with_fields file.header (without_autoclear file.header.fields) }) (untouched none)
            ∙ ap (λ (n : ℕ). record file { header = with_fields file.header (record file.header.fields { autoclear = n }) }) (sym none) in
            subst (StaysFresh view backing p file) (sym same) (record { new_tables = new_tables; l1_table = λ t has. has; reftable = λ t has. has })
        | inr some ↦ stays_cleared storage some (honest new_tables.sound.honest) (written some new_tables.sound.honest) fields (reads some new_tables.header)
      ])

  -- whatever the storage answers
  pub kept_after : {T : Type 0} (result : Result T StorageError) (storage : ImageStorage S) → (file.header.fields.autoclear ≢ 0 → Changes (view_in view file) (view (storage_of storage)) result autoclear_cleared)
      → (file.header.fields.autoclear ≡ 0 → storage ≡ file.storage) → Calls (view_in view file) (view (storage_of storage)) result
      → header (byte_at (autoclear_cleared (view_in view file).contents)) ≡ without_autoclear (header (byte_at (view_in view file).contents))
      → (file.header.fields.autoclear ≢ 0 → IsHeaderIn file.header (view_in view file).contents → IsHeaderIn (with_fields file.header (without_autoclear file.header.fields)) (autoclear_cleared (view_in view file).contents))
      → IsKeptSince (view_in view file) (view (storage_of storage))
  kept_after result storage written untouched call fields reads = elim (cases_eq file.header.fields.autoclear 0) [
    | inl none ↦ subst (λ (s : ImageStorage S). IsKeptSince (view_in view file) (view (storage_of s))) (sym (untouched none)) (safe_throughout_none (view_in view file) on_storage)
    | inr some ↦
        let new = autoclear_cleared (view_in view file).contents in
        let writes = autoclear_beside h (order_of file.caches) p (l2_tables file.caches) (refblocks file.caches) (view_in view file).contents kept (with_fields file.header h') some fields (reads some new_tables.header) in
        let safe_step = header_is_written.same_size (state_in view file p) (byte_at new) (known_of h file.caches (byte_at new)) 0 kept.crash_invariant writes in
        safe_throughout_write (view_in view file) (view (storage_of storage)) on_storage nothing_given [] autoclear_cleared call (written some) new_tables.sound.honest
        (λ backing m ok known_ok. safe_step.on_storage backing m ok (subst (StopOkEverywhere backing m) (sym (new_tables.clean on_storage)) ok))
  ]

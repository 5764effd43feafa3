-- Header numbers are written while all entries of the L1 table and the reftable stay the same: the file is as sound as before, with the new header.
use Rattle.std.proofs.Common.{◌≡◌, ◌⊎◌, inl, ℕ, refl, sym}
use Rattle.qcow2_image.proofs.Common.{StorageView, Bytes, HeaderFields, cluster_size, l1_entry, reftable_entry, HasBlock, AreNamedBlocks, Pending, CrashInvariant, Places, WritesHeader, with_places, resized_places, header_l1, header_reftable, ImageFile, contents_in, known_in, FileInvariant, order_of, refblocks, known_of, CacheInvariant, AreCurrentIn}
use Rattle.qcow2_alloc.proofs.HeaderKept.{same_block, header_named_blocks, header_sound}

module _ {S : Type 0} (view : S → StorageView) (p p' : Pending) (file : ImageFile S) (sound : FileInvariant view p file) (a : Places) (on_storage' : Bytes)
    (writes : WritesHeader file.header.fields a (contents_in view file) (known_in view file) on_storage' (known_of file.header.fields file.caches on_storage'))
    (crash_invariant : CrashInvariant (with_places file.header.fields a) (order_of file.caches) p' on_storage' (known_of file.header.fields file.caches on_storage'))
    (l1_still : (i : ℕ) → l1_entry (with_places file.header.fields a) on_storage' i ≡ l1_entry file.header.fields (contents_in view file) i)
    (reftable_still : (k : ℕ) → reftable_entry (with_places file.header.fields a) on_storage' k ≡ reftable_entry file.header.fields (contents_in view file) k) where
  abbrev h : HeaderFields
  h = file.header.fields

  abbrev h' : HeaderFields
  h' = with_places file.header.fields a

  rb_still : (c : ℕ) → HasBlock h (contents_in view file) c → HasBlock h' on_storage' c
  rb_still c has = same_block h h' (contents_in view file) on_storage' c refl has (reftable_still has.0)

  rb_now : (c : ℕ) → HasBlock h' on_storage' c → HasBlock h (contents_in view file) c ⊎ AreCurrentIn (cluster_size h) c (refblocks file.caches) on_storage'
  rb_now c has = inl (same_block h' h on_storage' (contents_in view file) c refl has (sym (reftable_still has.0)))

  pub placed_named_blocks : AreNamedBlocks h' (refblocks file.caches) on_storage'
  placed_named_blocks = header_named_blocks view p p' file sound a on_storage' writes crash_invariant l1_still rb_still rb_now

  pub placed_sound : CacheInvariant h' p' file.caches on_storage'
  placed_sound = header_sound view p p' file sound a on_storage' writes crash_invariant l1_still rb_still rb_now

-- ---- the size, and the autoclear bits
module _ {S : Type 0} (view : S → StorageView) (p : Pending) (file : ImageFile S) (sound : FileInvariant view p file) (size autoclear : ℕ) (on_storage' : Bytes)
    (writes : WritesHeader file.header.fields (resized_places file.header.fields size autoclear) (contents_in view file) (known_in view file) on_storage' (known_of file.header.fields file.caches on_storage')) where
  pub resized_l1 : (i : ℕ) → l1_entry (with_places file.header.fields (resized_places file.header.fields size autoclear)) on_storage' i ≡ l1_entry file.header.fields (contents_in view file) i
  unfolding l1_entry
  resized_l1 i =
      let h = file.header.fields in
      sym (header_l1 h (resized_places h size autoclear) (order_of file.caches) p (contents_in view file) (known_in view file) on_storage' (known_of h file.caches on_storage') sound.caches.kept.kept.crash_invariant writes i)

  pub resized_reftable : (k : ℕ) → reftable_entry (with_places file.header.fields (resized_places file.header.fields size autoclear)) on_storage' k ≡ reftable_entry file.header.fields (contents_in view file) k
  unfolding reftable_entry
  resized_reftable k =
      let h = file.header.fields in
      sym (header_reftable h (resized_places h size autoclear) (order_of file.caches) p (contents_in view file) (known_in view file) on_storage' (known_of h file.caches on_storage') sound.caches.kept.kept.crash_invariant writes k)

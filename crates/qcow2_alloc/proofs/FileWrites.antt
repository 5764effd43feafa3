-- Writing bytes to clusters of an image's file that have no reference and no cached table.
use Rattle.std.proofs.Common.{◌≡◌, ◌⊎◌, inl, inr, ℕ, [], refl, sym, ◌∙◌}
use Rattle.qcow2_alloc.proofs.Common.{StorageView, EachMomentSince, IsLeftBy, byte_at, EntryTableView, cluster_size, named_for_tables, Pending, SameIn, SafeStep, IsUnnamed, IsWritten, data_beside, same_beside, unnamed_free, done_safe_throughout, data_is_written, unseen_written, ImageFile, ImageStorage, nothing_given, view_in, contents_in, known_in, state_in, FileInvariant, HasReftable, InternalFileStep, storage_of, order_of, l2_tables, refblocks}
use Rattle.qcow2_alloc.proofs.CountsStay.{counts_follow, fixed_more}
use Rattle.qcow2_alloc.proofs.KeptTables.Beside.{top_beside, named_blocks_beside_write, sound_beside}
use Rattle.qcow2_alloc.proofs.FileInvariants.{file_invariant_of}

module _ {S : Type 0} (view : S → StorageView) (p : Pending) (file : ImageFile S) (storage : ImageStorage S) (sound : FileInvariant view p file) (honest : (view (storage_of storage)).is_honest)
    (each : (c : ℕ) → SameIn (cluster_size file.header.fields) c (contents_in view file) (byte_at (view (storage_of storage)).contents)
    ⊎ (IsUnnamed file.header.fields (contents_in view file) (known_in view file) c × (p.new_data c ≡ 0))) where
  abbrev written : ImageFile S
  written = record file { storage = storage }

  -- a cluster with a table stays
  tables_stay : (c : ℕ) → SameIn (cluster_size file.header.fields) c (contents_in view file) (contents_in view written) ⊎ (named_for_tables file.header.fields (contents_in view file) c ≡ 0)
  tables_stay c = elim (each c) [ inl same ↦ inl same | inr free ↦ inr free.0.no_table ]

  is_written : IsWritten file.header.fields (contents_in view file) (known_in view file) (contents_in view written) (known_in view written) []
  is_written =
      let h = file.header.fields in
      let kept = sound.caches.kept.kept in
      data_beside h (order_of file.caches) p (l2_tables file.caches) (refblocks file.caches) (contents_in view file) (contents_in view written) kept []
      (λ c. elim (each c) [
        | inl same ↦ inl same
        | inr free ↦ inr (unnamed_free h (order_of file.caches) p (l2_tables file.caches) (refblocks file.caches) (contents_in view file) (contents_in view written) kept sound.named_blocks c free.0)
      ])
      (λ c. elim (each c) [
        | inl same ↦ inl (same_beside h (order_of file.caches) p (l2_tables file.caches) (refblocks file.caches) (contents_in view file) (contents_in view written) kept c same)
        | inr free ↦ inr (inl free.0)
      ])

  safe_step_written : SafeStep (state_in view file p) (state_in view written p) nothing_given []
  safe_step_written = data_is_written.written (state_in view file p) (contents_in view written) (known_in view written) [] sound.caches.kept.kept.crash_invariant is_written

  each_known : (c : ℕ) → (SameIn (cluster_size file.header.fields) c (contents_in view file) (contents_in view written) × SameIn (cluster_size file.header.fields) c (known_in view file) (known_in view written))
      ⊎ (IsUnnamed file.header.fields (contents_in view file) (known_in view file) c × (p.new_data c ≡ 0))
  each_known c = elim (each c) [
    | inl same ↦ inl (same_beside file.header.fields (order_of file.caches) p (l2_tables file.caches) (refblocks file.caches) (contents_in view file) (contents_in view written) sound.caches.kept.kept c same)
    | inr free ↦ inr free
  ]

  pub reftable_written : (t : EntryTableView) → HasReftable view file t → HasReftable view written t
  reftable_written t has = record {
    cluster = has.cluster;
    bits = has.bits;
    count = has.count;
    entries = λ k. has.entries k ∙ (top_beside file.header.fields p p file.caches (contents_in view file) (contents_in view written) sound.caches sound.named_blocks tables_stay).reftable k;
  }

  -- no guest sees it
  pub file_step_written : EachMomentSince (view_in view file) (view (storage_of storage)) (IsLeftBy (view (storage_of storage))) → InternalFileStep view p p file written
  file_step_written time =
      let h = file.header.fields in
      let unseen = unseen_written (state_in view file p) (state_in view written p) sound.caches.kept.kept.crash_invariant each_known refl in record {
        sound = file_invariant_of
            honest
            (sound_beside file.header.fields p p file.caches (contents_in view file) (contents_in view written) sound.caches sound.named_blocks tables_stay safe_step_written.sound)
            (named_blocks_beside_write file.header.fields p p file.caches (contents_in view file) (contents_in view written) sound.caches sound.named_blocks tables_stay)
            sound.room;
        safe_step = safe_step_written;
        since = done_safe_throughout (view_in view file) (view (storage_of storage)) (state_in view file p) (state_in view written p) nothing_given [] time refl refl safe_step_written;
        unseen = unseen.0;
        l1_table = unseen.1;
        counts = λ k. counts_follow h (order_of file.caches) (order_of file.caches) p p (contents_in view file) (contents_in view written) (known_in view file) (known_in view written) sound.caches.kept.kept.crash_invariant safe_step_written.sound unseen.0.covers
            (fixed_more h (contents_in view file) (contents_in view written) (λ i some. sym ((top_beside h p p file.caches (contents_in view file) (contents_in view written) sound.caches sound.named_blocks tables_stay).reftable i)) unseen.1) k refl;
      }

-- The size, and the pointers to the L1 table and the reftable, are written to the header on the storage, whatever its names are.
use Rattle.std.proofs.Common.{◌*◌, ◌^◌, ◌<◌, ◌≤◌, ℕ, List, refl, sym, subst, arith}
use Rattle.qcow2_alloc.proofs.Common.{StorageView, byte_at, HeaderFields, HeaderView, header, HeaderReads, entries_per_cluster, backing_name, first_of_kind, backing_format_kind, data_file_kind, with_size, with_l1_table, with_reftable, size_written, l1_table_pointer_written, reftable_pointer_written, Pending, WritesHeader, resized_places, with_l1_at, with_reftable_at, ImageFile, view_in, known_in, FileInvariant, order_of, l2_tables, refblocks, known_of}
use Rattle.qcow2_metadata.specs.HeaderLoad.{IsHeaderIn}
use Rattle.qcow2_metadata.proofs.StillHeader.{size_still, l1_table_still, reftable_still}
use Rattle.qcow2_metadata.proofs.WrittenHeader.{size_after, l1_table_after, reftable_after}
use Rattle.qcow2_laws.proofs.HeaderWrites.{size_beside, l1_pointer_beside, reftable_pointer_beside}

module _ {S : Type 0} (view : S → StorageView) (p : Pending) (file : ImageFile S) (sound : FileInvariant view p file) where
  abbrev h : HeaderFields
  h = file.header.fields

  abbrev contents : List ℕ
  contents = (view_in view file).contents

  reads : HeaderReads (header (byte_at contents)) (byte_at contents)
  reads = let top = sound.caches.kept.kept.crash_invariant.top in subst (λ (k : HeaderFields). HeaderReads k (byte_at contents)) (sym top.header_is) top.header_reads

  -- the header with the names that stand there
  abbrev there : HeaderView
  there = record {
    fields = file.header.fields;
    backing_name = backing_name (header (byte_at contents)) (byte_at contents);
    backing_format = first_of_kind backing_format_kind reads.well_formed.extensions.list;
    data_file_name = first_of_kind data_file_kind reads.well_formed.extensions.list;
  }

  stands : IsHeaderIn there contents
  stands = record { fields = sym sound.caches.kept.kept.crash_invariant.top.header_is; reads = reads; backing_name = refl; backing_format = refl; data_file_name = refl }

  pub size_writes : (size : ℕ) → size < 2 ^ 64
      → WritesHeader h (resized_places h size h.autoclear) (byte_at contents) (known_in view file) (byte_at (size_written (with_size h size) contents)) (known_of h file.caches (byte_at (size_written (with_size h size) contents)))
  size_writes size fits =
      let limits = sound.caches.kept.kept.crash_invariant.top.header_reads.within_limits in
      let v : HeaderView = record there { fields = with_size file.header.fields size } in
      size_beside h (order_of file.caches) p (l2_tables file.caches) (refblocks file.caches) contents sound.caches.kept.kept v (size_after contents size fits)
      (size_still contents v h.size fits (record { few_l1_entries = limits.few_l1_entries; few_reftable_entries = limits.few_reftable_entries }) stands)

  pub l1_pointer_writes : (offset entries : ℕ) → entries ≤ 4194304 → offset < 2 ^ 64
      → WritesHeader h (with_l1_at h offset entries) (byte_at contents) (known_in view file) (byte_at (l1_table_pointer_written (with_l1_table h offset entries) contents))
      (known_of h file.caches (byte_at (l1_table_pointer_written (with_l1_table h offset entries) contents)))
  l1_pointer_writes offset entries few fits =
      let limits = sound.caches.kept.kept.crash_invariant.top.header_reads.within_limits in
      let v : HeaderView = record there { fields = with_l1_table file.header.fields offset entries } in
      l1_pointer_beside h (order_of file.caches) p (l2_tables file.caches) (refblocks file.caches) contents sound.caches.kept.kept v (l1_table_after contents entries offset (omega (arith, few)) fits)
      (l1_table_still contents v h.l1_offset h.l1_entries (omega (arith, few)) fits (record { few_l1_entries = few; few_reftable_entries = limits.few_reftable_entries }) stands)

  pub reftable_pointer_writes : (offset clusters : ℕ) → clusters < 2 ^ 32 → clusters * entries_per_cluster h ≤ 1048576 → offset < 2 ^ 64
      → WritesHeader h (with_reftable_at h offset clusters) (byte_at contents) (known_in view file) (byte_at (reftable_pointer_written (with_reftable h offset clusters) contents))
      (known_of h file.caches (byte_at (reftable_pointer_written (with_reftable h offset clusters) contents)))
  reftable_pointer_writes offset clusters small few fits =
      let v : HeaderView = record there { fields = with_reftable file.header.fields offset clusters } in
      reftable_pointer_beside h (order_of file.caches) p (l2_tables file.caches) (refblocks file.caches) contents sound.caches.kept.kept v (reftable_after contents offset clusters fits small)
      (reftable_still contents v h.reftable_offset h.reftable_clusters fits small (record { few_l1_entries = sound.caches.kept.kept.crash_invariant.top.header_reads.within_limits.few_l1_entries; few_reftable_entries = few }) stands)

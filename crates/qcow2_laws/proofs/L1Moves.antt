-- The header's pointer to a new L1 table, which may be longer, is written.
use Rattle.std.proofs.Common.{◌≡◌, ◌+◌, ◌-◌, ◌*◌, ◌/◌, ◌<◌, ◌≤◌, ◌≢◌, ℕ, cond, [], refl, sym, ap, ◌∙◌, arith, inl, inr, subst}
use Rattle.qcow2_laws.proofs.Common.{fun_ext, cases_lt, Bytes, sum_below, HeaderFields, cluster_size, entries_per_cluster, l1_entry, reftable_entry, count, count_under, host_offset, block_offset, is_copied, L1EntryReads, ReftableEntryReads, cover, cover_under, in_run, table_in, named_for_tables, named_by_reftable, named_by_l1_table, named_by_guest, IsAligned, disk, disk_with, SafeStep, Direction, over_guests, names, named_in_either, marked_by_l1_table, Pending, CrashInvariant, IsTop, SameTop, IsSameOutside, renamed, with_places, KeepsCovers, WritesHeader, with_l1_at, IsNewL1, KeepsGuests, state_with_l1_table}
use Rattle.qcow2_laws.proofs.Sums.{sum_below-same, sum_below-longer}
use Rattle.qcow2_laws.proofs.Places.{Sizes-from, l1-same, l1_entry-past}
use Rattle.qcow2_laws.proofs.Writes.{new_tables_is_unnamed}
use Rattle.qcow2_laws.proofs.Shares.{shares, in_l1, in_run-le, l1_has}
use Rattle.qcow2_laws.proofs.Guests.{uncovered_names, guest_le, names_within}
use Rattle.qcow2_laws.proofs.Tops.{IsTop-top}
use Rattle.qcow2_laws.proofs.Mixes.{tied}
use Rattle.qcow2_laws.proofs.Values.{value_is, size_is}
use Rattle.qcow2_laws.proofs.Renaming.{tables_renamed, moved_step, known_sum, same_value}
use Rattle.qcow2_laws.proofs.SafeSteps.{state}
use Rattle.qcow2_laws.proofs.Headers.{header_sizes, header_l1, header_known_l1, header_reftable, header_known_reftable, header_covers, header_known_covers, header_counts, header_known_counts, header_elsewhere, header_unlaid, unnamed_elsewhere}

module _ (h : HeaderFields) (offset entries : ℕ) (d : Direction) (p : Pending) (on_storage known on_storage' known' : Bytes) (crash_invariant : CrashInvariant h d p on_storage known)
    (writes : WritesHeader h (with_l1_at h offset entries) on_storage known on_storage' known') (new : IsNewL1 h d p on_storage known offset entries) where
  reftable_too : (b : Bytes) (k : ℕ) → reftable_entry (with_places h (with_l1_at h offset entries)) b k ≡ reftable_entry h b k
  unfolding reftable_entry
  reftable_too b k = refl

  counts_too : (b : Bytes) (c : ℕ) → count (with_places h (with_l1_at h offset entries)) b c ≡ count h b c
  unfolding count count_under reftable_entry
  counts_too b c = refl

  -- the new table's clusters are others than the header's
  stays : (b b' : Bytes) → IsSameOutside (cluster_size h) 0 b b' → (i : ℕ)
      → l1_entry (with_places h (with_l1_at h offset entries)) b i ≡ l1_entry (with_places h (with_l1_at h offset entries)) b' i
  stays b b' outside i =
      l1-same (with_places h (with_l1_at h offset entries)) b b' i (Sizes-from (with_places h (with_l1_at h offset entries)) on_storage' writes.reads) new.aligned (λ lt o in_c.
      outside o (λ e. unnamed_elsewhere h (with_l1_at h offset entries) d p on_storage known on_storage' known' crash_invariant writes _
      (new_tables_is_unnamed h d p on_storage known crash_invariant _
      (new.new_tables ((offset + 8 * i) / cluster_size h) (let one = l1_has (with_places h (with_l1_at h offset entries)) i (Sizes-from (with_places h (with_l1_at h offset entries)) on_storage' writes.reads) new.aligned lt in omega arith)).0
      new.written).no_table (sym in_c ∙ e)))

  pub now_l1 : (i : ℕ) → l1_entry h on_storage i ≡ l1_entry (with_places h (with_l1_at h offset entries)) on_storage' i
  now_l1 i = sym (new.same i) ∙ stays on_storage on_storage' writes.others i

  now_known_l1 : (i : ℕ) → l1_entry h known i ≡ l1_entry (with_places h (with_l1_at h offset entries)) known' i
  now_known_l1 i = sym (new.known_same i) ∙ stays known known' writes.known_others i

  pub now_reftable : (k : ℕ) → reftable_entry h on_storage k ≡ reftable_entry (with_places h (with_l1_at h offset entries)) on_storage' k
  now_reftable k = header_reftable h (with_l1_at h offset entries) d p on_storage known on_storage' known' crash_invariant writes k ∙ sym (reftable_too on_storage' k)

  -- an entry that is none reads, and is aligned
  each_l1 : (Q : ℕ → Type 0) → Q 0 → ((i : ℕ) → i < h.l1_entries → Q (l1_entry h on_storage i)) → (i : ℕ) → Q (l1_entry (with_places h (with_l1_at h offset entries)) on_storage' i)
  each_l1 Q none each i = subst Q (now_l1 i) (elim (cases_lt i h.l1_entries) [
    | inl lt ↦ each i lt
    | inr past ↦ subst Q (sym (l1_entry-past h on_storage i past)) none
  ])

  top_now : IsTop (with_places h (with_l1_at h offset entries)) on_storage'
  top_now = record {
    header_is = writes.is;
    header_reads = writes.reads;
    reftable_fits = crash_invariant.top.reftable_fits;
    l1_reads = λ i lt. each_l1 L1EntryReads (refl, refl) crash_invariant.top.l1_reads i;
    reftable_reads = λ k lt. subst ReftableEntryReads (now_reftable k) (crash_invariant.top.reftable_reads k lt);
    no_snapshots = crash_invariant.top.no_snapshots;
    l1_aligned = new.aligned;
    reftable_aligned = crash_invariant.top.reftable_aligned;
    l2_tables_aligned = λ i lt. each_l1 (λ e. IsAligned h (host_offset e)) (let some = (header_sizes h (with_l1_at h offset entries) d p on_storage known on_storage' known' crash_invariant writes).some in omega arith) crash_invariant.top.l2_tables_aligned i;
    refblocks_aligned = λ k lt. subst (λ e. IsAligned h (block_offset e)) (now_reftable k) (crash_invariant.top.refblocks_aligned k lt);
  }

  same_top_now : SameTop (with_places h (with_l1_at h offset entries)) on_storage' known'
  same_top_now = record {
    first_cluster = writes.same_first;
    l1 = λ i. sym (now_l1 i) ∙ crash_invariant.same_top.l1 i ∙ now_known_l1 i;
    reftable = λ k. sym (now_reftable k) ∙ crash_invariant.same_top.reftable k ∙ header_known_reftable h (with_l1_at h offset entries) d p on_storage known on_storage' known' crash_invariant writes k ∙ sym (reftable_too known' k);
  }

  cover_of : (b : Bytes) (g e : ℕ) → l1_entry h b (g / entries_per_cluster h) ≡ e → l1_entry (with_places h (with_l1_at h offset entries)) b (g / entries_per_cluster h) ≡ e
      → cover h b g ≡ cover (with_places h (with_l1_at h offset entries)) b g
  unfolding cover cover_under
  cover_of b g e is is' = ap (λ x. cover_under h b x g) is ∙ sym (ap (λ x. cover_under h b x g) is')

  pub covers : KeepsCovers h (with_l1_at h offset entries) on_storage on_storage'
  covers g =
      header_covers h (with_l1_at h offset entries) d p on_storage known on_storage' known' crash_invariant writes g
      ∙ cover_of on_storage' g _ refl (sym (now_l1 (g / entries_per_cluster h)) ∙ header_l1 h (with_l1_at h offset entries) d p on_storage known on_storage' known' crash_invariant writes (g / entries_per_cluster h))

  pub known_covers : KeepsCovers h (with_l1_at h offset entries) known known'
  known_covers g =
      header_known_covers h (with_l1_at h offset entries) d p on_storage known on_storage' known' crash_invariant writes g
      ∙ cover_of known' g _ refl (sym (now_known_l1 (g / entries_per_cluster h)) ∙ header_known_l1 h (with_l1_at h offset entries) d p on_storage known on_storage' known' crash_invariant writes (g / entries_per_cluster h))

  not_overlaid : (o : ℕ) → 0 < named_in_either h on_storage known (o / cluster_size h) + p.new_data (o / cluster_size h) → on_storage' o ≡ known' o
  not_overlaid = header_unlaid h (with_l1_at h offset entries) d p on_storage known on_storage' known' crash_invariant writes

  -- ---- how often tables name a cluster now
  longer_sum : (f g : ℕ → ℕ) → ((i : ℕ) → f i ≡ g i) → ((i : ℕ) → h.l1_entries ≤ i → f i ≡ 0) → sum_below entries g ≡ sum_below h.l1_entries f
  longer_sum f g same none =
      let e : h.l1_entries + (entries - h.l1_entries) ≡ entries = let l = new.longer in omega arith in
      sum_below-same entries g f (λ i lt. sym (same i)) ∙ ap (λ n. sum_below n f) (sym e) ∙ sum_below-longer h.l1_entries (entries - h.l1_entries) f none

  tables_same : (c : ℕ) → named_by_l1_table (with_places h (with_l1_at h offset entries)) on_storage' c ≡ named_by_l1_table h on_storage c
  unfolding named_by_l1_table
  tables_same c =
      longer_sum (λ i. table_in h c (host_offset (l1_entry h on_storage i))) (λ i. table_in h c (host_offset (l1_entry (with_places h (with_l1_at h offset entries)) on_storage' i)))
      (λ i. ap (λ e. table_in h c (host_offset e)) (now_l1 i)) (λ i past. ap (λ e. table_in h c (host_offset e)) (l1_entry-past h on_storage i past))

  marks_same : (c : ℕ) → marked_by_l1_table (with_places h (with_l1_at h offset entries)) on_storage' c ≡ marked_by_l1_table h on_storage c
  unfolding marked_by_l1_table
  marks_same c =
      longer_sum (λ i. cond (is_copied (l1_entry h on_storage i)) (table_in h c (host_offset (l1_entry h on_storage i))) 0)
      (λ i. cond (is_copied (l1_entry (with_places h (with_l1_at h offset entries)) on_storage' i)) (table_in h c (host_offset (l1_entry (with_places h (with_l1_at h offset entries)) on_storage' i))) 0)
      (λ i. ap (λ e. cond (is_copied e) (table_in h c (host_offset e)) 0) (now_l1 i)) (λ i past. ap (λ e. cond (is_copied e) (table_in h c (host_offset e)) 0) (l1_entry-past h on_storage i past))

  blocks_same : (c : ℕ) → named_by_reftable (with_places h (with_l1_at h offset entries)) on_storage' c ≡ named_by_reftable h on_storage c
  unfolding named_by_reftable
  blocks_same c = sum_below-same _ _ _ (λ k lt. ap (λ e. table_in h c (block_offset e)) (sym (now_reftable k)))

  fixed_changed : (c : ℕ) → named_for_tables (with_places h (with_l1_at h offset entries)) on_storage' c + in_l1 h c ≡ named_for_tables h on_storage c + in_run h c offset (8 * entries) + 0
  fixed_changed c =
      let before = shares h on_storage c in
      let after = shares (with_places h (with_l1_at h offset entries)) on_storage' c in
      let tables = tables_same c in
      let blocks = blocks_same c in
      omega arith

  elsewhere : (o : ℕ) → 0 < named_in_either h on_storage known (o / cluster_size h) → o / cluster_size h ≢ 0
  elsewhere o some = header_elsewhere h (with_l1_at h offset entries) d p on_storage known on_storage' known' crash_invariant writes o (omega arith)

  pub l1_moved : SafeStep (state h d p on_storage known) (state (with_places h (with_l1_at h offset entries)) d (renamed p (λ c. in_run h c offset (8 * entries)) (in_l1 h)) on_storage' known') (λ _. []) []
  l1_moved =
      moved_step h (with_l1_at h offset entries) d p (renamed p (λ c. in_run h c offset (8 * entries)) (in_l1 h)) on_storage known on_storage' known' crash_invariant
      top_now same_top_now new.longer covers known_covers not_overlaid
      (tables_renamed h (with_l1_at h offset entries) d p (renamed p (λ c. in_run h c offset (8 * entries)) (in_l1 h)) on_storage known on_storage' known' crash_invariant
      top_now same_top_now new.longer covers known_covers not_overlaid
      (λ c. in_run h c offset (8 * entries)) (λ c. 0) (in_l1 h) (λ c. (refl, refl, refl, refl, refl))
      (λ c. let one = in_run-le h c offset (8 * entries) in omega arith) fixed_changed (λ c. let e = marks_same c in omega arith)
      (λ c. let e = counts_too on_storage' c in let s = header_counts h (with_l1_at h offset entries) d p on_storage known on_storage' known' crash_invariant writes c in omega arith)
      (λ c. let e = counts_too known' c in let s = header_known_counts h (with_l1_at h offset entries) d p on_storage known on_storage' known' crash_invariant writes c in omega arith)
      (λ c some. let f = new.new_tables c some in (f.0, f.1, new.written)) (λ c some. absurd (omega arith)))
      (λ o some. writes.others o (elsewhere o some)) (λ o some. writes.known_others o (elsewhere o some)) writes.rest [] (inl refl)

  -- ---- what guests use
  bytes_stay : (o : ℕ) → 0 < named_in_either h on_storage known (o / cluster_size h) + p.new_data (o / cluster_size h) → known' o ≡ known o
  bytes_stay o some = sym (writes.known_others o (header_elsewhere h (with_l1_at h offset entries) d p on_storage known on_storage' known' crash_invariant writes o some))

  used_same : (c : ℕ) → over_guests (with_places h (with_l1_at h offset entries)) (names (with_places h (with_l1_at h offset entries)) known' c) ≡ over_guests h (names h known c)
  used_same c =
      sym (known_sum h (with_l1_at h offset entries) d p (renamed p (λ k. in_run h k offset (8 * entries)) (in_l1 h)) on_storage known on_storage' known' crash_invariant
      top_now same_top_now new.longer covers known_covers not_overlaid (named_by_guest h c) (uncovered_names h c))

  disk_same : h.incompatible ≡ 0 → (backing : Bytes) → disk known' backing ≡ disk known backing
  unfolding disk_with
  disk_same inside backing =
      let was = (IsTop-top h on_storage known crash_invariant.same_top crash_invariant.top).header_is in
      let is = (IsTop-top (with_places h (with_l1_at h offset entries)) on_storage' known' same_top_now top_now).header_is in
      let size : (disk known' backing).size ≡ (disk known backing).size = size_is (with_places h (with_l1_at h offset entries)) known' backing is ∙ sym (size_is h known backing was) in
      let value : (disk known' backing).value ≡ (disk known backing).value = fun_ext (λ o.
      value_is (with_places h (with_l1_at h offset entries)) known' backing o is
      ∙ sym (same_value h (with_l1_at h offset entries) d p (renamed p (λ k. in_run h k offset (8 * entries)) (in_l1 h)) on_storage known on_storage' known' crash_invariant
      top_now same_top_now new.longer covers known_covers not_overlaid inside known known' backing known_covers crash_invariant.known_aligned (λ g place some.
      sym (bytes_stay place (let t = (tied h p on_storage known (place / cluster_size h)).known in let n = named_once place g some in omega arith))) o)
      ∙ sym (value_is h known backing o was)) in
      λ j. record { size = size j; value = value j }
    where
      named_once : (place g : ℕ) → 0 < names h known (place / cluster_size h) g → 0 < over_guests h (names h known (place / cluster_size h))
      named_once place g some =
          let le = guest_le h (names h known (place / cluster_size h)) g (names_within h known (place / cluster_size h) g (Sizes-from h on_storage crash_invariant.top.header_reads) some) in
          omega arith

  pub guests_kept : KeepsGuests (record { header = h; direction = d; pending = p; on_storage = on_storage; known = known })
      (state_with_l1_table (record { header = h; direction = d; pending = p; on_storage = on_storage; known = known }) offset entries on_storage' known')
  guests_kept = record {
    storage_covers = covers;
    covers = known_covers;
    bytes = λ o some. bytes_stay o (let t = (tied h p on_storage known (o / cluster_size h)).known in omega arith);
    used = λ c. ap (λ n. n + p.new_data c) (used_same c);
    surplus = λ c. refl;
    disk = disk_same;
  }

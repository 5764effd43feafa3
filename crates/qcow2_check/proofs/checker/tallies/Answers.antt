use Rattle.std.proofs.Common.{◌≡◌, ◌/◌, ℕ, List, length, ap, sym, subst, ◌∙◌, arith}
use Rattle.qcow2_check.proofs.Common.{one_shl, byte_at, l1_entry, reftable_entry, count, L1EntryReads, ReftableEntryReads, entry_at, TalliesGrow, count_in, tables_off, blocks_off, off_l2_tables, off_refblocks, data_off_below, named_below, tables_below, marked_below, reftable_entries, IsReasonNotToCount}
use Rattle.qcow2_check.proofs.OffsetSteps.{counted_off, all_tables_off, all_blocks_off}
use Rattle.qcow2_check.proofs.Reading.{reads_another, reads_then, reads_refused, reads_short, refused_as}
use Rattle.qcow2_check.proofs.Refusals.{l1_unread, reftable_unread, uncounted}
use Rattle.qcow2_check.proofs.Totals.{few_reftable_clusters, all_tallies}
use Rattle.qcow2_check.proofs.checker.tallies.Goals as goal

pub returns-in_err-l1-clause-refused : goal.returns-in_err-l1-clause-refused
returns-in_err-l1-clause-refused g c honest =
    rw (refused_as _ c.from_residual.ensures.1) (l1_unread c.args.header.now _ _ _ honest c.in_err-l1.ensures.err)

pub returns-in_err-reftable-clause-refused : goal.returns-in_err-reftable-clause-refused
returns-in_err-reftable-clause-refused g c honest =
    let P : List ℕ → Type 0 = λ b. IsReasonNotToCount c.args.header.now (byte_at b) c.in_err-reftable.field-0.0 in
    let there = reftable_unread c.args.header.now _ _ _ (c.in_ok-l1.ensures.reading.honest honest) c.in_err-reftable.ensures.err in
    rw (refused_as _ c.from_residual-in_err-reftable.ensures.1) (subst P (c.in_ok-l1.ensures.reading.same honest) there)

pub names_of_header-requires-clause-few_clusters :
    goal.names_of_header-requires-clause-few_clusters
names_of_header-requires-clause-few_clusters g c = few_reftable_clusters c.args.header.now c.requires.in_range.cluster_bits.0 c.requires.within_limits.few_reftable_entries

pub returns-clause-tallies : goal.returns-clause-tallies
returns-clause-tallies g c honest =
    let h = c.args.header.now in
    let b = (g.S.Storage.view c.args.storage.now).contents in
    let l1 = c.deref-5.result.now in
    let blocks = c.deref-4.result.now in
    let honest1 = c.in_ok-l1.ensures.reading.honest honest in
    let honest2 = c.in_ok-reftable.ensures.reading.honest honest1 in
    let honest3 = c.in_ok-counts.ensures.reading.honest honest2 in
    let same1 : (g.S.Storage.view c.load_l1_entries.new.storage).contents ≡ b = c.in_ok-l1.ensures.reading.same honest in
    let same2 : (g.S.Storage.view c.load_reftable_entries.new.storage).contents ≡ b = c.in_ok-reftable.ensures.reading.same honest1 ∙ same1 in
    let same3 : (g.S.Storage.view c.load.new.storage).contents ≡ b = c.in_ok-counts.ensures.reading.same honest2 ∙ same2 in
    let L1 : List ℕ → Type 0 = λ b. (i : ℕ) → entry_at l1 i ≡ l1_entry h (byte_at b) i in
    let l1_is : L1 b = λ i. ap (λ t. entry_at t i) c.deref-5.ensures.value ∙ c.in_ok-l1.ensures.entries honest i in
    let R : List ℕ → List ℕ → Type 0 = λ t b. (k : ℕ) → entry_at t k ≡ reftable_entry h (byte_at b) k in
    let reftable_is : R c.in_ok-reftable.reftable.items b = subst (R c.in_ok-reftable.reftable.items) same1 (c.in_ok-reftable.ensures.entries honest1) in
    let blocks_are : R blocks b = subst (λ t. R t b) (sym c.deref-4.ensures.value) reftable_is in
    let counts_are : R c.deref-3.result.now b = subst (λ t. R t b) (sym c.deref-3.ensures.value) reftable_is in
    let G : List ℕ → Type 0 = λ b. TalliesGrow c.names_of_reftable.new.names.clusters c.names_of_l1_table.new.names.clusters (named_below h (byte_at b) (length l1 / 8)) (tables_below h (byte_at b) (length l1 / 8)) (marked_below h (byte_at b) (length l1 / 8)) in
    let C : List ℕ → Type 0 = λ b. (q : ℕ) → count_in c.in_ok-counts.counts q ≡ count h (byte_at b) q in
    let T : List ℕ → Type 0 = λ b. TalliesGrow c.new-offsets.result.data.clusters c.names_of_l1_table.new.offsets.clusters (data_off_below h (byte_at b) (length l1 / 8)) (λ _. 0) (λ _. 0) in
    let l1_long : length l1 / 8 ≡ h.l1_entries = omega (arith, c.in_ok-l1.ensures.length, ap length c.deref-5.ensures.value) in
    let head_l1 : (i : ℕ) → entry_at c.deref.result.now i ≡ l1_entry h (byte_at b) i = λ i. ap (λ t. entry_at t i) c.deref.ensures.value ∙ c.in_ok-l1.ensures.entries honest i in
    let head_long : length c.deref.result.now / 8 ≡ h.l1_entries = omega (arith, c.in_ok-l1.ensures.length, ap length c.deref.ensures.value) in
    let head_blocks : R c.deref-2.result.now b = subst (λ t. R t b) (sym c.deref-2.ensures.value) reftable_is in
    let head_blocks_long : length c.deref-2.result.now / 8 ≡ reftable_entries h = omega (arith, c.in_ok-reftable.ensures.length, ap length c.deref-2.ensures.value) in
    record {
      clusters_are =
          all_tallies h (byte_at b) l1 blocks _ _ _ _ _
          (omega (arith, c.in_ok-l1.ensures.length, ap length c.deref-5.ensures.value))
          (omega (arith, c.in_ok-reftable.ensures.length, ap length c.deref-4.ensures.value))
          blocks_are
          c.new-names.ensures.none
          (subst C same2 (c.in_ok-counts.ensures.counts honest2 (subst (R c.deref-3.result.now) (sym same2) counts_are)))
          c.in_ok-names_of_header.ensures.grows c.in_ok-names_of_reftable.ensures.grows
          (subst G same3 (c.in_ok-names_of_l1_table.ensures.grows honest3 (subst L1 (sym same3) l1_is)));
      l2_tables_are = counted_off (tables_off h c.deref.result.now (length c.deref.result.now / 8)) (off_l2_tables h (byte_at b)) _ _ c.new-offsets.ensures.l2_tables
          (all_tables_off h (byte_at b) c.deref.result.now head_long head_l1) c.in_ok-offsets_of_l1_table.ensures.grows;
      refblocks_are = counted_off (blocks_off h c.deref-2.result.now (length c.deref-2.result.now / 8)) (off_refblocks h (byte_at b)) _ _ c.new-offsets.ensures.refblocks
          (all_blocks_off h (byte_at b) c.deref-2.result.now head_blocks_long head_blocks) c.in_ok-offsets_of_reftable.ensures.grows;
      data_are = counted_off (data_off_below h (byte_at b) (length l1 / 8)) (data_off_below h (byte_at b) h.l1_entries) _ _ c.new-offsets.ensures.of_data
          (λ q. ap (λ n. data_off_below h (byte_at b) n q) l1_long)
          (subst T same3 (c.in_ok-names_of_l1_table.ensures.offsets honest3 (subst L1 (sym same3) l1_is)));
    }

pub returns-clause-tables : goal.returns-clause-tables
returns-clause-tables g c honest =
    let same = c.in_ok-l1.ensures.reading.same honest in
    let R : List ℕ → Type 0 = λ b. (k : ℕ) → entry_at c.in_ok-reftable.reftable.items k ≡ reftable_entry c.args.header.now (byte_at b) k in
    let blocks = subst R same (c.in_ok-reftable.ensures.entries (c.in_ok-l1.ensures.reading.honest honest)) in
    record {
      l1_entries = λ i lt. subst L1EntryReads (c.in_ok-l1.ensures.entries honest i) (c.in_ok-l1.ensures.reads i);
      reftable = λ k lt. subst ReftableEntryReads (blocks k) (c.in_ok-reftable.ensures.reads k);
    }

pub returns-in_err-offsets_of_l1_table : goal.returns-in_err-offsets_of_l1_table
returns-in_err-offsets_of_l1_table g c =
    rw (refused_as _ c.from_residual-in_err-offsets_of_l1_table.ensures.1) (record { tallies = λ _. tt; tables = λ _. tt; fits = tt; refused = λ _. tt; reading = reads_short (reads_then c.in_ok-l1.ensures.reading c.in_ok-reftable.ensures.reading) })

pub returns-in_err-offsets_of_reftable : goal.returns-in_err-offsets_of_reftable
returns-in_err-offsets_of_reftable g c =
    rw (refused_as _ c.from_residual-in_err-offsets_of_reftable.ensures.1) (record { tallies = λ _. tt; tables = λ _. tt; fits = tt; refused = λ _. tt; reading = reads_short (reads_then c.in_ok-l1.ensures.reading c.in_ok-reftable.ensures.reading) })

pub returns-in_err-buf : goal.returns-in_err-buf
returns-in_err-buf g c =
    rw (refused_as _ c.from_residual-in_err-buf.ensures.1) (record { tallies = λ _. tt; tables = λ _. tt; fits = tt; refused = λ _. tt; reading = reads_short (reads_then c.in_ok-l1.ensures.reading c.in_ok-reftable.ensures.reading) })

pub returns-in_err-names_of_header : goal.returns-in_err-names_of_header
returns-in_err-names_of_header g c =
    rw (refused_as _ c.from_residual-in_err-names_of_header.ensures.1) (record { tallies = λ _. tt; tables = λ _. tt; fits = tt; refused = λ _. tt; reading = reads_short (reads_then (reads_then c.in_ok-l1.ensures.reading c.in_ok-reftable.ensures.reading) c.in_ok-counts.ensures.reading) })

pub returns-in_err-names_of_reftable : goal.returns-in_err-names_of_reftable
returns-in_err-names_of_reftable g c =
    rw (refused_as _ c.from_residual-in_err-names_of_reftable.ensures.1) (record { tallies = λ _. tt; tables = λ _. tt; fits = tt; refused = λ _. tt; reading = reads_short (reads_then (reads_then c.in_ok-l1.ensures.reading c.in_ok-reftable.ensures.reading) c.in_ok-counts.ensures.reading) })

pub returns-in_err-counts : goal.returns-in_err-counts
returns-in_err-counts g c =
    rw (refused_as _ c.from_residual-in_err-counts.ensures.1) (record { tallies = λ _. tt; tables = λ _. tt; fits = tt; refused = λ _. uncounted _ _ _ c.in_err-counts.ensures.causes; reading = reads_then (reads_then c.in_ok-l1.ensures.reading c.in_ok-reftable.ensures.reading) (reads_refused c.in_err-counts.ensures.reading) })

pub returns-in_err-names_of_l1_table : goal.returns-in_err-names_of_l1_table
returns-in_err-names_of_l1_table g c =
    rw (refused_as _ c.from_residual-in_err-names_of_l1_table.ensures.1) (record { tallies = λ _. tt; tables = λ _. tt; fits = tt; refused = λ _. uncounted _ _ _ c.in_err-names_of_l1_table.ensures.causes; reading = reads_then (reads_then (reads_then c.in_ok-l1.ensures.reading c.in_ok-reftable.ensures.reading) c.in_ok-counts.ensures.reading) (reads_refused c.in_err-names_of_l1_table.ensures.reading) })

pub returns-clause-reading : goal.returns-clause-reading
returns-clause-reading g c = reads_then (reads_then (reads_then c.in_ok-l1.ensures.reading c.in_ok-reftable.ensures.reading) c.in_ok-counts.ensures.reading) (reads_another _ _ c.in_ok-names_of_l1_table.ensures.reading)

pub returns-clause-fits : goal.returns-clause-fits
returns-clause-fits g c = c.in_ok-reftable.ensures.fits

pub load-requires : goal.load-requires
load-requires g c = record {
  bits = c.requires.in_range.cluster_bits;
  order = c.requires.in_range.refcount_order;
  whole = c.as_mut_slice.ensures.len ∙ c.in_ok-buf.ensures.len ∙ one_shl c.args.header.now.cluster_bits 64 (omega arith);
  few = omega (arith, ap length c.deref-3.ensures.value, c.in_ok-reftable.ensures.length, c.requires.within_limits.few_reftable_entries);
  long = ap length c.deref-3.ensures.value ∙ c.in_ok-reftable.ensures.length;
}

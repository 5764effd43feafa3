use Rattle.qcow2_alloc.proofs.Lemmas.{table_loaded, handed_on, not_first, placed_above, fails_by, fails_loaded, fails_ok}
use Rattle.std.proofs.Common.{◌≡◌, ◌+◌, ◌*◌, ◌<◌, ◌≤◌, ◌^◌, inl, inr, ℕ, Ok, Result, Some, sym, ap, ◌∙◌, subst, refl, arith, rules}
use Rattle.qcow2_alloc.proofs.Common.{MatchResult, bytes_at, byte_at, SomeUnread, EntryTableView, entry_count, entry_at, reftable_entry, ReftableEntryReads, reftable_entries, cluster_size, entries_per_cluster, reftable_entries-loaded, Allocator, ImageError, of_metadata, contents_in, view_in, HasUnreadEntry, IsReasonAgainst, IsReasonAgainstReftable, ReftableReads}
use Rattle.qcow2_alloc.proofs.LoadedTables.{entries_read, fits_so, not_loaded}
use Rattle.qcow2_alloc.specs.declared.error.ImageError.TheVariants as I
use Rattle.qcow2_alloc.proofs.allocation.Allocator.new.Goals as goal

pub returns-clause-why : goal.returns-clause-why
returns-clause-why g c = λ honest.
    let h = c.args.file.now.header.fields in
    let b = contents_in g.S.Storage.view c.args.file.now in
    let n = c.reftable_entries-entries.result in
    let entries : c.reftable_entries-entries.result ≡ reftable_entries h = c.reftable_entries-entries.ensures.value in
    let few = c.reftable_entries-entries.ensures.limit in
    let at : c.in-Some.cluster * 2 ^ h.cluster_bits ≡ h.reftable_offset = ap (λ n. c.in-Some.cluster * 2 ^ n) (sym c.cluster_bits-bits.ensures.value) ∙ c.in-Some.ensures.cluster ∙ c.reftable_offset.ensures in
    let t = c.in_ok-reftable.reftable in
    record {
      fits = subst (λ m. h.reftable_offset + 8 * m < 2 ^ 64) entries (fits_so 1048576 h.cluster_bits (8 * n) c.in-Some.cluster h.reftable_offset n at few (Ok t) c.in_ok-reftable.ensures.limit (λ e. absurd (cc e)));
      each = entries_read (reftable_entries h) t.bytes (reftable_entry h b) ReftableEntryReads c.in_ok-reftable.ensures.is_table.reads (c.in_ok-reftable.ensures.of_image honest (sym at, sym entries));
    }

pub returns-in_err-reftable-clause-why : goal.returns-in_err-reftable-clause-why
returns-in_err-reftable-clause-why g c = λ honest.
    let h = c.args.file.now.header.fields in
    let contents = (view_in g.S.Storage.view c.args.file.now).contents in
    let b = byte_at contents in
    let n = c.reftable_entries-entries.result in
    let entries : c.reftable_entries-entries.result ≡ reftable_entries h = c.reftable_entries-entries.ensures.value in
    let at : c.in-Some.cluster * 2 ^ h.cluster_bits ≡ h.reftable_offset = ap (λ n. c.in-Some.cluster * 2 ^ n) (sym c.cluster_bits-bits.ensures.value) ∙ c.in-Some.ensures.cluster ∙ c.reftable_offset.ensures in
    let e = c.in_err-reftable.field-0.0 in
    let is = subst (λ m. (i : ℕ) → entry_at (bytes_at contents h.reftable_offset (8 * m)) i ≡ reftable_entry h b i) (sym entries) (reftable_entries-loaded h contents _ refl) in
    let There : Type 0 = (view_in g.S.Storage.view c.args.file.now).is_honest → SomeUnread ReftableEntryReads (bytes_at contents (c.in-Some.cluster * cluster_size h) (8 * n)) in
    let why = not_loaded 1048576 h.cluster_bits (8 * n) c.in-Some.cluster h.reftable_offset n at c.reftable_entries-entries.ensures.limit h contents (reftable_entry h b) ReftableEntryReads is There
    (λ some. subst (λ p. SomeUnread ReftableEntryReads (bytes_at contents p (8 * n))) at (some honest)) (2 ^ 64 ≤ h.reftable_offset + 8 * n) ((h.reftable_offset + 8 * n < 2 ^ 64) × HasUnreadEntry n (λ k. ReftableEntryReads (reftable_entry h b k))) (λ past. past) (λ fits unread. (fits, unread)) e c.in_err-reftable.ensures.limit c.in_err-reftable.ensures.err in
    handed_on (λ (r : Result Allocator ImageError). MatchResult r (λ a. ReftableReads h b) (IsReasonAgainstReftable h b)) c.from_residual.result (of_metadata e) c.from_residual.ensures
    (subst (λ m. IsReasonAgainst h h.reftable_offset (2 ^ 64 ≤ h.reftable_offset + 8 * m) ((h.reftable_offset + 8 * m < 2 ^ 64) × HasUnreadEntry m (λ k. ReftableEntryReads (reftable_entry h b k))) (of_metadata e)) entries why)

pub returns-in_default-clause-fails : goal.returns-in_default-clause-fails
returns-in_default-clause-fails g c = fails_by I.UnalignedTable (λ bad. absurd cc) refl (inr tt)

pub returns-in_err-reftable-clause-fails : goal.returns-in_err-reftable-clause-fails
returns-in_err-reftable-clause-fails g c = fails_loaded _ _ EntryTableView c.from_residual.result c.in_err-reftable.field-0.0 c.from_residual.ensures c.in_err-reftable.ensures.err c.in_err-reftable.ensures.calls.cause

pub returns-clause-fails : goal.returns-clause-fails
returns-clause-fails g c = fails_ok c.in_ok-reftable.ensures.calls.cause.told

pub returns-in_default-clause-step : goal.returns-in_default-clause-step
returns-in_default-clause-step g c = record { rest = refl; honest = search rules; same = search rules; time = search rules }

pub returns-in_err-reftable-clause-step : goal.returns-in_err-reftable-clause-step
returns-in_err-reftable-clause-step g c = record { rest = refl; honest = c.in_err-reftable.ensures.calls.honest; same = c.load_reftable.ensures.same; time = c.in_err-reftable.ensures.calls.time }

pub returns-clause-step : goal.returns-clause-step
returns-clause-step g c = record { rest = refl; honest = c.in_ok-reftable.ensures.calls.honest; same = c.load_reftable.ensures.same; time = c.in_ok-reftable.ensures.calls.time }

pub returns-clause-begins : goal.returns-clause-begins
returns-clause-begins g c = record {
  first = refl;
  passed = λ k passed. elim passed [ inl below ↦ absurd (omega (arith, below)) | inr (inl spared) ↦ c.new.ensures k spared | inr (inr covered) ↦ c.new-2.ensures k covered.0 ];
  leaks = refl;
  reftable = λ honest.
      table_loaded g.S.Storage.view c.args.file.now c.load_reftable.new.self c.in_ok-reftable.reftable c.in-Some.cluster c.cluster_bits-bits.result c.reftable_entries-entries.result c.reftable_offset.result
      c.in_ok-reftable.ensures.table c.in_ok-reftable.ensures.length c.cluster_bits-bits.ensures.value c.in-Some.ensures.cluster c.reftable_offset.ensures c.reftable_entries-entries.ensures.value
      (c.in_ok-reftable.ensures.of_image honest) (c.load_reftable.ensures.same honest);
  header_cluster = λ named are.
      let h = c.args.file.now.header.fields in
      let at : c.in-Some.cluster * 2 ^ c.cluster_bits-bits.result ≡ h.reftable_offset = c.in-Some.ensures.cluster ∙ c.reftable_offset.ensures in
      let above : 0 < entry_count c.in_ok-reftable.reftable → 0 < c.in-Some.cluster = λ has. elim named [
        | inl none ↦
            let entries : c.reftable_entries-entries.result ≡ reftable_entries h = c.reftable_entries-entries.ensures.value in
            let empty : reftable_entries h ≡ 0 * entries_per_cluster h = ap (λ n. n * entries_per_cluster h) none in
            let long = c.in_ok-reftable.ensures.length in
            absurd (omega (arith, has, long, entries, empty))
        | inr some ↦ not_first c.in-Some.cluster (2 ^ c.cluster_bits-bits.result) h.reftable_offset some at
      ] in
      record {
        header = refl;
        caches = are;
        reftable_bits = ap (λ (x : EntryTableView). x.cluster_bits) c.in_ok-reftable.ensures.table;
        elsewhere = λ has is. placed_above (Some c.in-Some.cluster) (above has) (sym (ap (λ (x : EntryTableView). x.cluster) c.in_ok-reftable.ensures.table) ∙ is);
      };
}

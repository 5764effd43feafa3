use Rattle.std.proofs.Common.{◌≡◌, ◌*◌, ◌<◌, ◌^◌, ℕ, Result, refl, sym, ap, ◌∙◌, subst, arith, inl, inr}
use Rattle.qcow2_image.proofs.Common.{MatchResult, bytes_at, byte_at, SomeUnread, entry_at, l1_entry, L1EntryReads, cluster_size, ImageError, of_metadata, contents_in, view_in, HasUnreadEntry, IsReasonAgainstL1Table, L1TableReads, handed_on}
use Rattle.qcow2_metadata.proofs.EntryTables.{l1_entries-loaded}
use Rattle.qcow2_alloc.specs.LoadedTables.{IsReasonAgainst}
use Rattle.qcow2_alloc.proofs.LoadedTables.{entries_read, not_loaded}
use Rattle.qcow2_image.proofs.Open.Reading.{none_reads}
use Rattle.qcow2_image.proofs.Open.Opening.{l1_cleared, l1_loaded}
use Rattle.qcow2_image.proofs.Call.BehindHeader.{l1_nowhere, l1_somewhere}
use Rattle.qcow2_image.proofs.image.Qcow2.load_l1_table.Goals as goal

pub returns-clause-table : goal.returns-clause-table
returns-clause-table g c = λ honest.
    l1_loaded g.S.Storage.view g.F.BackingDisk.backing c.args.file.now c.load_l1_table.new.self c.in_ok-table.table c.in-Some.cluster c.cluster_bits-bits.result c.l1_table_entries-entries.result c.l1_table_offset.result
    c.in_ok-table.ensures.table c.in_ok-table.ensures.whole.0 c.cluster_bits-bits.ensures.value c.in-Some.ensures.cluster c.l1_table_offset.ensures c.l1_table_entries-entries.ensures.value
    (c.in_ok-table.ensures.of_image honest) (c.load_l1_table.ensures.same honest)

pub returns-then-entries-eq0-clause-table : goal.returns-then-entries-eq0-clause-table
returns-then-entries-eq0-clause-table g c = λ honest.
    l1_cleared g.S.Storage.view g.F.BackingDisk.backing c.args.file.now c.in_ok-new_cleared.field-0 (sym c.l1_table_entries-entries.ensures.value ∙ c.if-entries-eq0.true) c.in_ok-new_cleared.ensures.table c.in_ok-new_cleared.ensures.zeros

pub returns-clause-why : goal.returns-clause-why
returns-clause-why g c = λ honest.
    let h = c.args.file.now.header.fields in
    let b = contents_in g.S.Storage.view c.args.file.now in
    let n = c.l1_table_entries-entries.result in
    let entries : n ≡ h.l1_entries = c.l1_table_entries-entries.ensures.value in
    let at : c.in-Some.cluster * 2 ^ h.cluster_bits ≡ h.l1_offset = ap (λ n. c.in-Some.cluster * 2 ^ n) (sym c.cluster_bits-bits.ensures.value) ∙ c.in-Some.ensures.cluster ∙ c.l1_table_offset.ensures in
    entries_read h.l1_entries c.in_ok-table.table.bytes (l1_entry h b) L1EntryReads c.in_ok-table.ensures.whole.1.reads (c.in_ok-table.ensures.of_image honest (sym at, sym entries))

pub returns-in_err-table-clause-why : goal.returns-in_err-table-clause-why
returns-in_err-table-clause-why g c = λ honest.
    let h = c.args.file.now.header.fields in
    let contents = (view_in g.S.Storage.view c.args.file.now).contents in
    let b = byte_at contents in
    let n = c.l1_table_entries-entries.result in
    let entries : n ≡ h.l1_entries = c.l1_table_entries-entries.ensures.value in
    let at : c.in-Some.cluster * 2 ^ h.cluster_bits ≡ h.l1_offset = ap (λ n. c.in-Some.cluster * 2 ^ n) (sym c.cluster_bits-bits.ensures.value) ∙ c.in-Some.ensures.cluster ∙ c.l1_table_offset.ensures in
    let e = c.in_err-table.field-0.0 in
    let is = subst (λ m. (i : ℕ) → entry_at (bytes_at contents h.l1_offset (8 * m)) i ≡ l1_entry h b i) (sym entries) (l1_entries-loaded h contents _ refl) in
    let There : Type 0 = (view_in g.S.Storage.view c.args.file.now).is_honest → SomeUnread L1EntryReads (bytes_at contents (c.in-Some.cluster * cluster_size h) (8 * n)) in
    let near : h.l1_offset < 2 ^ 64 = omega (arith, c.l1_table_offset.ensures) in
    let why = not_loaded 4194304 h.cluster_bits 0 c.in-Some.cluster h.l1_offset n at c.l1_table_entries-entries.ensures.limit h contents (l1_entry h b) L1EntryReads is There
    (λ some. subst (λ p. SomeUnread L1EntryReads (bytes_at contents p (8 * n))) at (some honest)) ⊥ (HasUnreadEntry n (λ i. L1EntryReads (l1_entry h b i))) (λ past. omega (arith, past, near)) (λ fits unread. unread) e c.in_err-table.ensures.limit c.in_err-table.ensures.err in
    handed_on (λ (r : Result _ ImageError). MatchResult r (λ t. L1TableReads h b) (IsReasonAgainstL1Table h b)) c.from_residual-in_err-table.result (of_metadata e) c.from_residual-in_err-table.ensures
    (subst (λ m. IsReasonAgainst h h.l1_offset ⊥ (HasUnreadEntry m (λ i. L1EntryReads (l1_entry h b i))) (of_metadata e)) entries why)

pub returns-then-entries-eq0-clause-why : goal.returns-then-entries-eq0-clause-why
returns-then-entries-eq0-clause-why g c = λ honest. none_reads c.args.file.now.header.fields (contents_in g.S.Storage.view c.args.file.now) (sym c.l1_table_entries-entries.ensures.value ∙ c.if-entries-eq0.true)

pub returns-then-entries-eq0-clause-header_cluster : goal.returns-then-entries-eq0-clause-header_cluster
returns-then-entries-eq0-clause-header_cluster g c = λ names. l1_nowhere c.args.file.now.header.fields c.in_ok-new_cleared.field-0 _ c.in_ok-new_cleared.ensures.table

pub returns-clause-header_cluster : goal.returns-clause-header_cluster
returns-clause-header_cluster g c = λ names.
    let h = c.args.file.now.header.fields in
    let entries : c.l1_table_entries-entries.result ≡ h.l1_entries = c.l1_table_entries-entries.ensures.value in
    let at : c.in-Some.cluster * 2 ^ h.cluster_bits ≡ h.l1_offset = ap (λ n. c.in-Some.cluster * 2 ^ n) (sym c.cluster_bits-bits.ensures.value) ∙ c.in-Some.ensures.cluster ∙ c.l1_table_offset.ensures in
    l1_somewhere h c.in_ok-table.table c.in-Some.cluster _ c.in_ok-table.ensures.table at (elim names.l1_table [ inl none ↦ absurd (c.if-entries-eq0.false (entries ∙ none)) | inr some ↦ some ])

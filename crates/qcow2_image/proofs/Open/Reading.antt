-- An image opens if its contents are readable, and otherwise is refused for that.
use Rattle.std.proofs.Common.{◌≡◌, ℕ, Bool, true, false, List, Result, subst, inl, inr, arith}
use Rattle.qcow2_image.proofs.Common.{StorageView, StorageError, Bytes, byte_at, HeaderView, header, HeaderFields, HasAlignedTables, IsHeaderIn, IsReasonToRefuse, OnlyReads, MetadataError, ImageError, of_metadata, of_storage, contents_in, view_in, ImageFile, IsReasonAgainstReftable, L1TableReads, needs_missing, HeaderSuits, IsReadable, IsReasonAgainstTables, IsJustifiedRefusal, NeededTablesRead, Missing}
use Rattle.image_access.specs.declared.error.StorageError.TheVariants as S
use Rattle.qcow2_metadata.specs.declared.error.MetadataError.TheVariants as M
use Rattle.qcow2_alloc.specs.declared.error.ImageError.TheVariants as I
use Rattle.qcow2_image.proofs.Open.SameHeaders.{not_needed}

-- an L1 table without entries
pub none_reads : (h : HeaderFields) (b : Bytes) → h.l1_entries ≡ 0 → L1TableReads h b
none_reads h b none = λ i lt. absurd (omega (arith, lt, none))

-- a header that isn't loaded
pub header_refused : (contents : List ℕ) (writable : Bool) (missing : Missing) (e : MetadataError) → IsReasonToRefuse (header (byte_at contents)) (byte_at contents) writable e → IsJustifiedRefusal contents writable missing (of_metadata e)
header_refused contents writable missing (M.Storage S.Fault) why = tt
header_refused contents writable missing (M.Storage S.Memory) why = tt
header_refused contents writable missing M.Memory why = tt
header_refused contents writable missing M.Version why = absurd why
header_refused contents writable missing M.Unaligned why = why
header_refused contents writable missing M.Limit why = inl why
header_refused contents writable missing M.Format why = inl why

-- tables that aren't
tables_refused : (contents : List ℕ) (writable : Bool) (missing : Missing) (e : ImageError) → HeaderSuits contents writable missing → IsReasonAgainstTables (header (byte_at contents)) (byte_at contents) writable e → IsJustifiedRefusal contents writable missing e
tables_refused contents writable missing I.Metadata suits why = inr (suits, why)
tables_refused contents writable missing I.Limit suits why = inr (suits, why)
tables_refused contents writable missing I.UnalignedTable suits why = elim why [ inl off ↦ absurd (off suits.on_clusters.l1_table) | inr off ↦ absurd (off.2 (suits.on_clusters.reftable off.0)) ]
tables_refused contents writable missing I.Memory suits why = tt
tables_refused contents writable missing I.Storage suits why = tt
tables_refused contents writable missing e suits why = elim why [ inl none ↦ absurd none | inr none ↦ absurd none.2 ]

-- ---- a storage whose header was loaded
module _ {S T : Type 0} (view : S → StorageView) (old mid last : S) (same : mid ≡ old) (writable : Bool) (missing : Missing) (result : Result T MetadataError) (read : OnlyReads (view mid) (view last) result) (v : HeaderView)
    (there : (view mid).is_honest → IsHeaderIn v (view mid).contents) (aligned : HasAlignedTables v.fields writable) where
  pub needs_so : needs_missing missing v ≡ true → (view old).is_honest → IsJustifiedRefusal (view old).contents writable missing I.Dependency
  needs_so needs = subst (λ s. (view s).is_honest → IsJustifiedRefusal (view s).contents writable missing I.Dependency) same (λ honest. let is = there honest in
      (subst (λ h. HasAlignedTables h writable) is.fields aligned, record { header = v; stands = is; needs = needs }))

  suits_so : needs_missing missing v ≡ false → (view mid).is_honest → HeaderSuits (view mid).contents writable missing
  suits_so none honest = let is = there honest in record {
    reads = is.reads;
    on_clusters = subst (λ h. HasAlignedTables h writable) is.fields aligned;
    needs_none = not_needed missing v (view mid).contents is none;
  }

  pub opened_rightly : needs_missing missing v ≡ false → ((view last).is_honest → NeededTablesRead v.fields (byte_at (view last).contents) writable) → (view old).is_honest → IsReadable (view old).contents writable missing
  opened_rightly none reads = subst (λ s. (view s).is_honest → IsReadable (view s).contents writable missing) same (λ honest. record {
    by_header = suits_so none honest;
    tables = subst (λ (c : List ℕ). NeededTablesRead (header (byte_at (view mid).contents)) (byte_at c) writable) (read.same honest)
        (subst (λ h. NeededTablesRead h (byte_at (view last).contents) writable) (there honest).fields (reads (read.honest honest)));
  })

  pub refused_rightly : (e : ImageError) → needs_missing missing v ≡ false → ((view last).is_honest → IsReasonAgainstTables v.fields (byte_at (view last).contents) writable e) → (view old).is_honest → IsJustifiedRefusal (view old).contents writable missing e
  refused_rightly e none why = subst (λ s. (view s).is_honest → IsJustifiedRefusal (view s).contents writable missing e) same (λ honest. tables_refused (view mid).contents writable missing e (suits_so none honest)
      (subst (λ (c : List ℕ). IsReasonAgainstTables (header (byte_at (view mid).contents)) (byte_at c) writable e) (read.same honest)
      (subst (λ h. IsReasonAgainstTables h (byte_at (view last).contents) writable e) (there honest).fields (why (read.honest honest)))))

-- ---- tables after the header

-- a fault as the autoclear bits are cleared
pub against_storage : (h : HeaderFields) (b : Bytes) (e : StorageError) → IsReasonAgainstReftable h b (of_storage e)
against_storage h b S.Fault = tt
against_storage h b S.Memory = tt

-- what holds of a file that was read held before
pub so_before : {S : Type 0} (view : S → StorageView) (P : HeaderFields → Bytes → Type 0) (old mid : ImageFile S) → mid ≡ record old { storage = mid.storage } → (view_in view mid).contents ≡ (view_in view old).contents
    → P mid.header.fields (contents_in view mid) → P old.header.fields (contents_in view old)
so_before {S} view P old mid rest same holds = subst (λ (c : List ℕ). P old.header.fields (byte_at c)) same (subst (λ (f : ImageFile S). P f.header.fields (contents_in view mid)) rest holds)

-- Reading the tables of a sound image again is refused only for a fault.
use Rattle.std.proofs.Common.{◌*◌, ◌<◌, Bool, inl, inr, refl, sym, subst, arith}
use Rattle.qcow2_image.proofs.Common.{Bytes, header, entries_per_cluster, HeaderReads, HasAlignedTables, IsReasonToRefuse, MetadataError, HeaderFields, IsTop, IsFault, of_metadata, IsReasonAgainstL1Table, IsReasonAgainstReftable, ImageError, IsReasonAgainstPlaces}
use Rattle.image_access.specs.declared.error.StorageError.TheVariants as S
use Rattle.qcow2_metadata.specs.declared.error.MetadataError.TheVariants as M
use Rattle.qcow2_alloc.specs.declared.error.ImageError.TheVariants as I

module _ (h : HeaderFields) (b : Bytes) (top : IsTop h b) where
  pub l1_fault : (e : ImageError) → IsReasonAgainstL1Table h b e → IsFault e
  l1_fault I.Metadata why = absurd (why.unread (top.l1_reads why.index why.within))
  l1_fault I.UnalignedTable why = absurd (why top.l1_aligned)
  l1_fault I.Memory why = inr refl
  l1_fault I.Storage why = inl refl
  l1_fault e why = absurd why

  pub reftable_fault : (e : ImageError) → IsReasonAgainstReftable h b e → IsFault e
  reftable_fault I.Metadata why = absurd (why.1.unread (top.reftable_reads why.1.index why.1.within))
  reftable_fault I.Limit why = let fits = top.reftable_fits in absurd (omega (arith, fits, why))
  reftable_fault I.UnalignedTable why = absurd (why top.reftable_aligned)
  reftable_fault I.Memory why = inr refl
  reftable_fault I.Storage why = inl refl
  reftable_fault e why = absurd why

  reads : HeaderReads (header b) b
  reads = subst (λ k. HeaderReads k b) (sym top.header_is) top.header_reads

  on_clusters : (writable : Bool) → HasAlignedTables (header b) writable
  on_clusters writable = subst (λ k. HasAlignedTables k writable) (sym top.header_is) (record { l1_table = top.l1_aligned; reftable = λ _. top.reftable_aligned })

  pub places_fault : (writable : Bool) (e : ImageError) → IsReasonAgainstPlaces h b writable e → IsFault e
  places_fault writable I.Metadata why = absurd (why reads.well_formed)
  places_fault writable I.Limit why = elim why [
    | inl beyond ↦ absurd (beyond.1 reads.within_limits)
    | inr many ↦
        let few = top.header_reads.within_limits.few_reftable_entries in
        let more : 1048576 < h.reftable_clusters * entries_per_cluster h = subst (λ (k : HeaderFields). 1048576 < k.reftable_clusters * entries_per_cluster h) top.header_is many in
        absurd (omega (arith, few, more))
  ]
  places_fault writable I.UnalignedTable why = absurd (why.1 (on_clusters writable))
  places_fault writable I.Memory why = inr refl
  places_fault writable I.Storage why = inl refl
  places_fault writable e why = absurd why

-- a header that isn't loaded
pub header_against : (h : HeaderFields) (b : Bytes) (writable : Bool) (e : MetadataError) → IsReasonToRefuse (header b) b writable e → IsReasonAgainstPlaces h b writable (of_metadata e)
header_against h b writable (M.Storage S.Fault) why = tt
header_against h b writable (M.Storage S.Memory) why = tt
header_against h b writable M.Memory why = tt
header_against h b writable M.Version why = absurd why
header_against h b writable M.Unaligned why = why
header_against h b writable M.Limit why = inl why
header_against h b writable M.Format why = why

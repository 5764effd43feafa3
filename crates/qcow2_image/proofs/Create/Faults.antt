-- Creating is refused only for a limit or a fault.
use Rattle.std.proofs.Common.{◌≡◌, ◌⊎◌, ◌<◌, ◌≤◌, inl, inr, ℕ, true, false, List, [], Result, Ok, Err, refl, sym, ap, ◌∙◌, subst, arith, IfErr, IsTrue, is_some}
use Rattle.qcow2_image.proofs.Common.{cases_lt, BackingView, StorageView, PreallocateMode, Bytes, byte_at, IsConsistent, cover, header, HasAlignedTables, MetadataError, HeaderFields, L2Mapping, Uncovered, IsOpened, IsCompressed, IsFault, of_metadata, known_in, view_in, ImageError, HasPinnedMapping, IsUnmapped, IsUnwritten, SameFormat, size_of, abstract_of, MayFailGrowing, IsJustifiedRefusal, IsTableRefused, IsFaultOrLimit, takes_over, Qcow2, IfErr-weaker, in_image}
use Rattle.image_access.specs.declared.storage.PreallocateMode.TheVariants as Mode
use Rattle.qcow2_metadata.specs.declared.error.MetadataError.TheVariants as M
use Rattle.qcow2_alloc.specs.declared.error.ImageError.TheVariants as I
use Rattle.qcow2_image.specs.declared.image.Missing.TheVariants as N
use Rattle.qcow2_image.proofs.Create.NewDisks.{unwritten_uncovered}

-- want of memory
pub memory_fault : (e : MetadataError) → e ≡ M.Memory → IsFault (of_metadata e)
memory_fault e is = inr (ap (λ (x : MetadataError). of_metadata x) is)

-- ---- a consistent image is opened for writing, and no other file is asked for
module _ (contents : List ℕ) (consistent : IsConsistent (byte_at contents)) where
  on_clusters : HasAlignedTables (header (byte_at contents)) true
  on_clusters = record { l1_table = consistent.l1_aligned; reftable = λ writable. consistent.reftable_aligned }

  -- its tables read
  no_unread : IsTableRefused contents true N.Nothing I.Metadata → ⊥
  no_unread refused = elim refused.1 [
    | inl l1_table ↦ l1_table.unread (consistent.l1_reads l1_table.index l1_table.within)
    | inr reftable ↦ let entry = reftable.2.1 in entry.unread (consistent.reftable_reads entry.index entry.within)
  ]

  pub opening_fault : (e : ImageError) → IsJustifiedRefusal contents true N.Nothing e → IsFaultOrLimit e
  opening_fault I.Metadata why = absurd (elim why [ inl ill ↦ ill consistent.header_reads.well_formed | inr refused ↦ no_unread refused ])
  opening_fault I.Limit why = inr refl
  opening_fault I.UnalignedTable why = absurd (why.1 on_clusters)
  opening_fault I.Memory why = inl (inr refl)
  opening_fault I.Storage why = inl (inl refl)
  opening_fault I.Dependency why = absurd (let bad : false ≡ true = why.1.needs in cc)
  opening_fault e why = absurd why

-- ---- a larger disk

-- no mode allocates clusters over a disk below that isn't there
takes_none : {S F : Type 0} (image : Qcow2 S F) (mode : PreallocateMode) → is_some image.backing ≡ false → IsTrue (takes_over image mode) → ⊥
takes_none image Mode.None alone takes = absurd (let bad : false ≡ true = takes in cc)
takes_none image Mode.Zero alone takes = absurd (let bad : false ≡ true = takes in cc)
takes_none image _ alone takes = absurd (let bad : false ≡ true = sym alone ∙ takes in cc)

pub none_prepared : HasPinnedMapping (in_image []) → ⊥
none_prepared some = absurd (let none = some.there in cc)

module _ {S F : Type 0} (view : S → StorageView) (old : Qcow2 S F) (unmapped : IsUnmapped view old) where
  filling_fault : (mode : PreallocateMode) (from to : ℕ) (e : ImageError) → MayFailGrowing (in_image []) mode from to old.file.header.fields (known_in view old.file) e → IsFaultOrLimit e
  filling_fault mode from to e may_fail = elim may_fail [
    | inl taking ↦ elim taking [
      | inl alone ↦ elim alone [
        | inl plain ↦ plain
        | inr other ↦ elim other [ inl compressed ↦ absurd (subst (λ (v : L2Mapping). IsCompressed v) (unmapped.covers compressed.1.guest) compressed.1.is) | inr far ↦ absurd far.1 ]
      ]
      | inr other ↦ elim other [ inl held ↦ absurd (none_prepared held.1) | inr kept ↦ absurd (none_prepared kept.1) ]
    ]
    | inr version ↦ absurd (let third = unmapped.version in let below = version.1.1 in omega (arith, third, below))
  ]

  pub grown_refused : (new : Qcow2 S F) (size to : ℕ) (mode : PreallocateMode) (r : Result (Unit {0}) ImageError) → (size ≤ size_of old → (r ≡ Ok tt) × (new ≡ old))
      → (size_of old < size → IfErr r (λ e. MayFailGrowing (in_image []) mode (size_of old) to old.file.header.fields (known_in view old.file) e ⊎ ((e ≡ I.Preallocation) × IsTrue (takes_over old mode))))
      → IfErr r (λ e. IsFaultOrLimit e ⊎ ((e ≡ I.Preallocation) × IsTrue (takes_over old mode)))
  grown_refused new size to mode (Ok x) no_larger may_fail = tt
  grown_refused new size to mode (Err e) no_larger may_fail = elim (cases_lt (size_of old) size) [
    | inr le ↦ absurd (let bad = (no_larger le).0 in cc)
    | inl lt ↦ elim (may_fail lt) [ inl filling ↦ inl (filling_fault mode (size_of old) to e filling) | inr over ↦ inr over ]
  ]

  pub grown_fault : (new : Qcow2 S F) (size to : ℕ) (mode : PreallocateMode) (r : Result (Unit {0}) ImageError) → is_some old.backing ≡ false → (size ≤ size_of old → (r ≡ Ok tt) × (new ≡ old))
      → (size_of old < size → IfErr r (λ e. MayFailGrowing (in_image []) mode (size_of old) to old.file.header.fields (known_in view old.file) e ⊎ ((e ≡ I.Preallocation) × IsTrue (takes_over old mode)))) → IfErr r IsFaultOrLimit
  grown_fault new size to mode r alone no_larger may_fail = IfErr-weaker r _ _ (λ e why. elim why [ inl fault ↦ fault | inr over ↦ absurd (takes_none old mode alone over.1) ]) (grown_refused new size to mode r no_larger may_fail)

-- an unwritten image of version 3 was opened
pub unmapped_opened : {S F : Type 0} (view : S → StorageView) (backing : F → BackingView) (image : Qcow2 S F) (h : HeaderFields) (n : ℕ) → IsOpened (abstract_of view backing image (in_image [])) → IsUnwritten n (byte_at (view_in view image.file).contents)
    → h.version ≡ 3 → SameFormat h image.file.header.fields → IsUnmapped view image
unmapped_opened view backing image h n opened unwritten third format =
    let b = byte_at (view_in view image.file).contents in
    let header_is = opened.sound.file.caches.kept.kept.crash_invariant.top.header_is in
    record {
      version = (let is : image.file.header.fields.version ≡ 3 = ap (λ (k : HeaderFields). k.version) format ∙ third in omega (arith, is));
      covers = λ g. subst (λ (k : HeaderFields). cover k (known_in view image.file) g ≡ Uncovered) header_is (subst (λ (k : Bytes). cover (header b) k g ≡ Uncovered) (sym opened.clean) (unwritten_uncovered n b unwritten g));
    }

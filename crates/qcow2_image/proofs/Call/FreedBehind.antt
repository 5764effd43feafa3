-- A part is refused, and clusters are freed after the refusal.
use Rattle.std.proofs.Common.{◌≡◌, ℕ, inl, inr, List, sym, subst, Option}
use Rattle.qcow2_image.proofs.Common.{BackingView, StorageView, HeaderView, IsFault, ImageError, RefusedCall, Qcow2, Prepared, l1_index_of, ImageInvariant, pending_in, IsFaultOrLacksTable, MayName, FreesRefused, Mappings}
use Rattle.qcow2_image.proofs.Prepare.UnlinkedL2Table.{may_still}

module _ {S F : Type 0} (view : S → StorageView) (backing : F → BackingView) (out : Mappings) (old mid new : Qcow2 S F) (e e' : ImageError)
    (back : RefusedCall view backing old mid out e) (fault : IsFault e → (e' ≡ e) × (new ≡ mid)) where
  -- nothing is left to be freed then
  pub refused_freed : (ImageInvariant view backing (pending_in view backing mid out) mid out → FreesRefused new e') → FreesRefused new e'
  refused_freed empties = elim back [
    | inl unseen ↦ empties unseen.sound
    | inr interruption ↦ inl (subst IsFault (sym (fault interruption.fault).0) interruption.fault)
  ]

  -- what lacked an L2 table lacks it still
  pub lacking_freed : (offset : ℕ) → new.l1_table ≡ mid.l1_table → new.file.header ≡ mid.file.header → (ImageInvariant view backing (pending_in view backing mid out) mid out → RefusedCall view backing mid new out e')
      → IsFaultOrLacksTable view mid offset e → IsFaultOrLacksTable view new offset e'
  lacking_freed offset table header frees (inl is) = inl (subst IsFault (sym (fault is).0) is)
  lacking_freed offset table header frees (inr lacks) = elim back [
    | inl unseen ↦ elim (frees unseen.sound) [
      | inl still ↦ inr (subst (λ (h : HeaderView). MayName view new (l1_index_of h.fields offset)) (sym header)
          (may_still view backing out (pending_in view backing mid out) (pending_in view backing new out) mid new unseen.sound still.sound table (l1_index_of mid.file.header.fields offset) lacks))
      | inr interruption ↦ inl interruption.fault
    ]
    | inr interruption ↦ inl (subst IsFault (sym (fault interruption.fault).0) interruption.fault)
  ]

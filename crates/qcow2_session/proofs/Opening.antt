-- Why a consistent image isn't opened: breaches that a consistent image doesn't have are no reason. What a stop leaves is consistent, so it opens again.
use Rattle.std.proofs.Common.{◌≡◌, ⊎_elim, ℕ, true, List, [], None, inl, inr, sym, subst, arith}
use Rattle.qcow2_session.proofs.Common.{StorageView, Bytes, byte_at, disk, shown_below, Checkpoint, checkpoint_at, IsSafeAfter, StopOkEverywhere, ImageError, Missing, nothing_given, IsKeptSince, MayRefuseToOpen, OpensAgain}
use Rattle.image_access.proofs.EachMomentSince.{since_start}
use Rattle.qcow2_metadata.specs.Consistent.{IsConsistent}
use Rattle.qcow2_disk.proofs.Headline.{at_once}
use Rattle.qcow2_alloc.specs.declared.error.ImageError.TheVariants as I
use Rattle.qcow2_image.specs.Readable.{IsJustifiedRefusal}

pub refused_consistent : (contents : List ℕ) (missing : Missing) (e : ImageError) → IsConsistent (byte_at contents) → IsJustifiedRefusal contents true missing e → MayRefuseToOpen contents missing e
refused_consistent contents missing I.Metadata is why = elim why [
  | inl formless ↦ absurd (formless is.header_reads.well_formed)
  | inr table ↦ elim table.1 [
    | inl l1 ↦ absurd (l1.unread (is.l1_reads l1.index l1.within))
    | inr reftable ↦ absurd (reftable.2.1.unread (is.reftable_reads reftable.2.1.index reftable.2.1.within))
  ]
]
refused_consistent contents missing I.Limit is why = elim why [
  | inl past ↦ absurd (past.1 is.header_reads.within_limits)
  | inr table ↦ elim table.1 [
    | inl none ↦ absurd none
    | inr reftable ↦ let beyond = reftable.2 in let fits = is.reftable_fits in absurd (omega (arith, beyond, fits))
  ]
]
refused_consistent contents missing I.UnalignedTable is why = absurd (why.1 (record { l1_table = is.l1_aligned; reftable = λ _. is.reftable_aligned }))
refused_consistent contents missing I.Dependency is why = why.1
refused_consistent contents missing I.Memory is why = tt
refused_consistent contents missing I.Storage is why = tt
refused_consistent contents missing I.ReadOnly is why = why
refused_consistent contents missing I.BeyondSize is why = why
refused_consistent contents missing I.Version is why = why
refused_consistent contents missing I.InvalidOption is why = why
refused_consistent contents missing I.Preallocation is why = why
refused_consistent contents missing I.Compressed is why = why
refused_consistent contents missing I.InUse is why = why
refused_consistent contents missing I.TablePrepared is why = why
refused_consistent contents missing I.OutdatedMapping is why = why
refused_consistent contents missing I.ForeignState is why = why
refused_consistent contents missing I.Failed is why = why
refused_consistent contents missing I.MappingPrepared is why = why
refused_consistent contents missing (I.NotCompressed offset) is why = why
refused_consistent contents missing I.Overflow is why = why
refused_consistent contents missing (I.StillInUse tables) is why = why

pub opens_again : (contents : List ℕ) → IsConsistent (byte_at contents) → OpensAgain contents
opens_again contents is = record { consistent = is; refused = λ missing e why. refused_consistent contents missing e is why }

-- an image that is kept is consistent at each moment since
pub kept_opens_again : (before new : StorageView) → IsConsistent (byte_at before.contents) → ((c : List ℕ) → before.had_since before.moment c → c ≡ before.contents) → IsKeptSince before new
    → (c : List ℕ) → new.had_since before.moment c → OpensAgain c
kept_opens_again before new is only kept c had =
    let below : Bytes = shown_below None in
    let m : Checkpoint = checkpoint_at (disk (byte_at before.contents) below) (byte_at before.contents) in
    let start : StopOkEverywhere below m (byte_at before.contents) = at_once below (byte_at before.contents) is in
    opens_again c (⊎_elim
    (λ (same : c ≡ before.contents). subst (λ (k : List ℕ). IsConsistent (byte_at k)) (sym same) is)
    (λ (safe : IsSafeAfter before (byte_at before.contents) nothing_given [] c). (safe below m start start).consistent)
    (since_start only kept.moments c had))

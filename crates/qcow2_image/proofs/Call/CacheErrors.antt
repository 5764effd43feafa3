-- Refusals of the caches, of lookups and of reads are among the refusals that come during the work of a call.
use Rattle.std.proofs.Common.{◌≡◌, ◌⊎◌, inl, inr, ℕ, sym, subst}
use Rattle.qcow2_image.proofs.Common.{Causes, ImageError, IsFaultOr, IsOfTables, MayFailIf, MayFailFinding, MayFailReadingFound, MayFailTelling, MayFailToRead, Qcow2}
use Rattle.qcow2_alloc.specs.declared.error.ImageError.TheVariants as I
use Rattle.qcow2_image.proofs.Call.FailingErrors.{fault_met}

pub fault_or_tables : (P : Type 0) (e : ImageError) → IsFaultOr P e → IsOfTables e
fault_or_tables P e (inl (inl is)) = subst IsOfTables (sym is) tt
fault_or_tables P e (inl (inr is)) = subst IsOfTables (sym is) tt
fault_or_tables P e (inr limit) = subst IsOfTables (sym limit.0) tt

fault_or_read : (P : Type 0) (e : ImageError) → IsFaultOr P e → MayFailToRead e
fault_or_read P e (inl (inl is)) = subst MayFailToRead (sym is) tt
fault_or_read P e (inl (inr is)) = subst MayFailToRead (sym is) tt
fault_or_read P e (inr limit) = subst MayFailToRead (sym limit.0) tt

in_use_read : (Full P : Type 0) (e : ImageError) → ((e ≡ I.InUse) × Full) ⊎ IsFaultOr P e → MayFailToRead e
in_use_read Full P e (inl used) = subst MayFailToRead (sym used.0) tt
in_use_read Full P e (inr is) = fault_or_read P e is

pub fault_or_met : (causes : Causes) (P : Type 0) (e : ImageError) → IsFaultOr P e → MayFailIf causes e
fault_or_met causes P e (inl fault) = fault_met causes e fault
fault_or_met causes P e (inr limit) = subst (MayFailIf causes) (sym limit.0) tt

pub in_use_met : (causes : Causes) (Full P : Type 0) (e : ImageError) → ((e ≡ I.InUse) × Full) ⊎ IsFaultOr P e → MayFailIf causes e
in_use_met causes Full P e (inl used) = subst (MayFailIf causes) (sym used.0) tt
in_use_met causes Full P e (inr is) = fault_or_met causes P e is

module _ {S F : Type 0} (old new : Qcow2 S F) (offset n : ℕ) (e : ImageError) where
  pub finding_tables : MayFailFinding old new offset n e → IsOfTables e
  finding_tables (inl unaligned) = subst IsOfTables (sym unaligned.0) tt
  finding_tables (inr (inl used)) = subst IsOfTables (sym used.0) tt
  finding_tables (inr (inr fault)) = fault_or_tables _ e fault

  pub finding_read : MayFailFinding old new offset n e → MayFailToRead e
  finding_read (inl unaligned) = subst MayFailToRead (sym unaligned.0) tt
  finding_read (inr load) = in_use_read _ _ e load

  -- unless the range is mapped differently
  pub found_read : (e ≡ I.OutdatedMapping → ⊥) → MayFailReadingFound old new offset n e → MayFailToRead e
  found_read current (inl (inl finding)) = finding_read finding
  found_read current (inl (inr outdated)) = absurd (current outdated)
  found_read current (inr compressed) = subst MayFailToRead (sym compressed.0) tt

  pub telling_read : MayFailTelling old new offset n e → MayFailToRead e
  telling_read (inl finding) = finding_read finding
  telling_read (inr compressed) = subst MayFailToRead (sym compressed.0) tt

  pub telling_or : (P : Type 0) → MayFailTelling old new offset n e ⊎ P → MayFailToRead e ⊎ P
  telling_or P (inl telling) = inl (telling_read telling)
  telling_or P (inr is) = inr is

-- a refusal for an entry that is not on a cluster
pub unaligned_as : {P : Type 0} (C : ImageError → Type 0) (e : ImageError) → (e ≡ I.UnalignedTable) × P → C I.UnalignedTable → C e
unaligned_as C e is holds = subst C (sym is.0) holds

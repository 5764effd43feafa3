-- Why an import is refused for a limit: which part of it finds no room.
use Rattle.qcow2_session.proofs.Common.{inl, inr, ℕ, List, sym, subst, Option, ImageError, IsUnlimited, Prepared, fault_unlimited, Bytes, HeaderFields, MayFailReadingRange, Mappings}

-- reading passes no limit
pub reading_unlimited : (out : Mappings) (from to : ℕ) (h : HeaderFields) (known : Bytes) (e : ImageError) → MayFailReadingRange out from to h known e → IsUnlimited e
reading_unlimited out from to h known e (inl (inl fault)) = fault_unlimited e fault
reading_unlimited out from to h known e (inl (inr used)) = subst IsUnlimited (sym used.0) tt
reading_unlimited out from to h known e (inr compressed) = subst IsUnlimited (sym compressed.0) tt

-- Why reads of a range are refused, by the lookups and reads of its parts.
use Rattle.std.proofs.Common.{◌≡◌, ◌+◌, ◌≤◌, inl, inr, ℕ, sym, subst, arith}
use Rattle.qcow2_session.proofs.Common.{ImageError, MayFailFinding, MayFailReadingFound, MayFailReadingFrom, MayFailToRead, Qcow2}
use Rattle.qcow2_alloc.specs.declared.error.ImageError.TheVariants as I

module _ {S F : Type 0} where
  -- a refusal of a lookup, and of a read of a mapping
  pub finding_from : (old new : Qcow2 S F) (at n from to : ℕ) (e : ImageError) → from ≤ at → at + n ≤ to → MayFailFinding old new at n e → MayFailReadingFrom new from to e
  finding_from old new at n from to e begins ends (inl unaligned) = inr (inr (inr (inl (unaligned.0, record { at = at; length = n; begins = begins; ends = ends; unaligned = unaligned.1 }))))
  finding_from old new at n from to e begins ends (inr (inl used)) = inr (inr (inl (used.0, used.1.1)))
  finding_from old new at n from to e begins ends (inr (inr (inl fault))) = inl fault
  finding_from old new at n from to e begins ends (inr (inr (inr limit))) = inr (inl limit.0)

  pub found_from : (old new : Qcow2 S F) (at n from to : ℕ) (e : ImageError) → from ≤ at → at + n ≤ to → (e ≡ I.OutdatedMapping → ⊥) → MayFailReadingFound old new at n e → MayFailReadingFrom new from to e
  found_from old new at n from to e begins ends current (inl (inl finding)) = finding_from old new at n from to e begins ends finding
  found_from old new at n from to e begins ends current (inl (inr outdated)) = absurd (current outdated)
  found_from old new at n from to e begins ends current (inr compressed) = inr (inr (inr (inr (compressed.0, record { at = at; begins = begins; ends = omega (arith, ends); compressed = compressed.1 }))))

  -- so it is of a longer range
  pub reading_longer : (image : Qcow2 S F) (from to from' to' : ℕ) (e : ImageError) → from' ≤ from → to ≤ to' → MayFailReadingFrom image from to e → MayFailReadingFrom image from' to' e
  reading_longer image from to from' to' e begins ends (inl fault) = inl fault
  reading_longer image from to from' to' e begins ends (inr (inl other)) = inr (inl other)
  reading_longer image from to from' to' e begins ends (inr (inr (inl used))) = inr (inr (inl used))
  reading_longer image from to from' to' e begins ends (inr (inr (inr (inl unaligned)))) =
      let is = unaligned.1 in
      let b = is.begins in
      let t = is.ends in
      inr (inr (inr (inl (unaligned.0, record { at = is.at; length = is.length; begins = omega (arith, begins, b); ends = omega (arith, ends, t); unaligned = is.unaligned }))))
  reading_longer image from to from' to' e begins ends (inr (inr (inr (inr compressed)))) =
      let is = compressed.1 in
      let b = is.begins in
      let t = is.ends in
      inr (inr (inr (inr (compressed.0, record { at = is.at; begins = omega (arith, begins, b); ends = omega (arith, ends, t); compressed = is.compressed }))))

  pub from_read : (image : Qcow2 S F) (from to : ℕ) (e : ImageError) → MayFailReadingFrom image from to e → MayFailToRead e
  from_read image from to e (inl (inl is)) = subst MayFailToRead (sym is) tt
  from_read image from to e (inl (inr is)) = subst MayFailToRead (sym is) tt
  from_read image from to e (inr (inl is)) = subst MayFailToRead (sym is) tt
  from_read image from to e (inr (inr (inl used))) = subst MayFailToRead (sym used.0) tt
  from_read image from to e (inr (inr (inr (inl unaligned)))) = subst MayFailToRead (sym unaligned.0) tt
  from_read image from to e (inr (inr (inr (inr compressed)))) = subst MayFailToRead (sym compressed.0) tt

-- Why a range of an image that may be read is not written.
use Rattle.qcow2_alloc.specs.declared.error.ImageError.TheVariants as I
use Rattle.std.proofs.Common.{◌≡◌, ◌⊎◌, ◌+◌, ◌<◌, ◌≤◌, ◌&&◌, ⊎_elim, inl, inr, ℕ, Bool, true, false, not, List, [], Option, Some, None, refl, sym, ap, ◌∙◌, subst, arith, IsTrue, Result, Err}
use Rattle.qcow2_session.proofs.Common.{MayFailOn, met_any, nat_lt, IfSome, option_or, cases_Bool, BackingView, StorageView, IsRefusalByFault, RefusedEffect, known_in, ImageError, HasPinnedMapping, refusal_of, IsSameImage, is_failed, is_writable, size_of, abstract_of, CopiesCompressed, MayFailReadingRange, MayFailAllocating, IsUnderMappingIn, MayFail, MayFailPreparing, HasPinnedTable, passes, refuse_if, refuses_to_prepare, refuses_to_read, unusable, Qcow2, Prepared, MayFailImporting, IsReasonNotToWrite, GivenBytes, IsLimited, cluster_size_of, Mappings}
use Rattle.qcow2_session.proofs.Lemmas.{same_error, then_none, kept_cover, same_size, compressed_within, not_failed_yet, part_reads, part_under}

writing_left : (u : Option ImageError) (c t : Bool) → u ≡ None → c ≡ false → option_or u (option_or (refuse_if c I.BeyondSize) (refuse_if t I.ReadOnly)) ≡ refuse_if t I.ReadOnly
writing_left u c t none within = ap (λ v. option_or v (option_or (refuse_if c I.BeyondSize) (refuse_if t I.ReadOnly))) none ∙ ap (λ b. option_or (refuse_if b I.BeyondSize) (refuse_if t I.ReadOnly)) within

not_writable : (a w : Bool) → (a && not w) ≡ true → w ≡ false
not_writable true true is = absurd (let no : false ≡ true = is in cc)
not_writable false true is = absurd (let no : false ≡ true = is in cc)
not_writable a false is = refl

pair_error : {A : Type 0} {e x : ImageError} {k : ℕ} → (◌≡◌ {A = Result A (ImageError × ℕ)} (Err (e, k)) (Err (x, 0))) → e ≡ x
pair_error is = ap (λ (p : ImageError × ℕ). p.0) (same_error is)

-- a write that was refused, of a range that may be read: the image isn't to be written, or nothing refused it before any work
early_or_late : {S F : Type 0} (old mid : Qcow2 S F) → IsSameImage old mid → (at n : ℕ) → is_failed mid ≡ false → refuses_to_read old at n ≡ None → (e : ImageError) (k : ℕ) (X : Type 0)
    → IfSome (refuses_to_prepare mid at n) (λ x. (◌≡◌ {A = Result (Unit {0}) (ImageError × ℕ)} (Err (e, k)) (Err (x, 0))) × X)
    → ((e ≡ I.ReadOnly) × (is_writable mid ≡ false)) ⊎ (refuses_to_prepare mid at n ≡ None)
early_or_late old mid same at n works none e k X early =
    let usable = (then_none (unusable old) (passes (size_of old) at n) I.BeyondSize none).0 in
    let read = then_none (unusable mid) (passes (size_of mid) at n) I.BeyondSize (part_reads old mid same at n at n (omega arith) (omega arith) (works ∙ sym (not_failed_yet old mid same usable)) none) in
    let test : Bool = nat_lt 0 n && not (is_writable mid) in
    let is : refuses_to_prepare mid at n ≡ refuse_if test I.ReadOnly = writing_left (unusable mid) (passes (size_of mid) at n) test read.0 read.1 in
    elim (cases_Bool test) [
      | inl refused ↦
          let some : refuses_to_prepare mid at n ≡ Some I.ReadOnly = is ∙ ap (λ b. refuse_if b I.ReadOnly) refused in
          let told = subst (λ o. IfSome o (λ x. (◌≡◌ {A = Result (Unit {0}) (ImageError × ℕ)} (Err (e, k)) (Err (x, 0))) × X)) some early in
          inl (pair_error told.0, not_writable (nat_lt 0 n) (is_writable mid) refused)
      | inr passed ↦ inr (is ∙ ap (λ b. refuse_if b I.ReadOnly) passed)
    ]

module _ {S F : Type 0} (view : S → StorageView) (backing : F → BackingView) (old mid new : Qcow2 S F) (same : IsSameImage old mid) (clusters : cluster_size_of mid ≡ cluster_size_of old) where
  carried : (from to first last : ℕ) → from ≤ first → last ≤ to → (out : Mappings) → IsUnderMappingIn mid.file.header.fields first last out → IsUnderMappingIn old.file.header.fields from to out
  carried from to first last low high out under =
      part_under old.file.header.fields mid.file.header.fields clusters from to under.offset out (omega (arith, low, under.low)) (omega (arith, high, under.high)) under.under

  -- a part of a range that is looked at later
  pub reason_within : (from to first last : ℕ) → from ≤ first → last ≤ to → (out : Mappings) (e : ImageError) → (((given : List GivenBytes) × IsLimited view backing given last mid out) → (given : List GivenBytes) × IsLimited view backing given to old out)
      → IsReasonNotToWrite view backing mid new first last out e → IsReasonNotToWrite view backing old new from to out e
  reason_within from to first last low high out e wider reason = ⊎_elim
      (λ (may_fail : MayFail e × (e ≡ I.Limit → (given : List GivenBytes) × IsLimited view backing given last mid out)). inl (may_fail.0, λ is. wider (may_fail.1 is)))
      (λ (rest : ((e ≡ I.ReadOnly) × (is_writable mid ≡ false)) ⊎ ((e ≡ I.TablePrepared) × IsUnderMappingIn mid.file.header.fields first last out)). ⊎_elim
      (λ (r : (e ≡ I.ReadOnly) × (is_writable mid ≡ false)). inr (inl (r.0, sym same.writable ∙ r.1)))
      (λ (t : (e ≡ I.TablePrepared) × IsUnderMappingIn mid.file.header.fields first last out). inr (inr (t.0, carried from to first last low high out t.1)))
      rest)
      reason

  -- a write that was refused, of a range that may be read
  pub write_reason : (written : Qcow2 S F) (at n : ℕ) → is_failed mid ≡ false → refuses_to_read old at n ≡ None → (out : Mappings) (e : ImageError) (k : ℕ) (X : Type 0)
      → IfSome (refuses_to_prepare mid at n) (λ x. (◌≡◌ {A = Result (Unit {0}) (ImageError × ℕ)} (Err (e, k)) (Err (x, 0))) × X)
      → (refuses_to_prepare mid at n ≡ None → MayFailPreparing written e × (0 < n)) → (refuses_to_prepare mid at n ≡ None → e ≡ I.TablePrepared → IsUnderMappingIn mid.file.header.fields at (at + n) out)
      → (refuses_to_prepare mid at n ≡ None → e ≡ I.Limit → (given : List GivenBytes) × IsLimited view backing given (at + n) old out) → IsReasonNotToWrite view backing old new at (at + n) out e
  write_reason written at n works none out e k X early late taken limit = ⊎_elim
      (λ (closed : (e ≡ I.ReadOnly) × (is_writable mid ≡ false)). inr (inl (closed.0, sym same.writable ∙ closed.1)))
      (λ (free : refuses_to_prepare mid at n ≡ None).
      ⊎_elim (λ (may_fail : MayFailOn written e). inl (met_any written e may_fail, limit free)) (λ (t : (e ≡ I.TablePrepared) × HasPinnedTable written). inr (inr (t.0, carried at (at + n) at (at + n) (omega arith) (omega arith) out (taken free t.0)))) (late free).0)
      (early_or_late old mid same at n works none e k X early)

-- ---- why an import into a sound image is refused

module _ {S F : Type 0} (view : S → StorageView) (new : Qcow2 S F) where
  -- a part of a range is refused for the causes of the range
  pub importing_within : (out : Mappings) (from to first last : ℕ) (e : ImageError) → from ≤ first → last ≤ to → MayFailImporting view first last new out e → MayFailImporting view from to new out e
  importing_within out from to first last e low high (inl limit) = inl limit
  importing_within out from to first last e low high (inr (inl closed)) = inr (inl closed)
  importing_within out from to first last e low high (inr (inr (inl far))) = inr (inr (inl far))
  importing_within out from to first last e low high (inr (inr (inr (inr prepared)))) = inr (inr (inr (inr prepared)))
  importing_within out from to first last e low high (inr (inr (inr (inl compressed)))) =
      let h = new.file.header.fields in
      let known = known_in view new.file in
      inr (inr (inr (inl (compressed.0, compressed_within h h known known refl (λ g. refl) from to first last low high compressed.1))))

  -- a read that was refused: what is compressed is so still
  pub read_importing : {A : Type 0} (backing : F → BackingView) (old : Qcow2 S F) (out : Mappings) (from to : ℕ) (e : ImageError) → (abstract_of view backing old out).is_sound
      → RefusedEffect (abstract_of view backing old out) (abstract_of view backing new out) [] [] (refusal_of e) A → MayFailReadingRange out from to old.file.header.fields (known_in view old.file) e → MayFailImporting view from to new out e
  read_importing backing old out from to e sound refused (inl (inl fault)) = inl (inl fault)
  read_importing backing old out from to e sound refused (inl (inr used)) = inr (inr (inr (inr (inl used.0, used.1))))
  read_importing {A = A} backing old out from to e sound refused (inr compressed) =
      let effect = refused.acts.works sound in
      ⊎_elim
      (λ (still : (abstract_of view backing new out).is_sound × A). inr (inr (inr (inl (
        compressed.0,
        compressed_within old.file.header.fields new.file.header.fields (known_in view old.file) (known_in view new.file) (same_size view backing old new out effect) (λ g. kept_cover view backing old new out sound still.0 effect g tt)
            from to from to (omega arith) (omega arith) compressed.1,
      )))))
      (λ (broke : IsRefusalByFault (refusal_of e) × IsTrue (abstract_of view backing new out).is_failed). absurd (subst (λ x. IsRefusalByFault (refusal_of x)) compressed.0 broke.0)) (refused.answer sound)

  -- a write that was refused
  pub write_importing : {Far : Type 0} (out : Mappings) (old mid : Qcow2 S F) → IsSameImage old mid → is_writable new ≡ is_writable mid → (at n : ℕ) → is_failed mid ≡ false → refuses_to_read old at n ≡ None → (e : ImageError) (k : ℕ) (X : Type 0)
      → IfSome (refuses_to_prepare mid at n) (λ x. (◌≡◌ {A = Result (Unit {0}) (ImageError × ℕ)} (Err (e, k)) (Err (x, 0))) × X)
      → (refuses_to_prepare mid at n ≡ None → MayFailAllocating (HasPinnedMapping out) (IsUnderMappingIn mid.file.header.fields at (at + n) out) (CopiesCompressed at n true new.file.header.fields (known_in view new.file)) Far e) → MayFailImporting view at (at + n) new out e
  write_importing {Far} out old mid same writable at n works none e k X early may_fail = ⊎_elim
      (λ (closed : (e ≡ I.ReadOnly) × (is_writable mid ≡ false)). inr (inl (closed.0, writable ∙ closed.1)))
      (λ (free : refuses_to_prepare mid at n ≡ None). met_writing (may_fail free))
      (early_or_late old mid same at n works none e k X early)
    where
      met_writing : MayFailAllocating (HasPinnedMapping out) (IsUnderMappingIn mid.file.header.fields at (at + n) out) (CopiesCompressed at n true new.file.header.fields (known_in view new.file)) Far e → MayFailImporting view at (at + n) new out e
      met_writing (inl (inl limit)) = inl limit
      met_writing (inl (inr (inl compressed))) = let c = compressed.1 in inr (inr (inr (inl (compressed.0, record { guest = c.guest; touched = c.touched; is = c.is }))))
      met_writing (inl (inr (inr far))) = inr (inr (inl far.0))
      met_writing (inr (inl used)) = inr (inr (inr (inr (inl used.0, used.1))))
      met_writing (inr (inr kept)) = let u = kept.1.under in inr (inr (inr (inr (inr kept.0, record { place = u.place; mapping = u.other; there = u.is_out; pins = u.keeps_table }))))

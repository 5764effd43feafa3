-- What loading and flushing a table mean for the bytes under each key.
use Rattle.std.proofs.Common.{◌≡◌, ◌≢◌, ◌⊎◌, inl, inr, ℕ, ◌+◌, ◌*◌, ◌^◌, ◌<◌, ◌≤◌, Bool, true, false, cond, eqb, List, length, refl, sym, ap, ◌∙◌, subst, arith}
use Rattle.std.proofs.lemmas.Bool.{cases_lt}
use Rattle.std.proofs.lemmas.Bool.Decides.{nat_tests}
use Rattle.std.proofs.Math.Nat.{le_refl, mul-le-mul_left}
use Rattle.image_access.specs.Contents.{bytes_at, overwritten}
use Rattle.image_access.specs.Moments.{StorageView, IsLeftBy}
use Rattle.image_access.proofs.EachMomentSince.{passes_none}
use Rattle.image_access.proofs.Bytes.{bytes_at-overwritten, bytes_at-overwritten_apart}
use Rattle.qcow2_metadata.specs.declared.error.MetadataError.{MetadataError}
use Rattle.qcow2_alloc.specs.AsyncLruCacheBackend.{value_laid_over, IsLawful}
use Rattle.qcow2_alloc.specs.TableSteps.{LoadsTable, FailsToLoad, FlushesTable, FailsToFlush, table_steps}

pub same_number : (k j : ℕ) → eqb k j ≡ true → k ≡ j
same_number k j h = grind (arith, nat_tests)

other_number : (k j : ℕ) → eqb k j ≡ false → k ≢ j
other_number k j h = grind (arith, nat_tests)

-- Two clusters do not overlap.
ends_before : (j k size : ℕ) → j < k → j * size + size ≤ k * size
ends_before j k size lt = let le : j + 1 ≤ k = omega arith in let m = mul-le-mul_left size le in omega (arith, m)

pub apart : (k j size : ℕ) → k ≢ j → (j * size + size ≤ k * size) ⊎ (k * size + size ≤ j * size)
apart k j size ne = elim (cases_lt j k) [
  | inl lt ↦ inl (ends_before j k size lt)
  | inr le ↦ inr (ends_before k j size (omega arith))
]

module _ {S V : Type 0} (view : S → StorageView) (cluster_bits : ℕ) (bytes : V → List ℕ) (is_modified : V → Bool) (cleared : V → V) (IsFit : V → Type 0) where
  abbrev at : S → ℕ → List ℕ
  at s j = bytes_at (view s).contents (j * 2 ^ cluster_bits) (2 ^ cluster_bits)

  same_at : (s t : S) (j : ℕ) → (view t).contents ≡ (view s).contents → at t j ≡ at s j
  same_at s t j h = ap (λ c. bytes_at c (j * 2 ^ cluster_bits) (2 ^ cluster_bits)) h

  module _ (s t : S) (k : ℕ) (v : V) (fits : length (bytes v) ≡ 2 ^ cluster_bits) (written : (view t).contents ≡ overwritten (view s).contents (k * 2 ^ cluster_bits) (bytes v)) where
    here : (j : ℕ) → eqb k j ≡ true → at t j ≡ bytes v
    here j h =
        let same : j ≡ k = sym (same_number k j h) in
        ap (λ i. at t i) same ∙ ap (λ c. bytes_at c (k * 2 ^ cluster_bits) (2 ^ cluster_bits)) written
        ∙ subst (λ n. bytes_at (overwritten (view s).contents (k * 2 ^ cluster_bits) (bytes v)) (k * 2 ^ cluster_bits) n ≡ bytes v) fits
        (bytes_at-overwritten (view s).contents (k * 2 ^ cluster_bits) (bytes v))

    there : (j : ℕ) → eqb k j ≡ false → at t j ≡ at s j
    there j h =
        let far = apart k j (2 ^ cluster_bits) (other_number k j h) in
        ap (λ c. bytes_at c (j * 2 ^ cluster_bits) (2 ^ cluster_bits)) written
        ∙ bytes_at-overwritten_apart (view s).contents (k * 2 ^ cluster_bits) (bytes v) (j * 2 ^ cluster_bits) (2 ^ cluster_bits)
        (subst (λ n. (j * 2 ^ cluster_bits + 2 ^ cluster_bits ≤ k * 2 ^ cluster_bits) ⊎ (k * 2 ^ cluster_bits + n ≤ j * 2 ^ cluster_bits)) (sym fits) far)

    at_any : (j : ℕ) (b : Bool) → eqb k j ≡ b → at t j ≡ cond b (bytes v) (at s j)
    at_any j true h = here j h
    at_any j false h = there j h

  loaded_reads : (s t : S) (k : ℕ) (v : V) → LoadsTable view cluster_bits bytes is_modified cleared IsFit s k v t → (view s).is_honest
      → (view t).is_honest × (bytes v ≡ at s k) × ((j : ℕ) → at t j ≡ at s j)
  loaded_reads s t k v h honest = (h.calls.honest honest, h.read honest, λ j. same_at s t j (h.keeps honest))

  failed_load_keeps : (s t : S) (k : ℕ) (e : MetadataError) → FailsToLoad view cluster_bits bytes is_modified cleared IsFit s k e t → (view s).is_honest
      → (view t).is_honest × ((j : ℕ) → at t j ≡ at s j)
  failed_load_keeps s t k e h honest = (h.calls.honest honest, λ j. same_at s t j (h.keeps honest))

  flush_writes : (s t : S) (k : ℕ) (v w : V) → FlushesTable view cluster_bits bytes is_modified cleared IsFit s k v w t → (view s).is_honest
      → (view t).is_honest × ((j : ℕ) → at t j ≡ cond (eqb k j) (value_laid_over is_modified bytes v (at s j)) (at s j))
  flush_writes s t k v w h honest = (
    h.calls.honest honest,
    (elim (is_modified v) as (λ m. is_modified v ≡ m → (j : ℕ) → at t j ≡ cond (eqb k j) (cond m (bytes v) (at s j)) (at s j)) [
      | true ↦ λ m. let g = h.writes m in λ j. at_any s t k v g.fits (g.written honest) j (eqb k j) refl
      | false ↦ λ m. λ j. same_at s t j (h.skips m honest) ∙ (elim (eqb k j) as (λ b. at s j ≡ cond b (at s j) (at s j)) [ true ↦ refl | false ↦ refl ])
    ]) refl,
  )

  failed_flush_keeps : (s t : S) (k : ℕ) (v : V) (e : MetadataError) → FailsToFlush view cluster_bits bytes is_modified cleared IsFit s k v e t → (view s).is_honest
      → (view t).is_honest × (is_modified v ≡ false → (j : ℕ) → at t j ≡ at s j) × ((j : ℕ) → eqb k j ≡ false → at t j ≡ at s j)
  failed_flush_keeps s t k v e h honest = (
    h.calls.honest honest,
    λ m. let bad : false ≡ true = sym m ∙ h.modified in cc,
    λ j ne. elim (h.stopped honest) [
      | inl same ↦ same_at s t j same
      | inr done ↦ there s t k v done.0 done.1 j ne
    ],
  )

  -- A backend of tables satisfies the laws.
  pub table_laws : ((v : V) → is_modified (cleared v) ≡ false) → ((v : V) → bytes (cleared v) ≡ bytes v)
      → IsLawful (table_steps view cluster_bits bytes is_modified cleared IsFit) eqb is_modified bytes at (λ s. (view s).is_honest)
  table_laws unmodified same = record {
    load_gives = λ s t k v h. h.unmodified;
    load_reads = loaded_reads;
    failed_load_keeps = failed_load_keeps;
    flush_cleans = λ s t k v w h. (ap is_modified h.clean ∙ unmodified v, ap bytes h.clean ∙ same v);
    flush_writes = flush_writes;
    failed_flush_keeps = failed_flush_keeps;
  }

  -- Flushing an unmodified table may do nothing.
  pub table_rests : (s : S) (k : ℕ) (v : V) → is_modified v ≡ false → v ≡ cleared v → FlushesTable view cluster_bits bytes is_modified cleared IsFit s k v v s
  table_rests s k v unmodified clean = record {
    clean = clean;
    skips = λ _ _. refl;
    writes = λ m. let bad : false ≡ true = sym unmodified ∙ m in cc;
    calls = record {
      honest = λ h. h;
      time = λ _. passes_none (view s) (IsLeftBy (view s));
      cause = record { no_fewer = le_refl (view s).faults; fault = λ bad. absurd cc; told = refl };
    };
  }

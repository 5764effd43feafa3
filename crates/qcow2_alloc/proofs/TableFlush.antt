-- A flush of a modified table that is refused.
use Rattle.std.proofs.Common.{◌≡◌, ◌⊎◌, ◌*◌, ◌^◌, inl, inr, ℕ, Bool, true, List, length, Err, subst}
use Rattle.qcow2_alloc.proofs.Common.{overwritten, StorageView, Changes, Calls, StorageError, whole_or_nothing, FailsToFlush}
use Rattle.qcow2_metadata.specs.declared.error.MetadataError.TheVariants.{Storage}

module _ {S V : Type 0} (view : S → StorageView) (cluster_bits : ℕ) (bytes : V → List ℕ) (is_modified : V → Bool) (cleared : V → V) (IsFit : V → Type 0) where
  pub write_fails : (s t : S) (k : ℕ) (v : V) (e : StorageError) (before : StorageView) → before ≡ view s
      → is_modified v ≡ true → length (bytes v) ≡ 2 ^ cluster_bits
      → Changes {T = Unit {0}} before (view t) (Err e) (λ b. overwritten b (k * 2 ^ cluster_bits) (bytes v))
      → Calls {T = Unit {0}} before (view t) (Err e)
      → FailsToFlush view cluster_bits bytes is_modified cleared IsFit s k v (Storage e) t
  write_fails s t k v e before same modified fits changes calls = record {
    among = tt;
    modified = modified;
    cause = λ fits here. tt;
    stopped = λ honest. subst (λ (b : StorageView). b.is_honest → ((view t).contents ≡ b.contents) ⊎ ((length (bytes v) ≡ 2 ^ cluster_bits) × ((view t).contents ≡ overwritten b.contents (k * 2 ^ cluster_bits) (bytes v)))) same
        (λ h. elim (whole_or_nothing {T = Unit {0}} (Err e) before.contents (overwritten before.contents (k * 2 ^ cluster_bits) (bytes v)) (view t).contents (changes h)) [
          | inl is ↦ inl is
          | inr is ↦ inr (fits, is)
        ]) honest;
    calls = subst (λ (b : StorageView). Calls {T = Unit {0}} b (view t) (Err e)) same calls;
  }

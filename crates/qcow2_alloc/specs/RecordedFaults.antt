-- The failures that an image's storage records while the tables of a cache are read and written.
use Rattle.std.specs.Prelude.{◌≡◌, ◌⊎◌, ◌≤◌, true, false}
use Rattle.std.proofs.Common.{refl, ◌∙◌, inl, inr, ⊎_elim}
use Rattle.std.proofs.Math.Nat.{le_refl, le_trans}
use Rattle.image_access.specs.Moments.{StorageView, Rose}
use Rattle.image_access.proofs.EachMomentSince.{rose_since, rose_still}
use Rattle.qcow2_alloc.specs.Faults.{faults_of}
use Rattle.qcow2_alloc.specs.ImageStorage.{met_fault_of}
use Rattle.qcow2_alloc.specs.declared.image_storage.ImageStorage.{ImageStorage}

-- The number of faults does not fall. If no failure is recorded, none was before, and the number is the same. If one is recorded, it was before, or the number rose.
pub record RecordsFaults {S : Type 0} (view : S → StorageView) (old new : ImageStorage S) : Type 0 where
  pub no_fewer : faults_of view old ≤ faults_of view new
  pub unmet : met_fault_of new ≡ false → (met_fault_of old ≡ false) × (faults_of view new ≡ faults_of view old)
  pub met : met_fault_of new ≡ true → (met_fault_of old ≡ true) ⊎ Rose (faults_of view old) (faults_of view new)

module _ {S : Type 0} {view : S → StorageView} where
  -- Failures are recorded by no call at all, and by one call after another.
  pub met_same : (s : ImageStorage S) → RecordsFaults view s s
  met_same s = record { no_fewer = le_refl (faults_of view s); unmet = λ none. (none, refl); met = λ is. inl is }

  pub met_then : (s t u : ImageStorage S) → RecordsFaults view s t → RecordsFaults view t u → RecordsFaults view s u
  met_then s t u first then = record {
    no_fewer = le_trans first.no_fewer then.no_fewer;
    unmet = λ none. let late = then.unmet none in let early = first.unmet late.0 in (early.0, late.1 ∙ early.1);
    met = λ is. ⊎_elim
        (λ (before : met_fault_of t ≡ true). ⊎_elim
        (λ (at_first : met_fault_of s ≡ true). inl at_first)
        (λ (rose : Rose (faults_of view s) (faults_of view t)). inr (rose_still (faults_of view s) (faults_of view t) (faults_of view u) rose then.no_fewer))
        (first.met before))
        (λ (rose : Rose (faults_of view t) (faults_of view u)). inr (rose_since (faults_of view s) (faults_of view t) (faults_of view u) first.no_fewer rose))
        (then.met is);
  }

-- Loads and writes of tables record their failures.
use Rattle.std.proofs.Common.{◌≡◌, ◌≤◌, true, inl, inr, Result, Ok, Err, refl, ap, sym, ◌∙◌, subst, arith}
use Rattle.qcow2_alloc.proofs.Common.{StorageView, HasCause, Rose, StorageError, Fault, faults_of, storage_of, met_fault_of, RecordsFault, RecordsFaults, ImageStorage}
use Rattle.image_access.specs.declared.error.StorageError.TheVariants.{Memory}

module _ {S : Type 0} {view : S → StorageView} where
  -- a call that isn't a failure, and one that is
  pub met_none : (s t : ImageStorage S) → met_fault_of t ≡ met_fault_of s → faults_of view t ≡ faults_of view s → RecordsFaults view s t
  met_none s t still same = record { no_fewer = omega (arith, same); unmet = λ none. (sym still ∙ none, same); met = λ is. inl (sym still ∙ is) }

  pub met_one : (s t : ImageStorage S) → met_fault_of t ≡ true → (rose : Rose (faults_of view s) (faults_of view t)) → (le : faults_of view s ≤ faults_of view t) → RecordsFaults view s t
  met_one s t recorded rose le = record { no_fewer = le; unmet = λ none. absurd (let bad = sym recorded ∙ none in cc); met = λ is. inr rose }

  -- a write, of a storage that was told what it is for
  pub met_written : (s m t : ImageStorage S) (r : Result (Unit {0}) StorageError) → storage_of m ≡ storage_of s → met_fault_of m ≡ met_fault_of s → HasCause (faults_of view m) (faults_of view t) r → RecordsFault m t r → RecordsFaults view s t
  met_written s m t r told still cause notes = by r cause notes where
    before : faults_of view m ≡ faults_of view s
    before = ap (λ (x : S). (view x).faults) told

    by : (r : Result (Unit {0}) StorageError) → HasCause (faults_of view m) (faults_of view t) r → RecordsFault m t r → RecordsFaults view s t
    by (Ok x) cause notes = met_none s t (notes ∙ still) (cause.told ∙ before)
    by (Err Memory) cause notes = met_none s t (notes ∙ still) (cause.told (λ bad. cc) ∙ before)
    by (Err Fault) cause notes = met_one s t notes (subst (λ n. Rose n (faults_of view t)) before (cause.fault refl)) (let le = cause.no_fewer in omega (arith, le, before))

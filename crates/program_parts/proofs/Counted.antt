-- The failures that a conversion of a whole file counts: of the image's storage, where the image is opened without a backing disk, and of the raw disk.
use Rattle.qcow2_image.specs.Faults.{faults_beside}
use Rattle.std.proofs.Common.{◌≡◌, ℕ, true, false, is_some, inl, inr, Option, Some, None, Result, Ok, Err, IsErr, IsErrAnd, refl, sym, ap, ◌∙◌, subst, arith}
use Rattle.program_parts.proofs.Common.{BackingView, StorageView, HasCause, Rose, StorageError, FaultsReported, of_storage, ImageError, handed_on, storage_of_image, faults_below, Qcow2, CountsBoth}
use Rattle.image_access.specs.declared.error.StorageError.TheVariants as S
use Rattle.qcow2_alloc.specs.declared.error.ImageError.TheVariants as I
use Rattle.qcow2_session.specs.CountedFaults.{ConversionCounts}

-- the raw disk alone was asked, and it refused
pub raw_refused : {A T : Type 0} (n before now : ℕ) (answer : Result A StorageError) (x : StorageError) → HasCause before now answer → answer ≡ Err x → CountsBoth {T = T} n n before now (Err (of_storage x))
raw_refused {A} {T} n before now answer x cause is = by x (subst (λ r. HasCause before now r) is cause) where
  by : (x : StorageError) → HasCause {T = A} before now (Err x) → CountsBoth {T = T} n n before now (Err (of_storage x))
  by S.Fault cause = record { no_fewer = omega arith; raw = cause.no_fewer; rose = λ is. inr (cause.fault refl); told = λ other. absurd (other refl) }
  by S.Memory cause = record { no_fewer = omega arith; raw = cause.no_fewer; rose = λ is. absurd cc; told = λ other. (refl, cause.told (λ bad. cc)) }

-- the image's storage alone was asked, behind the raw disk, and it refused
pub image_refused : {T : Type 0} (before mid now raw_before raw_now : ℕ) (e : ImageError) → mid ≡ before → raw_now ≡ raw_before → FaultsReported {T = T} mid now (Err e) → CountsBoth {T = T} before now raw_before raw_now (Err e)
image_refused before mid now raw_before raw_now e same raw told = record {
  no_fewer = omega (arith, same, told.no_fewer);
  raw = omega (arith, raw);
  rose = λ is. inl (subst (λ n. Rose n now) same (told.rose is));
  told = λ other. (told.told other ∙ same, raw);
}

-- the two behind other calls that both answered
pub both_since : {T : Type 0} (before mid now raw_before raw_mid raw_now : ℕ) (result : Result T ImageError) → mid ≡ before → raw_mid ≡ raw_before → CountsBoth mid now raw_mid raw_now result → CountsBoth before now raw_before raw_now result
both_since before mid now raw_before raw_mid raw_now result same raw told = subst (λ n. CountsBoth n now raw_before raw_now result) same (subst (λ n. CountsBoth mid now n raw_now result) raw told)

-- the same refusal, of another call, and one that `?` hands on
pub both_as : {T A : Type 0} (before now raw_before raw_now : ℕ) (answer : Result A ImageError) (e : ImageError) (result : Result T ImageError) → CountsBoth before now raw_before raw_now answer → answer ≡ Err e → IsErr result × IsErrAnd result (λ x. x ≡ e) → CountsBoth before now raw_before raw_now result
both_as before now raw_before raw_now answer e result told is on = handed_on (λ r. CountsBoth before now raw_before raw_now r) result e on (let all = subst (λ r. CountsBoth before now raw_before raw_now r) is told in record { no_fewer = all.no_fewer; raw = all.raw; rose = λ bad. all.rose (let same : e ≡ I.Storage = cc in ap Err same); told = all.told })

-- a refusal, whatever would have been answered
pub both_retold : {T A : Type 0} (before now raw_before raw_now : ℕ) (e : ImageError) → CountsBoth {T = A} before now raw_before raw_now (Err e) → CountsBoth {T = T} before now raw_before raw_now (Err e)
both_retold before now raw_before raw_now e all = record { no_fewer = all.no_fewer; raw = all.raw; rose = λ bad. all.rose (let same : e ≡ I.Storage = cc in ap Err same); told = all.told }

-- both were as before, and a call of the raw disk was refused
pub both_then_raw : {T A B : Type 0} (before now raw_before raw_mid raw_now : ℕ) (first : Result B ImageError) (x : B) (answer : Result A StorageError) (e : StorageError) (result : Result T ImageError) → CountsBoth before now raw_before raw_mid first → first ≡ Ok x → HasCause raw_mid raw_now answer → answer ≡ Err e
    → IsErr result × IsErrAnd result (λ y. y ≡ of_storage e) → CountsBoth before now raw_before raw_now result
both_then_raw before now raw_before raw_mid raw_now first x answer e result told done cause is on =
    let all = (subst (λ r. CountsBoth before now raw_before raw_mid r) done told).told in
    handed_on (λ r. CountsBoth before now raw_before raw_now r) result (of_storage e) on (both_since before now now raw_before raw_mid raw_now (Err (of_storage e)) all.0 all.1 (raw_refused now raw_mid raw_now answer e cause is))

-- or answered
pub both_then_ok : {T B : Type 0} (before now raw_before raw_mid raw_now : ℕ) (first : Result B ImageError) (x : B) (y : T) → CountsBoth before now raw_before raw_mid first → first ≡ Ok x → raw_now ≡ raw_mid → CountsBoth before now raw_before raw_now (Ok y)
both_then_ok before now raw_before raw_mid raw_now first x y told done same =
    let all = (subst (λ r. CountsBoth before now raw_before raw_mid r) done told).told in
    let first : now ≡ before = all.0 in
    let raw : raw_now ≡ raw_before = same ∙ all.1 in
    record { no_fewer = omega (arith, first); raw = omega (arith, raw); rose = λ bad. absurd (cc bad); told = (first, raw) }

module _ {S F : Type 0} (view : S → StorageView) (backing : F → BackingView) (none : (b : F) → (backing b).faults ≡ 0) where
  below : (disk : Option F) → faults_below view backing disk ≡ 0
  below None = refl
  below (Some b) = none b

  beside : (old new : Option S) → old ≡ None → is_some new ≡ is_some old → (faults_beside view old ≡ 0) × (faults_beside view new ≡ 0)
  beside None None alone still = (refl, refl)
  beside None (Some file) alone still = absurd (let bad : true ≡ false = still in cc)
  beside (Some file) new alone still = absurd cc

  -- a conversion, with no disk below that fails, and without a data file
  pub both_of : {T : Type 0} (old new : Qcow2 S F) (last : S) (a b : ℕ) (result : Result T ImageError) → old.data_file ≡ None → is_some new.data_file ≡ is_some old.data_file → ConversionCounts view backing old new a b result → last ≡ storage_of_image new → CountsBoth (view (storage_of_image old)).faults (view last).faults a b result
  both_of {T} old new last a b result alone still told is = subst (λ (s : S). CountsBoth (view (storage_of_image old)).faults (view s).faults a b result) (sym is) (by result told) where
    by : (r : Result T ImageError) → ConversionCounts view backing old new a b r → CountsBoth (view (storage_of_image old)).faults (view (storage_of_image new)).faults a b r
    by (Ok x) told = record { no_fewer = told.no_fewer.storage; raw = told.raw; rose = λ is. absurd (cc is); told = (told.told.0.storage, told.told.1) }
    by (Err e) told = record {
      no_fewer = told.no_fewer.storage;
      raw = told.raw;
      rose = λ is. elim (told.rose (cc is)) [
        | inl one ↦ elim one.0 [
          | inl rose ↦ inl rose
          | inr other ↦ elim other [
            | inl rose ↦ absurd (omega (arith, rose, below old.backing, below new.backing))
            | inr rose ↦ absurd (let none = beside old.data_file new.data_file alone still in omega (arith, rose, none.0, none.1))
          ]
        ]
        | inr rose ↦ inr rose
      ];
      told = λ other. let all = told.told other in (all.0.storage, all.1);
    }

-- What holds of the result of a call, whatever the call does.
use Rattle.std.proofs.Common.{◌≡◌, ℕ, Bool, false, Result, Ok, Err, IsErr, IsErrAnd, IsTrue, refl, ap, OnOk}
use Rattle.qcow2_alloc.proofs.Common.{IsErrOf, IfOk, EntryTableView, KeepsEntries, ImageError}
use Rattle.std.specs.Prelude.{OnErr}
use Rattle.qcow2_alloc.specs.declared.error.ImageError.TheVariants as I
use Rattle.qcow2_alloc.proofs.AllocationSteps.{handed_on, behind_none}

-- an answer is no refusal
pub ok_no_err : {A E B : Type 0} (x : A) (e : E) → Ok x ≡ Err e → B
ok_no_err x e bad = absurd (cc)

-- a test doesn't fail and hold
pub not_both : {B : Type 0} (test : Bool) → IsTrue test → test ≡ false → B
not_both test holds fails = absurd (cc)

pub never : {B : Type 0} → IsTrue false → B
never bad = absurd (cc)

-- one that has a name
pub err_as : {T A : Type 0} (e f : ImageError) → IsErrOf {T = A} (Err e) f → IsErrOf {T = T} (Err e) f
err_as e f is = ap Err (let same : e ≡ f = cc in same)

-- what `?` hands on is no answer
pub on_no_ok : {A : Type 0} (P : Type 0) (r : Result A ImageError) (e : ImageError) → IsErr r × IsErrAnd r (λ x. x ≡ e) → OnOk r P
on_no_ok P (Ok x) e on = absurd (let bad = on.0 in cc)
on_no_ok P (Err x) e on = tt

pub if_no_ok : {A : Type 0} (P : A → Type 0) (r : Result A ImageError) (e : ImageError) → IsErr r × IsErrAnd r (λ x. x ≡ e) → IfOk r P
if_no_ok P (Ok x) e on = absurd (let bad = on.0 in cc)
if_no_ok P (Err x) e on = tt

pub handed_unaligned : {A B : Type 0} (r : Result A ImageError) (e : ImageError) → IsErr r × IsErrAnd r (λ x. x ≡ e) → IsErrOf {T = B} (Err e) I.UnalignedTable → IsErrOf r I.UnalignedTable
handed_unaligned r e on is = handed_on (λ x. IsErrOf x I.UnalignedTable) r e on (err_as e I.UnalignedTable is)

-- a reftable that stays
pub entries_none : (P : ℕ → Type 0) (t : EntryTableView) → KeepsEntries P t t
entries_none P t = record { cluster = refl; bits = refl; count = refl; others = λ k stays. refl; behind = behind_none t }

-- what holds whatever is answered
pub on_ok : {A : Type 0} (P : Type 0) (r : Result A ImageError) → P → OnOk r P
on_ok P (Ok x) holds = holds
on_ok P (Err e) holds = tt

pub on_err : {A : Type 0} (P : Type 0) (r : Result A ImageError) → P → OnErr r P
on_err P (Ok x) holds = tt
on_err P (Err e) holds = holds

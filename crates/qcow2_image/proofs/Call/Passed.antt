-- What an image passes on to its storages.
use Rattle.std.proofs.Common.{◌≡◌, Bool, Result, Ok, IfSome, IsSomeAnd, ap, sym, subst}
use Rattle.image_access.specs.Moments.{PassingCall}
use Rattle.image_access.specs.declared.error.StorageError.{StorageError}
use Rattle.qcow2_image.proofs.Common.{IsBegun, Qcow2, storage_of_image}
use Rattle.qcow2_image.specs.Storages.{PassesBeside, PassesOn}

module _ {S F : Type 0} (passes : PassingCall → S → S → Result (Unit {0}) StorageError → Type 0) (call : PassingCall) where
  -- the image's own storage was given the call, and then the data file
  pub passed_both : (old mid new : Qcow2 S F) → passes call (storage_of_image old) (storage_of_image mid) (Ok tt) → mid.data_file ≡ old.data_file → new ≡ record mid { data_file = new.data_file } → PassesBeside passes call mid new → PassesOn passes call old new
  passed_both old mid new own same rest beside = record {
    own = subst (λ s. passes call (storage_of_image old) s (Ok tt)) (sym (ap (λ (i : Qcow2 S F). storage_of_image i) rest)) own;
    data_file = subst (λ file. IfSome file (λ was. IsSomeAnd new.data_file (λ now. passes call was now (Ok tt)))) same beside;
  }

  -- it was given to them within a call, whose end is marked
  pub passed_in_call : (old begun mid new : Qcow2 S F) (failed : Bool) → IsBegun old begun → new ≡ record mid { is_failed = failed } → PassesOn passes call begun mid → PassesOn passes call old new
  passed_in_call old begun mid new failed begins marked done =
      subst (λ (i : Qcow2 S F). PassesOn passes call old i) (sym marked) (record {
        own = subst (λ s. passes call s (storage_of_image mid) (Ok tt)) begins.storage done.own;
        data_file = subst (λ file. IfSome file (λ was. IsSomeAnd mid.data_file (λ now. passes call was now (Ok tt)))) (ap (λ (i : Qcow2 S F). i.data_file) begins.rest) done.data_file;
      })

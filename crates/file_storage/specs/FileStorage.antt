-- The view of a storage over a file. Nothing is known of the file's bytes, so the storage is not honest in proofs. Failures are counted, and the last error is kept.
use Rattle.std.specs.Prelude.{◌≡◌, ◌≢◌, ℕ, Bool, [], codes, Option, None, Some, Result, Ok, Err}
use Rattle.std.specs.declared.io.Error.{Error}
use Rattle.image_access.specs.CallCount.{one_more}
use Rattle.image_access.specs.Moments.{StorageView}
use Rattle.image_access.specs.declared.error.StorageError.{StorageError}
use Rattle.image_access.specs.declared.error.StorageError.TheVariants.{Fault, Memory}

-- An open file or block device: which of them it is, how often it failed, and an error if it did.
pub record OpenFile : Type 0 where
  pub is_block_device : Bool
  -- The counter stops at the greatest u64.
  pub faults : ℕ
  pub last_error : Option Error
  pub kept : last_error ≡ None → faults ≡ 0

abbrev pub view_of_file : OpenFile → StorageView
view_of_file file = record {
  contents = [];
  faults = file.faults;
  is_honest = ⊥;
  moment = 0;
  had_since = λ t c. c ≡ [];
  name = codes "file";
  req_align = 1;
  mem_align = 1;
}

-- What a call returns: the system's value, or a fault for an error of the system, which is kept.
abbrev pub Tells : {T : Type 0} → Result T Error → Result T StorageError → Option Error → Type 0
Tells (Ok value) result kept = result ≡ Ok value
Tells (Err e) result kept = (result ≡ Err Fault) × (kept ≡ Some e)

-- How each call counts failures. After a success nothing changed. After a fault the counter is higher by one, and some error is kept. No call is refused for lack of memory.
abbrev pub CountsFailures : {T : Type 0} → OpenFile → OpenFile → Result T StorageError → Type 0
CountsFailures old new (Ok _) = new ≡ old
CountsFailures old new (Err Fault) = (new.is_block_device ≡ old.is_block_device) × (new.faults ≡ one_more old.faults) × (new.last_error ≢ None)
CountsFailures old new (Err Memory) = ⊥

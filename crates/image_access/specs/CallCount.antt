-- Counting calls and failures, and choosing future calls to fail, for tests.
use Rattle.std.specs.Prelude.{◌≡◌, ◌≢◌, ℕ, ◌+◌, ◌-◌, ◌^◌, min, Result, Ok, Err}
use Rattle.image_access.specs.declared.error.StorageError.{StorageError}
use Rattle.image_access.specs.declared.error.StorageError.TheVariants.{Fault, Memory}

-- The counters of a storage or a disk for tests.
pub record Counted : Type 0 where
  -- The number of calls so far. The counter stops at the greatest u64.
  pub made : ℕ
  -- The number of calls that failed. The counter stops at the greatest u64.
  pub faults : ℕ
  -- Which future call will fail: 1 is the next one, 0 none.
  pub fails_in : ℕ
  -- Which future call will run out of memory: 1 is the next one, 0 none.
  pub refuses_in : ℕ

-- No call was made, and none will be refused.
abbrev pub uncounted : Counted
uncounted = record { made = 0; faults = 0; fails_in = 0; refuses_in = 0 }

-- The n-th call from now on will fail.
abbrev pub failing : Counted → ℕ → Counted
failing c n = record c { fails_in = n }

-- The n-th call from now on will run out of memory.
abbrev pub refusing : Counted → ℕ → Counted
refusing c n = record c { refuses_in = n }

-- The number plus 1, up to the greatest u64.
abbrev pub one_more : ℕ → ℕ
one_more n = n + min 1 (2 ^ 64 - 1 - n)

-- The counters after a successful call, or one that ran out of memory.
abbrev pub counted : Counted → Counted
counted c = record { made = one_more c.made; faults = c.faults; fails_in = c.fails_in - 1; refuses_in = c.refuses_in - 1 }

-- The counters after a call that failed.
abbrev pub faulted : Counted → Counted
faulted c = record { made = one_more c.made; faults = one_more c.faults; fails_in = c.fails_in - 1; refuses_in = c.refuses_in - 1 }

-- The start of a call: it is counted, and refused if it was chosen. A call that was chosen twice fails with a fault.
abbrev pub Begins : {T : Type 0} → Counted → Counted → Result T StorageError → Type 0
Begins old new (Ok _) = (old.fails_in ≢ 1) × (old.refuses_in ≢ 1) × (new ≡ counted old)
Begins old new (Err Fault) = (old.fails_in ≡ 1) × (new ≡ faulted old)
Begins old new (Err Memory) = (old.fails_in ≢ 1) × (old.refuses_in ≡ 1) × (new ≡ counted old)

-- The view of a storage in memory: it is honest and never fails, and its only moment is the present one.
use Rattle.std.specs.Prelude.{◌≡◌, ◌<◌, ℕ, List, length, Result, Ok, Err, codes}
use Rattle.image_access.specs.Moments.{StorageView}
use Rattle.image_access.specs.declared.error.StorageError.{StorageError}
use Rattle.image_access.specs.declared.error.StorageError.TheVariants.{Memory}

abbrev pub view_of_memory : List ℕ → StorageView
view_of_memory bytes = record {
  contents = bytes;
  faults = 0;
  is_honest = Unit {0};
  moment = 0;
  had_since = λ t c. c ≡ bytes;
  name = codes "mem";
  req_align = 1;
  mem_align = 1;
}

-- The contents change. Memory may run out only if they grow, and then they stay the same.
abbrev pub Grows : List ℕ → List ℕ → Result (Unit {0}) StorageError → List ℕ → Type 0
Grows old new (Ok _) changed = new ≡ changed
Grows old new (Err e) changed = (e ≡ Memory) × (length old < length changed) × (new ≡ old)

-- What is pending right after opening: nothing. A refcount above the number of references is surplus.
use Rattle.std.specs.Prelude.{ℕ, ◌≡◌}
use Rattle.qcow2_metadata.specs.Bytes.{Bytes}
use Rattle.qcow2_metadata.specs.Header.{header}
pub use Rattle.qcow2_disk.specs.AbstractImages.{surplus_of}
use Rattle.qcow2_laws.specs.CrashInvariant.{Pending}

abbrev pub nothing_pending : (ℕ → ℕ) → Pending
nothing_pending surplus = record { new_data = λ c. 0; new_tables = λ c. 0; old_tables = λ c. 0; old_data = λ c. 0; surplus = surplus }

-- No cluster has a higher refcount than references.
abbrev pub HasNoLeaks : Bytes → Type 0
HasNoLeaks b = (c : ℕ) → surplus_of (header b) b c ≡ 0

-- Changes of what is pending. Each function n says how often each cluster is concerned.
use Rattle.std.specs.Prelude.{ℕ, ◌+◌, ◌-◌, ◌==◌, if◌then◌else◌}
use Rattle.qcow2_laws.specs.CrashInvariant.{Pending}

-- 1 for the cluster c, 0 for every other.
abbrev pub one_at : ℕ → ℕ → ℕ
one_at c k = if k == c then 1 else 0

-- Clusters are allocated for data.
abbrev pub with_new_data : Pending → (ℕ → ℕ) → Pending
with_new_data p n = record p { new_data = λ k. p.new_data k + n k }

-- Clusters are allocated for tables.
abbrev pub with_new_tables : Pending → (ℕ → ℕ) → Pending
with_new_tables p n = record p { new_tables = λ k. p.new_tables k + n k }

-- Old tables are freed.
abbrev pub without_old_tables : Pending → (ℕ → ℕ) → Pending
without_old_tables p n = record p { old_tables = λ k. p.old_tables k - n k }

-- Old data are freed.
abbrev pub without_old_data : Pending → (ℕ → ℕ) → Pending
without_old_data p n = record p { old_data = λ k. p.old_data k - n k }

-- New data are to be freed after the entries are written, like old data.
abbrev pub new_data_to_old_data : Pending → (ℕ → ℕ) → Pending
new_data_to_old_data p n = record p { new_data = λ k. p.new_data k - n k; old_data = λ k. p.old_data k + n k }

-- New data that no entry on the storage names are to be freed immediately.
abbrev pub new_data_to_old_tables : Pending → (ℕ → ℕ) → Pending
new_data_to_old_tables p n = record p { new_data = λ k. p.new_data k - n k; old_tables = λ k. p.old_tables k + n k }

-- New tables that nothing names are to be freed.
abbrev pub new_tables_to_old_tables : Pending → (ℕ → ℕ) → Pending
new_tables_to_old_tables p n = record p { new_tables = λ k. p.new_tables k - n k; old_tables = λ k. p.old_tables k + n k }

-- An entry that named `old` names `new`, which was new data or named before.
abbrev pub remapped : Pending → (ℕ → ℕ) → (ℕ → ℕ) → Pending
remapped p old new = record p { new_data = λ k. p.new_data k - (new k - old k); old_data = λ k. p.old_data k + (old k - new k) }

-- New tables get their references.
abbrev pub named_now : Pending → (ℕ → ℕ) → Pending
named_now p n = record p { new_tables = λ k. p.new_tables k - n k }

-- New tables get their references, and old tables lose theirs.
abbrev pub renamed : Pending → (ℕ → ℕ) → (ℕ → ℕ) → Pending
renamed p new old = record p { new_tables = λ k. p.new_tables k - new k; old_tables = λ k. p.old_tables k + old k }

-- A set of numbers, as a map from the first number of each run to its length.
use Rattle.std.specs.Prelude.{ℕ, ◌≡◌, ◌↔◌, ◌+◌, ◌<◌, ◌≤◌, ◌^◌, List, Option, Some, length}
use Rattle.std.specs.Map.{lookup}
use Rattle.std.specs.Ordering.{nat_cmp}
use Rattle.std.specs.BTreeMap.{is_at}

-- The length of the run that begins at a number, if one does.
abbrev pub run_at : List (ℕ × ℕ) → ℕ → Option ℕ
run_at runs first = lookup (is_at (nat_cmp first)) runs

-- The runs, by their first numbers: none is empty, each ends before the next one begins, and none has the greatest number of 64 bits.
pub record AreApart (at : ℕ → Option ℕ) : Type 0 where
  pub some : (first n : ℕ) → at first ≡ Some n → 0 < n
  pub near : (first n : ℕ) → at first ≡ Some n → first + n < 2 ^ 64
  pub apart : (first n first' n' : ℕ) → at first ≡ Some n → at first' ≡ Some n' → first < first' → first + n ≤ first'

-- The runs are disjoint, and no more than allowed.
pub record AreKept (runs : List (ℕ × ℕ)) (most : ℕ) : Type 0 where
  pub apart : AreApart (run_at runs)
  pub few : length runs ≤ most

-- The number lies in one of the runs.
pub record LiesIn (at : ℕ → Option ℕ) (number : ℕ) : Type 0 where
  pub first : ℕ
  pub n : ℕ
  pub run : at first ≡ Some n
  pub from : first ≤ number
  pub below : number < first + n

abbrev pub IsIn : List (ℕ × ℕ) → ℕ → Type 0
IsIn runs number = LiesIn (run_at runs) number

-- The n numbers from `first` on are in the set.
abbrev pub AreIn : List (ℕ × ℕ) → ℕ → ℕ → Type 0
AreIn runs first n = (k : ℕ) → first ≤ k → k < first + n → IsIn runs k

-- The run has at least one number, and all its numbers are in the set.
pub record IsRun (runs : List (ℕ × ℕ)) (run : ℕ × ℕ) : Type 0 where
  pub some : 0 < run.1
  pub near : run.0 + run.1 < 2 ^ 64
  pub all : AreIn runs run.0 run.1

-- No number from `first` up to, not including, `end` is in the set.
abbrev pub NoneIn : List (ℕ × ℕ) → ℕ → ℕ → Type 0
NoneIn runs first end = (k : ℕ) → first ≤ k → k < end → IsIn runs k → ⊥

-- The two sets have the same numbers.
abbrev pub SameNumbers : List (ℕ × ℕ) → List (ℕ × ℕ) → Type 0
SameNumbers old new = (k : ℕ) → (IsIn old k) ↔ (IsIn new k)

-- The n numbers from `first` on are added, and no others.
pub record Adds (old new : List (ℕ × ℕ)) (first n : ℕ) : Type 0 where
  pub added : AreIn new first n
  pub stays : (k : ℕ) → IsIn old k → IsIn new k
  pub was : (k : ℕ) → IsIn new k → (first ≤ k → k < first + n → ⊥) → IsIn old k

-- The numbers from `first` up to, not including, `end` are removed, and no others.
pub record Forgets (old new : List (ℕ × ℕ)) (first end : ℕ) : Type 0 where
  pub gone : NoneIn new first end
  pub before : (k : ℕ) → k < first → IsIn old k → IsIn new k
  pub behind : (k : ℕ) → end ≤ k → IsIn old k → IsIn new k
  pub was : (k : ℕ) → IsIn new k → IsIn old k

-- No run crosses this number.
abbrev pub IsParted : List (ℕ × ℕ) → ℕ → Type 0
IsParted runs at = (first n : ℕ) → run_at runs first ≡ Some n → first < at → first + n ≤ at

-- What an import and an export print, and the cluster size and refcount width of an import.
use Rattle.std.specs.Prelude.{ℕ, ◌∷◌, ◌++◌, [], codes, List, Option}
use Rattle.std.specs.Fmt.{decimal}
use Rattle.std.specs.Io.KnownBytes.{Appends}
use Rattle.program_parts.specs.Lines.{◌␣◌}
use Rattle.qimg.specs.declared.words.Invocation.{Invocation}
use Rattle.qimg.specs.declared.words.Invocation.TheVariants as I

-- The lines that report n bytes.
abbrev pub imported_line : ℕ → List ℕ
imported_line n = codes "imported" ␣ decimal n

abbrev pub exported_line : ℕ → List ℕ
exported_line n = codes "exported" ␣ decimal n

-- The line reports a number that satisfies P.
abbrev pub IsTold : (ℕ → List ℕ) → Option (List ℕ) → Option (List ℕ) → (ℕ → Type 0) → Type 0
IsTold line old new P = (n : ℕ) × Appends old new (line n ++ 10 ∷ []) × P n

-- The cluster size of an import.
abbrev pub clusters_asked : Invocation → ℕ
clusters_asked (I.Import raw file cluster width) = cluster
clusters_asked _ = 0

-- The refcount width of an import.
abbrev pub width_asked : Invocation → ℕ
width_asked (I.Import raw file cluster width) = width
width_asked _ = 0

-- Lines of words.
use Rattle.std.specs.Prelude.{ℕ, codes, List, ◌++◌}

-- Words with one space between them.
infixr 5 ◌␣◌
abbrev pub ◌␣◌ : List ℕ → List ℕ → List ℕ
left ␣ right = left ++ (codes " " ++ right)

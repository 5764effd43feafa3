-- The meaning of the words after the program's name.
use Rattle.std.specs.Prelude.{ℕ, Bool, true, false, codes, List, [], ◌∷◌, Option, Some, None, if◌then◌else◌}
use Rattle.std.specs.Str.{bytes_eq}
use Rattle.qimg_nbd.specs.declared.words.Invocation.{Invocation}

-- A file, and whether it is only read.
pub record Asked : Type 0 where
  pub file : List ℕ
  pub read_only : Bool

abbrev pub asked : Invocation → Asked
asked i = record { file = i.file.now; read_only = i.read_only }

-- `FILE` or `-r FILE`. Nothing else is accepted.
abbrev pub asked_by_words : List (List ℕ) → Option Asked
asked_by_words (file ∷ []) = Some (record { file = file; read_only = false })
asked_by_words (option ∷ file ∷ []) = if bytes_eq option (codes "-r") then Some (record { file = file; read_only = true }) else None
asked_by_words _ = None

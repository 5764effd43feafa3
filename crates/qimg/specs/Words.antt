-- The meaning of the words after the program's name.
use Rattle.std.specs.Prelude.{ℕ, codes, List, [], ◌∷◌, Option, Some, None, if◌then◌else◌}
use Rattle.std.specs.Str.{bytes_eq}
use Rattle.image_access.specs.declared.storage.PreallocateMode.{PreallocateMode}
use Rattle.qimg.specs.declared.words.Invocation.{Invocation}
use Rattle.qimg.specs.declared.words.Invocation.TheVariants as I
use Rattle.program_parts.specs.Numbers.{number_of_word}
use Rattle.qimg.specs.Lines.{mode_of}

-- The tasks: creating an image, running commands on one, checking one, importing and exporting a raw disk.
pub data Asked : Type 0 where
  creates : (file : List ℕ) (size cluster width : ℕ) (mode : PreallocateMode) → Asked
  runs : (file : List ℕ) → Asked
  checks : (file : List ℕ) → Asked
  imports : (raw file : List ℕ) (cluster width : ℕ) → Asked
  exports : (file raw : List ℕ) → Asked

-- An invocation, with the names of its files.
abbrev pub asked : Invocation → Asked
asked (I.Create file size cluster width mode) = creates file.now size cluster width mode
asked (I.Run file) = runs file.now
asked (I.Check file) = checks file.now
asked (I.Import raw file cluster width) = imports raw.now file.now cluster width
asked (I.Export file raw) = exports file.now raw.now

abbrev pub creates_with : List ℕ → Option ℕ → Option ℕ → Option ℕ → Option PreallocateMode → Option Asked
creates_with file (Some size) (Some cluster) (Some width) (Some mode) = Some (creates file size cluster width mode)
creates_with file _ _ _ _ = None

abbrev pub imports_with : List ℕ → List ℕ → Option ℕ → Option ℕ → Option Asked
imports_with raw file (Some cluster) (Some width) = Some (imports raw file cluster width)
imports_with raw file _ _ = None

-- `run FILE`, `check FILE`, `export FILE RAW`, `import RAW FILE CLUSTER WIDTH` with two numbers, or `create FILE SIZE CLUSTER WIDTH MODE` with three numbers and a mode. Nothing else is accepted.
abbrev pub asked_by_words : List (List ℕ) → Option Asked
asked_by_words (name ∷ file ∷ []) =
    if bytes_eq name (codes "run") then Some (runs file)
    else if bytes_eq name (codes "check") then Some (checks file)
    else None
asked_by_words (name ∷ file ∷ raw ∷ []) = if bytes_eq name (codes "export") then Some (exports file raw) else None
asked_by_words (name ∷ raw ∷ file ∷ cluster ∷ width ∷ []) =
    if bytes_eq name (codes "import") then imports_with raw file (number_of_word cluster) (number_of_word width) else None
asked_by_words (name ∷ file ∷ size ∷ cluster ∷ width ∷ mode ∷ []) =
    if bytes_eq name (codes "create") then creates_with file (number_of_word size) (number_of_word cluster) (number_of_word width) (mode_of mode) else None
asked_by_words _ = None

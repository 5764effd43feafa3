-- The lines of a report, each without its line feed, and the whole text.
use Rattle.std.specs.Prelude.{ℕ, codes, Option, List, [], ◌∷◌, ◌++◌, length, ◌==◌, if◌then◌else◌}
use Rattle.std.specs.Fmt.{decimal}
use Rattle.std.specs.List.{flat_map}
use Rattle.std.specs.Io.KnownBytes.{Appends}
use Rattle.qcow2_metadata.specs.Bytes.{Bytes}
use Rattle.qcow2_metadata.specs.Consistent.{IsConsistent}
use Rattle.qcow2_metadata.specs.Header.{header}
use Rattle.qcow2_check.specs.Report.{leak_lines}
use Rattle.qcow2_check.specs.declared.report.Breach.{Breach}
use Rattle.qcow2_check.specs.declared.report.Breach.TheVariants as B
use Rattle.qcow2_check.specs.declared.report.Kind.{Kind}
use Rattle.qcow2_check.specs.declared.report.Kind.TheVariants as K
use Rattle.qcow2_check.specs.declared.report.Leak.{Leak}
use Rattle.program_parts.specs.Lines.{◌␣◌}

abbrev pub kind_word : Kind → List ℕ
kind_word K.L1 = codes "l1"
kind_word K.Reftable = codes "reftable"
kind_word K.L2 = codes "l2"
kind_word K.Refblock = codes "refblock"
kind_word K.Data = codes "data"

abbrev pub breach_line : Breach → List ℕ
breach_line (B.Snapshots count) = codes "snapshots" ␣ decimal count
breach_line B.External = codes "external"
breach_line (B.Unaligned kind offset) = codes "unaligned" ␣ kind_word kind ␣ decimal offset
breach_line (B.Under cluster count named) = codes "under" ␣ decimal cluster ␣ decimal count ␣ decimal named
breach_line (B.Shared cluster named) = codes "shared" ␣ decimal cluster ␣ decimal named
breach_line (B.Copied cluster count named) = codes "copied" ␣ decimal cluster ␣ decimal count ␣ decimal named

abbrev pub leak_line : Leak → List ℕ
leak_line leak = codes "leak" ␣ decimal leak.cluster ␣ decimal leak.count ␣ decimal leak.named

-- The last line, for these numbers of breaches and leaks.
abbrev pub consistent_line : ℕ → List ℕ
consistent_line leaks = codes "consistent, " ++ (decimal leaks ++ codes " leaked")

abbrev pub broken_line : ℕ → List ℕ
broken_line breaches = codes "broken, " ++ (decimal breaches ++ codes " breaches")

abbrev pub verdict_line : ℕ → ℕ → List ℕ
verdict_line breaches leaks = if breaches == 0 then consistent_line leaks else broken_line breaches

-- Lines, each with its line feed.
abbrev pub text_of_lines : {A : Type 0} → (A → List ℕ) → List A → List ℕ
text_of_lines line items = flat_map (λ item. line item ++ 10 ∷ []) items

-- The breaches, then the leaks, then the last line.
abbrev pub text_of_report : List Breach → List Leak → List ℕ
text_of_report breaches leaks = text_of_lines breach_line breaches ++ (text_of_lines leak_line leaks ++ (verdict_line (length breaches) (length leaks) ++ 10 ∷ []))

-- These bytes are a consistent image, and its number of leaks was printed.
pub record IsFoundConsistent (image : Bytes) (old new : Option (List ℕ)) : Type 0 where
  pub consistent : IsConsistent image
  pub leaks_are_told : Appends old new (text_of_report [] (leak_lines (header image) image))

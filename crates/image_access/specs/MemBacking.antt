-- The view of a backing disk in memory: it is honest, and counts its reads.
use Rattle.std.specs.Prelude.{ℕ, List}
use Rattle.image_access.specs.Backing.{BackingView}
use Rattle.image_access.specs.CallCount.{Counted}

pub record CountedBytes : Type 0 where
  pub bytes : List ℕ
  pub calls : Counted

abbrev pub view_of_bytes : CountedBytes → BackingView
view_of_bytes m = record { bytes = m.bytes; faults = m.calls.faults; is_honest = Unit {0} }

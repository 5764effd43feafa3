-- The name of a file in a folder of the system.
use Rattle.std.specs.Prelude.{[], None}
use Rattle.program_parts.specs.Places.{NameView}

-- Nothing is known of the name, since others may change the folder.
abbrev pub named : NameView
named = record { is_honest = ⊥; holds = None; held = [] }

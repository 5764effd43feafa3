-- The settings of a new image.
use Rattle.std.specs.Prelude.{ℕ, None, Some}
use Rattle.std.specs.declared.alloc.Global.{Global}
use Rattle.std.specs.declared.string.String.{String}
use Rattle.qcow2_image.specs.declared.builder.Qcow2CreateBuilder.{Qcow2CreateBuilder}
use Rattle.qimg_tools.specs.declared.words.Layout.{Layout}

-- A disk of this size, in this layout.
abbrev pub builder_of : {S : Type 0} → S → ℕ → Layout → Qcow2CreateBuilder S
builder_of storage size layout = record { image = storage; size = size; preallocate = layout.preallocate; cluster_size = layout.cluster_size; refcount_width = layout.refcount_bits; backing_name = None; backing_format = None; data_file_name = None; data_file = None }

-- A disk of this size, in this layout, over a backing file with its name and format.
abbrev pub builder_over : {S : Type 0} → S → ℕ → Layout → String Global → String Global → Qcow2CreateBuilder S
builder_over storage size layout name format = record (builder_of storage size layout) { backing_name = Some name; backing_format = Some format }

-- The view of an image's disk over others in contracts.
use Rattle.std.specs.Prelude.{ℕ, ◌<◌, ◌≤◌, ◌≡◌, ◌==◌, List, [], length, Option, codes, option_map, slice_get, if◌then◌else◌}
use Rattle.qcow2_image.specs.Image.{storage_of_image}
use Rattle.qcow2_image.specs.declared.builder.NoBacking.{NoBacking}
use Rattle.qcow2_image.specs.declared.image.Qcow2.{Qcow2}
use Rattle.program_parts.specs.Disks.{SeenDisk, raw_disk}
use Rattle.program_parts.specs.declared.layers.Layer.{Layer}
use Rattle.program_parts.specs.declared.layers.Shown.{Shown}
use Rattle.program_parts.specs.declared.layers.Shown.TheVariants.{Here, Below}

-- A layer of which nothing was looked up yet.
abbrev pub layer_of : {S : Type 0} → Qcow2 S NoBacking → ℕ → Layer S
layer_of image mapped_end = record { image = image; mapped_end = mapped_end; empty_from = 0; empty_to = 0 }

-- Images from the top down, and a raw disk below them all if there is one.
pub record Stack (S : Type 0) : Type 0 where
  pub images : List (Layer S)
  pub base : Option S
  -- The place of the layer that was read last.
  pub last : ℕ

-- The storage of the layer at a place.
abbrev pub storage_at : {S : Type 0} → Stack S → ℕ → Option S
storage_at stack place = if place == length stack.images then stack.base else option_map (λ layer. storage_of_image layer.image) (slice_get stack.images place)

-- One byte or more of the range is shown, by an image itself or by what is below it.
abbrev pub IsShown : ℕ → Shown → Type 0
IsShown all (Here n) = (0 < n) × (n ≤ all)
IsShown all (Below n) = (0 < n) × (n ≤ all)

-- No more bytes than a limit.
abbrev pub IsAtMost : ℕ → Shown → Type 0
IsAtMost max (Here n) = n ≤ max
IsAtMost max (Below n) = n ≤ max

-- nothing is known of it
abbrev pub seen_layers : SeenDisk
seen_layers = record { disk = raw_disk []; is_honest = ⊥; storage = record { contents = []; faults = 0; is_honest = ⊥; moment = 0; had_since = λ t c. c ≡ []; name = codes "layers"; req_align = 1; mem_align = 1 }; is_written = Unit {0} }

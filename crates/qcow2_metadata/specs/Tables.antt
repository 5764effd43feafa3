-- The bytes of cached tables, and contents with these overlaid.
use Rattle.std.specs.Prelude.{ℕ, ◌+◌, ◌-◌, ◌*◌, ◌/◌, ◌%◌, ◌^◌, Bool, List, [], ◌∷◌, slice_index, nat_lt, ◌&&◌, if◌then◌else◌}
use Rattle.qcow2_metadata.specs.Bytes.{Bytes, is_within, sum_below}

-- The bytes of a table of 8-byte entries.
unfoldable pub bytes_of_entries : List ℕ → Bytes
bytes_of_entries entries i = slice_index entries (i / 8) / 2 ^ (8 * (7 - i % 8)) % 256

-- The bytes of a refblock.
unfoldable pub bytes_of_counts : ℕ → List ℕ → Bytes
bytes_of_counts width counts i =
    if nat_lt width 8
    then sum_below (8 / width) (λ k. slice_index counts (i * (8 / width) + k) * 2 ^ (k * width))
    else slice_index counts (i / (width / 8)) / 2 ^ (8 * (width / 8 - 1 - i % (width / 8))) % 256

-- A cached table: its offset in the file, its bytes, and whether it was changed since it was last read or written.
pub record CachedTable : Type 0 where
  pub place : ℕ
  pub bytes : Bytes
  pub is_modified : Bool

-- The table is modified, and covers the offset.
abbrev pub overlays : ℕ → CachedTable → ℕ → Bool
overlays size t i = t.is_modified && is_within t.place size i

-- Contents with each modified table overlaid on its cluster.
unfoldable pub known : ℕ → List CachedTable → Bytes → Bytes
known size [] b i = b i
known size (t ∷ tables) b i = if overlays size t i then t.bytes (i - t.place) else known size tables b i

-- The meaning of a line of input.
use Rattle.std.specs.Prelude.{ℕ, Bool, true, false, ◌&&◌, ◌||◌, ◌==◌, nat_lt, nat_le, codes, List, [], ◌∷◌, length, replicate, Option, Some, None, if◌then◌else◌}
use Rattle.std.specs.List.{list_all, slice_split}
use Rattle.std.specs.Result.{result_ok}
use Rattle.std.specs.Str.{bytes_eq}
use Rattle.image_access.specs.declared.storage.PreallocateMode.{PreallocateMode}
use Rattle.image_access.specs.declared.storage.PreallocateMode.TheVariants as Mode
use Rattle.hex.specs.Hex.{decode_of, decode_sized}
use Rattle.qcow2_session.specs.declared.session.Command.{Command}
use Rattle.qcow2_session.specs.declared.session.Command.TheVariants as C
use Rattle.program_parts.specs.Numbers.{number_of_word}

-- The meaning of a command.
pub data Order : Type 0 where
  reads : (offset length : ℕ) → Order
  writes : (offset : ℕ) (bytes : List ℕ) → Order
  maps : (slot offset length : ℕ) → Order
  prepares : (slot offset length : ℕ) (overwrite : Bool) → Order
  puts : (slot at : ℕ) (bytes : List ℕ) → Order
  commits : (slot : ℕ) → Order
  drops : (slot : ℕ) → Order
  zeroes : (offset length : ℕ) → Order
  discards_to_zero : (offset length : ℕ) → Order
  discards_to_any : (offset length : ℕ) → Order
  discards_to_backing : (offset length : ℕ) → Order
  reads_special : (offset length : ℕ) → Order
  grows : (size : ℕ) (mode : PreallocateMode) → Order
  shrinks : (size : ℕ) → Order
  flushes : Order
  sizes : Order
  syncs : Order
  invalidates : Order
  leaks : Order
  -- A meaning that no line has.
  other : Order

abbrev pub order_of_command : Command → Order
order_of_command (C.Read offset length) = reads offset length
order_of_command (C.Write offset bytes) = writes offset bytes.items
order_of_command (C.Fill offset length byte) = writes offset (replicate length byte)
order_of_command (C.GetMapping slot offset max) = maps slot offset max
order_of_command (C.PrepareDataMapping slot offset length overwrite) = prepares slot offset length overwrite
order_of_command (C.WriteMapped slot at bytes) = puts slot at bytes.items
order_of_command (C.CommitDataMapping slot) = commits slot
order_of_command (C.DiscardDataMapping slot) = drops slot
order_of_command (C.EnsureZeroMapping offset length) = zeroes offset length
order_of_command (C.DiscardToZero offset length) = discards_to_zero offset length
order_of_command (C.DiscardToAny offset length) = discards_to_any offset length
order_of_command (C.DiscardToBacking offset length) = discards_to_backing offset length
order_of_command (C.ReadvSpecial offset length) = reads_special offset length
order_of_command (C.ResizeGrow size mode) = grows size mode
order_of_command (C.ResizeShrink size) = shrinks size
order_of_command C.Flush = flushes
order_of_command C.Size = sizes
order_of_command C.Sync = syncs
order_of_command C.InvalidateCache = invalidates
order_of_command C.Leaked = leaks
order_of_command _ = other

-- The length of a `read`, a `fill` or a `special`: at most 1 MiB.
abbrev pub length_within : Option ℕ → Option ℕ
length_within (Some n) = if nat_le n 1048576 then Some n else None
length_within None = None

-- A slot: at most 255.
abbrev pub slot_within : Option ℕ → Option ℕ
slot_within (Some n) = if nat_le n 255 then Some n else None
slot_within None = None

-- `overwrite` or `keep`.
abbrev pub overwrite_of : List ℕ → Option Bool
overwrite_of word = if bytes_eq word (codes "overwrite") then Some true else if bytes_eq word (codes "keep") then Some false else None

abbrev pub is_lower_hex_digit : ℕ → Bool
is_lower_hex_digit c = (nat_le 48 c && nat_le c 57) || (nat_le 97 c && nat_le c 102)

-- The bytes of at least one pair of lower-case hexadecimal digits.
abbrev pub bytes_of : List ℕ → Option (List ℕ)
bytes_of word = if nat_lt 0 (length word) && list_all is_lower_hex_digit word then result_ok (decode_of word) else None

abbrev pub first_byte : Option (List ℕ) → Option ℕ
first_byte (Some (byte ∷ _)) = Some byte
first_byte _ = None

-- The byte of one pair.
abbrev pub byte_of : List ℕ → Option ℕ
byte_of word = if list_all is_lower_hex_digit word then first_byte (result_ok (decode_sized word 1)) else None

abbrev pub reads_with : Option ℕ → Option ℕ → Option Order
reads_with (Some offset) (Some length) = Some (reads offset length)
reads_with _ _ = None

abbrev pub maps_with : Option ℕ → Option ℕ → Option Order
maps_with (Some offset) (Some length) = Some (maps 0 offset length)
maps_with _ _ = None

abbrev pub writes_with : Option ℕ → Option (List ℕ) → Option Order
writes_with (Some offset) (Some bytes) = Some (writes offset bytes)
writes_with _ _ = None

abbrev pub fills_with : Option ℕ → Option ℕ → Option ℕ → Option Order
fills_with (Some offset) (Some length) (Some byte) = Some (writes offset (replicate length byte))
fills_with _ _ _ = None

-- OFFSET LENGTH of a `read`
abbrev pub read_of : List (List ℕ) → Option Order
read_of (offset ∷ length ∷ []) = reads_with (number_of_word offset) (length_within (number_of_word length))
read_of _ = None

abbrev pub special_with : Option ℕ → Option ℕ → Option Order
special_with (Some offset) (Some length) = Some (reads_special offset length)
special_with _ _ = None

-- OFFSET LENGTH of a `special`
abbrev pub special_of : List (List ℕ) → Option Order
special_of (offset ∷ length ∷ []) = special_with (number_of_word offset) (length_within (number_of_word length))
special_of _ = None

-- OFFSET LENGTH of a `map`, which uses slot 0
abbrev pub map_of : List (List ℕ) → Option Order
map_of (offset ∷ length ∷ []) = maps_with (number_of_word offset) (number_of_word length)
map_of _ = None

-- OFFSET HEX of a `write`
abbrev pub write_of : List (List ℕ) → Option Order
write_of (offset ∷ pairs ∷ []) = writes_with (number_of_word offset) (bytes_of pairs)
write_of _ = None

-- OFFSET LENGTH BB of a `fill`
abbrev pub fill_of : List (List ℕ) → Option Order
fill_of (offset ∷ length ∷ pair ∷ []) = fills_with (number_of_word offset) (length_within (number_of_word length)) (byte_of pair)
fill_of _ = None

abbrev pub prepares_with : Option ℕ → Option ℕ → Option ℕ → Option Bool → Option Order
prepares_with (Some slot) (Some offset) (Some length) (Some overwrite) = Some (prepares slot offset length overwrite)
prepares_with _ _ _ _ = None

abbrev pub puts_with : Option ℕ → Option ℕ → Option (List ℕ) → Option Order
puts_with (Some slot) (Some at) (Some bytes) = Some (puts slot at bytes)
puts_with _ _ _ = None

-- SLOT OFFSET LENGTH overwrite (or keep) of a `prepare`
abbrev pub prepare_of : List (List ℕ) → Option Order
prepare_of (slot ∷ offset ∷ length ∷ how ∷ []) = prepares_with (slot_within (number_of_word slot)) (number_of_word offset) (number_of_word length) (overwrite_of how)
prepare_of _ = None

-- SLOT AT HEX of a `put`
abbrev pub put_of : List (List ℕ) → Option Order
put_of (slot ∷ at ∷ pairs ∷ []) = puts_with (slot_within (number_of_word slot)) (number_of_word at) (bytes_of pairs)
put_of _ = None

-- SLOT of a `commit` or a `drop`
abbrev pub slot_alone : List (List ℕ) → Option ℕ
slot_alone (slot ∷ []) = slot_within (number_of_word slot)
slot_alone _ = None

abbrev pub commit_of : Option ℕ → Option Order
commit_of (Some slot) = Some (commits slot)
commit_of None = None

abbrev pub drop_of : Option ℕ → Option Order
drop_of (Some slot) = Some (drops slot)
drop_of None = None

abbrev pub range_with : Option ℕ → Option ℕ → Option (ℕ × ℕ)
range_with (Some offset) (Some length) = Some (offset, length)
range_with _ _ = None

-- OFFSET LENGTH of a `zero`, `dzero`, `dany` or `dback`.
abbrev pub range_alone : List (List ℕ) → Option (ℕ × ℕ)
range_alone (offset ∷ length ∷ []) = range_with (number_of_word offset) (number_of_word length)
range_alone _ = None

abbrev pub clear_of : (ℕ → ℕ → Order) → Option (ℕ × ℕ) → Option Order
clear_of clears (Some range) = Some (clears range.0 range.1)
clear_of clears None = None

-- The word of a preallocation mode.
abbrev pub mode_of : List ℕ → Option PreallocateMode
mode_of word =
    if bytes_eq word (codes "none") then Some Mode.None
    else if bytes_eq word (codes "zero") then Some Mode.Zero
    else if bytes_eq word (codes "format") then Some Mode.FormatAllocate
    else if bytes_eq word (codes "full") then Some Mode.FullAllocate
    else if bytes_eq word (codes "write") then Some Mode.WriteData
    else None

abbrev pub grows_with : Option ℕ → Option PreallocateMode → Option Order
grows_with (Some size) (Some mode) = Some (grows size mode)
grows_with _ _ = None

-- SIZE MODE of a `grow`
abbrev pub grow_of : List (List ℕ) → Option Order
grow_of (size ∷ how ∷ []) = grows_with (number_of_word size) (mode_of how)
grow_of _ = None

abbrev pub shrinks_with : Option ℕ → Option Order
shrinks_with (Some size) = Some (shrinks size)
shrinks_with None = None

-- SIZE of a `shrink`
abbrev pub shrink_of : List (List ℕ) → Option Order
shrink_of (size ∷ []) = shrinks_with (number_of_word size)
shrink_of _ = None

-- A line of one word.
abbrev pub order_alone : Order → List (List ℕ) → Option Order
order_alone asked [] = Some asked
order_alone asked _ = None

-- The meaning of a line with these words.
abbrev pub order_of_words : List (List ℕ) → Option Order
order_of_words [] = None
order_of_words (name ∷ operands) =
    if bytes_eq name (codes "read") then read_of operands
    else if bytes_eq name (codes "write") then write_of operands
    else if bytes_eq name (codes "fill") then fill_of operands
    else if bytes_eq name (codes "map") then map_of operands
    else if bytes_eq name (codes "prepare") then prepare_of operands
    else if bytes_eq name (codes "put") then put_of operands
    else if bytes_eq name (codes "commit") then commit_of (slot_alone operands)
    else if bytes_eq name (codes "drop") then drop_of (slot_alone operands)
    else if bytes_eq name (codes "zero") then clear_of zeroes (range_alone operands)
    else if bytes_eq name (codes "dzero") then clear_of discards_to_zero (range_alone operands)
    else if bytes_eq name (codes "dany") then clear_of discards_to_any (range_alone operands)
    else if bytes_eq name (codes "dback") then clear_of discards_to_backing (range_alone operands)
    else if bytes_eq name (codes "special") then special_of operands
    else if bytes_eq name (codes "grow") then grow_of operands
    else if bytes_eq name (codes "shrink") then shrink_of operands
    else if bytes_eq name (codes "flush") then order_alone flushes operands
    else if bytes_eq name (codes "size") then order_alone sizes operands
    else if bytes_eq name (codes "sync") then order_alone syncs operands
    else if bytes_eq name (codes "invalidate") then order_alone invalidates operands
    else if bytes_eq name (codes "leaks") then order_alone leaks operands
    else None

-- The meaning of a line without its line feed. Words are separated by single spaces.
abbrev pub order_of_line : List ℕ → Option Order
order_of_line line = order_of_words (slice_split (λ byte. byte == 32) line)

-- The encoding of replies.
use Rattle.std.specs.Prelude.{ℕ, ◌+◌, ◌*◌, Bool, true, false, List, ◌++◌, length, Result, Ok, Err}
use Rattle.std.specs.List.{flat_map}
use Rattle.std.specs.Int.{w16, w32, w64, to_be_bytes}
use Rattle.nbd_protocol.specs.Devices.{error_number, state_number}
use Rattle.nbd_protocol.specs.declared.device.Errno.{Errno}
use Rattle.nbd_protocol.specs.declared.replies.Extent.{Extent}

-- A simple reply: a magic number, an error or 0, and the cookie.
unfoldable pub simple_reply : (error cookie : ℕ) → List ℕ
simple_reply error cookie = to_be_bytes w32 1732535960 ++ to_be_bytes w32 error ++ to_be_bytes w64 cookie

-- The start of the only chunk of a structured reply: a magic number, the flag of the last chunk, and its kind.
unfoldable pub chunk_start : ℕ → List ℕ
chunk_start kind = to_be_bytes w32 1720595439 ++ to_be_bytes w16 1 ++ to_be_bytes w16 kind

-- The header of a chunk: its start, the cookie, and the length of the payload.
unfoldable pub chunk_head : (kind cookie n : ℕ) → List ℕ
chunk_head kind cookie n = chunk_start kind ++ to_be_bytes w64 cookie ++ to_be_bytes w32 n

-- The reply to a request that succeeded.
abbrev pub done_reply : Bool → ℕ → List ℕ
done_reply true cookie = chunk_head 0 cookie 0
done_reply false cookie = simple_reply 0 cookie

-- The reply to a request that was refused. A chunk has the error, and an empty message.
abbrev pub error_reply : Bool → ℕ → Errno → List ℕ
error_reply true cookie e = chunk_head 32769 cookie 6 ++ to_be_bytes w32 (error_number e) ++ to_be_bytes w16 0
error_reply false cookie e = simple_reply (error_number e) cookie

abbrev pub status_reply : Bool → ℕ → Result (Unit {0}) Errno → List ℕ
status_reply structured cookie (Ok done) = done_reply structured cookie
status_reply structured cookie (Err e) = error_reply structured cookie e

-- What comes before the n bytes of a read from an offset on.
abbrev pub read_head : Bool → (cookie offset n : ℕ) → List ℕ
read_head true cookie offset n = chunk_head 1 cookie (8 + n) ++ to_be_bytes w64 offset
read_head false cookie offset n = simple_reply 0 cookie

unfoldable pub extent_bytes : Extent → List ℕ
extent_bytes e = to_be_bytes w32 e.length ++ to_be_bytes w32 (state_number e.state)

-- The reply to a read, with its bytes.
abbrev pub read_reply : Bool → (cookie offset : ℕ) → List ℕ → Result (Unit {0}) Errno → List ℕ
read_reply structured cookie offset bytes (Ok done) = read_head structured cookie offset (length bytes) ++ bytes
read_reply structured cookie offset bytes (Err e) = error_reply structured cookie e

-- The reply to BLOCK_STATUS: the number of the context, and the runs of the disk.
abbrev pub extents_reply : ℕ → List Extent → List ℕ
extents_reply cookie extents = chunk_head 5 cookie (4 + 8 * length extents) ++ to_be_bytes w32 1 ++ flat_map extent_bytes extents

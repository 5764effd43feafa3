-- The encoding of a request: 28 bytes.
use Rattle.std.specs.Prelude.{ℕ, ◌/◌, ◌%◌, ◌==◌, List, Option, Some, None, nat_le, if◌then◌else◌}
use Rattle.std.specs.Int.{w16, w32, w64}
use Rattle.nbd_protocol.specs.Reading.{◌>>=◌, number_at}
use Rattle.nbd_protocol.specs.declared.request.Command.{Command}
use Rattle.nbd_protocol.specs.declared.request.Command.TheVariants as C
use Rattle.nbd_protocol.specs.declared.request.Flags.{Flags}
use Rattle.nbd_protocol.specs.declared.request.Request.{Request}

abbrev pub command_of : ℕ → Command
command_of n =
    if n == 0 then C.Read else if n == 1 then C.Write else if n == 2 then C.Disconnect else if n == 3 then C.Flush else if n == 4 then C.Trim
    else if n == 5 then C.Cache else if n == 6 then C.WriteZeroes else if n == 7 then C.BlockStatus else C.Unknown

-- FUA is bit 0, NO_HOLE bit 1, DF bit 2, REQ_ONE bit 3.
abbrev pub flags_of : ℕ → Flags
flags_of n = record { durable = n % 2 == 1; keeps_place = n / 2 % 2 == 1; one_extent = n / 8 % 2 == 1; unknown = nat_le 16 n }

-- A request: a magic number, flags, a command, the client's cookie, an offset and a length.
unfoldable pub request_in : List ℕ → Option Request
request_in bytes = do
  magic ← number_at w32 bytes
  flags ← number_at w16 magic.1
  command ← number_at w16 flags.1
  cookie ← number_at w64 command.1
  offset ← number_at w64 cookie.1
  n ← number_at w32 offset.1
  if magic.0 == 627086611 then Some (record { flags = flags_of flags.0; command = command_of command.0; cookie = cookie.0; offset = offset.0; length = n.0 }) else None

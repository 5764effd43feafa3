-- The negotiation: the options of a client, and the encoding of replies to them.
use Rattle.std.specs.Prelude.{ℕ, ◌*◌, ◌==◌, List, ◌++◌, length, Option, Some, None, if◌then◌else◌}
use Rattle.std.specs.Int.{w16, w32, w64, to_be_bytes}
use Rattle.nbd_protocol.specs.Reading.{◌>>=◌, number_at, string_at}
use Rattle.nbd_protocol.specs.declared.options.Kind.{Kind}
use Rattle.nbd_protocol.specs.declared.options.Kind.TheVariants as K
use Rattle.nbd_protocol.specs.declared.options.OptionHeader.{OptionHeader}

abbrev pub kind_of : ℕ → Kind
kind_of n =
    if n == 1 then K.ExportName else if n == 2 then K.Abort else if n == 3 then K.List else if n == 6 then K.Info else if n == 7 then K.Go
    else if n == 8 then K.StructuredReply else if n == 9 then K.ListMeta else if n == 10 then K.SetMeta else K.Unknown

-- The header of an option: a magic number, the option, and the length of its data.
unfoldable pub header_in : List ℕ → Option OptionHeader
header_in bytes = do
  magic ← number_at w64 bytes
  option ← number_at w32 magic.1
  n ← number_at w32 option.1
  if magic.0 == 5280542401877725268 then Some (record { option = option.0; length = n.0 }) else None

-- The data of INFO and GO: the name of an export, and the number of information requests after it.
unfoldable pub name_in : List ℕ → Option (List ℕ)
name_in bytes = do
  name ← string_at bytes
  count ← number_at w16 name.1
  if length count.1 == 2 * count.0 then Some name.0 else None

-- The header of a reply to an option: a magic number, the option, the kind of the reply, and the length of its data.
unfoldable pub reply_head : (option kind n : ℕ) → List ℕ
reply_head option kind n = to_be_bytes w64 1100100111001001 ++ to_be_bytes w32 option ++ to_be_bytes w32 kind ++ to_be_bytes w32 n

abbrev pub option_reply : (option kind : ℕ) → List ℕ → List ℕ
option_reply option kind bytes = reply_head option kind (length bytes) ++ bytes

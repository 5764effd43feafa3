-- The line that is printed for a reply, without its line feed.
use Rattle.std.specs.Prelude.{ℕ, Bool, true, false, codes, List, [], ◌∷◌, ◌++◌, length, ◌==◌, Option, Some, None, if◌then◌else◌}
use Rattle.std.specs.Fmt.{decimal, option_append, with_newline}
use Rattle.hex.specs.Hex.{encode_lower}
use Rattle.qcow2_alloc.specs.ImageError.{error_number_of}
use Rattle.qcow2_alloc.specs.RefusalNames.{error_name_of}
use Rattle.qcow2_alloc.specs.declared.error.ImageError.{ImageError}
use Rattle.qcow2_image.specs.declared.mapping.MappingKind.{MappingKind}
use Rattle.qcow2_image.specs.declared.mapping.MappingKind.TheVariants as K
use Rattle.qcow2_image.specs.declared.mapping.Place.{Place}
use Rattle.qcow2_image.specs.declared.mapping.Place.TheVariants as P
use Rattle.qcow2_session.specs.declared.session.Reply.{Reply}
use Rattle.qcow2_session.specs.declared.session.Reply.TheVariants as R
use Rattle.program_parts.specs.Lines.{◌␣◌}

abbrev pub place_word : Place → List ℕ
place_word P.Image = codes "image"
place_word P.DataFile = codes "data"

abbrev pub access_word : Bool → List ℕ
access_word writable = if writable then codes "rw" else codes "ro"

abbrev pub zero_word : Bool → List ℕ
zero_word explicit = if explicit then codes "explicit" else codes "implicit"

abbrev pub mapping_line : MappingKind → ℕ → List ℕ
mapping_line (K.Raw place offset writable) length = codes "raw" ␣ place_word place ␣ decimal offset ␣ decimal length ␣ access_word writable
mapping_line (K.Indirect offset) length = codes "backing" ␣ decimal offset ␣ decimal length
mapping_line (K.Zero explicit) length = codes "zero" ␣ decimal length ␣ zero_word explicit
mapping_line K.Eof length = codes "eof"
mapping_line (K.Special offset) length = codes "special" ␣ decimal offset ␣ decimal length

abbrev pub bytes_line : List ℕ → List ℕ
bytes_line bytes = codes "data" ␣ (if length bytes == 0 then codes "-" else encode_lower bytes)

abbrev pub prepared_line : Bool → ℕ → ℕ → List ℕ
prepared_line existing offset length = (if existing then codes "existing" else codes "prepared") ␣ decimal offset ␣ decimal length

abbrev pub refusal_line : ImageError → List ℕ
refusal_line e = codes "refused" ␣ decimal (error_number_of e) ␣ error_name_of e

-- The line of a write that was refused after this many bytes.
abbrev pub write_refusal_line : ImageError → ℕ → List ℕ
write_refusal_line e written = if written == 0 then refusal_line e else codes "refused" ␣ decimal (error_number_of e) ␣ error_name_of e ␣ codes "after" ␣ decimal written

abbrev pub line_of : Reply → Option (List ℕ)
line_of R.Done = Some (codes "ok")
line_of (R.Bytes bytes) = Some (bytes_line bytes.items)
line_of (R.Mapping mapping) = Some (mapping_line mapping.kind mapping.length)
line_of (R.Prepared offset length existing) = Some (prepared_line existing offset length)
line_of (R.Range offset length) = Some (codes "range" ␣ decimal offset ␣ decimal length)
line_of (R.NotCompressed None) = Some (codes "ok")
line_of (R.NotCompressed (Some offset)) = Some (codes "not compressed" ␣ decimal offset)
line_of (R.Shrunk offset) = Some (codes "shrunk" ␣ decimal offset)
line_of (R.Size size) = Some (codes "size" ␣ decimal size)
line_of (R.Leaked clusters) = Some (codes "leaks" ␣ decimal clusters)
line_of (R.Refused e) = Some (refusal_line e)
line_of (R.WriteRefused e written) = Some (write_refusal_line e written)
line_of R.Misuse = Some (codes "misuse")

-- The reply is a refusal, in whole or in part, or a misuse.
abbrev pub is_refusal : Reply → Bool
is_refusal (R.Refused _) = true
is_refusal (R.WriteRefused _ _) = true
is_refusal R.Misuse = true
is_refusal _ = false

-- The lines of some replies, each with its line feed.
abbrev pub text_of : List Reply → Option (List ℕ)
text_of [] = Some []
text_of (reply ∷ replies) = option_append (with_newline (line_of reply)) (text_of replies)

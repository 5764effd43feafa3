use Rattle.std.proofs.Common.{take}
use Rattle.std.specs.Io.KnownBytes.{Appends}
use Rattle.qimg_tools.specs.Json.{escaped_text}
use Rattle.qimg_tools.proofs.json.print_escaped.Given as goal

abbrev pub invariant-loop-byte : goal.invariant-loop-byte
invariant-loop-byte g l = Appends (g.W.Write.contents l.initial.output) (g.W.Write.contents l.output) (escaped_text (take l.byte-index l.text))

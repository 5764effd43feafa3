use Rattle.std.proofs.Common.{take, IfSome}
use Rattle.std.specs.Io.KnownBytes.{Appends}
use Rattle.qimg.specs.Printing.{text_of}
use Rattle.qimg.proofs.printing.print_replies.Given as goal

abbrev pub invariant-loop-reply : goal.invariant-loop-reply
invariant-loop-reply g l = IfSome (text_of (take l.reply-index l.replies)) (Appends (g.W.Write.contents l.initial.output) (g.W.Write.contents l.output))

use Rattle.std.proofs.Common.{rules}
use Rattle.qimg.specs.Lines.{order_of_command}
use Rattle.qimg.proofs.Scripts.{reads_on}
use Rattle.qimg.proofs.reading.next_command.Goals as goal

pub returns-clause-asked : goal.returns-clause-asked
returns-clause-asked g c = reads_on _ _ c.new-line.result.items c.read_until.new.buf.items (order_of_command c.in_ok-command.command) c.new-line.ensures.items c.in-Ok.ensures.bytes (search rules) c.in-Ok.ensures.rest

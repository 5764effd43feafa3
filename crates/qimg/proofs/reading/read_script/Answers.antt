use Rattle.std.proofs.Common.{rules}
use Rattle.qimg.proofs.Scripts.{asked_none, asked_more, reads_next, script_bad}
use Rattle.qimg.proofs.reading.read_script.Goals as goal

pub loop-init : goal.loop-init
loop-init g c = asked_none _ _ c.new-commands.ensures.items

pub loop-preserved : goal.loop-preserved
loop-preserved g c = asked_more (g.R.Read.remaining c.args.input.now) (g.R.Read.remaining c.loop.input) (g.R.Read.remaining c.next_command.new.input) c.loop.commands.items c.push.new.self.items c.in-Ok-Some.command c.in_ok-push-in-Ok-Some.ensures.items c.loop.invariant (reads_next _ _ c.in-Ok-Some.field-0 c.in-Ok-Some.command c.in-Ok-Some.field-0-is c.in-Ok-Some.ensures.asked)

pub returns-in-Err-Unreadable : goal.returns-in-Err-Unreadable
returns-in-Err-Unreadable g c = script_bad (g.R.Read.remaining c.args.input.now) (g.R.Read.remaining c.loop.input) c.loop.commands.items c.loop.invariant (c.in-Err-Unreadable.ensures.unreadable (search rules))

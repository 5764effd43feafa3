use Rattle.std.proofs.Common.{ap, subst, ◌∙◌, inr, length, is_ok}
use Rattle.qimg.specs.Printed.{end_text, is_accepted, run_text, run_status}
use Rattle.qimg.specs.Program.{PrintsRun}
use Rattle.qimg.specs.Reading.{is_cut}
use Rattle.qimg.proofs.Runs.{ended_well, printed_to_the_end, status_told, written_told}
use Rattle.qimg.proofs.program.script.Goals as goal

pub returns-clause-ends : goal.returns-clause-ends
returns-clause-ends g c =
    let contents = g.W.Write.contents in
    let commands = c.in-Ok.script.commands.items in
    let count = length commands in
    let stop = c.in-Ok.script.end in
    let answer = c.run_commands-printed.result.0 in
    let ended = c.print_end-printed in
    let last = c.flush_output-printed in
    let told = c.run_status-status in
    let ends = subst (λ commands. PrintsRun g.S.Storage.view g.F.BackingDisk.backing c.args.storage c.run_commands-printed.result.1 commands answer (contents c.args.output.now) (contents c.run_commands-printed.new.output)) c.deref.ensures.value c.run_commands-printed.ensures.ends in
    let accepted = is_accepted count ends.ran.run ends.ran.flush in
    let status = status_told c.is_cut.result accepted told.result.0 answer ended.result last.result told.result.1 ends.accepted ended.ensures.printed last.ensures.printed told.ensures.status told.ensures.unwritten in
    inr (record {
      commands = commands;
      stop = stop;
      asks = c.in-Ok.ensures;
      ran = ends.ran;
      printed = printed_to_the_end (run_text count ends.ran.run ends.ran.flush) (end_text (is_cut stop) count) answer ended.result last.result told.result.1 (contents c.args.output.now) (contents c.run_commands-printed.new.output) (contents ended.new.output) (contents last.new.output) ends.text ended.ensures.printed ended.ensures.text last.ensures.printed last.ensures.same (written_told c.is_cut.result told.result.0 last.result told.result.1 told.ensures.unwritten);
      status_is = status ∙ ap (λ cut. run_status cut accepted (is_ok told.result.1)) c.is_cut.ensures;
    })

pub returns-clause-done : goal.returns-clause-done
returns-clause-done g c = λ is. ended_well g.S.Storage.view g.F.BackingDisk.backing c.args.storage c.run_commands-printed.result.1 (g.R.Read.remaining c.args.input.now) c.run_status-status.result.0 c.run_status-status.result.1 (g.W.Write.contents c.args.output.now) (g.W.Write.contents c.flush_output-printed.new.output) (returns-clause-ends g c) is

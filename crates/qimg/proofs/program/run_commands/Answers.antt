use Rattle.std.proofs.Common.{◌≡◌, length, subst, refl, Ok, Err, is_ok, IfOk, IfSome, OnOk}
use Rattle.std.specs.Io.KnownBytes.{Appends}
use Rattle.qimg.specs.Printed.{are_accepted, flush_text, replies_text}
use Rattle.qimg.proofs.Runs.{accepted_both, printed_both}
use Rattle.qimg.proofs.program.run_commands.Goals as goal

pub returns-in-Ok-clause-ends : goal.returns-in-Ok-clause-ends
returns-in-Ok-clause-ends g c =
    let count = length c.args.commands.now in
    let answered = c.print_answers-answered.result in
    let flushed = c.flush-flushed.result in
    let printed = c.print_flush-printed in
    let accepted = subst (λ replies. IfOk answered (λ a. a ≡ are_accepted count replies)) c.deref-in-Ok.ensures.value c.print_answers-answered.ensures.accepted in
    let lines = subst (λ replies. OnOk answered (IfSome (replies_text count replies) (Appends (g.W.Write.contents c.args.output.now) (g.W.Write.contents c.print_answers-answered.new.output)))) c.deref-in-Ok.ensures.value c.print_answers-answered.ensures.text in
    record {
      ran = record {
        run = Ok (c.in-Ok.image, c.in-Ok.replies);
        headline = c.in-Ok.ensures.headline;
        told = c.in-Ok.ensures.reports;
        counts = c.in-Ok.ensures.faults;
        flush = flushed;
        closed = (c.flush-flushed.new.self, c.flush-flushed.ensures.sees, c.into_storage.ensures);
      };
      accepted = accepted_both (are_accepted count c.in-Ok.replies.items) (is_ok flushed) answered printed.result accepted printed.ensures.answered printed.ensures.accepted;
      text = printed_both (replies_text count c.in-Ok.replies.items) (flush_text flushed) answered printed.result (g.W.Write.contents c.args.output.now) (g.W.Write.contents c.print_answers-answered.new.output) (g.W.Write.contents printed.new.output) lines printed.ensures.answered printed.ensures.text;
    }

pub returns-in-Err-clause-ends : goal.returns-in-Err-clause-ends
returns-in-Err-clause-ends g c = record {
  ran = record {
    run = Err (c.in-Err.storage, c.in-Err.e);
    headline = c.in-Err.ensures.headline;
    told = c.in-Err.ensures.reports;
    counts = c.in-Err.ensures.faults;
    flush = Ok tt;
    closed = refl;
  };
  accepted = c.print_refused.ensures.accepted;
  text = c.print_refused.ensures.text;
}

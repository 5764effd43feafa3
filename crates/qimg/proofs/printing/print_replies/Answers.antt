use Rattle.std.proofs.Common.{rules}
use Rattle.qimg.proofs.Replies.{one_more}
use Rattle.qimg.proofs.printing.print_replies.Goals as goal

pub loop-reply-preserved : goal.loop-reply-preserved
loop-reply-preserved g c = one_more c.args.replies.now c.loop-reply.reply-index c.reply-item.result _ _ _ c.loop-reply-test.true (search rules) c.loop-reply.invariant (search rules)

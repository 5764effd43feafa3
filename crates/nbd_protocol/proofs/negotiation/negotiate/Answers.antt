use Rattle.nbd_protocol.proofs.Common.{Appends-trans, Consumes-trans}
use Rattle.nbd_protocol.proofs.negotiation.negotiate.Goals as goal

pub loop-preserved : goal.loop-preserved
loop-preserved g c = (_, _, Consumes-trans _ _ _ _ _ c.loop.invariant.2 c.in_ok-header.ensures.heard.1, Appends-trans _ _ _ _ _ c.loop.invariant.3 c.in_ok-send-2.ensures)

pub returns-in-Requests : goal.returns-in-Requests
returns-in-Requests g c = (_, _, Consumes-trans _ _ _ _ _ c.loop.invariant.2 c.in_ok-header.ensures.heard.1, Appends-trans _ _ _ _ _ c.loop.invariant.3 c.in_ok-send-2.ensures)

pub returns-in-End : goal.returns-in-End
returns-in-End g c = (_, _, Consumes-trans _ _ _ _ _ c.loop.invariant.2 c.in_ok-header.ensures.heard.1, Appends-trans _ _ _ _ _ c.loop.invariant.3 c.in_ok-send-2.ensures)

use Rattle.nbd_protocol.proofs.Common.{Consumes-trans}
use Rattle.nbd_protocol.proofs.negotiation.next_option.Goals as goal

pub returns-clause-heard : goal.returns-clause-heard
returns-clause-heard g c = (_, Consumes-trans _ _ _ _ _ c.in_ok-read_exact.ensures.bytes c.in_ok-read_exact-2.ensures.bytes)

use Rattle.nbd_protocol.proofs.Common.{rules}
use Rattle.nbd_protocol.proofs.serving.read_payload.Goals as goal

pub returns-clause-skipped : goal.returns-clause-skipped
returns-clause-skipped g c = (c.read_exact.new.buf, search rules, c.in_ok-read_exact.ensures.bytes)

use Rattle.nbd_protocol.proofs.Common.{rules}
use Rattle.nbd_protocol.proofs.serving.serve.Goals as goal

pub returns-in_err-ended-in-Ok-clause-talked : goal.returns-in_err-ended-in-Ok-clause-talked
returns-in_err-ended-in-Ok-clause-talked g c = (c.talk-talked.new.device, search rules, c.talk-talked.ensures)

pub returns-in_ok-ended-in-Ok-clause-talked : goal.returns-in_ok-ended-in-Ok-clause-talked
returns-in_ok-ended-in-Ok-clause-talked g c = (c.talk-talked.new.device, c.in-Ok.ensures.persisted, c.talk-talked.ensures)

pub returns-in-Err-clause-talked : goal.returns-in-Err-clause-talked
returns-in-Err-clause-talked g c = (c.talk-talked.new.device, tt, c.talk-talked.ensures)

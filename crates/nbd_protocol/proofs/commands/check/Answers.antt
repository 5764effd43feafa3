use Rattle.nbd_protocol.proofs.Common.{◌∙◌, arith, sym}
use Rattle.nbd_protocol.proofs.Refusals.{refuses_none}
use Rattle.nbd_protocol.proofs.commands.check.Goals as goal

pub returns-in-None-clause-fits : goal.returns-in-None-clause-fits
returns-in-None-clause-fits g c = let k = refuses_none c.is_read_only.result c.size.result c.args.meaningless c.args.request.now (sym c.refusal.ensures ∙ c.in-None.is) in omega (arith, k.0)

use Rattle.std.proofs.Common.{subst}
use Rattle.std.specs.Prelude.{IfOk}
use Rattle.program_parts.specs.Disks.{IsComparisonIn}
use Rattle.qimg_tools.proofs.Compared.{told}
use Rattle.qimg_tools.proofs.comparing.compare.Goals as goal

pub returns-in-Ok-clause-status : goal.returns-in-Ok-clause-status
returns-in-Ok-clause-status g c =
    let one = g.S.Storage.view c.args.one.0 in
    let other = g.T.Storage.view c.args.other.0 in
    told c.args.one.1 one c.args.other.1 other c.in-Ok.found c.tell-status.result
    (subst (λ r. IfOk r (IsComparisonIn c.args.one.1 one c.args.other.1 other)) c.in-Ok.is c.compare_storages-one.ensures.compared) c.tell-status.ensures

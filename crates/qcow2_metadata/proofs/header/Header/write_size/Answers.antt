use Rattle.std.proofs.Common.{◌^◌, ◌<◌, rules, subst}
use Rattle.qcow2_metadata.proofs.Common.{IsWithinLimits}
use Rattle.qcow2_metadata.proofs.StillHeader.{size_still}
use Rattle.qcow2_metadata.proofs.header.Header.write_size.Goals as goal

pub returns-clause-reads : goal.returns-clause-reads
returns-clause-reads g c old =
    let fits : c.args.self.now.fields.size < 2 ^ 64 = search rules in
    size_still _ c.args.self.now old fits (subst (λ v. IsWithinLimits v.fields) c.self.view_is c.self.invariant.within_limits)

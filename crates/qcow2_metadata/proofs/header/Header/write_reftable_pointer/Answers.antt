use Rattle.std.proofs.Common.{◌^◌, ◌<◌, rules, subst}
use Rattle.qcow2_metadata.proofs.Common.{IsWithinLimits}
use Rattle.qcow2_metadata.proofs.StillHeader.{reftable_still}
use Rattle.qcow2_metadata.proofs.header.Header.write_reftable_pointer.Goals as goal

pub returns-clause-reads : goal.returns-clause-reads
returns-clause-reads g c offset clusters =
    let fits_offset : c.args.self.now.fields.reftable_offset < 2 ^ 64 = search rules in
    let fits_clusters : c.args.self.now.fields.reftable_clusters < 2 ^ 32 = search rules in
    reftable_still _ c.args.self.now offset clusters fits_offset fits_clusters (subst (λ v. IsWithinLimits v.fields) c.self.view_is c.self.invariant.within_limits)

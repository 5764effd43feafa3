use Rattle.std.proofs.Common.{◌^◌, ◌<◌, rules, subst}
use Rattle.qcow2_metadata.proofs.Common.{IsWithinLimits}
use Rattle.qcow2_metadata.proofs.StillHeader.{l1_table_still}
use Rattle.qcow2_metadata.proofs.header.Header.write_l1_table_pointer.Goals as goal

pub returns-clause-reads : goal.returns-clause-reads
returns-clause-reads g c offset entries =
    let fits_entries : c.args.self.now.fields.l1_entries < 2 ^ 32 = search rules in
    let fits_offset : c.args.self.now.fields.l1_offset < 2 ^ 64 = search rules in
    l1_table_still _ c.args.self.now offset entries fits_entries fits_offset (subst (λ v. IsWithinLimits v.fields) c.self.view_is c.self.invariant.within_limits)

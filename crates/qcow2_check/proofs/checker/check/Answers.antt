use Rattle.qcow2_check.proofs.Common.{◌∙◌, counted_in}
use Rattle.qcow2_check.proofs.Reading.{reads_another, reads_then, reads_refused, reads_short, refused_as}
use Rattle.qcow2_check.proofs.Refusals.{unchecked}
use Rattle.qcow2_check.proofs.Reported.{all_breaches, all_leaks}
use Rattle.qcow2_check.proofs.NoBreaches.{all_end, breaches_told}
use Rattle.qcow2_check.proofs.checker.check.Goals as goal

pub returns-clause-breaches : goal.returns-clause-breaches
returns-clause-breaches g c honest =
    let honest1 = c.in_ok-header.ensures.reading.honest honest in
    all_breaches _ _ _ _ _ _ _ _ (c.in_ok-findings.ensures.tallies honest1) (c.in_ok-header.ensures.reading.same honest) (c.in_ok-header.ensures.fields honest) _ _ _ _
    c.new-breaches.ensures.items c.in_ok-add_header_lines.ensures c.in_ok-add_unaligned.ensures
    (c.in_ok-add_breaches.ensures (counted_in c.in_ok-findings.findings.names.clusters c.in_ok-findings.findings.counts) (c.deref.ensures.value ∙ c.in_ok-told.ensures))

pub returns-clause-leaks : goal.returns-clause-leaks
returns-clause-leaks g c honest =
    let honest1 = c.in_ok-header.ensures.reading.honest honest in
    all_leaks _ _ _ _ _ _ _ _ (c.in_ok-findings.ensures.tallies honest1) (c.in_ok-header.ensures.reading.same honest) (c.in_ok-header.ensures.fields honest) _
    c.new-leaks.ensures

pub returns-clause-consistent : goal.returns-clause-consistent
returns-clause-consistent g c honest =
    let honest1 = c.in_ok-header.ensures.reading.honest honest in
    let found = c.in_ok-findings.findings in
    breaches_told _ _ _ _ _ (c.in_ok-header.ensures.reading.same honest) (c.in_ok-header.ensures.fields honest)
    (c.in_ok-header.ensures.ok honest) c.in_ok-findings.ensures.fits (c.in_ok-findings.ensures.tables honest1)
    (all_end _ _ found.names.clusters found.offsets.l2_tables.clusters found.offsets.refblocks.clusters found.offsets.data.clusters found.counts (c.in_ok-findings.ensures.tallies honest1) found.names.near found.offsets.l2_tables.near found.offsets.refblocks.near found.offsets.data.near)
    (returns-clause-breaches g c honest)

pub returns-clause-reading : goal.returns-clause-reading
returns-clause-reading g c = reads_then c.in_ok-header.ensures.reading (reads_another _ _ c.in_ok-findings.ensures.reading)

pub returns-in_err-told : goal.returns-in_err-told
returns-in_err-told g c =
    rw (refused_as _ c.from_residual-in_err-told.ensures.1) (record { breaches = λ _. tt; consistent = λ _. tt; leaks = λ _. tt; refused = λ _. tt; reading = reads_short (reads_then c.in_ok-header.ensures.reading c.in_ok-findings.ensures.reading) })

pub returns-in_err-add_header_lines : goal.returns-in_err-add_header_lines
returns-in_err-add_header_lines g c =
    rw (refused_as _ c.from_residual-in_err-add_header_lines.ensures.1) (record { breaches = λ _. tt; consistent = λ _. tt; leaks = λ _. tt; refused = λ _. tt; reading = reads_short (reads_then c.in_ok-header.ensures.reading c.in_ok-findings.ensures.reading) })

pub returns-in_err-add_unaligned : goal.returns-in_err-add_unaligned
returns-in_err-add_unaligned g c =
    rw (refused_as _ c.from_residual-in_err-add_unaligned.ensures.1) (record { breaches = λ _. tt; consistent = λ _. tt; leaks = λ _. tt; refused = λ _. tt; reading = reads_short (reads_then c.in_ok-header.ensures.reading c.in_ok-findings.ensures.reading) })

pub returns-in_err-add_breaches : goal.returns-in_err-add_breaches
returns-in_err-add_breaches g c =
    rw (refused_as _ c.from_residual-in_err-add_breaches.ensures.1) (record { breaches = λ _. tt; consistent = λ _. tt; leaks = λ _. tt; refused = λ _. tt; reading = reads_short (reads_then c.in_ok-header.ensures.reading c.in_ok-findings.ensures.reading) })

pub returns-in_err-findings : goal.returns-in_err-findings
returns-in_err-findings g c =
    rw (refused_as _ c.from_residual-in_err-findings.ensures.1) (record {
      breaches = λ _. tt;
      consistent = λ _. tt;
      leaks = λ _. tt;
      refused = λ honest. rw (← c.in_ok-header.ensures.fields honest, ← c.in_ok-header.ensures.reading.same honest) (unchecked _ _ _ (c.in_err-findings.ensures.refused (c.in_ok-header.ensures.reading.honest honest)));
      reading = reads_then c.in_ok-header.ensures.reading (reads_refused c.in_err-findings.ensures.reading);
    })

use Rattle.std.proofs.Common.{◌+◌, ap, sym, ◌∙◌, arith}
use Rattle.qcow2_metadata.proofs.Common.{zero_entry}
use Rattle.std.proofs.lemmas.Option.{MatchOption-at_some}
use Rattle.qcow2_metadata.proofs.MadeEntries.{or_lowest}
use Rattle.qcow2_metadata.proofs.l2_table.zero_entry.Goals as goal

pub returns-in-Some : goal.returns-in-Some
returns-in-Some c =
    let host = MatchOption-at_some _ _ c.in-Some.host c.in-Some.is c.requires in
    or_lowest c.copied_entry.result (omega (arith, host.1, c.copied_entry.ensures))
    ∙ ap (λ n. n + 1) c.copied_entry.ensures ∙ ap zero_entry (sym c.in-Some.is)

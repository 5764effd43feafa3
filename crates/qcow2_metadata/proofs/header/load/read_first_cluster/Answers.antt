use Rattle.qcow2_metadata.proofs.Common.{◌∙◌, sym, rules, tests, IsInRange}
use Rattle.qcow2_metadata.proofs.EntryTables.{refilled}
use Rattle.qcow2_metadata.proofs.SameHeader.{header_read, not_formed}
use Rattle.qcow2_metadata.proofs.header.load.read_first_cluster.Goals as goal

pub returns-then-not-is_in_range-clause-refused : goal.returns-then-not-is_in_range-clause-refused
returns-then-not-is_in_range-clause-refused g c honest writable =
    let out : IsInRange c.read_fields-fields.result → ⊥ = search (rules, tests) in
    not_formed _ _ _ out (c.read_fields-fields.ensures ∙ header_read _ _ (c.in_ok-read.ensures.read honest))

pub returns-clause-fields : goal.returns-clause-fields
returns-clause-fields g c honest = c.read_fields-fields.ensures ∙ header_read _ _ (c.in_ok-read.ensures.read honest)

pub returns-then-not-is_in_range-clause-unread : goal.returns-then-not-is_in_range-clause-unread
returns-then-not-is_in_range-clause-unread g c honest =
    let out : IsInRange c.read_fields-fields.result → ⊥ = search (rules, tests) in
    not_formed _ _ _ out (c.read_fields-fields.ensures ∙ header_read _ _ (c.in_ok-read.ensures.read honest))

pub returns-clause-whole : goal.returns-clause-whole
returns-clause-whole g c = refilled c.in_ok-cluster.cluster _ ∙ sym c.in_ok-cluster.cluster.ok.0 ∙ c.in_ok-cluster.ensures.len ∙ c.cluster_bytes-size.ensures.value

pub returns-clause-in_range : goal.returns-clause-in_range
returns-clause-in_range g c = c.is_in_range.ensures.0 c.if-not-is_in_range.false

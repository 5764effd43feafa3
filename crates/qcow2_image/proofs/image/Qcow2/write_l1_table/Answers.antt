use Rattle.qcow2_image.proofs.image.Qcow2.write_l1_table.Goals as goal
use Rattle.qcow2_image.proofs.Common.{inl, ap, subst, sym, rules, handed_on, NamesTable, notes_then, Qcow2, IsHostCluster}
use Rattle.qcow2_image.proofs.Lemmas.{named_then, behind_then, l1_placed, counted_since, same_of, hands_fault}

pub returns-in_err-place_l1_table-clause-names : goal.returns-in_err-place_l1_table-clause-names
returns-in_err-place_l1_table-clause-names g c = λ p out sound recorded longer.
    handed_on (NamesTable g.S.Storage.view g.F.BackingDisk.backing p c.args.self.now c.place_l1_table.new.self out c.args.table c.args.cluster) c.from_residual.result c.in_err-place_l1_table.field-0.0 c.from_residual.ensures
    (inl (c.in_err-place_l1_table.ensures.places p out sound longer))

pub returns-clause-names : goal.returns-clause-names
returns-clause-names g c = λ p out sound recorded longer.
    named_then g.S.Storage.view g.F.BackingDisk.backing out p c.args.self.now c.place_l1_table.new.self c.name_l1_table.new.self c.args.table c.place_l1_table.new.table c.args.cluster c.name_l1_table.result sound c.in_ok-place_l1_table.ensures.table
    (c.in_ok-place_l1_table.ensures.places p out sound longer) (λ placed. c.name_l1_table.ensures.names p out placed (c.place_l1_table.ensures.recorded recorded))

pub returns-in_err-place_l1_table-clause-fault : goal.returns-in_err-place_l1_table-clause-fault
returns-in_err-place_l1_table-clause-fault g c = λ p out sound longer.
    hands_fault c.from_residual.result c.in_err-place_l1_table.field-0.0 c.from_residual.ensures (c.in_err-place_l1_table.ensures.fault p out sound (subst (λ n. IsHostCluster n c.args.cluster) (sym longer.bits) c.requires))

pub returns-clause-fails : goal.returns-clause-fails
returns-clause-fails g c = record {
  cause = search rules;
  faults = let view = g.S.Storage.view in
      let below = g.F.BackingDisk.backing in
      counted_since view below c.args.self.now c.place_l1_table.new.self c.name_l1_table.new.self c.name_l1_table.result
      (same_of view below c.args.self.now c.place_l1_table.new.self c.place_l1_table.result c.in_ok-place_l1_table.field-0 c.place_l1_table.ensures.fails.faults c.in_ok-place_l1_table.was) c.name_l1_table.ensures.fails.faults;
}

pub returns-in_err-place_l1_table-clause-step : goal.returns-in_err-place_l1_table-clause-step
returns-in_err-place_l1_table-clause-step g c = record { stays = search rules; notes = c.place_l1_table.ensures.notes; header_cluster = λ behind. c.place_l1_table.ensures.header_cluster behind.0 behind.1 }

pub returns-clause-step : goal.returns-clause-step
returns-clause-step g c = record {
  stays = search rules;
  notes = notes_then c.place_l1_table.ensures.notes c.name_l1_table.ensures.step.notes;
  header_cluster = λ behind.
      behind_then (c.place_l1_table.ensures.header_cluster behind.0 behind.1)
      (c.name_l1_table.ensures.step.header_cluster
      (l1_placed c.args.self.now.l1_table c.place_l1_table.new.self.l1_table c.args.table c.place_l1_table.new.table c.args.cluster (ap (λ (i : Qcow2 _ _). i.l1_table) c.place_l1_table.ensures.rest) c.in_ok-place_l1_table.ensures.table behind.0 behind.1));
}

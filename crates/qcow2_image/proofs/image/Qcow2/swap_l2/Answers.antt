use Rattle.qcow2_image.proofs.Lemmas.{step_none, refused, left_alone, swapped_owns}
use Rattle.qcow2_image.proofs.image.Qcow2.swap_l2.Goals as goal
use Rattle.qcow2_image.proofs.Common.{ap, ◌∙◌, rules, metadata_entry, OwnsTable}

pub returns-in-Err-clause-sound : goal.returns-in-Err-clause-sound
returns-in-Err-clause-sound g c = λ p out sound shared says.
    let entered = c.in-Err.ensures.sound p out sound shared.may says in
    record { does = entered.does; may_fail = entered.may_fail; limit = entered.limit }

pub returns-in-Ok-clause-sound : goal.returns-in-Ok-clause-sound
returns-in-Ok-clause-sound g c = λ p out sound shared says.
    record {
      may_fail = search rules;
      limit = search rules;
      does = swapped_owns g.S.Storage.view g.F.BackingDisk.backing out p c.args.self.now sound c.args.index c.args.old shared c.allocate_l2.new.self c.in-Ok.cluster c.in_ok-dropped.dropped c.hand_back.new.list (c.in_ok-dropped.ensures ∙ c.metadata-entry.ensures ∙ ap (metadata_entry c.args.old) c.new.ensures) c.hand_back.ensures
          ((c.in-Ok.ensures.sound p out sound shared.may says).does);
    }

pub returns-in_err-dropped-clause-sound : goal.returns-in_err-dropped-clause-sound
returns-in_err-dropped-clause-sound g c = λ p out sound shared says.
    record {
      may_fail = search rules;
      limit = search rules;
      does = refused (OwnsTable g.S.Storage.view g.F.BackingDisk.backing p c.args.self.now c.args.self.now out c.args.index) c.from_residual.result c.from_residual.ensures.0 (left_alone g.S.Storage.view g.F.BackingDisk.backing out p c.args.self.now sound c.args.index);
    }

pub returns-in_err-dropped-clause-step : goal.returns-in_err-dropped-clause-step
returns-in_err-dropped-clause-step g c = step_none

pub returns-in-Ok-clause-step : goal.returns-in-Ok-clause-step
returns-in-Ok-clause-step g c = record { stays = search rules; notes = c.allocate_l2.ensures.step.notes; header_cluster = c.allocate_l2.ensures.step.header_cluster }

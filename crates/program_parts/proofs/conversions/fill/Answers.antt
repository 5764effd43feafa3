use Rattle.program_parts.proofs.Common.{[], ap, inl, length, refl, sym, ◌∙◌, of_storage, fault_of_storage, given_err, size_of, MayFailImporting, InvalidOption}
use Rattle.qcow2_session.proofs.Counting.{converted, converting_else, converting_part, converting_raw, so_far_none, so_far_part}
use Rattle.qcow2_session.proofs.Turns.{refused_is}
use Rattle.program_parts.proofs.Making.{once_imported, while_imported}
use Rattle.program_parts.proofs.Refused.{may_be_read, met_importing}
use Rattle.program_parts.proofs.conversions.fill.Goals as goal
use Rattle.qcow2_image.specs.ImageInvariant.{in_image}

pub returns-in_err-count-clause-faults : goal.returns-in_err-count-clause-faults
returns-in_err-count-clause-faults g c =
    converting_part g.S.Storage.view g.F.BackingDisk.backing c.args.image.now c.args.image.now c.to_qcow2.new.image _ _ _ (so_far_none g.S.Storage.view g.F.BackingDisk.backing c.args.image.now) refl
    c.to_qcow2.result c.in_err-count.field-0.0 _ c.to_qcow2.ensures.step.faults c.in_err-count.was (refused_is _ c.in_err-count.field-0.0 c.from_residual.ensures)

pub returns-in_err-size-clause-faults : goal.returns-in_err-size-clause-faults
returns-in_err-size-clause-faults g c =
    converting_raw g.S.Storage.view g.F.BackingDisk.backing c.args.image.now c.to_qcow2.new.image _ _ _ (so_far_part g.S.Storage.view g.F.BackingDisk.backing c.args.image.now c.to_qcow2.new.image _ _ c.in_ok-count.ensures.step.faults) c.in_ok-count.ensures.step.faults.told.1
    c.size.result c.in_err-size.field-0.0 _ c.size.ensures.calls.cause c.in_err-size.was (refused_is _ (of_storage c.in_err-size.field-0.0) c.from_residual-in_err-size.ensures)

pub returns-then-branch-count-clause-faults : goal.returns-then-branch-count-clause-faults
returns-then-branch-count-clause-faults g c =
    converting_else g.S.Storage.view g.F.BackingDisk.backing c.args.image.now c.to_qcow2.new.image _ _ (so_far_part g.S.Storage.view g.F.BackingDisk.backing c.args.image.now c.to_qcow2.new.image _ _ c.in_ok-count.ensures.step.faults) (c.in_ok-size.ensures.calls.cause.told ∙ c.in_ok-count.ensures.step.faults.told.1) InvalidOption _ (λ is. absurd cc) refl

pub returns-clause-faults : goal.returns-clause-faults
returns-clause-faults g c = converted _ _ _ _ _ _ _ (so_far_part g.S.Storage.view g.F.BackingDisk.backing c.args.image.now c.to_qcow2.new.image _ _ c.in_ok-count.ensures.step.faults) (c.in_ok-size.ensures.calls.cause.told ∙ c.in_ok-count.ensures.step.faults.told.1)

pub returns-in_err-count-clause-stops : goal.returns-in_err-count-clause-stops
returns-in_err-count-clause-stops g c = λ n opened image. while_imported g.S.Storage.view g.F.BackingDisk.backing c.args.image.now c.to_qcow2.new.image n _ c.to_qcow2.ensures.any opened image

pub returns-in_err-size-clause-stops : goal.returns-in_err-size-clause-stops
returns-in_err-size-clause-stops g c = λ n opened image. while_imported g.S.Storage.view g.F.BackingDisk.backing c.args.image.now c.to_qcow2.new.image n _ c.to_qcow2.ensures.any opened image

pub returns-clause-stops : goal.returns-clause-stops
returns-clause-stops g c = λ n opened image. while_imported g.S.Storage.view g.F.BackingDisk.backing c.args.image.now c.to_qcow2.new.image n _ c.to_qcow2.ensures.any opened image

pub returns-then-branch-count-clause-stops : goal.returns-then-branch-count-clause-stops
returns-then-branch-count-clause-stops g c = λ n opened image. while_imported g.S.Storage.view g.F.BackingDisk.backing c.args.image.now c.to_qcow2.new.image n _ c.to_qcow2.ensures.any opened image

pub returns-in_err-count-clause-stands : goal.returns-in_err-count-clause-stands
returns-in_err-count-clause-stands g c = λ n opened image. once_imported g.S.Storage.view g.F.BackingDisk.backing c.args.image.now c.to_qcow2.new.image n _ c.to_qcow2.ensures.any opened image

pub returns-in_err-size-clause-stands : goal.returns-in_err-size-clause-stands
returns-in_err-size-clause-stands g c = λ n opened image. once_imported g.S.Storage.view g.F.BackingDisk.backing c.args.image.now c.to_qcow2.new.image n _ c.to_qcow2.ensures.any opened image

pub returns-clause-stands : goal.returns-clause-stands
returns-clause-stands g c = λ n opened image. once_imported g.S.Storage.view g.F.BackingDisk.backing c.args.image.now c.to_qcow2.new.image n _ c.to_qcow2.ensures.any opened image

pub returns-then-branch-count-clause-stands : goal.returns-then-branch-count-clause-stands
returns-then-branch-count-clause-stands g c = λ n opened image. once_imported g.S.Storage.view g.F.BackingDisk.backing c.args.image.now c.to_qcow2.new.image n _ c.to_qcow2.ensures.any opened image

pub returns-in_err-count-clause-may_fail : goal.returns-in_err-count-clause-may_fail
returns-in_err-count-clause-may_fail g c = λ honest same opened.
    let view = g.S.Storage.view in
    let e = c.in_err-count.field-0.0 in
    let may_fail = MayFailImporting view 0 (size_of c.args.image.now) c.to_qcow2.new.image (in_image []) in
    given_err _ e may_fail c.from_residual.ensures
    (met_importing may_fail c.to_qcow2.result e c.in_err-count.was same (c.to_qcow2.ensures.fails.option honest) (c.to_qcow2.ensures.fails.may_fail (may_be_read view g.F.BackingDisk.backing c.args.image.now opened) (in_image []) opened.sound))

pub returns-in_err-size-clause-may_fail : goal.returns-in_err-size-clause-may_fail
returns-in_err-size-clause-may_fail g c = λ honest same opened.
    given_err _ (of_storage c.in_err-size.field-0.0) (MayFailImporting g.S.Storage.view 0 (size_of c.args.image.now) c.to_qcow2.new.image (in_image [])) c.from_residual-in_err-size.ensures (inl (inl (fault_of_storage c.in_err-size.field-0.0)))

pub returns-then-branch-count-clause-may_fail : goal.returns-then-branch-count-clause-may_fail
returns-then-branch-count-clause-may_fail g c = λ honest same opened.
    let left = c.to_qcow2.ensures.step.raw_left honest in
    absurd (c.if-branch-count.true (c.in_ok-size.ensures.size left.0 ∙ ap length left.1 ∙ sym (((c.in_ok-count.ensures.sees honest (in_image [])).answer opened.sound).1.0)))

pub returns-clause-count : goal.returns-clause-count
returns-clause-count g c = record {
  raw_disk = λ honest. let left = c.to_qcow2.ensures.step.raw_left honest in sym c.if-branch-count.false ∙ c.in_ok-size.ensures.size left.0 ∙ ap length left.1;
  disk = λ opened. let any = c.in_ok-count.ensures.any in ((any.2 (in_image [])).answer opened.sound).1.0 ∙ any.1;
}

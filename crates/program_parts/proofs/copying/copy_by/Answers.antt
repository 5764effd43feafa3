use Rattle.program_parts.proofs.Common.{IsFault, of_storage, fault_of_storage, given_err}
use Rattle.program_parts.proofs.Copied.{copied_from}
use Rattle.program_parts.proofs.copying.copy_by.Goals as goal

pub returns-in_err-resize-clause-fails : goal.returns-in_err-resize-clause-fails
returns-in_err-resize-clause-fails g c = given_err _ (of_storage c.in_err-resize.field-0.0) IsFault c.from_residual-in_err-resize.ensures (fault_of_storage c.in_err-resize.field-0.0)

pub returns-clause-sound : goal.returns-clause-sound
returns-clause-sound g c = λ raw_honest copy_honest.
    let raw = g.R.Storage.view in
    let copy = g.S.Storage.view in
    let cut = c.resize.ensures.calls.honest copy_honest in
    let still = c.size.ensures.calls.honest raw_honest in
    copied_from (raw c.args.raw.now).contents (raw c.size.new.self).contents (copy c.args.copy.now).contents (copy c.resize.new.self).contents (copy c.copy_all.new.copy).contents (copy c.flush.new.self).contents c.in_ok-size.size
    (c.in_ok-size.ensures.size raw_honest) (c.size.ensures.same raw_honest) (c.in_ok-resize.ensures.resized copy_honest)
    (c.in_ok-copy_all.ensures.sound still cut)
    (c.flush.ensures.same (c.copy_all.ensures.step.honest cut))

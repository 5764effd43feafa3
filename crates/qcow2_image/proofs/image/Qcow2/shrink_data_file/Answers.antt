use Rattle.std.proofs.Common.{sym, subst, IfErr, Result}
use Rattle.qcow2_image.proofs.Common.{IsFault, KeepsFileNotes, Qcow2}
use Rattle.qcow2_image.proofs.Call.MarkedCalls.{call_marked}
use Rattle.qcow2_image.proofs.Lemmas.{notes_begun, notes_part}
use Rattle.qcow2_image.proofs.image.Qcow2.shrink_data_file.Goals as goal

pub returns-clause-step : goal.returns-clause-step
returns-clause-step g c = call_marked c.begin_call.ensures.begun c.begin_call.ensures.stays c.begin_call.ensures.faults c.resize_data_file-resized.result c.mark_failure.result c.mark_failure.ensures.marks c.mark_failure.ensures.rest c.mark_failure.ensures.answer c.resize_data_file-resized.ensures.step.part c.resize_data_file-resized.ensures.step.fails.faults

pub returns-clause-cause : goal.returns-clause-cause
returns-clause-cause g c = subst (λ (r : Result _ _). IfErr r IsFault) (sym c.mark_failure.ensures.answer) c.resize_data_file-resized.ensures.step.fails.cause

pub returns-clause-since : goal.returns-clause-since
returns-clause-since g c =
    let view = g.S.Storage.view in
    let begun = c.begin_call.new.self in
    notes_begun view c.args.self.now begun c.begin_call.ensures.begun c.mark_failure.new.self (notes_part view begun c.mark_failure.new.self (subst (λ (i : Qcow2 _ _). KeepsFileNotes view begun.file i.file) (sym c.mark_failure.ensures.rest) c.resize_data_file-resized.ensures.step.part.notes))

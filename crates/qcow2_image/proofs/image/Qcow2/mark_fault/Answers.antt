use Rattle.qcow2_image.proofs.Common.{sym, ap, subst, IsTrue, has_noted, ImageFile, Qcow2}
use Rattle.qcow2_image.proofs.Call.Marked.{noted_fails, same_done}
use Rattle.qcow2_image.proofs.image.Qcow2.mark_fault.Goals as goal

pub returns-clause-same : goal.returns-clause-same
returns-clause-same g c = same_done c.args.self.now c.mark_failure.new.self c.args.done c.mark_failure.ensures.rest c.mark_failure.ensures.marks

pub returns-clause-fault : goal.returns-clause-fault
returns-clause-fault g c =
    noted_fails c.args.self.now c.mark_failure.new.self c.args.done c.mark_failure.ensures.marks
    (subst (λ (f : ImageFile _). IsTrue (has_noted f)) (sym (ap (λ (i : Qcow2 _ _). i.file) c.mark_failure.ensures.rest)) c.requires.recorded)

use Rattle.std.proofs.Common.{◌≡◌, ◌↔◌, [], sym, subst}
use Rattle.qcow2_alloc.proofs.KeptTables.Causes.{given_err}
use Rattle.qcow2_metadata.specs.Bytes.{byte_at}
use Rattle.qcow2_metadata.specs.Consistent.{IsConsistent}
use Rattle.qimg_tools.specs.Statuses.{IsCovered, IsReasonForNoStatus, IsStatusOf, IsStatusOfErrors}
use Rattle.std.specs.Prelude.{IfOk, IsTrue, false}
use Rattle.qimg_tools.proofs.Statuses.{status_says, partly_says, partly_fails, work_fails}
use Rattle.qimg_tools.proofs.checking.check.Goals as goal

pub returns-clause-status : goal.returns-clause-status
returns-clause-status g c = λ honest.
    let still = c.load.ensures.reading.honest honest in
    subst (λ b. IsStatusOf (byte_at b) c.status_of.result) (c.load.ensures.reading.same honest)
    (status_says _ _ _ c.status_of.result (c.in-Ok-report_of.ensures.consistent still) (c.in-Ok-report_of.ensures.leaks still) c.status_of.ensures)

pub returns-then-not-is_covered-clause-status : goal.returns-then-not-is_covered-clause-status
returns-then-not-is_covered-clause-status g c = λ honest.
    let items = c.in-Ok-report_of.report.breaches.items in
    let consistent = subst (λ b. (items ≡ []) ↔ IsConsistent (byte_at b)) (c.load.ensures.reading.same honest) (c.in-Ok-report_of.ensures.consistent (c.load.ensures.reading.honest honest)) in
    partly_says (byte_at (g.S.Storage.view c.args.storage.now).contents) items c.check_partly.result consistent
    (λ covered. let no : IsTrue false = c.if-not-is_covered.ensures.1 (subst IsCovered (sym (c.in-Ok.ensures.fields honest)) covered) in absurd cc)
    (subst (λ breaches. IfOk c.check_partly.result (IsStatusOfErrors breaches)) c.deref.ensures.value c.check_partly.ensures.status)

pub returns-then-not-is_covered-clause-cause : goal.returns-then-not-is_covered-clause-cause
returns-then-not-is_covered-clause-cause g c = λ honest. partly_fails (byte_at (g.S.Storage.view c.args.storage.now).contents) c.check_partly.result c.check_partly.ensures.fails

pub returns-in_err-print_in-clause-cause : goal.returns-in_err-print_in-clause-cause
returns-in_err-print_in-clause-cause g c = λ honest.
    let image = byte_at (g.S.Storage.view c.args.storage.now).contents in
    let failure = c.in_err-print_in.field-0.0 in
    given_err _ failure (IsReasonForNoStatus image) c.from_residual.ensures (work_fails image c.print_in.result failure c.in_err-print_in.was c.print_in.ensures.fails)

use Rattle.qcow2_metadata.proofs.Common.{◌∙◌, err_from_is_err_and}
use Rattle.qcow2_metadata.proofs.SameHeader.{reads, unread}
use Rattle.qcow2_metadata.proofs.header.HeaderFields.load.Goals as goal

pub returns-in_err-require_readable-clause-refused : goal.returns-in_err-require_readable-clause-refused
returns-in_err-require_readable-clause-refused g c honest =
    let found = c.in_ok-fields.ensures in
    let p = err_from_is_err_and c.from_residual-in_err-require_readable.result c.from_residual-in_err-require_readable.ensures.1 in
    rw (p.1, p.2) (unread _ _ _ (c.deref.ensures.value ∙ found.bytes honest) (found.fields honest) _ c.in_err-require_readable.ensures.refused)

pub returns-clause-ok : goal.returns-clause-ok
returns-clause-ok g c honest =
    let found = c.in_ok-fields.ensures in
    reads _ _ _ (c.deref.ensures.value ∙ found.bytes honest) (found.fields honest) c.in_ok-require_readable.ensures.ok

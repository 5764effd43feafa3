use Rattle.qcow2_metadata.proofs.Common.{◌∙◌, IfOk-weaker, IfErr-weaker, err_from_is_err_and}
use Rattle.qcow2_metadata.proofs.SameHeader.{loaded, refused}
use Rattle.qcow2_metadata.proofs.header.Header.load.Goals as goal

pub returns-in_err-fields-clause-refused : goal.returns-in_err-fields-clause-refused
returns-in_err-fields-clause-refused g c honest =
    let p = err_from_is_err_and c.from_residual.result c.from_residual.ensures.1 in
    rw (p.1, p.2) (c.in_err-fields.ensures.refused honest c.args.writable)

pub returns-clause-ok : goal.returns-clause-ok
returns-clause-ok g c honest =
    let found = c.in_ok-fields.ensures in
    IfOk-weaker _ _ _ (loaded _ _ _ (c.deref.ensures.value ∙ found.bytes honest) (found.fields honest)) c.from_first_cluster.ensures.ok

pub returns-clause-refused : goal.returns-clause-refused
returns-clause-refused g c honest =
    let found = c.in_ok-fields.ensures in
    IfErr-weaker _ _ _ (refused _ _ _ (c.deref.ensures.value ∙ found.bytes honest) (found.fields honest) c.args.writable) c.from_first_cluster.ensures.refused

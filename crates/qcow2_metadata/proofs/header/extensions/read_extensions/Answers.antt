use Rattle.qcow2_metadata.proofs.Common.{inl, inr, arith, err_from_is_err_and}
use Rattle.qcow2_metadata.proofs.Extensions.{text_of, read_more, read_to_end}
use Rattle.qcow2_metadata.proofs.header.extensions.read_extensions.Goals as goal

pub returns-in_err-backing_format-clause-err : goal.returns-in_err-backing_format-clause-err
returns-in_err-backing_format-clause-err c =
    let p = err_from_is_err_and c.from_residual-in_err-backing_format.result c.from_residual-in_err-backing_format.ensures.1 in
    let e = c.in_err-backing_format.ensures.err in
    let here = rw c.in-Some.is at c.in_ok-extension.ensures.one in
    rw (p.1, p.2) (e.0, λ reads. e.2 (text_of _ _ _ _ _ _ _ c.loop-extension.invariant.so_far here reads (inl e.1)))

pub returns-in_err-data_file_name-clause-err : goal.returns-in_err-data_file_name-clause-err
returns-in_err-data_file_name-clause-err c =
    let p = err_from_is_err_and c.from_residual-in_err-data_file_name.result c.from_residual-in_err-data_file_name.ensures.1 in
    let e = c.in_err-data_file_name.ensures.err in
    let here = rw c.in-Some.is at c.in_ok-extension.ensures.one in
    rw (p.1, p.2) (e.0, λ reads. e.2 (text_of _ _ _ _ _ _ _ c.loop-extension.invariant.so_far here reads (inr e.1)))

pub loop-extension-preserved : goal.loop-extension-preserved
loop-extension-preserved c =
    let here = rw c.in-Some.is at c.in_ok-extension.ensures.one in
    let next = rw c.in-Some.is at c.in_ok-extension.ensures.next in
    record {
      near = omega (arith, here.inside, next);
      so_far = read_more _ _ _ _ _ _ _ _ _ _ c.loop-extension.invariant.so_far here next c.in_ok-backing_format.ensures.text c.in_ok-data_file_name.ensures.text c.in_ok-backing_format.ensures.name c.in_ok-data_file_name.ensures.name;
    }

pub returns-clause-ok : goal.returns-clause-ok
returns-clause-ok c = read_to_end _ _ _ _ _ _ c.loop-extension.invariant.so_far (rw c.in_default.is at c.in_ok-extension.ensures.end)

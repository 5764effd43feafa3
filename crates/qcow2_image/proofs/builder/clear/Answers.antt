use Rattle.qcow2_image.proofs.Common.{sym, subst, resized, Calls, Changes, storage_of, of_storage, fault_of_storage}
use Rattle.qcow2_image.proofs.Prepare.LimitCauses.{hands_fault}
use Rattle.qcow2_image.proofs.Create.Cleared.{asked_first, cut_to_none}
use Rattle.qcow2_image.proofs.builder.clear.Goals as goal

pub returns-in_err-clear-clause-time : goal.returns-in_err-clear-clause-time
returns-in_err-clear-clause-time g c = λ honest.
    let view = g.S.Storage.view in
    let old = storage_of c.args.storage.now in
    let mid = storage_of c.size.new.self in
    let new = storage_of c.clear.new.self in
    let still = c.size.ensures.calls.honest honest in
    asked_first c.size.result c.clear.result (λ t le. g.S.Storage.counts_now old t honest le) (λ t le. g.S.Storage.counts_now mid t still le) c.size.ensures.calls (c.size.ensures.same honest)
    (subst (λ s. Calls (view s) (view new) c.clear.result) c.set_write_kind.ensures.storage c.clear.ensures.writes.calls) (subst (λ s. Changes (view s) (view new) c.clear.result (λ b. resized b 0)) c.set_write_kind.ensures.storage c.clear.ensures.writes.written) still

pub returns-clause-time : goal.returns-clause-time
returns-clause-time g c = λ honest.
    let view = g.S.Storage.view in
    let old = storage_of c.args.storage.now in
    let mid = storage_of c.size.new.self in
    let new = storage_of c.clear.new.self in
    let still = c.size.ensures.calls.honest honest in
    asked_first c.size.result c.clear.result (λ t le. g.S.Storage.counts_now old t honest le) (λ t le. g.S.Storage.counts_now mid t still le) c.size.ensures.calls (c.size.ensures.same honest)
    (subst (λ s. Calls (view s) (view new) c.clear.result) c.set_write_kind.ensures.storage c.clear.ensures.writes.calls) (subst (λ s. Changes (view s) (view new) c.clear.result (λ b. resized b 0)) c.set_write_kind.ensures.storage c.clear.ensures.writes.written) still

pub returns-clause-cleared : goal.returns-clause-cleared
returns-clause-cleared g c = λ honest.
    let view = g.S.Storage.view in
    cut_to_none (view (storage_of c.set_write_kind.new.self)).contents _ (c.in_ok-clear.ensures.writes.written (subst (λ s. (view s).is_honest) (sym c.set_write_kind.ensures.storage) (c.size.ensures.calls.honest honest)))

pub returns-in_err-size-clause-fault : goal.returns-in_err-size-clause-fault
returns-in_err-size-clause-fault g c = hands_fault c.from_residual.result (of_storage c.in_err-size.field-0.0) c.from_residual.ensures (fault_of_storage c.in_err-size.field-0.0)

pub returns-in_err-clear-clause-fault : goal.returns-in_err-clear-clause-fault
returns-in_err-clear-clause-fault g c = hands_fault c.from_residual-in_err-clear.result (of_storage c.in_err-clear.field-0.0) c.from_residual-in_err-clear.ensures (fault_of_storage c.in_err-clear.field-0.0)

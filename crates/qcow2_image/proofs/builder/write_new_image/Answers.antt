use Rattle.qcow2_image.proofs.Common.{storage_of, handed_on, WritesThree}
use Rattle.qcow2_image.proofs.Lemmas.{stops_cleared, writes_then, hands_fault}
use Rattle.qcow2_image.proofs.builder.write_new_image.Goals as goal

pub returns-in_err-clear-clause-fault : goal.returns-in_err-clear-clause-fault
returns-in_err-clear-clause-fault g c = hands_fault c.from_residual.result c.in_err-clear.field-0.0 c.from_residual.ensures c.in_err-clear.ensures.fault

pub returns-in_err-block-clause-fault : goal.returns-in_err-block-clause-fault
returns-in_err-block-clause-fault g c = hands_fault c.from_residual-in_err-block.result c.in_err-block.field-0.0 c.from_residual-in_err-block.ensures c.in_err-block.ensures.fault

pub returns-in_err-reftable-clause-fault : goal.returns-in_err-reftable-clause-fault
returns-in_err-reftable-clause-fault g c = hands_fault c.from_residual-in_err-reftable.result c.in_err-reftable.field-0.0 c.from_residual-in_err-reftable.ensures c.in_err-reftable.ensures.fault

pub returns-in_err-clear-clause-writes : goal.returns-in_err-clear-clause-writes
returns-in_err-clear-clause-writes g c = λ honest new.
    let view = g.S.Storage.view in
    let old = view (storage_of c.args.storage.now) in
    let mid = view (storage_of c.clear.new.storage) in
    handed_on (WritesThree c.args.header.now.fields old mid) c.from_residual.result c.in_err-clear.field-0.0 c.from_residual.ensures (stops_cleared 0 old mid (c.clear.ensures.honest honest) (c.clear.ensures.time honest))

pub returns-in_err-block-clause-writes : goal.returns-in_err-block-clause-writes
returns-in_err-block-clause-writes g c = λ honest new.
    let view = g.S.Storage.view in
    let old = view (storage_of c.args.storage.now) in
    let mid = view (storage_of c.clear.new.storage) in
    handed_on (WritesThree c.args.header.now.fields old mid) c.from_residual-in_err-block.result c.in_err-block.field-0.0 c.from_residual-in_err-block.ensures (stops_cleared 0 old mid (c.clear.ensures.honest honest) (c.clear.ensures.time honest))

pub returns-in_err-reftable-clause-writes : goal.returns-in_err-reftable-clause-writes
returns-in_err-reftable-clause-writes g c = λ honest new.
    let view = g.S.Storage.view in
    let old = view (storage_of c.args.storage.now) in
    let mid = view (storage_of c.clear.new.storage) in
    handed_on (WritesThree c.args.header.now.fields old mid) c.from_residual-in_err-reftable.result c.in_err-reftable.field-0.0 c.from_residual-in_err-reftable.ensures (stops_cleared 0 old mid (c.clear.ensures.honest honest) (c.clear.ensures.time honest))

pub returns-clause-writes : goal.returns-clause-writes
returns-clause-writes g c = λ honest new.
    let view = g.S.Storage.view in
    let old = view (storage_of c.args.storage.now) in
    let mid = view (storage_of c.clear.new.storage) in
    let still = c.clear.ensures.honest honest in
    writes_then c.args.header.now.fields old mid (view (storage_of c.write_three.new.storage)) c.write_three.result (stops_cleared 0 old mid still (c.clear.ensures.time honest))
    (c.write_three.ensures.writes still (c.in_ok-clear.ensures.cleared honest) new c.in_ok-block.ensures.counts c.in_ok-reftable.ensures.names)

pub returns-clause-alone : goal.returns-clause-alone
returns-clause-alone g c = λ honest new. c.write_three.ensures.alone (c.clear.ensures.honest honest) (c.in_ok-clear.ensures.cleared honest) new c.in_ok-block.ensures.counts c.in_ok-reftable.ensures.names

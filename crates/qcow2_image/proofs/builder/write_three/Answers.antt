use Rattle.std.proofs.Common.{◌≡◌, subst, sym, List, ℕ}
use Rattle.qcow2_image.proofs.Common.{IsHeaderIn, header_written, of_storage, storage_of, handed_on, WritesThree, fault_of_storage}
use Rattle.qcow2_image.proofs.Lemmas.{hands_fault, stops_first, stops_second, stops_third, new_stands, three_there}
use Rattle.qcow2_image.proofs.builder.write_three.Goals as goal

pub returns-in_err-write_new_refblock-clause-writes : goal.returns-in_err-write_new_refblock-clause-writes
returns-in_err-write_new_refblock-clause-writes g c = λ honest empty new counts names.
    let view = g.S.Storage.view in
    let start = storage_of c.args.storage.now in
    handed_on (WritesThree c.args.header.now.fields (view start) (view (storage_of c.write_new_refblock.new.self))) c.from_residual.result (of_storage c.in_err-write_new_refblock.field-0.0) c.from_residual.ensures
    (stops_first view c.args.header.now new c.args.block.now counts c.args.reftable.now names start honest empty (storage_of c.set_write_kind.new.self) (storage_of c.write_new_refblock.new.self) c.set_write_kind.ensures.storage c.write_new_refblock.result
    c.write_new_refblock.ensures.writes.written c.write_new_refblock.ensures.writes.calls)

pub returns-in_err-write_reftable-clause-writes : goal.returns-in_err-write_reftable-clause-writes
returns-in_err-write_reftable-clause-writes g c = λ honest empty new counts names.
    let view = g.S.Storage.view in
    let start = storage_of c.args.storage.now in
    handed_on (WritesThree c.args.header.now.fields (view start) (view (storage_of c.write_reftable.new.self))) c.from_residual-in_err-write_reftable.result (of_storage c.in_err-write_reftable.field-0.0) c.from_residual-in_err-write_reftable.ensures
    (stops_second view c.args.header.now new c.args.block.now counts c.args.reftable.now names start honest empty (storage_of c.set_write_kind.new.self) (storage_of c.write_new_refblock.new.self) c.set_write_kind.ensures.storage c.write_new_refblock.result
    c.write_new_refblock.ensures.writes.written c.write_new_refblock.ensures.writes.calls c.in_ok-write_new_refblock.field-0 c.in_ok-write_new_refblock.was (storage_of c.set_write_kind-2.new.self) (storage_of c.write_reftable.new.self) c.set_write_kind-2.ensures.storage c.write_reftable.result c.write_reftable.ensures.writes.written c.write_reftable.ensures.writes.calls)

pub returns-in_err-write_new_header-clause-writes : goal.returns-in_err-write_new_header-clause-writes
returns-in_err-write_new_header-clause-writes g c = λ honest empty new counts names.
    let view = g.S.Storage.view in
    let start = storage_of c.args.storage.now in
    handed_on (WritesThree c.args.header.now.fields (view start) (view (storage_of c.write_new_header.new.self))) c.from_residual-in_err-write_new_header.result (of_storage c.in_err-write_new_header.field-0.0) c.from_residual-in_err-write_new_header.ensures
    (stops_third view c.args.header.now new c.args.block.now counts c.args.reftable.now names start honest empty (storage_of c.set_write_kind.new.self) (storage_of c.write_new_refblock.new.self) c.set_write_kind.ensures.storage c.write_new_refblock.result
    c.write_new_refblock.ensures.writes.written c.write_new_refblock.ensures.writes.calls c.in_ok-write_new_refblock.field-0 c.in_ok-write_new_refblock.was (storage_of c.set_write_kind-2.new.self) (storage_of c.write_reftable.new.self) c.set_write_kind-2.ensures.storage c.write_reftable.result c.write_reftable.ensures.writes.written c.write_reftable.ensures.writes.calls c.in_ok-write_reftable.field-0 c.in_ok-write_reftable.was
    c.write_new_refblock.ensures.of_image (storage_of c.set_write_kind-3.new.self) (storage_of c.write_new_header.new.self) c.set_write_kind-3.ensures.storage c.write_new_header.result c.write_new_header.ensures.writes.written c.write_new_header.ensures.writes.calls (c.write_new_header.ensures.reads new.names))

pub returns-clause-writes : goal.returns-clause-writes
returns-clause-writes g c = λ honest empty new counts names.
    let view = g.S.Storage.view in
    let start = storage_of c.args.storage.now in (
      stops_third view c.args.header.now new c.args.block.now counts c.args.reftable.now names start honest empty (storage_of c.set_write_kind.new.self) (storage_of c.write_new_refblock.new.self) c.set_write_kind.ensures.storage c.write_new_refblock.result
          c.write_new_refblock.ensures.writes.written c.write_new_refblock.ensures.writes.calls c.in_ok-write_new_refblock.field-0 c.in_ok-write_new_refblock.was (storage_of c.set_write_kind-2.new.self) (storage_of c.write_reftable.new.self) c.set_write_kind-2.ensures.storage c.write_reftable.result c.write_reftable.ensures.writes.written c.write_reftable.ensures.writes.calls c.in_ok-write_reftable.field-0 c.in_ok-write_reftable.was
          c.write_new_refblock.ensures.of_image (storage_of c.set_write_kind-3.new.self) (storage_of c.write_new_header.new.self) c.set_write_kind-3.ensures.storage c.write_new_header.result c.write_new_header.ensures.writes.written c.write_new_header.ensures.writes.calls (c.write_new_header.ensures.reads new.names),
      new_stands view c.args.header.now new c.args.block.now counts c.args.reftable.now names start honest empty (storage_of c.set_write_kind.new.self) (storage_of c.write_new_refblock.new.self) c.set_write_kind.ensures.storage c.write_new_refblock.result
          c.write_new_refblock.ensures.writes.written c.write_new_refblock.ensures.writes.calls c.in_ok-write_new_refblock.field-0 c.in_ok-write_new_refblock.was (storage_of c.set_write_kind-2.new.self) (storage_of c.write_reftable.new.self) c.set_write_kind-2.ensures.storage c.write_reftable.result c.write_reftable.ensures.writes.written c.write_reftable.ensures.writes.calls c.in_ok-write_reftable.field-0 c.in_ok-write_reftable.was
          c.write_new_refblock.ensures.of_image (storage_of c.set_write_kind-3.new.self) (storage_of c.write_new_header.new.self) c.set_write_kind-3.ensures.storage c.write_new_header.result c.write_new_header.ensures.writes.written c.write_new_header.ensures.writes.calls (c.write_new_header.ensures.reads new.names) c.in_ok-write_new_header.field-0 c.in_ok-write_new_header.was,
    )

pub returns-clause-alone : goal.returns-clause-alone
returns-clause-alone g c = λ honest empty new counts names.
    let view = g.S.Storage.view in
    let start = storage_of c.args.storage.now in
    three_there view c.args.header.now new c.args.block.now counts c.args.reftable.now names start honest empty (storage_of c.set_write_kind.new.self) (storage_of c.write_new_refblock.new.self) c.set_write_kind.ensures.storage c.write_new_refblock.result
    c.write_new_refblock.ensures.writes.written c.write_new_refblock.ensures.writes.calls c.in_ok-write_new_refblock.field-0 c.in_ok-write_new_refblock.was (storage_of c.set_write_kind-2.new.self) (storage_of c.write_reftable.new.self) c.set_write_kind-2.ensures.storage c.write_reftable.result c.write_reftable.ensures.writes.written c.write_reftable.ensures.writes.calls c.in_ok-write_reftable.field-0 c.in_ok-write_reftable.was
    c.write_new_refblock.ensures.of_image (storage_of c.set_write_kind-3.new.self) (storage_of c.write_new_header.new.self) c.set_write_kind-3.ensures.storage c.write_new_header.result c.write_new_header.ensures.writes.written c.write_new_header.ensures.writes.calls (c.write_new_header.ensures.reads new.names) c.in_ok-write_new_header.field-0 c.in_ok-write_new_header.was

pub returns-clause-stands : goal.returns-clause-stands
returns-clause-stands g c = λ honest names.
    let view = g.S.Storage.view in
    let first = c.write_new_refblock.ensures.writes.calls.honest (subst (λ s. (view s).is_honest) (sym c.set_write_kind.ensures.storage) honest) in
    let second = c.write_reftable.ensures.writes.calls.honest (subst (λ s. (view s).is_honest) (sym c.set_write_kind-2.ensures.storage) first) in
    let third = subst (λ s. (view s).is_honest) (sym c.set_write_kind-3.ensures.storage) second in
    let is : (g.S.Storage.view (storage_of c.write_new_header.new.self)).contents ≡ header_written c.args.header.now (g.S.Storage.view (storage_of c.set_write_kind-3.new.self)).contents = rw c.in_ok-write_new_header.was at (c.write_new_header.ensures.writes.written third) in
    subst (λ (l : List ℕ). IsHeaderIn c.args.header.now l) (sym is) (c.write_new_header.ensures.reads names)

pub returns-in_err-write_new_refblock-clause-fault : goal.returns-in_err-write_new_refblock-clause-fault
returns-in_err-write_new_refblock-clause-fault g c = hands_fault c.from_residual.result (of_storage c.in_err-write_new_refblock.field-0.0) c.from_residual.ensures (fault_of_storage c.in_err-write_new_refblock.field-0.0)

pub returns-in_err-write_reftable-clause-fault : goal.returns-in_err-write_reftable-clause-fault
returns-in_err-write_reftable-clause-fault g c = hands_fault c.from_residual-in_err-write_reftable.result (of_storage c.in_err-write_reftable.field-0.0) c.from_residual-in_err-write_reftable.ensures (fault_of_storage c.in_err-write_reftable.field-0.0)

pub returns-in_err-write_new_header-clause-fault : goal.returns-in_err-write_new_header-clause-fault
returns-in_err-write_new_header-clause-fault g c = hands_fault c.from_residual-in_err-write_new_header.result (of_storage c.in_err-write_new_header.field-0.0) c.from_residual-in_err-write_new_header.ensures (fault_of_storage c.in_err-write_new_header.field-0.0)

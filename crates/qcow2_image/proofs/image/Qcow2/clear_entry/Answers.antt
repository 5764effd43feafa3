use Rattle.qcow2_image.proofs.Common.{refl, sym, subst, L2TableView, copied_host, zero_entry, None, ClearsEntry}
use Rattle.qcow2_metadata.specs.L2Table.{cover_at}
use Rattle.qcow2_image.proofs.Clear.Held.{still_new_data}
use Rattle.qcow2_image.proofs.image.Qcow2.clear_entry.Goals as goal

pub returns-in-Uncovered : goal.returns-in-Uncovered
returns-in-Uncovered g c =
    let old = c.args.self.now in
    let call = c.l2_discard_cluster-old_data in
    let caches = c.l2_discard_cluster-old_data.new.self in
    subst (λ how. ClearsEntry how c.args.table c.args.index old (record old { file = record old.file { caches = caches } })) (sym c.in-Uncovered.is)
    (record { rest = refl; order = call.ensures.step.order; marks = call.ensures.step.marks; new_data = still_new_data old.file.caches caches c.args.table c.args.index (λ t. 0) call.result call.ensures.entry call.ensures.refused; answer = call.result; cleared = call.ensures.discarded; recorded = call.ensures.recorded; behind = call.ensures.step.header_cluster })

pub returns-in-Zeros : goal.returns-in-Zeros
returns-in-Zeros g c =
    let old = c.args.self.now in
    let call = c.l2_zero_cluster-old_data in
    let caches = c.l2_zero_cluster-old_data.new.self in
    subst (λ how. ClearsEntry how c.args.table c.args.index old (record old { file = record old.file { caches = caches } })) (sym c.in-Zeros.is)
    (record { rest = refl; order = call.ensures.step.order; marks = call.ensures.step.marks; new_data = still_new_data old.file.caches caches c.args.table c.args.index (λ t. zero_entry None) call.result call.ensures.entry call.ensures.refused; answer = call.result; cleared = call.ensures.zeroed; recorded = call.ensures.recorded; behind = call.ensures.step.header_cluster })

pub returns-in-KeptZeros : goal.returns-in-KeptZeros
returns-in-KeptZeros g c =
    let old = c.args.self.now in
    let call = c.l2_zero_cluster-old_data-in-KeptZeros in
    let caches = c.l2_zero_cluster-old_data-in-KeptZeros.new.self in
    subst (λ how. ClearsEntry how c.args.table c.args.index old (record old { file = record old.file { caches = caches } })) (sym c.in-KeptZeros.is)
    (record { rest = refl; order = call.ensures.step.order; marks = call.ensures.step.marks; new_data = still_new_data old.file.caches caches c.args.table c.args.index (λ (t : L2TableView). zero_entry (copied_host (cover_at t c.args.index))) call.result call.ensures.entry call.ensures.refused; answer = call.result; cleared = call.ensures.zeroed; recorded = call.ensures.recorded; behind = call.ensures.step.header_cluster })

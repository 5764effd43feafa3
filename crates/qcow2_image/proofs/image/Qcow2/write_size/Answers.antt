use Rattle.qcow2_image.proofs.image.Qcow2.write_size.Goals as goal
use Rattle.std.proofs.Common.{◌≡◌, ◌∙◌, sym, ap, subst, Err}
use Rattle.qcow2_image.proofs.Common.{HeaderView, with_fields, with_size, size_written, Changes, storage_of, Qcow2, WritesSize, told_kept, notes_of_storage}
use Rattle.qcow2_image.proofs.Resize.SizeWritten.{lasts_resized, lasts_sized, size_is_refused, size_is_set}
use Rattle.qcow2_image.proofs.Call.BehindHeader.{behind_bits, behind_size, behind_then}

pub returns-in-Ok-clause-writes : goal.returns-in-Ok-clause-writes
returns-in-Ok-clause-writes g c = λ out sound.
    let view = g.S.Storage.view in
    let old = c.args.self.now in
    let after = c.write_size.new.self in
    let asked = storage_of c.set_write_kind.new.self in
    let wrote = subst (λ (v : HeaderView). Changes (view asked) (view (storage_of after)) c.write_size.result (size_written v.fields)) c.set_size.ensures c.write_size.ensures.writes.written in
    size_is_set view g.F.BackingDisk.backing out old sound c.args.size c.ranges.size.fits after c.write_size.result asked c.set_write_kind.ensures.storage wrote c.write_size.ensures.writes.calls c.in-Ok.field-0 c.in-Ok.is _
    (ap (λ (v : HeaderView). record old { file = record old.file { storage = after; header = v } }) c.set_size.ensures)

pub returns-in-Ok-clause-lasts : goal.returns-in-Ok-clause-lasts
returns-in-Ok-clause-lasts g c = λ p out sound.
    let view = g.S.Storage.view in
    let old = c.args.self.now in
    let after = c.write_size.new.self in
    let asked = storage_of c.set_write_kind.new.self in
    let wrote = subst (λ (v : HeaderView). Changes (view asked) (view (storage_of after)) c.write_size.result (size_written v.fields)) c.set_size.ensures c.write_size.ensures.writes.written in
    lasts_sized view g.F.BackingDisk.backing out p old sound c.args.size c.ranges.size.fits after c.write_size.result asked c.set_write_kind.ensures.storage wrote c.write_size.ensures.writes.calls c.in-Ok.field-0 c.in-Ok.is _
    (ap (λ (v : HeaderView). record old { file = record old.file { storage = after; header = v } }) c.set_size.ensures)

pub returns-in-Err-clause-writes : goal.returns-in-Err-clause-writes
returns-in-Err-clause-writes g c = λ out sound.
    let view = g.S.Storage.view in
    let old = c.args.self.now in
    let after = c.write_size.new.self in
    let asked = storage_of c.set_write_kind.new.self in
    let wrote = subst (λ (v : HeaderView). Changes (view asked) (view (storage_of after)) c.write_size.result (size_written v.fields)) c.set_size.ensures c.write_size.ensures.writes.written in
    let header : c.set_size-in-Err.new.self ≡ old.file.header = c.set_size-in-Err.ensures ∙ ap (λ n. with_fields c.set_size.new.self (with_size c.set_size.new.self.fields n)) c.size-old.ensures ∙ ap (λ (v : HeaderView). with_fields v (with_size v.fields old.file.header.fields.size)) c.set_size.ensures in
    let new : Qcow2 _ _ = record old { file = record old.file { storage = after; header = c.set_size-in-Err.new.self } } in
    subst (λ e. WritesSize view g.F.BackingDisk.backing old new out c.args.size (Err e)) (sym c.from.ensures)
    (size_is_refused view g.F.BackingDisk.backing out old sound c.args.size c.ranges.size.fits after c.write_size.result asked c.set_write_kind.ensures.storage wrote c.write_size.ensures.writes.calls c.in-Err.refusal c.in-Err.is new
    (ap (λ (v : HeaderView). record old { file = record old.file { storage = after; header = v } }) header))

pub returns-in-Err-clause-lasts : goal.returns-in-Err-clause-lasts
returns-in-Err-clause-lasts g c = λ p out sound.
    let view = g.S.Storage.view in
    let after = c.write_size.new.self in
    let asked = storage_of c.set_write_kind.new.self in
    let wrote = subst (λ (v : HeaderView). Changes (view asked) (view (storage_of after)) c.write_size.result (size_written v.fields)) c.set_size.ensures c.write_size.ensures.writes.written in
    lasts_resized view g.F.BackingDisk.backing out p c.args.self.now sound c.args.size c.ranges.size.fits c.write_size.result asked (storage_of after) c.set_write_kind.ensures.storage wrote c.write_size.ensures.writes.calls

pub returns-in-Ok-clause-notes : goal.returns-in-Ok-clause-notes
returns-in-Ok-clause-notes g c = notes_of_storage (told_kept c.args.self.now.file.storage c.set_write_kind.new.self c.write_size.new.self c.write_size.result c.set_write_kind.ensures.storage c.set_write_kind.ensures.changed _ c.write_size.ensures.writes.written c.write_size.ensures.writes.calls c.write_size.ensures.writes.recorded)

pub returns-in-Err-clause-notes : goal.returns-in-Err-clause-notes
returns-in-Err-clause-notes g c = notes_of_storage (told_kept c.args.self.now.file.storage c.set_write_kind.new.self c.write_size.new.self c.write_size.result c.set_write_kind.ensures.storage c.set_write_kind.ensures.changed _ c.write_size.ensures.writes.written c.write_size.ensures.writes.calls c.write_size.ensures.writes.recorded)

pub returns-in-Ok-clause-header_cluster : goal.returns-in-Ok-clause-header_cluster
returns-in-Ok-clause-header_cluster g c = behind_then (behind_size c.write_size.result c.set_size.new.self.fields (ap g.S.Storage.view c.set_write_kind.ensures.storage) c.write_size.ensures.writes.written c.write_size.ensures.writes.calls) (behind_bits (ap (λ (v : HeaderView). v.fields.cluster_bits) c.set_size.ensures))

pub returns-in-Err-clause-header_cluster : goal.returns-in-Err-clause-header_cluster
returns-in-Err-clause-header_cluster g c =
    behind_then (behind_size c.write_size.result c.set_size.new.self.fields (ap g.S.Storage.view c.set_write_kind.ensures.storage) c.write_size.ensures.writes.written c.write_size.ensures.writes.calls)
    (behind_bits (ap (λ (v : HeaderView). v.fields.cluster_bits) c.set_size-in-Err.ensures ∙ ap (λ (v : HeaderView). v.fields.cluster_bits) c.set_size.ensures))

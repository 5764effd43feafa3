use Rattle.std.proofs.Common.{◌≡◌, ◌∙◌, ℕ, Option, is_some, ap, subst, sym, true}
use Rattle.qcow2_image.proofs.Call.DataFiles.{none_still}
use Rattle.qcow2_image.proofs.Common.{OnOk, byte_at, header, view_in, storage_of, Enlarges, HasNoLeaks}
use Rattle.qcow2_image.proofs.Lemmas.{opening_unlimited, told_closed, told_opening, usable_opened, opening_fault, unmapped_opened, flushed_enlarges, opening_stops, opens_unwritten, enlarged_so, unwritten_mid, limits_as, other_limit}
use Rattle.qcow2_image.proofs.Open.Left.{opened_none}
use Rattle.qcow2_image.proofs.builder.grow_new_image.Goals as goal

pub returns-then-size-eq0-clause-enlarges : goal.returns-then-size-eq0-clause-enlarges
returns-then-size-eq0-clause-enlarges g c = λ honest unwritten.
    let view = g.S.Storage.view in
    let old = view (storage_of c.args.storage) in
    let new = storage_of c.flush_new_image-flushed.new.storage in
    subst (λ s. Enlarges c.args.mode c.args.size old (view s) c.flush_new_image-flushed.result) (sym c.into_inner.ensures)
    (flushed_enlarges c.args.mode old (view new) honest unwritten (c.flush_new_image-flushed.ensures.same honest) c.flush_new_image-flushed.ensures.time c.args.size c.if-size-eq0.true c.flush_new_image-flushed.result)

pub returns-in-Err-clause-enlarges : goal.returns-in-Err-clause-enlarges
returns-in-Err-clause-enlarges g c = λ honest unwritten. opening_stops c.args.mode c.args.size (g.S.Storage.view (storage_of c.args.storage)) (g.S.Storage.view c.in-Err.storage) unwritten (c.in-Err.ensures.step.since honest unwritten.consistent)

pub returns-in-Ok-clause-enlarges : goal.returns-in-Ok-clause-enlarges
returns-in-Ok-clause-enlarges g c = λ honest unwritten.
    let view = g.S.Storage.view in
    let below = g.F.BackingDisk.backing in
    let opened = (c.in-Ok.ensures.opens honest unwritten.consistent).opened in
    let since = c.in-Ok.ensures.step.since honest unwritten.consistent in
    let format = c.in-Ok.ensures.image.format honest in
    let uncleared : (header (byte_at (view (storage_of c.args.storage)).contents)).autoclear ≡ 0 → (view_in view c.in-Ok.image.file).contents ≡ (view (storage_of c.args.storage)).contents = λ none. (c.in-Ok.ensures.step.storage.contents honest).contents ∙ opened_none true (view (storage_of c.args.storage)).contents none in
    let mid = unwritten_mid view below c.args.mode c.args.size (storage_of c.args.storage) c.in-Ok.image unwritten since opened format uncleared in
    enlarged_so view below c.args.mode c.args.size (storage_of c.args.storage) c.in-Ok.image unwritten since opened format uncleared c.grow_and_flush-done.new.image c.into_storage.result c.grow_and_flush-done.result
    c.into_storage.ensures (c.grow_and_flush-done.ensures.enlarges opened c.in-Ok.ensures.image.writable_is c.in-Ok.ensures.below.0 mid)

pub returns-in-Err-clause-fault : goal.returns-in-Err-clause-fault
returns-in-Err-clause-fault g c = λ honest unwritten third. opening_fault (g.S.Storage.view (storage_of c.args.storage)).contents unwritten.consistent c.in-Err.refusal (c.in-Err.ensures.step.cause.1 honest)

pub returns-in-Err-clause-faults : goal.returns-in-Err-clause-faults
returns-in-Err-clause-faults g c = λ none. told_opening g.S.Storage.view (g.S.Storage.view (storage_of c.args.storage)).faults c.in-Err.storage c.in-Err.refusal c.in-Err.ensures.step.faults

pub returns-in-Ok-clause-fault : goal.returns-in-Ok-clause-fault
returns-in-Ok-clause-fault g c = λ honest unwritten third.
    let view = g.S.Storage.view in
    let below = g.F.BackingDisk.backing in
    let opened = (c.in-Ok.ensures.opens honest unwritten.consistent).opened in
    let still = opens_unwritten 0 (view (storage_of c.args.storage)) (view_in view c.in-Ok.image.file) unwritten (c.in-Ok.ensures.step.since honest unwritten.consistent) in
    let unmapped = unmapped_opened view below c.in-Ok.image (header (byte_at (view (storage_of c.args.storage)).contents)) 0 opened still third (c.in-Ok.ensures.image.format honest) in
    c.grow_and_flush-done.ensures.fault (usable_opened view below c.in-Ok.image opened c.in-Ok.ensures.image.writable_is) c.in-Ok.ensures.image.writable_is c.in-Ok.ensures.below.0 opened.sound unmapped

pub returns-in-Ok-clause-faults : goal.returns-in-Ok-clause-faults
returns-in-Ok-clause-faults g c = λ none.
    told_closed g.S.Storage.view g.F.BackingDisk.backing none (g.S.Storage.view (storage_of c.args.storage)).faults c.in-Ok.image c.grow_and_flush-done.new.image c.into_storage.result c.grow_and_flush-done.result c.in-Ok.ensures.below.1 (none_still c.grow_and_flush-done.new.image.data_file (c.grow_and_flush-done.ensures.beside ∙ ap (λ (file : Option _). is_some file) c.in-Ok.ensures.below.1)) c.in-Ok.ensures.step.faults.told
    c.grow_and_flush-done.ensures.faults c.into_storage.ensures

pub returns-in-Ok-clause-leaks : goal.returns-in-Ok-clause-leaks
returns-in-Ok-clause-leaks g c = λ honest unwritten none.
    let opens = c.in-Ok.ensures.opens honest unwritten.consistent in
    let flushed = c.grow_and_flush-done.ensures.leaks opens.opened c.in-Ok.ensures.image.writable_is (λ k. ap (λ (f : ℕ → ℕ). f k) opens.surplus ∙ none k) in
    subst (λ s. OnOk c.grow_and_flush-done.result (HasNoLeaks (byte_at (g.S.Storage.view s).contents))) (sym c.into_storage.ensures) flushed

pub returns-in-Err-clause-limit : goal.returns-in-Err-clause-limit
returns-in-Err-clause-limit g c = λ honest unwritten new_image uncleared.
    let contents = (g.S.Storage.view (storage_of c.args.storage)).contents in
    other_limit _ c.in-Err.refusal (opening_unlimited contents c.in-Err.refusal new_image (c.in-Err.ensures.step.cause.1 honest))

pub returns-in-Ok-clause-limit : goal.returns-in-Ok-clause-limit
returns-in-Ok-clause-limit g c = λ honest unwritten new_image uncleared.
    let view = g.S.Storage.view in
    let contents = (view (storage_of c.args.storage)).contents in
    let image = c.in-Ok.image in
    let is = (c.in-Ok.ensures.opens honest unwritten.consistent).opened in
    limits_as c.grow_and_flush-done.result
    (λ may_fail. record {
      opened = image;
      is_opened = is;
      stands = (c.in-Ok.ensures.step.storage.contents honest).contents ∙ opened_none true contents uncleared;
      emptied = c.in-Ok.ensures.list honest unwritten.consistent;
      limit = may_fail.0;
      left = c.grow_and_flush-done.new.image;
      is_left = sym c.into_storage.ensures;
      leaves = may_fail.1;
    })
    (c.grow_and_flush-done.ensures.limit (usable_opened view g.F.BackingDisk.backing image is c.in-Ok.ensures.image.writable_is) is.sound)

use Rattle.std.proofs.Common.{◌≡◌, ◌<◌, ℕ, Result, Ok, Err, refl, sym, ap, ◌∙◌, subst, length, inl, inr, IfOk}
use Rattle.program_parts.proofs.Common.{FaultsReported, ImageError, told_opening, fault_reason, byte_at, header, Qcow2CreateBuilder, storage_of_image, new_disk_consistent, CountsBoth, IsImageMade, IsImageOf, IsImageOfSize, IsStopOfMaking, MayFailOnceCreated, asked_for, HeaderFields, EachMomentSince, fault_of_storage, IsFault, InvalidOption, Limit, IsReasonNotToCreate, IsReasonNotToCreateOpen, longest_disk}
use Rattle.program_parts.proofs.Counted.{both_of, both_retold, both_since, image_refused, raw_refused}
use Rattle.program_parts.proofs.Imported.{of_ok, ok_both, ok_then, has_image, made_of}
use Rattle.program_parts.proofs.Making.{counts_imported, counts_opened, new_image, once_opened, then_opened, while_created, while_opened}
use Rattle.program_parts.proofs.Refused.{allocates_alone, asked_so, plain_so, err_then, header_is, met_once_created, no_layout, not_refused, of_err, of_layout, opening_refused, unnamed, untouched}
use Rattle.program_parts.proofs.conversions.make_image.Goals as goal

pub returns-in-Ok-open_alone-clause-image : goal.returns-in-Ok-open_alone-clause-image
returns-in-Ok-open_alone-clause-image g c = λ honest.
    let view = g.S.Storage.view in
    let bytes = (g.R.Storage.view c.size.new.self).contents in
    let asked = asked_so c.args.storage c.in-Ok.size c.args.cluster c.args.width c.new.result c.size-2.result c.cluster_size.result c.refcount_width.result c.new.ensures c.size-2.ensures c.cluster_size.ensures c.refcount_width.ensures in
    let image_is : c.refcount_width.result.image ≡ c.args.storage = ap (λ (b : Qcow2CreateBuilder g.row.S.Denot). b.image) asked in
    let clusters_are : c.refcount_width.result.cluster_size ≡ c.args.cluster = ap (λ (b : Qcow2CreateBuilder g.row.S.Denot). b.cluster_size) asked in
    let width_is : c.refcount_width.result.refcount_width ≡ c.args.width = ap (λ (b : Qcow2CreateBuilder g.row.S.Denot). b.refcount_width) asked in
    let made = of_ok _ c.create-storage.result.1 c.in_default.field-0 c.in_default.is (c.create-storage.ensures.created (plain_so _ _ asked refl refl) (subst (λ s. (view s).is_honest) (sym image_is) honest)) in
    let first : IsImageOfSize c.refcount_width.result.size (byte_at (view c.create-storage.result.0).contents) = new_image c.refcount_width.result.preallocate _ _ made.new_disk in
    let since = c.in-Ok-open_alone.ensures.step.since made.honest first.consistent in
    let then : IsImageOfSize c.refcount_width.result.size (byte_at (view (storage_of_image c.in-Ok-open_alone.image)).contents) = once_opened c.refcount_width.result.size (view c.create-storage.result.0) (view (storage_of_image c.in-Ok-open_alone.image)) first since in
    let from = c.in-Ok-open_alone.ensures.opens made.honest (new_disk_consistent c.refcount_width.result.preallocate c.refcount_width.result.size (byte_at (view c.create-storage.result.0).contents) made.new_disk) in
    let writable = c.in-Ok-open_alone.ensures.image.writable_is in
    let image = c.in-Ok-open_alone.image in
    let sized = ap (λ (h : HeaderFields). h.size) (header_is view _ image from.opened (view (storage_of_image image)).contents refl) ∙ then.size in
    let filling = c.fill-imported.ensures.stops c.refcount_width.result.size from.opened then in
    subst (λ s. IfOk c.fill-imported.result (λ n. IsImageMade (g.R.Storage.view c.args.raw.now) n (view s) c.args.cluster c.args.width)) (sym c.into_storage.ensures)
    (made_of c.fill-imported.result (g.R.Storage.view c.args.raw.now) (view (storage_of_image c.fill-imported.new.image)) c.args.cluster c.args.width _ c.refcount_width.result.size
    (filling.honest (c.in-Ok-open_alone.ensures.step.storage.honest made.honest)) (c.fill-imported.ensures.stands c.refcount_width.result.size from.opened then) sized
    (ok_then c.fill-imported.result (λ n counts. counts.disk from.opened) c.fill-imported.ensures.count)
    (λ raw_honest.
    ok_both c.fill-imported.result (λ n imports empty.
    subst (λ b. IsImageOf (view (storage_of_image c.fill-imported.new.image)) b c.args.cluster c.args.width) (c.size.ensures.same raw_honest)
    (subst (λ k. IsImageOf (view (storage_of_image c.fill-imported.new.image)) bytes k c.args.width) (made.clusters ∙ clusters_are)
    (has_image view _ c.in-Ok-open_alone.image c.fill-imported.new.image bytes n c.args.width (header (byte_at (view c.create-storage.result.0).contents))
    (counts_imported view _ c.in-Ok-open_alone.image c.fill-imported.new.image c.refcount_width.result.size bytes (Ok n) imports from.opened then ∙ counts_opened c.refcount_width.result.size _ _ first since ∙ made.counts ∙ width_is) from.opened c.in-Ok-open_alone.ensures.below.0 (c.in-Ok-open_alone.ensures.image.format made.honest) writable
    (λ k. ap (λ (f : ℕ → ℕ). f k) from.surplus ∙ made.no_leaks k) c.fill-imported.ensures.image empty imports)))
    (c.fill-imported.ensures.sees (c.size.ensures.calls.honest raw_honest)) (c.fill-imported.ensures.emptied writable)))

pub returns-in-Ok-open_alone-clause-count : goal.returns-in-Ok-open_alone-clause-count
returns-in-Ok-open_alone-clause-count g c = λ raw_honest.
    ok_then c.fill-imported.result (λ n counts. counts.raw_disk (c.size.ensures.calls.honest raw_honest) ∙ ap length (c.size.ensures.same raw_honest)) c.fill-imported.ensures.count

pub returns-in-Err-clause-faults : goal.returns-in-Err-clause-faults
returns-in-Err-clause-faults g c =
    let n = (g.S.Storage.view c.args.storage).faults in
    let before = (g.R.Storage.view c.args.raw.now).faults in
    let now = (g.R.Storage.view c.size.new.self).faults in
    subst (λ (x : ImageError). CountsBoth {T = ℕ} n n before now (Err x)) (sym c.from.ensures) (raw_refused n before now c.size.result c.in-Err.e c.size.ensures.calls.cause c.in-Err.is)

pub returns-in-Err-created-clause-faults : goal.returns-in-Err-created-clause-faults
returns-in-Err-created-clause-faults g c =
    let view = g.S.Storage.view in
    let asked = asked_so c.args.storage c.in-Ok.size c.args.cluster c.args.width c.new.result c.size-2.result c.cluster_size.result c.refcount_width.result c.new.ensures c.size-2.ensures c.cluster_size.ensures c.refcount_width.ensures in
    let first = ap (λ (b : Qcow2CreateBuilder g.row.S.Denot). (view b.image).faults) asked in
    both_retold _ _ _ _ c.in-Err-created.e (image_refused _ _ _ _ _ c.in-Err-created.e first c.in-Ok.ensures.calls.cause.told (subst (λ (r : Result _ _). FaultsReported (view c.refcount_width.result.image).faults (view c.create-storage.result.0).faults r) c.in-Err-created.is (c.create-storage.ensures.faults (plain_so _ _ asked refl refl))))

pub returns-in-Err-open_alone-clause-faults : goal.returns-in-Err-open_alone-clause-faults
returns-in-Err-open_alone-clause-faults g c =
    let view = g.S.Storage.view in
    let asked = asked_so c.args.storage c.in-Ok.size c.args.cluster c.args.width c.new.result c.size-2.result c.cluster_size.result c.refcount_width.result c.new.ensures c.size-2.ensures c.cluster_size.ensures c.refcount_width.ensures in
    let first = ap (λ (b : Qcow2CreateBuilder g.row.S.Denot). (view b.image).faults) asked in
    let made = (subst (λ (r : Result _ _). FaultsReported (view c.refcount_width.result.image).faults (view c.create-storage.result.0).faults r) c.in_default.is (c.create-storage.ensures.faults (plain_so _ _ asked refl refl))).told in
    image_refused _ _ _ _ _ c.in-Err-open_alone.e (made ∙ first) c.in-Ok.ensures.calls.cause.told (told_opening view (view c.create-storage.result.0).faults c.in-Err-open_alone.storage c.in-Err-open_alone.e c.in-Err-open_alone.ensures.step.faults)

pub returns-in-Ok-open_alone-clause-faults : goal.returns-in-Ok-open_alone-clause-faults
returns-in-Ok-open_alone-clause-faults g c =
    let view = g.S.Storage.view in
    let asked = asked_so c.args.storage c.in-Ok.size c.args.cluster c.args.width c.new.result c.size-2.result c.cluster_size.result c.refcount_width.result c.new.ensures c.size-2.ensures c.cluster_size.ensures c.refcount_width.ensures in
    let first = ap (λ (b : Qcow2CreateBuilder g.row.S.Denot). (view b.image).faults) asked in
    let made = (subst (λ (r : Result _ _). FaultsReported (view c.refcount_width.result.image).faults (view c.create-storage.result.0).faults r) c.in_default.is (c.create-storage.ensures.faults (plain_so _ _ asked refl refl))).told in
    both_since _ _ _ _ _ _ _ (c.in-Ok-open_alone.ensures.step.faults.told ∙ made ∙ first) c.in-Ok.ensures.calls.cause.told (both_of view _ (λ b. refl) c.in-Ok-open_alone.image c.fill-imported.new.image c.into_storage.result _ _ c.fill-imported.result c.in-Ok-open_alone.ensures.below.1 c.fill-imported.ensures.image.beside c.fill-imported.ensures.faults c.into_storage.ensures)

pub returns-in-Err-created-clause-stops : goal.returns-in-Err-created-clause-stops
returns-in-Err-created-clause-stops g c = λ raw_honest honest.
    let view = g.S.Storage.view in
    let raw = (g.R.Storage.view c.args.raw.now).contents in
    let made = view c.create-storage.result.0 in
    let asked = asked_so c.args.storage c.in-Ok.size c.args.cluster c.args.width c.new.result c.size-2.result c.cluster_size.result c.refcount_width.result c.new.ensures c.size-2.ensures c.cluster_size.ensures c.refcount_width.ensures in
    let image_is : c.refcount_width.result.image ≡ c.args.storage = ap (λ (b : Qcow2CreateBuilder g.row.S.Denot). b.image) asked in
    let size_is : c.refcount_width.result.size ≡ length raw = ap (λ (b : Qcow2CreateBuilder g.row.S.Denot). b.size) asked ∙ c.in-Ok.ensures.size raw_honest in
    subst (λ s. EachMomentSince (view s) made (λ b. IsStopOfMaking (length raw) (byte_at b))) image_is
    (subst (λ n. EachMomentSince (view c.refcount_width.result.image) made (λ b. IsStopOfMaking n (byte_at b))) size_is
    (while_created c.refcount_width.result.preallocate c.refcount_width.result.size _ made (c.create-storage.ensures.stops (plain_so _ _ asked refl refl) (subst (λ s. (view s).is_honest) (sym image_is) honest))))

pub returns-in-Err-open_alone-clause-stops : goal.returns-in-Err-open_alone-clause-stops
returns-in-Err-open_alone-clause-stops g c = λ raw_honest honest.
    let view = g.S.Storage.view in
    let raw = (g.R.Storage.view c.args.raw.now).contents in
    let n = c.refcount_width.result.size in
    let start = view c.refcount_width.result.image in
    let made = view c.create-storage.result.0 in
    let opened = view c.in-Err-open_alone.storage in
    let asked = asked_so c.args.storage c.in-Ok.size c.args.cluster c.args.width c.new.result c.size-2.result c.cluster_size.result c.refcount_width.result c.new.ensures c.size-2.ensures c.cluster_size.ensures c.refcount_width.ensures in
    let image_is : c.refcount_width.result.image ≡ c.args.storage = ap (λ (b : Qcow2CreateBuilder g.row.S.Denot). b.image) asked in
    let size_is : n ≡ length raw = ap (λ (b : Qcow2CreateBuilder g.row.S.Denot). b.size) asked ∙ c.in-Ok.ensures.size raw_honest in
    let from = subst (λ s. (view s).is_honest) (sym image_is) honest in
    let created = of_ok _ c.create-storage.result.1 c.in_default.field-0 c.in_default.is (c.create-storage.ensures.created (plain_so _ _ asked refl refl) from) in
    let first : IsImageOfSize n (byte_at made.contents) = new_image c.refcount_width.result.preallocate n _ created.new_disk in
    let since = c.in-Err-open_alone.ensures.step.since created.honest first.consistent in
    subst (λ s. EachMomentSince (view s) opened (λ b. IsStopOfMaking (length raw) (byte_at b))) image_is
    (subst (λ n. EachMomentSince start opened (λ b. IsStopOfMaking n (byte_at b))) size_is
    (then_opened n start made opened (while_created c.refcount_width.result.preallocate n start made (c.create-storage.ensures.stops (plain_so _ _ asked refl refl) from)) (while_opened n made opened first since)))

pub returns-in-Ok-open_alone-clause-stops : goal.returns-in-Ok-open_alone-clause-stops
returns-in-Ok-open_alone-clause-stops g c = λ raw_honest honest.
    let view = g.S.Storage.view in
    let raw = (g.R.Storage.view c.args.raw.now).contents in
    let n = c.refcount_width.result.size in
    let start = view c.refcount_width.result.image in
    let made = view c.create-storage.result.0 in
    let opened = view (storage_of_image c.in-Ok-open_alone.image) in
    let filled = view (storage_of_image c.fill-imported.new.image) in
    let asked = asked_so c.args.storage c.in-Ok.size c.args.cluster c.args.width c.new.result c.size-2.result c.cluster_size.result c.refcount_width.result c.new.ensures c.size-2.ensures c.cluster_size.ensures c.refcount_width.ensures in
    let image_is : c.refcount_width.result.image ≡ c.args.storage = ap (λ (b : Qcow2CreateBuilder g.row.S.Denot). b.image) asked in
    let size_is : n ≡ length raw = ap (λ (b : Qcow2CreateBuilder g.row.S.Denot). b.size) asked ∙ c.in-Ok.ensures.size raw_honest in
    let from = subst (λ s. (view s).is_honest) (sym image_is) honest in
    let created = of_ok _ c.create-storage.result.1 c.in_default.field-0 c.in_default.is (c.create-storage.ensures.created (plain_so _ _ asked refl refl) from) in
    let first : IsImageOfSize n (byte_at made.contents) = new_image c.refcount_width.result.preallocate n _ created.new_disk in
    let since = c.in-Ok-open_alone.ensures.step.since created.honest first.consistent in
    let filling = c.fill-imported.ensures.stops n (c.in-Ok-open_alone.ensures.opens created.honest first.consistent).opened (once_opened n made opened first since) in
    subst (λ s. EachMomentSince (view c.args.storage) (view s) (λ b. IsStopOfMaking (length raw) (byte_at b))) (sym c.into_storage.ensures)
    (subst (λ s. EachMomentSince (view s) filled (λ b. IsStopOfMaking (length raw) (byte_at b))) image_is
    (subst (λ n. EachMomentSince start filled (λ b. IsStopOfMaking n (byte_at b))) size_is
    (then_opened n start opened filled
    (then_opened n start made opened (while_created c.refcount_width.result.preallocate n start made (c.create-storage.ensures.stops (plain_so _ _ asked refl refl) from)) (while_opened n made opened first since)) filling)))

pub returns-in-Err-clause-refused : goal.returns-in-Err-clause-refused
returns-in-Err-clause-refused g c = λ none. (refl, inr (subst IsFault (sym c.from.ensures) (fault_of_storage c.in-Err.e)))

pub returns-in-Err-clause-limit : goal.returns-in-Err-clause-limit
returns-in-Err-clause-limit g c = λ honest layout long. (refl, inr (subst IsFault (sym c.from.ensures) (fault_of_storage c.in-Err.e)))

pub returns-in-Err-created-clause-refused : goal.returns-in-Err-created-clause-refused
returns-in-Err-created-clause-refused g c = λ none.
    let asked = asked_so c.args.storage c.in-Ok.size c.args.cluster c.args.width c.new.result c.size-2.result c.cluster_size.result c.refcount_width.result c.new.ensures c.size-2.ensures c.cluster_size.ensures c.refcount_width.ensures in
    untouched c.args.storage c.in-Ok.size c.args.cluster c.args.width c.refcount_width.result asked c.create-storage.result.0 c.create-storage.result.1 c.in-Err-created.e InvalidOption c.in-Err-created.is (c.create-storage.ensures.refused (no_layout c.args.storage c.in-Ok.size c.args.cluster c.args.width c.refcount_width.result asked none))

pub returns-in-Err-created-clause-limit : goal.returns-in-Err-created-clause-limit
returns-in-Err-created-clause-limit g c = λ honest layout long.
    let asked = asked_so c.args.storage c.in-Ok.size c.args.cluster c.args.width c.new.result c.size-2.result c.cluster_size.result c.refcount_width.result c.new.ensures c.size-2.ensures c.cluster_size.ensures c.refcount_width.ensures in
    let built = c.refcount_width.result in
    let far : longest_disk built.cluster_size < built.size = subst (λ (b : Qcow2CreateBuilder g.row.S.Denot). longest_disk b.cluster_size < b.size) (sym asked) (subst (λ n. longest_disk c.args.cluster < n) (sym (c.in-Ok.ensures.size honest)) long) in
    untouched c.args.storage c.in-Ok.size c.args.cluster c.args.width c.refcount_width.result asked c.create-storage.result.0 c.create-storage.result.1 c.in-Err-created.e Limit c.in-Err-created.is (c.create-storage.ensures.limit (of_layout c.args.storage c.in-Ok.size c.args.cluster c.args.width c.refcount_width.result asked layout) (allocates_alone c.args.storage c.in-Ok.size c.args.cluster c.args.width c.refcount_width.result asked) far)

pub returns-in-Err-open_alone-clause-refused : goal.returns-in-Err-open_alone-clause-refused
returns-in-Err-open_alone-clause-refused g c = λ none.
    let asked = asked_so c.args.storage c.in-Ok.size c.args.cluster c.args.width c.new.result c.size-2.result c.cluster_size.result c.refcount_width.result c.new.ensures c.size-2.ensures c.cluster_size.ensures c.refcount_width.ensures in
    not_refused c.create-storage.result.1 c.in_default.field-0 InvalidOption c.in_default.is (c.create-storage.ensures.refused (no_layout c.args.storage c.in-Ok.size c.args.cluster c.args.width c.refcount_width.result asked none))

pub returns-in-Err-open_alone-clause-limit : goal.returns-in-Err-open_alone-clause-limit
returns-in-Err-open_alone-clause-limit g c = λ honest layout long.
    let asked = asked_so c.args.storage c.in-Ok.size c.args.cluster c.args.width c.new.result c.size-2.result c.cluster_size.result c.refcount_width.result c.new.ensures c.size-2.ensures c.cluster_size.ensures c.refcount_width.ensures in
    let built = c.refcount_width.result in
    let far : longest_disk built.cluster_size < built.size = subst (λ (b : Qcow2CreateBuilder g.row.S.Denot). longest_disk b.cluster_size < b.size) (sym asked) (subst (λ n. longest_disk c.args.cluster < n) (sym (c.in-Ok.ensures.size honest)) long) in
    not_refused c.create-storage.result.1 c.in_default.field-0 Limit c.in_default.is (c.create-storage.ensures.limit (of_layout c.args.storage c.in-Ok.size c.args.cluster c.args.width c.refcount_width.result asked layout) (allocates_alone c.args.storage c.in-Ok.size c.args.cluster c.args.width c.refcount_width.result asked) far)

pub returns-in-Ok-open_alone-clause-refused : goal.returns-in-Ok-open_alone-clause-refused
returns-in-Ok-open_alone-clause-refused g c = λ none.
    let asked = asked_so c.args.storage c.in-Ok.size c.args.cluster c.args.width c.new.result c.size-2.result c.cluster_size.result c.refcount_width.result c.new.ensures c.size-2.ensures c.cluster_size.ensures c.refcount_width.ensures in
    not_refused c.create-storage.result.1 c.in_default.field-0 InvalidOption c.in_default.is (c.create-storage.ensures.refused (no_layout c.args.storage c.in-Ok.size c.args.cluster c.args.width c.refcount_width.result asked none))

pub returns-in-Ok-open_alone-clause-limit : goal.returns-in-Ok-open_alone-clause-limit
returns-in-Ok-open_alone-clause-limit g c = λ honest layout long.
    let asked = asked_so c.args.storage c.in-Ok.size c.args.cluster c.args.width c.new.result c.size-2.result c.cluster_size.result c.refcount_width.result c.new.ensures c.size-2.ensures c.cluster_size.ensures c.refcount_width.ensures in
    let built = c.refcount_width.result in
    let far : longest_disk built.cluster_size < built.size = subst (λ (b : Qcow2CreateBuilder g.row.S.Denot). longest_disk b.cluster_size < b.size) (sym asked) (subst (λ n. longest_disk c.args.cluster < n) (sym (c.in-Ok.ensures.size honest)) long) in
    not_refused c.create-storage.result.1 c.in_default.field-0 Limit c.in_default.is (c.create-storage.ensures.limit (of_layout c.args.storage c.in-Ok.size c.args.cluster c.args.width c.refcount_width.result asked layout) (allocates_alone c.args.storage c.in-Ok.size c.args.cluster c.args.width c.refcount_width.result asked) far)

pub returns-in-Err-clause-cause : goal.returns-in-Err-clause-cause
returns-in-Err-clause-cause g c = λ raw_honest honest.
    inl (fault_reason (asked_for c.args.storage (length (g.R.Storage.view c.args.raw.now).contents) c.args.cluster c.args.width) g.S.Storage.view _ _ (subst IsFault (sym c.from.ensures) (fault_of_storage c.in-Err.e)))

pub returns-in-Err-created-clause-cause : goal.returns-in-Err-created-clause-cause
returns-in-Err-created-clause-cause g c = λ raw_honest honest.
    let view = g.S.Storage.view in
    let asked = asked_so c.args.storage c.in-Ok.size c.args.cluster c.args.width c.new.result c.size-2.result c.cluster_size.result c.refcount_width.result c.new.ensures c.size-2.ensures c.cluster_size.ensures c.refcount_width.ensures ∙ ap (λ n. asked_for c.args.storage n c.args.cluster c.args.width) (c.in-Ok.ensures.size raw_honest) in
    let from = subst (λ (b : Qcow2CreateBuilder g.row.S.Denot). (view b.image).is_honest) (sym asked) honest in
    let e = c.in-Err-created.e in
    inl (subst (λ (b : Qcow2CreateBuilder g.row.S.Denot). IsReasonNotToCreate view b c.create-storage.result.0 e) asked
    (of_err (IsReasonNotToCreate view c.refcount_width.result c.create-storage.result.0) c.create-storage.result.1 e c.in-Err-created.is (c.create-storage.ensures.cause (plain_so _ _ asked refl refl) from)))

pub returns-in-Err-open_alone-clause-cause : goal.returns-in-Err-open_alone-clause-cause
returns-in-Err-open_alone-clause-cause g c = λ raw_honest honest.
    let view = g.S.Storage.view in
    let asked = asked_so c.args.storage c.in-Ok.size c.args.cluster c.args.width c.new.result c.size-2.result c.cluster_size.result c.refcount_width.result c.new.ensures c.size-2.ensures c.cluster_size.ensures c.refcount_width.ensures ∙ ap (λ n. asked_for c.args.storage n c.args.cluster c.args.width) (c.in-Ok.ensures.size raw_honest) in
    let from = subst (λ (b : Qcow2CreateBuilder g.row.S.Denot). (view b.image).is_honest) (sym asked) honest in
    let made = of_ok _ c.create-storage.result.1 c.in_default.field-0 c.in_default.is (c.create-storage.ensures.created (plain_so _ _ asked refl refl) from) in
    inl (subst (λ (b : Qcow2CreateBuilder g.row.S.Denot). IsReasonNotToCreateOpen view b (c.in-Err-open_alone.storage, c.in-Err-open_alone.e)) asked
    (opening_refused view c.refcount_width.result c.create-storage.result.0 (c.in-Err-open_alone.storage, c.in-Err-open_alone.e) (unnamed c.args.storage _ c.args.cluster c.args.width c.refcount_width.result asked) made c.in-Err-open_alone.ensures.step.cause))

pub returns-in-Ok-open_alone-clause-cause : goal.returns-in-Ok-open_alone-clause-cause
returns-in-Ok-open_alone-clause-cause g c = λ raw_honest honest.
    let view = g.S.Storage.view in
    let n = c.refcount_width.result.size in
    let made = view c.create-storage.result.0 in
    let image = c.in-Ok-open_alone.image in
    let opened = view (storage_of_image image) in
    let asked = asked_so c.args.storage c.in-Ok.size c.args.cluster c.args.width c.new.result c.size-2.result c.cluster_size.result c.refcount_width.result c.new.ensures c.size-2.ensures c.cluster_size.ensures c.refcount_width.ensures ∙ ap (λ n. asked_for c.args.storage n c.args.cluster c.args.width) (c.in-Ok.ensures.size raw_honest) in
    let size_is : n ≡ length (g.R.Storage.view c.args.raw.now).contents = ap (λ (b : Qcow2CreateBuilder g.row.S.Denot). b.size) asked in
    let from = subst (λ (b : Qcow2CreateBuilder g.row.S.Denot). (view b.image).is_honest) (sym asked) honest in
    let created = of_ok _ c.create-storage.result.1 c.in_default.field-0 c.in_default.is (c.create-storage.ensures.created (plain_so _ _ asked refl refl) from) in
    let first : IsImageOfSize n (byte_at made.contents) = new_image c.refcount_width.result.preallocate n _ created.new_disk in
    let is = (c.in-Ok-open_alone.ensures.opens created.honest first.consistent).opened in
    let then = once_opened n made opened first (c.in-Ok-open_alone.ensures.step.since created.honest first.consistent) in
    let sized = ap (λ (h : HeaderFields). h.size) (header_is view _ image is opened.contents refl) ∙ then.size in
    err_then c.fill-imported.result (λ e may_fail. inr (subst (λ k. MayFailOnceCreated view k c.into_storage.result e) size_is may_fail))
    (met_once_created view n image c.fill-imported.new.image c.into_storage.result c.fill-imported.result c.into_storage.ensures sized c.in-Ok-open_alone.ensures.image.writable_is c.fill-imported.ensures.image (c.fill-imported.ensures.stands n is then)
    (c.fill-imported.ensures.may_fail (c.size.ensures.calls.honest raw_honest) (ap length (c.size.ensures.same raw_honest) ∙ sym size_is ∙ sym sized) is))

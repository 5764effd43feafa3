use Rattle.std.proofs.Common.{◌≡◌, ℕ, Err, None, Ok, Option, Result, ap, refl, subst, sym, IfOk, ◌∙◌}
use Rattle.std.specs.String.{string_bytes}
use Rattle.qcow2_image.proofs.Common.{HeaderView, Qcow2CreateBuilder, data_file_name_in, new_header, option_map, passes_none, FaultsReported, storage_of, ImageError, IsMade, StopsCreating, backing_format_in, backing_name_in}
use Rattle.image_access.specs.declared.storage.PreallocateMode.TheVariants as Mode
use Rattle.qcow2_image.proofs.Lemmas.{is_allowed, made_by, new_header_is, three_stops}
use Rattle.qcow2_image.proofs.builder.Qcow2CreateBuilder.make.Goals as goal

same_error : {A : Type 0} {e f : ImageError} → (◌≡◌ {A = Result A ImageError} (Err e) (Err f)) → e ≡ f
same_error is = cc

-- what was answered wasn't refused
not_ok : {A : Type 0} {a : A} {e : ImageError} → (◌≡◌ {A = Result A ImageError} (Ok a) (Err e)) → ⊥
not_ok is = cc

-- without a data file the header names none
plain_header : {S : Type 0} (builder : Qcow2CreateBuilder S) (bits order : ℕ) (v : HeaderView) → v ≡ new_header bits order (backing_name_in builder) (backing_format_in builder) (data_file_name_in builder) → builder.data_file_name ≡ None → v ≡ new_header bits order (backing_name_in builder) (backing_format_in builder) None
plain_header builder bits order v is none = is ∙ ap (λ (o : Option _). new_header bits order (backing_name_in builder) (backing_format_in builder) (option_map string_bytes o)) none

pub returns-clause-made : goal.returns-clause-made
returns-clause-made g c = λ none honest.
    let view = g.S.Storage.view in
    let builder = c.args.self in
    let bits = c.in-Ok.logarithms.0 in
    let order = c.in-Ok.logarithms.1 in
    let v = c.new-header.result in
    let start = storage_of c.new-storage.result in
    let mid = storage_of c.write_new_image-done.new.storage in
    let done = c.write_new_image-done.result in
    let there = subst (λ s. (view s).is_honest) (sym c.new-storage.ensures.storage) honest in
    let writes = c.write_new_image-done.ensures.writes there (new_header_is v bits order (backing_name_in builder) (backing_format_in builder) (plain_header c.args.self c.in-Ok.logarithms.0 c.in-Ok.logarithms.1 c.new-header.result c.new-header.ensures.value none.0) c.new-header.ensures.names) in
    subst (λ s. IfOk done (λ d. IsMade view builder s)) (sym c.into_inner.ensures)
    (made_by view builder bits order v (plain_header c.args.self c.in-Ok.logarithms.0 c.in-Ok.logarithms.1 c.new-header.result c.new-header.ensures.value none.0) none.0 start mid done writes c.in-Ok.ensures.fits.clusters c.in-Ok.ensures.fits.counts (c.write_new_image-done.ensures.stands there c.new-header.ensures.names)
    (c.write_new_image-done.ensures.alone there (new_header_is v bits order (backing_name_in builder) (backing_format_in builder) (plain_header c.args.self c.in-Ok.logarithms.0 c.in-Ok.logarithms.1 c.new-header.result c.new-header.ensures.value none.0) c.new-header.ensures.names)))

pub returns-clause-stops : goal.returns-clause-stops
returns-clause-stops g c = λ none honest.
    let view = g.S.Storage.view in
    let builder = c.args.self in
    let v = c.new-header.result in
    let start = storage_of c.new-storage.result in
    let mid = storage_of c.write_new_image-done.new.storage in
    let writes = c.write_new_image-done.ensures.writes (subst (λ s. (view s).is_honest) (sym c.new-storage.ensures.storage) honest) (new_header_is v c.in-Ok.logarithms.0 c.in-Ok.logarithms.1 (backing_name_in builder) (backing_format_in builder) (plain_header c.args.self c.in-Ok.logarithms.0 c.in-Ok.logarithms.1 c.new-header.result c.new-header.ensures.value none.0) c.new-header.ensures.names) in
    subst (λ s. StopsCreating Mode.None 0 (view s) (view c.into_inner.result)) c.new-storage.ensures.storage
    (subst (λ s. StopsCreating Mode.None 0 (view start) (view s)) (sym c.into_inner.ensures) (three_stops v.fields (view start) (view mid) c.write_new_image-done.result writes))

pub returns-clause-refused : goal.returns-clause-refused
returns-clause-refused g c = λ none. absurd (none (is_allowed c.args.self c.in-Ok.logarithms c.in-Ok.ensures.fits))

pub returns-clause-over : goal.returns-clause-over
returns-clause-over g c = λ allowed is. absurd (not_ok (c.in-Ok.ensures.over allowed is))

pub returns-clause-limit : goal.returns-clause-limit
returns-clause-limit g c = λ allowed no long. absurd (not_ok (c.in-Ok.ensures.limit allowed no long))

pub returns-clause-faults : goal.returns-clause-faults
returns-clause-faults g c =
    let view = g.S.Storage.view in
    subst (λ s. FaultsReported (view s).faults (view c.into_inner.result).faults c.write_new_image-done.result) c.new-storage.ensures.storage
    (subst (λ s. FaultsReported (view (storage_of c.new-storage.result)).faults (view s).faults c.write_new_image-done.result) (sym c.into_inner.ensures) c.write_new_image-done.ensures.faults)

pub returns-in-Err-clause-stops : goal.returns-in-Err-clause-stops
returns-in-Err-clause-stops g c = λ none honest. passes_none (g.S.Storage.view c.args.self.image) _

pub returns-in-Err-clause-refused : goal.returns-in-Err-clause-refused
returns-in-Err-clause-refused g c = λ none. (ap Err (same_error (c.in-Err.ensures.refused none)), refl)

pub returns-in-Err-clause-over : goal.returns-in-Err-clause-over
returns-in-Err-clause-over g c = λ allowed is. (ap Err (same_error (c.in-Err.ensures.over allowed is)), refl)

pub returns-in-Err-clause-limit : goal.returns-in-Err-clause-limit
returns-in-Err-clause-limit g c = λ allowed no long. (ap Err (same_error (c.in-Err.ensures.limit allowed no long)), refl)

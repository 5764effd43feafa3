use Rattle.std.proofs.Common.{◌≡◌, ◌*◌, ◌<◌, ◌≤◌, ◌∙◌, List, ℕ, Result, inr, refl, sym, ap, subst, IfErr}
use Rattle.qcow2_image.proofs.Common.{byte_at, HeaderView, header, entries_per_cluster, with_tables_of, IsReasonToRefuse, HeaderFields, of_metadata, contents_in, view_in, ImageError, handed_on, is_writable, IsReasonAgainstPlaces, ContentsStayThroughout}
use Rattle.qcow2_image.proofs.Lemmas.{read_moved, kept_throughout, notes_through, places_read, same_notes, silent_moved, silent_read, silent_then, not_above}
use Rattle.qcow2_image.proofs.Invalidate.Reasons.{header_against}
use Rattle.qcow2_image.proofs.image.Qcow2.read_places.Goals as goal

pub returns-in_err-invalidate_cache-clause-keeps : goal.returns-in_err-invalidate_cache-clause-keeps
returns-in_err-invalidate_cache-clause-keeps g c = λ p out sound.
    read_moved g.S.Storage.view g.F.BackingDisk.backing c.args.self.now out p sound c.invalidate_cache.new.self c.invalidate_cache.ensures.calls c.invalidate_cache.ensures.same

pub returns-in_err-header-clause-why : goal.returns-in_err-header-clause-why
returns-in_err-header-clause-why g c = λ honest.
    let old = c.args.self.now in
    let h = old.file.header.fields in
    let b = contents_in g.S.Storage.view old.file in
    let e = c.in_err-header.field-0.0 in
    let why = subst (λ (l : List ℕ). IsReasonToRefuse (header (byte_at l)) (byte_at l) c.is_some-writable.result e) (c.invalidate_cache.ensures.same honest) (c.in_err-header.ensures.refused (c.invalidate_cache.ensures.calls.honest honest)) in
    handed_on (λ (r : Result _ ImageError). IfErr r (IsReasonAgainstPlaces h b (is_writable old))) c.from_residual-in_err-header.result (of_metadata e) c.from_residual-in_err-header.ensures
    (header_against h b (is_writable old) e (subst (λ w. IsReasonToRefuse (header b) b w e) c.is_some-writable.ensures why))

pub returns-in_err-header-clause-keeps : goal.returns-in_err-header-clause-keeps
returns-in_err-header-clause-keeps g c = λ p out sound.
    let view = g.S.Storage.view in
    let old = c.args.self.now in
    let honest = sound.file.honest in
    let calls = c.invalidate_cache.ensures.calls in
    let same = c.invalidate_cache.ensures.same in
    let silent = silent_then (view_in view old.file) (view c.invalidate_cache.new.self.storage) (view c.load_header.new.self.storage) honest (kept_throughout _ _ calls.time same honest) (silent_read _ _ c.load_header.result c.load_header.ensures.reads) in
    silent_moved view g.F.BackingDisk.backing old out p sound c.load_header.new.self silent

pub returns-then-is_too_long-clause-step : goal.returns-then-is_too_long-clause-step
returns-then-is_too_long-clause-step g c =
    let view = g.S.Storage.view in
    let old = c.args.self.now in
    let calls = c.invalidate_cache.ensures.calls in
    let first : (view_in view old.file).is_honest → ContentsStayThroughout (view_in view old.file) (view c.invalidate_cache.new.self.storage) = λ honest. kept_throughout (view_in view old.file) (view c.invalidate_cache.new.self.storage) calls.time c.invalidate_cache.ensures.same honest in
    places_read view old c.load_header.new.self (notes_through view old.file.storage c.invalidate_cache.new.self c.load_header.new.self c.invalidate_cache.ensures.unrecorded (same_notes view c.invalidate_cache.new.self c.load_header.new.self c.load_header.ensures.rest))
    (λ honest. silent_then (view_in view old.file) (view c.invalidate_cache.new.self.storage) (view c.load_header.new.self.storage) honest (first honest) (silent_read _ _ c.load_header.result c.load_header.ensures.reads))
    (λ honest. c.load_header.ensures.reads.honest (calls.honest honest))

pub returns-then-is_too_long-clause-why : goal.returns-then-is_too_long-clause-why
returns-then-is_too_long-clause-why g c = λ honest.
    let there = (c.in_ok-header.ensures.ok (c.invalidate_cache.ensures.calls.honest honest)).fields ∙ ap (λ (l : List ℕ). header (byte_at l)) (c.invalidate_cache.ensures.same honest) in
    inr (subst (λ (k : HeaderFields). 1048576 < k.reftable_clusters * entries_per_cluster c.args.self.now.file.header.fields) there (c.is_too_long.ensures.0 c.if-is_too_long.true))

pub returns-then-is_too_long-clause-keeps : goal.returns-then-is_too_long-clause-keeps
returns-then-is_too_long-clause-keeps g c = λ p out sound.
    let view = g.S.Storage.view in
    let old = c.args.self.now in
    let honest = sound.file.honest in
    let calls = c.invalidate_cache.ensures.calls in
    let same = c.invalidate_cache.ensures.same in
    let silent = silent_then (view_in view old.file) (view c.invalidate_cache.new.self.storage) (view c.load_header.new.self.storage) honest (kept_throughout _ _ calls.time same honest) (silent_read _ _ c.load_header.result c.load_header.ensures.reads) in
    silent_moved view g.F.BackingDisk.backing old out p sound c.load_header.new.self silent

pub copy_table_pointers-requires : goal.copy_table_pointers-requires
copy_table_pointers-requires g c =
    let few = not_above 1048576 _ c.is_too_long.result c.if-is_too_long.false c.is_too_long.ensures.1 in
    subst (λ (v : HeaderView). c.in_ok-header.header.fields.reftable_clusters * entries_per_cluster v.fields ≤ 1048576) (sym c.without_names-places.ensures) few

pub returns-clause-step : goal.returns-clause-step
returns-clause-step g c =
    let view = g.S.Storage.view in
    let old = c.args.self.now in
    let calls = c.invalidate_cache.ensures.calls in
    let first : (view_in view old.file).is_honest → ContentsStayThroughout (view_in view old.file) (view c.invalidate_cache.new.self.storage) = λ honest. kept_throughout (view_in view old.file) (view c.invalidate_cache.new.self.storage) calls.time c.invalidate_cache.ensures.same honest in
    places_read view old c.load_header.new.self (notes_through view old.file.storage c.invalidate_cache.new.self c.load_header.new.self c.invalidate_cache.ensures.unrecorded (same_notes view c.invalidate_cache.new.self c.load_header.new.self c.load_header.ensures.rest))
    (λ honest. silent_then (view_in view old.file) (view c.invalidate_cache.new.self.storage) (view c.load_header.new.self.storage) honest (first honest) (silent_read _ _ c.load_header.result c.load_header.ensures.reads))
    (λ honest. c.load_header.ensures.reads.honest (calls.honest honest))

pub returns-clause-places : goal.returns-clause-places
returns-clause-places g c =
    let h = c.args.self.now.file.header.fields in
    let found = c.in_ok-header.header.fields in
    let is : c.copy_table_pointers.new.header.fields ≡ with_tables_of h found = ap (λ (v : HeaderView). v.fields) c.copy_table_pointers.ensures ∙ ap (λ (v : HeaderView). with_tables_of v.fields found) c.without_names-places.ensures in
    let few = not_above 1048576 _ c.is_too_long.result c.if-is_too_long.false c.is_too_long.ensures.1 in
    record {
      others = subst (λ (f : HeaderFields). f ≡ with_tables_of h f) (sym is) refl;
      few = subst (λ (f : HeaderFields). f.reftable_clusters * entries_per_cluster h ≤ 1048576) (sym is) few;
    }

pub returns-clause-read : goal.returns-clause-read
returns-clause-read g c = λ honest.
    let h = c.args.self.now.file.header.fields in
    let found = c.in_ok-header.header.fields in
    let is : c.copy_table_pointers.new.header.fields ≡ with_tables_of h found = ap (λ (v : HeaderView). v.fields) c.copy_table_pointers.ensures ∙ ap (λ (v : HeaderView). with_tables_of v.fields found) c.without_names-places.ensures in
    let there = (c.in_ok-header.ensures.ok (c.invalidate_cache.ensures.calls.honest honest)).fields ∙ ap (λ (l : List ℕ). header (byte_at l)) (c.invalidate_cache.ensures.same honest) in
    sym (is ∙ ap (λ (k : HeaderFields). with_tables_of h k) there)

pub returns-clause-keeps : goal.returns-clause-keeps
returns-clause-keeps g c = λ p out sound.
    let view = g.S.Storage.view in
    let old = c.args.self.now in
    let honest = sound.file.honest in
    let calls = c.invalidate_cache.ensures.calls in
    let same = c.invalidate_cache.ensures.same in
    let silent = silent_then (view_in view old.file) (view c.invalidate_cache.new.self.storage) (view c.load_header.new.self.storage) honest (kept_throughout _ _ calls.time same honest) (silent_read _ _ c.load_header.result c.load_header.ensures.reads) in
    silent_moved view g.F.BackingDisk.backing old out p sound c.load_header.new.self silent

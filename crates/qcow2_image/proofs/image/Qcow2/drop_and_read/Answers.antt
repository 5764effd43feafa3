use Rattle.std.proofs.Common.{inl}
use Rattle.qcow2_image.proofs.Common.{Bool, ◌∙◌, List, ℕ, Result, sym, ap, subst, IfErr, IfErr-weaker, byte_at, header, with_tables_of, HeaderFields, contents_in, ImageError, handed_on, is_writable, MayFail, MayFailToInvalidate, IsReasonAgainstPlaces, IsReasonAgainstReading, IsReasonAgainstTables, Qcow2, always_ok}
use Rattle.qcow2_image.proofs.Lemmas.{keeps_then, counted_since, faults_then, same_places, kept_then, on_refused, on_refused_map}
use Rattle.qcow2_image.proofs.Invalidate.Calls.{anew_then, as_stored, honest_places, anew_dropped, anew_places, kept_dropped, kept_places, none_held_then, on_both, places_for, places_reason, silent_places, tables_reason}
use Rattle.qcow2_image.proofs.image.Qcow2.drop_and_read.Goals as goal

pub returns-in_err-places-clause-why : goal.returns-in_err-places-clause-why
returns-in_err-places-clause-why g c = λ honest.
    let view = g.S.Storage.view in
    let old = c.args.self.now in
    let dropped = c.drop_cached.new.self in
    let placed = c.read_places_anew.new.self in
    let drops = c.drop_cached.ensures in
    let places = c.read_places_anew.ensures in
    let e = c.in_err-places.field-0.0 in
    let why = c.in_err-places.ensures.why (honest_places view old dropped placed drops.step drops.rest places.step honest) in
    let there = subst (λ (w : Bool). IsReasonAgainstPlaces dropped.file.header.fields (contents_in view dropped.file) w e) drops.step.stays.image.writable why in
    let here = subst (λ (i : Qcow2 _ _). IsReasonAgainstPlaces i.file.header.fields (contents_in view i.file) (is_writable old) e) drops.rest.rest there in
    handed_on (λ (r : Result _ ImageError). IfErr r (IsReasonAgainstReading view old placed)) c.from_residual-in_err-places.result e c.from_residual-in_err-places.ensures (places_reason view old placed e here)

pub returns-in_err-places-clause-keeps : goal.returns-in_err-places-clause-keeps
returns-in_err-places-clause-keeps g c = λ rest p out sound.
    let first = c.drop_cached.ensures.keeps rest p out sound in
    keeps_then g.S.Storage.view g.F.BackingDisk.backing out c.args.self.now c.drop_cached.new.self c.read_places_anew.new.self p p p (λ k h. h) first (c.read_places_anew.ensures.keeps p out first.sound)

pub returns-clause-step : goal.returns-clause-step
returns-clause-step g c = anew_then g.S.Storage.view c.args.self.now c.drop_cached.new.self c.read_places_anew.new.self c.drop_cached.ensures.step c.drop_cached.ensures.rest c.read_places_anew.ensures.step c.replace_tables.new.self c.replace_tables.ensures.step

pub returns-clause-why : goal.returns-clause-why
returns-clause-why g c = λ honest.
    let view = g.S.Storage.view in
    let old = c.args.self.now in
    let dropped = c.drop_cached.new.self in
    let placed = c.read_places_anew.new.self in
    let drops = c.drop_cached.ensures in
    let places = c.read_places_anew.ensures in
    let new = c.replace_tables.new.self in
    let there = honest_places view old dropped placed drops.step drops.rest places.step honest in
    let silent = silent_places view old dropped placed drops.step drops.rest places.step honest in
    let named = c.in_ok-places.ensures.read there in
    IfErr-weaker c.replace_tables.result (IsReasonAgainstTables c.in_ok-places.places.fields (contents_in view placed.file) (is_writable placed)) (IsReasonAgainstReading view old new)
    (λ e why.
    let first = subst (λ (w : Bool). IsReasonAgainstTables c.in_ok-places.places.fields (contents_in view placed.file) w e) (places.step.part.stays.image.writable ∙ drops.step.stays.image.writable) why in
    let second = subst (λ (k : List ℕ). IsReasonAgainstTables c.in_ok-places.places.fields (byte_at k) (is_writable old) e) (silent.0 honest) first in
    let third = subst (λ (h : HeaderFields). IsReasonAgainstTables h (contents_in view old.file) (is_writable old) e) (sym named) second in
    tables_reason view old new e (subst (λ (i : Qcow2 _ _). IsReasonAgainstTables (with_tables_of i.file.header.fields (header (contents_in view i.file))) (contents_in view old.file) (is_writable old) e) drops.rest.rest third))
    (c.replace_tables.ensures.why (silent.1.honest honest))

pub returns-clause-dropped : goal.returns-clause-dropped
returns-clause-dropped g c =
    always_ok c.replace_tables.result
    (none_held_then g.S.Storage.view c.args.self.now c.drop_cached.new.self c.read_places_anew.new.self c.drop_cached.ensures.step c.drop_cached.ensures.rest c.read_places_anew.ensures.step c.replace_tables.new.self c.replace_tables.ensures.step c.in_ok-drop_cached.ensures.dropped)

pub returns-clause-read : goal.returns-clause-read
returns-clause-read g c = λ honest.
    let view = g.S.Storage.view in
    let old = c.args.self.now in
    let dropped = c.drop_cached.new.self in
    let placed = c.read_places_anew.new.self in
    let drops = c.drop_cached.ensures in
    let places = c.read_places_anew.ensures in
    let there = honest_places view old dropped placed drops.step drops.rest places.step honest in
    let silent = silent_places view old dropped placed drops.step drops.rest places.step honest in
    on_both c.replace_tables.result (as_stored view old dropped placed drops.step drops.rest places.step c.replace_tables.new.self c.replace_tables.ensures.step g.F.BackingDisk.backing c.in_ok-places.places honest (c.in_ok-places.ensures.read there))
    c.replace_tables.ensures.taken (c.replace_tables.ensures.read (silent.1.honest honest))

pub returns-clause-keeps : goal.returns-clause-keeps
returns-clause-keeps g c = λ rest p out sound.
    let view = g.S.Storage.view in
    let below = g.F.BackingDisk.backing in
    let old = c.args.self.now in
    let placed = c.read_places_anew.new.self in
    let first = c.drop_cached.ensures.keeps rest p out sound in
    let dropped = c.drop_cached.new.self in
    let second = keeps_then view below out old dropped placed p p p (λ k h. h) first (c.read_places_anew.ensures.keeps p out first.sound) in
    let found = same_places dropped.file.header.fields c.in_ok-places.places.fields (contents_in view dropped.file) first.sound.file.caches.kept.kept.crash_invariant.top (c.in_ok-places.ensures.read first.sound.file.honest) in
    let same = found ∙ sym (ap (λ (i : Qcow2 _ _). i.file.header.fields) c.read_places_anew.ensures.step.rest) in
    keeps_then view below out old placed c.replace_tables.new.self p p p (λ k h. h) second (c.replace_tables.ensures.keeps same p out second.sound)

pub replace_tables-requires : goal.replace_tables-requires
replace_tables-requires g c = places_for g.S.Storage.view c.args.self.now c.drop_cached.new.self c.read_places_anew.new.self c.drop_cached.ensures.step c.drop_cached.ensures.rest c.read_places_anew.ensures.step c.in_ok-places.places c.in_ok-places.ensures.places

pub returns-in_err-drop_cached-clause-step : goal.returns-in_err-drop_cached-clause-step
returns-in_err-drop_cached-clause-step g c = anew_dropped g.S.Storage.view c.args.self.now c.drop_cached.new.self c.drop_cached.ensures.step c.drop_cached.ensures.rest

pub returns-in_err-drop_cached-clause-kept : goal.returns-in_err-drop_cached-clause-kept
returns-in_err-drop_cached-clause-kept g c = on_refused c.from_residual.result (kept_dropped c.args.self.now c.drop_cached.new.self c.drop_cached.ensures.rest)

pub returns-in_err-places-clause-step : goal.returns-in_err-places-clause-step
returns-in_err-places-clause-step g c = anew_places g.S.Storage.view c.args.self.now c.drop_cached.new.self c.read_places_anew.new.self c.drop_cached.ensures.step c.drop_cached.ensures.rest c.read_places_anew.ensures.step

pub returns-in_err-places-clause-kept : goal.returns-in_err-places-clause-kept
returns-in_err-places-clause-kept g c = on_refused c.from_residual-in_err-places.result
    (kept_places g.S.Storage.view c.args.self.now c.drop_cached.new.self c.read_places_anew.new.self c.drop_cached.ensures.step c.drop_cached.ensures.rest c.read_places_anew.ensures.step)

pub returns-clause-kept : goal.returns-clause-kept
returns-clause-kept g c =
    let first = kept_places g.S.Storage.view c.args.self.now c.drop_cached.new.self c.read_places_anew.new.self c.drop_cached.ensures.step c.drop_cached.ensures.rest c.read_places_anew.ensures.step in
    on_refused_map c.replace_tables.result (kept_then first) c.replace_tables.ensures.kept

pub returns-clause-fails : goal.returns-clause-fails
returns-clause-fails g c =
    let view = g.S.Storage.view in
    let below = g.F.BackingDisk.backing in
    let first = faults_then view below c.args.self.now c.drop_cached.new.self c.read_places_anew.new.self c.in_ok-drop_cached.ensures.fails.faults.told c.in_ok-places.ensures.fails.faults.told in
    record { faults = counted_since view below c.args.self.now c.read_places_anew.new.self c.replace_tables.new.self c.replace_tables.result first c.replace_tables.ensures.fails.faults; cause = IfErr-weaker c.replace_tables.result MayFail MayFailToInvalidate (λ e met. inl met) c.replace_tables.ensures.fails.cause }

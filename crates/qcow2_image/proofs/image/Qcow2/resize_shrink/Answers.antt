use Rattle.qcow2_image.proofs.Lemmas.{fails_none, found_pinned, none_prepared, rounded_from, err_is, not_refused, refused_for, mono_up, uncovers_no_cluster}
use Rattle.std.proofs.Common.{◌≡◌, ◌≤◌, ◌∙◌, refl, sym, subst, arith, rules, None, Ok, Result, Some}
use Rattle.qcow2_image.proofs.Common.{passes_none, handed_on, known_in, view_in, size_of, Shrinks, ShrinksSoundly, DiscardsClusters, boundary_in, refuses_to_resize, pow_pos, cluster_size}
use Rattle.qcow2_alloc.specs.ImageFile.{l2_pins}
use Rattle.qcow2_image.proofs.Resize.ShrinkCalls.{fault_unprepared, met_prepared, resize_works, shrinks_early, shrinks_nothing, shrinks_prepared}
use Rattle.qcow2_image.proofs.image.Qcow2.resize_shrink.Goals as goal

pub returns-in_err-check_resize-clause-sees : goal.returns-in_err-check_resize-clause-sees
returns-in_err-check_resize-clause-sees g c =
    let view = g.S.Storage.view in
    let below = g.F.BackingDisk.backing in
    let old = c.args.self.now in
    let e = c.in_err-check_resize.field-0.0 in
    subst (λ (r : Result _ _). Shrinks view below old old c.args.size r) (sym (err_is c.from_residual.result c.from_residual.ensures))
    (shrinks_early view below old c.args.size e (refused_for c.check_resize.result tt (refuses_to_resize old) e c.check_resize.ensures c.in_err-check_resize.was))

pub returns-then-size-clause-sees : goal.returns-then-size-clause-sees
returns-then-size-clause-sees g c =
    let view = g.S.Storage.view in
    let below = g.F.BackingDisk.backing in
    let old = c.args.self.now in
    let usable = resize_works old (not_refused c.check_resize.result tt (refuses_to_resize old) c.in_ok-check_resize.field-0 c.check_resize.ensures c.in_ok-check_resize.was).0 in
    subst (λ n. Shrinks view below old old c.args.size (Ok n)) (sym c.size-then-size.ensures) (shrinks_nothing view below old c.args.size usable (subst (λ n. n ≤ c.args.size) c.size.ensures c.if-size.true))

pub returns-then-is_some-clause-late : goal.returns-then-is_some-clause-late
returns-then-is_some-clause-late g c = λ none.
    met_prepared g.S.Storage.view g.F.BackingDisk.backing c.args.self.now c.args.size
    (found_pinned (l2_pins c.args.self.now.file.caches) c.first_pinned_l2.result c.first_pinned_l2.ensures.some (sym c.is_some.ensures ∙ c.if-is_some.true))

pub returns-then-is_some-clause-sees : goal.returns-then-is_some-clause-sees
returns-then-is_some-clause-sees g c = shrinks_prepared g.S.Storage.view g.F.BackingDisk.backing c.args.self.now c.args.size

pub returns-in_err-check_resize-clause-step : goal.returns-in_err-check_resize-clause-step
returns-in_err-check_resize-clause-step g c = record { marks = search rules; once_written = fails_none g.S.Storage.view c.args.self.now _; header_cluster = search rules; faults = search rules }

pub returns-then-size-clause-step : goal.returns-then-size-clause-step
returns-then-size-clause-step g c = record { marks = search rules; once_written = fails_none g.S.Storage.view c.args.self.now _; header_cluster = search rules; faults = search rules }

pub returns-then-is_some-clause-step : goal.returns-then-is_some-clause-step
returns-then-is_some-clause-step g c = record { marks = search rules; once_written = fails_none g.S.Storage.view c.args.self.now _; header_cluster = search rules; faults = search rules }

pub returns-clause-step : goal.returns-clause-step
returns-clause-step g c = record { marks = search rules; once_written = c.shrink.ensures.step.once_written; header_cluster = c.shrink.ensures.step.header_cluster; faults = search rules }

pub returns-in_err-check_resize-clause-prepared : goal.returns-in_err-check_resize-clause-prepared
returns-in_err-check_resize-clause-prepared g c = λ none smaller.
    let e = c.in_err-check_resize.field-0.0 in
    let refused = refused_for c.check_resize.result tt (refuses_to_resize c.args.self.now) e c.check_resize.ensures c.in_err-check_resize.was in
    absurd (let no : None ≡ Some e = sym none ∙ refused in cc)

pub returns-then-is_some-clause-prepared : goal.returns-then-is_some-clause-prepared
returns-then-is_some-clause-prepared g c = λ none smaller.
    let found = found_pinned (l2_pins c.args.self.now.file.caches) c.first_pinned_l2.result c.first_pinned_l2.ensures.some (sym c.is_some.ensures ∙ c.if-is_some.true) in
    record { prepared = λ out sound has. (refl, refl); pinned = ((λ _. record { cluster = found.0; pins = found.1 }), (λ _. refl)) }

pub returns-clause-prepared : goal.returns-clause-prepared
returns-clause-prepared g c = λ none smaller. record {
  prepared = λ out sound has. absurd (none_prepared g.S.Storage.view g.F.BackingDisk.backing c.args.self.now out sound (c.first_pinned_l2.ensures.none (sym c.is_some.ensures ∙ c.if-is_some.false)) has);
  pinned = (
    λ is. absurd (fault_unprepared c.shrink.result c.shrink.ensures.cause is),
    λ has. absurd (let unpinned = c.first_pinned_l2.ensures.none (sym c.is_some.ensures ∙ c.if-is_some.false) has.cluster in let some = has.pins in omega arith),
  );
}

pub returns-in_err-check_resize-clause-sound : goal.returns-in_err-check_resize-clause-sound
returns-in_err-check_resize-clause-sound g c = λ out sound.
    let old = c.args.self.now in
    handed_on (λ (r : Result _ _). ShrinksSoundly g.S.Storage.view g.F.BackingDisk.backing c.args.size old old out r) c.from_residual.result c.in_err-check_resize.field-0.0 c.from_residual.ensures
    (record { covers = tt; stops = tt; last = passes_none (view_in g.S.Storage.view old.file) _ })

pub returns-then-size-clause-sound : goal.returns-then-size-clause-sound
returns-then-size-clause-sound g c = λ out sound.
    let is : c.size-then-size.result ≡ size_of c.args.self.now = c.size-then-size.ensures in
    let old = c.args.self.now in
    let known = known_in g.S.Storage.view c.args.self.now.file in
    let le = subst (λ n. n ≤ c.args.size) c.size.ensures c.if-size.true in
    let up = rounded_from (cluster_size old.file.header.fields) c.args.size (pow_pos old.file.header.fields.cluster_bits) in
    record {
      covers = subst (λ answer. DiscardsClusters g.S.Storage.view c.args.size answer old old) (sym is)
          (uncovers_no_cluster (boundary_in old c.args.size) (boundary_in old (size_of old)) old.file.header.fields old.file.header.fields known known (mono_up (cluster_size old.file.header.fields) (pow_pos old.file.header.fields.cluster_bits) (size_of old) c.args.size le) (λ g. refl));
      stops = record { stops = λ lt. absurd (omega (arith, lt, is)); emptied = λ before. absurd (omega (arith, le, up, before)) };
      last = passes_none (view_in g.S.Storage.view old.file) _;
    }

pub returns-then-is_some-clause-sound : goal.returns-then-is_some-clause-sound
returns-then-is_some-clause-sound g c = λ out sound. record { covers = tt; stops = tt; last = passes_none (view_in g.S.Storage.view c.args.self.now.file) _ }

pub returns-clause-sound : goal.returns-clause-sound
returns-clause-sound g c = λ out sound.
    let old = c.args.self.now in
    c.shrink.ensures.sound (not_refused c.check_resize.result tt (refuses_to_resize old) c.in_ok-check_resize.field-0 c.check_resize.ensures c.in_ok-check_resize.was).0 out sound
    (none_prepared g.S.Storage.view g.F.BackingDisk.backing old out sound (c.first_pinned_l2.ensures.none (sym c.is_some.ensures ∙ c.if-is_some.false)))

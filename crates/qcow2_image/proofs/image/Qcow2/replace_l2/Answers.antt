use Rattle.qcow2_image.proofs.Lemmas.{looking_unlimited, as_listed_after, caches_moved, with_caches, followed, refused, says_copy, shared_still, owned_then, behind_caches, behind_then, behind_first, above_zero, hands_limit, limited_in_since, limits_as, other_limit, named_place, loads_looking, hands_met, looking_taking}
use Rattle.std.proofs.Common.{◌≡◌, inl, refl, rules, sym, Err}
use Rattle.qcow2_image.proofs.Common.{table_at, GoesTo, OwnsTable, notes_then, notes_of_both, contents_in, HasPinnedMapping, MayFailAllocating, file_loads}
use Rattle.qcow2_image.proofs.image.Qcow2.replace_l2.Goals as goal

pub returns-in_err-l2_get_or_insert-clause-sound : goal.returns-in_err-l2_get_or_insert-clause-sound
returns-in_err-l2_get_or_insert-clause-sound g c = λ p out sound shared.
    let view = g.S.Storage.view in
    let below = g.F.BackingDisk.backing in
    let old = c.args.self.now in
    let h = old.file.header.fields in
    let mid = with_caches view below old out p sound c.l2_get_or_insert.new.storage c.l2_get_or_insert.new.self in
    let kept = caches_moved view below old out p sound c.l2_get_or_insert.new.storage c.l2_get_or_insert.new.self (c.l2_get_or_insert.ensures.sound.keeps h p sound.file.honest sound.file.caches) c.l2_get_or_insert.ensures.step.marks.pins.room c.l2_get_or_insert.ensures.step.marks.pins.pins in
    let e = c.in_err-l2_get_or_insert.field-0.0 in
    let why = loads_looking view below out p old sound e (file_loads {A = Unit {0}} view p old.file sound.file (Err e) c.l2_get_or_insert.new.self c.args.old (named_place h (contents_in view old.file) c.args.index c.args.old shared.place) c.in_err-l2_get_or_insert.ensures.fails) in
    record {
      does = refused (OwnsTable view below p old mid out c.args.index) c.from_residual.result c.from_residual.ensures.0 (λ e. inl (as_listed_after view below out p old mid refl kept));
      may_fail = λ near. hands_met (MayFailAllocating (HasPinnedMapping out) ⊥ ⊥ ⊥) c.from_residual.result e c.from_residual.ensures (looking_taking ⊥ ⊥ ⊥ e why);
      limit = λ near. hands_limit c.from_residual.result e c.from_residual.ensures (other_limit _ e (looking_unlimited e why));
    }

pub returns-in_err-table-clause-sound : goal.returns-in_err-table-clause-sound
returns-in_err-table-clause-sound g c = λ p out sound shared.
    let view = g.S.Storage.view in
    let below = g.F.BackingDisk.backing in
    let old = c.args.self.now in
    let h = old.file.header.fields in
    let mid = with_caches view below old out p sound c.l2_get_or_insert.new.storage c.l2_get_or_insert.new.self in
    let kept = caches_moved view below old out p sound c.l2_get_or_insert.new.storage c.l2_get_or_insert.new.self (c.l2_get_or_insert.ensures.sound.keeps h p sound.file.honest sound.file.caches) c.l2_get_or_insert.ensures.step.marks.pins.room c.l2_get_or_insert.ensures.step.marks.pins.pins in
    record {
      may_fail = search rules;
      limit = search rules;
      does = refused (OwnsTable view below p old mid out c.args.index) c.from_residual-in_err-table.result c.from_residual-in_err-table.ensures.0 (λ e. inl (as_listed_after view below out p old mid refl kept));
    }

pub returns-clause-sound : goal.returns-clause-sound
returns-clause-sound g c = λ p out sound shared.
    let view = g.S.Storage.view in
    let below = g.F.BackingDisk.backing in
    let old = c.args.self.now in
    let h = old.file.header.fields in
    let mid = with_caches view below old out p sound c.l2_get_or_insert.new.storage c.l2_get_or_insert.new.self in
    let kept = caches_moved view below old out p sound c.l2_get_or_insert.new.storage c.l2_get_or_insert.new.self (c.l2_get_or_insert.ensures.sound.keeps h p sound.file.honest sound.file.caches) c.l2_get_or_insert.ensures.step.marks.pins.room c.l2_get_or_insert.ensures.step.marks.pins.pins in
    let still = shared_still view below out p old sound c.args.index mid kept refl refl c.args.old shared in
    let swapped = c.swap_l2.ensures.sound p out kept.sound still (says_copy view below out p mid kept.sound c.args.index c.args.old still c.in-Some.held.now c.in_ok-table.table c.in-Some.ensures.shows c.in_ok-table.ensures.ok) in
    let place = table_at h (contents_in view old.file) c.args.index in
    let some = behind_first h.cluster_bits c.args.old place (sym shared.place) (above_zero _ (λ is. shared.real (let e : place ≡ 0 = cc in e))) in
    let loaded : GoesTo view old mid = record { image = record { number = refl; size = refl; writable = refl; lacks = refl; beside = refl }; header_cluster = behind_caches (c.l2_get_or_insert.ensures.step.header_cluster some) } in
    record {
      does = owned_then view below out p old sound c.args.index mid kept refl c.swap_l2.new.self c.swap_l2.result swapped.does;
      may_fail = λ near. swapped.may_fail (record { within = near.within; room = near.room });
      limit = λ near. limits_as c.swap_l2.result (limited_in_since loaded (followed view below out p old sound c.args.index mid kept refl)) (swapped.limit (record { within = near.within; room = near.room }));
    }

pub returns-in_err-l2_get_or_insert-clause-step : goal.returns-in_err-l2_get_or_insert-clause-step
returns-in_err-l2_get_or_insert-clause-step g c = record { stays = search rules; notes = (notes_of_both c.l2_get_or_insert.ensures.step.marks.pins c.l2_get_or_insert.ensures.step.marks.notes); header_cluster = λ some. behind_caches (c.l2_get_or_insert.ensures.step.header_cluster some) }

pub returns-in_err-table-clause-step : goal.returns-in_err-table-clause-step
returns-in_err-table-clause-step g c = record { stays = search rules; notes = (notes_of_both c.l2_get_or_insert.ensures.step.marks.pins c.l2_get_or_insert.ensures.step.marks.notes); header_cluster = λ some. behind_caches (c.l2_get_or_insert.ensures.step.header_cluster some) }

pub returns-clause-step : goal.returns-clause-step
returns-clause-step g c = record {
  stays = search rules;
  notes = notes_then (notes_of_both c.l2_get_or_insert.ensures.step.marks.pins c.l2_get_or_insert.ensures.step.marks.notes) c.swap_l2.ensures.step.notes;
  header_cluster = λ some. behind_then (behind_caches (c.l2_get_or_insert.ensures.step.header_cluster some)) c.swap_l2.ensures.step.header_cluster;
}

use Rattle.qcow2_image.proofs.Lemmas.{counted_since}
use Rattle.qcow2_image.proofs.Call.DataFiles.{own_since}
use Rattle.qcow2_image.specs.Prepared.{offset_of}
use Rattle.qcow2_image.specs.HeldMappings.{IsHeldAs}
use Rattle.qcow2_image.specs.declared.mapping.MappingKind.TheVariants as M
use Rattle.qcow2_image.specs.declared.mapping.Place.{Place}
use Rattle.qcow2_image.proofs.image.Qcow2.prepare_range.Goals as goal
use Rattle.std.proofs.Common.{◌≡◌, ◌∷◌, ◌<◌, true, false, inl, refl, sym, subst, None, Option, [], ap, ℕ, rules, arith}
use Rattle.qcow2_image.proofs.Common.{known_in, handed_on, PreparesRange, IsPlaceOf, IsWritableAt, IsTaken, meaning, pending_in, on_ok, IfSome, notes_then, cluster_size, HeaderFields, NeedsOverflowingL1Entry, CopiesCompressed, MayFailAllocating, HasPinnedMapping, IfOk-weaker, IfErr-weaker, IsPlacedBehind, IsWritableInTables}
use Rattle.qcow2_image.proofs.Prepare.PreparedAnswers.{answered_before, answered_existing, answered_range, nowhere_before, taken_before}
use Rattle.qcow2_image.proofs.Lemmas.{pinned_exists, refused_exists, free_places, prepares_after, readied_after, taken_by, behind_then, found_pins, met_untaken, prepared_unpinned, unpinned_refused, hands_limit, other_limit, goes_step, limited_since, limits_as, place_kept, place_then, compressed_as, hands_met, if_err_both, taking_as, taking_kept}
use Rattle.qcow2_image.proofs.Prepare.Preparing.{readied_existing}
use Rattle.qcow2_image.proofs.Images.Places.{alone_of, inside_of, put_first}

pub returns-in-Some-clause-some : goal.returns-in-Some-clause-some
returns-in-Some-clause-some g c = λ some.
    let mid = c.writable_l2_table.new.self in
    let behind = subst (λ (x : Option ℕ). IfSome x (IsPlacedBehind mid)) c.in-Some.is c.in_ok-host.ensures.behind in
    record { some = subst (λ n. 0 < n) (sym c.existing_at.ensures.length) some; behind = subst (IsPlacedBehind mid) (sym c.existing_at.ensures.offset) behind }

pub returns-in_err-table-clause-pinned : goal.returns-in_err-table-clause-pinned
returns-in_err-table-clause-pinned g c = λ own. unpinned_refused c.args.self.now c.args.offset c.from_residual.result c.in_err-table.field-0.0 c.from_residual.ensures (λ is. absurd (met_untaken _ c.in_err-table.field-0.0 c.in_err-table.ensures.fails.cause is))

pub returns-in_err-host-clause-pinned : goal.returns-in_err-host-clause-pinned
returns-in_err-host-clause-pinned g c = λ own. unpinned_refused c.args.self.now c.args.offset c.from_residual-in_err-host.result c.in_err-host.field-0.0 c.from_residual-in_err-host.ensures (λ is. absurd (met_untaken _ c.in_err-host.field-0.0 c.in_err-host.ensures.cause is))

pub returns-in-None-clause-pinned : goal.returns-in-None-clause-pinned
returns-in-None-clause-pinned g c = λ own.
    prepared_unpinned c.args.self.now c.args.offset _ c.prepare_in.result (found_pins c.args.self.now c.writable_l2_table.new.self c.args.offset c.in_ok-table.table (c.in_ok-table.ensures.own own)) c.prepare_in.ensures.taken c.prepare_in.ensures.unpinned

pub returns-in-None-clause-l1_place : goal.returns-in-None-clause-l1_place
returns-in-None-clause-l1_place g c = λ within.
    on_ok _ c.prepare_in.result
    (place_then c.args.self.now.file.header.fields c.writable_l2_table.new.self.file.header.fields c.prepare_in.new.self.file.header.fields (c.in_ok-table.ensures.l1_place within) (place_kept c.writable_l2_table.new.self.file.header c.prepare_in.new.self.file.header c.prepare_in.ensures.step.header))

pub returns-in-None-clause-step : goal.returns-in-None-clause-step
returns-in-None-clause-step g c = record {
  stays = search rules;
  notes = notes_then c.writable_l2_table.ensures.step.notes c.prepare_in.ensures.step.notes;
  header_cluster = behind_then c.writable_l2_table.ensures.step.header_cluster (c.prepare_in.ensures.step.header_cluster c.in_ok-table.ensures.elsewhere);
}

pub returns-in_err-table-clause-sound : goal.returns-in_err-table-clause-sound
returns-in_err-table-clause-sound g c = λ some out sound.
    let old = c.args.self.now in
    let h = old.file.header.fields in
    let known = known_in g.S.Storage.view old.file in
    record {
      taken = search rules;
      answers = search rules;
      freeing = search rules;
      readies = handed_on (λ r. PreparesRange g.S.Storage.view g.F.BackingDisk.backing c.args.self.now c.writable_l2_table.new.self out c.args.offset c.args.length c.args.overwrite r) c.from_residual.result c.in_err-table.field-0.0 c.from_residual.ensures
          ((c.in_err-table.ensures.sound out sound).finds);
      may_fail = hands_met (MayFailAllocating (HasPinnedMapping out) (IsTaken h known c.args.offset c.args.length out) (CopiesCompressed c.args.offset c.args.length c.args.overwrite h known) (NeedsOverflowingL1Entry old c.args.offset)) c.from_residual.result c.in_err-table.field-0.0 c.from_residual.ensures
          (taking_as (λ held. held) (λ no. absurd no) (λ no. absurd no) (λ far. far) c.in_err-table.field-0.0 ((c.in_err-table.ensures.sound out sound).may_fail));
      limit = hands_limit c.from_residual.result c.in_err-table.field-0.0 c.from_residual.ensures ((c.in_err-table.ensures.sound out sound).limit);
    }

pub returns-in_err-host-clause-sound : goal.returns-in_err-host-clause-sound
returns-in_err-host-clause-sound g c = λ some out sound.
    let found = (c.in_ok-table.ensures.sound out sound).finds in
    record {
      taken = search rules;
      answers = search rules;
      freeing = search rules;
      readies = handed_on (λ r. PreparesRange g.S.Storage.view g.F.BackingDisk.backing c.args.self.now c.writable_l2_table.new.self out c.args.offset c.args.length c.args.overwrite r) c.from_residual-in_err-host.result c.in_err-host.field-0.0 c.from_residual-in_err-host.ensures
          (inl ((c.in_ok-table.ensures.sound out sound).finds).0);
      may_fail = absurd (let no : false ≡ true = c.in_err-host.ensures.reads (pending_in g.S.Storage.view g.F.BackingDisk.backing c.writable_l2_table.new.self out) found.0.sound.file found.1.entry in cc);
      limit = hands_limit c.from_residual-in_err-host.result c.in_err-host.field-0.0 c.from_residual-in_err-host.ensures (other_limit _ c.in_err-host.field-0.0 c.in_err-host.ensures.limited);
    }

pub returns-in-Some-clause-sound : goal.returns-in-Some-clause-sound
returns-in-Some-clause-sound g c = λ some out sound.
    let view = g.S.Storage.view in
    let below = g.F.BackingDisk.backing in
    let found = (c.in_ok-table.ensures.sound out sound).finds in
    let mid = c.writable_l2_table.new.self in
    let h = mid.file.header.fields in
    let known = known_in view mid.file in
    let q = c.existing_at.result in
    let p = pending_in view below mid out in
    let place = subst (IsPlaceOf h known c.args.offset c.args.length) c.in-Some.is (c.in_ok-host.ensures.place p found.0.sound.file (inside_of found.0.sound) (alone_of found.0.sound) found.1.entry some) in
    record {
      may_fail = search rules;
      taken = search rules;
      limit = search rules;
      readies = λ k free. readied_after view below out c.args.self.now c.writable_l2_table.new.self c.writable_l2_table.new.self found.0 k c.args.offset c.args.length c.args.overwrite c.existing_at.result
          (readied_existing view below out c.writable_l2_table.new.self found.0.sound c.existing_at.result c.args.offset c.args.length c.existing_at.ensures.existing k free c.args.overwrite);
      answers = answered_before view c.args.self.now mid c.args.offset c.args.length found.0.header found.0.covers mid.file.header.fields known q (meaning view below out.place mid q)
          (answered_existing view below out.place mid known c.args.offset c.args.length q mid.number some c.existing_at.ensures.existing (subst (IsWritableAt h known c.args.offset c.args.length) (sym c.existing_at.ensures.offset) place));
      freeing = λ none. (c.in_ok-table.ensures.sound out sound).freeing;
    }

pub returns-in-None-clause-sound : goal.returns-in-None-clause-sound
returns-in-None-clause-sound g c = λ some out sound.
    let found = (c.in_ok-table.ensures.sound out sound).finds in
    let view = g.S.Storage.view in
    let old = c.args.self.now in
    let below = g.F.BackingDisk.backing in
    let mid = c.writable_l2_table.new.self in
    let new = c.prepare_in.new.self in
    let size : cluster_size mid.file.header.fields ≡ cluster_size old.file.header.fields = ap (λ (x : HeaderFields). cluster_size x) found.0.header in
    let p = pending_in view g.F.BackingDisk.backing mid out in
    let nowhere = subst (IsPlaceOf mid.file.header.fields (known_in view mid.file) c.args.offset c.args.length) c.in-None.is (c.in_ok-host.ensures.place p found.0.sound.file (inside_of found.0.sound) (alone_of found.0.sound) found.1.entry some) in
    let taken =
    let p = pending_in view below mid out in
    let place = subst (IsPlaceOf mid.file.header.fields (known_in view mid.file) c.args.offset c.args.length) c.in-None.is (c.in_ok-host.ensures.place p found.0.sound.file (inside_of found.0.sound) (alone_of found.0.sound) found.1.entry some) in
    IfErr-weaker c.prepare_in.result _ _
    (λ e taken is.
    taken_before view old mid c.args.offset c.args.length found.0.header found.0.covers out
    (taken_by view below mid p out found.0.sound c.args.offset c.in_ok-table.table found.1 (known_in view mid.file) c.args.length (taken is) place)) c.prepare_in.ensures.taken in
    let answers =
    let p = pending_in view below mid out in
    let place = subst (IsPlaceOf mid.file.header.fields (known_in view mid.file) c.args.offset c.args.length) c.in-None.is (c.in_ok-host.ensures.place p found.0.sound.file (inside_of found.0.sound) (alone_of found.0.sound) found.1.entry some) in
    let placed = (free_places view below out.place).free mid [] out.slots found.0.sound in
    IfOk-weaker c.prepare_in.result _ _
    (λ q is. answered_before view old mid c.args.offset c.args.length found.0.header found.0.covers new.file.header.fields (known_in view new.file) q (meaning view below out.place new q) is)
    (answered_range view below mid new (put_first None out) 0 c.args.offset c.args.length c.args.overwrite refl place c.prepare_in.result
    ((c.prepare_in.ensures.sound (put_first None out) placed found.1).readies) (c.prepare_in.ensures.reaches (put_first None out) 0 refl placed found.1)) in
    record {
      readies = prepares_after g.S.Storage.view g.F.BackingDisk.backing out c.args.self.now c.writable_l2_table.new.self c.prepare_in.new.self found.0 c.args.offset c.args.length c.args.overwrite c.prepare_in.result
          ((c.prepare_in.ensures.sound out found.0.sound found.1).readies);
      may_fail = if_err_both
          (λ e. taking_kept (compressed_as old.file.header.fields mid.file.header.fields (known_in view old.file) (known_in view mid.file) c.args.offset c.args.length c.args.overwrite size found.0.covers) (λ no. absurd no) e)
          c.prepare_in.result taken ((c.prepare_in.ensures.sound out found.0.sound found.1).may_fail some);
      taken = taken;
      answers = answers;
      freeing = IfOk-weaker c.prepare_in.result _ _
          (λ q is none. let place = is.existing.0 none in absurd ((nowhere_before view old mid c.args.offset c.args.length found.0.header found.0.covers nowhere) place.0 place.1)) answers;
      limit = limits_as c.prepare_in.result (limited_since (omega arith) (goes_step c.writable_l2_table.ensures.step) found.0) ((c.prepare_in.ensures.sound out found.0.sound found.1).limit c.in_ok-table.ensures.elsewhere);
    }

pub returns-in_err-table-clause-existing : goal.returns-in_err-table-clause-existing
returns-in_err-table-clause-existing g c = λ some below. refused_exists c.writable_l2_table.new.self c.args.offset c.args.length c.from_residual.result c.in_err-table.field-0.0 c.from_residual.ensures

pub returns-in_err-host-clause-existing : goal.returns-in_err-host-clause-existing
returns-in_err-host-clause-existing g c = λ some below. refused_exists c.writable_l2_table.new.self c.args.offset c.args.length c.from_residual-in_err-host.result c.in_err-host.field-0.0 c.from_residual-in_err-host.ensures

pub returns-in-Some-clause-existing : goal.returns-in-Some-clause-existing
returns-in-Some-clause-existing g c = λ some below _.
    let mid = c.writable_l2_table.new.self in
    let owns = c.in_ok-table.ensures.owns in
    let here = c.in_ok-host.ensures.held (record { some = some; below = let size = c.writable_l2_table.ensures.step.stays.image.size in omega (arith, below, size); own = owns.1 }) owns.0 in (
      c.existing_at.ensures.existing.guest_is,
      subst (λ (place : Place). IsHeldAs mid c.args.offset (M.Raw place (offset_of c.existing_at.result) true) c.args.length) (sym c.existing_at.ensures.own.1)
          (subst (λ n. IsWritableInTables mid c.args.offset c.args.length n) (sym c.existing_at.ensures.offset) (subst (λ (x : Option ℕ). IfSome x (IsWritableInTables mid c.args.offset c.args.length)) c.in-Some.is here)),
    )

pub returns-in-None-clause-existing : goal.returns-in-None-clause-existing
returns-in-None-clause-existing g c = λ some below. pinned_exists c.prepare_in.new.self c.args.offset c.args.length c.prepare_in.result c.prepare_in.ensures.pins

pub returns-in-Some-clause-own : goal.returns-in-Some-clause-own
returns-in-Some-clause-own g c = own_since c.existing_at.result c.writable_l2_table.ensures.step.stays.image c.existing_at.ensures.own

pub returns-in-None-clause-own : goal.returns-in-None-clause-own
returns-in-None-clause-own g c = IfOk-weaker c.prepare_in.result _ _ (λ p own. own_since p c.writable_l2_table.ensures.step.stays.image own) c.prepare_in.ensures.own

pub returns-in-None-clause-fails : goal.returns-in-None-clause-fails
returns-in-None-clause-fails g c = record {
  faults = counted_since g.S.Storage.view g.F.BackingDisk.backing c.args.self.now c.writable_l2_table.new.self c.prepare_in.new.self c.prepare_in.result c.in_ok-table.ensures.fails.faults.told c.prepare_in.ensures.fails.faults;
  cause = search rules;
}

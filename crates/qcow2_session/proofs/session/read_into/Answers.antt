use Rattle.std.proofs.Common.{◌≡◌, ◌<◌, ◌+◌, ◌-◌, ◌≤◌, ◌∙◌, refl, length, IfErr, sym, subst, ap, [], take, drop, arith, rules, Some}
use Rattle.qcow2_session.proofs.Common.{counts_on, counts_still, common_steps, another, Shows, Guest, guest_of, abstract_of, IsRightlyBeyond, behind_none, behind_then, counted_on, faults_then, MayFailReadingFrom, refuses_to_read, written_none, written_then, MayFailReadingRange, known_in, same_image_then}
use Rattle.qcow2_session.proofs.Lemmas.{shows_as, shows_both, first_two, part_refused, refused_is, refuses_here, none_within, does_if, refuses_if, does_then, refuses_then, part_reads, at_rest, in_parts, parts_answered, parts_behind, parts_beyond, parts_handed, unmarked, refused_none, none_counted, does_nothing, reads_part}
use Rattle.qcow2_session.proofs.Reading.{reads_refused}
use Rattle.qcow2_session.proofs.ReadCauses.{reading_longer}
use Rattle.qcow2_session.proofs.session.read_into.Goals as goal

pub returns-in_default-clause-sees : goal.returns-in_default-clause-sees
returns-in_default-clause-sees g c = λ out. refuses_if (λ h. h.1) (refuses_here (another 2) (λ is. absurd cc) (c.loop-done.invariant.shown out))

pub returns-in_err-done-clause-sees : goal.returns-in_err-done-clause-sees
returns-in_err-done-clause-sees g c =
    let view = g.S.Storage.view in
    let below = g.F.BackingDisk.backing in
    reads_refused view below c.args.image.now c.read_some.new.image c.args.offset _ c.in_err-done.field-0.0 _ (refused_is _ c.in_err-done.field-0.0 c.from_residual-in_err-done.ensures)
    (λ out. refuses_if (λ h. h.1 ∙ h.0.1) (refuses_then (λ _ _. none_within (abstract_of view below c.loop-done.image out) []) (c.loop-done.invariant.shown out) (c.in_err-done.ensures.sees out)))

pub loop-done-preserved : goal.loop-done-preserved
loop-done-preserved g c = record {
  behind = behind_then c.loop-done.invariant.behind c.read_some.ensures.step.header_cluster;
  faults = faults_then g.S.Storage.view g.F.BackingDisk.backing c.args.image.now c.loop-done.image c.read_some.new.image c.loop-done.invariant.faults c.in_ok-done.ensures.step.faults.told;
  within = grind (arith, common_steps);
  end = grind (arith, common_steps);
  image = same_image_then c.loop-done.invariant.image c.read_some.ensures.step.image;
  works = c.in_ok-done.ensures.step.marks.fails ∙ c.loop-done.invariant.works;
  counts = counts_on g.S.Storage.view c.args.image.now c.loop-done.image c.read_some.new.image c.loop-done.invariant.counts c.in_ok-done.ensures.step.marks.counts;
  header = c.read_some.ensures.step.header ∙ c.loop-done.invariant.header;
  quiet = written_then g.S.Storage.view c.loop-done.invariant.quiet c.read_some.ensures.step.quiet;
  shown = λ out.
      let view = g.S.Storage.view in
      let below = g.F.BackingDisk.backing in
      let n = c.in_ok-done.field-0 in
      let first = take c.loop-done.done c.loop-done.bytes in
      let place : c.in-Some.at ≡ c.args.offset + length first = c.in-Some.ensures.1 ∙ grind (arith, common_steps) in
      does_if (λ h. (
        subst (λ b. Shows (guest_of (abstract_of view below c.args.image.now out)).disk c.args.offset b) (first_two c.loop-done.done n c.loop-done.bytes c.read_some.new.bytes _ (grind (arith, common_steps)) (grind (arith, common_steps)))
            (shows_both (guest_of (abstract_of view below c.args.image.now out)).disk c.args.offset first (take n c.read_some.new.bytes) h.0.0 (shows_as (ap (λ (v : Guest). v.disk) h.0.1) place refl h.1.0)),
        h.1.1 ∙ h.0.1,
      ))
      (does_then (λ _ _. none_within (abstract_of view below c.loop-done.image out) []) (c.loop-done.invariant.shown out) (c.in_ok-done.ensures.sees out));
}

pub returns-clause-sees : goal.returns-clause-sees
returns-clause-sees g c = λ out.
    let all : take c.loop-done.done c.loop-done.bytes ≡ c.loop-done.bytes = grind (arith, common_steps) in
    does_if (λ h. (subst (λ b. Shows (guest_of (abstract_of g.S.Storage.view g.F.BackingDisk.backing c.args.image.now out)).disk c.args.offset b) all h.0, h.1)) (c.loop-done.invariant.shown out)

pub loop-done-init : goal.loop-done-init
loop-done-init g c = record {
  faults = none_counted g.S.Storage.view g.F.BackingDisk.backing c.args.image.now;
  behind = behind_none;
  within = omega arith;
  end = grind (arith, common_steps);
  image = record { number = refl; size = refl; writable = refl; lacks = refl; beside = refl };
  works = refl;
  counts = counts_still g.S.Storage.view c.args.image.now;
  header = refl;
  quiet = written_none g.S.Storage.view c.args.image.now.file.storage c.args.image.now.file.caches;
  shown = λ out. does_if (λ same. (λ i lt. absurd (let none : i < length (take 0 c.args.bytes.now) = lt in grind (arith, common_steps)), same)) (does_nothing (abstract_of g.S.Storage.view g.F.BackingDisk.backing c.args.image.now out));
}

pub returns-in_err-check_read-clause-fails : goal.returns-in_err-check_read-clause-fails
returns-in_err-check_read-clause-fails g c = record {
  early = search rules;
  late = search rules;
  may_fail = λ none out sound. absurd (refused_none (refuses_to_read c.args.image.now c.args.offset (length c.args.bytes.now)) c.in_err-check_read.field-0.0 c.in_err-check_read.ensures.refusal none);
  beyond = search rules;
  cause = search rules;
}

pub returns-in_default-clause-fails : goal.returns-in_default-clause-fails
returns-in_default-clause-fails g c = record {
  early = search rules;
  late = λ none. absurd (c.in_default.ensures (omega (arith, c.loop-done.invariant.end, c.loop-done-test.true)));
  may_fail = λ none out sound. absurd (c.in_default.ensures (omega (arith, c.loop-done.invariant.end, c.loop-done-test.true)));
  beyond = λ is. absurd (c.in_default.ensures (omega (arith, c.loop-done.invariant.end, c.loop-done-test.true)));
  cause = search rules;
}

pub returns-in_err-done-clause-fails : goal.returns-in_err-done-clause-fails
returns-in_err-done-clause-fails g c = record {
  early = search rules;
  late = λ none.
      subst (λ r. IfErr r (λ e. MayFailReadingFrom c.read_some.new.image c.args.offset (c.args.offset + length c.args.bytes.now) e × (0 < length c.args.bytes.now))) (sym (refused_is _ c.in_err-done.field-0.0 c.from_residual-in_err-done.ensures))
      (let part = take (length c.loop-done.bytes - c.loop-done.done) (drop c.loop-done.done c.loop-done.bytes) in
      let rest : length part ≡ length c.loop-done.bytes - c.loop-done.done = grind (arith, common_steps) in
      let upto : c.in-Some.at + length part ≤ c.args.offset + length c.args.bytes.now = omega (arith, rest, c.in-Some.ensures.1, c.loop-done.invariant.within, c.loop-done.auto.bytes) in (
        reading_longer c.read_some.new.image c.in-Some.at (c.in-Some.at + length part) c.args.offset (c.args.offset + length c.args.bytes.now) c.in_err-done.field-0.0 (omega (arith, c.in-Some.ensures.1)) upto (c.in_err-done.ensures.late
            (part_reads c.args.image.now c.loop-done.image c.loop-done.invariant.image c.args.offset (length c.args.bytes.now) c.in-Some.at (length part) (omega (arith, c.in-Some.ensures.1)) upto c.loop-done.invariant.works none)
            (omega (arith, rest, c.loop-done-test.true))),
        omega (arith, c.loop-done.auto.bytes, c.loop-done-test.true),
      ));
  may_fail = λ none out sound.
      let old = c.args.image.now in
      let mid = c.loop-done.image in
      let n = length c.args.bytes.now in
      let part = take (length c.loop-done.bytes - c.loop-done.done) (drop c.loop-done.done c.loop-done.bytes) in
      let rest : length part ≡ length c.loop-done.bytes - c.loop-done.done = grind (arith, common_steps) in
      let from : c.args.offset ≤ c.in-Some.at = omega (arith, c.in-Some.ensures.1) in
      let upto : c.in-Some.at + length part ≤ c.args.offset + n = omega (arith, rest, c.in-Some.ensures.1, c.loop-done.invariant.within, c.loop-done.auto.bytes) in
      let so_far = c.loop-done.invariant.shown out in
      let still = (so_far.answer sound).0 in
      subst (λ r. IfErr r (MayFailReadingRange out c.args.offset (c.args.offset + length c.args.bytes.now) c.args.image.now.file.header.fields (known_in g.S.Storage.view c.args.image.now.file))) (sym (refused_is _ c.in_err-done.field-0.0 c.from_residual-in_err-done.ensures))
      (reads_part g.S.Storage.view g.F.BackingDisk.backing out old mid sound still (so_far.acts.works sound) c.args.offset (c.args.offset + n) c.in-Some.at (c.in-Some.at + length part) c.in_err-done.field-0.0 from upto
      (c.in_err-done.ensures.may_fail (part_reads old mid c.loop-done.invariant.image c.args.offset n c.in-Some.at (length part) from upto c.loop-done.invariant.works none) (omega (arith, rest, c.loop-done-test.true)) out still));
  beyond = subst (λ r. IfErr r (IsRightlyBeyond c.args.image.now c.args.offset (length c.args.bytes.now))) (sym (refused_is _ c.in_err-done.field-0.0 c.from_residual-in_err-done.ensures))
      (let part = take (length c.loop-done.bytes - c.loop-done.done) (drop c.loop-done.done c.loop-done.bytes) in
      let rest : length part ≡ length c.loop-done.bytes - c.loop-done.done = grind (arith, common_steps) in
      part_refused c.args.image.now c.loop-done.image c.args.offset (length c.args.bytes.now) c.in-Some.at (length part) c.in_err-done.field-0.0 c.loop-done.invariant.image.size (omega (arith, c.in-Some.ensures.1))
      (omega (arith, rest, c.in-Some.ensures.1, c.loop-done.invariant.within, c.loop-done.auto.bytes)) (c.in_err-done.ensures.beyond (omega (arith, rest, c.loop-done-test.true))));
  cause = search rules;
}

pub returns-in_err-done-clause-step : goal.returns-in_err-done-clause-step
returns-in_err-done-clause-step g c = record {
  image = search rules;
  header = search rules;
  faults = counted_on g.S.Storage.view g.F.BackingDisk.backing c.args.image.now c.loop-done.image c.read_some.new.image c.read_some.result c.in_err-done.field-0.0 c.from_residual-in_err-done.result c.loop-done.invariant.faults c.read_some.ensures.step.faults c.in_err-done.was
      c.from_residual-in_err-done.ensures;
  header_cluster = behind_then c.loop-done.invariant.behind c.read_some.ensures.step.header_cluster;
  marks = parts_handed g.S.Storage.view _ c.in_err-done.field-0.0 c.args.image.now c.read_some.new.image (refused_is _ c.in_err-done.field-0.0 c.from_residual-in_err-done.ensures) (parts_behind g.S.Storage.view (Some c.in_err-done.field-0.0) c.args.image.now c.loop-done.image c.read_some.new.image c.loop-done.invariant.works c.loop-done.invariant.counts c.in_err-done.ensures.step.marks);
  quiet = written_then g.S.Storage.view c.loop-done.invariant.quiet c.read_some.ensures.step.quiet;
}

pub returns-in_err-check_read-clause-step : goal.returns-in_err-check_read-clause-step
returns-in_err-check_read-clause-step g c = record {
  image = search rules;
  faults = search rules;
  header = search rules;
  quiet = search rules;
  header_cluster = behind_none;
  marks = parts_handed g.S.Storage.view _ c.in_err-check_read.field-0.0 c.args.image.now c.args.image.now (refused_is _ c.in_err-check_read.field-0.0 c.from_residual.ensures) (in_parts g.S.Storage.view (at_rest g.S.Storage.view (Some c.in_err-check_read.field-0.0) c.args.image.now (unmarked c.in_err-check_read.field-0.0 _ _ c.in_err-check_read.ensures.faults refl)));
}

pub returns-in_default-clause-step : goal.returns-in_default-clause-step
returns-in_default-clause-step g c = record {
  image = search rules;
  faults = search rules;
  header = search rules;
  header_cluster = search rules;
  quiet = search rules;
  marks = parts_beyond g.S.Storage.view c.args.image.now c.loop-done.image c.loop-done.invariant.works c.loop-done.invariant.counts;
}

pub returns-clause-step : goal.returns-clause-step
returns-clause-step g c = record {
  image = search rules;
  faults = search rules;
  header = search rules;
  header_cluster = search rules;
  quiet = search rules;
  marks = parts_answered g.S.Storage.view c.args.image.now c.loop-done.image c.loop-done.invariant.works c.loop-done.invariant.counts;
}

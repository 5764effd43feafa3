use Rattle.std.proofs.Common.{◌≡◌, ◌+◌, ◌-◌, ◌≤◌, ◌∙◌, refl, sym, [], subst, arith, rules, IfErr}
use Rattle.qcow2_session.proofs.Common.{abstract_of, Fills, known_in, MayFailReadingRange, behind_none, behind_then, reads_none, written_then, same_image_then}
use Rattle.qcow2_session.proofs.Lemmas.{converted, converting_part, so_far_none, so_far_part, so_far_then, does_nothing, interrupted_if, interrupted_then, reads_part, part_of_disk, unchanged_refused, fills_more, refused_is, none_within, does_if, does_then}
use Rattle.qcow2_session.proofs.convert.export_all.Goals as goal

pub loop-at-init : goal.loop-at-init
loop-at-init g c = record {
  behind = behind_none;
  faults = so_far_none g.S.Storage.view g.F.BackingDisk.backing c.args.image.now;
  counted = refl;
  within = omega arith;
  image = record { number = refl; size = refl; writable = refl; lacks = refl; beside = refl };
  quiet = reads_none g.S.Storage.view c.args.image.now;
  honest = λ h. h;
  same = λ out. does_nothing (abstract_of g.S.Storage.view g.F.BackingDisk.backing c.args.image.now out);
  filled = λ h out sound size le filled. filled;
}

pub loop-at-preserved : goal.loop-at-preserved
loop-at-preserved g c =
    let view = g.S.Storage.view in
    let below = g.F.BackingDisk.backing in
    record {
      behind = behind_then c.loop-at.invariant.behind c.export_some.ensures.step.header_cluster;
      faults = so_far_then g.S.Storage.view g.F.BackingDisk.backing c.args.image.now c.loop-at.image c.export_some.new.image c.loop-at.invariant.faults (so_far_part g.S.Storage.view g.F.BackingDisk.backing c.loop-at.image c.export_some.new.image _ _ c.in_ok-count.ensures.step.faults);
      counted = c.in_ok-count.ensures.step.faults.told.1 ∙ c.loop-at.invariant.counted;
      within = omega (arith, c.in_ok-count.ensures.within, c.loop-at-test.true);
      image = same_image_then c.loop-at.invariant.image c.export_some.ensures.step.image;
      quiet = written_then g.S.Storage.view c.loop-at.invariant.quiet c.export_some.ensures.step.quiet;
      honest = λ h. c.export_some.ensures.step.honest (c.loop-at.invariant.honest h);
      same = λ out. does_if (λ h. h.1 ∙ h.0) (does_then {more = []} (λ _ _. none_within (abstract_of view below c.loop-at.image out) []) (c.loop-at.invariant.same out) (c.in_ok-count.ensures.step.same out));
      filled = λ h.
          fills_more view below c.args.image.now c.loop-at.image 0 c.loop-at.at c.in_ok-count.count c.in_ok-count.count (g.R.Storage.view c.args.raw.now).contents (g.R.Storage.view c.loop-at.raw).contents (g.R.Storage.view c.export_some.new.raw).contents
          c.loop-at.invariant.same (c.loop-at.invariant.filled h) (c.in_ok-count.ensures.sees (c.loop-at.invariant.honest h)) refl;
    }

pub returns-clause-sees : goal.returns-clause-sees
returns-clause-sees g c = λ h.
    let done : c.loop-at.at ≡ c.args.size = omega (arith, c.loop-at.invariant.within, c.loop-at-test.false) in
    subst (λ k. Fills g.S.Storage.view g.F.BackingDisk.backing c.args.image.now 0 k (g.R.Storage.view c.args.raw.now).contents (g.R.Storage.view c.loop-at.raw).contents) done (c.loop-at.invariant.filled h)

pub returns-in_err-count-clause-may_fail : goal.returns-in_err-count-clause-may_fail
returns-in_err-count-clause-may_fail g c = λ none size out sound.
    let old = c.args.image.now in
    let mid = c.loop-at.image in
    let e = c.in_err-count.field-0.0 in
    let at = c.loop-at.at in
    let upto : at + (c.args.size - at) ≤ c.args.size = omega (arith, c.loop-at-test.true) in
    let so_far = c.loop-at.invariant.same out in
    let still = (so_far.answer sound).0 in
    subst (λ r. IfErr r (MayFailReadingRange out 0 c.args.size c.args.image.now.file.header.fields (known_in g.S.Storage.view c.args.image.now.file))) (sym (refused_is _ e c.from_residual.ensures))
    (reads_part g.S.Storage.view g.F.BackingDisk.backing out old mid sound still (so_far.acts.works sound) 0 c.args.size at (at + (c.args.size - at)) e (omega arith) upto
    (c.in_err-count.ensures.may_fail (part_of_disk old mid c.loop-at.invariant.image at (c.args.size - at) (omega (arith, upto, size)) still.works none) out still))

pub returns-in_err-count-clause-step : goal.returns-in_err-count-clause-step
returns-in_err-count-clause-step g c = record {
  image = search rules;
  honest = search rules;
  same = let view = g.S.Storage.view in
      let below = g.F.BackingDisk.backing in
      unchanged_refused view below c.args.image.now c.export_some.new.image c.in_err-count.field-0.0 _ (refused_is _ c.in_err-count.field-0.0 c.from_residual.ensures)
      (λ out. interrupted_if (λ h. h.1 ∙ h.0) (interrupted_then {more = []} (λ _ _. none_within (abstract_of view below c.loop-at.image out) []) (c.loop-at.invariant.same out) (c.in_err-count.ensures.step.same out)));
  faults = converting_part g.S.Storage.view g.F.BackingDisk.backing c.args.image.now c.loop-at.image c.export_some.new.image (g.R.Storage.view c.args.raw.now).faults (g.R.Storage.view c.loop-at.raw).faults (g.R.Storage.view c.export_some.new.raw).faults c.loop-at.invariant.faults c.loop-at.invariant.counted
      c.export_some.result c.in_err-count.field-0.0 _ c.export_some.ensures.step.faults c.in_err-count.was (refused_is _ c.in_err-count.field-0.0 c.from_residual.ensures);
  header_cluster = behind_then c.loop-at.invariant.behind c.export_some.ensures.step.header_cluster;
  quiet = written_then g.S.Storage.view c.loop-at.invariant.quiet c.export_some.ensures.step.quiet;
}

pub returns-clause-step : goal.returns-clause-step
returns-clause-step g c = record {
  image = search rules;
  same = search rules;
  honest = search rules;
  header_cluster = search rules;
  quiet = search rules;
  faults = converted _ _ _ _ _ _ _ (c.loop-at.invariant.faults) (c.loop-at.invariant.counted);
}

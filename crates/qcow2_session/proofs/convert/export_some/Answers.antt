use Rattle.std.proofs.Common.{◌≡◌, ◌+◌, ◌≤◌, ◌∙◌, [], length, take, replicate, refl, sym, subst, arith, rules, IfErr}
use Rattle.qcow2_session.proofs.Common.{common_steps, known_in, written_then, guest_of, abstract_of, MayFailReadingRange, behind_then, same_image_then}
use Rattle.qcow2_session.proofs.Lemmas.{interrupted, interrupted_if, interrupted_then, converted, converting_image, converting_part, so_far_call, so_far_none, so_far_part, so_far_then, fills_more, filled_same, unchanged_refused, reads_part, part_reads, does_if, does_then, none_within, refused_is}
use Rattle.qcow2_session.proofs.convert.export_some.Goals as goal

pub returns-in_err-passed-clause-step : goal.returns-in_err-passed-clause-step
returns-in_err-passed-clause-step g c = record {
  image = search rules;
  honest = search rules;
  header_cluster = search rules;
  same = unchanged_refused g.S.Storage.view g.F.BackingDisk.backing c.args.image.now c.zero_run.new.image c.in_err-passed.field-0.0 _ (refused_is _ c.in_err-passed.field-0.0 c.from_residual.ensures) (λ out. interrupted (c.in_err-passed.ensures.sees out));
  faults = converting_image g.S.Storage.view g.F.BackingDisk.backing c.args.image.now c.args.image.now c.zero_run.new.image (g.R.Storage.view c.args.raw.now).faults (g.R.Storage.view c.args.raw.now).faults (so_far_none g.S.Storage.view g.F.BackingDisk.backing c.args.image.now) refl
      c.zero_run.result c.in_err-passed.field-0.0 _ c.zero_run.ensures.step.faults c.in_err-passed.ensures.step.marks c.in_err-passed.was (refused_is _ c.in_err-passed.field-0.0 c.from_residual.ensures);
  quiet = c.zero_run.ensures.step.quiet;
}

pub returns-in_err-passed-clause-may_fail : goal.returns-in_err-passed-clause-may_fail
returns-in_err-passed-clause-may_fail g c = λ none out sound.
    subst (λ r. IfErr r (MayFailReadingRange out c.args.at (c.args.at + c.args.max) c.args.image.now.file.header.fields (known_in g.S.Storage.view c.args.image.now.file))) (sym (refused_is _ c.in_err-passed.field-0.0 c.from_residual.ensures)) (c.in_err-passed.ensures.may_fail out sound)

pub returns-then-passed-gt0-clause-step : goal.returns-then-passed-gt0-clause-step
returns-then-passed-gt0-clause-step g c = record {
  image = search rules;
  honest = search rules;
  header_cluster = search rules;
  same = λ out. does_if (λ h. h.1) (c.in_ok-passed.ensures.sees out);
  faults = converted _ _ _ _ _ _ _ (so_far_call g.S.Storage.view g.F.BackingDisk.backing c.args.image.now c.zero_run.new.image c.in_ok-passed.ensures.step.faults.told c.in_ok-passed.ensures.step.marks) (refl);
  quiet = c.zero_run.ensures.step.quiet;
}

pub returns-then-passed-gt0-clause-sees : goal.returns-then-passed-gt0-clause-sees
returns-then-passed-gt0-clause-sees g c = λ honest out sound size le filled.
    let shows = (c.in_ok-passed.ensures.sees out).answer sound in
    filled_same (guest_of (abstract_of g.S.Storage.view g.F.BackingDisk.backing c.args.image.now out)).disk size c.args.at c.in_ok-passed.passed (g.R.Storage.view c.args.raw.now).contents (replicate c.in_ok-passed.passed 0) filled shows.1.0 refl

pub returns-in_err-export_at-clause-step : goal.returns-in_err-export_at-clause-step
returns-in_err-export_at-clause-step g c =
    let view = g.S.Storage.view in
    let below = g.F.BackingDisk.backing in
    let old = c.args.image.now in
    let mid = c.zero_run.new.image in
    let new = c.export_at.new.image in
    let e = c.in_err-export_at.field-0.0 in
    record {
      image = search rules;
      honest = search rules;
      same = unchanged_refused view below old new e _ (refused_is _ e c.from_residual-in_err-export_at.ensures)
          (λ out. interrupted_if (λ h. h.1 ∙ h.0) (interrupted_then {more = []} (λ _ _. none_within (abstract_of view below mid out) []) (does_if (λ h. h.1) (c.in_ok-passed.ensures.sees out)) (c.in_err-export_at.ensures.step.same out)));
      faults = converting_part view below old mid new (g.R.Storage.view c.args.raw.now).faults (g.R.Storage.view c.args.raw.now).faults (g.R.Storage.view c.export_at.new.raw).faults
          (so_far_call view below old mid c.in_ok-passed.ensures.step.faults.told c.in_ok-passed.ensures.step.marks) refl
          c.export_at.result e _ c.export_at.ensures.step.faults c.in_err-export_at.was (refused_is _ e c.from_residual-in_err-export_at.ensures);
      header_cluster = behind_then c.zero_run.ensures.step.header_cluster c.export_at.ensures.step.header_cluster;
      quiet = written_then view c.zero_run.ensures.step.quiet c.export_at.ensures.step.quiet;
    }

pub returns-in_err-export_at-clause-may_fail : goal.returns-in_err-export_at-clause-may_fail
returns-in_err-export_at-clause-may_fail g c = λ none out sound.
    let view = g.S.Storage.view in
    let old = c.args.image.now in
    let mid = c.zero_run.new.image in
    let e = c.in_err-export_at.field-0.0 in
    let at = c.args.at in
    let count = length (take c.min-count.result c.args.bytes.now) in
    let long : count ≡ c.min-count.result = grind (arith, common_steps) in
    let upto : at + count ≤ at + c.args.max = omega (arith, c.min-count.ensures, long) in
    let so_far = does_if (λ h. h.1) (c.in_ok-passed.ensures.sees out) in
    let still = (so_far.answer sound).0 in
    subst (λ r. IfErr r (MayFailReadingRange out at (at + c.args.max) old.file.header.fields (known_in view old.file))) (sym (refused_is _ e c.from_residual-in_err-export_at.ensures))
    (reads_part view g.F.BackingDisk.backing out old mid sound still (so_far.acts.works sound) at (at + c.args.max) at (at + count) e (omega arith) upto
    (c.in_err-export_at.ensures.may_fail (part_reads old mid c.zero_run.ensures.step.image at c.args.max at count (omega arith) upto c.in_ok-passed.ensures.step.marks.fails none) out still))

pub returns-clause-step : goal.returns-clause-step
returns-clause-step g c =
    let view = g.S.Storage.view in
    let below = g.F.BackingDisk.backing in
    let old = c.args.image.now in
    let mid = c.zero_run.new.image in
    let new = c.export_at.new.image in
    record {
      image = same_image_then c.zero_run.ensures.step.image c.export_at.ensures.step.image;
      honest = search rules;
      same = λ out. does_if (λ h. h.1 ∙ h.0) (does_then {more = []} (λ _ _. none_within (abstract_of view below mid out) []) (does_if (λ h. h.1) (c.in_ok-passed.ensures.sees out)) (c.in_ok-export_at.ensures.step.same out));
      faults = converted _ _ _ _ _ _ _ (so_far_then view below old mid new (so_far_call view below old mid c.in_ok-passed.ensures.step.faults.told c.in_ok-passed.ensures.step.marks) (so_far_part view below mid new _ _ c.in_ok-export_at.ensures.step.faults)) (c.in_ok-export_at.ensures.step.faults.told.1);
      header_cluster = behind_then c.zero_run.ensures.step.header_cluster c.export_at.ensures.step.header_cluster;
      quiet = written_then view c.zero_run.ensures.step.quiet c.export_at.ensures.step.quiet;
    }

pub returns-clause-sees : goal.returns-clause-sees
returns-clause-sees g c = λ honest.
    let mid = c.zero_run.new.image in
    let before = (g.R.Storage.view c.args.raw.now).contents in
    let long : length (take c.min-count.result c.args.bytes.now) ≡ c.min-count.result = grind (arith, common_steps) in
    fills_more g.S.Storage.view g.F.BackingDisk.backing c.args.image.now mid c.args.at c.args.at (length (take c.min-count.result c.args.bytes.now)) c.min-count.result before before (g.R.Storage.view c.export_at.new.raw).contents
    (λ out. does_if (λ h. h.1) (c.in_ok-passed.ensures.sees out)) (λ out sound size le filled. filled) (c.in_ok-export_at.ensures.sees honest) long

use Rattle.std.proofs.Common.{◌≡◌, ◌+◌, ◌-◌, ◌%◌, ◌<◌, ◌≤◌, ◌++◌, sym, drop, length, take, refl, ap, ◌∙◌, subst, arith, min, ℕ, rules, IfErr, Ok}
use Rattle.qcow2_session.proofs.Common.{limited_joined, zero-mod, add-mod_right, common_steps, bytes_at, with_disk, with_bytes, guest_of, Setting, abstract_of, ImportsAnyOf, MayFailImporting, IsReasonNotToWrite, behind_none, behind_then, written_then, same_image_then}
use Rattle.qcow2_session.proofs.convert.import_all.Goals as goal
use Rattle.qcow2_session.proofs.Lemmas.{converted, converting_part, so_far_none, so_far_part, so_far_then, part_of_disk, any_more, any_none, any_refused, imports_none, all_more, all_refused, same_range, refused_is, does_if, quiet_image}
use Rattle.qcow2_session.proofs.Differing.{part_kept}
use Rattle.qcow2_session.proofs.Reasons.{importing_within, reason_within}

pub loop-at-init : goal.loop-at-init
loop-at-init g c = record {
  behind = behind_none;
  quiet = λ reading. quiet_image g.S.Storage.view c.args.image.now c.args.image.now refl;
  faults = so_far_none g.S.Storage.view g.F.BackingDisk.backing c.args.image.now;
  counted = refl;
  within = omega arith;
  aligned = λ lt. zero-mod (length c.args.wanted.now);
  image = record { number = refl; size = refl; writable = refl; lacks = refl; beside = refl };
  raw = λ honest. (honest, refl);
  any = any_none g.S.Storage.view g.F.BackingDisk.backing c.args.image.now;
  written = λ honest size out. imports_none (abstract_of g.S.Storage.view g.F.BackingDisk.backing c.args.image.now out) (g.R.Storage.view c.args.raw.now).contents;
}

-- a whole cluster more
next_aligned : (at count long size : ℕ) → count ≡ min long (size - at) → at % long ≡ 0 → at + count < size → (at + count) % long ≡ 0
next_aligned at count long size is start more =
    let whole : count ≡ long = omega (arith, is, more) in
    ap (λ k. (at + k) % long) whole ∙ add-mod_right at long ∙ start

pub loop-at-preserved : goal.loop-at-preserved
loop-at-preserved g c =
    let kept : length c.import_at.new.wanted ≡ c.min-count.result = grind (arith, common_steps) in
    let whole : length c.loop-at.wanted ≡ length (c.import_at.new.wanted ++ drop c.min-count.result c.loop-at.wanted) = grind (arith, common_steps) in
    record {
      behind = behind_then c.loop-at.invariant.behind c.import_at.ensures.step.header_cluster;
      quiet = λ reading. written_then g.S.Storage.view (c.loop-at.invariant.quiet reading) (c.import_at.ensures.step.quiet (c.loop-at.invariant.image.writable ∙ reading));
      faults = so_far_then g.S.Storage.view g.F.BackingDisk.backing c.args.image.now c.loop-at.image c.import_at.new.image c.loop-at.invariant.faults (so_far_part g.S.Storage.view g.F.BackingDisk.backing c.loop-at.image c.import_at.new.image _ _ c.in_ok-import_at.ensures.step.faults);
      counted = c.in_ok-import_at.ensures.step.faults.told.1 ∙ c.loop-at.invariant.counted;
      within = grind (arith, common_steps);
      aligned = λ more. subst (λ k. (c.loop-at.at + c.min-count.result) % k ≡ 0) whole
          (next_aligned c.loop-at.at c.min-count.result (length c.loop-at.wanted) c.args.size c.min-count.ensures (c.loop-at.invariant.aligned c.loop-at-test.true) more);
      image = same_image_then c.loop-at.invariant.image c.import_at.ensures.step.image;
      raw = λ honest. let before = c.loop-at.invariant.raw honest in let after = c.import_at.ensures.step.raw_left before.0 in (after.0, after.1 ∙ before.1);
      any =
          let long : length (take c.min-count.result c.loop-at.wanted) ≡ c.min-count.result = grind (arith, common_steps) in
          subst (λ n. ImportsAnyOf g.S.Storage.view g.F.BackingDisk.backing c.args.image.now c.import_at.new.image (c.loop-at.at + n) (Ok tt)) long
          (any_more g.S.Storage.view g.F.BackingDisk.backing c.args.image.now c.loop-at.image c.import_at.new.image c.loop-at.at c.loop-at.invariant.any (length (take c.min-count.result c.loop-at.wanted)) c.in_ok-import_at.ensures.any);
      written = λ honest size.
          let before = c.loop-at.invariant.raw honest in
          let long : length (take c.min-count.result c.loop-at.wanted) ≡ c.min-count.result = grind (arith, common_steps) in
          all_more g.S.Storage.view g.F.BackingDisk.backing c.args.image.now (g.R.Storage.view c.args.raw.now).contents c.loop-at.image c.import_at.new.image c.loop-at.at c.min-count.result
          (omega (arith, c.min-count.ensures, c.loop-at-test.true, size))
          (bytes_at (g.R.Storage.view c.loop-at.raw).contents c.loop-at.at (length (take c.min-count.result c.loop-at.wanted)))
          (same_range (g.R.Storage.view c.loop-at.raw).contents (g.R.Storage.view c.args.raw.now).contents c.loop-at.at (length (take c.min-count.result c.loop-at.wanted)) c.min-count.result before.1 long)
          (c.loop-at.invariant.written honest size) (c.in_ok-import_at.ensures.sees before.0);
    }

pub returns-in_err-import_at-clause-sees : goal.returns-in_err-import_at-clause-sees
returns-in_err-import_at-clause-sees g c = λ honest size.
    let before = c.loop-at.invariant.raw honest in
    let long : length (take c.min-count.result c.loop-at.wanted) ≡ c.min-count.result = grind (arith, common_steps) in
    all_refused g.S.Storage.view g.F.BackingDisk.backing c.args.image.now (g.R.Storage.view c.args.raw.now).contents c.loop-at.image c.import_at.new.image c.loop-at.at c.min-count.result
    (omega (arith, c.min-count.ensures, c.loop-at-test.true, size))
    (bytes_at (g.R.Storage.view c.loop-at.raw).contents c.loop-at.at (length (take c.min-count.result c.loop-at.wanted)))
    (same_range (g.R.Storage.view c.loop-at.raw).contents (g.R.Storage.view c.args.raw.now).contents c.loop-at.at (length (take c.min-count.result c.loop-at.wanted)) c.min-count.result before.1 long)
    (c.loop-at.invariant.written honest size) c.in_err-import_at.field-0.0 _ (refused_is _ c.in_err-import_at.field-0.0 c.from_residual.ensures)
    (subst (λ k. c.loop-at.at % k ≡ 0) (c.loop-at.auto.wanted ∙ c.requires.wanted) (c.loop-at.invariant.aligned c.loop-at-test.true)) (omega (arith, c.min-count.ensures, c.loop-at.auto.wanted, c.requires.wanted)) (c.in_err-import_at.ensures.sees before.0)

pub returns-clause-sees : goal.returns-clause-sees
returns-clause-sees g c = λ honest size out.
    let contents = (g.R.Storage.view c.args.raw.now).contents in
    let all : take c.loop-at.at contents ≡ contents = grind (arith, common_steps, size, c.loop-at.invariant.within, c.loop-at-test.false) in
    does_if (λ e. subst (λ b. guest_of (abstract_of g.S.Storage.view g.F.BackingDisk.backing c.loop-at.image out) ≡ with_disk (guest_of (abstract_of g.S.Storage.view g.F.BackingDisk.backing c.args.image.now out)) (with_bytes (guest_of (abstract_of g.S.Storage.view g.F.BackingDisk.backing c.args.image.now out)).disk 0 b)) all e)
    (c.loop-at.invariant.written honest size out)

pub returns-in_err-import_at-clause-any : goal.returns-in_err-import_at-clause-any
returns-in_err-import_at-clause-any g c =
    let long : length (take c.min-count.result c.loop-at.wanted) ≡ c.min-count.result = grind (arith, common_steps) in
    any_refused g.S.Storage.view g.F.BackingDisk.backing c.args.image.now c.loop-at.image c.import_at.new.image c.loop-at.at c.loop-at.invariant.any (length (take c.min-count.result c.loop-at.wanted)) c.args.size
    (omega (arith, c.min-count.ensures, c.loop-at-test.true, long)) c.in_err-import_at.field-0.0 _ (refused_is _ c.in_err-import_at.field-0.0 c.from_residual.ensures)
    (subst (λ k. c.loop-at.at % k ≡ 0) (c.loop-at.auto.wanted ∙ c.requires.wanted) (c.loop-at.invariant.aligned c.loop-at-test.true)) (omega (arith, c.min-count.ensures, c.loop-at.auto.wanted, c.requires.wanted, long)) c.in_err-import_at.ensures.any

pub returns-clause-any : goal.returns-clause-any
returns-clause-any g c =
    let done : c.loop-at.at ≡ c.args.size = omega (arith, c.loop-at.invariant.within, c.loop-at-test.false) in
    subst (λ n. ImportsAnyOf g.S.Storage.view g.F.BackingDisk.backing c.args.image.now c.loop-at.image n (Ok tt)) done c.loop-at.invariant.any

pub returns-in_err-import_at-clause-late : goal.returns-in_err-import_at-clause-late
returns-in_err-import_at-clause-late g c = λ none size out sound.
    let count = length (take c.min-count.result c.loop-at.wanted) in
    let long : length (take c.min-count.result c.loop-at.wanted) ≡ c.min-count.result = grind (arith, common_steps) in
    let first = c.loop-at.invariant.any.2 out in
    let now = (first.answer sound).0 in
    let upto : c.loop-at.at + count ≤ c.args.size = omega (arith, c.min-count.ensures, c.loop-at-test.true, long) in
    subst (λ r. IfErr r (IsReasonNotToWrite g.S.Storage.view g.F.BackingDisk.backing c.args.image.now c.import_at.new.image 0 c.args.size out)) (sym (refused_is _ c.in_err-import_at.field-0.0 c.from_residual.ensures))
    (reason_within g.S.Storage.view g.F.BackingDisk.backing c.args.image.now c.loop-at.image c.import_at.new.image c.loop-at.invariant.image (ap (λ (x : Setting). x.cluster_size) (first.acts.works sound).setting) 0 c.args.size c.loop-at.at (c.loop-at.at + count)
    (omega arith) (omega (arith, c.min-count.ensures, c.loop-at-test.true, long)) out c.in_err-import_at.field-0.0
    (λ may_fail. limited_joined upto (record { image = c.loop-at.invariant.image; header_cluster = c.loop-at.invariant.behind }) now _ (first.acts.works sound) may_fail)
    (c.in_err-import_at.ensures.late (part_of_disk c.args.image.now c.loop-at.image c.loop-at.invariant.image c.loop-at.at count (omega (arith, c.min-count.ensures, c.loop-at-test.true, long, size)) now.works none) out now))

pub returns-in_err-import_at-clause-may_fail : goal.returns-in_err-import_at-clause-may_fail
returns-in_err-import_at-clause-may_fail g c = λ none size out sound.
    let e = c.in_err-import_at.field-0.0 in
    let at = c.loop-at.at in
    let count = length (take c.min-count.result c.loop-at.wanted) in
    let long : count ≡ c.min-count.result = grind (arith, common_steps) in
    let upto : at + count ≤ c.args.size = omega (arith, c.min-count.ensures, c.loop-at-test.true, long) in
    let now = ((c.loop-at.invariant.any.2 out).answer sound).0 in
    subst (λ r. IfErr r (MayFailImporting g.S.Storage.view 0 c.args.size c.import_at.new.image out)) (sym (refused_is _ e c.from_residual.ensures))
    (importing_within g.S.Storage.view c.import_at.new.image out 0 c.args.size at (at + count) e (omega arith) upto
    (c.in_err-import_at.ensures.may_fail (part_of_disk c.args.image.now c.loop-at.image c.loop-at.invariant.image at count (omega (arith, upto, size)) now.works none) out now))

pub returns-in_err-import_at-clause-differs : goal.returns-in_err-import_at-clause-differs
returns-in_err-import_at-clause-differs g c = λ honest size.
    let before = c.loop-at.invariant.raw honest in
    let long : length (take c.min-count.result c.loop-at.wanted) ≡ c.min-count.result = grind (arith, common_steps) in
    part_kept g.S.Storage.view g.F.BackingDisk.backing c.args.image.now c.loop-at.image (g.R.Storage.view c.args.raw.now).contents c.loop-at.at c.min-count.result
    (omega (arith, c.min-count.ensures, c.loop-at-test.true, size))
    (bytes_at (g.R.Storage.view c.loop-at.raw).contents c.loop-at.at (length (take c.min-count.result c.loop-at.wanted)))
    (same_range (g.R.Storage.view c.loop-at.raw).contents (g.R.Storage.view c.args.raw.now).contents c.loop-at.at (length (take c.min-count.result c.loop-at.wanted)) c.min-count.result before.1 long)
    (c.loop-at.invariant.written honest size) c.in_err-import_at.field-0.0 _ (refused_is _ c.in_err-import_at.field-0.0 c.from_residual.ensures) (c.in_err-import_at.ensures.differs before.0)

pub returns-in_err-import_at-clause-step : goal.returns-in_err-import_at-clause-step
returns-in_err-import_at-clause-step g c = record {
  image = search rules;
  raw_left = search rules;
  faults = converting_part g.S.Storage.view g.F.BackingDisk.backing c.args.image.now c.loop-at.image c.import_at.new.image (g.R.Storage.view c.args.raw.now).faults (g.R.Storage.view c.loop-at.raw).faults (g.R.Storage.view c.import_at.new.raw).faults c.loop-at.invariant.faults c.loop-at.invariant.counted
      c.import_at.result c.in_err-import_at.field-0.0 _ c.import_at.ensures.step.faults c.in_err-import_at.was (refused_is _ c.in_err-import_at.field-0.0 c.from_residual.ensures);
  quiet = λ reading. written_then g.S.Storage.view (c.loop-at.invariant.quiet reading) (c.import_at.ensures.step.quiet (c.loop-at.invariant.image.writable ∙ reading));
  header_cluster = behind_then c.loop-at.invariant.behind c.import_at.ensures.step.header_cluster;
}

pub returns-clause-step : goal.returns-clause-step
returns-clause-step g c = record { image = search rules; raw_left = search rules; faults = converted _ _ _ _ _ _ _ (c.loop-at.invariant.faults) (c.loop-at.invariant.counted); quiet = search rules; header_cluster = search rules }

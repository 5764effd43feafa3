use Rattle.std.proofs.Common.{◌≡◌, ◌∷◌, ◌<◌, ◌+◌, ◌≤◌, ◌%◌, rules, ℕ, ◌∙◌, subst, take, drop, length, [], ap, arith, refl, Option, Some, None, Result, Err, Ok}
use Rattle.qcow2_session.proofs.Common.{counts_on, IfSome, common_steps, take_rest, another, Setting, given_of, works_less, abstract_of, refusal_of, LeavesCopied, Writes, cluster_size_of, NeedsOverflowingL1Entry, limited_from, limited_giving, IsTaken, IsUnderMappingIn, TablePrepared, refuses_to_prepare, faults_then, behind_then, written_then, known_in, taking_kept, same_image_then}
use Rattle.qcow2_session.proofs.Lemmas.{parts_answered, parts_behind, parts_beyond, ends_on, write_refused, first_given, never_first, no_more_then, stops_behind, stops_first, writes_on, part_refused, does_less, refuses_here, refuses_if, nothing_refused, not_failed_yet, part_prepares, part_under, prepares_usable, under_taken, copied_on, compressed_in_part}
use Rattle.qcow2_session.proofs.session.write.Goals as goal
use Rattle.qcow2_session.proofs.Respecting.{heeded_first, heeded_more}

pub returns-in_default-clause-sees : goal.returns-in_default-clause-sees
returns-in_default-clause-sees g c = λ out. refuses_if (λ same. (c.loop-done.invariant.within, same)) (refuses_here (another 2) (λ is. absurd cc) (does_less (first_given _ c.args.offset c.loop-done.done c.args.bytes.now) (c.loop-done.invariant.written out)))

pub loop-done-preserved : goal.loop-done-preserved
loop-done-preserved g c = record {
  behind = behind_then c.loop-done.invariant.behind c.write_some-in-loop-done.ensures.step.header_cluster;
  faults = faults_then g.S.Storage.view g.F.BackingDisk.backing c.args.image.now c.loop-done.image c.write_some-in-loop-done.new.image c.loop-done.invariant.faults c.in-Ok-write_some.ensures.step.faults.told;
  works = c.in-Ok-write_some.ensures.answers.end.0 ∙ c.loop-done.invariant.works;
  counts = counts_on g.S.Storage.view c.args.image.now c.loop-done.image c.write_some-in-loop-done.new.image c.loop-done.invariant.counts c.in-Ok-write_some.ensures.step.marks.counts;
  within = grind (arith, common_steps);
  some_done = λ some. let first = c.loop-done.invariant.some_done some in omega (arith, first);
  image = same_image_then c.loop-done.invariant.image c.write_some-in-loop-done.ensures.step.image;
  quiet = λ reading. written_then g.S.Storage.view (c.loop-done.invariant.quiet reading) (c.write_some-in-loop-done.ensures.step.quiet (c.loop-done.invariant.image.writable ∙ reading));
  ends = λ out sound more.
      let still = (c.loop-done.invariant.written out).answer sound in
      let rest : c.in-Ok-write_some.count < length (drop c.loop-done.done c.args.bytes.now) = grind (arith, common_steps) in
      ends_on c.args.image.now c.loop-done.image (ap (λ (x : Setting). x.cluster_size) ((c.loop-done.invariant.written out).acts.works sound).setting) c.args.offset c.loop-done.done c.in-Ok-write_some.count c.in-Some.at c.in-Some.ensures.1
      ((rw (take_rest c.args.bytes.now c.loop-done.done) at ((c.in-Ok-write_some.ensures.sound out still.0).ends)) rest);
  copied = λ some out sound.
      let still = ((c.loop-done.invariant.written out).answer sound).0 in
      let more : 0 < length (drop c.loop-done.done c.args.bytes.now) = grind (arith, common_steps) in
      let part = rw (take_rest c.args.bytes.now c.loop-done.done) at (c.in-Ok-write_some.ensures.sees out) in
      copied_on g.S.Storage.view g.F.BackingDisk.backing c.args.image.now c.loop-done.image c.write_some-in-loop-done.new.image out still (part.answer still).0 c.args.offset c.in-Some.at c.loop-done.done c.in-Ok-write_some.count c.args.bytes.now c.loop-done.invariant.within c.in-Some.ensures.1
      c.loop-done.invariant.written (c.loop-done.invariant.some_done some) (part.acts.works still) (c.loop-done.invariant.copied some out sound) (((rw (take_rest c.args.bytes.now c.loop-done.done) at c.in-Ok-write_some.ensures.sound) out still).copied more);
  end = c.loop-done.invariant.end;
  heeded = λ none out sound.
      let old = c.args.image.now in
      let mid = c.loop-done.image in
      let n = length c.args.bytes.now in
      let rest = length (drop c.loop-done.done c.args.bytes.now) in
      let so_far = c.loop-done.invariant.written out in
      let still = (so_far.answer sound).0 in
      let respects = (((rw (take_rest c.args.bytes.now c.loop-done.done) at c.in-Ok-write_some.ensures.sound) out still).refused
      (part_prepares old mid c.loop-done.invariant.image c.args.offset n c.in-Some.at rest (grind (arith, common_steps)) (grind (arith, common_steps)) still.works (omega (arith, c.loop-done-test.true)) none)).taken in
      heeded_more g.S.Storage.view g.F.BackingDisk.backing old out c.args.offset c.args.bytes.now c.loop-done.done c.in-Ok-write_some.count c.in-Some.at mid c.in-Some.ensures.1 (ap (λ (x : Setting). x.cluster_size) (so_far.acts.works sound).setting) c.loop-done.invariant.written
      (never_first c.loop-done.done (c.loop-done.invariant.some_done (omega (arith, c.loop-done-test.true))))
      (grind (arith, common_steps)) respects (c.loop-done.invariant.heeded none out sound);
  freeing = λ out sound. no_more_then c.args.image.now c.loop-done.image c.write_some-in-loop-done.new.image (c.loop-done.invariant.freeing out sound) (c.in-Ok-write_some.ensures.sound out ((c.loop-done.invariant.written out).answer sound).0).freeing;
  written = λ out. writes_on c.args.offset c.in-Some.at c.loop-done.done c.in-Ok-write_some.count c.args.bytes.now c.loop-done.invariant.within c.in-Some.ensures.1
      (abstract_of g.S.Storage.view g.F.BackingDisk.backing c.args.image.now out) (abstract_of g.S.Storage.view g.F.BackingDisk.backing c.loop-done.image out) (abstract_of g.S.Storage.view g.F.BackingDisk.backing c.write_some-in-loop-done.new.image out)
      (c.loop-done.invariant.written out) (rw (take_rest c.args.bytes.now c.loop-done.done) at (c.in-Ok-write_some.ensures.sees out));
}

pub returns-in-Err-write_some-clause-sees : goal.returns-in-Err-write_some-clause-sees
returns-in-Err-write_some-clause-sees g c = λ out. write_refused c.args.offset c.in-Some.at c.loop-done.done c.args.bytes.now c.loop-done.invariant.within c.in-Some.ensures.1
    (abstract_of g.S.Storage.view g.F.BackingDisk.backing c.args.image.now out) (abstract_of g.S.Storage.view g.F.BackingDisk.backing c.loop-done.image out) (abstract_of g.S.Storage.view g.F.BackingDisk.backing c.write_some-in-loop-done.new.image out)
    (does_less (first_given _ c.args.offset c.loop-done.done c.args.bytes.now) (c.loop-done.invariant.written out)) (refusal_of c.in-Err-write_some.refusal) (rw (take_rest c.args.bytes.now c.loop-done.done) at (c.in-Err-write_some.ensures.sees out))

pub returns-clause-sees : goal.returns-clause-sees
returns-clause-sees g c = λ out.
    let all : take c.loop-done.done c.args.bytes.now ≡ c.args.bytes.now = grind (arith, common_steps) in
    subst (λ b. Writes g.S.Storage.view g.F.BackingDisk.backing c.args.image.now c.loop-done.image c.args.offset b (Ok tt)) all c.loop-done.invariant.written out

-- what refused the first part refused the whole
refused_first : (A B : Type 0) {E : Type 0} (X : Type 0) (o : Option E) (e : E) (n : ℕ) → IfSome o (λ x. (◌≡◌ {A = Result A E} (Err e) (Err x)) × X) → IfSome o (λ x. (◌≡◌ {A = Result B (E × ℕ)} (Err (e, n)) (Err (x, n))) × X)
refused_first A B X None e n early = tt
refused_first A B X (Some x) e n early = (let is = early.0 in cc, early.1)

pub returns-in-Err-clause-fails : goal.returns-in-Err-clause-fails
returns-in-Err-clause-fails g c = record {
  early = refused_first ℕ (Unit {0}) _ (refuses_to_prepare c.args.image.now c.args.offset (length c.args.bytes.now)) c.in-Err.refusal 0 c.in-Err.ensures.fails.early;
  late = λ none. c.in-Err.ensures.fails.late none;
  within = search rules;
  beyond = search rules;
  cause = search rules;
}

pub returns-in_default-clause-fails : goal.returns-in_default-clause-fails
returns-in_default-clause-fails g c = record {
  early = search rules;
  late = λ none. absurd (c.in_default.ensures (omega (arith, c.loop-done.invariant.end, c.loop-done-test.true)));
  within = search rules;
  beyond = λ is. absurd (c.in_default.ensures (omega (arith, c.loop-done.invariant.end, c.loop-done-test.true)));
  cause = search rules;
}

pub returns-in-Err-write_some-clause-fails : goal.returns-in-Err-write_some-clause-fails
returns-in-Err-write_some-clause-fails g c = record {
  early = nothing_refused _ _ (refuses_to_prepare c.args.image.now c.args.offset (length c.args.bytes.now)) c.write_some.result c.in-Ok.count c.write_some.ensures.fails.early c.in-Ok.is;
  late = λ none.
      let old = c.args.image.now in
      let n = length c.args.bytes.now in
      let rest = length (drop c.loop-done.done c.args.bytes.now) in
      let works = c.loop-done.invariant.works ∙ not_failed_yet old c.loop-done.image c.loop-done.invariant.image (prepares_usable old c.args.offset n none) in
      let may_fail = (rw (take_rest c.args.bytes.now c.loop-done.done) at c.in-Err-write_some.ensures.fails.late)
      (part_prepares old c.loop-done.image c.loop-done.invariant.image c.args.offset n c.in-Some.at rest (grind (arith, common_steps)) (grind (arith, common_steps)) works (omega (arith, c.loop-done-test.true)) none) in
      (may_fail.0, omega (arith, c.loop-done-test.true));
  within = search rules;
  beyond = part_refused c.args.image.now c.loop-done.image c.args.offset (length c.args.bytes.now) c.in-Some.at (length (drop c.loop-done.done c.args.bytes.now)) c.in-Err-write_some.refusal c.loop-done.invariant.image.size (grind (arith, common_steps)) (grind (arith, common_steps))
      (rw (take_rest c.args.bytes.now c.loop-done.done) at c.in-Err-write_some.ensures.fails.beyond);
  cause = search rules;
}

pub loop-done-init : goal.loop-done-init
loop-done-init g c = record {
  faults = c.in-Ok.ensures.step.faults.told;
  behind = c.write_some.ensures.step.header_cluster;
  works = c.in-Ok.ensures.answers.end.0;
  counts = c.in-Ok.ensures.step.marks.counts;
  within = c.in-Ok.ensures.answers.within;
  some_done = λ some. c.in-Ok.ensures.answers.some some;
  image = c.write_some.ensures.step.image;
  ends = λ out sound more. (c.in-Ok.ensures.sound out sound).ends more;
  end = c.in-Ok.ensures.answers.end.1;
  heeded = λ none out sound. heeded_first g.S.Storage.view g.F.BackingDisk.backing c.args.image.now out c.args.offset c.args.bytes.now c.in-Ok.count c.in-Ok.ensures.answers.within ((c.in-Ok.ensures.sound out sound).refused none).taken;
  copied = λ some out sound. (c.in-Ok.ensures.sound out sound).copied some;
  freeing = λ out sound. (c.in-Ok.ensures.sound out sound).freeing;
  quiet = c.write_some.ensures.step.quiet;
  written = λ out. c.in-Ok.ensures.sees out;
}

-- ---- the part at which it was refused

pub returns-in-Err-clause-sound : goal.returns-in-Err-clause-sound
returns-in-Err-clause-sound g c = λ out sound.
    let view = g.S.Storage.view in
    let below = g.F.BackingDisk.backing in
    let old = c.args.image.now in
    let h = old.file.header.fields in
    let n = length c.args.bytes.now in
    let part = c.in-Err.ensures.sound out sound in
    let taken : refuses_to_prepare old c.args.offset n ≡ None → c.in-Err.refusal ≡ TablePrepared → IsUnderMappingIn h c.args.offset (c.args.offset + n) out = λ none is.
    let under = (part.refused none).taken is in
    part_under h h refl c.args.offset (c.args.offset + n) c.args.offset out (omega arith) (omega (arith, under.0)) (under_taken under.1) in
    record {
      may_fail = λ none. taking_kept (λ is. is) (λ far. stops_first view below old (λ at n before. NeedsOverflowingL1Entry before at) c.args.offset c.args.bytes.now far) c.in-Err.refusal (taken none) (part.refused none).may_fail;
      taken = taken;
      taken_part = λ none. (
        λ is. stops_first view below old (λ at n before. IsTaken before.file.header.fields (known_in view before.file) at n out) c.args.offset c.args.bytes.now ((part.refused none).taken is).1,
        λ i lt. absurd (omega (arith, lt)),
      );
      limit = λ none is. limited_giving (given_of c.args.offset c.args.bytes.now ∷ []) ((part.refused none).limit is);
      ends = search rules;
      freeing = search rules;
      copied = search rules;
    }

pub returns-in_default-clause-sound : goal.returns-in_default-clause-sound
returns-in_default-clause-sound g c = absurd (c.in_default.ensures (omega (arith, c.loop-done.invariant.end, c.loop-done-test.true)))

no_more : (n : ℕ) → n ≤ n
no_more n = omega arith

-- a part that has bytes begins before the end
begins_below : (at rest offset n : ℕ) → at + rest ≡ offset + n → 0 < rest → at < offset + n
begins_below at rest offset n long some = omega (arith, long, some)

pub returns-in-Err-write_some-clause-sound : goal.returns-in-Err-write_some-clause-sound
returns-in-Err-write_some-clause-sound g c = λ out sound.
    let view = g.S.Storage.view in
    let below = g.F.BackingDisk.backing in
    let old = c.args.image.now in
    let mid = c.loop-done.image in
    let new = c.write_some-in-loop-done.new.image in
    let offset = c.args.offset in
    let bytes = c.args.bytes.now in
    let n = length bytes in
    let done = c.loop-done.done in
    let at = c.in-Some.at in
    let rest = length (drop done bytes) in
    let long : at + rest ≡ offset + n = grind (arith, common_steps) in
    let from : offset ≤ at = omega (arith, c.in-Some.ensures.1) in
    let upto : at + rest ≤ offset + n = omega (arith, long) in
    let some : 0 < n = omega (arith, c.loop-done-test.true) in
    let so_far = c.loop-done.invariant.written out in
    let still = (so_far.answer sound).0 in
    let same_size : cluster_size_of mid ≡ cluster_size_of old = ap (λ (x : Setting). x.cluster_size) (so_far.acts.works sound).setting in
    let behind = never_first done (c.loop-done.invariant.some_done some) in
    let part = (rw (take_rest bytes done) at c.in-Err-write_some.ensures.sound) out still in
    let usable : refuses_to_prepare old offset n ≡ None → refuses_to_prepare mid at rest ≡ None = λ none. part_prepares old mid c.loop-done.invariant.image offset n at rest from upto still.works some none in
    let taken : refuses_to_prepare old offset n ≡ None → c.in-Err-write_some.refusal ≡ TablePrepared → IsUnderMappingIn old.file.header.fields offset (offset + n) out = λ none is.
    let under = (part.refused (usable none)).taken is in
    part_under old.file.header.fields mid.file.header.fields same_size offset (offset + n) at out from (begins_below at rest offset n long under.0) (under_taken under.1) in
    record {
      may_fail = λ none.
          let sees = rw (take_rest bytes done) at (c.in-Err-write_some.ensures.sees out) in
          let same : cluster_size_of new ≡ cluster_size_of old = ap (λ (x : Setting). x.cluster_size) ((sees.acts.works still).setting ∙ (so_far.acts.works sound).setting) in
          let begins : at % cluster_size_of new ≡ 0 = ap (λ size. at % size) same ∙ ap (λ o. o % cluster_size_of old) c.in-Some.ensures.1 ∙ c.loop-done.invariant.ends out sound c.loop-done-test.true in
          taking_kept (compressed_in_part new.file.header.fields (known_in view new.file) offset n done at rest c.in-Some.ensures.1 long begins)
          (λ far. stops_behind view below old (λ at k before. NeedsOverflowingL1Entry before at) offset bytes done at mid c.in-Some.ensures.1 c.loop-done.invariant.written behind far) c.in-Err-write_some.refusal (taken none) (part.refused (usable none)).may_fail;
      taken = taken;
      taken_part = λ none. (
        λ is. stops_behind view below old (λ at k before. IsTaken before.file.header.fields (known_in view before.file) at k out) offset bytes done at mid c.in-Some.ensures.1 c.loop-done.invariant.written behind ((part.refused (usable none)).taken is).1,
        λ i lt. c.loop-done.invariant.heeded none out sound i lt,
      );
      limit = λ none is.
          let first = first_given (abstract_of view below old out) offset done bytes in
          limited_from (no_more _) upto (record { image = c.loop-done.invariant.image; header_cluster = c.loop-done.invariant.behind }) still
          (works_less _ _ (given_of offset (take done bytes) ∷ []) (given_of offset bytes ∷ []) [] first.values first.touches (so_far.acts.works sound)) (limited_giving (given_of offset bytes ∷ []) ((part.refused (usable none)).limit is));
      ends = λ some. (c.loop-done-test.true, c.loop-done.invariant.ends out sound c.loop-done-test.true);
      freeing = search rules;
      copied = search rules;
    }

pub returns-in_default-clause-step : goal.returns-in_default-clause-step
returns-in_default-clause-step g c = record {
  image = search rules;
  faults = search rules;
  header_cluster = search rules;
  marks = parts_beyond g.S.Storage.view c.args.image.now c.loop-done.image c.loop-done.invariant.works c.loop-done.invariant.counts;
  quiet = search rules;
}

pub returns-in-Err-write_some-clause-step : goal.returns-in-Err-write_some-clause-step
returns-in-Err-write_some-clause-step g c = record {
  image = search rules;
  faults = search rules;
  header_cluster = behind_then c.loop-done.invariant.behind c.write_some-in-loop-done.ensures.step.header_cluster;
  marks = parts_behind g.S.Storage.view (Some c.in-Err-write_some.refusal) c.args.image.now c.loop-done.image c.write_some-in-loop-done.new.image c.loop-done.invariant.works c.loop-done.invariant.counts c.in-Err-write_some.ensures.step.marks;
  quiet = λ reading. written_then g.S.Storage.view (c.loop-done.invariant.quiet reading) (c.write_some-in-loop-done.ensures.step.quiet (c.loop-done.invariant.image.writable ∙ reading));
}

pub returns-clause-step : goal.returns-clause-step
returns-clause-step g c = record {
  image = search rules;
  faults = search rules;
  header_cluster = search rules;
  marks = parts_answered g.S.Storage.view c.args.image.now c.loop-done.image c.loop-done.invariant.works c.loop-done.invariant.counts;
  quiet = search rules;
}

pub returns-in-Err-clause-step : goal.returns-in-Err-clause-step
returns-in-Err-clause-step g c = record {
  image = search rules;
  faults = search rules;
  header_cluster = search rules;
  marks = c.in-Err.ensures.step.marks;
  quiet = search rules;
}

pub returns-clause-sound : goal.returns-clause-sound
returns-clause-sound g c = λ out sound. record {
  may_fail = search rules;
  taken = search rules;
  taken_part = λ none i lt. c.loop-done.invariant.heeded none out sound i (omega (arith, lt, c.loop-done-test.false));
  limit = search rules;
  ends = search rules;
  freeing = c.loop-done.invariant.freeing out sound;
  copied = λ some.
      let all : c.loop-done.done ≡ length c.args.bytes.now = omega (arith, c.loop-done.invariant.within, c.loop-done-test.false) in
      subst (λ k. LeavesCopied g.S.Storage.view g.F.BackingDisk.backing c.args.image.now c.loop-done.image c.args.offset c.args.bytes.now k) all (c.loop-done.invariant.copied some out sound);
}

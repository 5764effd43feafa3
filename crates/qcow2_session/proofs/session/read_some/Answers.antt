use Rattle.std.proofs.Common.{◌≡◌, ◌+◌, ◌++◌, ◌<◌, ◌≤◌, ◌∙◌, Some, sym, subst, ap, [], take, drop, arith, rules, inl, Err, IfErr, length}
use Rattle.qcow2_session.proofs.Common.{counts_on, common_steps, another, Guest, abstract_of, IsOfReading, ReadsFirst, size_of, MayFailReadingFrom, unusable, passes, BeyondSize, finding_read, found_read, behind_then, written_then, counted_on, IsFoundWhole, further_by, MayFailReadingRange, known_in}
use Rattle.qcow2_session.proofs.Lemmas.{in_parts, parts_answered, parts_behind, parts_beyond, parts_handed, refused_at_once, shows_as, refused_is, refuses_here, none_within, does_if, refuses_if, does_then, refuses_then, mapping_reading, fits_below, then_none, mapping_usable, found_there, looking_prepared, reads_found, none_refused, found_current}
use Rattle.qcow2_session.proofs.ReadCauses.{finding_from, found_from}
use Rattle.qcow2_session.proofs.session.read_some.Goals as goal

pub returns-in_err-mapping-clause-sees : goal.returns-in_err-mapping-clause-sees
returns-in_err-mapping-clause-sees g c =
    subst (λ r. ReadsFirst g.S.Storage.view g.F.BackingDisk.backing c.args.image.now c.get_mapping.new.self c.args.offset c.args.bytes.now r)
    (sym (refused_is _ c.in_err-mapping.field-0.0 c.from_residual.ensures)) c.in_err-mapping.ensures.sees

pub returns-then-count-eq0-clause-sees : goal.returns-then-count-eq0-clause-sees
returns-then-count-eq0-clause-sees g c = λ out. refuses_here (another 2) (λ is. absurd cc) (c.in_ok-mapping.ensures.sees out)

pub returns-in_err-read_mapped-clause-sees : goal.returns-in_err-read_mapped-clause-sees
returns-in_err-read_mapped-clause-sees g c =
    let view = g.S.Storage.view in
    let below = g.F.BackingDisk.backing in
    subst (λ r. ReadsFirst view below c.args.image.now c.read_mapped.new.self c.args.offset (c.read_mapped.new.bytes ++ drop c.in_ok-mapping.found c.args.bytes.now) r)
    (sym (refused_is _ c.in_err-read_mapped.field-0.0 c.from_residual-in_err-read_mapped.ensures))
    (λ out. refuses_if (λ h. h.1 ∙ h.0) (refuses_then (λ _ _. none_within (abstract_of view below c.get_mapping.new.self out) []) (c.in_ok-mapping.ensures.sees out) (c.in_err-read_mapped.ensures.sees out)))

pub returns-clause-sees : goal.returns-clause-sees
returns-clause-sees g c = λ out.
    let first : c.read_mapped.new.bytes ≡ take c.in_ok-mapping.found (c.read_mapped.new.bytes ++ drop c.in_ok-mapping.found c.args.bytes.now) = grind (arith, common_steps) in
    let place : c.in_ok-mapping.mapping.offset + 0 ≡ c.args.offset = omega (arith, c.in_ok-mapping.ensures.found.own.1) in
    does_if (λ h. (shows_as (ap (λ (v : Guest). v.disk) h.0) place first h.1.1, h.1.0 ∙ h.0))
    (does_then (λ _ _. none_within (abstract_of g.S.Storage.view g.F.BackingDisk.backing c.get_mapping.new.self out) []) (c.in_ok-mapping.ensures.sees out) (c.in_ok-read_mapped.ensures.sees out))

pub returns-in_err-mapping-clause-cause : goal.returns-in_err-mapping-clause-cause
returns-in_err-mapping-clause-cause g c = subst (λ r. IfErr r IsOfReading) (sym (refused_is _ c.in_err-mapping.field-0.0 c.from_residual.ensures))
    (mapping_reading _ _ c.args.image.now c.in_err-mapping.field-0.0 c.in_err-mapping.ensures.refusals.early (λ none. finding_read c.args.image.now c.get_mapping.new.self c.args.offset (length c.args.bytes.now) c.in_err-mapping.field-0.0 (c.in_err-mapping.ensures.refusals.late none)))

pub returns-in_err-read_mapped-clause-cause : goal.returns-in_err-read_mapped-clause-cause
returns-in_err-read_mapped-clause-cause g c =
    let old = c.args.image.now in
    let mid = c.get_mapping.new.self in
    let none = none_refused _ (unusable old) _ c.in_ok-mapping.ensures.refusals.early in
    let found = c.in_ok-mapping.ensures.found in
    let usable = mapping_usable old mid c.get_mapping.ensures.step.image c.in_ok-mapping.mapping.image found.own.0 c.in_ok-mapping.ensures.step.marks none in
    let more : 0 < c.in_ok-mapping.found = let isnt = c.if-count-eq0.false in omega (arith, isnt) in
    let long : length (take c.in_ok-mapping.found c.args.bytes.now) ≡ c.in_ok-mapping.found = grind (arith, common_steps) in
    let current = found_current mid c.read_mapped.new.self c.in_ok-mapping.mapping (size_of old) c.args.offset (length c.args.bytes.now) c.in_ok-mapping.found (length (take c.in_ok-mapping.found c.args.bytes.now)) c.in_err-read_mapped.field-0.0
    found.own.1 found.whole found.past more long c.in_ok-mapping.ensures.held (c.in_err-read_mapped.ensures.held usable (omega (arith, long, more))) in
    subst (λ r. IfErr r IsOfReading) (sym (refused_is _ c.in_err-read_mapped.field-0.0 c.from_residual-in_err-read_mapped.ensures))
    (inl (found_read mid c.read_mapped.new.self _ _ c.in_err-read_mapped.field-0.0 current (c.in_err-read_mapped.ensures.refusals.late usable)))

pub returns-in_err-mapping-clause-late : goal.returns-in_err-mapping-clause-late
returns-in_err-mapping-clause-late g c = λ none some.
    let first = then_none (unusable c.args.image.now) (passes (size_of c.args.image.now) c.args.offset (length c.args.bytes.now)) BeyondSize none in
    let n = length c.args.bytes.now in
    subst (λ r. IfErr r (MayFailReadingFrom c.get_mapping.new.self c.args.offset (c.args.offset + n))) (sym (refused_is _ c.in_err-mapping.field-0.0 c.from_residual.ensures))
    (finding_from c.args.image.now c.get_mapping.new.self c.args.offset n c.args.offset (c.args.offset + n) c.in_err-mapping.field-0.0 (omega arith) (omega arith) (c.in_err-mapping.ensures.refusals.late first.0))

pub returns-then-count-eq0-clause-late : goal.returns-then-count-eq0-clause-late
returns-then-count-eq0-clause-late g c = λ none some.
    let first = then_none (unusable c.args.image.now) (passes (size_of c.args.image.now) c.args.offset (length c.args.bytes.now)) BeyondSize none in
    let found = c.in_ok-mapping.ensures.found.some (fits_below (size_of c.args.image.now) c.args.offset (length c.args.bytes.now) first.1 some) (omega (arith, some)) in
    absurd (omega (arith, found))

pub returns-in_err-read_mapped-clause-late : goal.returns-in_err-read_mapped-clause-late
returns-in_err-read_mapped-clause-late g c = λ none some.
    let first = then_none (unusable c.args.image.now) (passes (size_of c.args.image.now) c.args.offset (length c.args.bytes.now)) BeyondSize none in
    let n = length c.args.bytes.now in
    let at : c.in_ok-mapping.mapping.offset + 0 ≡ c.args.offset = let own = c.in_ok-mapping.ensures.found.own.1 in omega (arith, own) in
    let mid = c.get_mapping.new.self in
    let found = c.in_ok-mapping.ensures.found in
    let usable = mapping_usable c.args.image.now mid c.get_mapping.ensures.step.image c.in_ok-mapping.mapping.image found.own.0 c.in_ok-mapping.ensures.step.marks first.0 in
    let more : 0 < c.in_ok-mapping.found = let isnt = c.if-count-eq0.false in omega (arith, isnt) in
    let long : length (take c.in_ok-mapping.found c.args.bytes.now) ≡ c.in_ok-mapping.found = grind (arith, common_steps) in
    let current = found_current mid c.read_mapped.new.self c.in_ok-mapping.mapping (size_of c.args.image.now) c.args.offset (length c.args.bytes.now) c.in_ok-mapping.found (length (take c.in_ok-mapping.found c.args.bytes.now)) c.in_err-read_mapped.field-0.0
    found.own.1 found.whole found.past more long c.in_ok-mapping.ensures.held (c.in_err-read_mapped.ensures.held usable (omega (arith, long, more))) in
    subst (λ r. IfErr r (MayFailReadingFrom c.read_mapped.new.self c.args.offset (c.args.offset + n))) (sym (refused_is _ c.in_err-read_mapped.field-0.0 c.from_residual-in_err-read_mapped.ensures))
    (found_from c.get_mapping.new.self c.read_mapped.new.self _ _ c.args.offset (c.args.offset + n) c.in_err-read_mapped.field-0.0 (omega (arith, at)) (let most : length (take c.in_ok-mapping.found c.args.bytes.now) ≤ n = grind (arith, common_steps) in omega (arith, at, most))
    current (c.in_err-read_mapped.ensures.refusals.late usable))

pub returns-in_err-mapping-clause-may_fail : goal.returns-in_err-mapping-clause-may_fail
returns-in_err-mapping-clause-may_fail g c = λ none some out sound. subst (λ r. IfErr r (MayFailReadingRange out c.args.offset (c.args.offset + length c.args.bytes.now) c.args.image.now.file.header.fields (known_in g.S.Storage.view c.args.image.now.file))) (sym (refused_is _ c.in_err-mapping.field-0.0 c.from_residual.ensures)) (inl (looking_prepared c.args.image.now out c.in_err-mapping.field-0.0 ((c.in_err-mapping.ensures.sound out sound).may_fail)))

pub returns-then-count-eq0-clause-may_fail : goal.returns-then-count-eq0-clause-may_fail
returns-then-count-eq0-clause-may_fail g c = λ none some out sound.
    let first = then_none (unusable c.args.image.now) (passes (size_of c.args.image.now) c.args.offset (length c.args.bytes.now)) BeyondSize none in
    let found = c.in_ok-mapping.ensures.found.some (fits_below (size_of c.args.image.now) c.args.offset (length c.args.bytes.now) first.1 some) (omega (arith, some)) in
    absurd (omega (arith, found))

pub returns-in_err-read_mapped-clause-may_fail : goal.returns-in_err-read_mapped-clause-may_fail
returns-in_err-read_mapped-clause-may_fail g c = λ none some out sound.
    let view = g.S.Storage.view in
    let below = g.F.BackingDisk.backing in
    let old = c.args.image.now in
    let mid = c.get_mapping.new.self in
    let n = length c.args.bytes.now in
    let m = c.in_ok-mapping.mapping in
    let e = c.in_err-read_mapped.field-0.0 in
    let first = then_none (unusable old) (passes (size_of old) c.args.offset n) BeyondSize none in
    let usable = mapping_usable old mid c.get_mapping.ensures.step.image m.image c.in_ok-mapping.ensures.found.own.0 c.in_ok-mapping.ensures.step.marks first.0 in
    let still = ((c.in_ok-mapping.ensures.sees out).answer sound).0 in
    let found = (c.in_ok-mapping.ensures.sound out sound).run in
    let lies : c.args.offset < size_of mid = let s = c.get_mapping.ensures.step.image.size in let b = fits_below (size_of old) c.args.offset n first.1 some in omega (arith, s, b) in
    let begin : m.offset + 0 ≡ c.args.offset = let own = c.in_ok-mapping.ensures.found.own.1 in omega (arith, own) in
    let long : length (take c.in_ok-mapping.found c.args.bytes.now) ≡ c.in_ok-mapping.found = grind (arith, common_steps) in
    let whole = subst (λ k. IsFoundWhole view mid k (further_by 0 m.kind) (length (take c.in_ok-mapping.found c.args.bytes.now))) (sym begin)
    (subst (λ k. IsFoundWhole view mid c.args.offset (further_by 0 m.kind) k) (sym long) (found_there view below out mid still c.args.offset n c.in_ok-mapping.found m.kind (omega (arith, c.ranges.offset.fits)) lies found)) in
    subst (λ r. IfErr r (MayFailReadingRange out c.args.offset (c.args.offset + length c.args.bytes.now) c.args.image.now.file.header.fields (known_in g.S.Storage.view c.args.image.now.file))) (sym (refused_is _ e c.from_residual-in_err-read_mapped.ensures))
    (reads_found view below out old mid sound still c.args.offset n n c.in_ok-mapping.found m.kind e some lies ((c.get_mapping.ensures.sound out sound).known) found
    (λ outdated. (c.in_err-read_mapped.ensures.sound out still).outdated (ap Err outdated) whole)
    ((c.in_err-read_mapped.ensures.sound out still).may_fail usable))

pub returns-clause-step : goal.returns-clause-step
returns-clause-step g c = record {
  image = search rules;
  faults = search rules;
  header = search rules;
  header_cluster = behind_then c.get_mapping.ensures.step.header_cluster c.read_mapped.ensures.step.header_cluster;
  marks = parts_answered g.S.Storage.view c.args.image.now c.read_mapped.new.self (c.in_ok-read_mapped.ensures.step.marks ∙ c.in_ok-mapping.ensures.step.marks)
      (counts_on g.S.Storage.view c.args.image.now c.get_mapping.new.self c.read_mapped.new.self c.in_ok-mapping.ensures.step.once_written.counts c.in_ok-read_mapped.ensures.step.once_written.counts);
  quiet = written_then g.S.Storage.view c.get_mapping.ensures.step.quiet c.read_mapped.ensures.step.quiet;
}

pub returns-in_err-read_mapped-clause-step : goal.returns-in_err-read_mapped-clause-step
returns-in_err-read_mapped-clause-step g c = record {
  image = search rules;
  header = search rules;
  faults = counted_on g.S.Storage.view g.F.BackingDisk.backing c.args.image.now c.get_mapping.new.self c.read_mapped.new.self c.read_mapped.result c.in_err-read_mapped.field-0.0 c.from_residual-in_err-read_mapped.result c.in_ok-mapping.ensures.step.faults.told
      c.read_mapped.ensures.step.faults c.in_err-read_mapped.was c.from_residual-in_err-read_mapped.ensures;
  header_cluster = behind_then c.get_mapping.ensures.step.header_cluster c.read_mapped.ensures.step.header_cluster;
  marks = parts_handed g.S.Storage.view _ c.in_err-read_mapped.field-0.0 c.args.image.now c.read_mapped.new.self (refused_is _ c.in_err-read_mapped.field-0.0 c.from_residual-in_err-read_mapped.ensures)
      (parts_behind g.S.Storage.view (Some c.in_err-read_mapped.field-0.0) c.args.image.now c.get_mapping.new.self c.read_mapped.new.self c.in_ok-mapping.ensures.step.marks c.in_ok-mapping.ensures.step.once_written.counts
      (in_parts g.S.Storage.view (refused_at_once g.S.Storage.view c.get_mapping.new.self c.read_mapped.new.self c.in_err-read_mapped.field-0.0 c.in_err-read_mapped.ensures.step.once_written c.in_err-read_mapped.ensures.step.marks)));
  quiet = written_then g.S.Storage.view c.get_mapping.ensures.step.quiet c.read_mapped.ensures.step.quiet;
}

pub returns-in_err-mapping-clause-step : goal.returns-in_err-mapping-clause-step
returns-in_err-mapping-clause-step g c = record {
  image = search rules;
  faults = search rules;
  header = search rules;
  header_cluster = search rules;
  marks = parts_handed g.S.Storage.view _ c.in_err-mapping.field-0.0 c.args.image.now c.get_mapping.new.self (refused_is _ c.in_err-mapping.field-0.0 c.from_residual.ensures) (in_parts g.S.Storage.view (refused_at_once g.S.Storage.view c.args.image.now c.get_mapping.new.self c.in_err-mapping.field-0.0 c.in_err-mapping.ensures.step.once_written c.in_err-mapping.ensures.step.marks));
  quiet = c.get_mapping.ensures.step.quiet;
}

pub returns-then-count-eq0-clause-step : goal.returns-then-count-eq0-clause-step
returns-then-count-eq0-clause-step g c = record {
  image = search rules;
  faults = search rules;
  header = search rules;
  header_cluster = search rules;
  marks = parts_beyond g.S.Storage.view c.args.image.now c.get_mapping.new.self c.in_ok-mapping.ensures.step.marks c.in_ok-mapping.ensures.step.once_written.counts;
  quiet = c.get_mapping.ensures.step.quiet;
}

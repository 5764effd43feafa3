use Rattle.qcow2_image.proofs.Common.{[], sym, ◌∙◌, subst, ap, rules, Result, IfErr, Pending, with_listed, FlushesImage, Qcow2, is_failed, ImageInvariant, pending_in, IsFault, IsFaultOrLimit, in_image}
use Rattle.qcow2_image.proofs.Lemmas.{written_back, all_listed, beside, flushes_with_outcome, frees_on, counted_marked, marks_memory, may_mark, fails_none, fails_once, behind_call, quiet_sound, reads_call}
use Rattle.qcow2_image.proofs.image.Qcow2.flush.Goals as goal

pub returns-clause-sees : goal.returns-clause-sees
returns-clause-sees g c =
    let view = g.S.Storage.view in
    let below = g.F.BackingDisk.backing in
    let old = c.args.self.now in
    let mid = c.begin_call.new.self in
    let new = c.write_back-done.new.self in
    let r = c.write_back-done.result in
    subst (λ (image : Qcow2 _ _). FlushesImage view below old image c.mark_failure.result) (sym c.mark_failure.ensures.rest)
    (subst (λ (x : Result _ _). FlushesImage view below old (record new { is_failed = is_failed c.mark_failure.new.self }) x) (sym c.mark_failure.ensures.answer)
    (flushes_with_outcome view below old c.if-self.false new (is_failed c.mark_failure.new.self) (c.write_back-done.ensures.step.stays.image.number ∙ c.begin_call.ensures.stays.image.number) r (may_mark c.write_back-done.new.self c.mark_failure.new.self c.write_back-done.result c.mark_failure.ensures.marks) (marks_memory c.write_back-done.new.self c.mark_failure.new.self c.write_back-done.new.self c.write_back-done.result c.mark_failure.ensures.marks (ap (λ (i : Qcow2 _ _). i.file) c.mark_failure.ensures.rest))
    (λ out sound.
    let p : Pending = beside view below old out in
    let q : Pending = with_listed p old.file.free_list in
    let first = c.begin_call.ensures.keeps q out (subst (λ (x : Pending). ImageInvariant view below x old out) (all_listed view below old out) sound) in
    frees_on view below out old mid new p r c.begin_call.ensures.list first
    (c.write_back-done.ensures.tables.frees p out (subst (λ l. ImageInvariant view below (with_listed p l) mid out) (sym c.begin_call.ensures.list) first.sound)))
    c.write_back-done.ensures.tables.written))

pub returns-clause-writes : goal.returns-clause-writes
returns-clause-writes g c = λ p sound.
    let view = g.S.Storage.view in
    let below = g.F.BackingDisk.backing in
    let old = c.args.self.now in
    let mid = c.begin_call.new.self in
    let new = c.write_back-done.new.self in
    let first = c.begin_call.ensures.keeps (with_listed p old.file.free_list) (in_image []) sound in
    written_back view below p old new c.mark_failure.new.self c.write_back-done.result c.mark_failure.result
    (frees_on view below (in_image []) old mid new p c.write_back-done.result c.begin_call.ensures.list first (c.write_back-done.ensures.tables.frees p (in_image []) (subst (λ l. ImageInvariant view below (with_listed p l) mid (in_image [])) (sym c.begin_call.ensures.list) first.sound)))
    c.mark_failure.ensures.answer c.mark_failure.ensures.rest (may_mark c.write_back-done.new.self c.mark_failure.new.self c.write_back-done.result c.mark_failure.ensures.marks)

pub returns-clause-quiet : goal.returns-clause-quiet
returns-clause-quiet g c = λ reading.
    reads_call g.S.Storage.view c.args.self.now c.begin_call.new.self c.write_back-done.new.self c.mark_failure.new.self _ c.begin_call.ensures.begun (c.write_back-done.ensures.tables.quiet (c.begin_call.ensures.stays.image.writable ∙ reading)) c.mark_failure.ensures.rest

pub returns-clause-step : goal.returns-clause-step
returns-clause-step g c = record {
  image = search rules;
  marks = search rules;
  once_written = fails_once g.S.Storage.view c.args.self.now c.begin_call.new.self c.begin_call.ensures.begun c.write_back-done.new.self c.mark_failure.new.self c.write_back-done.result c.write_back-done.ensures.step.notes (c.write_back-done.ensures.step.stays.failed ∙ c.begin_call.ensures.stays.failed) c.mark_failure.ensures.marks c.mark_failure.ensures.rest c.mark_failure.result (λ memory. sym c.mark_failure.ensures.answer ∙ memory);
  header_cluster = behind_call g.S.Storage.view c.begin_call.ensures.begun c.write_back-done.ensures.step.header_cluster c.mark_failure.ensures.rest;
  faults = counted_marked g.S.Storage.view g.F.BackingDisk.backing c.args.self.now c.begin_call.new.self c.write_back-done.new.self c.mark_failure.new.self c.write_back-done.result c.mark_failure.result c.begin_call.ensures.faults c.write_back-done.ensures.fails.faults c.mark_failure.ensures.answer c.mark_failure.ensures.rest;
}

pub returns-then-self-clause-step : goal.returns-then-self-clause-step
returns-then-self-clause-step g c = record { image = search rules; marks = search rules; once_written = fails_none g.S.Storage.view c.args.self.now _; header_cluster = search rules; faults = search rules }

pub returns-clause-fails : goal.returns-clause-fails
returns-clause-fails g c = record {
  late = λ usable. subst (λ (r : Result _ _). IfErr r IsFaultOrLimit) (sym c.mark_failure.ensures.answer) c.write_back-done.ensures.fails.cause;
  fault = λ out sound.
      let view = g.S.Storage.view in
      let below = g.F.BackingDisk.backing in
      let begun = c.begin_call.new.self in
      let kept = quiet_sound view below out c.args.self.now begun (λ s. record { keeps = c.begin_call.ensures.keeps (pending_in view below c.args.self.now out) out s; list = c.begin_call.ensures.list }) sound in
      subst (λ (r : Result _ _). IfErr r IsFault) (sym c.mark_failure.ensures.answer)
      (c.write_back-done.ensures.tables.fault (beside view below begun out) out (subst (λ (x : Pending). ImageInvariant view below x begun out) (all_listed view below begun out) kept));
}

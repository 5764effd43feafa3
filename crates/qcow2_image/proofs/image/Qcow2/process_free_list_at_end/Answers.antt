use Rattle.qcow2_image.proofs.Common.{refl, sym, ap, ◌∙◌, subst, rules, Result, Pending, Qcow2, is_failed, EndsFreeing, ImageInvariant, MarksFailed, notes_then}
use Rattle.qcow2_image.proofs.Lemmas.{all_listed, beside, ends_freeing, counted_marked, untouched, marks_memory, may_mark, same_kept, behind_by, behind_none, behind_then}
use Rattle.qcow2_image.proofs.image.Qcow2.process_free_list_at_end.Goals as goal

pub returns-clause-frees : goal.returns-clause-frees
returns-clause-frees g c = λ out sound.
    let view = g.S.Storage.view in
    let below = g.F.BackingDisk.backing in
    let old = c.args.self.now in
    let new = c.process_free_list-freed.new.self in
    let p : Pending = beside view below old out in
    let listed = subst (λ (x : Pending). ImageInvariant view below x old out) (all_listed view below old out) sound in
    subst (λ (image : Qcow2 _ _). EndsFreeing view below old image out c.mark_failure.result) (sym c.mark_failure.ensures.rest)
    (subst (λ (x : Result _ _). EndsFreeing view below old (record new { is_failed = is_failed c.mark_failure.new.self }) out x) (sym c.mark_failure.ensures.answer)
    (ends_freeing view below old sound.works new (is_failed c.mark_failure.new.self) c.process_free_list-freed.ensures.step.stays.image.number out sound c.process_free_list-freed.result (may_mark c.process_free_list-freed.new.self c.mark_failure.new.self c.process_free_list-freed.result c.mark_failure.ensures.marks) (marks_memory c.process_free_list-freed.new.self c.mark_failure.new.self c.process_free_list-freed.new.self c.process_free_list-freed.result c.mark_failure.ensures.marks (ap (λ (i : Qcow2 _ _). i.file) c.mark_failure.ensures.rest)) c.process_free_list-freed.ensures.step.notes.tables.recorded
    (c.process_free_list-freed.ensures.faults p out listed) (c.process_free_list-freed.ensures.frees p out listed)))

pub returns-clause-idle : goal.returns-clause-idle
returns-clause-idle g c = λ none.
    let new = c.process_free_list-freed.new.self in
    let kept = c.process_free_list-freed.ensures.idle none in
    (c.mark_failure.ensures.answer ∙ kept.0, c.mark_failure.ensures.rest ∙ ap (λ f. record new { is_failed = f }) (subst (λ (r : Result _ _). MarksFailed new c.mark_failure.new.self r) kept.0 c.mark_failure.ensures.marks) ∙ kept.1)

pub returns-clause-notes : goal.returns-clause-notes
returns-clause-notes g c = notes_then c.process_free_list-freed.ensures.step.notes (same_kept c.process_free_list-freed.new.self c.mark_failure.new.self (ap (λ (i : Qcow2 _ _). i.file.storage) c.mark_failure.ensures.rest) (ap (λ (i : Qcow2 _ _). i.file.caches) c.mark_failure.ensures.rest))

pub returns-clause-header_cluster : goal.returns-clause-header_cluster
returns-clause-header_cluster g c = behind_then c.process_free_list-freed.ensures.step.header_cluster (behind_by g.S.Storage.view c.mark_failure.ensures.rest behind_none)

pub returns-clause-fails : goal.returns-clause-fails
returns-clause-fails g c = record {
  cause = search rules;
  faults = counted_marked g.S.Storage.view g.F.BackingDisk.backing c.args.self.now c.args.self.now c.process_free_list-freed.new.self c.mark_failure.new.self c.process_free_list-freed.result c.mark_failure.result (untouched g.S.Storage.view g.F.BackingDisk.backing c.args.self.now c.args.self.now refl refl refl)
      c.process_free_list-freed.ensures.counts c.mark_failure.ensures.answer c.mark_failure.ensures.rest;
}

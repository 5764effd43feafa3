use Rattle.qcow2_alloc.proofs.Common.{ap, subst, sym, ◌∙◌, EntryTableView, HasReftable, FileStep, Allocator}
use Rattle.qcow2_alloc.proofs.allocation.Allocator.lowest_run.Goals as goal

pub returns-clause-step : goal.returns-clause-step
returns-clause-step g c = subst (λ (t : EntryTableView). FileStep g.S.Storage.view t c.args.file.now c.search_run.new.self.reftable c.search_run.new.file) (ap (λ (t : Allocator). t.reftable) c.skip_kept.ensures.rest) c.search_run.ensures.step

pub returns-clause-sound : goal.returns-clause-sound
returns-clause-sound g c = λ p d sound may.
    let table = ap (λ (t : Allocator). t.reftable) c.skip_kept.ensures.rest in
    let s = c.search_run.ensures.sound p d (record { sound = sound.sound; reftable = subst (HasReftable g.S.Storage.view c.args.file.now) (sym table) sound.reftable }) may in
    record {
      takes = s.takes;
      uses = s.uses;
      hint = λ hint. s.hint (λ k passed. hint k (c.skip_kept.ensures.passed k passed));
      lowest = λ hint. s.lowest (λ k passed. hint k (c.skip_kept.ensures.passed k passed));
      limit = λ hint. s.limit (λ k passed. hint k (c.skip_kept.ensures.passed k passed));
    }

pub returns-clause-leaks : goal.returns-clause-leaks
returns-clause-leaks g c = λ p sound.
    let table = ap (λ (t : Allocator). t.reftable) c.skip_kept.ensures.rest in
    c.search_run.ensures.leaks p (record { sound = sound.sound; reftable = subst (HasReftable g.S.Storage.view c.args.file.now) (sym table) sound.reftable }) ∙ ap (λ (t : Allocator). t.leaked_clusters) c.skip_kept.ensures.rest

use Rattle.std.proofs.Common.{◌<◌, sym, ap, ◌∙◌, inl, inr, refl, subst}
use Rattle.qcow2_alloc.proofs.Common.{ClustersToFreeEntry, run_at, taken_as, is_data, InternalAllocatorGrowth, pending_then, IsLowestRun, IsUsed, IsFaultOr, HasNoPlace, Pending}
use Rattle.qcow2_alloc.proofs.Lemmas.{of_equal, on_none, fails_by, fails_ok, memory_other, step_none, listed_after_same}
use Rattle.qcow2_alloc.specs.declared.error.ImageError.TheVariants as I
use Rattle.qcow2_alloc.proofs.allocation.Allocator.allocate.Goals as goal

pub returns-in-Ok-lowest_run-clause-sound : goal.returns-in-Ok-lowest_run-clause-sound
returns-in-Ok-lowest_run-clause-sound g c = λ p sound may.
    record {
      takes = let first = ap (λ (r : ClustersToFreeEntry). r.first_cluster) c.placed_at.ensures ∙ c.new-in-Ok-lowest_run.ensures in (
        ap (λ (r : ClustersToFreeEntry). r.count) c.placed_at.ensures ∙ ap (λ (r : ClustersToFreeEntry). r.count) c.in-Ok.ensures,
        ap (λ (r : ClustersToFreeEntry). r.kind) c.placed_at.ensures ∙ ap (λ (r : ClustersToFreeEntry). r.kind) c.in-Ok.ensures,
        of_equal (λ f n. InternalAllocatorGrowth g.S.Storage.view p c.args.file.now c.lowest_run.new.self c.lowest_run.new.file (taken_as (is_data c.args.kind) (pending_then p c.args.file.now.free_list c.lowest_run.new.file.free_list) (run_at f n))) c.placed_at.result.first_cluster c.in-Ok-lowest_run.first c.args.count c.value.result first (sym c.value.ensures)
            ((c.in-Ok-lowest_run.ensures.sound p (is_data c.args.kind) sound may).takes),
      );
      uses = (c.in-Ok-lowest_run.ensures.sound p (is_data c.args.kind) sound may).uses;
      hint = λ hint. (c.in-Ok-lowest_run.ensures.sound p (is_data c.args.kind) sound may).hint hint;
      lowest = λ hint. let first = ap (λ (r : ClustersToFreeEntry). r.first_cluster) c.placed_at.ensures ∙ c.new-in-Ok-lowest_run.ensures in
          of_equal (λ f n. IsLowestRun (IsUsed g.S.Storage.view c.lowest_run.new.file) f n) c.placed_at.result.first_cluster c.in-Ok-lowest_run.first c.args.count c.value.result first (sym c.value.ensures)
          ((c.in-Ok-lowest_run.ensures.sound p (is_data c.args.kind) sound may).lowest hint);
      limit = λ _ _. tt;
    }

pub returns-in_default-clause-sound : goal.returns-in_default-clause-sound
returns-in_default-clause-sound g c = λ p sound may.
    record {
      takes = inl (subst (λ (r : Pending). InternalAllocatorGrowth g.S.Storage.view p c.args.file.now c.args.self.now c.args.file.now r) (sym (listed_after_same p c.args.file.now.free_list c.args.file.now.free_list refl)) (on_none g.S.Storage.view p c.args.file.now c.args.self.now sound));
      uses = tt;
      hint = λ hint. inl hint;
      lowest = λ _. tt;
      limit = λ hint some. inl (inr refl);
    }

pub returns-in-Err-clause-sound : goal.returns-in-Err-clause-sound
returns-in-Err-clause-sound g c = λ p sound may.
    record {
      takes = (c.in-Err.ensures.sound p (is_data c.args.kind) sound may).takes;
      uses = tt;
      hint = λ hint. (c.in-Err.ensures.sound p (is_data c.args.kind) sound may).hint hint;
      lowest = λ _. tt;
      limit = λ hint some. subst (λ n. IsFaultOr (HasNoPlace (IsUsed g.S.Storage.view c.lowest_run.new.file) c.lowest_run.new.file.header.fields c.lowest_run.new.self n) c.in-Err.refusal) c.value.ensures
          ((c.in-Err.ensures.sound p (is_data c.args.kind) sound may).limit hint (subst (λ n. 0 < n) (sym c.value.ensures) some));
    }

pub returns-in_default-clause-step : goal.returns-in_default-clause-step
returns-in_default-clause-step g c = step_none

pub returns-in_default-clause-fails : goal.returns-in_default-clause-fails
returns-in_default-clause-fails g c = fails_by I.Memory memory_other refl tt

pub returns-in-Ok-lowest_run-clause-fails : goal.returns-in-Ok-lowest_run-clause-fails
returns-in-Ok-lowest_run-clause-fails g c = fails_ok c.in-Ok-lowest_run.ensures.fails.told

use Rattle.std.proofs.Common.{◌≢◌, inl, refl, sym, subst, Result, ◌∙◌, IfErr}
use Rattle.qcow2_alloc.proofs.Common.{Pending, Data, ImageFile, InternalAllocatorGrowth, Allocates, pending_then, run_of, KeepsNoFreeBelowHint, IsUsed, StaysUsed, ImageError, ClustersToFreeEntry, IsFaultOr, HasNoPlace, IsMadeInTurn, AllocatesOnly, count}
use Rattle.qcow2_alloc.proofs.Lemmas.{hint_stays, ok_as, passed_still, handed_on, on_of, allocator_step_cached, is_sound_now, allocates_then, listed_after_same, on_no_ok, if_no_ok, on_ok, alone_none, alone_since, made_run, data_then, fails_on, fails_since, data_cached, fault_alone, file_fits, fails_of_tables}
use Rattle.qcow2_alloc.proofs.allocation.Allocator.allocate_data.Goals as goal

pub returns-in_err-l2_depends_on_rb-clause-step : goal.returns-in_err-l2_depends_on_rb-clause-step
returns-in_err-l2_depends_on_rb-clause-step g c = data_cached c.l2_depends_on_rb.ensures.step.marks c.l2_depends_on_rb.ensures.step.header_cluster

pub returns-in_err-l2_depends_on_rb-clause-fails : goal.returns-in_err-l2_depends_on_rb-clause-fails
returns-in_err-l2_depends_on_rb-clause-fails g c = fails_on c.from_residual.result c.in_err-l2_depends_on_rb.field-0.0 c.from_residual.ensures (fails_of_tables c.in_err-l2_depends_on_rb.ensures.fails)

pub returns-clause-step : goal.returns-clause-step
returns-clause-step g c = data_then (data_cached c.l2_depends_on_rb.ensures.step.marks c.l2_depends_on_rb.ensures.step.header_cluster) c.allocate.ensures.step

pub returns-clause-fails : goal.returns-clause-fails
returns-clause-fails g c = fails_since c.in_ok-l2_depends_on_rb.ensures.fails.told c.allocate.ensures.fails

pub returns-clause-order : goal.returns-clause-order
returns-clause-order g c = on_ok _ c.allocate.result (c.allocate.ensures.step.marks.order ∙ c.in_ok-l2_depends_on_rb.ensures.turns.order)

pub returns-in_err-l2_depends_on_rb-clause-sound : goal.returns-in_err-l2_depends_on_rb-clause-sound
returns-in_err-l2_depends_on_rb-clause-sound g c = λ p sound.
    let file : ImageFile g.row.S.Denot = record c.args.file.now { storage = c.l2_depends_on_rb.new.storage; caches = c.l2_depends_on_rb.new.self } in
    let one = allocator_step_cached g.S.Storage.view p c.args.file.now c.args.self.now c.l2_depends_on_rb.new.storage c.l2_depends_on_rb.new.self sound (c.l2_depends_on_rb.ensures.sound.keeps c.args.file.now.header.fields p sound.sound.honest sound.sound.caches) c.l2_depends_on_rb.ensures.step.marks.pins in
    record {
      found = record {
        takes = handed_on (Allocates g.S.Storage.view p c.args.file.now c.args.self.now file (pending_then p c.args.file.now.free_list c.args.file.now.free_list) Data c.args.count) c.from_residual.result c.in_err-l2_depends_on_rb.field-0.0 c.from_residual.ensures
            (inl (subst (λ (r : Pending). InternalAllocatorGrowth g.S.Storage.view p c.args.file.now c.args.self.now file r) (sym (listed_after_same p c.args.file.now.free_list c.args.file.now.free_list refl)) (on_of g.S.Storage.view p p c.args.file.now file c.args.self.now one)));
        uses = on_no_ok _ c.from_residual.result c.in_err-l2_depends_on_rb.field-0.0 c.from_residual.ensures;
        hint = λ hint. handed_on (KeepsNoFreeBelowHint g.S.Storage.view c.args.self.now file) c.from_residual.result c.in_err-l2_depends_on_rb.field-0.0 c.from_residual.ensures (inl (hint_stays g.S.Storage.view p c.args.file.now file c.args.self.now c.args.self.now one (passed_still c.args.self.now) hint));
        lowest = λ hint. if_no_ok _ c.from_residual.result c.in_err-l2_depends_on_rb.field-0.0 c.from_residual.ensures;
        limit = λ hint some. handed_on (λ (r : Result ClustersToFreeEntry ImageError). IfErr r (IsFaultOr (HasNoPlace (IsUsed g.S.Storage.view file) file.header.fields c.args.self.now c.args.count))) c.from_residual.result c.in_err-l2_depends_on_rb.field-0.0 c.from_residual.ensures
            (inl (fault_alone c.in_err-l2_depends_on_rb.field-0.0 (file_fits g.S.Storage.view p c.args.file.now sound.sound).0 c.in_err-l2_depends_on_rb.ensures.fails.cause));
      };
      leaks = refl;
      made = let known = (c.l2_depends_on_rb.ensures.sound.keeps c.args.file.now.header.fields p sound.sound.honest sound.sound.caches).known in
          let alone = alone_none g.S.Storage.view c.args.file.now file refl known in
          handed_on (AllocatesOnly g.S.Storage.view run_of (IsMadeInTurn c.args.file.now.header.fields c.args.self.now.reftable c.args.self.now.reftable c.args.file.now.free_list c.args.file.now.free_list) c.args.file.now file) c.from_residual.result c.in_err-l2_depends_on_rb.field-0.0 c.from_residual.ensures (inl ((λ k used. inl (alone.0 k used)), alone.1));
    }

pub returns-clause-sound : goal.returns-clause-sound
returns-clause-sound g c = λ p sound.
    let one = allocator_step_cached g.S.Storage.view p c.args.file.now c.args.self.now c.l2_depends_on_rb.new.storage c.l2_depends_on_rb.new.self sound (c.l2_depends_on_rb.ensures.sound.keeps c.args.file.now.header.fields p sound.sound.honest sound.sound.caches) c.l2_depends_on_rb.ensures.step.marks.pins in
    let file : ImageFile g.row.S.Denot = record c.args.file.now { storage = c.l2_depends_on_rb.new.storage; caches = c.l2_depends_on_rb.new.self } in
    let known = (c.l2_depends_on_rb.ensures.sound.keeps c.args.file.now.header.fields p sound.sound.honest sound.sound.caches).known in
    record {
      found = record {
        takes = allocates_then g.S.Storage.view p (pending_then p c.args.file.now.free_list c.allocate.new.file.free_list) c.args.file.now file c.allocate.new.file c.args.self.now c.allocate.new.self Data c.args.count c.allocate.result (on_of g.S.Storage.view p p c.args.file.now file c.args.self.now one)
            ((c.allocate.ensures.sound p (is_sound_now g.S.Storage.view p p c.args.file.now file c.args.self.now one) c.in_ok-l2_depends_on_rb.ensures.turns.order).takes);
        uses = ok_as (StaysUsed g.S.Storage.view file c.allocate.new.file) (StaysUsed g.S.Storage.view c.args.file.now c.allocate.new.file) c.allocate.result (λ uses k used. uses k (subst (λ b. count c.args.file.now.header.fields b k ≢ 0) (sym known) used))
            ((c.allocate.ensures.sound p (is_sound_now g.S.Storage.view p p c.args.file.now file c.args.self.now one) c.in_ok-l2_depends_on_rb.ensures.turns.order).uses);
        hint = λ hint. (c.allocate.ensures.sound p (is_sound_now g.S.Storage.view p p c.args.file.now file c.args.self.now one) c.in_ok-l2_depends_on_rb.ensures.turns.order).hint (hint_stays g.S.Storage.view p c.args.file.now file c.args.self.now c.args.self.now one (passed_still c.args.self.now) hint);
        lowest = λ hint. (c.allocate.ensures.sound p (is_sound_now g.S.Storage.view p p c.args.file.now file c.args.self.now one) c.in_ok-l2_depends_on_rb.ensures.turns.order).lowest (hint_stays g.S.Storage.view p c.args.file.now file c.args.self.now c.args.self.now one (passed_still c.args.self.now) hint);
        limit = λ hint some. (c.allocate.ensures.sound p (is_sound_now g.S.Storage.view p p c.args.file.now file c.args.self.now one) c.in_ok-l2_depends_on_rb.ensures.turns.order).limit (hint_stays g.S.Storage.view p c.args.file.now file c.args.self.now c.args.self.now one (passed_still c.args.self.now) hint) some;
      };
      leaks = c.allocate.ensures.leaks p (is_sound_now g.S.Storage.view p p c.args.file.now file c.args.self.now one);
      made = let now = is_sound_now g.S.Storage.view p p c.args.file.now file c.args.self.now one in
          alone_since g.S.Storage.view c.args.file.now file refl known run_of (IsMadeInTurn c.args.file.now.header.fields c.args.self.now.reftable c.allocate.new.self.reftable c.args.file.now.free_list c.allocate.new.file.free_list) c.allocate.new.file c.allocate.result
          (made_run g.S.Storage.view p file c.allocate.new.file c.args.self.now c.allocate.new.self now c.allocate.ensures.step.list c.allocate.ensures.step.former Data c.args.count c.allocate.result ((c.allocate.ensures.sound p now c.in_ok-l2_depends_on_rb.ensures.turns.order).takes));
    }

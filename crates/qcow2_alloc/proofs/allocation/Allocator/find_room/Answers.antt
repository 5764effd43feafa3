use Rattle.std.proofs.Common.{◌≡◌, ◌+◌, ℕ, Result, inl, inr, refl, sym, ap, ◌∙◌, subst, arith, IfErr}
use Rattle.qcow2_alloc.proofs.Common.{IsUsed, EntryTableView, HeaderView, counts_per_block, Pending, InternalAllocatorStep, with_run, ImageError, Room, IsFaultOr, HasNoRoomBelow, opened, AllocatesRoom, Allocator}
use Rattle.qcow2_alloc.proofs.Lemmas.{leaves_then, handed_on, allocator_step_none, allocator_step_then, is_sound_now, run_after, hint_stays, passed_still, search_after, search_as, search_same, search_then, used_stays, run_of_same, noted_of_same, noted_of_room, if_no_ok, fails_by, fails_ok, fails_on, fails_since, limit_other, table_step_none, table_step_then}
use Rattle.qcow2_alloc.proofs.FullRooms.{full_behind, full_passed, full_stays, IsFullBelow}
use Rattle.qcow2_alloc.specs.declared.error.ImageError.TheVariants as I
use Rattle.qcow2_alloc.proofs.allocation.Allocator.find_room.Goals as goal

pub search-init : goal.search-init
search-init g c = record {
  faults = refl;
  step = table_step_none;
  reftable = refl;
  first = search_same c.args.self.now;
  hint = λ p sound hint. hint;
  low = let first = c.max-first.ensures in omega (arith, first);
  some = let first = c.max-first.ensures in omega (arith, first);
  sound = λ p sound. allocator_step_none g.S.Storage.view p c.args.file.now c.args.self.now sound;
  leaks = λ p sound. refl;
  full = λ p sound hint start n above below is within.
      let first = c.max-first.ensures in
      let some = c.requires.some in
      (start, omega arith, omega (arith, is, some), below, hint start (inl (omega (arith, first, above, below))));
}

pub search-preserved : goal.search-preserved
search-preserved g c = record {
  faults = c.in_ok-first.ensures.fails.told ∙ (c.in_ok-leave_run.ensures.fails.told ∙ (c.in_ok-reach.ensures.fails.told ∙ c.search.invariant.faults));
  step = table_step_then (table_step_then (table_step_then c.search.invariant.step c.reserve_room.ensures.step) c.leave_run.ensures.step) c.next_open.ensures.step;
  reftable = c.leave_run.ensures.reftable ∙ ap (λ a. a.reftable) c.reserve_room.ensures.same ∙ c.search.invariant.reftable;
  first = search_then c.args.self.now c.search.self c.leave_run.new.self c.search.invariant.first (search_after c.search.self c.reserve_room.new.self c.leave_run.new.self c.reserve_room.ensures.same c.leave_run.ensures.first);
  low = let low = c.search.invariant.low in let behind = c.in_ok-first.ensures.behind in omega (arith, low, behind);
  some = let behind = c.in_ok-first.ensures.behind in omega (arith, behind);
  hint = λ p sound hint.
      let view = g.S.Storage.view in
      let before = c.search.invariant.sound p sound in
      let reached = (c.in_ok-reach.ensures.sound p (is_sound_now view p p c.args.file.now c.search.file c.search.self before)).reaches in
      let t_same : c.search.self.reftable ≡ c.reserve_room.new.self.reftable = ap (λ a. a.reftable) (sym c.reserve_room.ensures.same) in
      let same = run_of_same p c.search.file.header.fields c.search.file.header.fields c.search.self.reftable c.reserve_room.new.self.reftable c.search.first c.in_ok-reach.reach.taken c.in_ok-reach.reach.taken refl t_same refl in
      let recorded = noted_of_same c.search.file.header.fields c.search.self.reftable c.reserve_room.new.self.reftable c.search.first c.in_ok-reach.reach.taken c.reserve_room.new.file.caches.is_changed t_same c.in_ok-reach.ensures.reach.recorded in
      let back = ((c.in_ok-leave_run.ensures.sound p c.search.file (sym c.reserve_room.ensures.step.header) (subst (λ (r : Pending). InternalAllocatorStep view p c.search.file c.reserve_room.new.self c.reserve_room.new.file r) same reached)).gives recorded) in
      let mid = allocator_step_then view p p c.args.file.now c.search.file c.leave_run.new.file c.search.self c.leave_run.new.self before back in
      let there = is_sound_now view p p c.args.file.now c.leave_run.new.file c.leave_run.new.self mid in
      hint_stays view p c.leave_run.new.file c.next_open.new.file c.leave_run.new.self c.leave_run.new.self (c.in_ok-first.ensures.sound p there).0 (passed_still c.leave_run.new.self)
      (hint_stays view p c.search.file c.leave_run.new.file c.search.self c.leave_run.new.self back (search_after c.search.self c.reserve_room.new.self c.leave_run.new.self c.reserve_room.ensures.same c.leave_run.ensures.first).passed (c.search.invariant.hint p sound hint));
  sound = λ p sound.
      let view = g.S.Storage.view in
      let before = c.search.invariant.sound p sound in
      let reached = (c.in_ok-reach.ensures.sound p (is_sound_now view p p c.args.file.now c.search.file c.search.self before)).reaches in
      let t_same : c.search.self.reftable ≡ c.reserve_room.new.self.reftable = ap (λ a. a.reftable) (sym c.reserve_room.ensures.same) in
      let same = run_of_same p c.search.file.header.fields c.search.file.header.fields c.search.self.reftable c.reserve_room.new.self.reftable c.search.first c.in_ok-reach.reach.taken c.in_ok-reach.reach.taken refl t_same refl in
      let recorded = noted_of_same c.search.file.header.fields c.search.self.reftable c.reserve_room.new.self.reftable c.search.first c.in_ok-reach.reach.taken c.reserve_room.new.file.caches.is_changed t_same c.in_ok-reach.ensures.reach.recorded in
      let back = ((c.in_ok-leave_run.ensures.sound p c.search.file (sym c.reserve_room.ensures.step.header) (subst (λ (r : Pending). InternalAllocatorStep view p c.search.file c.reserve_room.new.self c.reserve_room.new.file r) same reached)).gives recorded) in
      let mid = allocator_step_then view p p c.args.file.now c.search.file c.leave_run.new.file c.search.self c.leave_run.new.self before back in
      let there = is_sound_now view p p c.args.file.now c.leave_run.new.file c.leave_run.new.self mid in
      allocator_step_then view p p c.args.file.now c.leave_run.new.file c.next_open.new.file c.leave_run.new.self c.leave_run.new.self mid (c.in_ok-first.ensures.sound p there).0;
  leaks = λ p sound.
      let view = g.S.Storage.view in
      let before = c.search.invariant.sound p sound in
      let reached = (c.in_ok-reach.ensures.sound p (is_sound_now view p p c.args.file.now c.search.file c.search.self before)).reaches in
      let t_same : c.search.self.reftable ≡ c.reserve_room.new.self.reftable = ap (λ a. a.reftable) (sym c.reserve_room.ensures.same) in
      let same = run_of_same p c.search.file.header.fields c.search.file.header.fields c.search.self.reftable c.reserve_room.new.self.reftable c.search.first c.in_ok-reach.reach.taken c.in_ok-reach.reach.taken refl t_same refl in
      (c.leave_run.ensures.sound p c.search.file (sym c.reserve_room.ensures.step.header) (subst (λ (r : Pending). InternalAllocatorStep view p c.search.file c.reserve_room.new.self c.reserve_room.new.file r) same reached)).leaks
      ∙ ap (λ (a : Allocator). a.leaked_clusters) c.reserve_room.ensures.same ∙ c.search.invariant.leaks p sound;
  full = λ p sound hint.
      let view = g.S.Storage.view in
      let t = c.args.self.now.reftable in
      let per : ℕ = counts_per_block c.args.file.now.header.fields in
      let first = c.search.first in
      let taken = c.in_ok-reach.reach.taken in
      let before = c.search.invariant.sound p sound in
      let now = is_sound_now view p p c.args.file.now c.search.file c.search.self before in
      let reached = (c.in_ok-reach.ensures.sound p now).reaches in
      let t_same : c.search.self.reftable ≡ c.reserve_room.new.self.reftable = ap (λ a. a.reftable) (sym c.reserve_room.ensures.same) in
      let same = run_of_same p c.search.file.header.fields c.search.file.header.fields c.search.self.reftable c.reserve_room.new.self.reftable first taken taken refl t_same refl in
      let recorded = noted_of_same c.search.file.header.fields c.search.self.reftable c.reserve_room.new.self.reftable first taken c.reserve_room.new.file.caches.is_changed t_same c.in_ok-reach.ensures.reach.recorded in
      let run = subst (λ (r : Pending). InternalAllocatorStep view p c.search.file c.reserve_room.new.self c.reserve_room.new.file r) same reached in
      let back = ((c.in_ok-leave_run.ensures.sound p c.search.file (sym c.reserve_room.ensures.step.header) run).gives recorded) in
      let opened_same = λ (n : ℕ). ap (λ (h : HeaderView). opened c.search.self.reftable (counts_per_block h.fields) first n) c.search.invariant.step.header ∙ ap (λ (x : EntryTableView). opened x per first n) c.search.invariant.reftable in
      let mid = allocator_step_then view p p c.args.file.now c.search.file c.leave_run.new.file c.search.self c.leave_run.new.self before back in
      let passed = c.in_ok-first.ensures.sound p (is_sound_now view p p c.args.file.now c.leave_run.new.file c.leave_run.new.self mid) in
      let before_it = hint_stays view p c.search.file c.leave_run.new.file c.search.self c.leave_run.new.self back (search_after c.search.self c.reserve_room.new.self c.leave_run.new.self c.reserve_room.ensures.same c.leave_run.ensures.first).passed (c.search.invariant.hint p sound hint) in
      full_passed view c.next_open.new.file t per c.args.clusters c.args.end (first + (taken + 1)) c.in_ok-first.first (let behind = c.in_ok-first.ensures.behind in omega (arith, behind)) (let many = c.requires.some in omega (arith, many)) (λ k low high. passed.1 before_it k (omega (arith, low)) high)
      (full_stays view c.leave_run.new.file c.next_open.new.file t per c.args.clusters c.args.end (first + (taken + 1)) (λ k used. used_stays view p p c.leave_run.new.file c.next_open.new.file c.leave_run.new.self k passed.0 (omega arith) used)
      (full_behind view c.leave_run.new.file t per c.args.clusters c.args.end first taken
      (λ n le. let lt = c.in_ok-reach.ensures.reach.short c.if-reach-clusters.false n le in let e = opened_same n in omega (arith, lt, e))
      (λ within. (c.in_ok-leave_run.ensures.sound p c.search.file (sym c.reserve_room.ensures.step.header) run).kept (first + taken) (run_after first taken (first + taken) (omega arith))
      ((c.in_ok-reach.ensures.sound p now).stopped (c.search.invariant.hint p sound hint) c.if-reach-clusters.false within))
      (full_stays view c.search.file c.leave_run.new.file t per c.args.clusters c.args.end first (λ k used. used_stays view p p c.search.file c.leave_run.new.file c.leave_run.new.self k back (omega arith) used)
      (c.search.invariant.full p sound hint))));
}

pub returns-in_err-first-clause-step : goal.returns-in_err-first-clause-step
returns-in_err-first-clause-step g c = table_step_then (table_step_then (table_step_then c.search.invariant.step c.reserve_room.ensures.step) c.leave_run.ensures.step) c.next_open.ensures.step

pub returns-in_err-first-clause-fails : goal.returns-in_err-first-clause-fails
returns-in_err-first-clause-fails g c = fails_on c.from_residual-in_err-first.result c.in_err-first.field-0.0 c.from_residual-in_err-first.ensures (fails_since (c.in_ok-leave_run.ensures.fails.told ∙ (c.in_ok-reach.ensures.fails.told ∙ c.search.invariant.faults)) c.in_err-first.ensures.fails)

pub returns-in_err-first-clause-reftable : goal.returns-in_err-first-clause-reftable
returns-in_err-first-clause-reftable g c = c.leave_run.ensures.reftable ∙ ap (λ (a : Allocator). a.reftable) c.reserve_room.ensures.same ∙ c.search.invariant.reftable

pub returns-in_err-first-clause-first : goal.returns-in_err-first-clause-first
returns-in_err-first-clause-first g c = search_then c.args.self.now c.search.self c.leave_run.new.self c.search.invariant.first (search_after c.search.self c.reserve_room.new.self c.leave_run.new.self c.reserve_room.ensures.same c.leave_run.ensures.first)

pub returns-in_err-reach-clause-step : goal.returns-in_err-reach-clause-step
returns-in_err-reach-clause-step g c = table_step_then c.search.invariant.step c.reserve_room.ensures.step

pub returns-in_err-reach-clause-fails : goal.returns-in_err-reach-clause-fails
returns-in_err-reach-clause-fails g c = fails_on c.from_residual.result c.in_err-reach.field-0.0 c.from_residual.ensures (fails_since c.search.invariant.faults c.in_err-reach.ensures.fails)

pub returns-in_err-leave_run-clause-step : goal.returns-in_err-leave_run-clause-step
returns-in_err-leave_run-clause-step g c = table_step_then (table_step_then c.search.invariant.step c.reserve_room.ensures.step) c.leave_run.ensures.step

pub returns-in_err-leave_run-clause-fails : goal.returns-in_err-leave_run-clause-fails
returns-in_err-leave_run-clause-fails g c = fails_on c.from_residual-in_err-leave_run.result c.in_err-leave_run.field-0.0 c.from_residual-in_err-leave_run.ensures (fails_since (c.in_ok-reach.ensures.fails.told ∙ c.search.invariant.faults) c.in_err-leave_run.ensures.fails)

pub returns-in_err-reach-clause-reftable : goal.returns-in_err-reach-clause-reftable
returns-in_err-reach-clause-reftable g c = ap (λ (a : Allocator). a.reftable) c.reserve_room.ensures.same ∙ c.search.invariant.reftable

pub returns-in_err-reach-clause-first : goal.returns-in_err-reach-clause-first
returns-in_err-reach-clause-first g c = search_as c.args.self.now c.search.self c.reserve_room.new.self c.reserve_room.ensures.same c.search.invariant.first

pub returns-then-reach-clusters-clause-step : goal.returns-then-reach-clusters-clause-step
returns-then-reach-clusters-clause-step g c = table_step_then c.search.invariant.step c.reserve_room.ensures.step

pub returns-then-reach-clusters-clause-fails : goal.returns-then-reach-clusters-clause-fails
returns-then-reach-clusters-clause-fails g c = fails_ok (c.in_ok-reach.ensures.fails.told ∙ c.search.invariant.faults)

pub returns-then-reach-clusters-clause-reftable : goal.returns-then-reach-clusters-clause-reftable
returns-then-reach-clusters-clause-reftable g c = ap (λ (a : Allocator). a.reftable) c.reserve_room.ensures.same ∙ c.search.invariant.reftable

pub returns-then-reach-clusters-clause-first : goal.returns-then-reach-clusters-clause-first
returns-then-reach-clusters-clause-first g c = search_as c.args.self.now c.search.self c.reserve_room.new.self c.reserve_room.ensures.same c.search.invariant.first

pub returns-in_err-leave_run-clause-reftable : goal.returns-in_err-leave_run-clause-reftable
returns-in_err-leave_run-clause-reftable g c = c.leave_run.ensures.reftable ∙ ap (λ (a : Allocator). a.reftable) c.reserve_room.ensures.same ∙ c.search.invariant.reftable

pub returns-in_err-leave_run-clause-first : goal.returns-in_err-leave_run-clause-first
returns-in_err-leave_run-clause-first g c = search_then c.args.self.now c.search.self c.leave_run.new.self c.search.invariant.first (search_after c.search.self c.reserve_room.new.self c.leave_run.new.self c.reserve_room.ensures.same c.leave_run.ensures.first)

pub returns-clause-fails : goal.returns-clause-fails
returns-clause-fails g c = fails_by I.Limit limit_other c.search.invariant.faults tt

pub returns-in_err-leave_run-clause-sound : goal.returns-in_err-leave_run-clause-sound
returns-in_err-leave_run-clause-sound g c = λ p sound.
    let view = g.S.Storage.view in
    let before = c.search.invariant.sound p sound in
    let reached = (c.in_ok-reach.ensures.sound p (is_sound_now view p p c.args.file.now c.search.file c.search.self before)).reaches in
    let t_same : c.search.self.reftable ≡ c.reserve_room.new.self.reftable = ap (λ a. a.reftable) (sym c.reserve_room.ensures.same) in
    let same = run_of_same p c.search.file.header.fields c.search.file.header.fields c.search.self.reftable c.reserve_room.new.self.reftable c.search.first c.in_ok-reach.reach.taken c.in_ok-reach.reach.taken refl t_same refl in
    let recorded = noted_of_same c.search.file.header.fields c.search.self.reftable c.reserve_room.new.self.reftable c.search.first c.in_ok-reach.reach.taken c.reserve_room.new.file.caches.is_changed t_same c.in_ok-reach.ensures.reach.recorded in
    let back = ((c.in_err-leave_run.ensures.sound p c.search.file (sym c.reserve_room.ensures.step.header) (subst (λ (r : Pending). InternalAllocatorStep view p c.search.file c.reserve_room.new.self c.reserve_room.new.file r) same reached)).gives recorded) in
    record {
      takes = handed_on (AllocatesRoom view p c.args.file.now c.leave_run.new.self c.leave_run.new.file c.args.self.now.reftable) c.from_residual-in_err-leave_run.result c.in_err-leave_run.field-0.0 c.from_residual-in_err-leave_run.ensures
          (leaves_then view p c.args.file.now c.search.file c.leave_run.new.file c.leave_run.new.self c.in_err-leave_run.field-0.0 before.file_step back.1);
      leaks = (c.leave_run.ensures.sound p c.search.file (sym c.reserve_room.ensures.step.header) (subst (λ (r : Pending). InternalAllocatorStep view p c.search.file c.reserve_room.new.self c.reserve_room.new.file r) same reached)).leaks
          ∙ ap (λ (a : Allocator). a.leaked_clusters) c.reserve_room.ensures.same ∙ c.search.invariant.leaks p sound;
      lowest = λ _. if_no_ok _ c.from_residual-in_err-leave_run.result c.in_err-leave_run.field-0.0 c.from_residual-in_err-leave_run.ensures;
      limit = λ hint. handed_on (λ (r : Result Room ImageError). IfErr r (IsFaultOr (HasNoRoomBelow (IsUsed view c.leave_run.new.file) c.leave_run.new.file.header.fields (λ k. 0) c.args.self.now.reftable c.args.clusters c.args.end))) c.from_residual-in_err-leave_run.result c.in_err-leave_run.field-0.0 c.from_residual-in_err-leave_run.ensures
          (inl back.0);
    }

pub returns-in_err-first-clause-sound : goal.returns-in_err-first-clause-sound
returns-in_err-first-clause-sound g c = λ p sound.
    let view = g.S.Storage.view in
    let before = c.search.invariant.sound p sound in
    let reached = (c.in_ok-reach.ensures.sound p (is_sound_now view p p c.args.file.now c.search.file c.search.self before)).reaches in
    let t_same : c.search.self.reftable ≡ c.reserve_room.new.self.reftable = ap (λ a. a.reftable) (sym c.reserve_room.ensures.same) in
    let same = run_of_same p c.search.file.header.fields c.search.file.header.fields c.search.self.reftable c.reserve_room.new.self.reftable c.search.first c.in_ok-reach.reach.taken c.in_ok-reach.reach.taken refl t_same refl in
    let recorded = noted_of_same c.search.file.header.fields c.search.self.reftable c.reserve_room.new.self.reftable c.search.first c.in_ok-reach.reach.taken c.reserve_room.new.file.caches.is_changed t_same c.in_ok-reach.ensures.reach.recorded in
    let back = ((c.in_ok-leave_run.ensures.sound p c.search.file (sym c.reserve_room.ensures.step.header) (subst (λ (r : Pending). InternalAllocatorStep view p c.search.file c.reserve_room.new.self c.reserve_room.new.file r) same reached)).gives recorded) in
    let mid = allocator_step_then view p p c.args.file.now c.search.file c.leave_run.new.file c.search.self c.leave_run.new.self before back in
    let there = is_sound_now view p p c.args.file.now c.leave_run.new.file c.leave_run.new.self mid in
    record {
      takes = handed_on (AllocatesRoom view p c.args.file.now c.leave_run.new.self c.next_open.new.file c.args.self.now.reftable) c.from_residual-in_err-first.result c.in_err-first.field-0.0 c.from_residual-in_err-first.ensures
          (leaves_then view p c.args.file.now c.leave_run.new.file c.next_open.new.file c.leave_run.new.self c.in_err-first.field-0.0 mid.file_step (c.in_err-first.ensures.sound p there).1);
      leaks = (c.leave_run.ensures.sound p c.search.file (sym c.reserve_room.ensures.step.header) (subst (λ (r : Pending). InternalAllocatorStep view p c.search.file c.reserve_room.new.self c.reserve_room.new.file r) same reached)).leaks
          ∙ ap (λ (a : Allocator). a.leaked_clusters) c.reserve_room.ensures.same ∙ c.search.invariant.leaks p sound;
      lowest = λ _. if_no_ok _ c.from_residual-in_err-first.result c.in_err-first.field-0.0 c.from_residual-in_err-first.ensures;
      limit = λ hint. handed_on (λ (r : Result Room ImageError). IfErr r (IsFaultOr (HasNoRoomBelow (IsUsed view c.next_open.new.file) c.next_open.new.file.header.fields (λ k. 0) c.args.self.now.reftable c.args.clusters c.args.end))) c.from_residual-in_err-first.result c.in_err-first.field-0.0 c.from_residual-in_err-first.ensures
          (inl (c.in_err-first.ensures.sound p there).0);
    }

pub returns-in_err-reach-clause-sound : goal.returns-in_err-reach-clause-sound
returns-in_err-reach-clause-sound g c = λ p sound.
    let view = g.S.Storage.view in
    let before = c.search.invariant.sound p sound in
    record {
      takes = handed_on (AllocatesRoom view p c.args.file.now c.reserve_room.new.self c.reserve_room.new.file c.args.self.now.reftable) c.from_residual.result c.in_err-reach.field-0.0 c.from_residual.ensures
          (leaves_then view p c.args.file.now c.search.file c.reserve_room.new.file c.reserve_room.new.self c.in_err-reach.field-0.0 before.file_step
          (c.in_err-reach.ensures.sound p (is_sound_now view p p c.args.file.now c.search.file c.search.self before)).reaches.1);
      leaks = ap (λ (a : Allocator). a.leaked_clusters) c.reserve_room.ensures.same ∙ c.search.invariant.leaks p sound;
      lowest = λ _. if_no_ok _ c.from_residual.result c.in_err-reach.field-0.0 c.from_residual.ensures;
      limit = λ hint. handed_on (λ (r : Result Room ImageError). IfErr r (IsFaultOr (HasNoRoomBelow (IsUsed view c.reserve_room.new.file) c.reserve_room.new.file.header.fields (λ k. 0) c.args.self.now.reftable c.args.clusters c.args.end))) c.from_residual.result c.in_err-reach.field-0.0 c.from_residual.ensures
          (inl (c.in_err-reach.ensures.sound p (is_sound_now view p p c.args.file.now c.search.file c.search.self before)).reaches.0);
    }

pub returns-then-reach-clusters-clause-sound : goal.returns-then-reach-clusters-clause-sound
returns-then-reach-clusters-clause-sound g c = λ p sound.
    let view = g.S.Storage.view in
    let before = c.search.invariant.sound p sound in
    let t = c.args.self.now.reftable in
    record {
      takes = let reached = (c.in_ok-reach.ensures.sound p (is_sound_now view p p c.args.file.now c.search.file c.search.self before)).reaches in
          let h = c.args.file.now.header.fields in
          let same = run_of_same p c.search.file.header.fields h c.search.self.reftable t c.search.first c.in_ok-reach.reach.taken (c.in_ok-reach.reach.blocks + c.args.clusters) (ap (λ x. x.fields) c.search.invariant.step.header) c.search.invariant.reftable c.if-reach-clusters.true in
          allocator_step_then view p (with_run p h t c.search.first (c.in_ok-reach.reach.blocks + c.args.clusters)) c.args.file.now c.search.file c.reserve_room.new.file c.search.self c.reserve_room.new.self before
          (subst (λ (r : Pending). InternalAllocatorStep view p c.search.file c.reserve_room.new.self c.reserve_room.new.file r) same reached);
      leaks = ap (λ (a : Allocator). a.leaked_clusters) c.reserve_room.ensures.same ∙ c.search.invariant.leaks p sound;
      lowest = λ hint. let now = is_sound_now view p p c.args.file.now c.search.file c.search.self before in
          let reached = (c.in_ok-reach.ensures.sound p now).reaches in
          let per = ap (λ (h : HeaderView). counts_per_block h.fields) (c.reserve_room.ensures.step.header ∙ c.search.invariant.step.header) in
          let full = full_stays view c.search.file c.reserve_room.new.file t (counts_per_block c.args.file.now.header.fields) c.args.clusters c.args.end c.search.first
          (λ k used. used_stays view p (with_run p c.search.file.header.fields c.search.self.reftable c.search.first c.in_ok-reach.reach.taken) c.search.file c.reserve_room.new.file c.reserve_room.new.self k reached (omega arith) used) (c.search.invariant.full p sound hint) in
          subst (λ n. IsFullBelow view c.reserve_room.new.file t n c.args.clusters c.args.end c.search.first) (sym per) full;
      limit = λ _. tt;
    }

pub returns-clause-sound : goal.returns-clause-sound
returns-clause-sound g c = λ p sound.
    record {
      takes = let before = c.search.invariant.sound p sound in inl (before.file_step, before.reftable);
      leaks = c.search.invariant.leaks p sound;
      lowest = λ _. tt;
      limit = λ hint. let t = c.args.self.now.reftable in
          inr (
            refl,
            λ start n above is within.
                let e : opened t (counts_per_block c.search.file.header.fields) start n ≡ opened t (counts_per_block c.args.file.now.header.fields) start n = ap (λ (h : HeaderView). opened t (counts_per_block h.fields) start n) c.search.invariant.step.header in
                let past = c.search-test.false in
                let some = c.requires.some in
                let at = c.search.invariant.full p sound hint start n above (omega (arith, past, some, is, within)) (is ∙ ap (λ m. m + c.args.clusters) e) within in
                (at.0, at.1, at.2, inl at.4),
          );
    }

pub returns-then-reach-clusters-clause-room : goal.returns-then-reach-clusters-clause-room
returns-then-reach-clusters-clause-room g c = record {
  above = c.search.invariant.some;
  below = let within = c.in_ok-reach.ensures.reach.within in let is = c.if-reach-clusters.true in omega (arith, within, is);
  clusters = refl;
  blocks = c.in_ok-reach.ensures.reach.blocks ∙ ap (λ m. opened c.search.self.reftable (counts_per_block c.search.file.header.fields) c.search.first m) c.if-reach-clusters.true
      ∙ ap (λ (h : HeaderView). opened c.search.self.reftable (counts_per_block h.fields) c.search.first (c.in_ok-reach.reach.blocks + c.args.clusters)) c.search.invariant.step.header
      ∙ ap (λ (x : EntryTableView). opened x (counts_per_block c.args.file.now.header.fields) c.search.first (c.in_ok-reach.reach.blocks + c.args.clusters)) c.search.invariant.reftable;
  recorded = noted_of_room c.search.file.header.fields c.args.file.now.header.fields c.search.self.reftable c.args.self.now.reftable c.search.first c.in_ok-reach.reach.taken (c.in_ok-reach.reach.blocks + c.args.clusters) c.reserve_room.new.file.caches.is_changed
      (ap (λ x. x.fields) c.search.invariant.step.header) c.search.invariant.reftable c.if-reach-clusters.true c.in_ok-reach.ensures.reach.recorded;
}

use Rattle.std.proofs.Common.{ℕ, ◌≡◌, ◌≢◌, ◌/◌, ◌^◌, ◌<◌, ◌≤◌, ◌⊎◌, arith, inl, inr, Ok, Err, Some, None, true, refl, sym, ap, ◌∙◌, subst, Result, Option, false, rules, IfErr}
use Rattle.qcow2_alloc.specs.LowestRuns.{NoFreeBelowHint}
use Rattle.qcow2_alloc.specs.Steps.{AllocatesAtSoundly}
use Rattle.qcow2_alloc.proofs.Common.{AllocatorInvariant, IsPastLimits, count, one_at, Pending, ClustersToFreeEntry, ImageFile, taken_as, InternalAllocatorGrowth, AllocatesAt, pending_then, IsUsed, KeepsNoFreeBelowHint, StaysUsed, counts_per_block, ImageError, IsFault, IsFaultOr, CantCount, IsHostCluster, run_in, IsAllocatedMetadata, AllocatesOnly}
use Rattle.qcow2_alloc.proofs.Lemmas.{handed_on, on_of, allocator_step_on, allocator_step_cached, is_sound_now, leaves_on, of_equal, listed_after_same, header_used, hint_stays, passed_still, taken_alone, on_no_ok, if_no_ok, alone_none, alone_since, lists_used_none, made_before, made_one, made_refused, made_untaken, data_then, fails_by, fails_ok, fails_on, fails_since, memory_other, data_cached, fault_alone, file_fits, fails_of_tables}
use Rattle.qcow2_alloc.specs.declared.error.ImageError.TheVariants as I
use Rattle.qcow2_alloc.proofs.allocation.Allocator.allocate_data_at.Given.{Over}
use Rattle.qcow2_alloc.proofs.allocation.Allocator.allocate_data_at.Goals.{After-l2_depends_on_rb}
use Rattle.qcow2_alloc.proofs.allocation.Allocator.allocate_data_at.Goals as goal

-- the range of a cluster, as its number says it, beside the most entries of a reftable
past_limit : (at cluster bits per : ℕ) → at ≡ cluster → per ≡ 2 ^ bits → 1048576 ≤ at / 2 ^ bits → 2 ^ 20 ≤ cluster / per
past_limit at cluster bits per is counts past = let same : at / 2 ^ bits ≡ cluster / per = ap (λ n. n / 2 ^ bits) is ∙ ap (λ n. cluster / n) (sym counts) in omega (arith, past, same)

within_limit : (at cluster bits per : ℕ) → at ≡ cluster → per ≡ 2 ^ bits → at / 2 ^ bits < 1048576 → cluster / per < 2 ^ 20
within_limit at cluster bits per is counts below = let same : at / 2 ^ bits ≡ cluster / per = ap (λ n. n / 2 ^ bits) is ∙ ap (λ n. cluster / n) (sym counts) in omega (arith, below, same)

abbrev turned : (g : Over) → After-l2_depends_on_rb g → ImageFile g.row.S.Denot
turned g c = record c.args.file.now { storage = c.l2_depends_on_rb.new.storage; caches = c.l2_depends_on_rb.new.self }

-- The order of writes turned, and the cluster is not given, for a reason that lies in it.
not_given : (g : Over) (c : After-l2_depends_on_rb g) (p : Pending) → AllocatorInvariant g.S.Storage.view c.args.self.now p c.args.file.now
    → (NoFreeBelowHint g.S.Storage.view c.args.self.now c.args.file.now → IsPastLimits c.args.file.now.header.fields c.args.cluster ⊎ (IsUsed g.S.Storage.view (turned g c) c.args.cluster × (IsUsed g.S.Storage.view c.args.file.now c.args.cluster ⊎ IsAllocatedMetadata c.args.file.now.header.fields c.args.self.now.reftable c.args.self.now.reftable c.args.cluster)))
    → AllocatesAtSoundly g.S.Storage.view p c.args.cluster c.args.self.now c.args.file.now c.args.self.now (turned g c) (Ok None)
not_given g c p sound why =
    let one = allocator_step_cached g.S.Storage.view p c.args.file.now c.args.self.now c.l2_depends_on_rb.new.storage c.l2_depends_on_rb.new.self sound (c.l2_depends_on_rb.ensures.sound.keeps c.args.file.now.header.fields p sound.sound.honest sound.sound.caches) c.l2_depends_on_rb.ensures.step.marks.pins in
    let known = (c.l2_depends_on_rb.ensures.sound.keeps c.args.file.now.header.fields p sound.sound.honest sound.sound.caches).known in
    record {
      takes = subst (λ (r : Pending). InternalAllocatorGrowth g.S.Storage.view p c.args.file.now c.args.self.now (turned g c) r) (sym (listed_after_same p c.args.file.now.free_list c.args.file.now.free_list refl)) (on_of g.S.Storage.view p p c.args.file.now (turned g c) c.args.self.now one);
      leaks = refl;
      listed = lists_used_none g.S.Storage.view c.args.file.now (turned g c) refl;
      made = let alone = alone_none g.S.Storage.view c.args.file.now (turned g c) refl known in
          ((λ k used. inl (alone.0 k used)), alone.1);
      uses = λ k used. subst (λ b. count c.args.file.now.header.fields b k ≢ 0) (sym known) used;
      kept = tt;
      within = tt;
      none = λ hint _. why hint;
      hint = λ hint. hint_stays g.S.Storage.view p c.args.file.now (turned g c) c.args.self.now c.args.self.now one (passed_still c.args.self.now) hint;
      limit = λ _. tt;
    }

pub returns-in_err-l2_depends_on_rb-clause-step : goal.returns-in_err-l2_depends_on_rb-clause-step
returns-in_err-l2_depends_on_rb-clause-step g c = data_cached c.l2_depends_on_rb.ensures.step.marks c.l2_depends_on_rb.ensures.step.header_cluster

pub returns-in_err-l2_depends_on_rb-clause-fails : goal.returns-in_err-l2_depends_on_rb-clause-fails
returns-in_err-l2_depends_on_rb-clause-fails g c = fails_on c.from_residual.result c.in_err-l2_depends_on_rb.field-0.0 c.from_residual.ensures (fails_of_tables c.in_err-l2_depends_on_rb.ensures.fails)

pub returns-then-not-is_nameable-clause-step : goal.returns-then-not-is_nameable-clause-step
returns-then-not-is_nameable-clause-step g c = data_cached c.l2_depends_on_rb.ensures.step.marks c.l2_depends_on_rb.ensures.step.header_cluster

pub returns-then-range-clause-step : goal.returns-then-range-clause-step
returns-then-range-clause-step g c = data_cached c.l2_depends_on_rb.ensures.step.marks c.l2_depends_on_rb.ensures.step.header_cluster

pub returns-then-not-is_nameable-clause-fails : goal.returns-then-not-is_nameable-clause-fails
returns-then-not-is_nameable-clause-fails g c = fails_ok c.in_ok-l2_depends_on_rb.ensures.fails.told

pub returns-then-range-clause-fails : goal.returns-then-range-clause-fails
returns-then-range-clause-fails g c = fails_ok c.in_ok-l2_depends_on_rb.ensures.fails.told

pub returns-then-at-eq0-clause-step : goal.returns-then-at-eq0-clause-step
returns-then-at-eq0-clause-step g c = data_cached c.l2_depends_on_rb.ensures.step.marks c.l2_depends_on_rb.ensures.step.header_cluster

pub returns-then-at-eq0-clause-fails : goal.returns-then-at-eq0-clause-fails
returns-then-at-eq0-clause-fails g c = fails_ok c.in_ok-l2_depends_on_rb.ensures.fails.told

pub returns-in_default-clause-step : goal.returns-in_default-clause-step
returns-in_default-clause-step g c = data_cached c.l2_depends_on_rb.ensures.step.marks c.l2_depends_on_rb.ensures.step.header_cluster

pub returns-in_default-clause-fails : goal.returns-in_default-clause-fails
returns-in_default-clause-fails g c = fails_by I.Memory memory_other c.in_ok-l2_depends_on_rb.ensures.fails.told tt

pub returns-in-Ok-true-clause-step : goal.returns-in-Ok-true-clause-step
returns-in-Ok-true-clause-step g c = data_then (data_cached c.l2_depends_on_rb.ensures.step.marks c.l2_depends_on_rb.ensures.step.header_cluster) c.allocate_cluster.ensures.step

pub returns-in-Ok-true-clause-fails : goal.returns-in-Ok-true-clause-fails
returns-in-Ok-true-clause-fails g c = fails_ok (c.in-Ok-true.ensures.fails.told ∙ c.in_ok-l2_depends_on_rb.ensures.fails.told)

pub returns-in-Ok-false-clause-step : goal.returns-in-Ok-false-clause-step
returns-in-Ok-false-clause-step g c = data_then (data_cached c.l2_depends_on_rb.ensures.step.marks c.l2_depends_on_rb.ensures.step.header_cluster) c.allocate_cluster.ensures.step

pub returns-in-Ok-false-clause-fails : goal.returns-in-Ok-false-clause-fails
returns-in-Ok-false-clause-fails g c = fails_ok (c.in-Ok-false.ensures.fails.told ∙ c.in_ok-l2_depends_on_rb.ensures.fails.told)

pub returns-in-Err-clause-step : goal.returns-in-Err-clause-step
returns-in-Err-clause-step g c = data_then (data_cached c.l2_depends_on_rb.ensures.step.marks c.l2_depends_on_rb.ensures.step.header_cluster) c.allocate_cluster.ensures.step

pub returns-in-Err-clause-fails : goal.returns-in-Err-clause-fails
returns-in-Err-clause-fails g c = fails_since c.in_ok-l2_depends_on_rb.ensures.fails.told c.in-Err.ensures.fails

pub returns-in-Ok-true-clause-order : goal.returns-in-Ok-true-clause-order
returns-in-Ok-true-clause-order g c = c.allocate_cluster.ensures.step.marks.order ∙ c.in_ok-l2_depends_on_rb.ensures.turns.order

pub returns-in-Ok-false-clause-order : goal.returns-in-Ok-false-clause-order
returns-in-Ok-false-clause-order g c = c.allocate_cluster.ensures.step.marks.order ∙ c.in_ok-l2_depends_on_rb.ensures.turns.order

pub returns-then-at-eq0-clause-sound : goal.returns-then-at-eq0-clause-sound
returns-then-at-eq0-clause-sound g c = λ p sound.
    let path = (goal.at.returns-then-at-eq0-clause-sound g c).After-l2_depends_on_rb in
    let one = allocator_step_cached g.S.Storage.view p c.args.file.now c.args.self.now c.l2_depends_on_rb.new.storage c.l2_depends_on_rb.new.self sound (c.l2_depends_on_rb.ensures.sound.keeps c.args.file.now.header.fields p sound.sound.honest sound.sound.caches) c.l2_depends_on_rb.ensures.step.marks.pins in
    let here = sym c.if-at-eq0.true ∙ c.value-at.ensures in
    not_given g path p sound (λ _. inr (
      subst (λ n. IsUsed g.S.Storage.view (turned g path) n) here (header_used g.S.Storage.view p (turned g path) (is_sound_now g.S.Storage.view p p c.args.file.now (turned g path) c.args.self.now one).sound),
      inl (subst (λ n. IsUsed g.S.Storage.view c.args.file.now n) here (header_used g.S.Storage.view p c.args.file.now sound.sound)),
    ))

pub returns-then-not-is_nameable-clause-sound : goal.returns-then-not-is_nameable-clause-sound
returns-then-not-is_nameable-clause-sound g c = λ p sound. not_given g (goal.at.returns-then-not-is_nameable-clause-sound g c).After-l2_depends_on_rb p sound (λ _. inl (inl (search rules)))

pub returns-then-range-clause-sound : goal.returns-then-range-clause-sound
returns-then-range-clause-sound g c = λ p sound.
    not_given g (goal.at.returns-then-range-clause-sound g c).After-l2_depends_on_rb p sound
    (λ _. inl (inr (past_limit c.value-at.result c.args.cluster c.rb_bits.result (counts_per_block c.args.file.now.header.fields) c.value-at.ensures c.rb_bits.ensures.counts c.if-range.true)))

pub returns-in-Ok-false-clause-sound : goal.returns-in-Ok-false-clause-sound
returns-in-Ok-false-clause-sound g c = λ p sound.
    let one = allocator_step_cached g.S.Storage.view p c.args.file.now c.args.self.now c.l2_depends_on_rb.new.storage c.l2_depends_on_rb.new.self sound (c.l2_depends_on_rb.ensures.sound.keeps c.args.file.now.header.fields p sound.sound.honest sound.sound.caches) c.l2_depends_on_rb.ensures.step.marks.pins in
    let file : ImageFile g.row.S.Denot = record c.args.file.now { storage = c.l2_depends_on_rb.new.storage; caches = c.l2_depends_on_rb.new.self } in
    let now = is_sound_now g.S.Storage.view p p c.args.file.now file c.args.self.now one in
    let known = (c.l2_depends_on_rb.ensures.sound.keeps c.args.file.now.header.fields p sound.sound.honest sound.sound.caches).known in
    let two = rw c.in-Ok-false.field-0-test at ((c.in-Ok-false.ensures.sound p true now c.in_ok-l2_depends_on_rb.ensures.turns.order).takes) in
    record {
      takes = allocator_step_on g.S.Storage.view p p (pending_then p c.args.file.now.free_list c.allocate_cluster.new.file.free_list) c.args.file.now file c.allocate_cluster.new.file c.args.self.now c.allocate_cluster.new.self (λ k some. some) (on_of g.S.Storage.view p p c.args.file.now file c.args.self.now one) two;
      leaks = (c.allocate_cluster.ensures.sound p false now tt).leaks;
      listed = λ k since. subst (λ b. count c.args.file.now.header.fields b k ≢ 0) known ((c.allocate_cluster.ensures.sound p false now tt).listed k since);
      made = alone_since g.S.Storage.view c.args.file.now file refl known run_in (IsAllocatedMetadata c.args.file.now.header.fields c.args.self.now.reftable c.allocate_cluster.new.self.reftable) c.allocate_cluster.new.file (Ok None)
          (made_untaken g.S.Storage.view p file c.allocate_cluster.new.file c.args.self.now c.allocate_cluster.new.self now c.allocate_cluster.ensures.step.list c.allocate_cluster.ensures.step.former ((c.allocate_cluster.ensures.sound p false now tt).listed) two);
      uses = λ k used. let h = c.args.file.now.header.fields in
          (c.in-Ok-false.ensures.sound p true now c.in_ok-l2_depends_on_rb.ensures.turns.order).uses k (subst (λ b. count h b k ≢ 0) (sym known) used);
      kept = tt;
      within = tt;
      none = λ hint _. let uses : (k : ℕ) → IsUsed g.S.Storage.view file k → IsUsed g.S.Storage.view c.args.file.now k = λ k used. subst (λ b. count c.args.file.now.header.fields b k ≢ 0) known used in
          let used = subst (λ n. IsUsed g.S.Storage.view c.allocate_cluster.new.file n) c.value.ensures ((c.in-Ok-false.ensures.sound p true now c.in_ok-l2_depends_on_rb.ensures.turns.order).used (hint_stays g.S.Storage.view p c.args.file.now file c.args.self.now c.args.self.now one (passed_still c.args.self.now) hint) c.in-Ok-false.field-0-test) in
          inr (made_before g.S.Storage.view p file c.allocate_cluster.new.file c.args.self.now c.allocate_cluster.new.self now c.allocate_cluster.ensures.step.list c.allocate_cluster.ensures.step.former ((c.allocate_cluster.ensures.sound p false now tt).listed) c.args.file.now uses c.args.cluster two used);
      hint = λ hint. (c.in-Ok-false.ensures.sound p true now c.in_ok-l2_depends_on_rb.ensures.turns.order).hint (hint_stays g.S.Storage.view p c.args.file.now file c.args.self.now c.args.self.now one (passed_still c.args.self.now) hint);
      limit = λ _. tt;
    }

pub returns-in_err-l2_depends_on_rb-clause-sound : goal.returns-in_err-l2_depends_on_rb-clause-sound
returns-in_err-l2_depends_on_rb-clause-sound g c = λ p sound.
    let file : ImageFile g.row.S.Denot = record c.args.file.now { storage = c.l2_depends_on_rb.new.storage; caches = c.l2_depends_on_rb.new.self } in
    let one = allocator_step_cached g.S.Storage.view p c.args.file.now c.args.self.now c.l2_depends_on_rb.new.storage c.l2_depends_on_rb.new.self sound (c.l2_depends_on_rb.ensures.sound.keeps c.args.file.now.header.fields p sound.sound.honest sound.sound.caches) c.l2_depends_on_rb.ensures.step.marks.pins in
    record {
      takes = handed_on (AllocatesAt g.S.Storage.view p c.args.file.now c.args.self.now file (pending_then p c.args.file.now.free_list c.args.file.now.free_list) c.args.cluster) c.from_residual.result c.in_err-l2_depends_on_rb.field-0.0 c.from_residual.ensures
          (inl (subst (λ (r : Pending). InternalAllocatorGrowth g.S.Storage.view p c.args.file.now c.args.self.now file r) (sym (listed_after_same p c.args.file.now.free_list c.args.file.now.free_list refl)) (on_of g.S.Storage.view p p c.args.file.now file c.args.self.now one)));
      leaks = refl;
      listed = lists_used_none g.S.Storage.view c.args.file.now file refl;
      made = let known = (c.l2_depends_on_rb.ensures.sound.keeps c.args.file.now.header.fields p sound.sound.honest sound.sound.caches).known in
          let alone = alone_none g.S.Storage.view c.args.file.now file refl known in
          handed_on (AllocatesOnly g.S.Storage.view run_in (IsAllocatedMetadata c.args.file.now.header.fields c.args.self.now.reftable c.args.self.now.reftable) c.args.file.now file) c.from_residual.result c.in_err-l2_depends_on_rb.field-0.0 c.from_residual.ensures (inl ((λ k used. inl (alone.0 k used)), alone.1));
      uses = on_no_ok _ c.from_residual.result c.in_err-l2_depends_on_rb.field-0.0 c.from_residual.ensures;
      kept = handed_on (λ (r : Result (Option ClustersToFreeEntry) ImageError). IfErr r (λ e. IsFault e ⊎ StaysUsed g.S.Storage.view c.args.file.now file)) c.from_residual.result c.in_err-l2_depends_on_rb.field-0.0 c.from_residual.ensures
          (inl (fault_alone c.in_err-l2_depends_on_rb.field-0.0 (file_fits g.S.Storage.view p c.args.file.now sound.sound).0 c.in_err-l2_depends_on_rb.ensures.fails.cause));
      within = handed_on (λ (r : Result (Option ClustersToFreeEntry) ImageError). IfErr r (λ e. IsFault e ⊎ (c.args.cluster / counts_per_block c.args.file.now.header.fields < 2 ^ 20))) c.from_residual.result c.in_err-l2_depends_on_rb.field-0.0 c.from_residual.ensures
          (inl (fault_alone c.in_err-l2_depends_on_rb.field-0.0 (file_fits g.S.Storage.view p c.args.file.now sound.sound).0 c.in_err-l2_depends_on_rb.ensures.fails.cause));
      none = λ hint. if_no_ok _ c.from_residual.result c.in_err-l2_depends_on_rb.field-0.0 c.from_residual.ensures;
      hint = λ hint. handed_on (KeepsNoFreeBelowHint g.S.Storage.view c.args.self.now file) c.from_residual.result c.in_err-l2_depends_on_rb.field-0.0 c.from_residual.ensures (inl (hint_stays g.S.Storage.view p c.args.file.now file c.args.self.now c.args.self.now one (passed_still c.args.self.now) hint));
      limit = λ hint. handed_on (λ (r : Result (Option ClustersToFreeEntry) ImageError). IfErr r (IsFaultOr (CantCount (IsUsed g.S.Storage.view file) file.header.fields (λ k. 0) c.args.self.now c.args.cluster))) c.from_residual.result c.in_err-l2_depends_on_rb.field-0.0 c.from_residual.ensures
          (inl (fault_alone c.in_err-l2_depends_on_rb.field-0.0 (file_fits g.S.Storage.view p c.args.file.now sound.sound).0 c.in_err-l2_depends_on_rb.ensures.fails.cause));
    }

pub returns-in_default-clause-sound : goal.returns-in_default-clause-sound
returns-in_default-clause-sound g c = λ p sound.
    let file : ImageFile g.row.S.Denot = record c.args.file.now { storage = c.l2_depends_on_rb.new.storage; caches = c.l2_depends_on_rb.new.self } in
    let one = allocator_step_cached g.S.Storage.view p c.args.file.now c.args.self.now c.l2_depends_on_rb.new.storage c.l2_depends_on_rb.new.self sound (c.l2_depends_on_rb.ensures.sound.keeps c.args.file.now.header.fields p sound.sound.honest sound.sound.caches) c.l2_depends_on_rb.ensures.step.marks.pins in
    record {
      takes = inl (subst (λ (r : Pending). InternalAllocatorGrowth g.S.Storage.view p c.args.file.now c.args.self.now file r) (sym (listed_after_same p c.args.file.now.free_list c.args.file.now.free_list refl)) (on_of g.S.Storage.view p p c.args.file.now file c.args.self.now one));
      leaks = refl;
      listed = lists_used_none g.S.Storage.view c.args.file.now file refl;
      made = let known = (c.l2_depends_on_rb.ensures.sound.keeps c.args.file.now.header.fields p sound.sound.honest sound.sound.caches).known in
          let alone = alone_none g.S.Storage.view c.args.file.now file refl known in
          inl ((λ k used. inl (alone.0 k used)), alone.1);
      uses = tt;
      kept = inl (inr refl);
      within = inl (inr refl);
      none = λ hint. tt;
      hint = λ hint. inl (hint_stays g.S.Storage.view p c.args.file.now file c.args.self.now c.args.self.now one (passed_still c.args.self.now) hint);
      limit = λ hint. inl (inr refl);
    }

pub returns-in-Err-clause-sound : goal.returns-in-Err-clause-sound
returns-in-Err-clause-sound g c = λ p sound.
    let one = allocator_step_cached g.S.Storage.view p c.args.file.now c.args.self.now c.l2_depends_on_rb.new.storage c.l2_depends_on_rb.new.self sound (c.l2_depends_on_rb.ensures.sound.keeps c.args.file.now.header.fields p sound.sound.honest sound.sound.caches) c.l2_depends_on_rb.ensures.step.marks.pins in
    let file : ImageFile g.row.S.Denot = record c.args.file.now { storage = c.l2_depends_on_rb.new.storage; caches = c.l2_depends_on_rb.new.self } in
    let now = is_sound_now g.S.Storage.view p p c.args.file.now file c.args.self.now one in
    let known = (c.l2_depends_on_rb.ensures.sound.keeps c.args.file.now.header.fields p sound.sound.honest sound.sound.caches).known in
    record {
      takes = leaves_on g.S.Storage.view p p (pending_then p c.args.file.now.free_list c.allocate_cluster.new.file.free_list) c.args.file.now file c.allocate_cluster.new.file c.args.self.now c.allocate_cluster.new.self c.in-Err.refusal (λ k some. some) (on_of g.S.Storage.view p p c.args.file.now file c.args.self.now one) ((c.in-Err.ensures.sound p true now c.in_ok-l2_depends_on_rb.ensures.turns.order).takes);
      leaks = (c.allocate_cluster.ensures.sound p false now tt).leaks;
      listed = λ k since. subst (λ b. count c.args.file.now.header.fields b k ≢ 0) known ((c.allocate_cluster.ensures.sound p false now tt).listed k since);
      made = alone_since g.S.Storage.view c.args.file.now file refl known run_in (IsAllocatedMetadata c.args.file.now.header.fields c.args.self.now.reftable c.allocate_cluster.new.self.reftable) c.allocate_cluster.new.file (Err c.in-Err.refusal)
          (made_refused g.S.Storage.view p file c.allocate_cluster.new.file c.args.self.now c.allocate_cluster.new.self now c.allocate_cluster.ensures.step.list c.allocate_cluster.ensures.step.former ((c.allocate_cluster.ensures.sound p false now tt).listed) c.in-Err.refusal ((c.in-Err.ensures.sound p true now c.in_ok-l2_depends_on_rb.ensures.turns.order).takes));
      uses = tt;
      kept = let h = c.args.file.now.header.fields in
          elim ((c.in-Err.ensures.sound p true now c.in_ok-l2_depends_on_rb.ensures.turns.order).uses) [
            | inl kept ↦ inr (λ k used. kept k (subst (λ b. count h b k ≢ 0) (sym known) used))
            | inr broke ↦ inl broke.0
          ];
      within = inr (within_limit c.value-at.result c.args.cluster c.rb_bits.result (counts_per_block c.args.file.now.header.fields) c.value-at.ensures c.rb_bits.ensures.counts c.if-range.false);
      none = λ hint. tt;
      hint = λ hint. (c.in-Err.ensures.sound p true now c.in_ok-l2_depends_on_rb.ensures.turns.order).hint (hint_stays g.S.Storage.view p c.args.file.now file c.args.self.now c.args.self.now one (passed_still c.args.self.now) hint);
      limit = λ hint. let near : IsHostCluster c.args.file.now.header.fields.cluster_bits c.value.result = of_equal IsHostCluster c.args.file.now.header.fields.cluster_bits c.cluster_bits.result c.value.result c.args.cluster (sym c.cluster_bits.ensures.value) c.value.ensures (c.is_nameable.ensures.0 c.if-not-is_nameable.false) in
          subst (λ n. IsFaultOr (CantCount (IsUsed g.S.Storage.view c.allocate_cluster.new.file) c.allocate_cluster.new.file.header.fields (λ k. 0) c.allocate_cluster.new.self n) c.in-Err.refusal) c.value.ensures
          ((c.in-Err.ensures.sound p true now c.in_ok-l2_depends_on_rb.ensures.turns.order).limit (hint_stays g.S.Storage.view p c.args.file.now file c.args.self.now c.args.self.now one (passed_still c.args.self.now) hint) near);
    }

pub returns-in-Ok-true-clause-sound : goal.returns-in-Ok-true-clause-sound
returns-in-Ok-true-clause-sound g c = λ p sound.
    let one = allocator_step_cached g.S.Storage.view p c.args.file.now c.args.self.now c.l2_depends_on_rb.new.storage c.l2_depends_on_rb.new.self sound (c.l2_depends_on_rb.ensures.sound.keeps c.args.file.now.header.fields p sound.sound.honest sound.sound.caches) c.l2_depends_on_rb.ensures.step.marks.pins in
    let file : ImageFile g.row.S.Denot = record c.args.file.now { storage = c.l2_depends_on_rb.new.storage; caches = c.l2_depends_on_rb.new.self } in
    let now = is_sound_now g.S.Storage.view p p c.args.file.now file c.args.self.now one in
    let known = (c.l2_depends_on_rb.ensures.sound.keeps c.args.file.now.header.fields p sound.sound.honest sound.sound.caches).known in
    let two = rw c.in-Ok-true.field-0-test at ((c.in-Ok-true.ensures.sound p true now c.in_ok-l2_depends_on_rb.ensures.turns.order).takes) in
    record {
      takes = let taken = allocator_step_on g.S.Storage.view p p (taken_as true (pending_then p c.args.file.now.free_list c.allocate_cluster.new.file.free_list) (one_at c.value.result)) c.args.file.now file c.allocate_cluster.new.file c.args.self.now c.allocate_cluster.new.self (λ k some. some) (on_of g.S.Storage.view p p c.args.file.now file c.args.self.now one) two in (
        ap (λ (r : ClustersToFreeEntry). r.first_cluster) (c.in-Ok.ensures ∙ c.data-entry.ensures),
        ap (λ (r : ClustersToFreeEntry). r.count) (c.in-Ok.ensures ∙ c.data-entry.ensures) ∙ c.new.ensures,
        ap (λ (r : ClustersToFreeEntry). r.kind) (c.in-Ok.ensures ∙ c.data-entry.ensures),
        subst (λ (r : Pending). InternalAllocatorGrowth g.S.Storage.view p c.args.file.now c.allocate_cluster.new.self c.allocate_cluster.new.file r)
            (ap (λ n. taken_as true (pending_then p c.args.file.now.free_list c.allocate_cluster.new.file.free_list) (one_at n)) c.value.ensures ∙ taken_alone true (pending_then p c.args.file.now.free_list c.allocate_cluster.new.file.free_list) c.args.cluster) taken,
      );
      leaks = (c.allocate_cluster.ensures.sound p false now tt).leaks;
      listed = λ k since. subst (λ b. count c.args.file.now.header.fields b k ≢ 0) known ((c.allocate_cluster.ensures.sound p false now tt).listed k since);
      made = alone_since g.S.Storage.view c.args.file.now file refl known run_in (IsAllocatedMetadata c.args.file.now.header.fields c.args.self.now.reftable c.allocate_cluster.new.self.reftable) c.allocate_cluster.new.file (Ok (Some c.in-Ok.pending))
          (made_one g.S.Storage.view p file c.allocate_cluster.new.file c.args.self.now c.allocate_cluster.new.self now c.allocate_cluster.ensures.step.list c.allocate_cluster.ensures.step.former ((c.allocate_cluster.ensures.sound p false now tt).listed) true c.value.result c.args.cluster c.in-Ok.pending c.value.ensures (ap (λ (r : ClustersToFreeEntry). r.first_cluster) (c.in-Ok.ensures ∙ c.data-entry.ensures)) (ap (λ (r : ClustersToFreeEntry). r.count) (c.in-Ok.ensures ∙ c.data-entry.ensures) ∙ c.new.ensures) two);
      uses = λ k used. let h = c.args.file.now.header.fields in
          (c.in-Ok-true.ensures.sound p true now c.in_ok-l2_depends_on_rb.ensures.turns.order).uses k (subst (λ b. count h b k ≢ 0) (sym known) used);
      kept = tt;
      within = tt;
      none = λ hint is. absurd cc;
      hint = λ hint. (c.in-Ok-true.ensures.sound p true now c.in_ok-l2_depends_on_rb.ensures.turns.order).hint (hint_stays g.S.Storage.view p c.args.file.now file c.args.self.now c.args.self.now one (passed_still c.args.self.now) hint);
      limit = λ _. tt;
    }

use Rattle.std.proofs.Common.{◌≡◌, ◌+◌, ◌<◌, inl, inr, ℕ, Bool, IsTrue, refl, sym, ap, ◌∙◌, subst, arith, Err}
use Rattle.qcow2_alloc.proofs.Common.{cases_eq, cases_lt, StorageView, Pending, Allocator, ImageError, ImageFile, run_at, taken_as, InternalAllocatorGrowth, RefusedGrowth, GivesBackAs, SameLeaks, pending_then, ListsTables, IsHostCluster, CantCount, CantCountRun, NoFreeBelowHint, IsUsed, KeepsNoFreeBelowHint, KeepsUsedBut, HeaderView, AllocatorFails, TakenSoFar, AllocatesRunSoundly}
use Rattle.qcow2_alloc.specs.ImageFile.{IsFault}
use Rattle.qcow2_alloc.proofs.Lemmas.{handed_on, of_equal, may_still, on_none, is_sound_on, still_as, kept_then, not_broken, none_there, run_after, run_last, run_none, taken_none, cause_as, count_back, host_of_few, not_both, listed_after_same, more_taken, ends_taken, then_leaves, header_bits, still_taken, fails_ok, fails_on, fails_since, fails_still, fails_moved, fails_by_fault, step_as, step_none, step_on, step_then}
use Rattle.qcow2_alloc.proofs.allocation.Allocator.allocate_run.Goals.{then-not-is_fault+in_ok-give_back-in-Err, else-not-is_fault}
use Rattle.qcow2_alloc.proofs.allocation.Allocator.allocate_run.Goals as goal

-- none, where there aren't some
no_more : (n : ℕ) → ¬ (0 < n) → n ≡ 0
no_more n none = elim (cases_lt 0 n) [ inl some ↦ absurd (none some) | inr zero ↦ omega arith ]

-- a fault breaks off, or comes before anything was taken
ends_run : {S : Type 0} (view : S → StorageView) (d : Bool) (p : Pending) (from n : ℕ) (a b c : ImageFile S) (t t' : Allocator) (e : ImageError) (first : ListsTables a.free_list b.free_list) (then : ListsTables b.free_list c.free_list)
    → InternalAllocatorGrowth view p a t b (taken_as d (pending_then p a.free_list b.free_list) (run_at from n)) → (0 < n → IsTrue c.caches.is_changed) → IsFault e
    → RefusedGrowth view (taken_as d (pending_then p a.free_list b.free_list) (run_at from n)) b t' c (pending_then (taken_as d (pending_then p a.free_list b.free_list) (run_at from n)) b.free_list c.free_list) e
    → RefusedGrowth view p a t' c (pending_then p a.free_list c.free_list) e
ends_run view d p from n a b c t t' e first then before recorded fault leaves = elim (cases_lt 0 n) [
  | inl some ↦ inr (ends_taken view d p (run_at from n) a b c t t' first then e before fault (recorded some) _ leaves)
  | inr none ↦
      let same = taken_none d (pending_then p a.free_list b.free_list) from n (omega arith) in
      then_leaves view p a b c t t' first then (subst (λ (r : Pending). InternalAllocatorGrowth view p a t b r) same before) e (subst (λ (r : Pending). RefusedGrowth view r b t' c (pending_then r b.free_list c.free_list) e) same leaves)
]

-- what was taken is taken still, after a call that takes nothing
module _ {S : Type 0} (view : S → StorageView) (p : Pending) (d : Bool) (a b c : ImageFile S) (t0 t t' : Allocator) (first n : ℕ) where
  abbrev so_far : Pending
  so_far = taken_as d (pending_then p a.free_list b.free_list) (run_at first n)

  still_so_far : ListsTables a.free_list b.free_list → ListsTables b.free_list c.free_list → TakenSoFar view p d t0 a t b first n → InternalAllocatorGrowth view so_far b t' c (pending_then so_far b.free_list c.free_list)
      → SameLeaks t t' → ((k : ℕ) → IsUsed view b k → IsUsed view c k) → (NoFreeBelowHint view t b → NoFreeBelowHint view t' c) → TakenSoFar view p d t0 a t' c first n
  still_so_far lists then so step leaks uses hint = record {
    taken = still_taken view d p (run_at first n) a b c t t' lists then so.taken step;
    leaks = leaks ∙ so.leaks;
    uses = λ k used. uses k (so.uses k used);
    free = so.free;
    hint = λ h. hint (so.hint h);
  }

-- it is given back, but a fault came between
module _ {S : Type 0} (view : S → StorageView) (p : Pending) (d : Bool) (a b c : ImageFile S) (t0 t t' : Allocator) (first n m : ℕ) (e : ImageError) where
  given_back : TakenSoFar view p d t0 a t b first n → c.free_list ≡ b.free_list → GivesBackAs view p a t' c (pending_then p a.free_list b.free_list) (Err e) → SameLeaks t t'
      → KeepsUsedBut view {A = Unit {0}} (run_at first n) b c (Err e) → (NoFreeBelowHint view t b → KeepsNoFreeBelowHint view {A = Unit {0}} t' c (Err e)) → AllocatesRunSoundly view p d t0 a t' c first m (Err e)
  given_back so list gives leaks kept hint = record {
    takes = subst (λ (r : Pending). RefusedGrowth view p a t' c r e) (ap (pending_then p a.free_list) (sym list)) gives.1;
    leaks = leaks ∙ so.leaks;
    uses = kept_then view (run_at first n) a b c e (λ k used. no_more (run_at first n k) (λ some. so.free k some used)) so.uses kept;
    used = λ hint. tt;
    hint = λ h. hint (so.hint h);
    limit = λ h few. inl gives.0;
  }

pub taking-init : goal.taking-init
taking-init g c = record {
  step = step_none;
  faults = refl;
  recorded = λ some. absurd (omega (arith, some));
  sound = λ p d sound may. record {
    taken = subst (λ (r : Pending). InternalAllocatorGrowth g.S.Storage.view p c.args.file.now c.args.self.now c.args.file.now r)
        (sym (taken_none d (pending_then p c.args.file.now.free_list c.args.file.now.free_list) c.args.first 0 refl ∙ listed_after_same p c.args.file.now.free_list c.args.file.now.free_list refl)) (on_none g.S.Storage.view p c.args.file.now c.args.self.now sound);
    leaks = refl;
    uses = λ k used. used;
    free = λ k some used. let none = run_none c.args.first k in omega (arith, none, some);
    hint = λ hint. hint;
  };
}

pub taking-preserved : goal.taking-preserved
taking-preserved g c = record {
  step = step_then c.taking.invariant.step c.allocate_cluster.ensures.step;
  faults = c.in-Ok-true.ensures.fails.told ∙ c.taking.invariant.faults;
  recorded = λ _. rw c.in-Ok-true.field-0-test at c.in-Ok-true.ensures.recorded refl;
  sound = λ p d sound may.
      let view = g.S.Storage.view in
      let a = c.args.file.now in
      let b = c.taking.file in
      let file = c.allocate_cluster.new.file in
      let t = c.allocate_cluster.new.self in
      let first = c.args.first in
      let n = c.taking.taken in
      let so = c.taking.invariant.sound p d sound may in
      let q : Pending = taken_as d (pending_then p a.free_list b.free_list) (run_at first n) in
      let takes = c.in-Ok-true.ensures.sound q d (is_sound_on view p q a b c.taking.self so.taken) (may_still d a b c.taking.invariant.step.marks.order may) in
      record {
        taken = more_taken view d p (run_at first n) a b file c.taking.self t c.taking.invariant.step.list c.allocate_cluster.ensures.step.list first n refl so.taken (rw c.in-Ok-true.field-0-test at takes.takes);
        leaks = takes.leaks ∙ so.leaks;
        uses = λ k used. takes.uses k (so.uses k used);
        free = λ k some used. elim (cases_eq k (first + n)) [
          | inl same ↦ takes.free c.in-Ok-true.field-0-test (subst (λ m. IsUsed view b m) same (so.uses k used))
          | inr other ↦ so.free k (let last = run_last first n k in let none = none_there (first + n) k other in omega (arith, last, none, some)) used
        ];
        hint = λ hint. takes.hint (so.hint hint);
      };
}

pub returns-in_err-give_back-in-Ok-false-clause-step : goal.returns-in_err-give_back-in-Ok-false-clause-step
returns-in_err-give_back-in-Ok-false-clause-step g c = step_then (step_then c.taking.invariant.step c.allocate_cluster.ensures.step) (step_on c.give_back.ensures.step)

pub returns-in-Ok-false-clause-step : goal.returns-in-Ok-false-clause-step
returns-in-Ok-false-clause-step g c = step_then (step_then c.taking.invariant.step c.allocate_cluster.ensures.step) (step_on c.give_back.ensures.step)

pub returns-in_err-give_back-in-Err-clause-step : goal.returns-in_err-give_back-in-Err-clause-step
returns-in_err-give_back-in-Err-clause-step g c = step_then (step_then c.taking.invariant.step c.allocate_cluster.ensures.step) (step_on c.give_back-then-not-is_fault.ensures.step)

pub returns-in-Err-clause-step : goal.returns-in-Err-clause-step
returns-in-Err-clause-step g c = elim c.if-not-is_fault.branch [
  | then-not-is_fault+in_ok-give_back-in-Err w ↦ step_as (ap (λ (t : Allocator). t.reftable) w.self-is) w.file-is (step_then (step_then c.taking.invariant.step c.allocate_cluster.ensures.step) (step_on w.give_back-then-not-is_fault.ensures.step))
  | else-not-is_fault w ↦ step_as (ap (λ (t : Allocator). t.reftable) w.self-is) w.file-is (step_then c.taking.invariant.step c.allocate_cluster.ensures.step)
]

pub returns-in_err-give_back-in-Ok-false-clause-fails : goal.returns-in_err-give_back-in-Ok-false-clause-fails
returns-in_err-give_back-in-Ok-false-clause-fails g c = fails_on c.from_residual.result c.in_err-give_back-in-Ok-false.field-0.0 c.from_residual.ensures
    (fails_since (c.in-Ok-false.ensures.fails.told ∙ c.taking.invariant.faults) (fails_by_fault c.in_err-give_back-in-Ok-false.ensures.fails))

pub returns-in-Ok-false-clause-fails : goal.returns-in-Ok-false-clause-fails
returns-in-Ok-false-clause-fails g c = fails_ok (c.in_ok-give_back-in-Ok-false.ensures.fails.told ∙ (c.in-Ok-false.ensures.fails.told ∙ c.taking.invariant.faults))

pub returns-in_err-give_back-in-Err-clause-fails : goal.returns-in_err-give_back-in-Err-clause-fails
returns-in_err-give_back-in-Err-clause-fails g c = fails_on c.from_residual-in_err-give_back-in-Err.result c.in_err-give_back-in-Err.field-0.0 c.from_residual-in_err-give_back-in-Err.ensures
    (fails_since (c.in-Err.ensures.fails.told (λ is. not_both c.is_fault.result (c.is_fault.ensures.1 (inl is)) c.if-not-is_fault.true) ∙ c.taking.invariant.faults)
    (fails_by_fault c.in_err-give_back-in-Err.ensures.fails))

pub returns-in-Err-clause-fails : goal.returns-in-Err-clause-fails
returns-in-Err-clause-fails g c =
    let refused = fails_since c.taking.invariant.faults c.in-Err.ensures.fails in
    let Refused = λ (t : Allocator) (f : ImageFile g.row.S.Denot). AllocatorFails g.S.Storage.view {T = ℕ} c.args.file.now t.reftable f (Err c.in-Err.refusal) in
    elim c.if-not-is_fault.branch [
      | then-not-is_fault+in_ok-give_back-in-Err w ↦
          let back = w.give_back-then-not-is_fault.ensures in
          of_equal Refused c.if-not-is_fault.self w.give_back-then-not-is_fault.new.self c.if-not-is_fault.file w.give_back-then-not-is_fault.new.file w.self-is w.file-is
          (fails_moved (ap (λ (h : HeaderView). h.fields) back.step.header) back.reftable (fails_still refused w.in_ok-give_back-in-Err.ensures.fails.told))
      | else-not-is_fault w ↦ of_equal Refused c.if-not-is_fault.self c.allocate_cluster.new.self c.if-not-is_fault.file c.allocate_cluster.new.file w.self-is w.file-is refused
    ]

pub returns-clause-fails : goal.returns-clause-fails
returns-clause-fails g c = fails_ok c.taking.invariant.faults

pub returns-in_err-give_back-in-Ok-false-clause-sound : goal.returns-in_err-give_back-in-Ok-false-clause-sound
returns-in_err-give_back-in-Ok-false-clause-sound g c = λ p d sound may.
    let view = g.S.Storage.view in
    let a = c.args.file.now in
    let b = c.taking.file in
    let file = c.allocate_cluster.new.file in
    let t = c.allocate_cluster.new.self in
    let first = c.args.first in
    let n = c.taking.taken in
    let so = c.taking.invariant.sound p d sound may in
    let q : Pending = taken_as d (pending_then p a.free_list b.free_list) (run_at first n) in
    let takes = c.in-Ok-false.ensures.sound q d (is_sound_on view p q a b c.taking.self so.taken) (may_still d a b c.taking.invariant.step.marks.order may) in
    let r : Pending = pending_then p a.free_list file.free_list in
    let there = still_so_far view p d a b file c.args.self.now c.taking.self t first n c.taking.invariant.step.list c.allocate_cluster.ensures.step.list so (rw c.in-Ok-false.field-0-test at takes.takes) takes.leaks takes.uses takes.hint in
    let now = is_sound_on view p (taken_as d r (run_at first n)) a file t there.taken in
    let recorded : 0 < n → IsTrue file.caches.is_changed = λ some. c.allocate_cluster.ensures.step.marks.pins.changes.recorded (c.taking.invariant.recorded some) in
    let back = c.in_err-give_back-in-Ok-false.ensures in
    let e = c.in_err-give_back-in-Ok-false.field-0.0 in
    handed_on (AllocatesRunSoundly view p d c.args.self.now a c.give_back.new.self c.give_back.new.file first c.args.n) c.from_residual.result e c.from_residual.ensures
    (given_back view p d a file c.give_back.new.file c.args.self.now t c.give_back.new.self first n c.args.n e there c.give_back.ensures.step.list
    (back.sound p r d a (λ k some. some) there.taken recorded) (back.leaks r d now) (back.kept r d now) (back.hint r d now))

pub returns-in-Ok-false-clause-sound : goal.returns-in-Ok-false-clause-sound
returns-in-Ok-false-clause-sound g c = λ p d sound may.
    let view = g.S.Storage.view in
    let a = c.args.file.now in
    let b = c.taking.file in
    let file = c.allocate_cluster.new.file in
    let t = c.allocate_cluster.new.self in
    let first = c.args.first in
    let n = c.taking.taken in
    let so = c.taking.invariant.sound p d sound may in
    let q : Pending = taken_as d (pending_then p a.free_list b.free_list) (run_at first n) in
    let takes = c.in-Ok-false.ensures.sound q d (is_sound_on view p q a b c.taking.self so.taken) (may_still d a b c.taking.invariant.step.marks.order may) in
    let r : Pending = pending_then p a.free_list file.free_list in
    let there = still_so_far view p d a b file c.args.self.now c.taking.self t first n c.taking.invariant.step.list c.allocate_cluster.ensures.step.list so (rw c.in-Ok-false.field-0-test at takes.takes) takes.leaks takes.uses takes.hint in
    let now = is_sound_on view p (taken_as d r (run_at first n)) a file t there.taken in
    let recorded : 0 < n → IsTrue file.caches.is_changed = λ some. c.allocate_cluster.ensures.step.marks.pins.changes.recorded (c.taking.invariant.recorded some) in
    let back = c.in_ok-give_back-in-Ok-false.ensures in
    record {
      takes = (
        (λ all. absurd (let lt = c.taking-test.true in omega arith)),
        (λ _. subst (λ (r : Pending). InternalAllocatorGrowth view p a c.give_back.new.self c.give_back.new.file r) (ap (pending_then p a.free_list) (sym c.give_back.ensures.step.list)) (back.sound p r d a (λ k some. some) there.taken recorded)),
      );
      leaks = back.leaks r d now ∙ there.leaks;
      uses = λ k used. back.kept r d now k (no_more (run_at first n k) (λ some. so.free k some used)) (there.uses k used);
      used = λ hint _. back.kept r d now (first + n) (run_after first n (first + n) (omega arith)) (takes.used (so.hint hint) c.in-Ok-false.field-0-test);
      hint = λ hint. back.hint r d now (there.hint hint);
      limit = λ hint few. tt;
    }

pub returns-in_err-give_back-in-Err-clause-sound : goal.returns-in_err-give_back-in-Err-clause-sound
returns-in_err-give_back-in-Err-clause-sound g c = λ p d sound may.
    let view = g.S.Storage.view in
    let a = c.args.file.now in
    let b = c.taking.file in
    let file = c.allocate_cluster.new.file in
    let t = c.allocate_cluster.new.self in
    let first = c.args.first in
    let n = c.taking.taken in
    let so = c.taking.invariant.sound p d sound may in
    let q : Pending = taken_as d (pending_then p a.free_list b.free_list) (run_at first n) in
    let takes = c.in-Err.ensures.sound q d (is_sound_on view p q a b c.taking.self so.taken) (may_still d a b c.taking.invariant.step.marks.order may) in
    let no_fault : IsFault c.in-Err.refusal → ⊥ = λ fault. not_both c.is_fault.result (c.is_fault.ensures.1 fault) c.if-not-is_fault.true in
    let r : Pending = pending_then p a.free_list file.free_list in
    let there = still_so_far view p d a b file c.args.self.now c.taking.self t first n c.taking.invariant.step.list c.allocate_cluster.ensures.step.list so (still_as view q (pending_then q b.free_list file.free_list) b file t c.in-Err.refusal no_fault takes.takes) takes.leaks (not_broken file c.in-Err.refusal no_fault takes.uses) (λ h. not_broken file c.in-Err.refusal no_fault (takes.hint h)) in
    let now = is_sound_on view p (taken_as d r (run_at first n)) a file t there.taken in
    let recorded : 0 < n → IsTrue file.caches.is_changed = λ some. c.allocate_cluster.ensures.step.marks.pins.changes.recorded (c.taking.invariant.recorded some) in
    let back = c.in_err-give_back-in-Err.ensures in
    let e = c.in_err-give_back-in-Err.field-0.0 in
    handed_on (AllocatesRunSoundly view p d c.args.self.now a c.give_back-then-not-is_fault.new.self c.give_back-then-not-is_fault.new.file first c.args.n) c.from_residual-in_err-give_back-in-Err.result e c.from_residual-in_err-give_back-in-Err.ensures
    (given_back view p d a file c.give_back-then-not-is_fault.new.file c.args.self.now t c.give_back-then-not-is_fault.new.self first n c.args.n e there c.give_back-then-not-is_fault.ensures.step.list
    (back.sound p r d a (λ k some. some) there.taken recorded) (back.leaks r d now) (back.kept r d now) (back.hint r d now))

pub returns-in-Err-clause-sound : goal.returns-in-Err-clause-sound
returns-in-Err-clause-sound g c = λ p d sound may.
    let view = g.S.Storage.view in
    let a = c.args.file.now in
    let b = c.taking.file in
    let file = c.allocate_cluster.new.file in
    let t = c.allocate_cluster.new.self in
    let first = c.args.first in
    let n = c.taking.taken in
    let so = c.taking.invariant.sound p d sound may in
    let q : Pending = taken_as d (pending_then p a.free_list b.free_list) (run_at first n) in
    let takes = c.in-Err.ensures.sound q d (is_sound_on view p q a b c.taking.self so.taken) (may_still d a b c.taking.invariant.step.marks.order may) in
    elim c.if-not-is_fault.branch [
      | then-not-is_fault+in_ok-give_back-in-Err w ↦
          let no_fault : IsFault c.in-Err.refusal → ⊥ = λ fault. not_both c.is_fault.result (c.is_fault.ensures.1 fault) w.if-not-is_fault.true in
          let r : Pending = pending_then p a.free_list file.free_list in
          let there = still_so_far view p d a b file c.args.self.now c.taking.self t first n c.taking.invariant.step.list c.allocate_cluster.ensures.step.list so (still_as view q (pending_then q b.free_list file.free_list) b file t c.in-Err.refusal no_fault takes.takes) takes.leaks (not_broken file c.in-Err.refusal no_fault takes.uses) (λ h. not_broken file c.in-Err.refusal no_fault (takes.hint h)) in
          let now = is_sound_on view p (taken_as d r (run_at first n)) a file t there.taken in
          let recorded : 0 < n → IsTrue file.caches.is_changed = λ some. c.allocate_cluster.ensures.step.marks.pins.changes.recorded (c.taking.invariant.recorded some) in
          let back = w.in_ok-give_back-in-Err.ensures in
          let left = w.give_back-then-not-is_fault.new.file in
          let t' = w.give_back-then-not-is_fault.new.self in
          of_equal (λ x f. AllocatesRunSoundly view p d c.args.self.now a x f first c.args.n (Err c.in-Err.refusal)) c.if-not-is_fault.self t' c.if-not-is_fault.file left w.self-is w.file-is (record {
            takes = inl (subst (λ (r : Pending). InternalAllocatorGrowth view p a t' left r) (ap (pending_then p a.free_list) (sym w.give_back-then-not-is_fault.ensures.step.list)) (back.sound p r d a (λ k some. some) there.taken recorded));
            leaks = back.leaks r d now ∙ there.leaks;
            uses = inl (λ k used. back.kept r d now k (no_more (run_at first n k) (λ some. so.free k some used)) (there.uses k used));
            used = λ hint. tt;
            hint = λ hint. inl (back.hint r d now (there.hint hint));
            limit = λ hint near.
                let lt = c.taking-test.true in
                let here = subst (λ m. IsHostCluster m (first + n)) (sym (header_bits a.header b.header c.taking.invariant.step.header)) (host_of_few a.header.fields (first + n) (omega (arith, lt, near))) in
                cause_as (CantCount (IsUsed view file) file.header.fields (λ k. 0) t (first + n)) (CantCountRun (IsUsed view left) left.header.fields t' first c.args.n) c.in-Err.refusal
                (λ not. (n, lt, count_back view file left t t' first n (first + n) w.give_back-then-not-is_fault.ensures.step.header w.give_back-then-not-is_fault.ensures.reftable (back.kept r d now) not)) (takes.limit (so.hint hint) here);
          })
      | else-not-is_fault w ↦
          let recorded : 0 < n → IsTrue file.caches.is_changed = λ some. c.allocate_cluster.ensures.step.marks.pins.changes.recorded (c.taking.invariant.recorded some) in
          of_equal (λ x f. AllocatesRunSoundly view p d c.args.self.now a x f first c.args.n (Err c.in-Err.refusal)) c.if-not-is_fault.self t c.if-not-is_fault.file file w.self-is w.file-is (record {
            takes = ends_run view d p first n a b file c.taking.self t c.in-Err.refusal c.taking.invariant.step.list c.allocate_cluster.ensures.step.list so.taken recorded (c.is_fault.ensures.0 w.if-not-is_fault.false) takes.takes;
            leaks = takes.leaks ∙ so.leaks;
            uses = elim takes.uses [ inl kept ↦ inl (λ k used. kept k (so.uses k used)) | inr interruption ↦ inr interruption ];
            used = λ hint. tt;
            hint = λ hint. takes.hint (so.hint hint);
            limit = λ hint near. inl (c.is_fault.ensures.0 w.if-not-is_fault.false);
          })
    ]

pub returns-clause-sound : goal.returns-clause-sound
returns-clause-sound g c = λ p d sound may.
    let so = c.taking.invariant.sound p d sound may in
    let all : c.taking.taken ≡ c.args.n = let le = c.taking.auto.taken-end in let past = c.taking-test.false in omega arith in
    record {
      takes = (
        (λ _. subst (λ n. InternalAllocatorGrowth g.S.Storage.view p c.args.file.now c.taking.self c.taking.file (taken_as d (pending_then p c.args.file.now.free_list c.taking.file.free_list) (run_at c.args.first n))) all so.taken),
        (λ other. absurd (other refl)),
      );
      leaks = so.leaks;
      uses = so.uses;
      used = λ hint other. absurd (other refl);
      hint = so.hint;
      limit = λ hint few. tt;
    }

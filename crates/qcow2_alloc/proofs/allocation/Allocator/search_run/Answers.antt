use Rattle.std.proofs.Common.{◌+◌, ◌/◌, ◌^◌, ◌≤◌, ◌<◌, inl, false, refl, sym, ap, ◌∙◌, subst, arith, inr, Result, ℕ, IfErr}
use Rattle.qcow2_alloc.proofs.Common.{greatest_offset, div-le_self, Pending, KeepsNoFreeBelowHint, IsUsed, Allocator, run_at, InternalAllocatorGrowth, AllocatesSomeRun, RefusedGrowth, pending_then, ImageError, IsFaultOr, HasNoPlace, nameable_clusters}
use Rattle.qcow2_alloc.proofs.Lemmas.{hint_header, lowest_behind, lowest_first, lowest_passed, lowest_stays, not_broken, used_stays, handed_on, may_still, on_none, on_of, leaves_as, is_sound_on, lists_same, lists_then, listed_after_same, then_none, then_taken, then_leaves, header_bits, full_behind, limit_is_no_fault, on_no_ok, if_no_ok, fails_by, fails_ok, fails_on, fails_since, limit_other, step_none, step_on, step_then}
use Rattle.qcow2_alloc.proofs.allocation.Allocator.search_run.Goals.{then-search-test+then-n-limit+else-first-limit, then-search-test+else-n-limit, else-search-test}
use Rattle.qcow2_alloc.specs.declared.error.ImageError.TheVariants as I
use Rattle.qcow2_alloc.proofs.allocation.Allocator.search_run.Goals as goal

pub search-init : goal.search-init
search-init g c = record {
  limit = ap (λ n. greatest_offset / 2 ^ n + 1) c.cluster_bits.ensures.value;
  near = let le = div-le_self greatest_offset (2 ^ c.cluster_bits.result) in omega (arith, le);
  faults = refl;
  step = step_none;
  sound = λ p sound.
      subst (λ (r : Pending). InternalAllocatorGrowth g.S.Storage.view p c.args.file.now (record c.args.self.now { first_free_cluster = c.max-self.result }) c.args.file.now r) (sym (listed_after_same p c.args.file.now.free_list c.args.file.now.free_list refl))
      (on_none g.S.Storage.view p c.args.file.now (record c.args.self.now { first_free_cluster = c.max-self.result }) (record { sound = sound.sound; reftable = sound.reftable }));
  above = let first = c.max-self.ensures in omega (arith, first);
  behind = let first = c.max-self.ensures in omega (arith, first);
  leaks = λ p sound. refl;
  hint = λ p d sound may hint. hint_header g.S.Storage.view p c.args.file.now c.args.self.now c.max-self.result sound.sound (λ k some below. let first = c.max-self.ensures in omega (arith, first, some, below)) hint;
  lowest = λ p d sound may hint some.
      let begin : Allocator = record c.args.self.now { first_free_cluster = c.max-self.result } in
      lowest_first g.S.Storage.view c.args.file.now begin c.args.n (hint_header g.S.Storage.view p c.args.file.now c.args.self.now c.max-self.result sound.sound (λ k some below. let first = c.max-self.ensures in omega (arith, first, some, below)) hint) some;
  uses = λ p d sound may k used. used;
}

pub search-preserved : goal.search-preserved
search-preserved g c = record {
  limit = c.search.invariant.limit;
  near = c.search.invariant.near;
  above = let behind = c.in_ok-first.ensures.behind in omega (arith, behind);
  behind = let so_far = c.search.invariant.behind in let behind = c.in_ok-first.ensures.behind in omega (arith, so_far, behind);
  faults = c.in_ok-first.ensures.fails.told ∙ (c.in_ok-taken.ensures.fails.told ∙ c.search.invariant.faults);
  step = step_then (step_then c.search.invariant.step c.try_run.ensures.step) (step_on c.next_free_from.ensures.step);
  sound = λ p sound.
      let before = c.search.invariant.sound p sound in
      let q : Pending = pending_then p c.args.file.now.free_list c.search.file.free_list in
      let now = is_sound_on g.S.Storage.view p q c.args.file.now c.search.file c.search.self before in
      let lists = lists_then c.args.file.now.free_list c.search.file.free_list c.try_run.new.file.free_list c.search.invariant.step.list c.try_run.ensures.step.list in
      let mid = then_none g.S.Storage.view p c.args.file.now c.search.file c.try_run.new.file c.search.self c.try_run.new.self c.search.invariant.step.list c.try_run.ensures.step.list before (((c.in_ok-taken.ensures.sound q false now tt).takes).1 c.if-taken-n.false) in
      let r : Pending = pending_then p c.args.file.now.free_list c.try_run.new.file.free_list in
      let there = is_sound_on g.S.Storage.view p r c.args.file.now c.try_run.new.file c.try_run.new.self mid in
      then_none g.S.Storage.view p c.args.file.now c.try_run.new.file c.next_free_from.new.file c.try_run.new.self c.next_free_from.new.self lists (lists_same c.try_run.new.file.free_list c.next_free_from.new.file.free_list c.next_free_from.ensures.step.list) mid
      (subst (λ (s : Pending). InternalAllocatorGrowth g.S.Storage.view r c.try_run.new.file c.next_free_from.new.self c.next_free_from.new.file s) (sym (listed_after_same r c.try_run.new.file.free_list c.next_free_from.new.file.free_list c.next_free_from.ensures.step.list))
      (on_of g.S.Storage.view r r c.try_run.new.file c.next_free_from.new.file c.next_free_from.new.self (c.in_ok-first.ensures.sound r there).0));
  leaks = λ p sound.
      let q : Pending = pending_then p c.args.file.now.free_list c.search.file.free_list in
      let now = is_sound_on g.S.Storage.view p q c.args.file.now c.search.file c.search.self (c.search.invariant.sound p sound) in
      ap (λ (t : Allocator). t.leaked_clusters) c.next_free_from.ensures.moves.rest ∙ (c.try_run.ensures.sound q false now tt).leaks ∙ c.search.invariant.leaks p sound;
  hint = λ p d sound may hint.
      let before = c.search.invariant.sound p sound in
      let q : Pending = pending_then p c.args.file.now.free_list c.search.file.free_list in
      let now = is_sound_on g.S.Storage.view p q c.args.file.now c.search.file c.search.self before in
      let lists = lists_then c.args.file.now.free_list c.search.file.free_list c.try_run.new.file.free_list c.search.invariant.step.list c.try_run.ensures.step.list in
      let mid = then_none g.S.Storage.view p c.args.file.now c.search.file c.try_run.new.file c.search.self c.try_run.new.self c.search.invariant.step.list c.try_run.ensures.step.list before (((c.in_ok-taken.ensures.sound q false now tt).takes).1 c.if-taken-n.false) in
      let r : Pending = pending_then p c.args.file.now.free_list c.try_run.new.file.free_list in
      let there = is_sound_on g.S.Storage.view p r c.args.file.now c.try_run.new.file c.try_run.new.self mid in
      let may_now = may_still d c.args.file.now c.search.file c.search.invariant.step.marks.order may in
      c.in_ok-first.ensures.hint r there ((c.in_ok-taken.ensures.sound q d now may_now).hint (c.search.invariant.hint p d sound may hint));
  lowest = λ p d sound may hint some.
      let before = c.search.invariant.sound p sound in
      let q : Pending = pending_then p c.args.file.now.free_list c.search.file.free_list in
      let now = is_sound_on g.S.Storage.view p q c.args.file.now c.search.file c.search.self before in
      let lists = lists_then c.args.file.now.free_list c.search.file.free_list c.try_run.new.file.free_list c.search.invariant.step.list c.try_run.ensures.step.list in
      let mid = then_none g.S.Storage.view p c.args.file.now c.search.file c.try_run.new.file c.search.self c.try_run.new.self c.search.invariant.step.list c.try_run.ensures.step.list before (((c.in_ok-taken.ensures.sound q false now tt).takes).1 c.if-taken-n.false) in
      let r : Pending = pending_then p c.args.file.now.free_list c.try_run.new.file.free_list in
      let there = is_sound_on g.S.Storage.view p r c.args.file.now c.try_run.new.file c.try_run.new.self mid in
      let may_now = may_still d c.args.file.now c.search.file c.search.invariant.step.marks.order may in
      let passed = c.in_ok-first.ensures.sound r there in
      lowest_passed g.S.Storage.view c.next_free_from.new.file (c.search.first + (c.in_ok-taken.taken + 1)) c.in_ok-first.first c.args.n (let behind = c.in_ok-first.ensures.behind in omega (arith, behind)) some (λ k low high. passed.1 ((c.in_ok-taken.ensures.sound q d now may_now).hint (c.search.invariant.hint p d sound may hint)) k (omega (arith, low)) high)
      (lowest_stays g.S.Storage.view c.try_run.new.file c.next_free_from.new.file (c.search.first + (c.in_ok-taken.taken + 1)) c.args.n (λ k used. used_stays g.S.Storage.view r r c.try_run.new.file c.next_free_from.new.file c.next_free_from.new.self k passed.0 (omega arith) used)
      (lowest_behind g.S.Storage.view c.try_run.new.file c.search.first c.args.n c.in_ok-taken.taken c.in_ok-taken.ensures.within c.if-taken-n.false ((c.in_ok-taken.ensures.sound q d now may_now).used (c.search.invariant.hint p d sound may hint) c.if-taken-n.false)
      (lowest_stays g.S.Storage.view c.search.file c.try_run.new.file c.search.first c.args.n ((c.in_ok-taken.ensures.sound q d now may_now).uses) (c.search.invariant.lowest p d sound may hint some))));
  uses = λ p d sound may k used.
      let before = c.search.invariant.sound p sound in
      let q : Pending = pending_then p c.args.file.now.free_list c.search.file.free_list in
      let now = is_sound_on g.S.Storage.view p q c.args.file.now c.search.file c.search.self before in
      let mid = then_none g.S.Storage.view p c.args.file.now c.search.file c.try_run.new.file c.search.self c.try_run.new.self c.search.invariant.step.list c.try_run.ensures.step.list before (((c.in_ok-taken.ensures.sound q false now tt).takes).1 c.if-taken-n.false) in
      let r : Pending = pending_then p c.args.file.now.free_list c.try_run.new.file.free_list in
      let there = is_sound_on g.S.Storage.view p r c.args.file.now c.try_run.new.file c.try_run.new.self mid in
      used_stays g.S.Storage.view r r c.try_run.new.file c.next_free_from.new.file c.next_free_from.new.self k (c.in_ok-first.ensures.sound r there).0 (omega arith)
      ((c.in_ok-taken.ensures.sound q d now (may_still d c.args.file.now c.search.file c.search.invariant.step.marks.order may)).uses k (c.search.invariant.uses p d sound may k used));
}

pub returns-in_err-first-clause-step : goal.returns-in_err-first-clause-step
returns-in_err-first-clause-step g c = step_then (step_then c.search.invariant.step c.try_run.ensures.step) (step_on c.next_free_from.ensures.step)

pub returns-in_err-first-clause-fails : goal.returns-in_err-first-clause-fails
returns-in_err-first-clause-fails g c = fails_on c.from_residual-in_err-first.result c.in_err-first.field-0.0 c.from_residual-in_err-first.ensures (fails_since (c.in_ok-taken.ensures.fails.told ∙ c.search.invariant.faults) c.in_err-first.ensures.fails)

pub returns-in_err-first-clause-sound : goal.returns-in_err-first-clause-sound
returns-in_err-first-clause-sound g c = λ p d sound may.
    let before = c.search.invariant.sound p sound in
    let q : Pending = pending_then p c.args.file.now.free_list c.search.file.free_list in
    let now = is_sound_on g.S.Storage.view p q c.args.file.now c.search.file c.search.self before in
    let lists = lists_then c.args.file.now.free_list c.search.file.free_list c.try_run.new.file.free_list c.search.invariant.step.list c.try_run.ensures.step.list in
    let mid = then_none g.S.Storage.view p c.args.file.now c.search.file c.try_run.new.file c.search.self c.try_run.new.self c.search.invariant.step.list c.try_run.ensures.step.list before (((c.in_ok-taken.ensures.sound q false now tt).takes).1 c.if-taken-n.false) in
    let r : Pending = pending_then p c.args.file.now.free_list c.try_run.new.file.free_list in
    let there = is_sound_on g.S.Storage.view p r c.args.file.now c.try_run.new.file c.try_run.new.self mid in
    record {
      takes = handed_on (AllocatesSomeRun g.S.Storage.view p c.args.file.now c.next_free_from.new.self c.next_free_from.new.file (pending_then p c.args.file.now.free_list c.next_free_from.new.file.free_list) d c.args.n) c.from_residual-in_err-first.result c.in_err-first.field-0.0 c.from_residual-in_err-first.ensures
          (then_leaves g.S.Storage.view p c.args.file.now c.try_run.new.file c.next_free_from.new.file c.try_run.new.self c.next_free_from.new.self lists (lists_same c.try_run.new.file.free_list c.next_free_from.new.file.free_list c.next_free_from.ensures.step.list) mid c.in_err-first.field-0.0
          (subst (λ (s : Pending). RefusedGrowth g.S.Storage.view r c.try_run.new.file c.next_free_from.new.self c.next_free_from.new.file s c.in_err-first.field-0.0) (sym (listed_after_same r c.try_run.new.file.free_list c.next_free_from.new.file.free_list c.next_free_from.ensures.step.list))
          (leaves_as g.S.Storage.view r c.try_run.new.file c.next_free_from.new.file c.next_free_from.new.self c.in_err-first.field-0.0 (c.in_err-first.ensures.sound r there).1)));
      uses = on_no_ok _ c.from_residual-in_err-first.result c.in_err-first.field-0.0 c.from_residual-in_err-first.ensures;
      hint = λ hint. let may_now = may_still d c.args.file.now c.search.file c.search.invariant.step.marks.order may in
          handed_on (KeepsNoFreeBelowHint g.S.Storage.view c.next_free_from.new.self c.next_free_from.new.file) c.from_residual-in_err-first.result c.in_err-first.field-0.0 c.from_residual-in_err-first.ensures
          (c.in_err-first.ensures.hint r there ((c.in_ok-taken.ensures.sound q d now may_now).hint (c.search.invariant.hint p d sound may hint)));
      lowest = λ _. if_no_ok _ c.from_residual-in_err-first.result c.in_err-first.field-0.0 c.from_residual-in_err-first.ensures;
      limit = λ hint some. handed_on (λ (x : Result ℕ ImageError). IfErr x (IsFaultOr (HasNoPlace (IsUsed g.S.Storage.view c.next_free_from.new.file) c.next_free_from.new.file.header.fields c.next_free_from.new.self c.args.n))) c.from_residual-in_err-first.result c.in_err-first.field-0.0 c.from_residual-in_err-first.ensures
          (inl (c.in_err-first.ensures.sound r there).0);
    }

pub returns-then-taken-n-clause-sound : goal.returns-then-taken-n-clause-sound
returns-then-taken-n-clause-sound g c = λ p d sound may.
    let before = c.search.invariant.sound p sound in
    let q : Pending = pending_then p c.args.file.now.free_list c.search.file.free_list in
    let now = is_sound_on g.S.Storage.view p q c.args.file.now c.search.file c.search.self before in
    let may_now = may_still d c.args.file.now c.search.file c.search.invariant.step.marks.order may in
    record {
      takes = then_taken g.S.Storage.view p c.args.file.now c.search.file c.try_run.new.file c.search.self c.try_run.new.self c.search.invariant.step.list c.try_run.ensures.step.list before d (run_at c.search.first c.args.n)
          (((c.in_ok-taken.ensures.sound q d now may_now).takes).0 c.if-taken-n.true);
      uses = λ k used. (c.in_ok-taken.ensures.sound q d now may_now).uses k (c.search.invariant.uses p d sound may k used);
      hint = λ hint. (c.in_ok-taken.ensures.sound q d now may_now).hint (c.search.invariant.hint p d sound may hint);
      lowest = λ hint. lowest_stays g.S.Storage.view c.search.file c.try_run.new.file c.search.first c.args.n ((c.in_ok-taken.ensures.sound q d now may_now).uses) (c.search.invariant.lowest p d sound may hint c.search-test.true);
      limit = λ _ _. tt;
    }

pub returns-in_err-taken-clause-step : goal.returns-in_err-taken-clause-step
returns-in_err-taken-clause-step g c = step_then c.search.invariant.step c.try_run.ensures.step

pub returns-in_err-taken-clause-fails : goal.returns-in_err-taken-clause-fails
returns-in_err-taken-clause-fails g c = fails_on c.from_residual.result c.in_err-taken.field-0.0 c.from_residual.ensures (fails_since c.search.invariant.faults c.in_err-taken.ensures.fails)

pub returns-then-taken-n-clause-step : goal.returns-then-taken-n-clause-step
returns-then-taken-n-clause-step g c = step_then c.search.invariant.step c.try_run.ensures.step

pub returns-then-taken-n-clause-fails : goal.returns-then-taken-n-clause-fails
returns-then-taken-n-clause-fails g c = fails_ok (c.in_ok-taken.ensures.fails.told ∙ c.search.invariant.faults)

pub returns-clause-sound : goal.returns-clause-sound
returns-clause-sound g c = λ p d sound may.
    record {
      takes = inl (c.search.invariant.sound p sound);
      uses = tt;
      hint = λ hint. inl (c.search.invariant.hint p d sound may hint);
      lowest = λ _. tt;
      limit = λ hint some. let limit = c.search.invariant.limit ∙ ap (λ n. greatest_offset / 2 ^ n + 1) (sym (header_bits c.args.file.now.header c.search.file.header c.search.invariant.step.header)) in
          let past : c.args.n ≤ greatest_offset / 2 ^ c.cluster_bits.result + 1 → greatest_offset / 2 ^ c.cluster_bits.result + 1 < c.search.first + c.args.n = λ few. elim c.search-test.branch [
            | then-search-test+then-n-limit+else-first-limit w ↦ let past = w.if-first-limit.false in omega (arith, few, past)
            | then-search-test+else-n-limit w ↦ let many = w.if-n-limit.false in omega (arith, few, many)
            | else-search-test w ↦ let none = w.search-test.false in omega (arith, some, none)
          ] in
          inr (refl, inl (full_behind g.S.Storage.view c.search.file c.search.first c.args.n (greatest_offset / 2 ^ c.cluster_bits.result + 1) limit past (c.search.invariant.lowest p d sound may hint some)));
    }

pub returns-in_err-taken-clause-sound : goal.returns-in_err-taken-clause-sound
returns-in_err-taken-clause-sound g c = λ p d sound may.
    let before = c.search.invariant.sound p sound in
    let q : Pending = pending_then p c.args.file.now.free_list c.search.file.free_list in
    let now = is_sound_on g.S.Storage.view p q c.args.file.now c.search.file c.search.self before in
    let may_now = may_still d c.args.file.now c.search.file c.search.invariant.step.marks.order may in
    record {
      takes = handed_on (AllocatesSomeRun g.S.Storage.view p c.args.file.now c.try_run.new.self c.try_run.new.file (pending_then p c.args.file.now.free_list c.try_run.new.file.free_list) d c.args.n) c.from_residual.result c.in_err-taken.field-0.0 c.from_residual.ensures
          (then_leaves g.S.Storage.view p c.args.file.now c.search.file c.try_run.new.file c.search.self c.try_run.new.self c.search.invariant.step.list c.try_run.ensures.step.list before c.in_err-taken.field-0.0 ((c.in_err-taken.ensures.sound q d now may_now).takes));
      uses = on_no_ok _ c.from_residual.result c.in_err-taken.field-0.0 c.from_residual.ensures;
      hint = λ hint. handed_on (KeepsNoFreeBelowHint g.S.Storage.view c.try_run.new.self c.try_run.new.file) c.from_residual.result c.in_err-taken.field-0.0 c.from_residual.ensures ((c.in_err-taken.ensures.sound q d now may_now).hint (c.search.invariant.hint p d sound may hint));
      lowest = λ _. if_no_ok _ c.from_residual.result c.in_err-taken.field-0.0 c.from_residual.ensures;
      limit = λ hint some. let bits = header_bits c.args.file.now.header c.search.file.header c.search.invariant.step.header in
          let within : c.search.first + c.args.n ≤ nameable_clusters c.search.file.header.fields =
          let few = c.if-n-limit.true in let below = c.if-first-limit.true in let limit = c.search.invariant.limit in let now = ap (λ n. greatest_offset / 2 ^ n + 1) bits in omega (arith, few, below, limit, now) in
          let after = header_bits c.search.file.header c.try_run.new.file.header c.try_run.ensures.step.header in
          let same = ap (λ n. greatest_offset / 2 ^ n + 1) after in
          handed_on (λ (r : Result ℕ ImageError). IfErr r (IsFaultOr (HasNoPlace (IsUsed g.S.Storage.view c.try_run.new.file) c.try_run.new.file.header.fields c.try_run.new.self c.args.n))) c.from_residual.result c.in_err-taken.field-0.0 c.from_residual.ensures
          (elim ((c.in_err-taken.ensures.sound q d now may_now).limit (c.search.invariant.hint p d sound may hint) within) [
            | inl fault ↦ inl fault
            | inr why ↦
                let uses = not_broken c.try_run.new.file c.in_err-taken.field-0.0 (limit_is_no_fault c.in_err-taken.field-0.0 why.0) ((c.in_err-taken.ensures.sound q d now may_now).uses) in
                let lowest = lowest_stays g.S.Storage.view c.search.file c.try_run.new.file c.search.first c.args.n uses (c.search.invariant.lowest p d sound may hint some) in
                inr (why.0, inr (c.search.first, omega (arith, within, same), lowest, why.1))
          ]);
    }

pub returns-clause-fails : goal.returns-clause-fails
returns-clause-fails g c = fails_by I.Limit limit_other c.search.invariant.faults tt

pub returns-in_err-taken-clause-leaks : goal.returns-in_err-taken-clause-leaks
returns-in_err-taken-clause-leaks g c = λ p sound.
    let q : Pending = pending_then p c.args.file.now.free_list c.search.file.free_list in
    let now = is_sound_on g.S.Storage.view p q c.args.file.now c.search.file c.search.self (c.search.invariant.sound p sound) in
    (c.try_run.ensures.sound q false now tt).leaks ∙ c.search.invariant.leaks p sound

pub returns-then-taken-n-clause-leaks : goal.returns-then-taken-n-clause-leaks
returns-then-taken-n-clause-leaks g c = λ p sound.
    let q : Pending = pending_then p c.args.file.now.free_list c.search.file.free_list in
    let now = is_sound_on g.S.Storage.view p q c.args.file.now c.search.file c.search.self (c.search.invariant.sound p sound) in
    (c.try_run.ensures.sound q false now tt).leaks ∙ c.search.invariant.leaks p sound

pub returns-in_err-first-clause-leaks : goal.returns-in_err-first-clause-leaks
returns-in_err-first-clause-leaks g c = λ p sound.
    let q : Pending = pending_then p c.args.file.now.free_list c.search.file.free_list in
    let now = is_sound_on g.S.Storage.view p q c.args.file.now c.search.file c.search.self (c.search.invariant.sound p sound) in
    ap (λ (t : Allocator). t.leaked_clusters) c.next_free_from.ensures.moves.rest ∙ (c.try_run.ensures.sound q false now tt).leaks ∙ c.search.invariant.leaks p sound

-- ---- where the refblock of the first cluster can't be had: no run is taken

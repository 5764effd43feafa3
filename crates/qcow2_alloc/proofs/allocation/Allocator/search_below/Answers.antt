use Rattle.std.proofs.Common.{◌+◌, ◌*◌, ◌^◌, ◌≤◌, ◌<◌, ◌/◌, ◌≡◌, ◌≢◌, ℕ, ap, arith, false, refl, sym, ◌∙◌, subst}
use Rattle.qcow2_alloc.proofs.Common.{counts_per_block, one_at, taken_as, KeepsEntries, AllocatesLowest, Allocator, KeepsNoFreeBelowHint, EntryTableView}
use Rattle.qcow2_alloc.proofs.Lemmas.{if_no_ok, one_here, leaves_then, hint_header, hint_stays, hint_taken, hint_more, hint_passed, hint_refused, passed_same, passed_still, range_as, taken_used, allocator_step_none, behind_none, handed_on, entries_then, entries_less, other_range, allocator_step_as, allocator_step_then, is_sound_now, fails_ok, fails_on, fails_since, table_step_none, table_step_then}
use Rattle.qcow2_alloc.proofs.allocation.Allocator.search_below.Goals as goal

-- the entries from an end on stay while the range of a cluster below it gets its refblock
covered_entries : (t u v : EntryTableView) (cluster end per counts : ℕ) → cluster < end → counts ≡ per → KeepsEntries (λ k. end ≤ k * counts) t u → KeepsEntries (λ k. k ≢ cluster / per) u v → KeepsEntries (λ k. end ≤ k * counts) t v
covered_entries t u v cluster end per counts below same first then =
    entries_then (λ k. end ≤ k * counts) t u v first (entries_less (λ k. k ≢ cluster / per) (λ k. end ≤ k * counts) u v (λ k past. other_range cluster end per counts k below same past) then)

pub returns-in_err-ensure_self_counting_refblock : goal.returns-in_err-ensure_self_counting_refblock
returns-in_err-ensure_self_counting_refblock g c = record {
  step = table_step_then c.search.invariant.step c.ensure_self_counting_refblock.ensures.step;
  recorded = if_no_ok _ c.from_residual.result c.in_err-ensure_self_counting_refblock.field-0.0 c.from_residual.ensures;
  below = if_no_ok _ c.from_residual.result c.in_err-ensure_self_counting_refblock.field-0.0 c.from_residual.ensures;
  entries = covered_entries c.args.self.now.reftable c.search.self.reftable c.ensure_self_counting_refblock.new.self.reftable c.search.self.first_free_cluster c.args.end (2 ^ c.rb_bits-bits.result) (counts_per_block c.args.file.now.header.fields) c.search-test.true c.rb_bits-bits.ensures.counts
      c.search.invariant.entries c.ensure_self_counting_refblock.ensures.entries;
  sound = λ p sound.
      let before = c.search.invariant.sound p sound in
      handed_on (AllocatesLowest g.S.Storage.view p c.args.file.now c.ensure_self_counting_refblock.new.self c.ensure_self_counting_refblock.new.file) c.from_residual.result c.in_err-ensure_self_counting_refblock.field-0.0 c.from_residual.ensures
      (leaves_then g.S.Storage.view p c.args.file.now c.search.file c.ensure_self_counting_refblock.new.file c.ensure_self_counting_refblock.new.self c.in_err-ensure_self_counting_refblock.field-0.0 before.file_step ((c.in_err-ensure_self_counting_refblock.ensures.sound p (is_sound_now g.S.Storage.view p p c.args.file.now c.search.file c.search.self before)).gets));
  fails = fails_on c.from_residual.result c.in_err-ensure_self_counting_refblock.field-0.0 c.from_residual.ensures (fails_since c.search.invariant.faults c.in_err-ensure_self_counting_refblock.ensures.fails);
  leaks = c.ensure_self_counting_refblock.ensures.leaks ∙ c.search.invariant.leaks;
  hint = λ p sound hint.
      let now = is_sound_now g.S.Storage.view p p c.args.file.now c.search.file c.search.self (c.search.invariant.sound p sound) in
      handed_on (KeepsNoFreeBelowHint g.S.Storage.view c.ensure_self_counting_refblock.new.self c.ensure_self_counting_refblock.new.file) c.from_residual.result c.in_err-ensure_self_counting_refblock.field-0.0 c.from_residual.ensures
      (hint_refused g.S.Storage.view p c.search.file c.ensure_self_counting_refblock.new.file c.search.self c.ensure_self_counting_refblock.new.self c.in_err-ensure_self_counting_refblock.field-0.0 c.ensure_self_counting_refblock.ensures.first.passed ((c.in_err-ensure_self_counting_refblock.ensures.sound p now).gets) (c.search.invariant.hint p sound hint));
}

pub returns-in_err-taken : goal.returns-in_err-taken
returns-in_err-taken g c = record {
  step = table_step_then (table_step_then c.search.invariant.step c.ensure_self_counting_refblock.ensures.step) c.increment_refcount.ensures.step;
  recorded = if_no_ok _ c.from_residual-in_err-taken.result c.in_err-taken.field-0.0 c.from_residual-in_err-taken.ensures;
  below = if_no_ok _ c.from_residual-in_err-taken.result c.in_err-taken.field-0.0 c.from_residual-in_err-taken.ensures;
  entries = subst (λ (t : Allocator). KeepsEntries (λ k. c.args.end ≤ k * counts_per_block c.args.file.now.header.fields) c.args.self.now.reftable t.reftable) (sym c.increment_refcount.ensures.same)
      (covered_entries c.args.self.now.reftable c.search.self.reftable c.ensure_self_counting_refblock.new.self.reftable c.search.self.first_free_cluster c.args.end (2 ^ c.rb_bits-bits.result) (counts_per_block c.args.file.now.header.fields) c.search-test.true c.rb_bits-bits.ensures.counts
      c.search.invariant.entries c.ensure_self_counting_refblock.ensures.entries);
  sound = λ p sound.
      let before = c.search.invariant.sound p sound in
      let covered = allocator_step_then g.S.Storage.view p p c.args.file.now c.search.file c.ensure_self_counting_refblock.new.file c.search.self c.ensure_self_counting_refblock.new.self before ((c.in_ok-ensure_self_counting_refblock.ensures.sound p (is_sound_now g.S.Storage.view p p c.args.file.now c.search.file c.search.self before)).gets) in
      handed_on (AllocatesLowest g.S.Storage.view p c.args.file.now c.increment_refcount.new.self c.increment_refcount.new.file) c.from_residual-in_err-taken.result c.in_err-taken.field-0.0 c.from_residual-in_err-taken.ensures
      (leaves_then g.S.Storage.view p c.args.file.now c.ensure_self_counting_refblock.new.file c.increment_refcount.new.file c.increment_refcount.new.self c.in_err-taken.field-0.0 covered.file_step ((c.in_err-taken.ensures.sound p false (is_sound_now g.S.Storage.view p p c.args.file.now c.ensure_self_counting_refblock.new.file c.ensure_self_counting_refblock.new.self covered) tt).takes));
  fails = fails_on c.from_residual-in_err-taken.result c.in_err-taken.field-0.0 c.from_residual-in_err-taken.ensures (fails_since (c.in_ok-ensure_self_counting_refblock.ensures.fails.told ∙ c.search.invariant.faults) c.in_err-taken.ensures.fails);
  leaks = ap (λ (t : Allocator). t.leaked_clusters) c.increment_refcount.ensures.same ∙ c.ensure_self_counting_refblock.ensures.leaks ∙ c.search.invariant.leaks;
  hint = λ p sound hint.
      let now = is_sound_now g.S.Storage.view p p c.args.file.now c.search.file c.search.self (c.search.invariant.sound p sound) in
      let covered = (c.in_ok-ensure_self_counting_refblock.ensures.sound p now).gets in
      let one = hint_stays g.S.Storage.view p c.search.file c.ensure_self_counting_refblock.new.file c.search.self c.ensure_self_counting_refblock.new.self covered c.ensure_self_counting_refblock.ensures.first.passed (c.search.invariant.hint p sound hint) in
      handed_on (KeepsNoFreeBelowHint g.S.Storage.view c.increment_refcount.new.self c.increment_refcount.new.file) c.from_residual-in_err-taken.result c.in_err-taken.field-0.0 c.from_residual-in_err-taken.ensures
      (hint_refused g.S.Storage.view p c.ensure_self_counting_refblock.new.file c.increment_refcount.new.file c.ensure_self_counting_refblock.new.self c.increment_refcount.new.self c.in_err-taken.field-0.0 (passed_same c.ensure_self_counting_refblock.new.self c.increment_refcount.new.self c.increment_refcount.ensures.same)
      ((c.in_err-taken.ensures.sound p false (is_sound_now g.S.Storage.view p p c.search.file c.ensure_self_counting_refblock.new.file c.ensure_self_counting_refblock.new.self covered) tt).takes) one);
}

pub returns-then-taken : goal.returns-then-taken
returns-then-taken g c = record {
  step = table_step_then (table_step_then c.search.invariant.step c.ensure_self_counting_refblock.ensures.step) c.increment_refcount.ensures.step;
  recorded = λ some. c.in_ok-taken.ensures.recorded c.if-taken.true;
  below = (c.search.invariant.above, c.search-test.true);
  entries = subst (λ (t : Allocator). KeepsEntries (λ k. c.args.end ≤ k * counts_per_block c.args.file.now.header.fields) c.args.self.now.reftable t.reftable) (sym c.increment_refcount.ensures.same)
      (covered_entries c.args.self.now.reftable c.search.self.reftable c.ensure_self_counting_refblock.new.self.reftable c.search.self.first_free_cluster c.args.end (2 ^ c.rb_bits-bits.result) (counts_per_block c.args.file.now.header.fields) c.search-test.true c.rb_bits-bits.ensures.counts
      c.search.invariant.entries c.ensure_self_counting_refblock.ensures.entries);
  sound = λ p sound.
      let before = c.search.invariant.sound p sound in
      let covered = allocator_step_then g.S.Storage.view p p c.args.file.now c.search.file c.ensure_self_counting_refblock.new.file c.search.self c.ensure_self_counting_refblock.new.self before ((c.in_ok-ensure_self_counting_refblock.ensures.sound p (is_sound_now g.S.Storage.view p p c.args.file.now c.search.file c.search.self before)).gets) in
      let taken = rw c.if-taken.true at ((c.in_ok-taken.ensures.sound p false (is_sound_now g.S.Storage.view p p c.args.file.now c.ensure_self_counting_refblock.new.file c.ensure_self_counting_refblock.new.self covered) tt).takes) in
      allocator_step_as g.S.Storage.view p (taken_as false p (one_at c.search.self.first_free_cluster)) c.args.file.now c.increment_refcount.new.file c.increment_refcount.new.self _ refl
      (allocator_step_then g.S.Storage.view p (taken_as false p (one_at c.search.self.first_free_cluster)) c.args.file.now c.ensure_self_counting_refblock.new.file c.increment_refcount.new.file c.ensure_self_counting_refblock.new.self c.increment_refcount.new.self covered taken);
  fails = fails_ok (c.in_ok-taken.ensures.fails.told ∙ (c.in_ok-ensure_self_counting_refblock.ensures.fails.told ∙ c.search.invariant.faults));
  leaks = ap (λ (t : Allocator). t.leaked_clusters) c.increment_refcount.ensures.same ∙ c.ensure_self_counting_refblock.ensures.leaks ∙ c.search.invariant.leaks;
  hint = λ p sound hint.
      let now = is_sound_now g.S.Storage.view p p c.args.file.now c.search.file c.search.self (c.search.invariant.sound p sound) in
      let covered = (c.in_ok-ensure_self_counting_refblock.ensures.sound p now).gets in
      let one = hint_stays g.S.Storage.view p c.search.file c.ensure_self_counting_refblock.new.file c.search.self c.ensure_self_counting_refblock.new.self covered c.ensure_self_counting_refblock.ensures.first.passed (c.search.invariant.hint p sound hint) in
      let taken = rw c.if-taken.true at ((c.in_ok-taken.ensures.sound p false (is_sound_now g.S.Storage.view p p c.search.file c.ensure_self_counting_refblock.new.file c.ensure_self_counting_refblock.new.self covered) tt).takes) in
      let cluster = c.search.self.first_free_cluster in
      let two = hint_taken g.S.Storage.view p false (one_at cluster) c.ensure_self_counting_refblock.new.file c.increment_refcount.new.file c.ensure_self_counting_refblock.new.self c.increment_refcount.new.self taken (passed_same c.ensure_self_counting_refblock.new.self c.increment_refcount.new.self c.increment_refcount.ensures.same) one in
      hint_more g.S.Storage.view c.increment_refcount.new.file c.increment_refcount.new.self cluster two (ap (λ (t : Allocator). t.first_free_cluster) c.increment_refcount.ensures.same ∙ c.ensure_self_counting_refblock.ensures.first.first)
      (taken_used g.S.Storage.view p false (one_at cluster) c.ensure_self_counting_refblock.new.file c.increment_refcount.new.file c.increment_refcount.new.self cluster taken (let own = one_here cluster in omega (arith, own)));
}

pub search-init : goal.search-init
search-init g c = record {
  faults = refl;
  step = table_step_none;
  above = let first = c.max-self.ensures in omega (arith, first);
  entries = record { cluster = refl; bits = refl; count = refl; others = λ k past. refl; behind = behind_none c.args.self.now.reftable };
  leaks = refl;
  sound = λ p sound. allocator_step_none g.S.Storage.view p c.args.file.now (record c.args.self.now { first_free_cluster = c.max-self.result }) (record { sound = sound.sound; reftable = sound.reftable });
  hint = λ p sound hint. hint_header g.S.Storage.view p c.args.file.now c.args.self.now c.max-self.result sound.sound (λ k some below. let first = c.max-self.ensures in omega (arith, first, some, below)) hint;
}

pub search-preserved : goal.search-preserved
search-preserved g c = record {
  faults = c.in_ok-self.ensures.fails.told ∙ (c.in_ok-taken.ensures.fails.told ∙ (c.in_ok-ensure_self_counting_refblock.ensures.fails.told ∙ c.search.invariant.faults));
  step = table_step_then (table_step_then (table_step_then c.search.invariant.step c.ensure_self_counting_refblock.ensures.step) c.increment_refcount.ensures.step) c.next_open.ensures.step;
  entries =
      subst (λ (t : Allocator). KeepsEntries (λ k. c.args.end ≤ k * counts_per_block c.args.file.now.header.fields) c.args.self.now.reftable t.reftable) (sym c.increment_refcount.ensures.same)
      (covered_entries c.args.self.now.reftable c.search.self.reftable c.ensure_self_counting_refblock.new.self.reftable c.search.self.first_free_cluster c.args.end (2 ^ c.rb_bits-bits.result) (counts_per_block c.args.file.now.header.fields) c.search-test.true c.rb_bits-bits.ensures.counts
      c.search.invariant.entries c.ensure_self_counting_refblock.ensures.entries);
  above = let behind = c.in_ok-self.ensures.behind in omega (arith, behind);
  leaks = ap (λ (t : Allocator). t.leaked_clusters) c.increment_refcount.ensures.same ∙ c.ensure_self_counting_refblock.ensures.leaks ∙ c.search.invariant.leaks;
  sound = λ p sound.
      let before = c.search.invariant.sound p sound in
      let covered = allocator_step_then g.S.Storage.view p p c.args.file.now c.search.file c.ensure_self_counting_refblock.new.file c.search.self c.ensure_self_counting_refblock.new.self before ((c.in_ok-ensure_self_counting_refblock.ensures.sound p (is_sound_now g.S.Storage.view p p c.args.file.now c.search.file c.search.self before)).gets) in
      let taken = rw c.if-taken.false at ((c.in_ok-taken.ensures.sound p false (is_sound_now g.S.Storage.view p p c.args.file.now c.ensure_self_counting_refblock.new.file c.ensure_self_counting_refblock.new.self covered) tt).takes) in
      let marked : Allocator = record c.increment_refcount.new.self { first_free_cluster = c.search.self.first_free_cluster + 1 } in
      let mid = allocator_step_as g.S.Storage.view p p c.args.file.now c.increment_refcount.new.file c.increment_refcount.new.self marked refl (allocator_step_then g.S.Storage.view p p c.args.file.now c.ensure_self_counting_refblock.new.file c.increment_refcount.new.file c.ensure_self_counting_refblock.new.self c.increment_refcount.new.self covered taken) in
      let there = is_sound_now g.S.Storage.view p p c.args.file.now c.increment_refcount.new.file marked mid in
      let passed = c.in_ok-self.ensures.sound p there in
      allocator_step_as g.S.Storage.view p p c.args.file.now c.next_open.new.file marked _ refl (allocator_step_then g.S.Storage.view p p c.args.file.now c.increment_refcount.new.file c.next_open.new.file marked marked mid passed.0);
  hint = λ p sound hint.
      let before = c.search.invariant.sound p sound in
      let covered = allocator_step_then g.S.Storage.view p p c.args.file.now c.search.file c.ensure_self_counting_refblock.new.file c.search.self c.ensure_self_counting_refblock.new.self before ((c.in_ok-ensure_self_counting_refblock.ensures.sound p (is_sound_now g.S.Storage.view p p c.args.file.now c.search.file c.search.self before)).gets) in
      let taken = rw c.if-taken.false at ((c.in_ok-taken.ensures.sound p false (is_sound_now g.S.Storage.view p p c.args.file.now c.ensure_self_counting_refblock.new.file c.ensure_self_counting_refblock.new.self covered) tt).takes) in
      let marked : Allocator = record c.increment_refcount.new.self { first_free_cluster = c.search.self.first_free_cluster + 1 } in
      let mid = allocator_step_as g.S.Storage.view p p c.args.file.now c.increment_refcount.new.file c.increment_refcount.new.self marked refl (allocator_step_then g.S.Storage.view p p c.args.file.now c.ensure_self_counting_refblock.new.file c.increment_refcount.new.file c.ensure_self_counting_refblock.new.self c.increment_refcount.new.self covered taken) in
      let there = is_sound_now g.S.Storage.view p p c.args.file.now c.increment_refcount.new.file marked mid in
      let now = is_sound_now g.S.Storage.view p p c.args.file.now c.search.file c.search.self before in
      let is_covered = is_sound_now g.S.Storage.view p p c.args.file.now c.ensure_self_counting_refblock.new.file c.ensure_self_counting_refblock.new.self covered in
      let one = hint_stays g.S.Storage.view p c.search.file c.ensure_self_counting_refblock.new.file c.search.self c.ensure_self_counting_refblock.new.self ((c.in_ok-ensure_self_counting_refblock.ensures.sound p now).gets) c.ensure_self_counting_refblock.ensures.first.passed (c.search.invariant.hint p sound hint) in
      let two = hint_stays g.S.Storage.view p c.ensure_self_counting_refblock.new.file c.increment_refcount.new.file c.ensure_self_counting_refblock.new.self c.increment_refcount.new.self taken (passed_same c.ensure_self_counting_refblock.new.self c.increment_refcount.new.self c.increment_refcount.ensures.same) one in
      let used = (c.in_ok-taken.ensures.sound p false is_covered tt).used one (range_as c.ensure_self_counting_refblock.new.self.reftable c.search.self.first_free_cluster (2 ^ c.rb_bits-bits.result) (counts_per_block c.ensure_self_counting_refblock.new.file.header.fields)
      (ap (λ h. counts_per_block h.fields) (c.ensure_self_counting_refblock.ensures.step.header ∙ c.search.invariant.step.header) ∙ c.rb_bits-bits.ensures.counts) c.in_ok-ensure_self_counting_refblock.ensures.has) c.if-taken.false in
      let three = hint_more g.S.Storage.view c.increment_refcount.new.file c.increment_refcount.new.self c.search.self.first_free_cluster two (ap (λ (t : Allocator). t.first_free_cluster) c.increment_refcount.ensures.same ∙ c.ensure_self_counting_refblock.ensures.first.first) used in
      let passed = c.in_ok-self.ensures.sound p there in
      hint_passed g.S.Storage.view p c.increment_refcount.new.file c.next_open.new.file marked (c.search.self.first_free_cluster + 1) c.in_ok-self.field-0 passed.0 (passed.1 three) refl three;
}

pub returns-in_err-self : goal.returns-in_err-self
returns-in_err-self g c = record {
  step = table_step_then (table_step_then (table_step_then c.search.invariant.step c.ensure_self_counting_refblock.ensures.step) c.increment_refcount.ensures.step) c.next_open.ensures.step;
  recorded = if_no_ok _ c.from_residual-in_err-self.result c.in_err-self.field-0.0 c.from_residual-in_err-self.ensures;
  below = if_no_ok _ c.from_residual-in_err-self.result c.in_err-self.field-0.0 c.from_residual-in_err-self.ensures;
  entries =
      subst (λ (t : Allocator). KeepsEntries (λ k. c.args.end ≤ k * counts_per_block c.args.file.now.header.fields) c.args.self.now.reftable t.reftable) (sym c.increment_refcount.ensures.same)
      (covered_entries c.args.self.now.reftable c.search.self.reftable c.ensure_self_counting_refblock.new.self.reftable c.search.self.first_free_cluster c.args.end (2 ^ c.rb_bits-bits.result) (counts_per_block c.args.file.now.header.fields) c.search-test.true c.rb_bits-bits.ensures.counts
      c.search.invariant.entries c.ensure_self_counting_refblock.ensures.entries);
  sound = λ p sound.
      let before = c.search.invariant.sound p sound in
      let covered = allocator_step_then g.S.Storage.view p p c.args.file.now c.search.file c.ensure_self_counting_refblock.new.file c.search.self c.ensure_self_counting_refblock.new.self before ((c.in_ok-ensure_self_counting_refblock.ensures.sound p (is_sound_now g.S.Storage.view p p c.args.file.now c.search.file c.search.self before)).gets) in
      let taken = rw c.if-taken.false at ((c.in_ok-taken.ensures.sound p false (is_sound_now g.S.Storage.view p p c.args.file.now c.ensure_self_counting_refblock.new.file c.ensure_self_counting_refblock.new.self covered) tt).takes) in
      let marked : Allocator = record c.increment_refcount.new.self { first_free_cluster = c.search.self.first_free_cluster + 1 } in
      let mid = allocator_step_as g.S.Storage.view p p c.args.file.now c.increment_refcount.new.file c.increment_refcount.new.self marked refl (allocator_step_then g.S.Storage.view p p c.args.file.now c.ensure_self_counting_refblock.new.file c.increment_refcount.new.file c.ensure_self_counting_refblock.new.self c.increment_refcount.new.self covered taken) in
      let there = is_sound_now g.S.Storage.view p p c.args.file.now c.increment_refcount.new.file marked mid in
      handed_on (AllocatesLowest g.S.Storage.view p c.args.file.now marked c.next_open.new.file) c.from_residual-in_err-self.result c.in_err-self.field-0.0 c.from_residual-in_err-self.ensures
      (leaves_then g.S.Storage.view p c.args.file.now c.increment_refcount.new.file c.next_open.new.file marked c.in_err-self.field-0.0 mid.file_step (c.in_err-self.ensures.sound p there).1);
  fails = fails_on c.from_residual-in_err-self.result c.in_err-self.field-0.0 c.from_residual-in_err-self.ensures (fails_since (c.in_ok-taken.ensures.fails.told ∙ (c.in_ok-ensure_self_counting_refblock.ensures.fails.told ∙ c.search.invariant.faults)) c.in_err-self.ensures.fails);
  leaks = ap (λ (t : Allocator). t.leaked_clusters) c.increment_refcount.ensures.same ∙ c.ensure_self_counting_refblock.ensures.leaks ∙ c.search.invariant.leaks;
  hint = λ p sound hint.
      let before = c.search.invariant.sound p sound in
      let covered = allocator_step_then g.S.Storage.view p p c.args.file.now c.search.file c.ensure_self_counting_refblock.new.file c.search.self c.ensure_self_counting_refblock.new.self before ((c.in_ok-ensure_self_counting_refblock.ensures.sound p (is_sound_now g.S.Storage.view p p c.args.file.now c.search.file c.search.self before)).gets) in
      let taken = rw c.if-taken.false at ((c.in_ok-taken.ensures.sound p false (is_sound_now g.S.Storage.view p p c.args.file.now c.ensure_self_counting_refblock.new.file c.ensure_self_counting_refblock.new.self covered) tt).takes) in
      let marked : Allocator = record c.increment_refcount.new.self { first_free_cluster = c.search.self.first_free_cluster + 1 } in
      let mid = allocator_step_as g.S.Storage.view p p c.args.file.now c.increment_refcount.new.file c.increment_refcount.new.self marked refl (allocator_step_then g.S.Storage.view p p c.args.file.now c.ensure_self_counting_refblock.new.file c.increment_refcount.new.file c.ensure_self_counting_refblock.new.self c.increment_refcount.new.self covered taken) in
      let there = is_sound_now g.S.Storage.view p p c.args.file.now c.increment_refcount.new.file marked mid in
      let now = is_sound_now g.S.Storage.view p p c.args.file.now c.search.file c.search.self before in
      let is_covered = is_sound_now g.S.Storage.view p p c.args.file.now c.ensure_self_counting_refblock.new.file c.ensure_self_counting_refblock.new.self covered in
      let one = hint_stays g.S.Storage.view p c.search.file c.ensure_self_counting_refblock.new.file c.search.self c.ensure_self_counting_refblock.new.self ((c.in_ok-ensure_self_counting_refblock.ensures.sound p now).gets) c.ensure_self_counting_refblock.ensures.first.passed (c.search.invariant.hint p sound hint) in
      let two = hint_stays g.S.Storage.view p c.ensure_self_counting_refblock.new.file c.increment_refcount.new.file c.ensure_self_counting_refblock.new.self c.increment_refcount.new.self taken (passed_same c.ensure_self_counting_refblock.new.self c.increment_refcount.new.self c.increment_refcount.ensures.same) one in
      let used = (c.in_ok-taken.ensures.sound p false is_covered tt).used one (range_as c.ensure_self_counting_refblock.new.self.reftable c.search.self.first_free_cluster (2 ^ c.rb_bits-bits.result) (counts_per_block c.ensure_self_counting_refblock.new.file.header.fields)
      (ap (λ h. counts_per_block h.fields) (c.ensure_self_counting_refblock.ensures.step.header ∙ c.search.invariant.step.header) ∙ c.rb_bits-bits.ensures.counts) c.in_ok-ensure_self_counting_refblock.ensures.has) c.if-taken.false in
      let three = hint_more g.S.Storage.view c.increment_refcount.new.file c.increment_refcount.new.self c.search.self.first_free_cluster two (ap (λ (t : Allocator). t.first_free_cluster) c.increment_refcount.ensures.same ∙ c.ensure_self_counting_refblock.ensures.first.first) used in
      handed_on (KeepsNoFreeBelowHint g.S.Storage.view marked c.next_open.new.file) c.from_residual-in_err-self.result c.in_err-self.field-0.0 c.from_residual-in_err-self.ensures
      (hint_refused g.S.Storage.view p c.increment_refcount.new.file c.next_open.new.file marked marked c.in_err-self.field-0.0 (passed_still marked) (c.in_err-self.ensures.sound p there).1 three);
}

pub returns-clause-fails : goal.returns-clause-fails
returns-clause-fails g c = fails_ok c.search.invariant.faults

use Rattle.std.proofs.Common.{◌≡◌, ◌*◌, ◌≤◌, false, refl, sym, ap, subst, ◌∙◌, arith}
use Rattle.qcow2_alloc.proofs.Common.{EntryTableView, counts_per_block, one_at, KeepsEntries, AllocatesLowest, IsUsed, KeepsNoFreeBelowHint, TableStep, Allocator}
use Rattle.qcow2_alloc.proofs.Lemmas.{if_no_ok, handed_on, allocator_step_as, one_here, taken_used, hint_kept, invariant_for, fails_ok, fails_on, table_step_as}
use Rattle.qcow2_alloc.proofs.allocation.Allocator.allocate_lowest_below.Goals as goal

pub returns-in_err-cluster : goal.returns-in_err-cluster
returns-in_err-cluster g c = record {
  step = subst (λ (t : EntryTableView). TableStep g.S.Storage.view t c.args.file.now c.search_below.new.self.reftable c.search_below.new.file) (ap (λ (t : Allocator). t.reftable) c.skip_kept.ensures.rest) c.search_below.ensures.step;
  recorded = if_no_ok _ c.from_residual.result c.in_err-cluster.field-0.0 c.from_residual.ensures;
  below = if_no_ok _ c.from_residual.result c.in_err-cluster.field-0.0 c.from_residual.ensures;
  entries = subst (λ (t : EntryTableView). KeepsEntries (λ k. c.args.end ≤ k * counts_per_block c.args.file.now.header.fields) t c.search_below.new.self.reftable) (ap (λ (t : Allocator). t.reftable) c.skip_kept.ensures.rest) c.search_below.ensures.entries;
  sound = λ p sound.
      let view = g.S.Storage.view in
      let begun = invariant_for view p c.args.file.now c.args.self.now c.skip_kept.new.self (ap (λ (t : Allocator). t.reftable) c.skip_kept.ensures.rest) sound in
      handed_on (AllocatesLowest view p c.args.file.now c.search_below.new.self c.search_below.new.file) c.from_residual.result c.in_err-cluster.field-0.0 c.from_residual.ensures (c.in_err-cluster.ensures.sound p begun);
  fails = fails_on c.from_residual.result c.in_err-cluster.field-0.0 c.from_residual.ensures c.in_err-cluster.ensures.fails;
  leaks = c.search_below.ensures.leaks ∙ ap (λ (t : Allocator). t.leaked_clusters) c.skip_kept.ensures.rest;
  hint = λ p sound hint.
      let view = g.S.Storage.view in
      let begun = invariant_for view p c.args.file.now c.args.self.now c.skip_kept.new.self (ap (λ (t : Allocator). t.reftable) c.skip_kept.ensures.rest) sound in
      handed_on (KeepsNoFreeBelowHint view c.search_below.new.self c.search_below.new.file) c.from_residual.result c.in_err-cluster.field-0.0 c.from_residual.ensures
      (c.in_err-cluster.ensures.hint p begun (λ k passed. hint k (c.skip_kept.ensures.passed k passed)));
}

pub returns-in_default : goal.returns-in_default
returns-in_default g c = record {
  step = subst (λ (t : EntryTableView). TableStep g.S.Storage.view t c.args.file.now c.search_below.new.self.reftable c.search_below.new.file) (ap (λ (t : Allocator). t.reftable) c.skip_kept.ensures.rest) c.search_below.ensures.step;
  recorded = λ bad. absurd cc;
  below = tt;
  entries = subst (λ (t : EntryTableView). KeepsEntries (λ k. c.args.end ≤ k * counts_per_block c.args.file.now.header.fields) t c.search_below.new.self.reftable) (ap (λ (t : Allocator). t.reftable) c.skip_kept.ensures.rest) c.search_below.ensures.entries;
  sound = λ p sound.
      let view = g.S.Storage.view in
      let begun = invariant_for view p c.args.file.now c.args.self.now c.skip_kept.new.self (ap (λ (t : Allocator). t.reftable) c.skip_kept.ensures.rest) sound in
      rw c.in_default.is at (c.in_ok-cluster.ensures.sound p begun);
  fails = fails_ok c.in_ok-cluster.ensures.fails.told;
  leaks = c.search_below.ensures.leaks ∙ ap (λ (t : Allocator). t.leaked_clusters) c.skip_kept.ensures.rest;
  hint = λ p sound hint.
      let view = g.S.Storage.view in
      let begun = invariant_for view p c.args.file.now c.args.self.now c.skip_kept.new.self (ap (λ (t : Allocator). t.reftable) c.skip_kept.ensures.rest) sound in
      c.in_ok-cluster.ensures.hint p begun (λ k passed. hint k (c.skip_kept.ensures.passed k passed));
}

pub returns : goal.returns
returns g c = record {
  step =
      table_step_as (ap (λ (t : Allocator). t.reftable) c.record_used.ensures.kept.rest) refl
      (subst (λ (t : EntryTableView). TableStep g.S.Storage.view t c.args.file.now c.search_below.new.self.reftable c.search_below.new.file) (ap (λ (t : Allocator). t.reftable) c.skip_kept.ensures.rest) c.search_below.ensures.step);
  recorded = rw c.in-Some.is at c.in_ok-cluster.ensures.recorded;
  below = rw c.in-Some.is at c.in_ok-cluster.ensures.below;
  entries =
      subst (λ (t : EntryTableView). KeepsEntries (λ k. c.args.end ≤ k * counts_per_block c.args.file.now.header.fields) c.args.self.now.reftable t) (sym (ap (λ (t : Allocator). t.reftable) c.record_used.ensures.kept.rest))
      (subst (λ (t : EntryTableView). KeepsEntries (λ k. c.args.end ≤ k * counts_per_block c.args.file.now.header.fields) t c.search_below.new.self.reftable) (ap (λ (t : Allocator). t.reftable) c.skip_kept.ensures.rest) c.search_below.ensures.entries);
  sound = λ p sound.
      let view = g.S.Storage.view in
      let begun = invariant_for view p c.args.file.now c.args.self.now c.skip_kept.new.self (ap (λ (t : Allocator). t.reftable) c.skip_kept.ensures.rest) sound in
      let taken = rw c.in-Some.is at (c.in_ok-cluster.ensures.sound p begun) in
      allocator_step_as view p _ c.args.file.now c.search_below.new.file c.search_below.new.self c.record_used.new.self (ap (λ (t : Allocator). t.reftable) c.record_used.ensures.kept.rest) taken;
  fails = fails_ok c.in_ok-cluster.ensures.fails.told;
  leaks = ap (λ (t : Allocator). t.leaked_clusters) c.record_used.ensures.kept.rest ∙ c.search_below.ensures.leaks ∙ ap (λ (t : Allocator). t.leaked_clusters) c.skip_kept.ensures.rest;
  hint = λ p sound hint.
      let view = g.S.Storage.view in
      let begun = invariant_for view p c.args.file.now c.args.self.now c.skip_kept.new.self (ap (λ (t : Allocator). t.reftable) c.skip_kept.ensures.rest) sound in
      let taken = rw c.in-Some.is at (c.in_ok-cluster.ensures.sound p begun) in
      let cluster = c.in-Some.cluster in
      let used = taken_used view p false (one_at cluster) c.args.file.now c.search_below.new.file c.search_below.new.self cluster taken (let own = one_here cluster in omega (arith, own)) in
      hint_kept view c.search_below.new.file c.search_below.new.self c.record_used.new.self (λ k. k ≡ cluster) c.record_used.ensures.kept (λ k same. subst (IsUsed view c.search_below.new.file) (sym same) used)
      (c.in_ok-cluster.ensures.hint p begun (λ k passed. hint k (c.skip_kept.ensures.passed k passed)));
}

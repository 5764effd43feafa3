use Rattle.std.proofs.Common.{◌≡◌}
use Rattle.qcow2_alloc.proofs.Common.{inl, inr, true, false, Some, Ok, refl, sym, ap, ◌∙◌, eqb, of_cache, storage_of, laid_at, AreClean, l2_tables}
use Rattle.qcow2_alloc.proofs.Lemmas.{if_some, put_at_last, laid_then, tables_as, table_put_clean, quiet_none, stays_same, values_stay, never, on_no_ok, tables_under_then, fails_by, fails_ok, fails_on, fails_since, memory_other, cache_step_none, put_step_as, put_step_on, put_step_then, soundly_none, soundly_then, fails_cache, puts_refused, keeps_written, table_put_as, fails_putting}
use Rattle.qcow2_alloc.proofs.Tries.{PutsTableFor, puts_table, held, puts_at_once, puts_none, puts_again, soundly_at_once, soundly_again}
use Rattle.qcow2_laws.specs.Clusters.{L2DependsOnRb}
use Rattle.qcow2_alloc.specs.declared.error.ImageError.TheVariants as I
use Rattle.qcow2_alloc.proofs.cache.MetadataCaches.l2_insert.Given.{Over}
use Rattle.qcow2_alloc.proofs.cache.MetadataCaches.l2_insert.Goals.{In_ok-insert}
use Rattle.qcow2_alloc.proofs.cache.MetadataCaches.l2_insert.Goals as goal

-- What the first try does.
tried : (g : Over) (c : In_ok-insert g) → PutsTableFor g.S.Storage.view c.in-Some.cluster c.args.table false c.args.storage.now c.args.self.now c.in_ok-insert.field-0 c.insert.new.value c.insert.new.store (record c.args.self.now { l2 = c.insert.new.self })
tried g c = puts_table g.S.Storage.view false c.in-Some.cluster c.args.storage.now c.insert.new.store c.args.self.now c.in_ok-insert.field-0 c.insert.ensures.keeps.0 c.insert.new.self c.insert.ensures.kept (λ flush. never flush) c.args.table (Some c.args.table) c.insert.new.value refl (sym c.get_cluster.ensures.value ∙ c.in-Some.is) c.in_ok-insert.ensures.there c.in_ok-insert.ensures.missing

-- The L2 tables are unmodified still after the first try.
clean : (g : Over) (c : In_ok-insert g) → AreClean (l2_tables c.args.self.now) → c.args.table.is_modified ≡ false → AreClean (l2_tables (record c.args.self.now { l2 = c.insert.new.self }))
clean g c = table_put_clean g.S.Storage.view c.args.storage.now c.insert.new.store c.args.self.now false c.in-Some.cluster c.insert.new.self c.args.table (Some c.args.table) c.insert.new.value refl c.in_ok-insert.field-0 c.in_ok-insert.ensures.there c.in_ok-insert.ensures.missing

pub returns-in_err-branch : goal.returns-in_err-branch
returns-in_err-branch g c =
    let path = goal.at.returns-in_err-branch g c in
    let one = tried g path.In_ok-insert in
    let is = sym c.get_cluster.ensures.value ∙ c.in-Some.is in
    let e = c.in_err-branch.field-0.0 in
    record {
      step = put_step_as is one.step;
      fails = fails_cache c.in_ok-insert.field-0 e c.from_residual-in_err-branch.result one.tries.told c.in_err-branch.was c.from_residual-in_err-branch.ensures (table_put_as c.args.self.now c.args.self.now (of_cache e) refl (one.tries.refused e c.in_err-branch.was));
      sound = puts_refused c.from_residual-in_err-branch.result (of_cache e) c.from_residual-in_err-branch.ensures (one.sound (λ went. let bad = sym c.in_err-branch.was ∙ went in cc));
      puts = puts_at_once one c.args.table.cluster is L2DependsOnRb c.from_residual-in_err-branch.result (on_no_ok _ c.from_residual-in_err-branch.result (of_cache e) c.from_residual-in_err-branch.ensures);
      written = keeps_written refl (clean g path.In_ok-insert) (λ all. all);
    }

pub returns-then-branch : goal.returns-then-branch
returns-then-branch g c =
    let path = goal.at.returns-then-branch g c in
    let one = tried g path.In_ok-insert in
    let is = sym c.get_cluster.ensures.value ∙ c.in-Some.is in
    let went = c.in_ok-branch.was ∙ ap Ok c.if-branch.true in
    record {
      step = put_step_as is one.step;
      fails = fails_ok (one.tries.told.same _ c.in_ok-branch.was);
      sound = soundly_at_once one c.args.table.cluster is went;
      puts = puts_at_once one c.args.table.cluster is L2DependsOnRb (Ok tt) (if_some _ c.args.table.cluster c.in-Some.cluster is (one.taken.new_data went));
      written = keeps_written refl (clean g path.In_ok-insert) (λ all. all);
    }

pub returns-in_err-before_l2 : goal.returns-in_err-before_l2
returns-in_err-before_l2 g c =
    let path = goal.at.returns-in_err-before_l2 g c in
    let one = tried g path.In_ok-insert in
    let is = sym c.get_cluster.ensures.value ∙ c.in-Some.is in
    let full = c.in_ok-branch.was ∙ ap Ok c.if-branch.false in
    let e = c.in_err-before_l2.field-0.0 in
    record {
      step = put_step_as is (put_step_then one.step (put_step_on c.before_l2.ensures.step));
      fails = fails_since (one.tries.told.same _ c.in_ok-branch.was) (fails_on c.from_residual-in_err-before_l2.result e c.from_residual-in_err-before_l2.ensures (fails_putting (λ fit. fit.1) c.in_err-before_l2.ensures.fails));
      sound = puts_refused c.from_residual-in_err-before_l2.result e c.from_residual-in_err-before_l2.ensures (soundly_then refl (one.sound (λ went. let bad = sym full ∙ went in cc)) c.before_l2.ensures.sound);
      puts = puts_none one c.args.table.cluster is full c.before_l2.ensures.way c.from_residual-in_err-before_l2.result (on_no_ok _ c.from_residual-in_err-before_l2.result e c.from_residual-in_err-before_l2.ensures);
      written = keeps_written c.before_l2.ensures.step.marks.order (λ all unmodified. tables_as (record c.args.self.now { l2 = c.insert.new.self }) c.before_l2.new.self c.before_l2.ensures.way.stays (clean g path.In_ok-insert all unmodified)) c.before_l2.ensures.blocks;
    }

pub returns-in_err-branch-2 : goal.returns-in_err-branch-2
returns-in_err-branch-2 g c =
    let path = goal.at.returns-in_err-branch-2 g c in
    let one = tried g path.In_ok-insert in
    let full = c.in_ok-branch.was ∙ ap Ok c.if-branch.false in
    let two = puts_table g.S.Storage.view true c.in-Some.cluster c.before_l2.new.storage c.insert-2.new.store c.before_l2.new.self c.in_ok-insert-2.field-0 c.insert-2.ensures.keeps.0 c.insert-2.new.self c.insert-2.ensures.kept (λ _. c.in_ok-before_l2.ensures.way.first) c.args.table c.insert.new.value c.insert-2.new.value (one.taken.kept full) (sym c.get_cluster.ensures.value ∙ c.in-Some.is) c.in_ok-insert-2.ensures.there c.in_ok-insert-2.ensures.missing in
    let is = sym c.get_cluster.ensures.value ∙ c.in-Some.is in
    let e = c.in_err-branch-2.field-0.0 in
    record {
      step = put_step_as is (put_step_then (put_step_then one.step (put_step_on c.before_l2.ensures.step)) two.step);
      fails = fails_since (c.in_ok-before_l2.ensures.fails.told ∙ one.tries.told.same _ c.in_ok-branch.was)
          (fails_cache c.in_ok-insert-2.field-0 e c.from_residual-in_err-branch-2.result two.tries.told c.in_err-branch-2.was c.from_residual-in_err-branch-2.ensures
          (table_put_as c.args.self.now c.before_l2.new.self (of_cache e) (held one.tries full c.before_l2.ensures.way) (two.tries.refused e c.in_err-branch-2.was)));
      sound = puts_refused c.from_residual-in_err-branch-2.result (of_cache e) c.from_residual-in_err-branch-2.ensures
          (soundly_then c.before_l2.ensures.step.marks.order (soundly_then refl (one.sound (λ went. let bad = sym full ∙ went in cc)) c.before_l2.ensures.sound) (two.sound (λ went. let bad = sym c.in_err-branch-2.was ∙ went in cc)));
      puts = puts_again one c.args.table.cluster is full c.before_l2.ensures.way two c.from_residual-in_err-branch-2.result (on_no_ok _ c.from_residual-in_err-branch-2.result (of_cache e) c.from_residual-in_err-branch-2.ensures);
      written = keeps_written c.before_l2.ensures.step.marks.order (λ all unmodified. table_put_clean g.S.Storage.view c.before_l2.new.storage c.insert-2.new.store c.before_l2.new.self true c.in-Some.cluster c.insert-2.new.self c.args.table c.insert.new.value c.insert-2.new.value (one.taken.kept full) c.in_ok-insert-2.field-0 c.in_ok-insert-2.ensures.there c.in_ok-insert-2.ensures.missing (tables_as (record c.args.self.now { l2 = c.insert.new.self }) c.before_l2.new.self c.before_l2.ensures.way.stays (clean g path.In_ok-insert all unmodified)) unmodified) c.before_l2.ensures.blocks;
    }

pub returns : goal.returns
returns g c =
    let path = goal.at.returns g c in
    let view = g.S.Storage.view in
    let one = tried g path.In_ok-insert in
    let full = c.in_ok-branch.was ∙ ap Ok c.if-branch.false in
    let two = puts_table g.S.Storage.view true c.in-Some.cluster c.before_l2.new.storage c.insert-2.new.store c.before_l2.new.self c.in_ok-insert-2.field-0 c.insert-2.ensures.keeps.0 c.insert-2.new.self c.insert-2.ensures.kept (λ _. c.in_ok-before_l2.ensures.way.first) c.args.table c.insert.new.value c.insert-2.new.value (one.taken.kept full) (sym c.get_cluster.ensures.value ∙ c.in-Some.is) c.in_ok-insert-2.ensures.there c.in_ok-insert-2.ensures.missing in
    let went = put_at_last c.in-Some.cluster c.args.table c.insert-2.new.self.entries c.in_ok-insert-2.field-0 c.insert-2.new.value c.in_ok-branch-2.field-0 c.in_ok-branch-2.was two.taken in
    let is = sym c.get_cluster.ensures.value ∙ c.in-Some.is in
    let a = c.args.self.now in
    let before = c.before_l2.new.self in
    let d = record before { l2 = c.insert-2.new.self } in
    let same = c.before_l2.ensures.step.marks.order in
    let kept = soundly_then refl (one.sound (λ went. let bad = sym full ∙ went in cc)) c.before_l2.ensures.sound in
    record {
      step = put_step_as is (put_step_then (put_step_then one.step (put_step_on c.before_l2.ensures.step)) two.step);
      fails = fails_ok (two.tries.told.same _ c.in_ok-branch-2.was ∙ (c.in_ok-before_l2.ensures.fails.told ∙ one.tries.told.same _ c.in_ok-branch.was));
      sound = soundly_again one c.args.table.cluster is full c.before_l2.ensures.way two kept same
          (λ h p honest sound fits marked.
          let k = kept.keeps h p honest sound in
          if_some _ c.args.table.cluster c.in-Some.cluster is (laid_then view h p c.args.storage.now c.before_l2.new.storage c.insert-2.new.store a before d (laid_at h c.in-Some.cluster c.args.table.bytes) _ _ k (rw is at (two.lays went h p k.honest k.sound fits marked))))
          (λ h honest are. if_some _ c.args.table.cluster c.in-Some.cluster is (tables_under_then view c.args.storage.now c.before_l2.new.storage c.insert-2.new.store a before d c.in-Some.cluster c.args.table.bytes c.args.table.is_modified same kept.apart (λ h honest are. rw is at (two.lays_apart went h honest are)) h honest are));
      puts = puts_again one c.args.table.cluster is full c.before_l2.ensures.way two (Ok tt) (if_some _ c.args.table.cluster c.in-Some.cluster is (two.taken.new_data went));
      written = keeps_written same (λ all unmodified. table_put_clean g.S.Storage.view c.before_l2.new.storage c.insert-2.new.store c.before_l2.new.self true c.in-Some.cluster c.insert-2.new.self c.args.table c.insert.new.value c.insert-2.new.value (one.taken.kept full) c.in_ok-insert-2.field-0 c.in_ok-insert-2.ensures.there c.in_ok-insert-2.ensures.missing (tables_as (record a { l2 = c.insert.new.self }) before c.before_l2.ensures.way.stays (clean g path.In_ok-insert all unmodified)) unmodified) c.before_l2.ensures.blocks;
    }

pub returns-in_err-insert-2 : goal.returns-in_err-insert-2
returns-in_err-insert-2 g c = record {
  step =
      rw (c.in_err-insert-2.ensures.refused.0, c.in_err-insert-2.ensures.refused.1) (put_step_as (sym c.get_cluster.ensures.value ∙ c.in-Some.is) (put_step_then (tried g (goal.at.returns-in_err-insert-2 g c).In_ok-insert).step (put_step_on c.before_l2.ensures.step)));
  fails =
      rw c.in_err-insert-2.ensures.refused.1 (fails_since (c.in_ok-before_l2.ensures.fails.told ∙ (tried g (goal.at.returns-in_err-insert-2 g c).In_ok-insert).tries.told.same _ c.in_ok-branch.was)
      (fails_on c.from_residual-in_err-insert-2.result I.Memory c.from_residual-in_err-insert-2.ensures (fails_by I.Memory memory_other refl (inr (inl (inr refl))))));
  sound =
      let full = c.in_ok-branch.was ∙ ap Ok c.if-branch.false in
      rw (c.in_err-insert-2.ensures.refused.0, c.in_err-insert-2.ensures.refused.1) (puts_refused c.from_residual-in_err-insert-2.result I.Memory c.from_residual-in_err-insert-2.ensures
      (soundly_then refl ((tried g (goal.at.returns-in_err-insert-2 g c).In_ok-insert).sound (λ went. let bad = sym full ∙ went in cc)) c.before_l2.ensures.sound));
  puts =
      let path = goal.at.returns-in_err-insert-2 g c in
      rw (c.in_err-insert-2.ensures.refused.0, c.in_err-insert-2.ensures.refused.1) (puts_none (tried g path.In_ok-insert) c.args.table.cluster (sym c.get_cluster.ensures.value ∙ c.in-Some.is) (c.in_ok-branch.was ∙ ap Ok c.if-branch.false) c.before_l2.ensures.way c.from_residual-in_err-insert-2.result
      (on_no_ok _ c.from_residual-in_err-insert-2.result I.Memory c.from_residual-in_err-insert-2.ensures));
  written =
      rw c.in_err-insert-2.ensures.refused.0 (keeps_written c.before_l2.ensures.step.marks.order (λ all unmodified. tables_as (record c.args.self.now { l2 = c.insert.new.self }) c.before_l2.new.self c.before_l2.ensures.way.stays (clean g (goal.at.returns-in_err-insert-2 g c).In_ok-insert all unmodified)) c.before_l2.ensures.blocks);
}

pub returns-in_err-insert-clause-step : goal.returns-in_err-insert-clause-step
returns-in_err-insert-clause-step g c =
    rw (c.in_err-insert.ensures.refused.0, c.in_err-insert.ensures.refused.1) (put_step_as (sym c.get_cluster.ensures.value ∙ c.in-Some.is) (put_step_on cache_step_none))

pub returns-in_err-insert-clause-sound : goal.returns-in_err-insert-clause-sound
returns-in_err-insert-clause-sound g c =
    puts_refused c.from_residual.result I.Memory c.from_residual.ensures (rw (c.in_err-insert.ensures.refused.0, c.in_err-insert.ensures.refused.1) soundly_none)

pub returns-in_err-insert-clause-puts : goal.returns-in_err-insert-clause-puts
returns-in_err-insert-clause-puts g c =
    record {
      cached = on_no_ok _ c.from_residual.result I.Memory c.from_residual.ensures;
      stay = if_some _ c.args.table.cluster c.in-Some.cluster (sym c.get_cluster.ensures.value ∙ c.in-Some.is) (values_stay c.in-Some.cluster c.args.self.now.l2.entries c.insert.new.self.entries (stays_same eqb c.in-Some.cluster c.args.self.now.l2.entries c.insert.new.self.entries (ap (λ x. x.entries) c.in_err-insert.ensures.refused.0)));
      others_stay = λ _. refl;
      quiet = if_some _ c.args.table.cluster c.in-Some.cluster (sym c.get_cluster.ensures.value ∙ c.in-Some.is) (λ may honest. rw c.in_err-insert.ensures.refused.1 (quiet_none (g.S.Storage.view (storage_of c.args.storage.now)) honest));
    }

pub returns-in_err-insert-clause-written : goal.returns-in_err-insert-clause-written
returns-in_err-insert-clause-written g c =
    rw c.in_err-insert.ensures.refused.0 (keeps_written refl (λ all clean. all) (λ all. all))

use Rattle.qcow2_alloc.proofs.Common.{inl, inr, true, false, Some, Ok, refl, sym, ap, ◌∙◌, eqb, of_cache, storage_of, laid_at, cluster_size}
use Rattle.qcow2_alloc.proofs.Lemmas.{if_some, put_at_last, laid_then, quiet_none, stays_same, values_stay, never, on_no_ok, blocks_under_then, fails_by, fails_ok, fails_on, fails_since, memory_other, cache_step_none, put_step_as, put_step_on, put_step_then, soundly_none, soundly_then, fails_cache, puts_refused, block_put_as, fails_putting}
use Rattle.qcow2_alloc.proofs.Tries.{PutsBlockFor, puts_block, held, puts_at_once, puts_none, puts_again, soundly_at_once, soundly_again}
use Rattle.qcow2_laws.specs.Clusters.{RbDependsOnL2}
use Rattle.qcow2_alloc.specs.declared.error.ImageError.TheVariants as I
use Rattle.qcow2_alloc.proofs.cache.MetadataCaches.rb_insert.Given.{Over}
use Rattle.qcow2_alloc.proofs.cache.MetadataCaches.rb_insert.Goals.{In_ok-insert}
use Rattle.qcow2_alloc.proofs.cache.MetadataCaches.rb_insert.Goals as goal

-- What the first try does.
tried : (g : Over) (c : In_ok-insert g) → PutsBlockFor g.S.Storage.view c.in-Some.cluster c.args.block false c.args.storage.now c.args.self.now c.in_ok-insert.field-0 c.insert.new.value c.insert.new.store (record c.args.self.now { rb = c.insert.new.self })
tried g c = puts_block g.S.Storage.view false c.in-Some.cluster c.args.storage.now c.insert.new.store c.args.self.now c.in_ok-insert.field-0 c.insert.ensures.keeps.0 c.insert.new.self c.insert.ensures.kept (λ flush. never flush) c.args.block (Some c.args.block) c.insert.new.value refl (sym c.get_cluster.ensures.value ∙ c.in-Some.is) c.in_ok-insert.ensures.there c.in_ok-insert.ensures.missing

pub returns-in_err-branch : goal.returns-in_err-branch
returns-in_err-branch g c =
    let path = goal.at.returns-in_err-branch g c in
    let one = tried g path.In_ok-insert in
    let is = sym c.get_cluster.ensures.value ∙ c.in-Some.is in
    let e = c.in_err-branch.field-0.0 in
    record {
      step = put_step_as is one.step;
      fails = fails_cache c.in_ok-insert.field-0 e c.from_residual-in_err-branch.result one.tries.told c.in_err-branch.was c.from_residual-in_err-branch.ensures (block_put_as c.args.self.now c.args.self.now (of_cache e) refl (one.tries.refused e c.in_err-branch.was));
      sound = puts_refused c.from_residual-in_err-branch.result (of_cache e) c.from_residual-in_err-branch.ensures (one.sound (λ went. let bad = sym c.in_err-branch.was ∙ went in cc));
      tables = λ k. refl;
      puts = puts_at_once one c.args.block.cluster is RbDependsOnL2 c.from_residual-in_err-branch.result (on_no_ok _ c.from_residual-in_err-branch.result (of_cache e) c.from_residual-in_err-branch.ensures);
    }

pub returns-then-branch : goal.returns-then-branch
returns-then-branch g c =
    let path = goal.at.returns-then-branch g c in
    let one = tried g path.In_ok-insert in
    let is = sym c.get_cluster.ensures.value ∙ c.in-Some.is in
    let went = c.in_ok-branch.was ∙ ap Ok c.if-branch.true in
    record {
      step = put_step_as is one.step;
      fails = fails_ok (one.tries.told.same _ c.in_ok-branch.was);
      sound = soundly_at_once one c.args.block.cluster is went;
      tables = λ k. refl;
      puts = puts_at_once one c.args.block.cluster is RbDependsOnL2 (Ok tt) (if_some _ c.args.block.cluster c.in-Some.cluster is (one.taken.new_data went));
    }

pub returns-in_err-before_rb : goal.returns-in_err-before_rb
returns-in_err-before_rb g c =
    let path = goal.at.returns-in_err-before_rb g c in
    let one = tried g path.In_ok-insert in
    let is = sym c.get_cluster.ensures.value ∙ c.in-Some.is in
    let full = c.in_ok-branch.was ∙ ap Ok c.if-branch.false in
    let e = c.in_err-before_rb.field-0.0 in
    record {
      step = put_step_as is (put_step_then one.step (put_step_on c.before_rb.ensures.step));
      fails = fails_since (one.tries.told.same _ c.in_ok-branch.was) (fails_on c.from_residual-in_err-before_rb.result e c.from_residual-in_err-before_rb.ensures (fails_putting (λ fit. fit.0) c.in_err-before_rb.ensures.fails));
      sound = puts_refused c.from_residual-in_err-before_rb.result e c.from_residual-in_err-before_rb.ensures (soundly_then refl (one.sound (λ went. let bad = sym full ∙ went in cc)) c.before_rb.ensures.sound);
      tables = c.before_rb.ensures.step.marks.tables;
      puts = puts_none one c.args.block.cluster is full c.before_rb.ensures.way c.from_residual-in_err-before_rb.result (on_no_ok _ c.from_residual-in_err-before_rb.result e c.from_residual-in_err-before_rb.ensures);
    }

pub returns-in_err-branch-2 : goal.returns-in_err-branch-2
returns-in_err-branch-2 g c =
    let path = goal.at.returns-in_err-branch-2 g c in
    let one = tried g path.In_ok-insert in
    let full = c.in_ok-branch.was ∙ ap Ok c.if-branch.false in
    let two = puts_block g.S.Storage.view true c.in-Some.cluster c.before_rb.new.storage c.insert-2.new.store c.before_rb.new.self c.in_ok-insert-2.field-0 c.insert-2.ensures.keeps.0 c.insert-2.new.self c.insert-2.ensures.kept (λ _. c.in_ok-before_rb.ensures.way.first) c.args.block c.insert.new.value c.insert-2.new.value (one.taken.kept full) (sym c.get_cluster.ensures.value ∙ c.in-Some.is) c.in_ok-insert-2.ensures.there c.in_ok-insert-2.ensures.missing in
    let is = sym c.get_cluster.ensures.value ∙ c.in-Some.is in
    let e = c.in_err-branch-2.field-0.0 in
    record {
      step = put_step_as is (put_step_then (put_step_then one.step (put_step_on c.before_rb.ensures.step)) two.step);
      fails = fails_since (c.in_ok-before_rb.ensures.fails.told ∙ one.tries.told.same _ c.in_ok-branch.was)
          (fails_cache c.in_ok-insert-2.field-0 e c.from_residual-in_err-branch-2.result two.tries.told c.in_err-branch-2.was c.from_residual-in_err-branch-2.ensures
          (block_put_as c.args.self.now c.before_rb.new.self (of_cache e) (held one.tries full c.before_rb.ensures.way) (two.tries.refused e c.in_err-branch-2.was)));
      sound = puts_refused c.from_residual-in_err-branch-2.result (of_cache e) c.from_residual-in_err-branch-2.ensures
          (soundly_then c.before_rb.ensures.step.marks.order (soundly_then refl (one.sound (λ went. let bad = sym full ∙ went in cc)) c.before_rb.ensures.sound) (two.sound (λ went. let bad = sym c.in_err-branch-2.was ∙ went in cc)));
      tables = c.before_rb.ensures.step.marks.tables;
      puts = puts_again one c.args.block.cluster is full c.before_rb.ensures.way two c.from_residual-in_err-branch-2.result (on_no_ok _ c.from_residual-in_err-branch-2.result (of_cache e) c.from_residual-in_err-branch-2.ensures);
    }

pub returns : goal.returns
returns g c =
    let path = goal.at.returns g c in
    let view = g.S.Storage.view in
    let one = tried g path.In_ok-insert in
    let full = c.in_ok-branch.was ∙ ap Ok c.if-branch.false in
    let two = puts_block g.S.Storage.view true c.in-Some.cluster c.before_rb.new.storage c.insert-2.new.store c.before_rb.new.self c.in_ok-insert-2.field-0 c.insert-2.ensures.keeps.0 c.insert-2.new.self c.insert-2.ensures.kept (λ _. c.in_ok-before_rb.ensures.way.first) c.args.block c.insert.new.value c.insert-2.new.value (one.taken.kept full) (sym c.get_cluster.ensures.value ∙ c.in-Some.is) c.in_ok-insert-2.ensures.there c.in_ok-insert-2.ensures.missing in
    let went = put_at_last c.in-Some.cluster c.args.block c.insert-2.new.self.entries c.in_ok-insert-2.field-0 c.insert-2.new.value c.in_ok-branch-2.field-0 c.in_ok-branch-2.was two.taken in
    let is = sym c.get_cluster.ensures.value ∙ c.in-Some.is in
    let a = c.args.self.now in
    let before = c.before_rb.new.self in
    let d = record before { rb = c.insert-2.new.self } in
    let same = c.before_rb.ensures.step.marks.order in
    let kept = soundly_then refl (one.sound (λ went. let bad = sym full ∙ went in cc)) c.before_rb.ensures.sound in
    record {
      step = put_step_as is (put_step_then (put_step_then one.step (put_step_on c.before_rb.ensures.step)) two.step);
      fails = fails_ok (two.tries.told.same _ c.in_ok-branch-2.was ∙ (c.in_ok-before_rb.ensures.fails.told ∙ one.tries.told.same _ c.in_ok-branch.was));
      sound = soundly_again one c.args.block.cluster is full c.before_rb.ensures.way two kept same
          (λ h p honest sound fits marked.
          let k = kept.keeps h p honest sound in
          if_some _ c.args.block.cluster c.in-Some.cluster is (λ free. laid_then view h p c.args.storage.now c.before_rb.new.storage c.insert-2.new.store a before d (laid_at h c.in-Some.cluster c.args.block.bytes) _ _ k (rw is at (two.lays went h p k.honest k.sound fits marked) (c.before_rb.ensures.free (cluster_size h) c.in-Some.cluster free))))
          (λ h honest are. if_some _ c.args.block.cluster c.in-Some.cluster is (blocks_under_then view c.args.storage.now c.before_rb.new.storage c.insert-2.new.store a before d c.in-Some.cluster c.args.block.bytes c.args.block.is_modified same kept.apart (λ h honest are. rw is at (two.lays_apart went h honest are)) h honest are));
      tables = c.before_rb.ensures.step.marks.tables;
      puts = puts_again one c.args.block.cluster is full c.before_rb.ensures.way two (Ok tt) (if_some _ c.args.block.cluster c.in-Some.cluster is (two.taken.new_data went));
    }

pub returns-in_err-insert-2 : goal.returns-in_err-insert-2
returns-in_err-insert-2 g c = record {
  step =
      rw (c.in_err-insert-2.ensures.refused.0, c.in_err-insert-2.ensures.refused.1) (put_step_as (sym c.get_cluster.ensures.value ∙ c.in-Some.is) (put_step_then (tried g (goal.at.returns-in_err-insert-2 g c).In_ok-insert).step (put_step_on c.before_rb.ensures.step)));
  fails =
      rw c.in_err-insert-2.ensures.refused.1 (fails_since (c.in_ok-before_rb.ensures.fails.told ∙ (tried g (goal.at.returns-in_err-insert-2 g c).In_ok-insert).tries.told.same _ c.in_ok-branch.was)
      (fails_on c.from_residual-in_err-insert-2.result I.Memory c.from_residual-in_err-insert-2.ensures (fails_by I.Memory memory_other refl (inr (inl (inr refl))))));
  sound =
      let full = c.in_ok-branch.was ∙ ap Ok c.if-branch.false in
      rw (c.in_err-insert-2.ensures.refused.0, c.in_err-insert-2.ensures.refused.1) (puts_refused c.from_residual-in_err-insert-2.result I.Memory c.from_residual-in_err-insert-2.ensures
      (soundly_then refl ((tried g (goal.at.returns-in_err-insert-2 g c).In_ok-insert).sound (λ went. let bad = sym full ∙ went in cc)) c.before_rb.ensures.sound));
  tables = c.before_rb.ensures.step.marks.tables;
  puts =
      let path = goal.at.returns-in_err-insert-2 g c in
      rw (c.in_err-insert-2.ensures.refused.0, c.in_err-insert-2.ensures.refused.1) (puts_none (tried g path.In_ok-insert) c.args.block.cluster (sym c.get_cluster.ensures.value ∙ c.in-Some.is) (c.in_ok-branch.was ∙ ap Ok c.if-branch.false) c.before_rb.ensures.way c.from_residual-in_err-insert-2.result
      (on_no_ok _ c.from_residual-in_err-insert-2.result I.Memory c.from_residual-in_err-insert-2.ensures));
}

pub returns-in_err-insert-clause-step : goal.returns-in_err-insert-clause-step
returns-in_err-insert-clause-step g c =
    rw (c.in_err-insert.ensures.refused.0, c.in_err-insert.ensures.refused.1) (put_step_as (sym c.get_cluster.ensures.value ∙ c.in-Some.is) (put_step_on cache_step_none))

pub returns-in_err-insert-clause-sound : goal.returns-in_err-insert-clause-sound
returns-in_err-insert-clause-sound g c =
    puts_refused c.from_residual.result I.Memory c.from_residual.ensures (rw (c.in_err-insert.ensures.refused.0, c.in_err-insert.ensures.refused.1) soundly_none)

pub returns-in_err-insert-clause-puts : goal.returns-in_err-insert-clause-puts
returns-in_err-insert-clause-puts g c =
    record {
      cached = on_no_ok _ c.from_residual.result I.Memory c.from_residual.ensures;
      stay = if_some _ c.args.block.cluster c.in-Some.cluster (sym c.get_cluster.ensures.value ∙ c.in-Some.is) (values_stay c.in-Some.cluster c.args.self.now.rb.entries c.insert.new.self.entries (stays_same eqb c.in-Some.cluster c.args.self.now.rb.entries c.insert.new.self.entries (ap (λ x. x.entries) c.in_err-insert.ensures.refused.0)));
      others_stay = λ _. refl;
      quiet = if_some _ c.args.block.cluster c.in-Some.cluster (sym c.get_cluster.ensures.value ∙ c.in-Some.is) (λ may honest. rw c.in_err-insert.ensures.refused.1 (quiet_none (g.S.Storage.view (storage_of c.args.storage.now)) honest));
    }

pub returns-in_err-insert-clause-tables : goal.returns-in_err-insert-clause-tables
returns-in_err-insert-clause-tables g c = λ k. refl

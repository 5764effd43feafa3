use Rattle.qcow2_alloc.proofs.Common.{refl, sym, true, false, Ok, ap, ◌∙◌, of_cache, rb_steps, storage_of}
use Rattle.qcow2_alloc.specs.declared.error.ImageError.TheVariants as I
use Rattle.qcow2_alloc.proofs.CachedEntries.Hits.{got_at_last, got_there, held_in_front}
use Rattle.qcow2_alloc.proofs.Lemmas.{never, on_no_ok, fails_ok, fails_on, fails_since, load_step_on, load_step_then, soundly_none, soundly_then, fails_cache, block_load_as, fails_putting}
use Rattle.qcow2_alloc.proofs.Tries.{LoadsBlock, loads_block, held, gets_at_once, gets_none, gets_again}
use Rattle.qcow2_laws.specs.Clusters.{RbDependsOnL2}
use Rattle.qcow2_alloc.proofs.cache.MetadataCaches.rb_get_or_insert.Given.{Over}
use Rattle.qcow2_alloc.proofs.cache.MetadataCaches.rb_get_or_insert.Goals.{In_ok-get_or_insert}
use Rattle.qcow2_alloc.proofs.cache.MetadataCaches.rb_get_or_insert.Goals as goal

-- What the first try does.
tried : (g : Over) (c : In_ok-get_or_insert g) → LoadsBlock g.S.Storage.view c.args.cluster false c.args.storage.now c.args.self.now c.in_ok-get_or_insert.field-0 c.get_or_insert.new.store (record c.args.self.now { rb = c.get_or_insert.new.self })
tried g c = loads_block g.S.Storage.view false c.args.cluster c.args.storage.now c.get_or_insert.new.store c.args.self.now c.in_ok-get_or_insert.field-0 c.get_or_insert.ensures.keeps.0 c.get_or_insert.new.self c.get_or_insert.ensures.kept (λ flush. never flush) c.in_ok-get_or_insert.ensures.hit c.in_ok-get_or_insert.ensures.miss c.get_or_insert.ensures.eviction

pub returns-in_err-branch : goal.returns-in_err-branch
returns-in_err-branch g c =
    let one = tried g (goal.at.returns-in_err-branch g c).In_ok-get_or_insert in
    record {
      step = one.step;
      fails = fails_cache c.in_ok-get_or_insert.field-0 c.in_err-branch.field-0.0 c.from_residual-in_err-branch.result one.tries.told c.in_err-branch.was c.from_residual-in_err-branch.ensures
          (block_load_as c.args.self.now c.args.self.now (of_cache c.in_err-branch.field-0.0) c.args.cluster refl (one.tries.refused c.in_err-branch.field-0.0 c.in_err-branch.was));
      sound = one.sound;
      gets = gets_at_once RbDependsOnL2 one c.from_residual-in_err-branch.result (λ is. absurd (let bad = sym is ∙ c.in_err-branch.was in cc)) (on_no_ok _ c.from_residual-in_err-branch.result (of_cache c.in_err-branch.field-0.0) c.from_residual-in_err-branch.ensures);
      tables = λ k. refl;
      held = λ there. absurd (let bad = sym (one.hit there).0 ∙ c.in_err-branch.was in cc);
    }

pub returns-then-branch : goal.returns-then-branch
returns-then-branch g c =
    let one = tried g (goal.at.returns-then-branch g c).In_ok-get_or_insert in
    record {
      step = one.step;
      fails = fails_ok (one.tries.told.same _ c.in_ok-branch.was);
      sound = one.sound;
      gets = gets_at_once RbDependsOnL2 one (Ok tt) (λ _. refl) (held_in_front c.args.cluster c.get_or_insert.new.self.entries (c.in_ok-get_or_insert.ensures.front (c.in_ok-branch.was ∙ ap Ok c.if-branch.true)));
      tables = λ k. refl;
      held = λ there. let got = got_there c.args.cluster c.args.self.now.rb.entries c.get_or_insert.new.self.entries c.args.storage.now c.get_or_insert.new.store c.in_ok-get_or_insert.field-0 c.in_ok-get_or_insert.ensures.hit there in (got.1, got.2);
    }

pub returns-in_err-before_rb : goal.returns-in_err-before_rb
returns-in_err-before_rb g c =
    let one = tried g (goal.at.returns-in_err-before_rb g c).In_ok-get_or_insert in
    record {
      step = load_step_then one.step (load_step_on c.before_rb.ensures.step);
      fails = fails_since (one.tries.told.same _ c.in_ok-branch.was) (fails_on c.from_residual-in_err-before_rb.result c.in_err-before_rb.field-0.0 c.from_residual-in_err-before_rb.ensures (fails_putting (λ fit. fit.0.0) c.in_err-before_rb.ensures.fails));
      sound = soundly_then refl one.sound c.before_rb.ensures.sound;
      gets = gets_none RbDependsOnL2 one (c.in_ok-branch.was ∙ ap Ok c.if-branch.false) c.before_rb.ensures.way c.from_residual-in_err-before_rb.result (on_no_ok _ c.from_residual-in_err-before_rb.result c.in_err-before_rb.field-0.0 c.from_residual-in_err-before_rb.ensures);
      tables = c.before_rb.ensures.step.marks.tables;
      held = λ there. absurd (let bad = sym (one.hit there).0 ∙ c.in_ok-branch.was ∙ ap Ok c.if-branch.false in cc);
    }

pub returns-in_err-branch-2 : goal.returns-in_err-branch-2
returns-in_err-branch-2 g c =
    let one = tried g (goal.at.returns-in_err-branch-2 g c).In_ok-get_or_insert in
    let two = loads_block g.S.Storage.view true c.args.cluster c.before_rb.new.storage c.get_or_insert-2.new.store c.before_rb.new.self c.in_ok-get_or_insert-2.field-0 c.get_or_insert-2.ensures.keeps.0 c.get_or_insert-2.new.self c.get_or_insert-2.ensures.kept (λ _. c.in_ok-before_rb.ensures.way.first) c.in_ok-get_or_insert-2.ensures.hit c.in_ok-get_or_insert-2.ensures.miss c.get_or_insert-2.ensures.eviction in
    let full = c.in_ok-branch.was ∙ ap Ok c.if-branch.false in
    record {
      step = load_step_then (load_step_then one.step (load_step_on c.before_rb.ensures.step)) two.step;
      fails = fails_since (c.in_ok-before_rb.ensures.fails.told ∙ one.tries.told.same _ c.in_ok-branch.was)
          (fails_cache c.in_ok-get_or_insert-2.field-0 c.in_err-branch-2.field-0.0 c.from_residual-in_err-branch-2.result two.tries.told c.in_err-branch-2.was c.from_residual-in_err-branch-2.ensures
          (block_load_as c.args.self.now c.before_rb.new.self (of_cache c.in_err-branch-2.field-0.0) c.args.cluster (held one.tries full c.before_rb.ensures.way) (two.tries.refused c.in_err-branch-2.field-0.0 c.in_err-branch-2.was)));
      sound = soundly_then c.before_rb.ensures.step.marks.order (soundly_then refl one.sound c.before_rb.ensures.sound) two.sound;
      gets = gets_again RbDependsOnL2 one full c.before_rb.ensures.way two c.from_residual-in_err-branch-2.result (on_no_ok _ c.from_residual-in_err-branch-2.result (of_cache c.in_err-branch-2.field-0.0) c.from_residual-in_err-branch-2.ensures);
      tables = c.before_rb.ensures.step.marks.tables;
      held = λ there. absurd (let bad = sym (one.hit there).0 ∙ full in cc);
    }

pub returns : goal.returns
returns g c =
    let one = tried g (goal.at.returns g c).In_ok-get_or_insert in
    let two = loads_block g.S.Storage.view true c.args.cluster c.before_rb.new.storage c.get_or_insert-2.new.store c.before_rb.new.self c.in_ok-get_or_insert-2.field-0 c.get_or_insert-2.ensures.keeps.0 c.get_or_insert-2.new.self c.get_or_insert-2.ensures.kept (λ _. c.in_ok-before_rb.ensures.way.first) c.in_ok-get_or_insert-2.ensures.hit c.in_ok-get_or_insert-2.ensures.miss c.get_or_insert-2.ensures.eviction in
    record {
      step = load_step_then (load_step_then one.step (load_step_on c.before_rb.ensures.step)) two.step;
      fails = fails_ok (two.tries.told.same _ c.in_ok-branch-2.was ∙ (c.in_ok-before_rb.ensures.fails.told ∙ one.tries.told.same _ c.in_ok-branch.was));
      sound = soundly_then c.before_rb.ensures.step.marks.order (soundly_then refl one.sound c.before_rb.ensures.sound) two.sound;
      gets = gets_again RbDependsOnL2 one (c.in_ok-branch.was ∙ ap Ok c.if-branch.false) c.before_rb.ensures.way two (Ok tt)
          (held_in_front c.args.cluster c.get_or_insert-2.new.self.entries (c.in_ok-get_or_insert-2.ensures.front
          (got_at_last (rb_steps (λ s. g.S.Storage.view (storage_of s)) c.before_rb.new.self.rb.backend.header.fields) c.before_rb.new.self.rb.size c.args.cluster c.before_rb.new.storage c.get_or_insert-2.new.store c.before_rb.new.self.rb.entries c.get_or_insert-2.new.self.entries c.in_ok-get_or_insert-2.field-0 c.in_ok-branch-2.field-0 c.in_ok-branch-2.was c.in_ok-get_or_insert-2.ensures.hit c.in_ok-get_or_insert-2.ensures.miss)));
      tables = c.before_rb.ensures.step.marks.tables;
      held = λ there. absurd (let bad = sym (one.hit there).0 ∙ c.in_ok-branch.was ∙ ap Ok c.if-branch.false in cc);
    }

pub returns-in_err-get_or_insert-clause-sound : goal.returns-in_err-get_or_insert-clause-sound
returns-in_err-get_or_insert-clause-sound g c = rw (c.in_err-get_or_insert.ensures.refused.0, c.in_err-get_or_insert.ensures.refused.1) soundly_none

pub returns-in_err-get_or_insert-2-clause-step : goal.returns-in_err-get_or_insert-2-clause-step
returns-in_err-get_or_insert-2-clause-step g c =
    rw (c.in_err-get_or_insert-2.ensures.refused.0, c.in_err-get_or_insert-2.ensures.refused.1) (load_step_then (tried g (goal.at.returns-in_err-get_or_insert-2-clause-step g c).In_ok-get_or_insert).step (load_step_on c.before_rb.ensures.step))

pub returns-in_err-get_or_insert-2-clause-sound : goal.returns-in_err-get_or_insert-2-clause-sound
returns-in_err-get_or_insert-2-clause-sound g c =
    rw (c.in_err-get_or_insert-2.ensures.refused.0, c.in_err-get_or_insert-2.ensures.refused.1) (soundly_then refl (tried g (goal.at.returns-in_err-get_or_insert-2-clause-sound g c).In_ok-get_or_insert).sound c.before_rb.ensures.sound)

pub returns-in_err-get_or_insert-2-clause-gets : goal.returns-in_err-get_or_insert-2-clause-gets
returns-in_err-get_or_insert-2-clause-gets g c =
    rw (c.in_err-get_or_insert-2.ensures.refused.0, c.in_err-get_or_insert-2.ensures.refused.1) (gets_none RbDependsOnL2 (tried g (goal.at.returns-in_err-get_or_insert-2-clause-gets g c).In_ok-get_or_insert) (c.in_ok-branch.was ∙ ap Ok c.if-branch.false) c.before_rb.ensures.way
    c.from_residual-in_err-get_or_insert-2.result (on_no_ok _ c.from_residual-in_err-get_or_insert-2.result I.Memory c.from_residual-in_err-get_or_insert-2.ensures))

pub returns-in_err-get_or_insert-2-clause-held : goal.returns-in_err-get_or_insert-2-clause-held
returns-in_err-get_or_insert-2-clause-held g c = λ there. absurd (let bad = sym ((tried g (goal.at.returns-in_err-get_or_insert-2-clause-held g c).In_ok-get_or_insert).hit there).0 ∙ c.in_ok-branch.was ∙ ap Ok c.if-branch.false in cc)

pub returns-in_err-get_or_insert-clause-held : goal.returns-in_err-get_or_insert-clause-held
returns-in_err-get_or_insert-clause-held g c = λ there. rw (c.in_err-get_or_insert.ensures.refused.0, c.in_err-get_or_insert.ensures.refused.1) (refl, λ k. refl)

pub returns-in_err-get_or_insert-clause-tables : goal.returns-in_err-get_or_insert-clause-tables
returns-in_err-get_or_insert-clause-tables g c = λ k. refl

pub returns-in_err-get_or_insert-2-clause-tables : goal.returns-in_err-get_or_insert-2-clause-tables
returns-in_err-get_or_insert-2-clause-tables g c = c.before_rb.ensures.step.marks.tables

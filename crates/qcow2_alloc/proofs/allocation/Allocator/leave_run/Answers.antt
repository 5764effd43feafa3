use Rattle.std.proofs.Common.{◌≡◌, ◌+◌, ◌-◌, ◌/◌, ◌^◌, inl, inr, false, true, refl, sym, ap, ◌∙◌, subst, arith}
use Rattle.qcow2_alloc.proofs.Common.{counts_per_block, one_at, Pending, Taken, taken_as, InternalAllocatorStep, GivesBack, IsUsed, with_run, lacks, faults_of}
use Rattle.qcow2_alloc.proofs.Lemmas.{fails_by_fault, handed_on, of_equal, not_in_run, search_as, search_same, search_then, taken_pending, used_stays, run_past, left_none, left_one, left_fault, owed_now, fails_ok, fails_on, fails_since, table_step_none, table_step_then, table_step_as, on_no_ok}
use Rattle.qcow2_alloc.proofs.allocation.Allocator.leave_run.Goals.{then-not-lacks_block+in_ok-decrement_or_leak, else-not-lacks_block}
use Rattle.qcow2_alloc.proofs.allocation.Allocator.leave_run.Goals as goal

pub leaving-init : goal.leaving-init
leaving-init g c = record {
  faults = refl;
  step = table_step_none;
  reftable = refl;
  first = search_same c.args.self.now;
  counts = c.rb_bits-bits.ensures.counts;
  sound = λ p start same b.
      let whole : c.args.n ≡ c.args.first + c.args.n - c.args.first = omega arith in
      subst (λ m. InternalAllocatorStep g.S.Storage.view p start c.args.self.now c.args.file.now (with_run p start.header.fields c.args.self.now.reftable c.args.first m)) whole b;
  leaks = λ p start same b. refl;
  kept = λ p start same b k none used. used;
}

pub leaving-preserved : goal.leaving-preserved
leaving-preserved g c =
    let view = g.S.Storage.view in
    let t = c.args.self.now.reftable in
    let at = c.leaving.cluster in
    let end = c.args.first + c.args.n in
    elim c.if-not-lacks_block.branch [
      | then-not-lacks_block+in_ok-decrement_or_leak w ↦ record {
        faults = subst (λ f. faults_of g.S.Storage.view f.storage ≡ faults_of g.S.Storage.view c.args.file.now.storage) (sym w.file-is) (w.in_ok-decrement_or_leak.ensures.fails.told ∙ c.leaving.invariant.faults);
        step = table_step_as (ap (λ a. a.reftable) w.self-is) w.file-is (table_step_then c.leaving.invariant.step w.decrement_or_leak.ensures.step);
        reftable = ap (λ a. a.reftable) w.self-is ∙ w.decrement_or_leak.ensures.reftable ∙ c.leaving.invariant.reftable;
        first = search_as c.args.self.now w.decrement_or_leak.new.self c.if-not-lacks_block.self w.self-is
            (search_then c.args.self.now c.leaving.self w.decrement_or_leak.new.self c.leaving.invariant.first (w.decrement_or_leak.ensures.first (let low = c.requires.free in let is = c.leaving.invariant.first.first in let le = c.leaving.auto.cluster in omega (arith, low, is, le))));
        counts = c.leaving.invariant.counts;
        sound = λ p start same b.
            let before = c.leaving.invariant.sound p start same b in
            let has : lacks t (at / counts_per_block start.header.fields) ≡ false =
            ap (λ x. lacks t (at / counts_per_block x.fields)) same ∙ ap (λ n. lacks t (at / n)) c.leaving.invariant.counts ∙ ap (λ x. lacks x (at / 2 ^ c.rb_bits-bits.result)) (sym c.leaving.invariant.reftable)
            ∙ sym c.lacks_block.ensures ∙ w.if-not-lacks_block.true in
            let low = (w.in_ok-decrement_or_leak.ensures.sound (with_run p start.header.fields t (at + 1) (end - (at + 1))) (Taken false) (owed_now view p t at end start c.leaving.file w.decrement_or_leak.new.file c.leaving.self w.decrement_or_leak.new.self c.leaving-test.true has before) tt).gives in
            of_equal (λ a f. InternalAllocatorStep view p start a f (with_run p start.header.fields t (at + 1) (end - (at + 1)))) c.if-not-lacks_block.self w.decrement_or_leak.new.self c.if-not-lacks_block.file w.decrement_or_leak.new.file w.self-is w.file-is
            (left_one view p t at end start c.leaving.file w.decrement_or_leak.new.file c.leaving.self w.decrement_or_leak.new.self c.leaving-test.true has before low);
        leaks = λ p start same b.
            let before = c.leaving.invariant.sound p start same b in
            let has : lacks t (at / counts_per_block start.header.fields) ≡ false =
            ap (λ x. lacks t (at / counts_per_block x.fields)) same ∙ ap (λ n. lacks t (at / n)) c.leaving.invariant.counts ∙ ap (λ x. lacks x (at / 2 ^ c.rb_bits-bits.result)) (sym c.leaving.invariant.reftable)
            ∙ sym c.lacks_block.ensures ∙ w.if-not-lacks_block.true in
            ap (λ a. a.leaked_clusters) w.self-is
            ∙ (w.decrement_or_leak.ensures.sound (with_run p start.header.fields t (at + 1) (end - (at + 1))) (Taken false) (owed_now view p t at end start c.leaving.file w.decrement_or_leak.new.file c.leaving.self w.decrement_or_leak.new.self c.leaving-test.true has before) tt).leaks
            ∙ c.leaving.invariant.leaks p start same b;
        kept = λ p start same b k none used.
            let before = c.leaving.invariant.sound p start same b in
            let has : lacks t (at / counts_per_block start.header.fields) ≡ false =
            ap (λ x. lacks t (at / counts_per_block x.fields)) same ∙ ap (λ n. lacks t (at / n)) c.leaving.invariant.counts ∙ ap (λ x. lacks x (at / 2 ^ c.rb_bits-bits.result)) (sym c.leaving.invariant.reftable)
            ∙ sym c.lacks_block.ensures ∙ w.if-not-lacks_block.true in
            let q : Pending = with_run p start.header.fields t (at + 1) (end - (at + 1)) in
            let low = (w.in_ok-decrement_or_leak.ensures.sound q (Taken false) (owed_now view p t at end start c.leaving.file w.decrement_or_leak.new.file c.leaving.self w.decrement_or_leak.new.self c.leaving-test.true has before) tt).gives in
            let other = not_in_run c.args.first c.args.n at k c.leaving.auto.cluster c.leaving-test.true none in
            let pending = taken_pending false q (one_at at) k in
            subst (λ f. IsUsed view f k) (sym w.file-is)
            (used_stays view (taken_as false q (one_at at)) q c.leaving.file w.decrement_or_leak.new.file w.decrement_or_leak.new.self k low (omega (arith, other, pending)) (c.leaving.invariant.kept p start same b k none used));
      }
      | else-not-lacks_block w ↦ record {
        faults = subst (λ f. faults_of g.S.Storage.view f.storage ≡ faults_of g.S.Storage.view c.args.file.now.storage) (sym w.file-is) c.leaving.invariant.faults;
        step = table_step_as (ap (λ a. a.reftable) w.self-is) w.file-is c.leaving.invariant.step;
        reftable = ap (λ a. a.reftable) w.self-is ∙ c.leaving.invariant.reftable;
        first = search_as c.args.self.now c.leaving.self c.if-not-lacks_block.self w.self-is c.leaving.invariant.first;
        counts = c.leaving.invariant.counts;
        sound = λ p start same b.
            let before = c.leaving.invariant.sound p start same b in
            let none : lacks t (at / counts_per_block start.header.fields) ≡ true =
            ap (λ x. lacks t (at / counts_per_block x.fields)) same ∙ ap (λ n. lacks t (at / n)) c.leaving.invariant.counts ∙ ap (λ x. lacks x (at / 2 ^ c.rb_bits-bits.result)) (sym c.leaving.invariant.reftable)
            ∙ sym c.lacks_block.ensures ∙ w.if-not-lacks_block.false in
            of_equal (λ a f. InternalAllocatorStep view p start a f (with_run p start.header.fields t (at + 1) (end - (at + 1)))) c.if-not-lacks_block.self c.leaving.self c.if-not-lacks_block.file c.leaving.file w.self-is w.file-is
            (left_none view p t at end start c.leaving.file c.leaving.self c.leaving-test.true none before);
        leaks = λ p start same b. ap (λ a. a.leaked_clusters) w.self-is ∙ c.leaving.invariant.leaks p start same b;
        kept = λ p start same b k none used. subst (λ f. IsUsed view f k) (sym w.file-is) (c.leaving.invariant.kept p start same b k none used);
      }
    ]

pub returns-in_err-decrement_or_leak : goal.returns-in_err-decrement_or_leak
returns-in_err-decrement_or_leak g c = record {
  step = table_step_then c.leaving.invariant.step c.decrement_or_leak.ensures.step;
  reftable = c.decrement_or_leak.ensures.reftable ∙ c.leaving.invariant.reftable;
  first =
      search_then c.args.self.now c.leaving.self c.decrement_or_leak.new.self c.leaving.invariant.first (c.decrement_or_leak.ensures.first (let low = c.requires.free in let is = c.leaving.invariant.first.first in let le = c.leaving.auto.cluster in omega (arith, low, is, le)));
  sound = λ p start same b.
      let view = g.S.Storage.view in
      let t = c.args.self.now.reftable in
      let at = c.leaving.cluster in
      let end = c.args.first + c.args.n in
      let before = c.leaving.invariant.sound p start same b in
      let has : lacks t (at / counts_per_block start.header.fields) ≡ false = ap (λ x. lacks t (at / counts_per_block x.fields)) same ∙ ap (λ n. lacks t (at / n)) c.leaving.invariant.counts ∙ ap (λ x. lacks x (at / 2 ^ c.rb_bits-bits.result)) (sym c.leaving.invariant.reftable)
      ∙ sym c.lacks_block.ensures ∙ c.if-not-lacks_block.true in
      record {
        gives = λ recorded. let low = (c.in_err-decrement_or_leak.ensures.sound (with_run p start.header.fields t (at + 1) (end - (at + 1))) (Taken false) (owed_now view p t at end start c.leaving.file c.decrement_or_leak.new.file c.leaving.self c.decrement_or_leak.new.self c.leaving-test.true has before) tt).gives in
            handed_on (GivesBack view p start c.decrement_or_leak.new.self c.decrement_or_leak.new.file p) c.from_residual.result c.in_err-decrement_or_leak.field-0.0 c.from_residual.ensures
            (left_fault view p t at end start c.leaving.file c.decrement_or_leak.new.file c.leaving.self c.decrement_or_leak.new.self c.leaving-test.true has before c.args.first c.args.n c.in_err-decrement_or_leak.field-0.0 c.leaving.auto.cluster c.leaving-test.true
            (elim recorded [ inl none ↦ inl none | inr changed ↦ inr (c.decrement_or_leak.ensures.step.marks.pins.changes.recorded (c.leaving.invariant.step.marks.pins.changes.recorded changed)) ]) low);
        leaks = (c.decrement_or_leak.ensures.sound (with_run p start.header.fields t (at + 1) (end - (at + 1))) (Taken false) (owed_now view p t at end start c.leaving.file c.decrement_or_leak.new.file c.leaving.self c.decrement_or_leak.new.self c.leaving-test.true has before) tt).leaks
            ∙ c.leaving.invariant.leaks p start same b;
        kept = on_no_ok _ c.from_residual.result c.in_err-decrement_or_leak.field-0.0 c.from_residual.ensures;
      };
  fails = fails_on c.from_residual.result c.in_err-decrement_or_leak.field-0.0 c.from_residual.ensures (fails_by_fault (fails_since c.leaving.invariant.faults c.in_err-decrement_or_leak.ensures.fails));
}

pub returns-clause-fails : goal.returns-clause-fails
returns-clause-fails g c = fails_ok c.leaving.invariant.faults

pub returns-clause-sound : goal.returns-clause-sound
returns-clause-sound g c = λ p start same b.
    record {
      gives = λ recorded. subst (λ (r : Pending). InternalAllocatorStep g.S.Storage.view p start c.leaving.self c.leaving.file r)
          (run_past start.header.fields c.args.self.now.reftable p c.leaving.cluster (c.args.first + c.args.n) (let past = c.leaving-test.false in omega arith)) (c.leaving.invariant.sound p start same b);
      leaks = c.leaving.invariant.leaks p start same b;
      kept = c.leaving.invariant.kept p start same b;
    }

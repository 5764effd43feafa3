use Rattle.std.proofs.Common.{◌≡◌, ◌+◌, ◌/◌, ◌^◌, false, inl, refl, sym, ap, ◌∙◌, subst, arith}
use Rattle.qcow2_alloc.proofs.Common.{counts_per_block, Pending, InternalAllocatorStep, counted_run, with_run, lacks, opens, ReachesRoom}
use Rattle.qcow2_alloc.proofs.Lemmas.{handed_on, allocator_step_none, is_sound_now, counted_few, run_taken, run_not_taken, ends_room, opened_none, opened_more, more_short, is_flag, flag_few, noted_more, still_noted, if_no_ok, fails_ok, fails_on, fails_since, table_step_none, table_step_then, hint_taken, passed_same}
use Rattle.qcow2_alloc.proofs.Rooms.{run_none}
use Rattle.qcow2_alloc.proofs.allocation.Allocator.reserve_room.Goals.{then-reaching-test+else-taken-end, else-reaching-test}
use Rattle.qcow2_alloc.proofs.allocation.Allocator.reserve_room.Goals as goal

pub reaching-init : goal.reaching-init
reaching-init g c = record {
  faults = refl;
  step = table_step_none;
  same = refl;
  counts = c.rb_bits-bits.ensures.counts;
  bits = let high = c.rb_bits-bits.ensures.high in omega (arith, high);
  sound = λ p sound.
      subst (λ (r : Pending). InternalAllocatorStep g.S.Storage.view p c.args.file.now c.args.self.now c.args.file.now r)
      (sym (run_none c.args.file.now.header.fields c.args.self.now.reftable p c.args.first 0 (λ k. counted_few c.args.file.now.header.fields c.args.self.now.reftable c.args.first 0 k refl)))
      (allocator_step_none g.S.Storage.view p c.args.file.now c.args.self.now sound);
  recorded = inl (λ k. counted_few c.args.file.now.header.fields c.args.self.now.reftable c.args.first 0 k refl);
  blocks = sym (opened_none c.args.self.now.reftable (counts_per_block c.args.file.now.header.fields) c.args.first);
  within = let lt = c.requires.below in omega (arith, lt);
  few = omega arith;
  up_to = omega arith;
  short = λ n below. absurd (omega (arith, below));
}

pub returns-in_err-allocate_if_free-clause-sound : goal.returns-in_err-allocate_if_free-clause-sound
returns-in_err-allocate_if_free-clause-sound g c = λ p sound.
    record {
      reaches = let before = c.reaching.invariant.sound p sound in
          let q : Pending = with_run p c.args.file.now.header.fields c.args.self.now.reftable c.args.first c.reaching.taken in
          let back = c.in_err-allocate_if_free.ensures.sound q (is_sound_now g.S.Storage.view p q c.args.file.now c.reaching.file c.reaching.self before) in
          handed_on (ReachesRoom g.S.Storage.view p c.args.file.now c.allocate_if_free.new.self c.allocate_if_free.new.file c.args.self.now.reftable c.args.first) c.from_residual.result c.in_err-allocate_if_free.field-0.0 c.from_residual.ensures (
            back.0,
            ends_room g.S.Storage.view p c.args.self.now.reftable c.args.first c.reaching.taken c.args.file.now c.reaching.file c.allocate_if_free.new.file c.reaching.self c.allocate_if_free.new.self c.in_err-allocate_if_free.field-0.0 before
                (still_noted c.args.file.now.header.fields c.args.self.now.reftable c.args.first c.reaching.taken c.reaching.file.caches.is_changed c.allocate_if_free.new.file.caches.is_changed c.allocate_if_free.ensures.step.marks.pins.changes.recorded c.reaching.invariant.recorded) back.0 back.1,
          );
      stopped = λ hint. if_no_ok _ c.from_residual.result c.in_err-allocate_if_free.field-0.0 c.from_residual.ensures;
    }

pub returns-then-not-branch : goal.returns-then-not-branch
returns-then-not-branch g c = record {
  step = table_step_then c.reaching.invariant.step c.allocate_if_free.ensures.step;
  fails = fails_ok (c.in_ok-allocate_if_free.ensures.fails.told ∙ c.reaching.invariant.faults);
  sound = λ p sound.
      record {
        reaches = let before = c.reaching.invariant.sound p sound in
            let q : Pending = with_run p c.args.file.now.header.fields c.args.self.now.reftable c.args.first c.reaching.taken in
            run_not_taken g.S.Storage.view p c.args.self.now.reftable c.args.first c.reaching.taken (c.args.first + c.reaching.taken) c.args.file.now c.reaching.file c.allocate_if_free.new.file c.reaching.self c.allocate_if_free.new.self c.reaching.self.reftable
            c.in_ok-allocate_if_free.field-0 before c.if-not-branch.true (c.in_ok-allocate_if_free.ensures.sound q (is_sound_now g.S.Storage.view p q c.args.file.now c.reaching.file c.reaching.self before));
        stopped = λ hint some within. let before = c.reaching.invariant.sound p sound in
            let q : Pending = with_run p c.args.file.now.header.fields c.args.self.now.reftable c.args.first c.reaching.taken in
            c.in_ok-allocate_if_free.ensures.used q (is_sound_now g.S.Storage.view p q c.args.file.now c.reaching.file c.reaching.self before)
            (hint_taken g.S.Storage.view p false (counted_run c.args.file.now.header.fields c.args.self.now.reftable c.args.first c.reaching.taken) c.args.file.now c.reaching.file c.args.self.now c.reaching.self before (passed_same c.args.self.now c.reaching.self c.reaching.invariant.same) hint) c.if-not-branch.true;
      };
  reach = record {
    within = c.reaching.invariant.within;
    few = c.reaching.invariant.few;
    blocks = c.reaching.invariant.blocks;
    short = λ some n le.
        more_short c.args.self.now.reftable (counts_per_block c.args.file.now.header.fields) c.args.first c.reaching.taken c.reaching.blocks c.args.clusters c.reaching.invariant.blocks c.reaching-test.true c.reaching.invariant.short n (omega (arith, le));
    recorded = still_noted c.args.file.now.header.fields c.args.self.now.reftable c.args.first c.reaching.taken c.reaching.file.caches.is_changed c.allocate_if_free.new.file.caches.is_changed c.allocate_if_free.ensures.step.marks.pins.changes.recorded c.reaching.invariant.recorded;
  };
  same = c.allocate_if_free.ensures.same ∙ c.reaching.invariant.same;
}

pub reaching-preserved : goal.reaching-preserved
reaching-preserved g c =
    let h = c.args.file.now.header.fields in
    let t = c.args.self.now.reftable in
    let same : c.reaching.self.reftable ≡ c.args.self.now.reftable = ap (λ a. a.reftable) c.reaching.invariant.same in
    let opens_now : c.opens_range.result ≡ opens t (counts_per_block h) c.args.first (c.args.first + c.reaching.taken) =
    c.opens_range.ensures ∙ ap (λ a. opens a.reftable (2 ^ c.rb_bits-bits.result) c.args.first (c.args.first + c.reaching.taken)) (c.allocate_if_free.ensures.same ∙ c.reaching.invariant.same)
    ∙ ap (λ n. opens t n c.args.first (c.args.first + c.reaching.taken)) (sym c.reaching.invariant.counts) in
    record {
      faults = c.in_ok-allocate_if_free.ensures.fails.told ∙ c.reaching.invariant.faults;
      step = table_step_then c.reaching.invariant.step c.allocate_if_free.ensures.step;
      same = c.allocate_if_free.ensures.same ∙ c.reaching.invariant.same;
      counts = c.reaching.invariant.counts;
      bits = c.reaching.invariant.bits;
      sound = λ p sound.
          let before = c.reaching.invariant.sound p sound in
          let q : Pending = with_run p h t c.args.first c.reaching.taken in
          run_taken g.S.Storage.view p t c.reaching.self.reftable c.args.first c.reaching.taken c.args.file.now c.reaching.file c.allocate_if_free.new.file c.reaching.self c.allocate_if_free.new.self c.in_ok-allocate_if_free.field-0
          (ap (λ x. x.fields) c.reaching.invariant.step.header) same before c.if-not-branch.false (c.in_ok-allocate_if_free.ensures.sound q (is_sound_now g.S.Storage.view p q c.args.file.now c.reaching.file c.reaching.self before));
      recorded = noted_more h t c.args.first c.reaching.taken c.reaching.file.caches.is_changed c.allocate_if_free.new.file.caches.is_changed c.allocate_if_free.ensures.step.marks.pins.changes.recorded c.reaching.invariant.recorded
          (λ has. c.in_ok-allocate_if_free.ensures.recorded c.if-not-branch.false
          (ap (λ x. lacks x ((c.args.first + c.reaching.taken) / 2 ^ c.rb_bits-bits.result)) same ∙ ap (λ n. lacks t ((c.args.first + c.reaching.taken) / n)) (sym c.reaching.invariant.counts) ∙ has));
      blocks = opened_more t (counts_per_block h) c.args.first c.reaching.taken c.reaching.blocks c.from.result c.opens_range.result opens_now (c.from.ensures ∙ is_flag c.opens_range.result) c.reaching.invariant.blocks;
      within = let lt = c.if-taken-end.true in let below = c.requires.below in omega (arith, lt, below);
      few = let le = c.reaching.invariant.few in let is = c.from.ensures ∙ is_flag c.opens_range.result in flag_few c.opens_range.result c.from.result c.reaching.blocks c.reaching.taken is le;
      up_to = let lt = c.reaching-test.true in omega (arith, lt);
      short = more_short t (counts_per_block h) c.args.first c.reaching.taken c.reaching.blocks c.args.clusters c.reaching.invariant.blocks c.reaching-test.true c.reaching.invariant.short;
    }

pub returns-clause-sound : goal.returns-clause-sound
returns-clause-sound g c = λ p sound.
    record {
      reaches = c.reaching.invariant.sound p sound;
      stopped = λ hint some within. elim c.reaching-test.branch [
        | then-reaching-test+else-taken-end w ↦ absurd (let past = w.if-taken-end.false in omega (arith, past, within))
        | else-reaching-test w ↦ absurd (some (let up_to = c.reaching.invariant.up_to in let past = w.reaching-test.false in omega (arith, up_to, past)))
      ];
    }

pub returns-in_err-allocate_if_free-clause-step : goal.returns-in_err-allocate_if_free-clause-step
returns-in_err-allocate_if_free-clause-step g c = table_step_then c.reaching.invariant.step c.allocate_if_free.ensures.step

pub returns-in_err-allocate_if_free-clause-fails : goal.returns-in_err-allocate_if_free-clause-fails
returns-in_err-allocate_if_free-clause-fails g c = fails_on c.from_residual.result c.in_err-allocate_if_free.field-0.0 c.from_residual.ensures (fails_since c.reaching.invariant.faults c.in_err-allocate_if_free.ensures.fails)

pub returns-in_err-allocate_if_free-clause-same : goal.returns-in_err-allocate_if_free-clause-same
returns-in_err-allocate_if_free-clause-same g c = c.allocate_if_free.ensures.same ∙ c.reaching.invariant.same

pub returns-clause-fails : goal.returns-clause-fails
returns-clause-fails g c = fails_ok c.reaching.invariant.faults

pub returns-clause-reach : goal.returns-clause-reach
returns-clause-reach g c = record {
  within = c.reaching.invariant.within;
  few = c.reaching.invariant.few;
  blocks = c.reaching.invariant.blocks;
  short = λ some n le. elim c.reaching-test.branch [
    | then-reaching-test+else-taken-end w ↦
        more_short c.args.self.now.reftable (counts_per_block c.args.file.now.header.fields) c.args.first c.reaching.taken c.reaching.blocks c.args.clusters c.reaching.invariant.blocks w.reaching-test.true c.reaching.invariant.short n (omega (arith, le))
    | else-reaching-test w ↦ absurd (some (let up_to = c.reaching.invariant.up_to in let past = w.reaching-test.false in omega (arith, up_to, past)))
  ];
  recorded = c.reaching.invariant.recorded;
}

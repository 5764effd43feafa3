use Rattle.std.proofs.Common.{◌≡◌, ◌≤◌, ◌<◌, ◌*◌, ◌/◌, ◌%◌, ◌^◌, mul-pos, inl, inr, false, sym, ap, ◌∙◌, refl, arith, Result, IsTrue, subst, ℕ, IfErr, IsSome}
use Rattle.qcow2_alloc.proofs.Common.{block_offset, counts_per_block, one_at, taken_as, HasNone, GetsBlock, IsFault, KeepsNoFreeBelowHint, div-mul-le_self, pow_pos, ImageError, IsHostCluster, IsBlockOf}
use Rattle.qcow2_alloc.proofs.Lemmas.{never_unaligned, leaves_then, lacking_above, hint_got, hint_placed, hint_refused, hint_stays, ok_as, passed_same, passed_still, range_as, not_broken, named_then, named_covered, none_named, handed_on, allocator_step_then, gets_then, gets_taken, is_sound_now, none_in_memory, stands_none, still_sound, host_below, is_able, placed_fault, range_near, not_both, on_no_ok, spares_then, kept_marks_then, limit_other, memory_other, other_as, fails_by, fails_ok, fails_on, fails_since, table_step_then}
use Rattle.qcow2_alloc.specs.declared.error.ImageError.TheVariants as I
use Rattle.qcow2_alloc.proofs.allocation.Allocator.ensure_block.Goals as goal

pub returns-in_err-load_block-clause-step : goal.returns-in_err-load_block-clause-step
returns-in_err-load_block-clause-step g c = c.load_block.ensures.step

pub returns-in_err-load_block-clause-fails : goal.returns-in_err-load_block-clause-fails
returns-in_err-load_block-clause-fails g c = fails_on c.from_residual.result c.in_err-load_block.field-0.0 c.from_residual.ensures c.in_err-load_block.ensures.fails

pub returns-in_err-load_block-clause-sound : goal.returns-in_err-load_block-clause-sound
returns-in_err-load_block-clause-sound g c = λ p sound.
    record {
      gets = handed_on (GetsBlock g.S.Storage.view p c.args.file.now c.args.self.now c.load_block.new.file) c.from_residual.result c.in_err-load_block.field-0.0 c.from_residual.ensures (c.in_err-load_block.ensures.sound p sound).1;
      hint = λ hint. handed_on (KeepsNoFreeBelowHint g.S.Storage.view c.args.self.now c.load_block.new.file) c.from_residual.result c.in_err-load_block.field-0.0 c.from_residual.ensures
          (hint_refused g.S.Storage.view p c.args.file.now c.load_block.new.file c.args.self.now c.args.self.now c.in_err-load_block.field-0.0 (passed_still c.args.self.now) (c.in_err-load_block.ensures.sound p sound).1 hint);
      fault = λ within near. handed_on (λ (r : Result (Unit {0}) ImageError). IfErr r IsFault) c.from_residual.result c.in_err-load_block.field-0.0 c.from_residual.ensures (c.in_err-load_block.ensures.sound p sound).0;
    }

pub returns-then-is_some-clause-step : goal.returns-then-is_some-clause-step
returns-then-is_some-clause-step g c = c.load_block.ensures.step

pub returns-then-is_some-clause-fails : goal.returns-then-is_some-clause-fails
returns-then-is_some-clause-fails g c = fails_ok c.in_ok-load_block.ensures.fails.told

pub returns-then-is_some-clause-sound : goal.returns-then-is_some-clause-sound
returns-then-is_some-clause-sound g c = λ p sound.
    record {
      gets = (c.in_ok-load_block.ensures.sound p sound).0;
      hint = λ hint. hint_stays g.S.Storage.view p c.args.file.now c.load_block.new.file c.args.self.now c.args.self.now (c.in_ok-load_block.ensures.sound p sound).0 (passed_still c.args.self.now) hint;
      fault = λ within near. tt;
    }

pub returns-then-not-can_name-clause-step : goal.returns-then-not-can_name-clause-step
returns-then-not-can_name-clause-step g c = c.load_block.ensures.step

pub returns-then-not-can_name-clause-fails : goal.returns-then-not-can_name-clause-fails
returns-then-not-can_name-clause-fails g c = fails_by I.Limit limit_other c.in_ok-load_block.ensures.fails.told tt

pub returns-then-not-can_name-clause-sound : goal.returns-then-not-can_name-clause-sound
returns-then-not-can_name-clause-sound g c = λ p sound.
    record {
      gets = let one = (c.in_ok-load_block.ensures.sound p sound).0 in inl (one.file_step, one.reftable);
      hint = λ hint. inl (hint_stays g.S.Storage.view p c.args.file.now c.load_block.new.file c.args.self.now c.args.self.now (c.in_ok-load_block.ensures.sound p sound).0 (passed_still c.args.self.now) hint);
      fault = λ within near. let here = host_below c.args.file.now.header.fields.cluster_bits c.new-first.result c.args.cluster (let is = c.new-first.ensures in let le = div-mul-le_self c.args.cluster (2 ^ c.rb_bits-bits.result) in omega (arith, is, le)) near in
          let range = ap (λ n. c.args.cluster / n) c.rb_bits-bits.ensures.counts in
          let l = c.in_ok-load_block.ensures.sound p sound in
          let above = lacking_above g.S.Storage.view p c.load_block.new.file (c.args.cluster / 2 ^ c.rb_bits-bits.result) l.0.file_step.sound (stands_none g.S.Storage.view c.load_block.new.file _ c.in_ok-load_block.field-0 (sym c.is_some.ensures ∙ c.if-is_some.false) l.1) in
          let some : 0 < c.args.cluster / 2 ^ c.rb_bits-bits.result * 2 ^ c.rb_bits-bits.result = mul-pos above (pow_pos c.rb_bits-bits.result) in
          let elsewhere : 0 < c.new-first.result = let is = c.new-first.ensures in let le = div-mul-le_self c.args.cluster (2 ^ c.rb_bits-bits.result) in let small = c.requires in omega (arith, is, le, some, small) in
          let able = is_able g.S.Storage.view p c.args.file.now c.args.self.now c.cluster_bits.result c.new-first.result (IsTrue c.can_name.result) sound
          (c.cluster_bits.ensures.value ∙ ap (λ h. h.fields.cluster_bits) c.load_block.ensures.step.header) here elsewhere (c.can_name.ensures.able (omega (arith, range, within))) in
          not_both c.can_name.result able c.if-not-can_name.true;
    }

pub returns-in_err-block-clause-step : goal.returns-in_err-block-clause-step
returns-in_err-block-clause-step g c = c.load_block.ensures.step

pub returns-in_err-block-clause-fails : goal.returns-in_err-block-clause-fails
returns-in_err-block-clause-fails g c = fails_on c.from_residual-in_err-block.result c.in_err-block.field-0.0 c.from_residual-in_err-block.ensures (fails_by c.in_err-block.field-0.0 (other_as c.in_err-block.ensures.memory memory_other) c.in_ok-load_block.ensures.fails.told (never_unaligned _ c.in_err-block.field-0.0 c.in_err-block.ensures.cause))

pub returns-in_err-block-clause-sound : goal.returns-in_err-block-clause-sound
returns-in_err-block-clause-sound g c = λ p sound.
    let one = (c.in_ok-load_block.ensures.sound p sound).0 in
    record {
      gets = handed_on (GetsBlock g.S.Storage.view p c.args.file.now c.args.self.now c.load_block.new.file) c.from_residual-in_err-block.result c.in_err-block.field-0.0 c.from_residual-in_err-block.ensures (inl (one.file_step, one.reftable));
      hint = λ hint. handed_on (KeepsNoFreeBelowHint g.S.Storage.view c.args.self.now c.load_block.new.file) c.from_residual-in_err-block.result c.in_err-block.field-0.0 c.from_residual-in_err-block.ensures
          (inl (hint_stays g.S.Storage.view p c.args.file.now c.load_block.new.file c.args.self.now c.args.self.now one (passed_still c.args.self.now) hint));
      fault = λ within near. handed_on (λ (r : Result (Unit {0}) ImageError). IfErr r IsFault) c.from_residual-in_err-block.result c.in_err-block.field-0.0 c.from_residual-in_err-block.ensures (inr c.in_err-block.ensures.memory);
    }

pub returns-in_err-block-clause-has : goal.returns-in_err-block-clause-has
returns-in_err-block-clause-has g c = on_no_ok _ c.from_residual-in_err-block.result c.in_err-block.field-0.0 c.from_residual-in_err-block.ensures

pub returns-then-is_fault-clause-step : goal.returns-then-is_fault-clause-step
returns-then-is_fault-clause-step g c = table_step_then c.load_block.ensures.step c.allocate_lowest_below.ensures.step

pub returns-then-is_fault-clause-fails : goal.returns-then-is_fault-clause-fails
returns-then-is_fault-clause-fails g c = fails_since c.in_ok-load_block.ensures.fails.told c.in-Err.ensures.fails

pub returns-then-is_fault-clause-sound : goal.returns-then-is_fault-clause-sound
returns-then-is_fault-clause-sound g c = λ p sound.
    let one = (c.in_ok-load_block.ensures.sound p sound).0 in
    record {
      gets = leaves_then g.S.Storage.view p c.args.file.now c.load_block.new.file c.allocate_lowest_below.new.file c.allocate_lowest_below.new.self c.in-Err.refusal one.file_step (c.in-Err.ensures.sound p (is_sound_now g.S.Storage.view p p c.args.file.now c.load_block.new.file c.args.self.now one));
      hint = λ hint. let now = is_sound_now g.S.Storage.view p p c.args.file.now c.load_block.new.file c.args.self.now one in
          c.in-Err.ensures.hint p now (hint_stays g.S.Storage.view p c.args.file.now c.load_block.new.file c.args.self.now c.args.self.now one (passed_still c.args.self.now) hint);
      fault = λ within near. c.is_fault.ensures.0 c.if-is_fault.true;
    }

pub returns-in-Ok-Some-clause-step : goal.returns-in-Ok-Some-clause-step
returns-in-Ok-Some-clause-step g c = record {
  header = c.place_block.ensures.step.header ∙ c.allocate_lowest_below.ensures.step.header ∙ c.load_block.ensures.step.header;
  list = c.place_block.ensures.step.list ∙ c.allocate_lowest_below.ensures.step.list ∙ c.load_block.ensures.step.list;
  named = let range = c.args.cluster / 2 ^ c.rb_bits-bits.result in
      let none = none_named c.args.file.now.header.fields c.args.self.now.reftable range c.in_ok-load_block.field-0 (sym c.is_some.ensures ∙ c.if-is_some.false) c.in_ok-load_block.ensures.finds.names in
      let counts : counts_per_block c.load_block.new.file.header.fields ≡ 2 ^ c.rb_bits-bits.result = ap (λ h. counts_per_block h.fields) c.load_block.ensures.step.header ∙ c.rb_bits-bits.ensures.counts in
      let e = ap (λ n. c.args.cluster / 2 ^ c.rb_bits-bits.result * n) counts in
      let past : c.args.cluster / 2 ^ c.rb_bits-bits.result * 2 ^ c.rb_bits-bits.result % 18446744073709551616 ≤ c.args.cluster / 2 ^ c.rb_bits-bits.result * counts_per_block c.load_block.new.file.header.fields = omega (arith, e) in
      let still : HasNone c.allocate_lowest_below.new.self.reftable range = ap block_offset (c.in-Ok-Some.ensures.entries.others range past) ∙ none in
      named_then c.args.self.now.reftable c.allocate_lowest_below.new.self.reftable c.place_block.new.self.reftable c.allocate_lowest_below.ensures.step.named
      (named_covered c.allocate_lowest_below.new.self.reftable c.place_block.new.self.reftable range still c.place_block.ensures.step.named);
  marks = kept_marks_then (kept_marks_then c.load_block.ensures.step.marks c.allocate_lowest_below.ensures.step.marks) c.place_block.ensures.step.marks;
  header_cluster = spares_then (spares_then c.load_block.ensures.step.header_cluster c.allocate_lowest_below.ensures.step.header_cluster) c.place_block.ensures.step.header_cluster;
}

pub returns-in-Ok-Some-clause-fails : goal.returns-in-Ok-Some-clause-fails
returns-in-Ok-Some-clause-fails g c = fails_since (c.in-Ok-Some.ensures.fails.told ∙ c.in_ok-load_block.ensures.fails.told) c.place_block.ensures.fails

pub returns-in-Ok-Some-clause-sound : goal.returns-in-Ok-Some-clause-sound
returns-in-Ok-Some-clause-sound g c = λ p sound.
    let l = c.in_ok-load_block.ensures.sound p sound in
    let none = none_in_memory g.S.Storage.view p c.load_block.new.file c.args.self.now.reftable l.0.file_step.sound l.0.reftable _ (stands_none g.S.Storage.view c.load_block.new.file _ c.in_ok-load_block.field-0 (sym c.is_some.ensures ∙ c.if-is_some.false) l.1) in
    let two = rw c.in-Ok-Some.field-0-is at (c.in-Ok-Some.ensures.sound p (is_sound_now g.S.Storage.view p p c.args.file.now c.load_block.new.file c.args.self.now l.0)) in
    let counts : counts_per_block c.load_block.new.file.header.fields ≡ 2 ^ c.rb_bits-bits.result = ap (λ h. counts_per_block h.fields) c.load_block.ensures.step.header ∙ c.rb_bits-bits.ensures.counts in
    let e = ap (λ n. c.args.cluster / 2 ^ c.rb_bits-bits.result * n) counts in
    let past : c.args.cluster / 2 ^ c.rb_bits-bits.result * 2 ^ c.rb_bits-bits.result % 18446744073709551616 ≤ c.args.cluster / 2 ^ c.rb_bits-bits.result * counts_per_block c.load_block.new.file.header.fields = omega (arith, e) in
    let still : HasNone c.allocate_lowest_below.new.self.reftable (c.args.cluster / 2 ^ c.rb_bits-bits.result) = ap block_offset (c.in-Ok-Some.ensures.entries.others (c.args.cluster / 2 ^ c.rb_bits-bits.result) past) ∙ none in
    let taken = allocator_step_then g.S.Storage.view p (taken_as false p (one_at c.in-Ok-Some.at)) c.args.file.now c.load_block.new.file c.allocate_lowest_below.new.file c.args.self.now c.allocate_lowest_below.new.self l.0 two in
    record {
      gets = let recorded = rw c.in-Ok-Some.field-0-is at c.in-Ok-Some.ensures.recorded in
          gets_taken g.S.Storage.view p c.args.file.now c.allocate_lowest_below.new.file c.place_block.new.file c.allocate_lowest_below.new.self c.place_block.new.self _ c.in-Ok-Some.at c.place_block.result taken (c.place_block.ensures.step.marks.pins.changes.recorded (recorded refl))
          (c.place_block.ensures.sound p false (is_sound_now g.S.Storage.view p (taken_as false p (one_at c.in-Ok-Some.at)) c.args.file.now c.allocate_lowest_below.new.file c.allocate_lowest_below.new.self taken) (record { none = still; first = tt }) c.in_ok-block.ensures.counts);
      hint = λ hint. let here = hint_stays g.S.Storage.view p c.args.file.now c.load_block.new.file c.args.self.now c.args.self.now l.0 (passed_still c.args.self.now) hint in
          hint_placed g.S.Storage.view p c.allocate_lowest_below.new.file c.place_block.new.file c.allocate_lowest_below.new.self c.place_block.new.self (c.args.cluster / 2 ^ c.rb_bits-bits.result) c.in-Ok-Some.at c.place_block.result (passed_same _ c.place_block.new.self c.place_block.ensures.rest)
          (c.place_block.ensures.sound p false (is_sound_now g.S.Storage.view p (taken_as false p (one_at c.in-Ok-Some.at)) c.args.file.now c.allocate_lowest_below.new.file c.allocate_lowest_below.new.self taken) (record { none = still; first = tt }) c.in_ok-block.ensures.counts)
          (c.in-Ok-Some.ensures.hint p (is_sound_now g.S.Storage.view p p c.args.file.now c.load_block.new.file c.args.self.now l.0) here);
      fault = λ within near. placed_fault g.S.Storage.view (taken_as false p (one_at c.in-Ok-Some.at)) p c.allocate_lowest_below.new.file c.place_block.new.file c.place_block.new.self (c.args.cluster / 2 ^ c.rb_bits-bits.result) c.in-Ok-Some.at c.place_block.result
          (c.place_block.ensures.sound p false (is_sound_now g.S.Storage.view p (taken_as false p (one_at c.in-Ok-Some.at)) c.args.file.now c.allocate_lowest_below.new.file c.allocate_lowest_below.new.self taken) (record { none = still; first = tt }) c.in_ok-block.ensures.counts);
    }

pub returns-in-Ok-None-clause-step : goal.returns-in-Ok-None-clause-step
returns-in-Ok-None-clause-step g c = table_step_then (table_step_then c.load_block.ensures.step c.allocate_lowest_below.ensures.step) c.ensure_self_counting_refblock.ensures.step

pub returns-in-Ok-None-clause-fails : goal.returns-in-Ok-None-clause-fails
returns-in-Ok-None-clause-fails g c = fails_since (c.in-Ok-None.ensures.fails.told ∙ c.in_ok-load_block.ensures.fails.told) c.ensure_self_counting_refblock.ensures.fails

pub returns-in-Ok-None-clause-sound : goal.returns-in-Ok-None-clause-sound
returns-in-Ok-None-clause-sound g c = λ p sound.
    let one = (c.in_ok-load_block.ensures.sound p sound).0 in
    record {
      gets = let two = rw c.in-Ok-None.field-0-is at (c.in-Ok-None.ensures.sound p (is_sound_now g.S.Storage.view p p c.args.file.now c.load_block.new.file c.args.self.now one)) in
          let before = allocator_step_then g.S.Storage.view p p c.args.file.now c.load_block.new.file c.allocate_lowest_below.new.file c.args.self.now c.allocate_lowest_below.new.self one two in
          gets_then g.S.Storage.view p c.args.file.now c.allocate_lowest_below.new.file c.ensure_self_counting_refblock.new.file c.allocate_lowest_below.new.self c.ensure_self_counting_refblock.new.self c.ensure_self_counting_refblock.result before
          ((c.ensure_self_counting_refblock.ensures.sound p (is_sound_now g.S.Storage.view p p c.args.file.now c.allocate_lowest_below.new.file c.allocate_lowest_below.new.self before)).gets);
      hint = λ hint. let now = is_sound_now g.S.Storage.view p p c.args.file.now c.load_block.new.file c.args.self.now one in
          let two = rw c.in-Ok-None.field-0-is at (c.in-Ok-None.ensures.sound p now) in
          let still = hint_stays g.S.Storage.view p c.args.file.now c.load_block.new.file c.args.self.now c.args.self.now one (passed_still c.args.self.now) hint in
          hint_got g.S.Storage.view p c.allocate_lowest_below.new.file c.ensure_self_counting_refblock.new.file c.allocate_lowest_below.new.self c.ensure_self_counting_refblock.new.self c.ensure_self_counting_refblock.result c.ensure_self_counting_refblock.ensures.first.passed
          ((c.ensure_self_counting_refblock.ensures.sound p (is_sound_now g.S.Storage.view p p c.load_block.new.file c.allocate_lowest_below.new.file c.allocate_lowest_below.new.self two)).gets) (c.in-Ok-None.ensures.hint p now still);
      fault = λ within near. let two = rw c.in-Ok-None.field-0-is at (c.in-Ok-None.ensures.sound p (is_sound_now g.S.Storage.view p p c.args.file.now c.load_block.new.file c.args.self.now one)) in
          let count = c.in-Ok-None.ensures.entries.count in
          let same = ap (λ x. x.fields) (c.allocate_lowest_below.ensures.step.header ∙ c.load_block.ensures.step.header) in
          let here = range_near c.args.file.now.header.fields c.allocate_lowest_below.new.file.header.fields c.args.cluster c.rb_bits-bits.result same c.rb_bits-bits.ensures.counts near in
          let range = ap (λ n. c.args.cluster / n) c.rb_bits-bits.ensures.counts in
          (c.ensure_self_counting_refblock.ensures.sound p (is_sound_now g.S.Storage.view p p c.load_block.new.file c.allocate_lowest_below.new.file c.allocate_lowest_below.new.self two)).fault (omega (arith, range, count, within)) here;
    }

pub returns-else-is_fault-clause-step : goal.returns-else-is_fault-clause-step
returns-else-is_fault-clause-step g c = table_step_then (table_step_then c.load_block.ensures.step c.allocate_lowest_below.ensures.step) c.ensure_self_counting_refblock-in-Err.ensures.step

pub returns-else-is_fault-clause-fails : goal.returns-else-is_fault-clause-fails
returns-else-is_fault-clause-fails g c = fails_since (c.in-Err.ensures.fails.told (λ is. not_both c.is_fault.result (c.is_fault.ensures.1 (inl is)) c.if-is_fault.false) ∙ c.in_ok-load_block.ensures.fails.told) c.ensure_self_counting_refblock-in-Err.ensures.fails

pub returns-else-is_fault-clause-sound : goal.returns-else-is_fault-clause-sound
returns-else-is_fault-clause-sound g c = λ p sound.
    let one = (c.in_ok-load_block.ensures.sound p sound).0 in
    record {
      gets = let two = still_sound g.S.Storage.view p c.load_block.new.file c.allocate_lowest_below.new.file c.allocate_lowest_below.new.self c.in-Err.refusal (λ fault. not_both c.is_fault.result (c.is_fault.ensures.1 fault) c.if-is_fault.false)
          (c.in-Err.ensures.sound p (is_sound_now g.S.Storage.view p p c.args.file.now c.load_block.new.file c.args.self.now one)) in
          let before = allocator_step_then g.S.Storage.view p p c.args.file.now c.load_block.new.file c.allocate_lowest_below.new.file c.args.self.now c.allocate_lowest_below.new.self one two in
          gets_then g.S.Storage.view p c.args.file.now c.allocate_lowest_below.new.file c.ensure_self_counting_refblock-in-Err.new.file c.allocate_lowest_below.new.self c.ensure_self_counting_refblock-in-Err.new.self c.ensure_self_counting_refblock-in-Err.result before
          ((c.ensure_self_counting_refblock-in-Err.ensures.sound p (is_sound_now g.S.Storage.view p p c.args.file.now c.allocate_lowest_below.new.file c.allocate_lowest_below.new.self before)).gets);
      hint = λ hint. let now = is_sound_now g.S.Storage.view p p c.args.file.now c.load_block.new.file c.args.self.now one in
          let no_fault : IsFault c.in-Err.refusal → ⊥ = λ fault. not_both c.is_fault.result (c.is_fault.ensures.1 fault) c.if-is_fault.false in
          let two = still_sound g.S.Storage.view p c.load_block.new.file c.allocate_lowest_below.new.file c.allocate_lowest_below.new.self c.in-Err.refusal no_fault (c.in-Err.ensures.sound p now) in
          let still = hint_stays g.S.Storage.view p c.args.file.now c.load_block.new.file c.args.self.now c.args.self.now one (passed_still c.args.self.now) hint in
          hint_got g.S.Storage.view p c.allocate_lowest_below.new.file c.ensure_self_counting_refblock-in-Err.new.file c.allocate_lowest_below.new.self c.ensure_self_counting_refblock-in-Err.new.self c.ensure_self_counting_refblock-in-Err.result c.ensure_self_counting_refblock-in-Err.ensures.first.passed
          ((c.ensure_self_counting_refblock-in-Err.ensures.sound p (is_sound_now g.S.Storage.view p p c.load_block.new.file c.allocate_lowest_below.new.file c.allocate_lowest_below.new.self two)).gets) (not_broken c.allocate_lowest_below.new.file c.in-Err.refusal no_fault (c.in-Err.ensures.hint p now still));
      fault = λ within near. let two = still_sound g.S.Storage.view p c.load_block.new.file c.allocate_lowest_below.new.file c.allocate_lowest_below.new.self c.in-Err.refusal (λ fault. not_both c.is_fault.result (c.is_fault.ensures.1 fault) c.if-is_fault.false)
          (c.in-Err.ensures.sound p (is_sound_now g.S.Storage.view p p c.args.file.now c.load_block.new.file c.args.self.now one)) in
          let count = c.in-Err.ensures.entries.count in
          let same = ap (λ x. x.fields) (c.allocate_lowest_below.ensures.step.header ∙ c.load_block.ensures.step.header) in
          let here = range_near c.args.file.now.header.fields c.allocate_lowest_below.new.file.header.fields c.args.cluster c.rb_bits-bits.result same c.rb_bits-bits.ensures.counts near in
          let range = ap (λ n. c.args.cluster / n) c.rb_bits-bits.ensures.counts in
          (c.ensure_self_counting_refblock-in-Err.ensures.sound p (is_sound_now g.S.Storage.view p p c.load_block.new.file c.allocate_lowest_below.new.file c.allocate_lowest_below.new.self two)).fault (omega (arith, range, count, within)) here;
    }

-- the first cluster of a range lies no further on than one of its clusters
range_small : (cluster n counts : ℕ) → counts ≡ n → cluster < 2 ^ 63 → cluster / n * counts < 2 ^ 63
range_small cluster n counts is small = let le = div-mul-le_self cluster n in subst (λ k. cluster / n * k < 2 ^ 63) (sym is) (omega (arith, le, small))

begin_small : (cluster n : ℕ) → cluster < 2 ^ 63 → cluster / n * n % 18446744073709551616 < 2 ^ 63
begin_small cluster n small = let le = div-mul-le_self cluster n in omega (arith, le, small)

below_first : (at end first : ℕ) → at < end → first ≡ end → at ≤ first
below_first at end first below is = omega (arith, below, is)

pub ensure_self_counting_refblock-requires : goal.ensure_self_counting_refblock-requires
ensure_self_counting_refblock-requires g c = range_small c.args.cluster (2 ^ c.rb_bits-bits.result) (counts_per_block c.allocate_lowest_below.new.file.header.fields) (ap (λ h. counts_per_block h.fields) (c.allocate_lowest_below.ensures.step.header ∙ c.load_block.ensures.step.header) ∙ c.rb_bits-bits.ensures.counts) c.requires

pub ensure_self_counting_refblock-requires-in-Err : goal.ensure_self_counting_refblock-requires-in-Err
ensure_self_counting_refblock-requires-in-Err g c = range_small c.args.cluster (2 ^ c.rb_bits-bits.result) (counts_per_block c.allocate_lowest_below.new.file.header.fields) (ap (λ h. counts_per_block h.fields) (c.allocate_lowest_below.ensures.step.header ∙ c.load_block.ensures.step.header) ∙ c.rb_bits-bits.ensures.counts) c.requires

pub allocate_lowest_below-requires : goal.allocate_lowest_below-requires
allocate_lowest_below-requires g c = begin_small c.args.cluster (2 ^ c.rb_bits-bits.result) c.requires

pub place_block-requires : goal.place_block-requires
place_block-requires g c = record {
  place = record {
    within = subst (λ k. c.args.cluster / 2 ^ c.rb_bits-bits.result < k) (sym c.allocate_lowest_below.ensures.entries.count) (c.can_name.ensures.within c.if-not-can_name.false);
    placed = subst IsSome (sym c.allocate_lowest_below.ensures.entries.cluster) (c.can_name.ensures.placed c.if-not-can_name.false);
    elsewhere = let is = (rw c.in-Ok-Some.field-0-is at c.in-Ok-Some.ensures.below) in is.0;
    nameable = subst (λ b. IsHostCluster b c.in-Ok-Some.at) (sym c.allocate_lowest_below.ensures.entries.bits) (host_below c.args.self.now.reftable.cluster_bits c.in-Ok-Some.at c.new-first.result (let is = (rw c.in-Ok-Some.field-0-is at c.in-Ok-Some.ensures.below) in below_first c.in-Ok-Some.at _ c.new-first.result is.1 c.new-first.ensures) (c.can_name.ensures.nameable c.if-not-can_name.false));
    nameable_here = subst (λ b. IsHostCluster b c.in-Ok-Some.at) (c.cluster_bits.ensures.value ∙ sym (ap (λ h. h.fields.cluster_bits) c.allocate_lowest_below.ensures.step.header)) (host_below c.cluster_bits.result c.in-Ok-Some.at c.new-first.result (let is = (rw c.in-Ok-Some.field-0-is at c.in-Ok-Some.ensures.below) in below_first c.in-Ok-Some.at _ c.new-first.result is.1 c.new-first.ensures) (c.can_name.ensures.nameable_here c.if-not-can_name.false));
  };
  block = let same = ap (λ h. h.fields) (sym c.allocate_lowest_below.ensures.step.header) in (subst (λ h. IsBlockOf h c.in_ok-block.block) same c.in_ok-block.ensures.format, c.in_ok-block.ensures.whole);
}

pub returns-in_err-load_block-clause-has : goal.returns-in_err-load_block-clause-has
returns-in_err-load_block-clause-has g c = on_no_ok _ c.from_residual.result c.in_err-load_block.field-0.0 c.from_residual.ensures

pub returns-then-is_some-clause-has : goal.returns-then-is_some-clause-has
returns-then-is_some-clause-has g c =
    range_as c.args.self.now.reftable c.args.cluster (2 ^ c.rb_bits-bits.result) (counts_per_block c.args.file.now.header.fields) c.rb_bits-bits.ensures.counts
    (c.in_ok-load_block.ensures.finds.has (sym c.is_some.ensures ∙ c.if-is_some.true))

pub returns-then-not-can_name-clause-has : goal.returns-then-not-can_name-clause-has
returns-then-not-can_name-clause-has g c = tt

pub returns-then-is_fault-clause-has : goal.returns-then-is_fault-clause-has
returns-then-is_fault-clause-has g c = tt

pub returns-in-Ok-Some-clause-has : goal.returns-in-Ok-Some-clause-has
returns-in-Ok-Some-clause-has g c = ok_as _ _ c.place_block.result (range_as c.place_block.new.self.reftable c.args.cluster (2 ^ c.rb_bits-bits.result) (counts_per_block c.args.file.now.header.fields) c.rb_bits-bits.ensures.counts) c.place_block.ensures.has

pub returns-in-Ok-None-clause-has : goal.returns-in-Ok-None-clause-has
returns-in-Ok-None-clause-has g c = ok_as _ _ c.ensure_self_counting_refblock.result (range_as c.ensure_self_counting_refblock.new.self.reftable c.args.cluster (2 ^ c.rb_bits-bits.result) (counts_per_block c.args.file.now.header.fields) c.rb_bits-bits.ensures.counts) c.ensure_self_counting_refblock.ensures.has

pub returns-else-is_fault-clause-has : goal.returns-else-is_fault-clause-has
returns-else-is_fault-clause-has g c = ok_as _ _ c.ensure_self_counting_refblock-in-Err.result (range_as c.ensure_self_counting_refblock-in-Err.new.self.reftable c.args.cluster (2 ^ c.rb_bits-bits.result) (counts_per_block c.args.file.now.header.fields) c.rb_bits-bits.ensures.counts) c.ensure_self_counting_refblock-in-Err.ensures.has

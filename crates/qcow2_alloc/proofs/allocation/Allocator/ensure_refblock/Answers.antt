use Rattle.std.proofs.Common.{◌/◌, ◌^◌, sym, ap, subst, arith, ◌∙◌, Result, refl, Ok, IfErr}
use Rattle.qcow2_alloc.proofs.Common.{Pending, counts_per_block, GrowsTable, pending_then, KeepsNoFreeBelowHint, KeepsUsed, IsUsed, CantCount, IsFaultOr, IsHostCluster, entry_count, ImageError}
use Rattle.qcow2_alloc.proofs.Lemmas.{fails_ok, has_some, handed_on, is_sound_on, on_none, listed_after_same, grows_none, grows_on, header_counts, header_bits, has_entries, hint_used, ok_as, range_as, uses_got, uses_then, hint_or_interruption, fault_or, grown_why, not_below, entries_none, lists_used_none, lists_used_one, lists_used_still, fails_on, fails_since, step_on, step_then, step_grown, step_none, fails_by, limit_other, former_none, former_one, former_still}
use Rattle.qcow2_alloc.specs.declared.error.ImageError.TheVariants as I
use Rattle.qcow2_alloc.proofs.allocation.Allocator.ensure_refblock.Goals as goal

pub returns-then-in_bounds-clause-step : goal.returns-then-in_bounds-clause-step
returns-then-in_bounds-clause-step g c = step_on c.ensure_block.ensures.step

pub returns-clause-step : goal.returns-clause-step
returns-clause-step g c =
    let gave = c.in_ok-grow_reftable.ensures.step.former in
    let past = not_below (c.args.cluster / 2 ^ c.rb_bits.result) (entry_count c.args.self.now.reftable) c.in_bounds.result c.in_bounds.ensures c.if-in_bounds.false in
    let within = c.in_ok-grow_reftable.ensures.grown.length.enough.above in
    step_then (step_grown c.grow_reftable.ensures.step
    (former_one c.args.self.now.reftable c.grow_reftable.new.self.reftable gave.0 c.args.file.now.free_list c.grow_reftable.new.file.free_list gave.1 (omega (arith, past, within)) gave.3 gave.4 gave.5 gave.2))
    (step_on c.ensure_block-2.ensures.step)

pub returns-clause-fails : goal.returns-clause-fails
returns-clause-fails g c = fails_since c.in_ok-grow_reftable.ensures.fails.told c.ensure_block-2.ensures.fails

pub returns-in_err-grow_reftable-clause-step : goal.returns-in_err-grow_reftable-clause-step
returns-in_err-grow_reftable-clause-step g c =
    let stays = c.in_err-grow_reftable.ensures.step.former in
    step_grown c.grow_reftable.ensures.step
    (former_still c.args.self.now.reftable c.args.self.now.reftable c.grow_reftable.new.self.reftable c.args.file.now.free_list c.args.file.now.free_list c.grow_reftable.new.file.free_list (former_none c.args.self.now.reftable c.args.file.now.free_list) stays.0 stays.1)

pub returns-in_err-grow_reftable-clause-fails : goal.returns-in_err-grow_reftable-clause-fails
returns-in_err-grow_reftable-clause-fails g c = fails_on c.from_residual.result c.in_err-grow_reftable.field-0.0 c.from_residual.ensures c.in_err-grow_reftable.ensures.fails

pub returns-clause-has : goal.returns-clause-has
returns-clause-has g c =
    ok_as _ _ c.ensure_block-2.result
    (range_as c.ensure_block-2.new.self.reftable c.args.cluster (counts_per_block c.grow_reftable.new.file.header.fields) (counts_per_block c.args.file.now.header.fields)
    (sym (header_counts c.args.file.now.header c.grow_reftable.new.file.header c.grow_reftable.ensures.step.header)))
    c.ensure_block-2.ensures.has

pub returns-then-in_bounds-clause-sound : goal.returns-then-in_bounds-clause-sound
returns-then-in_bounds-clause-sound g c = λ p sound.
    record {
      reaches = subst (λ (q : Pending). GrowsTable g.S.Storage.view p c.args.file.now c.ensure_block.new.self c.ensure_block.new.file q c.ensure_block.result)
          (sym (listed_after_same p c.args.file.now.free_list c.ensure_block.new.file.free_list c.ensure_block.ensures.step.list))
          (grows_none g.S.Storage.view p c.args.file.now c.ensure_block.new.file c.ensure_block.new.self c.ensure_block.result ((c.ensure_block.ensures.sound p sound).gets));
      leaks = c.ensure_block.ensures.leaks;
      listed = lists_used_none g.S.Storage.view c.args.file.now c.ensure_block.new.file c.ensure_block.ensures.step.list;
      uses = uses_got g.S.Storage.view p c.args.file.now c.ensure_block.new.file c.ensure_block.new.self c.ensure_block.result ((c.ensure_block.ensures.sound p sound).gets);
      hint = (c.ensure_block.ensures.sound p sound).hint;
      limit = λ hint near. fault_or c.ensure_block.result (CantCount (IsUsed g.S.Storage.view c.ensure_block.new.file) c.ensure_block.new.file.header.fields (λ k. 0) c.ensure_block.new.self c.args.cluster)
          ((c.ensure_block.ensures.sound p sound).fault (let within = c.in_bounds.ensures.0 c.if-in_bounds.true in let range = ap (λ n. c.args.cluster / n) c.rb_bits.ensures.counts in omega (arith, within, range)) near);
    }

pub returns-in_err-grow_reftable-clause-sound : goal.returns-in_err-grow_reftable-clause-sound
returns-in_err-grow_reftable-clause-sound g c = λ p sound.
    record {
      reaches = handed_on (GrowsTable g.S.Storage.view p c.args.file.now c.grow_reftable.new.self c.grow_reftable.new.file (pending_then p c.args.file.now.free_list c.grow_reftable.new.file.free_list))
          c.from_residual.result c.in_err-grow_reftable.field-0.0 c.from_residual.ensures ((c.in_err-grow_reftable.ensures.sound p sound).grows);
      leaks = (c.grow_reftable.ensures.sound p sound).leaks;
      listed = lists_used_none g.S.Storage.view c.args.file.now c.grow_reftable.new.file c.in_err-grow_reftable.ensures.step.former.1;
      uses = handed_on (KeepsUsed g.S.Storage.view c.args.file.now c.grow_reftable.new.file) c.from_residual.result c.in_err-grow_reftable.field-0.0 c.from_residual.ensures ((c.in_err-grow_reftable.ensures.sound p sound).uses);
      hint = λ hint. handed_on (KeepsNoFreeBelowHint g.S.Storage.view c.grow_reftable.new.self c.grow_reftable.new.file) c.from_residual.result c.in_err-grow_reftable.field-0.0 c.from_residual.ensures
          (hint_or_interruption g.S.Storage.view c.args.file.now c.grow_reftable.new.file c.args.self.now c.grow_reftable.new.self c.in_err-grow_reftable.field-0.0 c.grow_reftable.ensures.first.passed ((c.in_err-grow_reftable.ensures.sound p sound).uses) hint);
      limit = λ hint near. handed_on (λ (r : Result (Unit {0}) ImageError). IfErr r (IsFaultOr (CantCount (IsUsed g.S.Storage.view c.grow_reftable.new.file) c.grow_reftable.new.file.header.fields (λ k. 0) c.grow_reftable.new.self c.args.cluster))) c.from_residual.result c.in_err-grow_reftable.field-0.0 c.from_residual.ensures
          (grown_why g.S.Storage.view c.args.file.now c.grow_reftable.new.file c.args.self.now c.grow_reftable.new.self c.args.cluster c.rb_bits.result c.in_err-grow_reftable.field-0.0 c.rb_bits.ensures.counts c.grow_reftable.ensures.step.header
          (not_below (c.args.cluster / 2 ^ c.rb_bits.result) (entry_count c.args.self.now.reftable) c.in_bounds.result c.in_bounds.ensures c.if-in_bounds.false) (((c.in_err-grow_reftable.ensures.sound p sound).limit hint)));
    }

pub returns-clause-sound : goal.returns-clause-sound
returns-clause-sound g c = λ p sound.
    let q : Pending = pending_then p c.args.file.now.free_list c.grow_reftable.new.file.free_list in
    record {
      reaches = let grown = (c.in_ok-grow_reftable.ensures.sound p sound).grows in
          subst (λ (r : Pending). GrowsTable g.S.Storage.view p c.args.file.now c.ensure_block-2.new.self c.ensure_block-2.new.file r c.ensure_block-2.result)
          (ap (pending_then p c.args.file.now.free_list) (sym c.ensure_block-2.ensures.step.list))
          (grows_on g.S.Storage.view p q c.args.file.now c.grow_reftable.new.file c.ensure_block-2.new.file c.grow_reftable.new.self c.ensure_block-2.new.self c.ensure_block-2.result (λ k some. some) grown
          ((c.ensure_block-2.ensures.sound q (is_sound_on g.S.Storage.view p q c.args.file.now c.grow_reftable.new.file c.grow_reftable.new.self grown)).gets));
      leaks = c.ensure_block-2.ensures.leaks ∙ (c.grow_reftable.ensures.sound p sound).leaks;
      listed = let gave = c.in_ok-grow_reftable.ensures.step.former in
          lists_used_still g.S.Storage.view c.args.file.now c.grow_reftable.new.file c.ensure_block-2.new.file
          (lists_used_one g.S.Storage.view p c.args.file.now c.grow_reftable.new.file c.args.self.now.reftable gave.0 sound.sound sound.reftable gave.1 gave.2) c.ensure_block-2.ensures.step.list;
      uses = uses_then g.S.Storage.view c.args.file.now c.grow_reftable.new.file c.ensure_block-2.new.file c.ensure_block-2.result ((c.in_ok-grow_reftable.ensures.sound p sound).uses)
          (uses_got g.S.Storage.view q c.grow_reftable.new.file c.ensure_block-2.new.file c.ensure_block-2.new.self c.ensure_block-2.result
          ((c.ensure_block-2.ensures.sound q (is_sound_on g.S.Storage.view p q c.args.file.now c.grow_reftable.new.file c.grow_reftable.new.self ((c.in_ok-grow_reftable.ensures.sound p sound).grows))).gets));
      hint = λ hint. (c.ensure_block-2.ensures.sound q (is_sound_on g.S.Storage.view p q c.args.file.now c.grow_reftable.new.file c.grow_reftable.new.self ((c.in_ok-grow_reftable.ensures.sound p sound).grows))).hint
          (hint_used g.S.Storage.view c.args.file.now c.grow_reftable.new.file c.args.self.now c.grow_reftable.new.self c.grow_reftable.ensures.first.passed ((c.in_ok-grow_reftable.ensures.sound p sound).uses) hint);
      limit = λ hint near. let counts = header_counts c.args.file.now.header c.grow_reftable.new.file.header c.grow_reftable.ensures.step.header ∙ c.rb_bits.ensures.counts in
          fault_or c.ensure_block-2.result (CantCount (IsUsed g.S.Storage.view c.ensure_block-2.new.file) c.ensure_block-2.new.file.header.fields (λ k. 0) c.ensure_block-2.new.self c.args.cluster)
          ((c.ensure_block-2.ensures.sound q (is_sound_on g.S.Storage.view p q c.args.file.now c.grow_reftable.new.file c.grow_reftable.new.self ((c.in_ok-grow_reftable.ensures.sound p sound).grows))).fault
          (let within = c.in_ok-grow_reftable.ensures.grown.length.enough.above in let range = ap (λ n. c.args.cluster / n) counts in omega (arith, within, range))
          (subst (λ n. IsHostCluster n c.args.cluster) (sym (header_bits c.args.file.now.header c.grow_reftable.new.file.header c.grow_reftable.ensures.step.header)) near));
    }

pub returns-then-not-lacks_block : goal.returns-then-not-lacks_block
returns-then-not-lacks_block g c = record {
  step = step_none;
  sound = λ p sound.
      record {
        reaches = subst (λ (q : Pending). GrowsTable g.S.Storage.view p c.args.file.now c.args.self.now c.args.file.now q (Ok tt)) (sym (listed_after_same p c.args.file.now.free_list c.args.file.now.free_list refl))
            (on_none g.S.Storage.view p c.args.file.now c.args.self.now sound);
        leaks = refl;
        listed = lists_used_none g.S.Storage.view c.args.file.now c.args.file.now refl;
        uses = λ k used. used;
        hint = λ hint. hint;
        limit = λ _ _. tt;
      };
  fails = fails_ok refl;
  has =
      range_as c.args.self.now.reftable c.args.cluster (2 ^ c.rb_bits.result) (counts_per_block c.args.file.now.header.fields) c.rb_bits.ensures.counts
      (has_some c.args.self.now.reftable (c.args.cluster / 2 ^ c.rb_bits.result) (sym c.lacks_block.ensures ∙ c.if-not-lacks_block.true));
  named = λ within. entries_none _ c.args.self.now.reftable;
}

pub returns-then-entries-eq0 : goal.returns-then-entries-eq0
returns-then-entries-eq0 g c = record {
  step = step_none;
  sound = λ p sound.
      absurd (let some = has_entries g.S.Storage.view p c.args.file.now c.args.self.now.reftable sound.sound sound.reftable in let count = c.len-entries.ensures.value in let none = c.if-entries-eq0.true in omega (arith, some, count, none));
  fails = fails_by I.Limit limit_other refl tt;
  has = tt;
  named = λ within. entries_none _ c.args.self.now.reftable;
}

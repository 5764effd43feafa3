use Rattle.std.proofs.Common.{◌≡◌, ◌==◌, ◌/◌, ◌%◌, ◌^◌, inl, inr, Bool, true, false, Ok, refl, sym, ap, ◌∙◌, arith}
use Rattle.qcow2_alloc.proofs.Common.{nat_tests, block_offset, count, entry_at, known_in, contents_in, AllocatesGivenSoundly}
use Rattle.qcow2_alloc.proofs.KeptTables.Held.{held_same}
use Rattle.qcow2_alloc.proofs.Lemmas.{allocator_step_none, handed_on, of_equal, counted_at, none_in_memory, taken_one, is_zero, used_stays, marks_of_caches, fails_on, table_step_none, table_step_tables, table_step_then}
use Rattle.qcow2_alloc.proofs.allocation.Allocator.increment_refcount.Goals as goal

zero_of : (n : _) → (n == 0) ≡ true → n ≡ 0
zero_of n h = grind (arith, nat_tests)

either : {T : Type 0} (b : Bool) → (b ≡ true → T) → (b ≡ false → T) → T
either true yes_so no_so = yes_so refl
either false yes_so no_so = no_so refl

not_both : (b : Bool) → b ≡ true → b ≡ false → ⊥
not_both b yes_so no_so = let bad : true ≡ false = sym yes_so ∙ no_so in cc

pub returns-clause-step : goal.returns-clause-step
returns-clause-step g c = table_step_then c.load_block.ensures.step (table_step_tables (marks_of_caches c.rb_allocate.ensures.step.marks c.rb_allocate.ensures.step.order (held_same c.load_block.new.file.caches c.rb_allocate.new.self c.rb_allocate.ensures.sound.l2)) c.rb_allocate.ensures.step.header_cluster)

pub returns-in_err-block-clause-fails : goal.returns-in_err-block-clause-fails
returns-in_err-block-clause-fails g c = fails_on c.from_residual.result c.in_err-block.field-0.0 c.from_residual.ensures c.in_err-block.ensures.fails

pub returns-in_err-block-clause-sound : goal.returns-in_err-block-clause-sound
returns-in_err-block-clause-sound g c = λ p is_data sound may.
    let refused = c.in_err-block.ensures.sound p sound in
    handed_on (AllocatesGivenSoundly g.S.Storage.view p is_data c.args.self.now c.args.file.now c.args.self.now c.load_block.new.file c.args.cluster) c.from_residual.result c.in_err-block.field-0.0 c.from_residual.ensures
    (record { takes = refused.1; fault = refused.0; used = λ hint has. tt; free = tt })

pub returns-in_default-clause-sound : goal.returns-in_default-clause-sound
returns-in_default-clause-sound g c = λ p is_data sound may.
    let l = rw c.in_default.is at (c.in_ok-block.ensures.sound p sound) in
    record {
      takes = (c.in_ok-block.ensures.sound p sound).0;
      fault = tt;
      used = λ hint has none. absurd (has (ap (λ n. block_offset (entry_at c.args.self.now.reftable.bytes (c.args.cluster / n))) c.rb_bits-bits.ensures.counts
          ∙ none_in_memory g.S.Storage.view p c.load_block.new.file c.args.self.now.reftable l.0.file_step.sound l.0.reftable (c.args.cluster / 2 ^ c.rb_bits-bits.result) l.1));
      free = λ taken. absurd (not_both false taken refl);
    }

pub returns-clause-sound : goal.returns-clause-sound
returns-clause-sound g c = λ p is_data sound may.
    let view = g.S.Storage.view in
    let h = c.load_block.new.file.header.fields in
    let k = c.args.cluster in
    let l = rw c.in-Some.is at (c.in_ok-block.ensures.sound p sound) in
    let at = counted_at g.S.Storage.view c.load_block.new.file c.args.file.now.header.fields (ap (λ x. x.fields) c.load_block.ensures.step.header) c.args.cluster _ c.in-Some.block c.rb_index-index.result c.rb_bits-bits.result l.1 c.rb_bits-bits.ensures.counts refl (c.rb_index-index.ensures.value ∙ ap (λ n. n % 2 ^ c.rb_bits-bits.result) c.new.ensures) in
    let reports = c.rb_allocate.ensures.zero h p (contents_in view c.load_block.new.file) k l.0.file_step.sound.caches at l.1.2 in
    either c.rb_allocate.result
    (λ raised.
    let zero = zero_of (count h (known_in view c.load_block.new.file) k) (sym reports ∙ raised) in
    of_equal (λ f r. AllocatesGivenSoundly view p is_data c.args.self.now c.args.file.now c.args.self.now f k (Ok r)) (record c.load_block.new.file { caches = c.rb_allocate.new.self }) (record c.load_block.new.file { caches = c.rb_allocate.new.self }) c.rb_allocate.result true refl raised (record {
      takes = taken_one view p c.args.file.now c.load_block.new.file c.args.self.now l.0 k c.in-Some.block c.rb_index-index.result at c.rb_allocate.new.self c.rb_allocate.ensures.step.order c.rb_allocate.ensures.step.marks
          is_data may c.load_block.ensures.step.marks.order zero (c.rb_allocate.ensures.sound.counted raised);
      fault = tt;
      used = λ hint has none. absurd (not_both true refl none);
      free = λ taken used. used_stays view p p c.args.file.now c.load_block.new.file c.args.self.now k l.0 (omega arith) used zero;
    }))
    (λ above. of_equal (λ f r. AllocatesGivenSoundly view p is_data c.args.self.now c.args.file.now c.args.self.now f k (Ok r)) (record c.load_block.new.file { caches = c.rb_allocate.new.self }) c.load_block.new.file c.rb_allocate.result false
    (ap (λ x. record c.load_block.new.file { caches = x }) (c.rb_allocate.ensures.refused above)) above (record {
      takes = l.0;
      fault = tt;
      used = λ hint has none zero. not_both c.rb_allocate.result (reports ∙ is_zero (count h (known_in view c.load_block.new.file) k) zero) above;
      free = λ taken. absurd (not_both false taken refl);
    }))

pub returns-then-is_spared-clause-step : goal.returns-then-is_spared-clause-step
returns-then-is_spared-clause-step g c = table_step_none

pub returns-then-is_spared-clause-sound : goal.returns-then-is_spared-clause-sound
returns-then-is_spared-clause-sound g c = λ p is_data sound may. record {
  takes = allocator_step_none g.S.Storage.view p c.args.file.now c.args.self.now sound;
  fault = tt;
  used = λ hint has none. hint c.args.cluster (inr (inl (c.is_spared.ensures.0 c.if-is_spared.true)));
  free = λ taken. absurd (not_both false taken refl);
}

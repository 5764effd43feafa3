use Rattle.std.proofs.Common.{◌≡◌, ◌+◌, ◌-◌, ◌*◌, ◌/◌, ◌%◌, ◌^◌, ◌<◌, ◌≤◌, ℕ, inl, inr, refl, sym, ap, ◌∙◌, arith}
use Rattle.qcow2_alloc.proofs.Common.{div-mul-add, mod-mul-add, contents_in, KeepsNoFreeBelowHint, IsFoundUsed, StaysSound, Allocator}
use Rattle.qcow2_alloc.proofs.Lemmas.{handed_on, allocator_step_as, counted_at, hint_refused, hint_stays, passed_still, hint_kept, fails_ok, fails_on, table_step_as}
use Rattle.qcow2_alloc.proofs.allocation.Allocator.keep_range.Goals as goal

-- a cluster of a range, from its first one on
in_range : (q per first end k : ℕ) → first ≡ q * per → end ≤ first + per → first ≤ k → k < end → (q ≡ k / per) × (k - first ≡ k % per)
in_range q per first end k begin short low high =
    let is : k ≡ q * per + (k - first) = omega (arith, begin, low) in
    let within : k - first < per = omega (arith, short, low, high) in (
      sym (ap (λ n. n / per) is ∙ div-mul-add q per (k - first) within),
      sym (ap (λ n. n % per) is ∙ mod-mul-add q per (k - first) within),
    )

pub returns-in_err-block-clause-fails : goal.returns-in_err-block-clause-fails
returns-in_err-block-clause-fails g c = fails_on c.from_residual.result c.in_err-block.field-0.0 c.from_residual.ensures c.in_err-block.ensures.fails

pub returns-in_err-block-clause-sound : goal.returns-in_err-block-clause-sound
returns-in_err-block-clause-sound g c = λ p sound.
    handed_on (StaysSound g.S.Storage.view p c.args.file.now c.args.self.now c.load_block.new.file) c.from_residual.result c.in_err-block.field-0.0 c.from_residual.ensures (c.in_err-block.ensures.sound p sound)

pub returns-in_err-block-clause-hint : goal.returns-in_err-block-clause-hint
returns-in_err-block-clause-hint g c = λ p sound hint.
    handed_on (KeepsNoFreeBelowHint g.S.Storage.view c.args.self.now c.load_block.new.file) c.from_residual.result c.in_err-block.field-0.0 c.from_residual.ensures
    (hint_refused g.S.Storage.view p c.args.file.now c.load_block.new.file c.args.self.now c.args.self.now c.in_err-block.field-0.0 (passed_still c.args.self.now) (c.in_err-block.ensures.sound p sound).1 hint)

pub returns-in_default-clause-fails : goal.returns-in_default-clause-fails
returns-in_default-clause-fails g c = fails_ok c.in_ok-block.ensures.fails.told

pub returns-in_default-clause-sound : goal.returns-in_default-clause-sound
returns-in_default-clause-sound g c = λ p sound. (c.in_ok-block.ensures.sound p sound).0

pub returns-in_default-clause-hint : goal.returns-in_default-clause-hint
returns-in_default-clause-hint g c = λ p sound hint. hint_stays g.S.Storage.view p c.args.file.now c.load_block.new.file c.args.self.now c.args.self.now (c.in_ok-block.ensures.sound p sound).0 (passed_still c.args.self.now) hint

pub returns-clause-step : goal.returns-clause-step
returns-clause-step g c = rw c.read_range.ensures.same (table_step_as (ap (λ (t : Allocator). t.reftable) c.read_range.ensures.kept.rest) refl c.load_block.ensures.step)

pub returns-clause-fails : goal.returns-clause-fails
returns-clause-fails g c = fails_ok c.in_ok-block.ensures.fails.told

pub returns-clause-sound : goal.returns-clause-sound
returns-clause-sound g c = λ p sound.
    rw c.read_range.ensures.same
    (allocator_step_as g.S.Storage.view p p c.args.file.now c.load_block.new.file c.args.self.now c.read_range.new.self (ap (λ (t : Allocator). t.reftable) c.read_range.ensures.kept.rest) (c.in_ok-block.ensures.sound p sound).0)

pub returns-clause-hint : goal.returns-clause-hint
returns-clause-hint g c = λ p sound hint.
    let view = g.S.Storage.view in
    let file = c.load_block.new.file in
    let bits = c.rb_bits-bits.result in
    let around = c.range_around-first.ensures in
    let l = rw c.in-Some.is at (c.in_ok-block.ensures.sound p sound) in
    let stays = hint_stays view p c.args.file.now file c.args.self.now c.args.self.now l.0 (passed_still c.args.self.now) hint in
    rw c.read_range.ensures.same
    (hint_kept view file c.args.self.now c.read_range.new.self (IsFoundUsed c.args.self.now file.caches c.in-Some.block c.range_around-first.result.0 c.range_around-first.result.1) c.read_range.ensures.kept
    (λ k found. elim found [
      | inl named ↦ stays k (inr (inl named))
      | inr reports ↦
          let place = in_range (c.args.cluster / 2 ^ bits) (2 ^ bits) c.range_around-first.result.0 c.range_around-first.result.1 k around.first around.end reports.0 reports.1 in
          let at = counted_at view file c.args.file.now.header.fields (ap (λ x. x.fields) c.load_block.ensures.step.header) k _ c.in-Some.block (k - c.range_around-first.result.0) bits l.1 c.rb_bits-bits.ensures.counts place.0 place.1 in
          reports.2 file.header.fields p (contents_in view file) k (k - c.range_around-first.result.0) l.0.file_step.sound.caches at (omega arith) (omega arith)
    ]) stays)

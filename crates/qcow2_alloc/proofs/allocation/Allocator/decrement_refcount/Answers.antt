use Rattle.std.proofs.Common.{◌≡◌, ◌==◌, ◌/◌, ◌%◌, ◌^◌, ℕ, true, Option, Some, None, Ok, refl, ap, ◌∙◌, sym, subst, IfSome, IsSome}
use Rattle.qcow2_alloc.proofs.Common.{unwrap_or, one_at, owed_as, DecrementsOne, KeepsNoFreeBelowHint, contents_in, ReportsCount, NamesBlock, TriesToDecrement}
use Rattle.qcow2_alloc.proofs.KeptTables.Held.{held_same}
use Rattle.qcow2_alloc.proofs.Lemmas.{search_same, hint_lowered, is_zero, lowered_so, passed_still, stands_still, hint_refused, handed_on, of_equal, allocator_step_as, may_lower_still, counted_at, given_one, owed_counted, owed_has_block, marks_of_caches, handed_unaligned, ok_no_err, fails_ok, fails_on, table_step_as, table_step_tables, table_step_then}
use Rattle.qcow2_alloc.proofs.Leaks.{tried}
use Rattle.qcow2_alloc.specs.declared.error.ImageError.TheVariants as I
use Rattle.qcow2_alloc.proofs.AlignedBlocks.{unaligned_as}
use Rattle.qcow2_alloc.proofs.allocation.Allocator.decrement_refcount.Goals as goal

-- a number that is left is 0
none_left : (o : Option ℕ) (P : ℕ → Type 0) → IsSome o → IfSome o P → ((n : ℕ) → P n → n ≡ 0) → (unwrap_or o 0 == 0) ≡ true
none_left None P some holds none = cc
none_left (Some n) P some holds none = is_zero n (none n holds)

pub returns-in_err-block : goal.returns-in_err-block
returns-in_err-block g c = record {
  step = c.load_block.ensures.step;
  reftable = refl;
  leaked = refl;
  tries =
      handed_on (TriesToDecrement c.args.file.now.header.fields c.args.self.now.reftable c.args.file.now.caches c.load_block.new.file.caches c.args.cluster) c.from_residual.result c.in_err-block.field-0.0 c.from_residual.ensures c.load_block.ensures.loads;
  first = λ _. search_same c.args.self.now;
  sound = λ p owed sound may.
      handed_on (DecrementsOne g.S.Storage.view (owed_as owed p (one_at c.args.cluster)) c.args.file.now c.args.self.now c.load_block.new.file p)
      c.from_residual.result c.in_err-block.field-0.0 c.from_residual.ensures (c.in_err-block.ensures.sound (owed_as owed p (one_at c.args.cluster)) sound);
  fails = fails_on c.from_residual.result c.in_err-block.field-0.0 c.from_residual.ensures c.in_err-block.ensures.fails;
  hint = λ p owed sound may hint.
      handed_on (KeepsNoFreeBelowHint g.S.Storage.view c.args.self.now c.load_block.new.file) c.from_residual.result c.in_err-block.field-0.0 c.from_residual.ensures
      (hint_refused g.S.Storage.view (owed_as owed p (one_at c.args.cluster)) c.args.file.now c.load_block.new.file c.args.self.now c.args.self.now c.in_err-block.field-0.0 (passed_still c.args.self.now) (c.in_err-block.ensures.sound (owed_as owed p (one_at c.args.cluster)) sound).1 hint);
  unaligned = λ u.
      let refused = c.in_err-block.ensures.unaligned (unaligned_as c.args.file.now.header.fields c.args.self.now.reftable c.args.cluster _ c.rb_bits-bits.ensures.counts u) in
      (handed_unaligned c.from_residual.result c.in_err-block.field-0.0 c.from_residual.ensures refused.0, refused.1);
}

pub returns-in_default-clause-sound : goal.returns-in_default-clause-sound
returns-in_default-clause-sound g c = λ p owed sound may.
    let l = rw c.in_default.is at (c.in_ok-block.ensures.sound (owed_as owed p (one_at c.args.cluster)) sound) in
    owed_has_block g.S.Storage.view owed p c.args.cluster _ c.rb_bits-bits.result (owed_as owed p (one_at c.args.cluster)) c.load_block.new.file c.args.file.now.header.fields (ap (λ x. x.fields) c.load_block.ensures.step.header) refl l.0.file_step.sound
    c.rb_bits-bits.ensures.counts refl l.1

pub returns-in_default-clause-hint : goal.returns-in_default-clause-hint
returns-in_default-clause-hint g c = λ p owed sound may hint. absurd (returns-in_default-clause-sound g c p owed sound may)

pub returns-in_default-clause-tries : goal.returns-in_default-clause-tries
returns-in_default-clause-tries g c = c.load_block.ensures.loads

pub returns-in_default-clause-step : goal.returns-in_default-clause-step
returns-in_default-clause-step g c = c.load_block.ensures.step

pub returns-in_default-clause-fails : goal.returns-in_default-clause-fails
returns-in_default-clause-fails g c = fails_ok c.in_ok-block.ensures.fails.told

pub returns-in_default-clause-unaligned : goal.returns-in_default-clause-unaligned
returns-in_default-clause-unaligned g c = λ u. ok_no_err _ I.UnalignedTable (c.in_ok-block.ensures.unaligned (unaligned_as c.args.file.now.header.fields c.args.self.now.reftable c.args.cluster _ c.rb_bits-bits.ensures.counts u)).0

pub returns-clause-sound : goal.returns-clause-sound
returns-clause-sound g c = λ p owed sound may.
    let l = rw c.in-Some.is at (c.in_ok-block.ensures.sound (owed_as owed p (one_at c.args.cluster)) sound) in
    let at = counted_at g.S.Storage.view c.load_block.new.file c.args.file.now.header.fields (ap (λ x. x.fields) c.load_block.ensures.step.header) c.args.cluster _ c.in-Some.block c.rb_index-index.result c.rb_bits-bits.result l.1 c.rb_bits-bits.ensures.counts refl (c.rb_index-index.ensures.value ∙ ap (λ n. n % 2 ^ c.rb_bits-bits.result) c.new.ensures) in
    let some = owed_counted g.S.Storage.view owed p c.args.cluster (owed_as owed p (one_at c.args.cluster)) c.load_block.new.file refl l.0.file_step.sound in
    let lowered = c.rb_release-left.ensures.sound.made c.load_block.new.file.header.fields (owed_as owed p (one_at c.args.cluster)) (contents_in g.S.Storage.view c.load_block.new.file) c.args.cluster l.0.file_step.sound.caches at l.1.2 some in
    of_equal (λ f r. DecrementsOne g.S.Storage.view (owed_as owed p (one_at c.args.cluster)) c.args.file.now c.record_decrement.new.self f p (Ok r)) (record c.load_block.new.file { caches = c.rb_release-left.new.self }) (record c.load_block.new.file { caches = c.rb_release-left.new.self }) c.is_some.result true refl (c.is_some.ensures ∙ lowered)
    (allocator_step_as g.S.Storage.view (owed_as owed p (one_at c.args.cluster)) p c.args.file.now (record c.load_block.new.file { caches = c.rb_release-left.new.self }) c.args.self.now c.record_decrement.new.self c.record_decrement.ensures.reftable
    (given_one g.S.Storage.view (owed_as owed p (one_at c.args.cluster)) c.args.file.now c.load_block.new.file c.args.self.now l.0 c.args.cluster c.in-Some.block c.rb_index-index.result at c.rb_release-left.new.self c.rb_release-left.ensures.step.order c.rb_release-left.ensures.step.marks
    owed p (may_lower_still owed c.args.file.now c.load_block.new.file c.load_block.ensures.step.marks.order may) refl (c.rb_release-left.ensures.sound.counted lowered)))

pub returns-clause-hint : goal.returns-clause-hint
returns-clause-hint g c = λ p owed sound may hint.
    let l = rw c.in-Some.is at (c.in_ok-block.ensures.sound (owed_as owed p (one_at c.args.cluster)) sound) in
    let at = counted_at g.S.Storage.view c.load_block.new.file c.args.file.now.header.fields (ap (λ x. x.fields) c.load_block.ensures.step.header) c.args.cluster _ c.in-Some.block c.rb_index-index.result c.rb_bits-bits.result l.1 c.rb_bits-bits.ensures.counts refl (c.rb_index-index.ensures.value ∙ ap (λ n. n % 2 ^ c.rb_bits-bits.result) c.new.ensures) in
    let some = owed_counted g.S.Storage.view owed p c.args.cluster (owed_as owed p (one_at c.args.cluster)) c.load_block.new.file refl l.0.file_step.sound in
    let lowered = c.rb_release-left.ensures.sound.made c.load_block.new.file.header.fields (owed_as owed p (one_at c.args.cluster)) (contents_in g.S.Storage.view c.load_block.new.file) c.args.cluster l.0.file_step.sound.caches at l.1.2 some in
    let file = record c.load_block.new.file { caches = c.rb_release-left.new.self } in
    let now = lowered_so g.S.Storage.view (owed_as owed p (one_at c.args.cluster)) p c.args.file.now file c.record_decrement.new.self c.is_some.result (c.is_some.ensures ∙ lowered) (returns-clause-sound g c p owed sound may) in
    let stands = stands_still g.S.Storage.view (owed_as owed p (one_at c.args.cluster)) p c.load_block.new.file c.rb_release-left.new.self (c.args.cluster / 2 ^ c.rb_bits-bits.result) c.in-Some.block l.0.file_step.sound now.file_step.sound (c.rb_release-left.ensures.cached lowered) l.1 in
    let at_now = counted_at g.S.Storage.view file c.args.file.now.header.fields (ap (λ x. x.fields) c.load_block.ensures.step.header) c.args.cluster _ c.in-Some.block c.rb_index-index.result c.rb_bits-bits.result stands c.rb_bits-bits.ensures.counts refl (c.rb_index-index.ensures.value ∙ ap (λ n. n % 2 ^ c.rb_bits-bits.result) c.new.ensures) in
    hint_lowered g.S.Storage.view owed p c.args.cluster c.args.file.now file c.args.self.now c.record_decrement.new.self now c.record_decrement.ensures.passed
    (λ zero. c.record_decrement.ensures.free (ap (λ n. n == 0) c.unwrap_or.ensures ∙ none_left c.rb_release-left.result (ReportsCount file.caches c.in-Some.block c.rb_index-index.result) lowered c.rb_release-left.ensures.left
    (λ n reports. sym (reports file.header.fields p (contents_in g.S.Storage.view file) c.args.cluster now.file_step.sound.caches at_now) ∙ zero))) hint

pub returns-clause-tries : goal.returns-clause-tries
returns-clause-tries g c =
    let h = c.args.file.now.header.fields in
    let index = c.rb_index-index.ensures.value ∙ ap (λ n. n % 2 ^ c.rb_bits-bits.result) c.new.ensures ∙ sym (ap (λ n. c.args.cluster % n) c.rb_bits-bits.ensures.counts) in
    let found = rw c.in-Some.is at c.in_ok-block.ensures.finds in
    let names = subst (λ n. NamesBlock h c.args.self.now.reftable (c.args.cluster / n) (Some c.in-Some.block)) (sym c.rb_bits-bits.ensures.counts) found.names in
    rw c.is_some.ensures (tried h c.args.self.now.reftable c.args.file.now.caches c.load_block.new.file.caches c.rb_release-left.new.self c.load_block.ensures.loads c.in-Some.block c.rb_index-index.result c.args.cluster index names c.rb_release-left.result
    c.rb_release-left.ensures.counts c.rb_release-left.ensures.missing c.rb_release-left.ensures.recorded c.rb_release-left.ensures.refused c.rb_release-left.ensures.sound.l2)

pub returns-clause-step : goal.returns-clause-step
returns-clause-step g c = table_step_as c.record_decrement.ensures.reftable refl (table_step_then c.load_block.ensures.step (table_step_tables (marks_of_caches c.rb_release-left.ensures.step.marks c.rb_release-left.ensures.step.order (held_same c.load_block.new.file.caches c.rb_release-left.new.self c.rb_release-left.ensures.sound.l2)) c.rb_release-left.ensures.step.header_cluster))

pub returns-clause-fails : goal.returns-clause-fails
returns-clause-fails g c = fails_ok c.in_ok-block.ensures.fails.told

pub returns-clause-unaligned : goal.returns-clause-unaligned
returns-clause-unaligned g c = λ u. ok_no_err _ I.UnalignedTable (c.in_ok-block.ensures.unaligned (unaligned_as c.args.file.now.header.fields c.args.self.now.reftable c.args.cluster _ c.rb_bits-bits.ensures.counts u)).0

use Rattle.std.proofs.Common.{◌≡◌, ◌/◌, inl, inr, true, false, ap, sym, ◌∙◌, subst}
use Rattle.qcow2_alloc.proofs.Common.{eq-eqb, block_offset, counts_per_block, entry_at, Pending, InternalAllocatorStep, lacks}
use Rattle.qcow2_alloc.proofs.Lemmas.{allocator_step_none, still_sound, one_none, free_taken, not_both, fails_ok, table_step_none}
use Rattle.qcow2_alloc.proofs.allocation.Allocator.allocate_if_free.Goals as goal

pub returns-then-lacks_block-clause-sound : goal.returns-then-lacks_block-clause-sound
returns-then-lacks_block-clause-sound g c = λ p sound.
    let t = c.args.self.now.reftable in
    let none = ap (λ n. lacks t (c.args.cluster / n)) c.requires.counts ∙ sym c.lacks_block.ensures ∙ c.if-lacks_block.true in
    subst (λ (r : Pending). InternalAllocatorStep g.S.Storage.view p c.args.file.now c.args.self.now c.args.file.now r) (sym (one_none c.args.file.now.header.fields t p c.args.cluster none))
    (allocator_step_none g.S.Storage.view p c.args.file.now c.args.self.now sound)

pub returns-in-Ok-clause-sound : goal.returns-in-Ok-clause-sound
returns-in-Ok-clause-sound g c = λ p sound.
    let t = c.args.self.now.reftable in
    let has = ap (λ n. lacks t (c.args.cluster / n)) c.requires.counts ∙ sym c.lacks_block.ensures ∙ c.if-lacks_block.false in
    free_taken g.S.Storage.view p c.args.file.now c.increment_refcount.new.file c.increment_refcount.new.self t c.args.cluster c.in-Ok.taken has ((c.in-Ok.ensures.sound p false sound tt).takes)

pub returns-then-is_fault-clause-sound : goal.returns-then-is_fault-clause-sound
returns-then-is_fault-clause-sound g c = λ p sound. (c.is_fault.ensures.0 c.if-is_fault.true, (c.in-Err.ensures.sound p false sound tt).takes)

pub returns-else-is_fault-clause-sound : goal.returns-else-is_fault-clause-sound
returns-else-is_fault-clause-sound g c = λ p sound.
    still_sound g.S.Storage.view p c.args.file.now c.increment_refcount.new.file c.increment_refcount.new.self c.in-Err.refusal (λ fault. not_both c.is_fault.result (c.is_fault.ensures.1 fault) c.if-is_fault.false)
    ((c.in-Err.ensures.sound p false sound tt).takes)

pub returns-in-Ok-clause-used : goal.returns-in-Ok-clause-used
returns-in-Ok-clause-used g c = λ p sound hint.
    let t = c.args.self.now.reftable in
    let has = ap (λ n. lacks t (c.args.cluster / n)) c.requires.counts ∙ sym c.lacks_block.ensures ∙ c.if-lacks_block.false in
    (c.in-Ok.ensures.sound p false sound tt).used hint
    (λ none. let lacking : lacks t (c.args.cluster / counts_per_block c.args.file.now.header.fields) ≡ true = eq-eqb (block_offset (entry_at t.bytes (c.args.cluster / counts_per_block c.args.file.now.header.fields))) 0 none in let bad : true ≡ false = sym lacking ∙ has in cc)

pub returns-else-is_fault-clause-used : goal.returns-else-is_fault-clause-used
returns-else-is_fault-clause-used g c = λ p sound hint. not_both c.is_fault.result (c.is_fault.ensures.1 ((c.in-Err.ensures.sound p false sound tt).fault)) c.if-is_fault.false

pub returns-in-Ok-clause-fails : goal.returns-in-Ok-clause-fails
returns-in-Ok-clause-fails g c = fails_ok c.in-Ok.ensures.fails.told

pub returns-else-is_fault-clause-fails : goal.returns-else-is_fault-clause-fails
returns-else-is_fault-clause-fails g c = fails_ok (c.in-Err.ensures.fails.told (λ is. not_both c.is_fault.result (c.is_fault.ensures.1 (inl is)) c.if-is_fault.false))

pub returns-then-lacks_block-clause-step : goal.returns-then-lacks_block-clause-step
returns-then-lacks_block-clause-step g c = table_step_none

pub returns-then-is_spared-clause-step : goal.returns-then-is_spared-clause-step
returns-then-is_spared-clause-step g c = table_step_none

pub returns-then-is_spared-clause-sound : goal.returns-then-is_spared-clause-sound
returns-then-is_spared-clause-sound g c = λ p sound. allocator_step_none g.S.Storage.view p c.args.file.now c.args.self.now sound

pub returns-then-is_spared-clause-used : goal.returns-then-is_spared-clause-used
returns-then-is_spared-clause-used g c = λ p sound hint none. hint c.args.cluster (inr (inl (c.is_spared.ensures.0 c.if-is_spared.true)))

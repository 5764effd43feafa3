use Rattle.std.proofs.Common.{eqb}
use Rattle.qcow2_alloc.proofs.Common.{option_map, cleared_l2, value_at, inr, refl, inl, Err, ap, ◌∙◌, Pending, Data, ImageFile, Frees, with_listed, but, KeepsNoFreeBelowHint, HeaderView}
use Rattle.qcow2_alloc.proofs.Lemmas.{handed_on, is_sound_now, allocator_step_cached, hint_stays, passed_still, but_both, frees_then, leaks_as, leaks_then, fails_ok, fails_on, fails_since, free_in_turn, turn_cached, turn_then, fault_alone, file_fits}
use Rattle.qcow2_alloc.proofs.Freeing.{on_ok, allocator_step_on}
use Rattle.qcow2_alloc.proofs.FreedEach.{blocks_loaded, off_none, off_of, off_refused, off_then}
use Rattle.qcow2_alloc.specs.Leaks.{FreesOff, KeepsBlockBytes}
use Rattle.qcow2_alloc.proofs.Steps.{fails_as}
use Rattle.qcow2_alloc.proofs.allocation.Allocator.free.Goals as goal

pub returns-clause-emptied : goal.returns-clause-emptied
returns-clause-emptied g c =
    on_ok c.free_kind-2.result (λ left. left ∙ ap (but Data) c.in_ok-free_kind.ensures.left ∙ but_both c.args.file.now.free_list) c.free_kind-2.ensures.left

pub returns-clause-in_order : goal.returns-clause-in_order
returns-clause-in_order g c = inl (c.free_kind-2.ensures.frees.others ∙ ap (but Data) c.in_ok-free_kind.ensures.left ∙ but_both c.args.file.now.free_list)

pub returns-clause-sound : goal.returns-clause-sound
returns-clause-sound g c = λ p sound.
    let view = g.S.Storage.view in
    let q : Pending = with_listed p c.args.file.now.free_list in
    let now : Pending = with_listed p c.free_kind.new.file.free_list in
    let one = (c.in_ok-free_kind.ensures.frees.sound p sound tt).gives in
    let s = one.file_step.sound in
    let turned : ImageFile g.row.S.Denot = record c.free_kind.new.file { storage = c.rb_depends_on_l2.new.storage; caches = c.rb_depends_on_l2.new.self } in
    let two = allocator_step_cached view now c.free_kind.new.file c.free_kind.new.self c.rb_depends_on_l2.new.storage c.rb_depends_on_l2.new.self (is_sound_now view q now c.args.file.now c.free_kind.new.file c.free_kind.new.self one)
    (c.rb_depends_on_l2.ensures.sound.keeps c.free_kind.new.file.header.fields now s.honest s.caches) c.rb_depends_on_l2.ensures.step.marks.pins in
    let both = allocator_step_on view q now now c.args.file.now c.free_kind.new.file turned c.free_kind.new.self c.free_kind.new.self (λ k some. some) one two in
    record {
      gives = frees_then view q now (with_listed p c.free_kind-2.new.file.free_list) c.args.file.now turned c.free_kind-2.new.file c.free_kind.new.self c.free_kind-2.new.self c.free_kind-2.result (λ k some. some) both
          ((c.free_kind-2.ensures.frees.sound p (is_sound_now view q now c.args.file.now turned c.free_kind.new.self both) c.in_ok-rb_depends_on_l2.ensures.turns.order).gives);
      leaks = (c.free_kind-2.ensures.frees.sound p (is_sound_now view q now c.args.file.now turned c.free_kind.new.self both) c.in_ok-rb_depends_on_l2.ensures.turns.order).leaks ∙ (c.free_kind.ensures.frees.sound p sound tt).leaks;
      hint = λ hint. let still = hint_stays view now c.free_kind.new.file turned c.free_kind.new.self c.free_kind.new.self two (passed_still c.free_kind.new.self) ((c.in_ok-free_kind.ensures.frees.sound p sound tt).hint hint) in
          (c.free_kind-2.ensures.frees.sound p (is_sound_now view q now c.args.file.now turned c.free_kind.new.self both) c.in_ok-rb_depends_on_l2.ensures.turns.order).hint still;
    }

pub returns-in_err-free_kind-clause-sound : goal.returns-in_err-free_kind-clause-sound
returns-in_err-free_kind-clause-sound g c = λ p sound.
    record {
      gives = handed_on (Frees g.S.Storage.view (with_listed p c.args.file.now.free_list) c.args.file.now c.free_kind.new.self c.free_kind.new.file (with_listed p c.free_kind.new.file.free_list))
          c.from_residual.result c.in_err-free_kind.field-0.0 c.from_residual.ensures ((c.in_err-free_kind.ensures.frees.sound p sound tt).gives);
      leaks = (c.free_kind.ensures.frees.sound p sound tt).leaks;
      hint = λ hint. handed_on (KeepsNoFreeBelowHint g.S.Storage.view c.free_kind.new.self c.free_kind.new.file) c.from_residual.result c.in_err-free_kind.field-0.0 c.from_residual.ensures ((c.in_err-free_kind.ensures.frees.sound p sound tt).hint hint);
    }

pub returns-then-is_empty-clause-sound : goal.returns-then-is_empty-clause-sound
returns-then-is_empty-clause-sound g c = λ p sound.
    record {
      gives = (c.in_ok-free_kind.ensures.frees.sound p sound tt).gives;
      leaks = (c.free_kind.ensures.frees.sound p sound tt).leaks;
      hint = λ hint. (c.in_ok-free_kind.ensures.frees.sound p sound tt).hint hint;
    }

pub returns-in_err-rb_depends_on_l2-clause-sound : goal.returns-in_err-rb_depends_on_l2-clause-sound
returns-in_err-rb_depends_on_l2-clause-sound g c = λ p sound.
    let view = g.S.Storage.view in
    let q : Pending = with_listed p c.args.file.now.free_list in
    let now : Pending = with_listed p c.free_kind.new.file.free_list in
    let one = (c.in_ok-free_kind.ensures.frees.sound p sound tt).gives in
    let h = c.free_kind.new.file.header.fields in
    let s = one.file_step.sound in
    let turned : ImageFile g.row.S.Denot = record c.free_kind.new.file { storage = c.rb_depends_on_l2.new.storage; caches = c.rb_depends_on_l2.new.self } in
    let two = allocator_step_cached view now c.free_kind.new.file c.free_kind.new.self c.rb_depends_on_l2.new.storage c.rb_depends_on_l2.new.self (is_sound_now view q now c.args.file.now c.free_kind.new.file c.free_kind.new.self one)
    (c.rb_depends_on_l2.ensures.sound.keeps h now s.honest s.caches) c.rb_depends_on_l2.ensures.step.marks.pins in
    record {
      gives = handed_on (Frees view q c.args.file.now c.free_kind.new.self turned now) c.from_residual-in_err-rb_depends_on_l2.result c.in_err-rb_depends_on_l2.field-0.0 c.from_residual-in_err-rb_depends_on_l2.ensures (
        fault_alone c.in_err-rb_depends_on_l2.field-0.0 (file_fits view now c.free_kind.new.file s).1 c.in_err-rb_depends_on_l2.ensures.fails.cause,
        inl (allocator_step_on view q now now c.args.file.now c.free_kind.new.file turned c.free_kind.new.self c.free_kind.new.self (λ k some. some) one two),
      );
      leaks = (c.free_kind.ensures.frees.sound p sound tt).leaks;
      hint = λ hint. handed_on (KeepsNoFreeBelowHint view c.free_kind.new.self turned) c.from_residual-in_err-rb_depends_on_l2.result c.in_err-rb_depends_on_l2.field-0.0 c.from_residual-in_err-rb_depends_on_l2.ensures
          (inl (hint_stays view now c.free_kind.new.file turned c.free_kind.new.self c.free_kind.new.self two (passed_still c.free_kind.new.self) ((c.in_ok-free_kind.ensures.frees.sound p sound tt).hint hint)));
    }

pub returns-in_err-free_kind-clause-step : goal.returns-in_err-free_kind-clause-step
returns-in_err-free_kind-clause-step g c = free_in_turn c.free_kind.ensures.frees.step

pub returns-in_err-free_kind-clause-fails : goal.returns-in_err-free_kind-clause-fails
returns-in_err-free_kind-clause-fails g c = fails_on c.from_residual.result c.in_err-free_kind.field-0.0 c.from_residual.ensures (fails_as (λ e is. inl is) c.in_err-free_kind.ensures.frees.fails)

pub returns-in_err-rb_depends_on_l2-clause-step : goal.returns-in_err-rb_depends_on_l2-clause-step
returns-in_err-rb_depends_on_l2-clause-step g c = turn_then (free_in_turn c.free_kind.ensures.frees.step) (turn_cached c.rb_depends_on_l2.ensures.step.marks c.rb_depends_on_l2.ensures.step.header_cluster)

pub returns-in_err-rb_depends_on_l2-clause-fails : goal.returns-in_err-rb_depends_on_l2-clause-fails
returns-in_err-rb_depends_on_l2-clause-fails g c = fails_on c.from_residual-in_err-rb_depends_on_l2.result c.in_err-rb_depends_on_l2.field-0.0 c.from_residual-in_err-rb_depends_on_l2.ensures (fails_since c.in_ok-free_kind.ensures.frees.fails.told (fails_as (λ e is. elim is [ inl fault ↦ inl fault | inr limit ↦ inr limit.0 ]) c.in_err-rb_depends_on_l2.ensures.fails))

pub returns-then-is_empty-clause-step : goal.returns-then-is_empty-clause-step
returns-then-is_empty-clause-step g c = free_in_turn c.free_kind.ensures.frees.step

pub returns-then-is_empty-clause-fails : goal.returns-then-is_empty-clause-fails
returns-then-is_empty-clause-fails g c = fails_ok c.in_ok-free_kind.ensures.frees.fails.told

pub returns-clause-step : goal.returns-clause-step
returns-clause-step g c = turn_then (turn_then (free_in_turn c.free_kind.ensures.frees.step) (turn_cached c.rb_depends_on_l2.ensures.step.marks c.rb_depends_on_l2.ensures.step.header_cluster)) (free_in_turn c.free_kind-2.ensures.frees.step)

pub returns-clause-fails : goal.returns-clause-fails
returns-clause-fails g c = fails_since (c.in_ok-rb_depends_on_l2.ensures.fails.told ∙ c.in_ok-free_kind.ensures.frees.fails.told) (fails_as (λ e is. inl is) c.free_kind-2.ensures.frees.fails)

pub returns-clause-unaligned : goal.returns-clause-unaligned
returns-clause-unaligned g c =
    leaks_then c.args.file.now.header.fields c.args.self.now.reftable c.args.self.now c.free_kind.new.self c.free_kind-2.new.self c.args.file.now.free_list c.free_kind.new.file.free_list c.free_kind-2.new.file.free_list c.free_kind.ensures.frees.unaligned
    (leaks_as c.args.file.now.header.fields c.free_kind.new.file.header.fields c.args.self.now.reftable c.free_kind.new.self.reftable c.free_kind.new.self c.free_kind-2.new.self c.free_kind.new.file.free_list c.free_kind.new.file.free_list c.free_kind-2.new.file.free_list c.free_kind-2.new.file.free_list
    (ap (λ (x : HeaderView). x.fields) c.free_kind.ensures.frees.step.header) c.free_kind.ensures.frees.step.reftable refl refl c.free_kind-2.ensures.frees.unaligned)

pub returns-in_err-free_kind-clause-each : goal.returns-in_err-free_kind-clause-each
returns-in_err-free_kind-clause-each g c =
    handed_on (FreesOff c.args.file.now.header.fields c.args.self.now.reftable c.args.self.now c.args.file.now.caches c.args.file.now.free_list c.free_kind.new.self c.free_kind.new.file.caches c.free_kind.new.file.free_list)
    c.from_residual.result c.in_err-free_kind.field-0.0 c.from_residual.ensures c.in_err-free_kind.ensures.frees.each

pub returns-then-is_empty-clause-each : goal.returns-then-is_empty-clause-each
returns-then-is_empty-clause-each g c = c.in_ok-free_kind.ensures.frees.each

pub returns-in_err-rb_depends_on_l2-clause-each : goal.returns-in_err-rb_depends_on_l2-clause-each
returns-in_err-rb_depends_on_l2-clause-each g c =
    let turned : KeepsBlockBytes c.free_kind.new.file.caches c.rb_depends_on_l2.new.self = record { held = c.rb_depends_on_l2.ensures.held; tables = λ k. ap (λ l2. option_map cleared_l2 (value_at (λ j. eqb k j) l2.entries)) c.rb_depends_on_l2.ensures.turns.others_stay; changes = c.rb_depends_on_l2.ensures.turns.changes } in
    handed_on (FreesOff c.args.file.now.header.fields c.args.self.now.reftable c.args.self.now c.args.file.now.caches c.args.file.now.free_list c.free_kind.new.self c.rb_depends_on_l2.new.self c.free_kind.new.file.free_list)
    c.from_residual-in_err-rb_depends_on_l2.result c.in_err-rb_depends_on_l2.field-0.0 c.from_residual-in_err-rb_depends_on_l2.ensures
    (off_then c.args.file.now.header.fields c.args.self.now.reftable c.args.self.now c.free_kind.new.self c.free_kind.new.self c.args.file.now.caches c.free_kind.new.file.caches c.rb_depends_on_l2.new.self c.args.file.now.free_list c.free_kind.new.file.free_list c.free_kind.new.file.free_list (Err c.in_err-rb_depends_on_l2.field-0.0)
    c.in_ok-free_kind.ensures.frees.each
    (off_refused c.args.file.now.header.fields c.args.self.now.reftable c.free_kind.new.self c.free_kind.new.self c.free_kind.new.file.caches c.rb_depends_on_l2.new.self c.free_kind.new.file.free_list c.in_err-rb_depends_on_l2.field-0.0 refl (blocks_loaded c.free_kind.new.file.caches c.rb_depends_on_l2.new.self turned)))

pub returns-clause-each : goal.returns-clause-each
returns-clause-each g c =
    let turned : KeepsBlockBytes c.free_kind.new.file.caches c.rb_depends_on_l2.new.self = record { held = c.rb_depends_on_l2.ensures.held; tables = λ k. ap (λ l2. option_map cleared_l2 (value_at (λ j. eqb k j) l2.entries)) c.rb_depends_on_l2.ensures.turns.others_stay; changes = c.rb_depends_on_l2.ensures.turns.changes } in
    let list = c.free_kind.new.file.free_list in
    off_then c.args.file.now.header.fields c.args.self.now.reftable c.args.self.now c.free_kind.new.self c.free_kind-2.new.self c.args.file.now.caches c.free_kind.new.file.caches c.free_kind-2.new.file.caches c.args.file.now.free_list list c.free_kind-2.new.file.free_list c.free_kind-2.result c.in_ok-free_kind.ensures.frees.each
    (off_then c.args.file.now.header.fields c.args.self.now.reftable c.free_kind.new.self c.free_kind.new.self c.free_kind-2.new.self c.free_kind.new.file.caches c.rb_depends_on_l2.new.self c.free_kind-2.new.file.caches list list c.free_kind-2.new.file.free_list c.free_kind-2.result
    (off_none c.args.file.now.header.fields c.args.self.now.reftable c.free_kind.new.self c.free_kind.new.file.caches c.rb_depends_on_l2.new.self list turned)
    (off_of c.args.file.now.header.fields c.free_kind.new.file.header.fields c.args.self.now.reftable c.free_kind.new.self.reftable c.free_kind.new.self c.free_kind-2.new.self c.rb_depends_on_l2.new.self c.free_kind-2.new.file.caches list c.free_kind-2.new.file.free_list c.free_kind-2.result
    (ap (λ (x : HeaderView). x.fields) c.free_kind.ensures.frees.step.header) c.free_kind.ensures.frees.step.reftable c.free_kind-2.ensures.frees.each))

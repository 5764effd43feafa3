use Rattle.std.proofs.Common.{◌≡◌, ◌+◌, ◌-◌, ◌<◌, ℕ, None, refl, sym, ap, ◌∙◌, subst, arith}
use Rattle.qcow2_alloc.proofs.Common.{Bytes, IsUnnamed, ImageFile, run_at, contents_in, rb_at, room_length}
use Rattle.qcow2_alloc.proofs.Lemmas.{allocator_step_none, allocator_step_then, marks_then, held_none, uncached_next, IsFree, empty_run, allocator_step_removed, removed_stays, run_in}
use Rattle.qcow2_alloc.proofs.new_refblocks.drop_blocks.Goals as goal

pub dropping-init : goal.dropping-init
dropping-init g c = record {
  rest = refl;
  step = held_none;
  tables = refl;
  clean = λ all. all;
  sound = λ q a sound free. (
    allocator_step_none g.S.Storage.view q c.args.file.now a sound,
    free,
    λ k some. absurd (let empty = empty_run c.args.room.first (c.args.room.first - c.args.room.first) k (omega arith) in omega (arith, some, empty)),
  );
}

pub dropping-preserved : goal.dropping-preserved
dropping-preserved g c =
    let view = g.S.Storage.view in
    let old = c.args.file.now in
    let f = c.dropping.file in
    let inv = c.dropping.invariant in
    let first = c.args.room.first in
    let n = room_length c.args.room in
    let from = c.dropping.auto.cluster in
    let lt = c.dropping-test.true in
    let at_is = c.new.ensures in
    record {
      rest = ap {A = ImageFile g.row.S.Denot} (λ x. record x { caches = c.rb_remove.new.self }) inv.rest;
      step = record {
        marks = marks_then old.caches f.caches c.rb_remove.new.self inv.step.marks c.rb_remove.ensures.step.marks;
        order = c.rb_remove.ensures.step.order ∙ inv.step.order;
        header_cluster = λ bits leave. c.rb_remove.ensures.step.header_cluster bits (inv.step.header_cluster bits leave);
      };
      tables = c.rb_remove.ensures.removes.l2 ∙ inv.tables;
      clean = λ all. c.rb_remove.ensures.removes.clean (inv.clean all);
      sound = λ q a sound free.
          let before = inv.sound q a sound free in
          let some : 0 < run_at first n c.new.result = (let one = run_in first n c.new.result (omega (arith, at_is, from)) (omega (arith, at_is, lt)) in omega (arith, one)) in
          let here : IsFree view q f c.new.result = record { unnamed = (before.1 c.new.result some).0; unheld = (before.1 c.new.result some).1 } in
          let still = before.0.file_step.sound in
          let removed = allocator_step_removed view q f c.rb_remove.new.self c.new.result still here c.rb_remove.ensures.step.order a before.0.reftable c.rb_remove.result c.rb_remove.ensures.same c.rb_remove.ensures.removes.taken c.rb_remove.ensures.step.marks in
          let stays = removed_stays view q f c.rb_remove.new.self c.new.result still here c.rb_remove.ensures.step.order c.rb_remove.result c.rb_remove.ensures.same c.rb_remove.ensures.removes.taken in
          let gone = c.rb_remove.ensures.removes.gone f.header.fields q (contents_in view f) still.caches still.room in (
            allocator_step_then view q q old f (record f { caches = c.rb_remove.new.self }) a a before.0 removed,
            (λ k within. (subst (λ (b : Bytes). IsUnnamed f.header.fields (contents_in view f) b k) (sym stays.known) (before.1 k within).0, (before.1 k within).1)),
            subst (λ (at : ℕ). (k : ℕ) → 0 < run_at first (at + 1 - first) k → rb_at c.rb_remove.new.self k ≡ None) at_is
                (uncached_next f.caches c.rb_remove.new.self first c.new.result (omega (arith, at_is, from)) c.rb_remove.ensures.others gone (subst (λ (at : ℕ). (k : ℕ) → 0 < run_at first (at - first) k → rb_at f.caches k ≡ None) (sym at_is) before.2)),
          );
    }

pub returns-clause-sound : goal.returns-clause-sound
returns-clause-sound g c = λ q a sound free.
    let before = c.dropping.invariant.sound q a sound free in
    let past = c.dropping-test.false in
    let le = c.dropping.auto.cluster-end in
    let done : c.dropping.cluster - c.args.room.first ≡ c.args.room.blocks = omega (arith, past, le) in
    record { allocator_step = before.0; uncached = λ k some. before.2 k (subst (λ m. 0 < run_at c.args.room.first m k) (sym done) some) }

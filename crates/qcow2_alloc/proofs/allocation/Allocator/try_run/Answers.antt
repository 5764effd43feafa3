use Rattle.std.proofs.Common.{◌+◌, inr, refl, sym, subst, arith}
use Rattle.qcow2_alloc.proofs.Common.{Pending, InternalAllocatorGrowth}
use Rattle.qcow2_alloc.proofs.Lemmas.{on_none, listed_after_same, step_none}
use Rattle.qcow2_alloc.proofs.allocation.Allocator.try_run.Goals as goal

pub returns-then-room-n-clause-step : goal.returns-then-room-n-clause-step
returns-then-room-n-clause-step g c = step_none

pub returns-then-room-n-clause-sound : goal.returns-then-room-n-clause-sound
returns-then-room-n-clause-sound g c = λ p d sound may.
    let less = c.if-room-n.true in
    record {
      takes = (
        λ all. absurd (omega (arith, less, all)),
        λ some. subst (λ (r : Pending). InternalAllocatorGrowth g.S.Storage.view p c.args.file.now c.args.self.now c.args.file.now r) (sym (listed_after_same p c.args.file.now.free_list c.args.file.now.free_list refl)) (on_none g.S.Storage.view p c.args.file.now c.args.self.now sound),
      );
      leaks = refl;
      uses = λ k used. used;
      used = λ hint some. hint (c.args.first + c.room_from-room.result) (inr (inr (c.room_from-room.ensures.kept less)));
      hint = λ hint. hint;
      limit = λ hint near. tt;
    }

pub returns-then-room-n-clause-recorded : goal.returns-then-room-n-clause-recorded
returns-then-room-n-clause-recorded g c = λ all. let less = c.if-room-n.true in absurd (omega (arith, less, all))

use Rattle.qcow2_alloc.proofs.Common.{refl, ap, ◌∙◌, AllocatesRoomSoundly, Allocator}
use Rattle.qcow2_alloc.proofs.Lemmas.{handed_on, allocator_step_as, search_then, search_kept, fails_ok, fails_on, table_step_as}
use Rattle.qcow2_alloc.proofs.allocation.Allocator.allocate_room.Goals as goal

pub returns-in_err-room-clause-fails : goal.returns-in_err-room-clause-fails
returns-in_err-room-clause-fails g c = fails_on c.from_residual.result c.in_err-room.field-0.0 c.from_residual.ensures c.in_err-room.ensures.fails

pub returns-in_err-room-clause-sound : goal.returns-in_err-room-clause-sound
returns-in_err-room-clause-sound g c = λ p sound.
    handed_on (AllocatesRoomSoundly g.S.Storage.view p c.args.clusters c.args.end c.args.self.now c.args.file.now c.find_room.new.self c.find_room.new.file) c.from_residual.result c.in_err-room.field-0.0 c.from_residual.ensures (c.in_err-room.ensures.sound p sound)

pub returns : goal.returns
returns g c = record {
  step = table_step_as (ap (λ (t : Allocator). t.reftable) c.forget_range.ensures.kept.rest) refl c.find_room.ensures.step;
  fails = fails_ok c.in_ok-room.ensures.fails.told;
  sound = λ p sound.
      let s = c.in_ok-room.ensures.sound p sound in
      record {
        takes = allocator_step_as g.S.Storage.view p _ c.args.file.now c.find_room.new.file c.find_room.new.self c.forget_range.new.self (ap (λ (t : Allocator). t.reftable) c.forget_range.ensures.kept.rest) s.takes;
        leaks = ap (λ (t : Allocator). t.leaked_clusters) c.forget_range.ensures.kept.rest ∙ s.leaks;
        lowest = s.lowest;
        limit = s.limit;
      };
  room = c.in_ok-room.ensures.room;
  reftable = ap (λ (t : Allocator). t.reftable) c.forget_range.ensures.kept.rest ∙ c.find_room.ensures.reftable;
  first = search_then c.args.self.now c.find_room.new.self c.forget_range.new.self c.find_room.ensures.first (search_kept c.find_room.new.self c.forget_range.new.self c.forget_range.ensures.kept);
}

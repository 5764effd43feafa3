use Rattle.std.proofs.Common.{◌≡◌, ◌-◌, ◌<◌, ℕ, None}
use Rattle.qcow2_alloc.proofs.Common.{AreClean, Pending, Allocator, run_at, InternalAllocatorStep, HeldStep, AllocatorInvariant, refblocks, rb_at, room_length, AreFree}
use Rattle.qcow2_alloc.proofs.new_refblocks.drop_blocks.Given as goal

-- the refblocks of the clusters before this one are dropped
abbrev pub invariant-dropping : goal.invariant-dropping
invariant-dropping g l = record {
  rest : l.file ≡ record l.fn.file { caches = l.file.caches };
  step : HeldStep l.fn.file.caches l.file.caches;
  tables : l.file.caches.l2 ≡ l.fn.file.caches.l2;
  clean : AreClean (refblocks l.fn.file.caches) → AreClean (refblocks l.file.caches);
  sound : (q : Pending) (allocator : Allocator) → AllocatorInvariant g.S.Storage.view allocator q l.fn.file → AreFree g.S.Storage.view q l.fn.file l.fn.room.first (room_length l.fn.room)
      → InternalAllocatorStep g.S.Storage.view q l.fn.file allocator l.file q × AreFree g.S.Storage.view q l.file l.fn.room.first (room_length l.fn.room)
      × ((c : ℕ) → 0 < run_at l.fn.room.first (l.cluster - l.fn.room.first) c → rb_at l.file.caches c ≡ None);
}

use Rattle.std.proofs.Common.{◌≡◌, ◌+◌, ◌-◌, ◌^◌, ◌<◌, ◌≤◌, length}
use Rattle.qcow2_alloc.proofs.Common.{counts_per_block, BlocksMayGo, Pending, NamesLacking, faults_of, with_run, known_in, AllocatorInvariant, order_of, l2_tables, HavePlaces, opened, room_length, InternalNewBlocks, IsLonger, TableStep}
use Rattle.qcow2_alloc.proofs.PlacedRooms.{EntersSo, Counting}
use Rattle.qcow2_alloc.proofs.allocation.Allocator.cache_blocks.Given as goal

-- the refblocks of the ranges that the clusters before this one enter are cached
abbrev pub invariant-placing : goal.invariant-placing
invariant-placing g l = record {
  step : TableStep g.S.Storage.view l.fn.self.reftable l.fn.file l.fn.self.reftable l.file;
  faults : faults_of g.S.Storage.view l.file.storage ≡ faults_of g.S.Storage.view l.fn.file.storage;
  rest : l.table ≡ record l.fn.table { bytes = l.table.bytes };
  as_long : length l.table.bytes ≡ length l.fn.table.bytes;
  lacking : NamesLacking l.fn.self.reftable l.fn.table l.table;
  counts : counts_per_block l.fn.file.header.fields ≡ 2 ^ l.bits;
  bits : l.bits < 64;
  end_is : l.end ≡ l.fn.room.first + room_length l.fn.room;
  low : l.fn.room.first ≤ l.at;
  high : l.at ≤ l.cluster;
  placed : l.at - l.fn.room.first ≡ opened l.fn.self.reftable (counts_per_block l.fn.file.header.fields) l.fn.room.first (l.cluster - l.fn.room.first);
  sound : (p : Pending) → AllocatorInvariant g.S.Storage.view l.fn.self (with_run p l.fn.file.header.fields l.fn.self.reftable l.fn.room.first (room_length l.fn.room)) l.fn.file
      → BlocksMayGo (order_of l.fn.file.caches) (l2_tables l.fn.file.caches) → IsLonger l.fn.file.header.fields l.fn.self.reftable l.fn.table l.fn.room.clusters
      → InternalNewBlocks g.S.Storage.view (with_run p l.fn.file.header.fields l.fn.self.reftable l.fn.room.first (room_length l.fn.room)) l.fn.file l.fn.self l.file l.fn.room.first (room_length l.fn.room)
      × HavePlaces l.file.header.fields l.file.caches
      × EntersSo l.fn.file.header.fields l.fn.self.reftable l.fn.table l.table l.fn.room.first (l.at - l.fn.room.first) l.cluster
      × Counting l.fn.file.header.fields (known_in g.S.Storage.view l.file) l.fn.self.reftable l.table l.fn.room.first (room_length l.fn.room);
}

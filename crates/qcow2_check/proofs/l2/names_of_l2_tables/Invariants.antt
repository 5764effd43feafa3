use Rattle.std.proofs.Common.{◌+◌, ◌*◌, ◌^◌, ◌≤◌, Ok, take}
use Rattle.qcow2_check.proofs.Common.{byte_at, named_by_l2_table, OnlyReads, data_off_at, data_off_by_tables, marked_by_l2_table, named_by_tables, marked_by_tables}
use Rattle.qcow2_check.proofs.Repeats.{IsBehind}
use Rattle.qcow2_check.proofs.l2.names_of_l2_tables.Given as goal

abbrev pub invariant-loop-next : goal.invariant-loop-next
invariant-loop-next g l = record {
  names : (g.S.Storage.view l.initial.storage).is_honest
      → IsBehind l.initial.names.clusters l.names.clusters
      (named_by_tables l.header (byte_at (g.S.Storage.view l.initial.storage).contents) (take l.next-index l.places))
      (marked_by_tables l.header (byte_at (g.S.Storage.view l.initial.storage).contents) (take l.next-index l.places))
      (λ q. l.times * named_by_l2_table l.header (byte_at (g.S.Storage.view l.initial.storage).contents) q l.place)
      (λ q. l.times * marked_by_l2_table l.header (byte_at (g.S.Storage.view l.initial.storage).contents) q l.place);
  offsets : (g.S.Storage.view l.initial.storage).is_honest
      → IsBehind l.initial.offsets.clusters l.offsets.clusters
      (data_off_by_tables l.header (byte_at (g.S.Storage.view l.initial.storage).contents) (take l.next-index l.places)) (λ _. 0)
      (λ o. l.times * data_off_at l.header (byte_at (g.S.Storage.view l.initial.storage).contents) o l.place) (λ _. 0);
  few : l.times ≤ l.next-index;
  names_total : l.names.total + l.times * 2 ^ 33 ≤ l.initial.names.total + l.next-index * 2 ^ 33;
  offsets_total : l.offsets.total + l.times * 2 ^ 33 ≤ l.initial.offsets.total + l.next-index * 2 ^ 33;
  reading : OnlyReads (g.S.Storage.view l.initial.storage) (g.S.Storage.view l.storage) (Ok (tt {0}));
}

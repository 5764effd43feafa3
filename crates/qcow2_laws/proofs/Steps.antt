-- Each step of the driver is a safe step.
use Rattle.std.proofs.Common.{◌∷◌, ◌++◌, inl, inr, [], refl}
use Rattle.qcow2_laws.proofs.Common.{header, one_at, with_new_data, with_new_tables, without_old_tables, without_old_data, new_data_to_old_data, new_data_to_old_tables, new_tables_to_old_tables, stop_of_kept, kept_more}
use Rattle.qcow2_laws.specs.Laws.{SoundIsConsistent, MixIsSafe, TableIsWritten, CountIsChanged, PendingIsChanged, EntryIsChanged, DataIsWritten, TableIsNamed, HeaderIsWritten, StepsCompose}
use Rattle.qcow2_laws.proofs.Mixes.{mixed_crash_invariant, turned_crash_invariant}
use Rattle.qcow2_laws.proofs.Consistency.{crash_invariant_consistent, known_consistent}
use Rattle.qcow2_laws.proofs.Opened.{opened_crash_invariant}
use Rattle.qcow2_laws.proofs.Values.{mixed_kept}
use Rattle.qcow2_laws.proofs.Changes.{old_data_instead, old_tables_instead, never_named}
use Rattle.qcow2_laws.proofs.Writes.{new_data_is_unnamed, new_tables_is_unnamed, unused_is_unnamed, written_crash_invariant, written_kept, written_known_kept}
use Rattle.qcow2_laws.proofs.Blocks.{data_allocated, table_allocated, table_released, data_released, counts_step, entry_set, entry_kept}
use Rattle.qcow2_laws.proofs.NewTables.{l1_named}
use Rattle.qcow2_laws.proofs.NewBlocks.{block_named, block_counts_itself}
use Rattle.qcow2_laws.proofs.Headers.{size_written}
use Rattle.qcow2_laws.proofs.L1Moves.{l1_moved}
use Rattle.qcow2_laws.proofs.ReftableMoves.{reftable_moved}
use Rattle.qcow2_laws.proofs.Caches.{block_written, table_written}
use Rattle.qcow2_laws.proofs.SafeSteps.{safe_step_still, safe_step_then, safe_step_less}

pub sound_is_consistent : SoundIsConsistent
sound_is_consistent = record {
  on_storage = λ s sound own. crash_invariant_consistent s.header s.direction s.pending s.on_storage s.known sound own;
  known = λ s sound own. known_consistent s.header s.direction s.pending s.on_storage s.known sound own;
  opened = λ b ok. opened_crash_invariant (header b) b ok refl;
}

pub mix_is_safe : MixIsSafe
mix_is_safe = record {
  mixed = λ s b sound mixed. record {
    sound = mixed_crash_invariant s.header s.direction s.pending s.on_storage s.known b sound mixed;
    on_storage = λ backing m ok known_ok. mixed_kept s.header s.direction s.pending s.on_storage s.known b sound mixed backing m ok known_ok;
    known = λ backing m ok known_ok. known_ok;
  };
  turned = λ s to sound may. safe_step_still s to s.pending (turned_crash_invariant s.header s.direction to s.pending s.on_storage s.known may sound);
}

pub table_is_written : TableIsWritten
table_is_written = record {
  block = λ h d p l2s front back t t' on_storage on_storage' kept may so. block_written h d p l2s (front ++ t ∷ back) on_storage kept front back t t' on_storage' refl so may;
  table = λ h d p front back rbs t t' on_storage on_storage' kept may so. table_written h d p (front ++ t ∷ back) rbs on_storage kept front back t t' on_storage' refl so may;
}

pub count_is_changed : CountIsChanged
count_is_changed = record {
  data_allocated = λ s known' c sound is rises not_overlaid. counts_step s.header s.direction s.pending s.on_storage s.known known' sound c rises.real rises.outside (with_new_data s.pending (one_at c))
      (data_allocated s.header s.direction s.pending s.on_storage s.known known' sound c rises.real rises.outside rises.more rises.free is not_overlaid);
  table_allocated = λ s known' c sound rises. counts_step s.header s.direction s.pending s.on_storage s.known known' sound c rises.real rises.outside (with_new_tables s.pending (one_at c))
      (table_allocated s.header s.direction s.pending s.on_storage s.known known' sound c rises.real rises.outside rises.more rises.free);
  table_freed = λ s known' c sound falls some. counts_step s.header s.direction s.pending s.on_storage s.known known' sound c falls.real falls.outside (without_old_tables s.pending (one_at c))
      (table_released s.header s.direction s.pending s.on_storage s.known known' sound c falls.real falls.outside falls.less some);
  data_freed = λ s known' c sound is falls some. counts_step s.header s.direction s.pending s.on_storage s.known known' sound c falls.real falls.outside (without_old_data s.pending (one_at c))
      (data_released s.header s.direction s.pending s.on_storage s.known known' sound c falls.real falls.outside falls.less is some);
}

pub pending_is_changed : PendingIsChanged
pending_is_changed = record {
  old_data = λ s n sound few some. safe_step_still s s.direction (new_data_to_old_data s.pending n) (old_data_instead s.header s.direction s.pending s.on_storage s.known sound n few some);
  undone = λ s n sound few some. safe_step_still s s.direction (new_data_to_old_tables s.pending n) (old_tables_instead s.header s.direction s.pending s.on_storage s.known sound n few some);
  abandoned = λ s n sound few some. safe_step_still s s.direction (new_tables_to_old_tables s.pending n) (never_named s.header s.direction s.pending s.on_storage s.known sound n few some);
}

pub entry_is_changed : EntryIsChanged
entry_is_changed s known' i j given sound changes shows = record {
  sound = entry_set s.header s.direction s.pending s.on_storage s.known known' sound i j changes.real changes.within changes.outside changes.entries changes.new_data changes.marked changes.aligned changes.at_guest;
  on_storage = λ backing m ok known_ok. kept_more backing (given backing) [] m s.on_storage ok;
  known = λ backing m ok known_ok.
      entry_kept s.header s.direction s.pending s.on_storage s.known known' sound i j changes.real changes.within changes.outside changes.entries changes.new_data changes.marked changes.aligned changes.at_guest
      backing m (given backing) (shows backing) known_ok;
}

pub data_is_written : DataIsWritten
data_is_written = record {
  written = λ s on_storage' known' given sound writes. record {
    sound = written_crash_invariant s.header s.direction s.pending s.on_storage s.known on_storage' known' given sound writes;
    on_storage = λ backing m ok known_ok. written_kept s.header s.direction s.pending s.on_storage s.known on_storage' known' given sound writes backing m ok;
    known = λ backing m ok known_ok. written_known_kept s.header s.direction s.pending s.on_storage s.known on_storage' known' given sound writes backing m known_ok;
  };
  new_data = λ s c sound some. new_data_is_unnamed s.header s.direction s.pending s.on_storage s.known sound c some;
  new_tables = λ s c sound some written. new_tables_is_unnamed s.header s.direction s.pending s.on_storage s.known sound c some written;
  unused = λ s c sound known_none storage_none. unused_is_unnamed s.header s.direction s.pending s.on_storage s.known sound c known_none storage_none;
}

pub table_is_named : TableIsNamed
table_is_named = record {
  l2_table = λ s on_storage' known' i entry sound writes new. l1_named s.header s.direction s.pending s.on_storage s.known on_storage' known' sound i entry writes new;
  refblock = λ s on_storage' known' k entry sound writes new new_tables counted written. block_named s.header s.direction s.pending s.on_storage s.known on_storage' known' sound k entry writes new new_tables counted written;
  itself = λ s on_storage' known' k entry sound writes new range. block_counts_itself s.header s.direction s.pending s.on_storage s.known on_storage' known' sound k entry writes new range;
}

pub header_is_written : HeaderIsWritten
header_is_written = record {
  size = λ s on_storage' known' size autoclear sound writes. size_written s.header size autoclear s.direction s.pending s.on_storage s.known on_storage' known' sound writes (size ∷ []) (inr (inl refl));
  same_size = λ s on_storage' known' autoclear sound writes. size_written s.header s.header.size autoclear s.direction s.pending s.on_storage s.known on_storage' known' sound writes [] (inl refl);
  l1_table = λ s on_storage' known' offset entries sound writes new. l1_moved s.header offset entries s.direction s.pending s.on_storage s.known on_storage' known' sound writes new;
  reftable = λ s on_storage' known' offset clusters blocks counted sound writes new.
      reftable_moved s.header offset clusters blocks counted s.direction s.pending s.on_storage s.known on_storage' known' sound writes new;
}

pub steps_compose : StepsCompose
steps_compose = record { steps = safe_step_then; less = safe_step_less; stop = λ backing b m kept. stop_of_kept backing m b kept }

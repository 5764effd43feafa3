-- The parts of a write: how they leave an image one after another, and what each promises in addition.
use Rattle.std.proofs.Common.{◌≡◌, ℕ, List, refl, ap, ◌∙◌}
use Rattle.qcow2_image.proofs.Common.{StorageView, ClustersToFreeEntry, notes_none, notes_then, header_same, header_then, ImageStays, is_beside, lacks_data_file, is_writable, ImageStep, ImageStepWhere, ReadingStep, FreesLater, Pins, FillingStep, KeepingStep, AllocatingStep, AllocatingStepWhere, Qcow2, MetadataCaches, l2_at, option_map}
use Rattle.qcow2_alloc.specs.KeptMarks.{KeepsHeldTables}
use Rattle.qcow2_alloc.specs.TableCaches.{cleared_l2}
use Rattle.qcow2_image.specs.HeldMappings.{KeepsHeld}
use Rattle.qcow2_image.proofs.Call.BehindHeader.{behind_by, behind_none, behind_tables, behind_then}
use Rattle.qcow2_image.proofs.Call.ImageSteps.{stays_then, step_none}
use Rattle.qcow2_image.proofs.Call.Notes.{pins_kept, same_kept}

-- the caches are the same
cached_same : {S F : Type 0} (a b : Qcow2 S F) → b.file.caches ≡ a.file.caches → KeepsHeldTables a.file.caches b.file.caches
cached_same {S} a b same c = ap (λ (m : MetadataCaches S). option_map cleared_l2 (l2_at m c)) same

module _ {S F : Type 0} {view : S → StorageView} where
  -- ---- parts that leave the header and the list the same
  pub keeping_of_read : {a b : Qcow2 S F} → ReadingStep view a b → KeepingStep view a b
  keeping_of_read read = record { stays = read.part.stays; notes = read.part.notes; header_cluster = read.part.header_cluster; header = read.header; list = read.list }

  pub keeping_of_filling : {a b : Qcow2 S F} → FillingStep view a b → KeepingStep view a b
  keeping_of_filling part = record { stays = part.stays; notes = part.notes; header_cluster = part.header_cluster; header = part.header; list = part.list }

  pub keeping_then : {a b c : Qcow2 S F} → KeepingStep view a b → KeepingStep view b c → KeepingStep view a c
  keeping_then first then = record {
    stays = stays_then first.stays then.stays;
    notes = notes_then first.notes then.notes;
    header_cluster = behind_then first.header_cluster then.header_cluster;
    header = then.header ∙ first.header;
    list = then.list ∙ first.list;
  }

  -- ---- parts that also leave the allocator and the L1 table the same
  pub filling_none : {a : Qcow2 S F} → FillingStep view a a
  filling_none = record { stays = (step_none {view = view}).stays; notes = notes_none; header_cluster = behind_none; header = refl; list = refl; allocator = refl; table = refl; cached = λ c. refl }

  pub filling_of_read : {a b : Qcow2 S F} → ReadingStep view a b → b.allocator ≡ a.allocator → KeepsHeld a b → FillingStep view a b
  filling_of_read {a} {b} read allocator held = record {
    stays = read.part.stays;
    notes = read.part.notes;
    header_cluster = read.part.header_cluster;
    header = read.header;
    list = read.list;
    allocator = allocator;
    table = held.l1_table;
    cached = cached_same a b held.caches;
  }

  -- a write of data
  pub filling_written : {a b : Qcow2 S F} → ImageStep view a b → b ≡ record a { file = record a.file { storage = b.file.storage }; data_file = b.data_file } → FillingStep view a b
  filling_written {a} {b} step rest = record {
    stays = step.stays;
    notes = step.notes;
    header_cluster = step.header_cluster;
    header = ap (λ (i : Qcow2 S F). i.file.header) rest;
    list = ap (λ (i : Qcow2 S F). i.file.free_list) rest;
    allocator = ap (λ (i : Qcow2 S F). i.allocator) rest;
    table = ap (λ (i : Qcow2 S F). i.l1_table) rest;
    cached = cached_same a b (ap (λ (i : Qcow2 S F). i.file.caches) rest);
  }

  -- a pin more
  pub filling_pinned : {table : ℕ} {a b : Qcow2 S F} → ImageStays a b → Pins table a b → FillingStep view a b
  filling_pinned {table} {a} {b} stays pins = record {
    stays = stays;
    notes = pins_kept a b (ap (λ (i : Qcow2 S F). i.file.storage) pins.rest) pins.changed pins.counted;
    header_cluster = behind_by view pins.rest (behind_tables pins.tables.behind);
    header = ap (λ (i : Qcow2 S F). i.file.header) pins.rest;
    list = ap (λ (i : Qcow2 S F). i.file.free_list) pins.rest;
    allocator = ap (λ (i : Qcow2 S F). i.allocator) pins.rest;
    table = ap (λ (i : Qcow2 S F). i.l1_table) pins.rest;
    cached = λ c. ap (option_map cleared_l2) (pins.tables.l2_at c);
  }

  pub filling_then : {a b c : Qcow2 S F} → FillingStep view a b → FillingStep view b c → FillingStep view a c
  filling_then first then = record {
    stays = stays_then first.stays then.stays;
    notes = notes_then first.notes then.notes;
    header_cluster = behind_then first.header_cluster then.header_cluster;
    header = then.header ∙ first.header;
    list = then.list ∙ first.list;
    allocator = then.allocator ∙ first.allocator;
    table = then.table ∙ first.table;
    cached = λ c. then.cached c ∙ first.cached c;
  }

  -- ---- parts that may allocate clusters
  taking_with : {a b : Qcow2 S F} → ImageStep view a b → b.file.header ≡ a.file.header → b.file.caches ≡ a.file.caches → AllocatingStep view a b
  taking_with {a} {b} step header caches =
      record { stays = step.stays; notes = step.notes; header_cluster = step.header_cluster; header = header_same a.file.header b.file.header header; cached = cached_same a b caches }

  pub taking_none : {a : Qcow2 S F} → AllocatingStep view a a
  taking_none = taking_with step_none refl refl

  pub taking_of_filling : {a b : Qcow2 S F} → FillingStep view a b → AllocatingStep view a b
  taking_of_filling {a} {b} part = record { stays = part.stays; notes = part.notes; header_cluster = part.header_cluster; header = header_same a.file.header b.file.header part.header; cached = part.cached }

  -- clusters that wait to be freed
  pub taking_listed : (more : List ClustersToFreeEntry) {a b : Qcow2 S F} → FreesLater more a b → AllocatingStep view a b
  taking_listed more {a} {b} lists = taking_with
      (record {
        stays = record {
          image = record {
            number = ap (λ (i : Qcow2 S F). i.number) lists;
            size = ap (λ (i : Qcow2 S F). i.file.header.fields.size) lists;
            writable = ap (λ (i : Qcow2 S F). is_writable i) lists;
            lacks = ap (λ (i : Qcow2 S F). lacks_data_file i) lists;
            beside = ap (λ (i : Qcow2 S F). is_beside i) lists;
          };
          failed = ap (λ (i : Qcow2 S F). i.is_failed) lists;
        };
        notes = same_kept a b (ap (λ (i : Qcow2 S F). i.file.storage) lists) (ap (λ (i : Qcow2 S F). i.file.caches) lists);
        header_cluster = behind_by view lists behind_none;
      })
      (ap (λ (i : Qcow2 S F). i.file.header) lists) (ap (λ (i : Qcow2 S F). i.file.caches) lists)

  pub taking_then : {a b c : Qcow2 S F} → AllocatingStep view a b → AllocatingStep view b c → AllocatingStep view a c
  taking_then {a} {b} {c} first then = record {
    stays = stays_then first.stays then.stays;
    notes = notes_then first.notes then.notes;
    header_cluster = behind_then first.header_cluster then.header_cluster;
    header = header_then a.file.header b.file.header c.file.header first.header then.header;
    cached = λ k. then.cached k ∙ first.cached k;
  }

  -- ---- under a condition
  pub taking_where : {Where : Type 0} {a b : Qcow2 S F} → AllocatingStep view a b → AllocatingStepWhere view Where a b
  taking_where part = record { stays = part.stays; notes = part.notes; header_cluster = λ is. part.header_cluster; header = part.header }

  pub where_with : {Where : Type 0} {a b : Qcow2 S F} → ImageStepWhere view Where a b → b.file.header ≡ a.file.header → AllocatingStepWhere view Where a b
  where_with {Where} {a} {b} step header = record { stays = step.stays; notes = step.notes; header_cluster = step.header_cluster; header = header_same a.file.header b.file.header header }

  pub where_then : {Where : Type 0} {a b c : Qcow2 S F} → AllocatingStepWhere view Where a b → AllocatingStepWhere view Where b c → AllocatingStepWhere view Where a c
  where_then {Where} {a} {b} {c} first then = record {
    stays = stays_then first.stays then.stays;
    notes = notes_then first.notes then.notes;
    header_cluster = λ is. behind_then (first.header_cluster is) (then.header_cluster is);
    header = header_then a.file.header b.file.header c.file.header first.header then.header;
  }

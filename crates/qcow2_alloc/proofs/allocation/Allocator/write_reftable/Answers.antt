use Rattle.std.proofs.Common.{ℕ, refl, ◌≡◌, ◌+◌, ◌*◌, ◌/◌, ◌<◌, ◌≤◌, sym, ap, ◌∙◌, subst, arith, Some, inl, IfSome}
use Rattle.qcow2_alloc.proofs.Common.{HeaderFields, EntryTableView, entry_count, cluster_size, HeaderView, AreClean, ImageFile, MetadataCaches, run_at, NamesLacking, HasBytesAt, faults_of, with_run, NamesReftable, StandsGrown, contents_in, AllocatorInvariant, KeepsUsed, order_of, l2_tables, refblocks, rb_at, room_length, placed_at, EntersRoom, or_left, is_changed_of}
use Rattle.qcow2_alloc.proofs.KeptTables.Held.{listed_same}
use Rattle.qcow2_alloc.proofs.Lemmas.{fails_moved, fails_aligned, handed_on, allocator_step_cached, allocator_step_then, is_sound_now, leaves_then, file_sizes, Counting, may_go, new_blocks_refused, counting_beside, table_err, table_ok, stands_ready, names_then, uses_after, ok_as, uses_refused, fails_on, fails_since, fails_still, pointer_step_on, pointer_step_then, table_step_cached, table_step_dropped, table_step_then, table_step_part, pointer_step_to, fault_alone, file_fits, fails_of_tables}
use Rattle.qcow2_alloc.proofs.allocation.Allocator.write_reftable.Goals as goal

pub returns-in_err-before_rb-clause-sound : goal.returns-in_err-before_rb-clause-sound
returns-in_err-before_rb-clause-sound g c = λ p sound longer.
    let view = g.S.Storage.view in
    let old = c.args.file.now in
    let a = c.args.self.now in
    let h = c.args.file.now.header.fields in
    let first = c.args.room.first in
    let n = room_length c.args.room in
    let q = with_run p c.args.file.now.header.fields c.args.self.now.reftable c.args.room.first (room_length c.args.room) in
    let one = allocator_step_cached view q old a c.before_rb.new.storage c.before_rb.new.self sound (c.before_rb.ensures.sound.keeps h q sound.sound.honest sound.sound.caches) c.before_rb.ensures.step.marks.pins in
    let f1 = record old { storage = c.before_rb.new.storage; caches = c.before_rb.new.self } in
    record {
      names = handed_on (NamesReftable view q p old a f1) c.from_residual.result c.in_err-before_rb.field-0.0 c.from_residual.ensures
          (fault_alone c.in_err-before_rb.field-0.0 (file_fits view q old sound.sound).0 c.in_err-before_rb.ensures.fails.cause, inl (one.file_step, one.reftable));
      uses = handed_on (KeepsUsed view old f1) c.from_residual.result c.in_err-before_rb.field-0.0 c.from_residual.ensures
          (uses_refused view q old f1 a c.in_err-before_rb.field-0.0 (inl (one.file_step, one.reftable)));
    }

pub returns-in_err-placed-clause-sound : goal.returns-in_err-placed-clause-sound
returns-in_err-placed-clause-sound g c = λ p sound longer.
    let view = g.S.Storage.view in
    let old = c.args.file.now in
    let a = c.args.self.now in
    let h = c.args.file.now.header.fields in
    let first = c.args.room.first in
    let n = room_length c.args.room in
    let q = with_run p c.args.file.now.header.fields c.args.self.now.reftable c.args.room.first (room_length c.args.room) in
    let one = allocator_step_cached view q old a c.before_rb.new.storage c.before_rb.new.self sound (c.before_rb.ensures.sound.keeps h q sound.sound.honest sound.sound.caches) c.before_rb.ensures.step.marks.pins in
    let f1 = record old { storage = c.before_rb.new.storage; caches = c.before_rb.new.self } in
    let f2 = c.place_blocks-placed.new.file in
    let f3 = c.drop_blocks.new.file in
    let refused = c.in_err-placed.ensures.sound p (is_sound_now view q q old f1 a one) c.in_ok-before_rb.ensures.way.first longer in
    let left = leaves_then view q old f1 f3 a c.in_err-placed.field-0.0 one.file_step
    (new_blocks_refused view q a first n f1 f2 f3 c.in_err-placed.field-0.0 c.place_blocks-placed.ensures.step.header c.drop_blocks.ensures.rest c.drop_blocks.ensures.step refused (λ s free. (c.drop_blocks.ensures.sound q a s free).allocator_step)) in
    record {
      names = handed_on (NamesReftable view q p old a f3) c.from_residual-in_err-placed.result c.in_err-placed.field-0.0 c.from_residual-in_err-placed.ensures (refused.0, left);
      uses = handed_on (KeepsUsed view old f3) c.from_residual-in_err-placed.result c.in_err-placed.field-0.0 c.from_residual-in_err-placed.ensures (uses_refused view q old f3 a c.in_err-placed.field-0.0 left);
    }

pub returns-in_err-place_table-clause-sound : goal.returns-in_err-place_table-clause-sound
returns-in_err-place_table-clause-sound g c = λ p sound longer.
    let view = g.S.Storage.view in
    let old = c.args.file.now in
    let a = c.args.self.now in
    let h = c.args.file.now.header.fields in
    let first = c.args.room.first in
    let n = room_length c.args.room in
    let q = with_run p c.args.file.now.header.fields c.args.self.now.reftable c.args.room.first (room_length c.args.room) in
    let one = allocator_step_cached view q old a c.before_rb.new.storage c.before_rb.new.self sound (c.before_rb.ensures.sound.keeps h q sound.sound.honest sound.sound.caches) c.before_rb.ensures.step.marks.pins in
    let f1 = record old { storage = c.before_rb.new.storage; caches = c.before_rb.new.self } in
    let f2 = c.place_blocks-placed.new.file in
    let f3 = c.drop_blocks.new.file in
    let placed = c.in_ok-placed.ensures.sound p (is_sound_now view q q old f1 a one) c.in_ok-before_rb.ensures.way.first longer in
    let two = allocator_step_then view q q old f1 f2 a a one placed.allocator_step in
    let dropped = c.drop_blocks.ensures.sound q a (is_sound_now view q q old f2 a two) placed.free in
    let three = allocator_step_then view q q old f2 f3 a a two dropped.allocator_step in
    let header_two = ap (λ (x : HeaderView). x.fields) c.place_blocks-placed.ensures.step.header in
    let header_three : f3.header.fields ≡ h = ap (λ (x : ImageFile _). x.header.fields) c.drop_blocks.ensures.rest ∙ header_two in
    let may_three = may_go f2 f3 c.drop_blocks.ensures.step.order (listed_same f2.caches f3.caches c.drop_blocks.ensures.tables) placed.may in
    let at_is = c.new.ensures in
    let low : c.args.room.first ≤ c.new.result = omega (arith, at_is) in
    let high : c.new.result + c.args.room.clusters ≤ c.args.room.first + room_length c.args.room = omega (arith, at_is) in
    let bits = ap (λ (x : EntryTableView). x.cluster_bits) c.place_blocks-placed.ensures.table.rest ∙ c.requires.room.bits ∙ sym (ap (λ (k : HeaderFields). k.cluster_bits) header_three) in
    let long = c.place_blocks-placed.ensures.table.as_long ∙ longer.long ∙ sym (ap (λ (k : HeaderFields). c.args.room.clusters * cluster_size k) header_three) in
    let refused = table_err view p first n a f3 c.place_table.new.file c.new.result c.args.room.clusters c.place_blocks-placed.new.table.bytes h header_three c.in_err-place_table.field-0.0
    (λ s. c.in_err-place_table.ensures.sound p first n c.args.room.clusters a s may_three low high bits long) (is_sound_now view q q old f3 a three) in
    let left = leaves_then view q old f3 c.place_table.new.file a c.in_err-place_table.field-0.0 three.file_step refused.1 in
    record {
      names = handed_on (NamesReftable view q p old a c.place_table.new.file) c.from_residual-in_err-place_table.result c.in_err-place_table.field-0.0 c.from_residual-in_err-place_table.ensures
          (refused.0, left);
      uses = handed_on (KeepsUsed view old c.place_table.new.file) c.from_residual-in_err-place_table.result c.in_err-place_table.field-0.0 c.from_residual-in_err-place_table.ensures
          (uses_refused view q old c.place_table.new.file a c.in_err-place_table.field-0.0 left);
    }

pub returns-clause-sound : goal.returns-clause-sound
returns-clause-sound g c = λ p sound longer.
    let view = g.S.Storage.view in
    let old = c.args.file.now in
    let a = c.args.self.now in
    let h = c.args.file.now.header.fields in
    let first = c.args.room.first in
    let n = room_length c.args.room in
    let q = with_run p c.args.file.now.header.fields c.args.self.now.reftable c.args.room.first (room_length c.args.room) in
    let one = allocator_step_cached view q old a c.before_rb.new.storage c.before_rb.new.self sound (c.before_rb.ensures.sound.keeps h q sound.sound.honest sound.sound.caches) c.before_rb.ensures.step.marks.pins in
    let f1 = record old { storage = c.before_rb.new.storage; caches = c.before_rb.new.self } in
    let f2 = c.place_blocks-placed.new.file in
    let f3 = c.drop_blocks.new.file in
    let placed = c.in_ok-placed.ensures.sound p (is_sound_now view q q old f1 a one) c.in_ok-before_rb.ensures.way.first longer in
    let two = allocator_step_then view q q old f1 f2 a a one placed.allocator_step in
    let dropped = c.drop_blocks.ensures.sound q a (is_sound_now view q q old f2 a two) placed.free in
    let three = allocator_step_then view q q old f2 f3 a a two dropped.allocator_step in
    let header_two = ap (λ (x : HeaderView). x.fields) c.place_blocks-placed.ensures.step.header in
    let header_three : f3.header.fields ≡ h = ap (λ (x : ImageFile _). x.header.fields) c.drop_blocks.ensures.rest ∙ header_two in
    let may_three = may_go f2 f3 c.drop_blocks.ensures.step.order (listed_same f2.caches f3.caches c.drop_blocks.ensures.tables) placed.may in
    let at_is = c.new.ensures in
    let low : c.args.room.first ≤ c.new.result = omega (arith, at_is) in
    let high : c.new.result + c.args.room.clusters ≤ c.args.room.first + room_length c.args.room = omega (arith, at_is) in
    let bits = ap (λ (x : EntryTableView). x.cluster_bits) c.place_blocks-placed.ensures.table.rest ∙ c.requires.room.bits ∙ sym (ap (λ (k : HeaderFields). k.cluster_bits) header_three) in
    let long = c.place_blocks-placed.ensures.table.as_long ∙ longer.long ∙ sym (ap (λ (k : HeaderFields). c.args.room.clusters * cluster_size k) header_three) in
    let wrote = table_ok view p first n a f3 c.place_table.new.file c.new.result c.args.room.clusters c.place_blocks-placed.new.table.bytes h header_three c.in_ok-place_table.field-0
    (λ s. c.in_ok-place_table.ensures.sound p first n c.args.room.clusters a s may_three low high bits long) (is_sound_now view q q old f3 a three) in
    let f4 = c.place_table.new.file in
    let four = allocator_step_then view q q old f3 f4 a a three wrote.0 in
    let header_four = ap (λ (x : HeaderView). x.fields) c.place_table.ensures.step.header ∙ header_three in
    let sizes = file_sizes view q old sound.sound in
    let t' = placed_at c.place_blocks-placed.new.table (c.args.room.first + c.args.room.blocks) in
    let counts_three = subst (λ (x : ImageFile _). Counting h (contents_in view x) a.reftable t' first n) (sym c.drop_blocks.ensures.rest)
    (subst (λ (k : HeaderFields). Counting k (contents_in view f2) a.reftable t' first n) header_two placed.counts) in
    let outside = λ (k : ℕ) (none : run_at (c.args.room.first + c.args.room.blocks) c.args.room.clusters k ≡ 0). wrote.2 k (ap (λ m. run_at m c.args.room.clusters k) at_is ∙ none) in
    let counts = counting_beside h sizes (contents_in view f3) (contents_in view f4) a.reftable t' first c.args.room.blocks c.args.room.clusters n placed.grown counts_three outside in
    let clean = subst (λ (x : MetadataCaches _). AreClean (refblocks x)) (sym c.place_table.ensures.caches) (c.drop_blocks.ensures.clean placed.clean) in
    let may_four = may_go f3 f4 (ap order_of c.place_table.ensures.caches) (ap l2_tables c.place_table.ensures.caches) may_three in
    let uncached = λ (k : ℕ) (some : 0 < run_at c.args.room.first c.args.room.blocks k). ap (λ x. rb_at x k) c.place_table.ensures.caches ∙ dropped.uncached k some in
    let stands = subst (λ m. HasBytesAt (contents_in view f4) (m * cluster_size h) c.place_blocks-placed.new.table.bytes) at_is wrote.1 in
    let table_is : c.place_table.new.table ≡ placed_at c.place_blocks-placed.new.table (c.args.room.first + c.args.room.blocks) = c.place_table.ensures.table ∙ ap (placed_at c.place_blocks-placed.new.table) at_is in
    let ready = stands_ready view f4 h a.reftable t' first c.args.room.blocks c.args.room.clusters (sym header_four) placed.grown stands counts clean may_four uncached in
    let ready_table = subst (λ (x : EntryTableView). StandsGrown view f4 a.reftable x first c.args.room.blocks c.args.room.clusters) (sym table_is) ready in
    let sound_four = subst (λ (k : HeaderFields). AllocatorInvariant view a (with_run p k a.reftable first n) f4) (sym header_four) (is_sound_now view q q old f4 a four) in
    let named = c.name_reftable.ensures.sound p first c.args.room.blocks c.args.room.clusters sound_four ready_table in
    record {
      names = names_then view p old f4 c.name_reftable.new.file a c.name_reftable.new.self a.reftable first n header_four c.name_reftable.result four named.names;
      uses = uses_after view q old f4 c.name_reftable.new.file a c.name_reftable.result four named.uses;
    }

pub returns-in_err-before_rb-clause-step : goal.returns-in_err-before_rb-clause-step
returns-in_err-before_rb-clause-step g c = pointer_step_on (table_step_cached c.before_rb.ensures.step.marks c.before_rb.ensures.step.header_cluster)

pub returns-in_err-before_rb-clause-fails : goal.returns-in_err-before_rb-clause-fails
returns-in_err-before_rb-clause-fails g c = fails_on c.from_residual.result c.in_err-before_rb.field-0.0 c.from_residual.ensures (fails_of_tables c.in_err-before_rb.ensures.fails)

pub returns-in_err-placed-clause-step : goal.returns-in_err-placed-clause-step
returns-in_err-placed-clause-step g c = pointer_step_on (table_step_then (table_step_then (table_step_cached c.before_rb.ensures.step.marks c.before_rb.ensures.step.header_cluster) c.place_blocks-placed.ensures.step) (table_step_dropped c.drop_blocks.ensures.rest c.drop_blocks.ensures.step c.drop_blocks.ensures.tables))

pub returns-in_err-placed-clause-fails : goal.returns-in_err-placed-clause-fails
returns-in_err-placed-clause-fails g c = fails_on c.from_residual-in_err-placed.result c.in_err-placed.field-0.0 c.from_residual-in_err-placed.ensures (fails_moved (ap (λ (x : ImageFile _). x.header.fields) c.drop_blocks.ensures.rest) refl (fails_still (fails_since c.in_ok-before_rb.ensures.fails.told c.in_err-placed.ensures.fails) (ap (λ (x : ImageFile _). faults_of g.S.Storage.view x.storage) c.drop_blocks.ensures.rest)))

pub returns-in_err-place_table-clause-step : goal.returns-in_err-place_table-clause-step
returns-in_err-place_table-clause-step g c =
    let before = table_step_then (table_step_then (table_step_cached c.before_rb.ensures.step.marks c.before_rb.ensures.step.header_cluster) c.place_blocks-placed.ensures.step) (table_step_dropped c.drop_blocks.ensures.rest c.drop_blocks.ensures.step c.drop_blocks.ensures.tables) in
    pointer_step_on (table_step_then before (table_step_part (ap (λ (x : EntryTableView). x.cluster_bits) c.place_blocks-placed.ensures.table.rest ∙ c.requires.room.bits ∙ sym (ap (λ (x : HeaderView). x.fields.cluster_bits) before.header)) c.place_table.ensures.step))

pub returns-in_err-place_table-clause-fails : goal.returns-in_err-place_table-clause-fails
returns-in_err-place_table-clause-fails g c =
    fails_on c.from_residual-in_err-place_table.result c.in_err-place_table.field-0.0 c.from_residual-in_err-place_table.ensures (fails_since ((ap (λ (x : ImageFile _). faults_of g.S.Storage.view x.storage) c.drop_blocks.ensures.rest) ∙ (c.in_ok-placed.ensures.fails.told ∙ c.in_ok-before_rb.ensures.fails.told)) (fails_aligned c.in_err-place_table.ensures.fails))

pub returns-clause-step : goal.returns-clause-step
returns-clause-step g c =
    let before = table_step_then (table_step_then (table_step_cached c.before_rb.ensures.step.marks c.before_rb.ensures.step.header_cluster) c.place_blocks-placed.ensures.step) (table_step_dropped c.drop_blocks.ensures.rest c.drop_blocks.ensures.step c.drop_blocks.ensures.tables) in
    let bits = ap (λ (x : EntryTableView). x.cluster_bits) c.place_blocks-placed.ensures.table.rest ∙ c.requires.room.bits ∙ sym (ap (λ (x : HeaderView). x.fields.cluster_bits) before.header) in
    pointer_step_then (pointer_step_on (table_step_then before (table_step_part bits c.place_table.ensures.step))) (pointer_step_to (record {
      bits = ap (λ (x : EntryTableView). x.cluster_bits) c.place_table.ensures.table ∙ bits ∙ sym (ap (λ (x : HeaderView). x.fields.cluster_bits) c.place_table.ensures.step.header);
      elsewhere = subst (λ (t : EntryTableView). IfSome t.cluster (λ k. 0 < k)) (sym c.place_table.ensures.table) (let above = c.requires.room.above in let at = c.new.ensures in omega (arith, above, at));
    }) c.name_reftable.ensures.step)

pub returns-clause-fails : goal.returns-clause-fails
returns-clause-fails g c = fails_since (c.in_ok-place_table.ensures.fails.told ∙ ((ap (λ (x : ImageFile _). faults_of g.S.Storage.view x.storage) c.drop_blocks.ensures.rest) ∙ (c.in_ok-placed.ensures.fails.told ∙ c.in_ok-before_rb.ensures.fails.told))) c.name_reftable.ensures.fails

pub returns-clause-entered : goal.returns-clause-entered
returns-clause-entered g c =
    let names = c.place_blocks-placed.ensures.table.lacking in
    let placed : NamesLacking c.args.self.now.reftable c.args.table (placed_at c.place_blocks-placed.new.table c.new.result) = record { behind = record { bits = names.behind.bits; each = names.behind.each }; ranges = names.ranges } in
    ok_as (c.name_reftable.new.self.reftable ≡ c.place_table.new.table) (EntersRoom c.args.self.now.reftable c.args.table c.name_reftable.new.self.reftable c.args.room c.name_reftable.new.file) c.name_reftable.result
    (λ is. record {
      entered = record {
        count = ap entry_count (is ∙ c.place_table.ensures.table) ∙ ap (λ n. n / 8) c.place_blocks-placed.ensures.table.as_long;
        lacking = subst (NamesLacking c.args.self.now.reftable c.args.table) (sym (is ∙ c.place_table.ensures.table)) placed;
        recorded = or_left (is_changed_of c.name_reftable.new.file.storage) c.name_reftable.new.file.caches.is_changed (c.name_reftable.ensures.step.marks.notes.changes.recorded c.in_ok-place_table.ensures.recorded);
      };
      place = ap (λ (x : EntryTableView). x.cluster) (is ∙ c.place_table.ensures.table) ∙ ap Some c.new.ensures;
    }) c.name_reftable.ensures.table

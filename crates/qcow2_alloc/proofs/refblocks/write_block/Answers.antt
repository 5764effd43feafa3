use Rattle.std.proofs.Common.{ℕ, ◌≡◌, ◌+◌, ◌*◌, ◌^◌, ◌<◌, inl, Bool, Some, None, Result, Ok, length, IsFalse, IsSome, refl, sym, ap, ◌∙◌, subst, IfSome}
use Rattle.qcow2_alloc.proofs.Common.{overwritten, StorageView, Changes, Calls, StorageError, byte_at-overwritten, HeaderFields, byte_at, cluster_size, RefBlockView, BlocksMayGo, Pending, placing, HasPlaceFor, HasBytesAt, InternalAllocatorStep, WritesBlock, of_storage, MetadataCaches, ImageStorage, KeepsPinsAndNotes, Allocator, ImageFile, contents_in, AllocatorInvariant, storage_of, order_of, l2_tables, rb_at, KeepSound, IsBlockOf, KeepsHeaderCluster}
use Rattle.qcow2_alloc.specs.CacheSteps.{RemovesBlock}
use Rattle.qcow2_alloc.proofs.KeptTables.Held.{held_same}
use Rattle.qcow2_alloc.proofs.Lemmas.{file_step_then, handed_on, fault_of_storage, allocator_step_then, allocator_step_cached, IsFree, is_free, file_step_rewritten, reftable_rewritten, write_as, allocator_step_removed, spares_cached, spares_tables, spares_then, spares_written, kept_marks_then, placed_kept, marks_of_caches, marks_of_storage, fails_on, fails_ok, fails_since, fails_storage, same_faults, placed_elsewhere, fault_alone, file_fits, fails_of_tables}
use Rattle.qcow2_alloc.proofs.refblocks.write_block.Goals as goal

-- all counts are written, no refblock is cached for the cluster, and then the block's bytes are written, or they are not
module _ {S : Type 0} (view : S → StorageView) (d : Bool) (p : Pending) (range at : ℕ) (old : ImageFile S) (t : Allocator) (storage : ImageStorage S) (caches : MetadataCaches S) (sound : AllocatorInvariant view t (placing d p at) old)
    (keeps : KeepSound view old.storage old.caches storage caches) (marks : KeepsPinsAndNotes old.caches caches) where
  abbrev q : Pending
  q = placing d p at

  abbrev h : HeaderFields
  h = old.header.fields

  abbrev flushed : ImageFile S
  flushed = record old { storage = storage; caches = caches }

  counted : InternalAllocatorStep view q old t flushed q
  counted = allocator_step_cached view q old t storage caches sound (keeps h q sound.sound.honest sound.sound.caches) marks

  module _ (left : MetadataCaches S) (first : BlocksMayGo (order_of caches) (l2_tables caches)) (place : HasPlaceFor d h t.reftable range at) (order : order_of left ≡ order_of caches) (tables : l2_tables left ≡ l2_tables caches)
      (removed : Bool) (kept : IsFalse removed → left ≡ caches) (removes : RemovesBlock caches left at removed) (held : KeepsPinsAndNotes caches left) where
    abbrev dropped : ImageFile S
    dropped = record old { storage = storage; caches = left }

    uncached : InternalAllocatorStep view q old t dropped q
    uncached =
        let free = is_free view d p range at flushed t.reftable counted.file_step.sound counted.reftable first (record { none = place.none; first = place.first }) in
        allocator_step_then view q q old flushed dropped t t counted (allocator_step_removed view q flushed left at counted.file_step.sound free order t counted.reftable removed kept removes.taken held)

    gone : rb_at left at ≡ None
    gone = removes.gone h q (contents_in view flushed) counted.file_step.sound.caches counted.file_step.sound.room

    still_first : BlocksMayGo (order_of left) (l2_tables left)
    still_first = subst (λ o. BlocksMayGo o (l2_tables left)) (sym order) (subst (BlocksMayGo (order_of caches)) (sym tables) first)

    module _ (asked : S) (after : ImageStorage S) (block : RefBlockView) (result : Result (Unit {0}) StorageError) (fits : IsBlockOf h block) (is : block.cluster ≡ Some at) (whole : length block.bytes ≡ 2 ^ block.cluster_bits)
        (same : asked ≡ storage_of storage) (written : IfSome block.cluster (λ k. Changes (view asked) (view (storage_of after)) result (λ b. overwritten b (k * 2 ^ block.cluster_bits) block.bytes)))
        (calls : Calls (view asked) (view (storage_of after)) result) where
      abbrev done : ImageFile S
      done = record dropped { storage = after }

      free : IsFree view q dropped at
      free = is_free view d p range at dropped t.reftable uncached.file_step.sound uncached.reftable still_first (record { none = place.none; first = place.first })

      long : length block.bytes ≡ cluster_size h
      long = whole ∙ ap (λ n. 2 ^ n) fits.bits

      writes : Changes (view (storage_of storage)) (view (storage_of after)) result (λ b. overwritten b (at * cluster_size h) block.bytes)
      writes = write_as view (storage_of storage) asked (storage_of after) at block.cluster block.cluster_bits h.cluster_bits block.bytes result same is fits.bits written

      calls_now : Calls (view (storage_of storage)) (view (storage_of after)) result
      calls_now = subst (λ s. Calls (view s) (view (storage_of after)) result) same calls

      -- all is as sound as before, in either case
      still : InternalAllocatorStep view q old t done q
      still = record {
        file_step = file_step_then view q q q old dropped done (λ k some. some) uncached.file_step (file_step_rewritten view q dropped after at block.bytes result uncached.file_step.sound free long writes calls_now);
        reftable = reftable_rewritten view q dropped after at block.bytes result uncached.file_step.sound free long writes calls_now t.reftable uncached.reftable;
      }

      stand_there : (x : Unit {0}) → result ≡ Ok x → HasBytesAt (contents_in view done) (at * cluster_size h) block.bytes
      stand_there x ok i lt =
          let now = rw ok at (writes uncached.file_step.sound.honest) in
          sym (ap (λ l. byte_at l (at * cluster_size h + i)) now ∙ byte_at-overwritten (view (storage_of storage)).contents (at * cluster_size h) block.bytes i lt)

pub returns-in_err-flush_rb-clause-sound : goal.returns-in_err-flush_rb-clause-sound
returns-in_err-flush_rb-clause-sound g c = λ p d t range sound place fits is.
    let one = counted g.S.Storage.view d p range c.args.cluster c.args.file.now t c.flush_rb.new.storage c.flush_rb.new.self sound c.flush_rb.ensures.sound.keeps c.flush_rb.ensures.step.marks.pins in
    handed_on (WritesBlock g.S.Storage.view (placing d p c.args.cluster) c.args.file.now t (record c.args.file.now { storage = c.flush_rb.new.storage; caches = c.flush_rb.new.self }) c.args.block.now c.args.cluster)
    c.from_residual.result c.in_err-flush_rb.field-0.0 c.from_residual.ensures
    (fault_alone c.in_err-flush_rb.field-0.0 (file_fits g.S.Storage.view (placing d p c.args.cluster) c.args.file.now sound.sound) c.in_err-flush_rb.ensures.fails.cause, inl (one.file_step, one.reftable))

pub returns-in_err-write_new_refblock-clause-sound : goal.returns-in_err-write_new_refblock-clause-sound
returns-in_err-write_new_refblock-clause-sound g c = λ p d t range sound place fits is.
    let two = still g.S.Storage.view d p range c.args.cluster c.args.file.now t c.flush_rb.new.storage c.flush_rb.new.self sound c.flush_rb.ensures.sound.keeps c.flush_rb.ensures.step.marks.pins c.rb_remove.new.self c.in_ok-flush_rb.ensures.flushes.first place
    c.rb_remove.ensures.step.order c.rb_remove.ensures.tables c.rb_remove.result c.rb_remove.ensures.same c.rb_remove.ensures.removes c.rb_remove.ensures.step.marks (storage_of c.set_write_kind.new.self) c.write_new_refblock.new.self
    c.args.block.now c.write_new_refblock.result fits c.requires.placed is.whole c.set_write_kind.ensures.storage c.write_new_refblock.ensures.writes.written c.write_new_refblock.ensures.writes.calls in
    handed_on (WritesBlock g.S.Storage.view (placing d p c.args.cluster) c.args.file.now t (record c.args.file.now { storage = c.write_new_refblock.new.self; caches = c.rb_remove.new.self }) c.args.block.now c.args.cluster)
    c.from_residual-in_err-write_new_refblock.result (of_storage c.in_err-write_new_refblock.field-0.0) c.from_residual-in_err-write_new_refblock.ensures (fault_of_storage c.in_err-write_new_refblock.field-0.0, inl (two.file_step, two.reftable))

pub returns : goal.returns
returns g c = record {
  step =
      let flushed : ImageFile g.row.S.Denot = record c.args.file.now { storage = c.flush_rb.new.storage; caches = c.flush_rb.new.self } in
      let elsewhere = placed_elsewhere c.args.block.now.cluster_bits c.args.block.now.bytes c.args.block.now.cluster (subst (λ o. IsSome o) (sym c.requires.placed) refl) (subst (λ o. IfSome o (λ k. 0 < k)) (sym c.requires.placed) c.requires.elsewhere) c.write_new_refblock.ensures.writes in record {
        header = refl;
        list = refl;
        marks = kept_marks_then (kept_marks_then c.flush_rb.ensures.step.marks (marks_of_caches c.rb_remove.ensures.step.marks c.rb_remove.ensures.step.order (held_same c.flush_rb.new.self c.rb_remove.new.self c.rb_remove.ensures.removes.l2))) (marks_of_storage refl (placed_kept c.flush_rb.new.storage c.set_write_kind.new.self c.write_new_refblock.new.self c.write_new_refblock.result c.set_write_kind.ensures.storage c.set_write_kind.ensures.changed c.args.block.now.cluster _ (subst (λ o. IsSome o) (sym c.requires.placed) refl) c.write_new_refblock.ensures.writes.written c.write_new_refblock.ensures.writes.calls c.write_new_refblock.ensures.writes.recorded));
        header_cluster = λ r bits.
            spares_then (spares_then (spares_cached r c.args.file.now c.flush_rb.new.storage c.flush_rb.new.self c.flush_rb.ensures.step.header_cluster) (spares_tables r flushed c.rb_remove.new.self c.rb_remove.ensures.step.header_cluster))
            (spares_written r (record flushed { caches = c.rb_remove.new.self }) c.args.block.now.cluster_bits c.write_new_refblock.new.self bits (subst (λ s. KeepsHeaderCluster c.args.block.now.cluster_bits (g.S.Storage.view s) (g.S.Storage.view (storage_of c.write_new_refblock.new.self))) c.set_write_kind.ensures.storage elsewhere));
      };
  fails = fails_ok (c.in_ok-write_new_refblock.ensures.writes.calls.cause.told ∙ (same_faults g.S.Storage.view c.set_write_kind.ensures.storage ∙ c.in_ok-flush_rb.ensures.fails.told));
  sound = λ p d t range sound place fits is. (
    still g.S.Storage.view d p range c.args.cluster c.args.file.now t c.flush_rb.new.storage c.flush_rb.new.self sound c.flush_rb.ensures.sound.keeps c.flush_rb.ensures.step.marks.pins c.rb_remove.new.self c.in_ok-flush_rb.ensures.flushes.first place
        c.rb_remove.ensures.step.order c.rb_remove.ensures.tables c.rb_remove.result c.rb_remove.ensures.same c.rb_remove.ensures.removes c.rb_remove.ensures.step.marks (storage_of c.set_write_kind.new.self) c.write_new_refblock.new.self
        c.args.block.now c.write_new_refblock.result fits c.requires.placed is.whole c.set_write_kind.ensures.storage c.write_new_refblock.ensures.writes.written c.write_new_refblock.ensures.writes.calls,
    record {
      uncached = gone g.S.Storage.view d p range c.args.cluster c.args.file.now t c.flush_rb.new.storage c.flush_rb.new.self sound c.flush_rb.ensures.sound.keeps c.flush_rb.ensures.step.marks.pins c.rb_remove.new.self c.in_ok-flush_rb.ensures.flushes.first place
          c.rb_remove.ensures.step.order c.rb_remove.ensures.tables c.rb_remove.result c.rb_remove.ensures.same c.rb_remove.ensures.removes c.rb_remove.ensures.step.marks;
      stands = stand_there g.S.Storage.view d p range c.args.cluster c.args.file.now t c.flush_rb.new.storage c.flush_rb.new.self sound c.flush_rb.ensures.sound.keeps c.flush_rb.ensures.step.marks.pins c.rb_remove.new.self c.in_ok-flush_rb.ensures.flushes.first place
          c.rb_remove.ensures.step.order c.rb_remove.ensures.tables c.rb_remove.result c.rb_remove.ensures.same c.rb_remove.ensures.removes c.rb_remove.ensures.step.marks (storage_of c.set_write_kind.new.self) c.write_new_refblock.new.self
          c.args.block.now c.write_new_refblock.result fits c.requires.placed is.whole c.set_write_kind.ensures.storage c.write_new_refblock.ensures.writes.written c.write_new_refblock.ensures.writes.calls c.in_ok-write_new_refblock.field-0 c.in_ok-write_new_refblock.was;
    },
  );
  counted = c.rb_remove.ensures.removes.clean c.in_ok-flush_rb.ensures.flushes.written;
  recorded = c.in_ok-write_new_refblock.ensures.writes.recorded.0;
  first =
      subst (λ o. BlocksMayGo o (l2_tables c.rb_remove.new.self)) (sym c.rb_remove.ensures.step.order) (subst (BlocksMayGo (order_of c.flush_rb.new.self)) (sym c.rb_remove.ensures.tables) c.in_ok-flush_rb.ensures.flushes.first);
}

pub returns-in_err-flush_rb-clause-step : goal.returns-in_err-flush_rb-clause-step
returns-in_err-flush_rb-clause-step g c = record {
  header = refl;
  list = refl;
  marks = c.flush_rb.ensures.step.marks;
  header_cluster = λ r bits. spares_cached r c.args.file.now c.flush_rb.new.storage c.flush_rb.new.self c.flush_rb.ensures.step.header_cluster;
}

pub returns-in_err-write_new_refblock-clause-step : goal.returns-in_err-write_new_refblock-clause-step
returns-in_err-write_new_refblock-clause-step g c =
    let flushed : ImageFile g.row.S.Denot = record c.args.file.now { storage = c.flush_rb.new.storage; caches = c.flush_rb.new.self } in
    let elsewhere = placed_elsewhere c.args.block.now.cluster_bits c.args.block.now.bytes c.args.block.now.cluster (subst (λ o. IsSome o) (sym c.requires.placed) refl) (subst (λ o. IfSome o (λ k. 0 < k)) (sym c.requires.placed) c.requires.elsewhere) c.write_new_refblock.ensures.writes in record {
      header = refl;
      list = refl;
      marks = kept_marks_then (kept_marks_then c.flush_rb.ensures.step.marks (marks_of_caches c.rb_remove.ensures.step.marks c.rb_remove.ensures.step.order (held_same c.flush_rb.new.self c.rb_remove.new.self c.rb_remove.ensures.removes.l2))) (marks_of_storage refl (placed_kept c.flush_rb.new.storage c.set_write_kind.new.self c.write_new_refblock.new.self c.write_new_refblock.result c.set_write_kind.ensures.storage c.set_write_kind.ensures.changed c.args.block.now.cluster _ (subst (λ o. IsSome o) (sym c.requires.placed) refl) c.write_new_refblock.ensures.writes.written c.write_new_refblock.ensures.writes.calls c.write_new_refblock.ensures.writes.recorded));
      header_cluster = λ r bits.
          spares_then (spares_then (spares_cached r c.args.file.now c.flush_rb.new.storage c.flush_rb.new.self c.flush_rb.ensures.step.header_cluster) (spares_tables r flushed c.rb_remove.new.self c.rb_remove.ensures.step.header_cluster))
          (spares_written r (record flushed { caches = c.rb_remove.new.self }) c.args.block.now.cluster_bits c.write_new_refblock.new.self bits (subst (λ s. KeepsHeaderCluster c.args.block.now.cluster_bits (g.S.Storage.view s) (g.S.Storage.view (storage_of c.write_new_refblock.new.self))) c.set_write_kind.ensures.storage elsewhere));
    }

pub returns-in_err-flush_rb-clause-fails : goal.returns-in_err-flush_rb-clause-fails
returns-in_err-flush_rb-clause-fails g c = fails_on c.from_residual.result c.in_err-flush_rb.field-0.0 c.from_residual.ensures (fails_of_tables c.in_err-flush_rb.ensures.fails)

pub returns-in_err-write_new_refblock-clause-fails : goal.returns-in_err-write_new_refblock-clause-fails
returns-in_err-write_new_refblock-clause-fails g c =
    fails_since (same_faults g.S.Storage.view c.set_write_kind.ensures.storage ∙ c.in_ok-flush_rb.ensures.fails.told) (fails_storage c.from_residual-in_err-write_new_refblock.result c.in_err-write_new_refblock.field-0.0 c.from_residual-in_err-write_new_refblock.ensures c.in_err-write_new_refblock.ensures.writes.calls.cause)

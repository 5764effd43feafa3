use Rattle.std.proofs.Common.{◌≡◌, ◌+◌, ◌*◌, ◌/◌, ◌^◌, ◌<◌, ◌≤◌, inr, ℕ, Bool, IsTrue, Some, Result, Ok, Err, refl, sym, ap, ◌∙◌, subst, arith, IsSome, IfSome}
use Rattle.qcow2_alloc.proofs.Common.{div-add-mod', w64, to_be_bytes, overwritten, StorageView, Changes, Calls, StorageError, HeaderFields, EntryTableView, entry_count, cluster_size, RefBlockView, IsRefBlock, count_at, IsHostCluster, entry_at, ChangesEntry, HasPlace, block_offset, Pending, AreClean, BlocksMayGo, Allocator, ImageError, ImageStorage, ImageFile, placing, first_counts, HasPlaceFor, NamesRefblock, InternalAllocatorStep, HoldsBlock, PlacesBlock, WritesBlock, of_storage, IsFault, view_in, AllocatorInvariant, storage_of, is_changed_of, order_of, l2_tables, refblocks, IsBlockOf, or_left}
use Rattle.qcow2_alloc.proofs.Lemmas.{fails_aligned, file_step_then, interrupted_then, entered_has, handed_on, entries_entered, fault_of_storage, is_sound_now, names_refblock, entry_write_as, real, safe_throughout_named, named_so, on_no_ok, entries_none, spares_then, spares_entry, kept_marks_then, placed_kept, marks_of_storage, note_kept, fails_on, fails_ok, fails_since, fails_storage, same_faults}
use Rattle.qcow2_alloc.proofs.allocation.Allocator.place_block.Goals as goal

format_in : (h : HeaderFields) (b b' : RefBlockView) (k : ℕ) → b' ≡ record b { cluster = Some k } → IsBlockOf h b → IsBlockOf h b'
format_in h b b' k is of = subst (IsBlockOf h) (sym is) (record { bits = of.bits; order = of.order })

has_place : (b : RefBlockView) (h : HeaderFields) (at k : ℕ) → IsBlockOf h b → k ≡ at → IsHostCluster h.cluster_bits at → HasPlace b.cluster_bits k
has_place b h at k of is named = subst (λ n. HasPlace n k) (sym of.bits) (subst (HasPlace h.cluster_bits) (sym is) (let low : at * 2 ^ h.cluster_bits ≤ 72057594037927424 = named in omega arith))

whole_in : (b b' : RefBlockView) (k : ℕ) → b' ≡ record b { cluster = Some k } → IsRefBlock b → HasPlace b.cluster_bits k → IsRefBlock b'
whole_in b b' k is whole here = subst IsRefBlock (sym is) (record { whole = whole.whole; bits = whole.bits; order = whole.order; placed = here })

-- what the write says of the cluster by another number of it
at_number : {S : Type 0} (view : S → StorageView) (itself : Bool) (p : Pending) (old new : ImageFile S) (t : Allocator) (block : RefBlockView) (range k at : ℕ) (result : Result (Unit {0}) ImageError) → k ≡ at
    → (AllocatorInvariant view t (placing itself p k) old → HasPlaceFor itself old.header.fields t.reftable range k → WritesBlock view (placing itself p k) old t new block k result)
    → AllocatorInvariant view t (placing itself p at) old → HasPlaceFor itself old.header.fields t.reftable range at → WritesBlock view (placing itself p at) old t new block at result
at_number view itself p old new t block range k at result is writes =
    subst (λ n. AllocatorInvariant view t (placing itself p n) old → HasPlaceFor itself old.header.fields t.reftable range n → WritesBlock view (placing itself p n) old t new block n result) is writes

pub set_cluster-requires : goal.set_cluster-requires
set_cluster-requires g c = has_place c.args.block c.args.file.now.header.fields c.args.at c.new-cluster.result c.requires.block.0 c.new-cluster.ensures c.requires.place.nameable_here

pub returns-in_err-write_block : goal.returns-in_err-write_block
returns-in_err-write_block g c = record {
  step = record {
    header = c.write_block.ensures.step.header;
    list = c.write_block.ensures.step.list;
    named = entries_none _ c.args.self.now.reftable;
    marks = c.write_block.ensures.step.marks;
    header_cluster = c.write_block.ensures.step.header_cluster c.args.self.now.reftable (format_in _ c.args.block c.set_cluster.new.self _ c.set_cluster.ensures c.requires.block.0).bits;
  };
  fails = fails_on c.from_residual.result c.in_err-write_block.field-0.0 c.from_residual.ensures (fails_aligned c.in_err-write_block.ensures.fails);
  sound = λ p itself sound place counts.
      handed_on (PlacesBlock g.S.Storage.view (placing itself p c.args.at) c.args.file.now c.args.self.now c.write_block.new.file p c.args.range c.args.at)
      c.from_residual.result c.in_err-write_block.field-0.0 c.from_residual.ensures
      (at_number g.S.Storage.view itself p c.args.file.now c.write_block.new.file c.args.self.now c.set_cluster.new.self c.args.range c.new-cluster.result c.args.at (Err c.in_err-write_block.field-0.0) c.new-cluster.ensures (λ s has. c.in_err-write_block.ensures.sound p itself c.args.self.now c.args.range s has (format_in _ c.args.block c.set_cluster.new.self _ c.set_cluster.ensures c.requires.block.0) (whole_in c.args.block c.set_cluster.new.self c.new-cluster.result c.set_cluster.ensures c.requires.block.1 (has_place c.args.block c.args.file.now.header.fields c.args.at c.new-cluster.result c.requires.block.0 c.new-cluster.ensures c.requires.place.nameable_here))) sound place);
  recorded = on_no_ok _ c.from_residual.result c.in_err-write_block.field-0.0 c.from_residual.ensures;
  has = on_no_ok _ c.from_residual.result c.in_err-write_block.field-0.0 c.from_residual.ensures;
  rest = refl;
}

-- the last step: the entry is written, or is not
module _ {S : Type 0} (view : S → StorageView) (d : Bool) (p : Pending) (range at : ℕ) (old file : ImageFile S) (t : Allocator) (t' : EntryTableView) (storage : ImageStorage S) (asked : S) (block : RefBlockView)
    (result : Result (Unit {0}) StorageError) (before : InternalAllocatorStep view (placing d p at) old t file (placing d p at) × HoldsBlock view (placing d p at) old t file block at) (counted : AreClean (refblocks file.caches)) (first : BlocksMayGo (order_of file.caches) (l2_tables file.caches))
    (place : HasPlaceFor d file.header.fields t.reftable range at) (within : range < entry_count t.reftable)
    (rest : t' ≡ record t.reftable { bytes = t'.bytes }) (enters : ChangesEntry t.reftable.bytes t'.bytes range (at * 2 ^ t.reftable.cluster_bits)) (offset : block_offset (entry_at t'.bytes range) ≡ at * 2 ^ t.reftable.cluster_bits)
    (fits : entry_at t'.bytes range < 2 ^ 64) (whole : IsRefBlock block) (format : IsBlockOf file.header.fields block) (counts : (i : ℕ) → count_at block i ≡ first_counts d i) (same : asked ≡ storage_of file.storage)
    (written : IfSome t'.cluster (λ k. Changes (view asked) (view (storage_of storage)) result (λ b. overwritten b (k * 2 ^ t'.cluster_bits + 8 * range) (to_be_bytes w64 (entry_at t'.bytes range)))))
    (calls : Calls (view asked) (view (storage_of storage)) result) where
  abbrev q : Pending
  q = placing d p at

  abbrev h : HeaderFields
  h = file.header.fields

  abbrev named : ImageFile S
  named = record file { storage = storage }

  now : AllocatorInvariant view t q file
  now = is_sound_now view q q old file t before.0

  changes : Changes (view_in view file) (view (storage_of storage)) result (λ b. overwritten b (h.reftable_offset + 8 * range) (to_be_bytes w64 (entry_at t'.bytes range)))
  changes =
      let aligned = now.sound.caches.kept.kept.crash_invariant.top.reftable_aligned in
      let e = div-add-mod' h.reftable_offset (cluster_size h) in
      let begins : h.reftable_offset / cluster_size h * cluster_size h ≡ h.reftable_offset = omega (arith, e, aligned) in
      entry_write_as view (storage_of file.storage) asked (storage_of storage) t'.cluster (h.reftable_offset / cluster_size h) t'.cluster_bits h.cluster_bits h.reftable_offset (8 * range) (to_be_bytes w64 (entry_at t'.bytes range)) result same
      (ap (λ (x : EntryTableView). x.cluster) rest ∙ now.reftable.cluster) (ap (λ (x : EntryTableView). x.cluster_bits) rest ∙ now.reftable.bits) begins written

  calls_now : Calls (view_in view file) (view (storage_of storage)) result
  calls_now = subst (λ s. Calls (view s) (view (storage_of storage)) result) same calls

  there : HasPlaceFor d h t.reftable range at
  there = place

  entered : ChangesEntry t.reftable.bytes t'.bytes range (at * cluster_size h)
  entered = subst (λ n. ChangesEntry t.reftable.bytes t'.bytes range (at * 2 ^ n)) now.reftable.bits enters

  at_place : block_offset (entry_at t'.bytes range) ≡ at * cluster_size h
  at_place = offset ∙ ap (λ n. at * 2 ^ n) now.reftable.bits

  not_placed : IsTrue (is_changed_of storage) → (e : ImageError) → IsFault e → PlacesBlock view q old (record t { reftable = t' }) named p range at (Err e)
  not_placed changed e fault = (
    fault,
    inr (interrupted_then view q q old file named e before.0.file_step (record {
      fault = fault;
      recorded = λ _. or_left (is_changed_of storage) file.caches.is_changed changed;
      since = safe_throughout_named view d p range at file t.reftable t' block now.sound now.reftable counted first there within rest entered at_place fits whole format counts before.1.uncached before.1.stands storage result calls_now changes;
    })),
  )

  is_placed : (x : Unit {0}) → result ≡ Ok x → InternalAllocatorStep view q old (record t { reftable = t' }) named p × NamesRefblock view named range at
  is_placed x done =
      let so = named_so view d p range at file t.reftable t' block now.sound now.reftable counted first there within rest entered at_place fits whole format counts before.1.uncached before.1.stands storage result calls_now changes x done in
      let some : 0 < at * cluster_size h = real view d p range at file t.reftable t' block now.sound now.reftable counted first there within rest entered at_place fits whole format counts before.1.uncached before.1.stands in (
        record { file_step = file_step_then view q q p old file named (λ k some. some) before.0.file_step so.0; reftable = so.1 },
        names_refblock view p named t' so.0.sound so.1 range (at * cluster_size h) at h.cluster_bits (sym at_place) some refl refl,
      )

pub returns-in_err-write_reftable_entry : goal.returns-in_err-write_reftable_entry
returns-in_err-write_reftable_entry g c = record {
  step = record {
    header = c.write_block.ensures.step.header;
    list = c.write_block.ensures.step.list;
    named = entries_entered c.args.self.now.reftable c.enter_refblock.new.self c.args.range c.new-cluster.result (subst (λ n. 0 < n) (sym c.new-cluster.ensures) c.requires.place.elsewhere) c.enter_refblock.ensures.rest c.enter_refblock.ensures.entry c.enter_refblock.ensures.offset;
    marks = kept_marks_then c.write_block.ensures.step.marks
        (marks_of_storage refl (placed_kept c.write_block.new.file.storage c.set_write_kind.new.self c.write_reftable_entry.new.self c.write_reftable_entry.result c.set_write_kind.ensures.storage c.set_write_kind.ensures.changed c.enter_refblock.new.self.cluster _
        (subst (λ (x : EntryTableView). IsSome x.cluster) (sym c.enter_refblock.ensures.rest) c.requires.place.placed) c.write_reftable_entry.ensures.written c.write_reftable_entry.ensures.calls c.write_reftable_entry.ensures.recorded));
    header_cluster = spares_then (c.write_block.ensures.step.header_cluster c.args.self.now.reftable (format_in _ c.args.block c.set_cluster.new.self _ c.set_cluster.ensures c.requires.block.0).bits) (spares_entry g.S.Storage.view c.args.self.now.reftable c.enter_refblock.new.self c.write_block.new.file c.write_block.new.file.caches (storage_of c.set_write_kind.new.self) c.write_reftable_entry.new.self _ _ c.write_reftable_entry.result (λ bits are. are) (ap (λ (t : EntryTableView). t.cluster_bits) c.enter_refblock.ensures.rest) (ap (λ (t : EntryTableView). t.cluster) c.enter_refblock.ensures.rest) c.set_write_kind.ensures.storage c.write_reftable_entry.ensures.written c.write_reftable_entry.ensures.calls (let within = c.requires.place.within in omega (arith, within)) (subst (λ (t : EntryTableView). IsSome t.cluster) (sym c.enter_refblock.ensures.rest) c.requires.place.placed));
  };
  fails =
      fails_since (same_faults g.S.Storage.view c.set_write_kind.ensures.storage ∙ c.in_ok-write_block.ensures.fails.told) (fails_storage c.from_residual-in_err-write_reftable_entry.result c.in_err-write_reftable_entry.field-0.0 c.from_residual-in_err-write_reftable_entry.ensures c.in_err-write_reftable_entry.ensures.calls.cause);
  sound = λ p itself sound place counts.
      let three = at_number g.S.Storage.view itself p c.args.file.now c.write_block.new.file c.args.self.now c.set_cluster.new.self c.args.range c.new-cluster.result c.args.at (Ok c.in_ok-write_block.field-0) c.new-cluster.ensures (λ s has. c.in_ok-write_block.ensures.sound p itself c.args.self.now c.args.range s has (format_in _ c.args.block c.set_cluster.new.self _ c.set_cluster.ensures c.requires.block.0) (whole_in c.args.block c.set_cluster.new.self c.new-cluster.result c.set_cluster.ensures c.requires.block.1 (has_place c.args.block c.args.file.now.header.fields c.args.at c.new-cluster.result c.requires.block.0 c.new-cluster.ensures c.requires.place.nameable_here))) sound place in
      handed_on (PlacesBlock g.S.Storage.view (placing itself p c.args.at) c.args.file.now (record c.args.self.now { reftable = c.enter_refblock.new.self }) (record c.write_block.new.file { storage = c.write_reftable_entry.new.self }) p c.args.range c.args.at)
      c.from_residual-in_err-write_reftable_entry.result (of_storage c.in_err-write_reftable_entry.field-0.0) c.from_residual-in_err-write_reftable_entry.ensures
      (not_placed g.S.Storage.view itself p c.args.range c.args.at c.args.file.now c.write_block.new.file c.args.self.now c.enter_refblock.new.self c.write_reftable_entry.new.self (storage_of c.set_write_kind.new.self) c.set_cluster.new.self c.write_reftable_entry.result
      three c.in_ok-write_block.ensures.counted c.in_ok-write_block.ensures.first (subst (λ h. HasPlaceFor itself h c.args.self.now.reftable c.args.range c.args.at) (sym (ap (λ x. x.fields) c.write_block.ensures.step.header)) place)
      c.requires.place.within c.enter_refblock.ensures.rest (subst (λ k. ChangesEntry c.args.self.now.reftable.bytes c.enter_refblock.new.self.bytes c.args.range (k * 2 ^ c.args.self.now.reftable.cluster_bits)) c.new-cluster.ensures c.enter_refblock.ensures.entry)
      (c.enter_refblock.ensures.offset ∙ ap (λ k. k * 2 ^ c.args.self.now.reftable.cluster_bits) c.new-cluster.ensures) c.write_reftable_entry.ensures.fits (whole_in c.args.block c.set_cluster.new.self c.new-cluster.result c.set_cluster.ensures c.requires.block.1 (has_place c.args.block c.args.file.now.header.fields c.args.at c.new-cluster.result c.requires.block.0 c.new-cluster.ensures c.requires.place.nameable_here)) (subst (λ h. IsBlockOf h c.set_cluster.new.self) (sym (ap (λ x. x.fields) c.write_block.ensures.step.header)) (format_in _ c.args.block c.set_cluster.new.self _ c.set_cluster.ensures c.requires.block.0))
      (λ i. ap (λ (b : RefBlockView). count_at b i) c.set_cluster.ensures ∙ counts i) c.set_write_kind.ensures.storage c.write_reftable_entry.ensures.written c.write_reftable_entry.ensures.calls (note_kept c.set_write_kind.new.self c.write_reftable_entry.new.self c.write_reftable_entry.result c.write_reftable_entry.ensures.recorded (c.set_write_kind.ensures.changed.note ∙ c.in_ok-write_block.ensures.recorded)) (of_storage c.in_err-write_reftable_entry.field-0.0) (fault_of_storage c.in_err-write_reftable_entry.field-0.0));
  recorded = on_no_ok _ c.from_residual-in_err-write_reftable_entry.result (of_storage c.in_err-write_reftable_entry.field-0.0) c.from_residual-in_err-write_reftable_entry.ensures;
  has = on_no_ok _ c.from_residual-in_err-write_reftable_entry.result (of_storage c.in_err-write_reftable_entry.field-0.0) c.from_residual-in_err-write_reftable_entry.ensures;
  rest = refl;
}

pub returns : goal.returns
returns g c = record {
  step = record {
    header = c.write_block.ensures.step.header;
    list = c.write_block.ensures.step.list;
    named = entries_entered c.args.self.now.reftable c.enter_refblock.new.self c.args.range c.new-cluster.result (subst (λ n. 0 < n) (sym c.new-cluster.ensures) c.requires.place.elsewhere) c.enter_refblock.ensures.rest c.enter_refblock.ensures.entry c.enter_refblock.ensures.offset;
    marks = kept_marks_then c.write_block.ensures.step.marks
        (marks_of_storage refl (placed_kept c.write_block.new.file.storage c.set_write_kind.new.self c.write_reftable_entry.new.self c.write_reftable_entry.result c.set_write_kind.ensures.storage c.set_write_kind.ensures.changed c.enter_refblock.new.self.cluster _
        (subst (λ (x : EntryTableView). IsSome x.cluster) (sym c.enter_refblock.ensures.rest) c.requires.place.placed) c.write_reftable_entry.ensures.written c.write_reftable_entry.ensures.calls c.write_reftable_entry.ensures.recorded));
    header_cluster = spares_then (c.write_block.ensures.step.header_cluster c.args.self.now.reftable (format_in _ c.args.block c.set_cluster.new.self _ c.set_cluster.ensures c.requires.block.0).bits) (spares_entry g.S.Storage.view c.args.self.now.reftable c.enter_refblock.new.self c.write_block.new.file c.write_block.new.file.caches (storage_of c.set_write_kind.new.self) c.write_reftable_entry.new.self _ _ c.write_reftable_entry.result (λ bits are. are) (ap (λ (t : EntryTableView). t.cluster_bits) c.enter_refblock.ensures.rest) (ap (λ (t : EntryTableView). t.cluster) c.enter_refblock.ensures.rest) c.set_write_kind.ensures.storage c.write_reftable_entry.ensures.written c.write_reftable_entry.ensures.calls (let within = c.requires.place.within in omega (arith, within)) (subst (λ (t : EntryTableView). IsSome t.cluster) (sym c.enter_refblock.ensures.rest) c.requires.place.placed));
  };
  fails = fails_ok (c.in_ok-write_reftable_entry.ensures.calls.cause.told ∙ (same_faults g.S.Storage.view c.set_write_kind.ensures.storage ∙ c.in_ok-write_block.ensures.fails.told));
  sound = λ p itself sound place counts.
      let three = at_number g.S.Storage.view itself p c.args.file.now c.write_block.new.file c.args.self.now c.set_cluster.new.self c.args.range c.new-cluster.result c.args.at (Ok c.in_ok-write_block.field-0) c.new-cluster.ensures (λ s has. c.in_ok-write_block.ensures.sound p itself c.args.self.now c.args.range s has (format_in _ c.args.block c.set_cluster.new.self _ c.set_cluster.ensures c.requires.block.0) (whole_in c.args.block c.set_cluster.new.self c.new-cluster.result c.set_cluster.ensures c.requires.block.1 (has_place c.args.block c.args.file.now.header.fields c.args.at c.new-cluster.result c.requires.block.0 c.new-cluster.ensures c.requires.place.nameable_here))) sound place in
      is_placed g.S.Storage.view itself p c.args.range c.args.at c.args.file.now c.write_block.new.file c.args.self.now c.enter_refblock.new.self c.write_reftable_entry.new.self (storage_of c.set_write_kind.new.self) c.set_cluster.new.self c.write_reftable_entry.result
      three c.in_ok-write_block.ensures.counted c.in_ok-write_block.ensures.first (subst (λ h. HasPlaceFor itself h c.args.self.now.reftable c.args.range c.args.at) (sym (ap (λ x. x.fields) c.write_block.ensures.step.header)) place)
      c.requires.place.within c.enter_refblock.ensures.rest (subst (λ k. ChangesEntry c.args.self.now.reftable.bytes c.enter_refblock.new.self.bytes c.args.range (k * 2 ^ c.args.self.now.reftable.cluster_bits)) c.new-cluster.ensures c.enter_refblock.ensures.entry)
      (c.enter_refblock.ensures.offset ∙ ap (λ k. k * 2 ^ c.args.self.now.reftable.cluster_bits) c.new-cluster.ensures) c.write_reftable_entry.ensures.fits (whole_in c.args.block c.set_cluster.new.self c.new-cluster.result c.set_cluster.ensures c.requires.block.1 (has_place c.args.block c.args.file.now.header.fields c.args.at c.new-cluster.result c.requires.block.0 c.new-cluster.ensures c.requires.place.nameable_here)) (subst (λ h. IsBlockOf h c.set_cluster.new.self) (sym (ap (λ x. x.fields) c.write_block.ensures.step.header)) (format_in _ c.args.block c.set_cluster.new.self _ c.set_cluster.ensures c.requires.block.0))
      (λ i. ap (λ (b : RefBlockView). count_at b i) c.set_cluster.ensures ∙ counts i) c.set_write_kind.ensures.storage c.write_reftable_entry.ensures.written c.write_reftable_entry.ensures.calls c.in_ok-write_reftable_entry.field-0 c.in_ok-write_reftable_entry.was;
  recorded = or_left (is_changed_of c.write_reftable_entry.new.self) c.write_block.new.file.caches.is_changed (note_kept c.set_write_kind.new.self c.write_reftable_entry.new.self c.write_reftable_entry.result c.write_reftable_entry.ensures.recorded (c.set_write_kind.ensures.changed.note ∙ c.in_ok-write_block.ensures.recorded));
  has = entered_has c.enter_refblock.new.self c.args.range c.new-cluster.result c.args.self.now.reftable.cluster_bits (subst (λ n. 0 < n) (sym c.new-cluster.ensures) c.requires.place.elsewhere) c.enter_refblock.ensures.offset;
  rest = refl;
}

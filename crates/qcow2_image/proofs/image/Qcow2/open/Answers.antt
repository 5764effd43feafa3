use Rattle.std.proofs.Common.{◌≡◌, ◌⊎◌, sym, refl, arith, subst, ap, inl, inr, ◌∙◌, rules, None, false}
use Rattle.qcow2_image.proofs.Common.{MetadataCaches, byte_at, nothing_pending, surplus_of, ImageFile, Qcow2, IsKeptSince, HeaderReads, header, HeaderFields, SameFormat, ImageError, Dependency, UnalignedTable, IsFault, IsJustifiedRefusal, AreAllWritten}
use Rattle.qcow2_image.proofs.Open.Left.{left_loaded, left_opened, left_refused}
use Rattle.qcow2_image.proofs.Open.Opening.{new_tables_new, opened, kept_loaded, kept_opened, named_still}
use Rattle.qcow2_alloc.specs.declared.error.ImageError.TheVariants as I
use Rattle.qcow2_image.proofs.Open.Reading.{header_refused, needs_so, opened_rightly, refused_rightly}
use Rattle.qcow2_image.proofs.Open.SameHeaders.{metadata_not_missing, not_missing, not_needed, refused_before, some_missing, stays_so}
use Rattle.qcow2_alloc.specs.ImageFile.{l2_pins}
use Rattle.qcow2_image.proofs.image.Qcow2.open.Goals as goal

pub returns-in-Err-clause-step : goal.returns-in-Err-clause-step
returns-in-Err-clause-step g c = record {
  faults = search rules;
  storage =
      left_loaded g.S.Storage.view c.args.writable c.args.storage.storage c.args.storage.storage c.load.new.storage.storage refl c.load.result c.load.ensures.reads _ c.into_inner.result c.into_inner.ensures;
  since =
      λ honest consistent.
      let view = g.S.Storage.view in
      subst (λ s. IsKeptSince (view c.args.storage.storage) (view s)) (sym c.into_inner.ensures)
      (kept_loaded {result = c.load.result} (view c.args.storage.storage) (view c.load.new.storage.storage) c.load.ensures.reads honest);
  another =
      λ honest needs.
      let view = g.S.Storage.view in
      let reads : HeaderReads (header (byte_at (view c.args.storage.storage).contents)) (byte_at (view c.args.storage.storage).contents) = needs.stands.reads in
      let why = c.in-Err.ensures.refused honest in
      (subst (λ (e : ImageError). (e ≡ Dependency) ⊎ (e ≡ UnalignedTable) ⊎ IsFault e) (sym c.from.ensures) (inr (refused_before _ _ c.args.writable c.in-Err.e reads why)), stays_so view c.args.storage.storage c.args.storage.storage c.load.new.storage.storage _ c.load.result refl c.into_inner.ensures c.load.ensures.reads honest);
  cause = (
    λ is. absurd (metadata_not_missing c.in-Err.e (sym c.from.ensures ∙ is)),
    λ honest.
        let view = g.S.Storage.view in
        let why = c.in-Err.ensures.refused honest in
        subst (IsJustifiedRefusal (view c.args.storage.storage).contents c.args.writable c.args.missing) (sym c.from.ensures) (header_refused (view c.args.storage.storage).contents c.args.writable c.args.missing c.in-Err.e why),
  );
}

pub returns-then-lacks_another-clause-step : goal.returns-then-lacks_another-clause-step
returns-then-lacks_another-clause-step g c = record {
  faults = search rules;
  storage =
      left_loaded g.S.Storage.view c.args.writable c.args.storage.storage c.args.storage.storage c.load.new.storage.storage refl c.load.result c.load.ensures.reads _ c.into_inner-then-lacks_another.result c.into_inner-then-lacks_another.ensures;
  since =
      λ honest consistent.
      let view = g.S.Storage.view in
      subst (λ s. IsKeptSince (view c.args.storage.storage) (view s)) (sym c.into_inner-then-lacks_another.ensures)
      (kept_loaded {result = c.load.result} (view c.args.storage.storage) (view c.load.new.storage.storage) c.load.ensures.reads honest);
  another =
      λ honest needs.
      (inl refl, stays_so g.S.Storage.view c.args.storage.storage c.args.storage.storage c.load.new.storage.storage _ c.load.result refl c.into_inner-then-lacks_another.ensures c.load.ensures.reads honest);
  cause =
      let so = sym c.lacks_another.ensures ∙ c.if-lacks_another.true in
      (λ is. some_missing c.args.missing c.in-Ok.header so, needs_so g.S.Storage.view c.args.storage.storage c.args.storage.storage c.load.new.storage.storage refl c.args.writable c.args.missing c.load.result c.load.ensures.reads c.in-Ok.header c.in-Ok.ensures.ok c.in-Ok.ensures.aligned so);
}

pub returns-in-Err-new-clause-step : goal.returns-in-Err-new-clause-step
returns-in-Err-new-clause-step g c = record {
  faults = search rules;
  storage =
      left_loaded g.S.Storage.view c.args.writable c.args.storage.storage c.args.storage.storage c.load.new.storage.storage refl c.load.result c.load.ensures.reads _ c.into_inner-in-Err-new.result c.into_inner-in-Err-new.ensures;
  since =
      λ honest consistent.
      let view = g.S.Storage.view in
      subst (λ s. IsKeptSince (view c.args.storage.storage) (view s)) (sym c.into_inner-in-Err-new.ensures)
      (kept_loaded {result = c.load.result} (view c.args.storage.storage) (view c.load.new.storage.storage) c.load.ensures.reads honest);
  another =
      λ honest needs.
      absurd (not_needed c.args.missing c.in-Ok.header (g.S.Storage.view c.args.storage.storage).contents (c.in-Ok.ensures.ok honest) (sym c.lacks_another.ensures ∙ c.if-lacks_another.false) needs);
  cause = (
    λ is. absurd (let bad : I.Memory ≡ Dependency = sym c.from-in-Err-new.ensures ∙ is in cc),
    λ honest. subst (IsJustifiedRefusal (g.S.Storage.view c.args.storage.storage).contents c.args.writable c.args.missing) (sym c.from-in-Err-new.ensures) tt,
  );
}

pub returns-in-Err-load_tables-clause-step : goal.returns-in-Err-load_tables-clause-step
returns-in-Err-load_tables-clause-step g c = record {
  faults = search rules;
  storage =
      let file : ImageFile _ = record { alloc = c.args.alloc; storage = c.load.new.storage; header = c.in-Ok.header; caches = c.in-Ok-new.caches; free_list = c.new-2.result } in
      left_refused g.S.Storage.view c.args.writable c.args.storage.storage c.args.storage.storage file refl c.load.result c.load.ensures.reads c.in-Ok.ensures.ok c.load_tables.new.file c.in-Err-load_tables.e c.into_storage.result
      c.into_storage.ensures c.in-Err-load_tables.ensures.step.storage;
  since =
      let view = g.S.Storage.view in
      let below = g.F.BackingDisk.backing in
      let contents = (view c.args.storage.storage).contents in
      let read = c.load.ensures.reads in
      let new = c.in-Ok-new.ensures in
      let file : ImageFile _ = record { alloc = c.args.alloc; storage = c.load.new.storage; header = c.in-Ok.header; caches = c.in-Ok-new.caches; free_list = c.new-2.result } in
      kept_opened view below c.load.result c.args.storage.storage c.args.storage.storage c.into_storage.result file c.load_tables.new.file refl c.into_storage.ensures read
      (λ honest consistent. (c.load_tables.ensures.sound (nothing_pending (surplus_of c.in-Ok.header.fields (byte_at contents))) (new_tables_new view below contents file consistent (read.honest honest) (read.same honest) (c.in-Ok.ensures.ok honest) new.sound new.known new.named_blocks (new.room (omega arith) (omega arith)) new.pins c.new-2.ensures)).0);
  another =
      λ honest needs.
      absurd (not_needed c.args.missing c.in-Ok.header (g.S.Storage.view c.args.storage.storage).contents (c.in-Ok.ensures.ok honest) (sym c.lacks_another.ensures ∙ c.if-lacks_another.false) needs);
  cause = (
    λ is. absurd (not_missing _ c.in-Err-load_tables.ensures.cause is),
    refused_rightly g.S.Storage.view c.args.storage.storage c.args.storage.storage c.load.new.storage.storage refl c.args.writable c.args.missing c.load.result c.load.ensures.reads c.in-Ok.header c.in-Ok.ensures.ok c.in-Ok.ensures.aligned
        c.in-Err-load_tables.e (sym c.lacks_another.ensures ∙ c.if-lacks_another.false) c.in-Err-load_tables.ensures.why,
  );
}

pub returns-in-Ok-load_tables-clause-step : goal.returns-in-Ok-load_tables-clause-step
returns-in-Ok-load_tables-clause-step g c = record {
  faults = search rules;
  storage =
      let file : ImageFile _ = record { alloc = c.args.alloc; storage = c.load.new.storage; header = c.in-Ok.header; caches = c.in-Ok-new.caches; free_list = c.new-2.result } in
      let tables = c.in-Ok-load_tables.field-0 in
      let image : Qcow2 _ _ = record { number = c.args.number; is_failed = false; file = c.load_tables.new.file; l1_table = tables.l1_table; allocator = tables.allocator; backing = None; data_file = None } in
      left_opened g.S.Storage.view c.args.writable c.args.storage.storage c.args.storage.storage file refl c.load.result c.load.ensures.reads c.in-Ok.ensures.ok tables image c.in-Ok-load_tables.ensures.step.storage;
  since =
      let view = g.S.Storage.view in
      let below = g.F.BackingDisk.backing in
      let contents = (view c.args.storage.storage).contents in
      let read = c.load.ensures.reads in
      let new = c.in-Ok-new.ensures in
      let file : ImageFile _ = record { alloc = c.args.alloc; storage = c.load.new.storage; header = c.in-Ok.header; caches = c.in-Ok-new.caches; free_list = c.new-2.result } in
      kept_opened view below c.load.result c.args.storage.storage c.args.storage.storage c.load_tables.new.file.storage.storage file c.load_tables.new.file refl refl read
      (λ honest consistent. (c.load_tables.ensures.sound (nothing_pending (surplus_of c.in-Ok.header.fields (byte_at contents))) (new_tables_new view below contents file consistent (read.honest honest) (read.same honest) (c.in-Ok.ensures.ok honest) new.sound new.known new.named_blocks (new.room (omega arith) (omega arith)) new.pins c.new-2.ensures)).0);
  another =
      λ honest needs.
      absurd (not_needed c.args.missing c.in-Ok.header (g.S.Storage.view c.args.storage.storage).contents (c.in-Ok.ensures.ok honest) (sym c.lacks_another.ensures ∙ c.if-lacks_another.false) needs);
  cause =
      opened_rightly g.S.Storage.view c.args.storage.storage c.args.storage.storage c.load.new.storage.storage refl c.args.writable c.args.missing c.load.result c.load.ensures.reads c.in-Ok.header c.in-Ok.ensures.ok c.in-Ok.ensures.aligned
      (sym c.lacks_another.ensures ∙ c.if-lacks_another.false) c.in-Ok-load_tables.ensures.why;
}

pub returns-in-Ok-load_tables-clause-image : goal.returns-in-Ok-load_tables-clause-image
returns-in-Ok-load_tables-clause-image g c = record {
  number_is = refl;
  works = refl;
  writable_is = c.in-Ok-load_tables.ensures.allocator;
  room = subst (λ (caches : MetadataCaches _). (caches.l2.size ≡ 128) × (caches.rb.size ≡ 32)) (sym c.load_tables.ensures.step.caches) c.in-Ok-new.ensures.sizes;
  unpinned =
      λ has.
      let none : l2_pins c.in-Ok-new.caches has.cluster ≡ 0 = c.in-Ok-new.ensures.pins has.cluster in
      let same : l2_pins c.load_tables.new.file.caches has.cluster ≡ l2_pins c.in-Ok-new.caches has.cluster = ap (λ caches. l2_pins caches has.cluster) c.load_tables.ensures.step.caches in
      let some = has.pins in
      omega (arith, none, same, some);
  unmodified =
      subst AreAllWritten (sym c.load_tables.ensures.step.caches) c.in-Ok-new.ensures.all_written;
  header_cluster =
      c.in-Ok-load_tables.ensures.header_cluster c.in-Ok-new.ensures.header_cluster;
  format = λ honest. subst (λ (h : HeaderFields). SameFormat h c.load_tables.new.file.header.fields) (c.in-Ok.ensures.ok honest).fields c.in-Ok-load_tables.ensures.format;
  names =
      λ honest. named_still c.in-Ok.header c.load_tables.new.file.header (g.S.Storage.view c.args.storage.storage).contents (c.in-Ok.ensures.ok honest) c.in-Ok-load_tables.ensures.names;
}

pub returns-in-Ok-load_tables-clause-opens : goal.returns-in-Ok-load_tables-clause-opens
returns-in-Ok-load_tables-clause-opens g c =
    let view = g.S.Storage.view in
    let below = g.F.BackingDisk.backing in
    let contents = (view c.args.storage.storage).contents in
    let read = c.load.ensures.reads in
    let new = c.in-Ok-new.ensures in
    let tables = c.in-Ok-load_tables.field-0 in
    let image : Qcow2 _ _ = record { number = c.args.number; is_failed = false; file = c.load_tables.new.file; l1_table = tables.l1_table; allocator = tables.allocator; backing = None; data_file = None } in
    let surplus = surplus_of c.in-Ok.header.fields (byte_at contents) in
    λ honest consistent.
    let there = c.in-Ok.ensures.ok honest in
    let is = opened view below image surplus refl refl tt ((c.in-Ok-load_tables.ensures.sound (nothing_pending surplus) (new_tables_new view below contents (record { alloc = c.args.alloc; storage = c.load.new.storage; header = c.in-Ok.header; caches = c.in-Ok-new.caches; free_list = c.new-2.result }) consistent
    (read.honest honest) (read.same honest) there new.sound new.known new.named_blocks (new.room (omega arith) (omega arith)) new.pins c.new-2.ensures)).1) in
    record { opened = is.0; surplus = is.1 ∙ ap (λ h. surplus_of h (byte_at contents)) there.fields; leaks = c.in-Ok-load_tables.ensures.leaks }

pub returns-in-Ok-load_tables-clause-list : goal.returns-in-Ok-load_tables-clause-list
returns-in-Ok-load_tables-clause-list g c =
    let view = g.S.Storage.view in
    let contents = (view c.args.storage.storage).contents in
    let read = c.load.ensures.reads in
    let new = c.in-Ok-new.ensures in
    λ honest consistent.
    ((c.in-Ok-load_tables.ensures.sound (nothing_pending (surplus_of c.in-Ok.header.fields (byte_at contents))) (new_tables_new view g.F.BackingDisk.backing contents (record { alloc = c.args.alloc; storage = c.load.new.storage; header = c.in-Ok.header; caches = c.in-Ok-new.caches; free_list = c.new-2.result }) consistent
    (read.honest honest) (read.same honest) (c.in-Ok.ensures.ok honest) new.sound new.known new.named_blocks (new.room (omega arith) (omega arith)) new.pins c.new-2.ensures)).1).new_tables.list

use Rattle.qcow2_image.proofs.Common.{◌∙◌, Err, List, Option, Result, Some, refl, sym, ap, subst, rules, IfErr, option_map, IsOfPrepared, LeavesPinned, kept_same, EntryTableView, Allocator, ClustersToFreeEntry, ImageError, ImageFile, handed_on, notes_of_marks, notes_then, leaked_by, IsReasonAgainstReading, InternalStep, Qcow2}
use Rattle.qcow2_image.proofs.Lemmas.{behind_by, behind_tables, behind_then, keeps_then}
use Rattle.qcow2_alloc.proofs.KeptTables.Held.{listed_same}
use Rattle.qcow2_image.proofs.Invalidate.Dropped.{anew_moved, behind_dropped, dropped_moved, holds_none, left_none, left_prepared, no_entries, rests_there, unmodified_l2, unmodified_rb, why_blocks, why_left}
use Rattle.qcow2_image.proofs.image.Qcow2.drop_cached.Goals as goal

pub returns-in_err-invalidate_l2-clause-why : goal.returns-in_err-invalidate_l2-clause-why
returns-in_err-invalidate_l2-clause-why g c =
    let view = g.S.Storage.view in
    let old = c.args.self.now in
    let new : Qcow2 _ _ = record old { file = record old.file { caches = c.invalidate_l2.new.self; free_list = c.take-forgotten.new.self } } in
    let e = c.in_err-invalidate_l2.field-0.0 in
    handed_on (λ (r : Result _ ImageError). IfErr r (IsReasonAgainstReading view old new)) c.from_residual.result e c.from_residual.ensures
    (why_left view g.F.BackingDisk.backing old new e (subst (λ (r : Result _ ImageError). LeavesPinned old.file.caches.l2.entries r c.invalidate_l2.new.self.l2.entries) c.in_err-invalidate_l2.was c.invalidate_l2.ensures.left) c.invalidate_l2.ensures.step.marks.pins)

pub returns-in_err-invalidate_l2-clause-keeps : goal.returns-in_err-invalidate_l2-clause-keeps
returns-in_err-invalidate_l2-clause-keeps g c = λ rest p out sound.
    let l2 = c.invalidate_l2.ensures in
    dropped_moved g.S.Storage.view g.F.BackingDisk.backing c.args.self.now c.invalidate_l2.new.self c.take-forgotten.new.self c.take-forgotten.ensures.emptied l2.taken l2.step.order l2.step.marks.room l2.step.marks.pins rest p out sound

pub returns-in-Some-clause-step : goal.returns-in-Some-clause-step
returns-in-Some-clause-step g c =
    let old = c.args.self.now in
    let l2 = c.invalidate_l2.ensures in
    let rb = c.invalidate_rb_cache.ensures in
    record {
      stays = search rules;
      notes = notes_then {b = c.invalidate_l2.new.self} (record { storage = kept_same old.file.storage; tables = l2.step.marks.changes }) (notes_of_marks rb.marks);
      header_cluster =
          behind_then (behind_tables l2.step.header_cluster)
          (behind_by g.S.Storage.view (ap (λ (f : ImageFile _). record old { file = f; allocator = Some c.invalidate_rb_cache.new.self }) rb.rest) (behind_dropped c.in-Some.is rb.anew.reftable rb.header_cluster));
    }

pub returns-in-Some-clause-why : goal.returns-in-Some-clause-why
returns-in-Some-clause-why g c =
    let old = c.args.self.now in
    why_blocks g.S.Storage.view g.F.BackingDisk.backing old (record old { file = c.invalidate_rb_cache.new.file; allocator = Some c.invalidate_rb_cache.new.self }) c.invalidate_l2.new.self.rb.entries c.invalidate_rb_cache.new.file.caches.rb.entries c.invalidate_rb_cache.result
    c.invalidate_rb_cache.ensures.left (λ room. (c.invalidate_l2.ensures.step.marks.room room).free)

pub returns-in-Some-clause-dropped : goal.returns-in-Some-clause-dropped
returns-in-Some-clause-dropped g c =
    let old = c.args.self.now in
    let none = subst (λ (r : Result _ ImageError). LeavesPinned old.file.caches.l2.entries r c.invalidate_l2.new.self.l2.entries) c.in_ok-invalidate_l2.was c.invalidate_l2.ensures.left in
    holds_none (record old { file = c.invalidate_rb_cache.new.file; allocator = Some c.invalidate_rb_cache.new.self }) (no_entries c.invalidate_l2.new.self c.invalidate_rb_cache.new.file.caches none.1 c.invalidate_rb_cache.ensures.tables) c.invalidate_rb_cache.result
    (left_none c.invalidate_l2.new.self.rb.entries c.invalidate_rb_cache.new.file.caches.rb.entries c.invalidate_rb_cache.result c.invalidate_rb_cache.ensures.left)

pub returns-in-Some-clause-keeps : goal.returns-in-Some-clause-keeps
returns-in-Some-clause-keeps g c = λ rest p out sound.
    let view = g.S.Storage.view in
    let below = g.F.BackingDisk.backing in
    let old = c.args.self.now in
    let l2 = c.invalidate_l2.ensures in
    let rb = c.invalidate_rb_cache.ensures in
    let a' = c.invalidate_rb_cache.new.self in
    let caches = c.invalidate_rb_cache.new.file.caches in
    let list = c.take-forgotten.new.self in
    let empty = c.take-forgotten.ensures.emptied in
    let mid : Qcow2 _ _ = record old { file = record old.file { caches = c.invalidate_l2.new.self; free_list = list } } in
    let first = dropped_moved view below old c.invalidate_l2.new.self list empty l2.taken l2.step.order l2.step.marks.room l2.step.marks.pins rest p out sound in
    let there = rests_there view below old c.invalidate_l2.new.self list empty l2.taken l2.step.order l2.step.marks.room l2.step.marks.pins rest p out sound in
    let second = dropped_moved view below mid caches list empty rb.taken rb.marks.order rb.marks.pins.room rb.marks.pins.pins there p out first.sound in
    subst (λ (f : ImageFile _). InternalStep view below p p old (record old { file = f; allocator = Some a' }) out) (sym rb.rest)
    (anew_moved view below p old mid caches c.in-Some.allocator a' out first second c.in-Some.is rb.anew)

pub returns-clause-step : goal.returns-clause-step
returns-clause-step g c =
    let old = c.args.self.now in
    let l2 = c.invalidate_l2.ensures in
    let rb = c.invalidate_rb.ensures in
    record {
      stays = search rules;
      notes = notes_then {b = c.invalidate_l2.new.self} (record { storage = kept_same old.file.storage; tables = l2.step.marks.changes }) (record { storage = kept_same old.file.storage; tables = rb.step.marks.changes });
      header_cluster = behind_then (behind_tables l2.step.header_cluster) (behind_tables rb.step.header_cluster);
    }

pub returns-clause-why : goal.returns-clause-why
returns-clause-why g c =
    let old = c.args.self.now in
    why_blocks g.S.Storage.view g.F.BackingDisk.backing old (record old { file = record old.file { caches = c.invalidate_rb.new.self; free_list = c.take-forgotten.new.self } }) c.invalidate_l2.new.self.rb.entries c.invalidate_rb.new.self.rb.entries c.invalidate_rb.result
    c.invalidate_rb.ensures.left (λ room. (c.invalidate_l2.ensures.step.marks.room room).free)

pub returns-clause-dropped : goal.returns-clause-dropped
returns-clause-dropped g c =
    let old = c.args.self.now in
    let none = subst (λ (r : Result _ ImageError). LeavesPinned old.file.caches.l2.entries r c.invalidate_l2.new.self.l2.entries) c.in_ok-invalidate_l2.was c.invalidate_l2.ensures.left in
    holds_none (record old { file = record old.file { caches = c.invalidate_rb.new.self; free_list = c.take-forgotten.new.self } }) (no_entries c.invalidate_l2.new.self c.invalidate_rb.new.self none.1 (listed_same c.invalidate_l2.new.self c.invalidate_rb.new.self c.invalidate_rb.ensures.tables)) c.invalidate_rb.result
    (left_none c.invalidate_l2.new.self.rb.entries c.invalidate_rb.new.self.rb.entries c.invalidate_rb.result c.invalidate_rb.ensures.left)

pub returns-clause-keeps : goal.returns-clause-keeps
returns-clause-keeps g c = λ rest p out sound.
    let view = g.S.Storage.view in
    let below = g.F.BackingDisk.backing in
    let old = c.args.self.now in
    let l2 = c.invalidate_l2.ensures in
    let rb = c.invalidate_rb.ensures in
    let list = c.take-forgotten.new.self in
    let empty = c.take-forgotten.ensures.emptied in
    let mid : Qcow2 _ _ = record old { file = record old.file { caches = c.invalidate_l2.new.self; free_list = list } } in
    let first = dropped_moved view below old c.invalidate_l2.new.self list empty l2.taken l2.step.order l2.step.marks.room l2.step.marks.pins rest p out sound in
    let there = rests_there view below old c.invalidate_l2.new.self list empty l2.taken l2.step.order l2.step.marks.room l2.step.marks.pins rest p out sound in
    let last : Qcow2 _ _ = record mid { file = record mid.file { caches = c.invalidate_rb.new.self } } in
    keeps_then view below out old mid last p p p (λ k h. h) first (dropped_moved view below mid c.invalidate_rb.new.self list empty rb.taken rb.step.order rb.step.marks.room rb.step.marks.pins there p out first.sound)

pub returns-in_err-invalidate_l2-clause-rest : goal.returns-in_err-invalidate_l2-clause-rest
returns-in_err-invalidate_l2-clause-rest g c =
    let old = c.args.self.now in
    let l2 = c.invalidate_l2.ensures in
    record {
      rest = ap (λ (l : List ClustersToFreeEntry). record old { file = record old.file { caches = c.invalidate_l2.new.self; free_list = l } }) c.take-forgotten.ensures.emptied;
      reftable = refl;
      leaks = refl;
      unmodified = unmodified_l2 old.file.caches c.invalidate_l2.new.self c.invalidate_l2.result l2.left l2.blocks;
    }

pub returns-in-Some-clause-rest : goal.returns-in-Some-clause-rest
returns-in-Some-clause-rest g c =
    let old = c.args.self.now in
    let l2 = c.invalidate_l2.ensures in
    let rb = c.invalidate_rb_cache.ensures in
    let a' = c.invalidate_rb_cache.new.self in
    let caches = c.invalidate_rb_cache.new.file.caches in
    record {
      rest =
          ap (λ (f : ImageFile _). record old { file = f; allocator = Some a' }) rb.rest
          ∙ ap (λ (l : List ClustersToFreeEntry). record old { file = record old.file { caches = caches; free_list = l }; allocator = Some a' }) c.take-forgotten.ensures.emptied;
      reftable = ap (λ (r : EntryTableView). Some r) rb.anew.reftable ∙ sym (ap (λ (o : Option Allocator). option_map (λ a. a.reftable) o) c.in-Some.is);
      leaks = rb.anew.leaks ∙ sym (ap (λ (o : Option Allocator). leaked_by o) c.in-Some.is);
      unmodified = λ all. unmodified_rb c.invalidate_l2.new.self caches c.invalidate_rb_cache.result rb.left rb.tables (unmodified_l2 old.file.caches c.invalidate_l2.new.self c.invalidate_l2.result l2.left l2.blocks all);
    }

pub returns-clause-rest : goal.returns-clause-rest
returns-clause-rest g c =
    let old = c.args.self.now in
    let l2 = c.invalidate_l2.ensures in
    let rb = c.invalidate_rb.ensures in
    record {
      rest = ap (λ (l : List ClustersToFreeEntry). record old { file = record old.file { caches = c.invalidate_rb.new.self; free_list = l } }) c.take-forgotten.ensures.emptied;
      reftable = refl;
      leaks = refl;
      unmodified = λ all. unmodified_rb c.invalidate_l2.new.self c.invalidate_rb.new.self c.invalidate_rb.result rb.left (listed_same c.invalidate_l2.new.self c.invalidate_rb.new.self rb.tables) (unmodified_l2 old.file.caches c.invalidate_l2.new.self c.invalidate_l2.result l2.left l2.blocks all);
    }

pub returns-in_err-invalidate_l2-clause-fails : goal.returns-in_err-invalidate_l2-clause-fails
returns-in_err-invalidate_l2-clause-fails g c =
    let old = c.args.self.now in
    let e = c.in_err-invalidate_l2.field-0.0 in
    record {
      faults = search rules;
      cause = handed_on (λ (r : Result _ ImageError). IfErr r IsOfPrepared) c.from_residual.result e c.from_residual.ensures
          (left_prepared old.file.caches.l2.entries c.invalidate_l2.new.self.l2.entries (Err e) (subst (λ (r : Result _ ImageError). LeavesPinned old.file.caches.l2.entries r c.invalidate_l2.new.self.l2.entries) c.in_err-invalidate_l2.was c.invalidate_l2.ensures.left));
    }

pub returns-in-Some-clause-fails : goal.returns-in-Some-clause-fails
returns-in-Some-clause-fails g c = record {
  faults = search rules;
  cause = left_prepared c.invalidate_l2.new.self.rb.entries c.invalidate_rb_cache.new.file.caches.rb.entries c.invalidate_rb_cache.result c.invalidate_rb_cache.ensures.left;
}

pub returns-clause-fails : goal.returns-clause-fails
returns-clause-fails g c = record {
  faults = search rules;
  cause = left_prepared c.invalidate_l2.new.self.rb.entries c.invalidate_rb.new.self.rb.entries c.invalidate_rb.result c.invalidate_rb.ensures.left;
}

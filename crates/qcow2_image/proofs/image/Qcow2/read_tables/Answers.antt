use Rattle.std.proofs.Common.{◌≡◌, ◌∙◌, Some, refl, sym, ap, subst, Option, is_some}
use Rattle.qcow2_image.proofs.Common.{IfSome, LeaveHeaderCluster, contents_in, view_in, AllocatorInvariant, HasReftable, IsAllocatorOf, NoFreeBelowHint, spared_kept, Pending, IsL1TableOf, Allocator, ImageFile, NamesReftableBehind, StandsBehindHeader, TablesBehindHeader, leaked_by, HasL1Table, ReadsTables, InternalStep, ContentsStayThroughout, Qcow2}
use Rattle.qcow2_image.proofs.Lemmas.{kept_throughout, begins_of, both_behind, l1_behind, l1_still, notes_through, silent_moved, silent_then, tables_read}
use Rattle.qcow2_image.proofs.Invalidate.Dropped.{with_tables}
use Rattle.qcow2_image.proofs.image.Qcow2.read_tables.Goals as goal

pub returns-in_err-table-clause-keeps : goal.returns-in_err-table-clause-keeps
returns-in_err-table-clause-keeps g c = λ p out sound.
    let view = g.S.Storage.view in
    let below = g.F.BackingDisk.backing in
    let old = c.args.self.now in
    let l1 = c.load_l1_table.ensures in
    let mid = c.load_l1_table.new.file in
    let honest = sound.file.honest in
    let silent = kept_throughout (view_in view old.file) (view_in view mid) l1.time l1.same honest in
    subst (λ (f : ImageFile _). InternalStep view below p p old (record old { file = f }) out) (sym l1.rest) (silent_moved view below old out p sound mid.storage silent)

pub returns-in_default-clause-step : goal.returns-in_default-clause-step
returns-in_default-clause-step g c =
    let view = g.S.Storage.view in
    let old = c.args.self.now in
    let l1 = c.load_l1_table.ensures in
    let mid = c.load_l1_table.new.file in
    let table = c.in_ok-table.table in
    subst (λ (f : ImageFile _). ReadsTables view old (record old { file = f; l1_table = table })) (sym l1.rest)
    (tables_read view old mid.storage table old.allocator l1.unrecorded (λ honest. kept_throughout (view_in view old.file) (view_in view mid) l1.time l1.same honest) l1.honest refl refl
    (λ names bits lies. l1_behind lies (c.in_ok-table.ensures.header_cluster names)))

pub returns-in_default-clause-keeps : goal.returns-in_default-clause-keeps
returns-in_default-clause-keeps g c = λ p out sound.
    let view = g.S.Storage.view in
    let below = g.F.BackingDisk.backing in
    let old = c.args.self.now in
    let l1 = c.load_l1_table.ensures in
    let mid = c.load_l1_table.new.file in
    let honest = sound.file.honest in
    let table = c.in_ok-table.table in
    let read = silent_moved view below old out p sound mid.storage (kept_throughout (view_in view old.file) (view_in view mid) l1.time l1.same honest) in
    let now : Qcow2 _ _ = record old { file = record old.file { storage = mid.storage } } in
    let has = subst (λ (f : ImageFile _). HasL1Table view below f table) l1.rest (c.in_ok-table.ensures.table honest) in
    subst (λ (f : ImageFile _). InternalStep view below p p old (record old { file = f; l1_table = table }) out) (sym l1.rest) (with_tables view below p old now out read table old.allocator has read.sound.reftable refl)

pub returns-in_err-load_anew-clause-step : goal.returns-in_err-load_anew-clause-step
returns-in_err-load_anew-clause-step g c =
    let view = g.S.Storage.view in
    let old = c.args.self.now in
    let l1 = c.load_l1_table.ensures in
    let mid = c.load_l1_table.new.file in
    let anew = c.load_anew.ensures in
    let last = c.load_anew.new.file in
    let a = c.in-Some.allocator in
    let a' = c.load_anew.new.self in
    let is : last ≡ record old.file { storage = last.storage } = anew.step.rest ∙ ap (λ (f : ImageFile _). record f { storage = last.storage }) l1.rest in
    let through : (view_in view old.file).is_honest → ContentsStayThroughout (view_in view old.file) (view_in view last) = λ honest. silent_then (view_in view old.file) (view_in view mid) (view_in view last) honest (kept_throughout (view_in view old.file) (view_in view mid) l1.time l1.same honest) (λ there. kept_throughout (view_in view mid) (view_in view last) anew.step.time anew.step.same there) in
    let same : a' ≡ a = c.in_err-load_anew.ensures.refused in
    subst (λ (f : ImageFile _). ReadsTables view old (record old { file = f; allocator = Some a' })) (sym is)
    (tables_read view old last.storage old.l1_table (Some a') (notes_through view old.file.storage mid.storage last.storage l1.unrecorded anew.unrecorded) through (λ honest. anew.step.honest (l1.honest honest)) (sym (ap (λ (x : Option Allocator). is_some x) c.in-Some.is))
    (anew.leaks ∙ sym (ap leaked_by c.in-Some.is))
    (λ names bits lies. subst (λ (x : Option Allocator). TablesBehindHeader bits old.file.header.fields.cluster_bits old.l1_table old.file.caches x) (c.in-Some.is ∙ ap (λ (x : Allocator). Some x) (sym same)) lies))

pub returns-in_err-load_anew-clause-keeps : goal.returns-in_err-load_anew-clause-keeps
returns-in_err-load_anew-clause-keeps g c = λ p out sound.
    let view = g.S.Storage.view in
    let below = g.F.BackingDisk.backing in
    let old = c.args.self.now in
    let l1 = c.load_l1_table.ensures in
    let mid = c.load_l1_table.new.file in
    let anew = c.load_anew.ensures in
    let last = c.load_anew.new.file in
    let a = c.in-Some.allocator in
    let a' = c.load_anew.new.self in
    let is : last ≡ record old.file { storage = last.storage } = anew.step.rest ∙ ap (λ (f : ImageFile _). record f { storage = last.storage }) l1.rest in
    let through : (view_in view old.file).is_honest → ContentsStayThroughout (view_in view old.file) (view_in view last) = λ honest. silent_then (view_in view old.file) (view_in view mid) (view_in view last) honest (kept_throughout (view_in view old.file) (view_in view mid) l1.time l1.same honest) (λ there. kept_throughout (view_in view mid) (view_in view last) anew.step.time anew.step.same there) in
    let honest = sound.file.honest in
    let same : a' ≡ a = c.in_err-load_anew.ensures.refused in
    let read = silent_moved view below old out p sound last.storage (through honest) in
    let now : Qcow2 _ _ = record old { file = record old.file { storage = last.storage } } in
    let own = subst (λ (x : Option Allocator). IfSome x (IsAllocatorOf view now.file)) (c.in-Some.is ∙ ap (λ (x : Allocator). Some x) (sym same)) read.sound.reftable in
    subst (λ (f : ImageFile _). InternalStep view below p p old (record old { file = f; allocator = Some a' }) out) (sym is)
    (with_tables view below p old now out read old.l1_table (Some a') read.sound.l1_table own (anew.leaks ∙ sym (ap leaked_by c.in-Some.is)))

pub returns-clause-step : goal.returns-clause-step
returns-clause-step g c =
    let view = g.S.Storage.view in
    let old = c.args.self.now in
    let l1 = c.load_l1_table.ensures in
    let mid = c.load_l1_table.new.file in
    let anew = c.load_anew.ensures in
    let last = c.load_anew.new.file in
    let spared = c.spare_named.ensures in
    let a' : Allocator = record c.load_anew.new.self { named = c.spare_named.new.self.named } in
    let is : last ≡ record old.file { storage = last.storage } = anew.step.rest ∙ ap (λ (f : ImageFile _). record f { storage = last.storage }) l1.rest in
    let through : (view_in view old.file).is_honest → ContentsStayThroughout (view_in view old.file) (view_in view last) = λ honest. silent_then (view_in view old.file) (view_in view mid) (view_in view last) honest (kept_throughout (view_in view old.file) (view_in view mid) l1.time l1.same honest) (λ there. kept_throughout (view_in view mid) (view_in view last) anew.step.time anew.step.same there) in
    let table = c.in_ok-table.table in
    let begins = c.in_ok-load_anew.ensures.begins in
    subst (λ (x : Allocator). ReadsTables view old (record old { file = last; l1_table = table; allocator = Some x })) (sym spared.rest)
    (subst (λ (f : ImageFile _). ReadsTables view old (record old { file = f; l1_table = table; allocator = Some a' })) (sym is)
    (tables_read view old last.storage table (Some a') (notes_through view old.file.storage mid.storage last.storage l1.unrecorded anew.unrecorded) through (λ honest. anew.step.honest (l1.honest honest)) (sym (ap (λ (x : Option Allocator). is_some x) c.in-Some.is))
    (anew.leaks ∙ sym (ap leaked_by c.in-Some.is))
    (λ names bits lies.
    let are : LeaveHeaderCluster old.file.header.fields.cluster_bits old.file.caches = subst (λ n. LeaveHeaderCluster n old.file.caches) (sym lies.header) lies.caches in
    let stands = subst (λ (f : ImageFile _). NamesReftableBehind f.header.fields → LeaveHeaderCluster f.header.fields.cluster_bits f.caches → StandsBehindHeader f.header.fields.cluster_bits a'.reftable last) l1.rest begins.header_cluster names.reftable are in
    both_behind lies (c.in_ok-table.ensures.header_cluster names) stands)))

pub returns-clause-keeps : goal.returns-clause-keeps
returns-clause-keeps g c = λ p out sound.
    let view = g.S.Storage.view in
    let below = g.F.BackingDisk.backing in
    let old = c.args.self.now in
    let l1 = c.load_l1_table.ensures in
    let mid = c.load_l1_table.new.file in
    let anew = c.load_anew.ensures in
    let last = c.load_anew.new.file in
    let a = c.load_anew.new.self in
    let spared = c.spare_named.ensures in
    let a' : Allocator = record a { named = c.spare_named.new.self.named } in
    let is : last ≡ record old.file { storage = last.storage } = anew.step.rest ∙ ap (λ (f : ImageFile _). record f { storage = last.storage }) l1.rest in
    let through : (view_in view old.file).is_honest → ContentsStayThroughout (view_in view old.file) (view_in view last) = λ honest. silent_then (view_in view old.file) (view_in view mid) (view_in view last) honest (kept_throughout (view_in view old.file) (view_in view mid) l1.time l1.same honest) (λ there. kept_throughout (view_in view mid) (view_in view last) anew.step.time anew.step.same there) in
    let honest = sound.file.honest in
    let table = c.in_ok-table.table in
    let begins = c.in_ok-load_anew.ensures.begins in
    let read = silent_moved view below old out p sound last.storage (through honest) in
    let now : Qcow2 _ _ = record old { file = record old.file { storage = last.storage } } in
    let has : HasL1Table view below (record old.file { storage = mid.storage }) table = subst (λ (f : ImageFile _). HasL1Table view below f table) l1.rest (c.in_ok-table.ensures.table honest) in
    let has_now = l1_still view below (record old.file { storage = mid.storage }) last.storage (anew.step.same (l1.honest honest)) table has in
    let own = begins_of view now.file a begins.passed (subst (λ (f : ImageFile _). HasReftable view f a.reftable) is (begins.reftable (l1.honest honest))) in
    let hint = subst (λ (f : ImageFile _). (p : Pending) → AllocatorInvariant view a p f → IsL1TableOf f.header.fields (contents_in view f) table → NoFreeBelowHint view a f → NoFreeBelowHint view c.spare_named.new.self f) is spared.sound p (record { sound = read.sound.file; reftable = own.reftable }) has_now.entries in
    let kept = spared_kept view now.file a c.spare_named.new.self spared.rest hint own in
    let leaks : leaked_by (Some c.spare_named.new.self) ≡ leaked_by old.allocator = ap (λ (x : Allocator). x.leaked_clusters) spared.rest ∙ anew.leaks ∙ sym (ap leaked_by c.in-Some.is) in
    subst (λ (f : ImageFile _). InternalStep view below p p old (record old { file = f; l1_table = table; allocator = Some c.spare_named.new.self }) out) (sym is) (with_tables view below p old now out read table (Some c.spare_named.new.self) has_now kept leaks)

pub returns-clause-read : goal.returns-clause-read
returns-clause-read g c = λ honest.
    let view = g.S.Storage.view in
    let below = g.F.BackingDisk.backing in
    let l1 = c.load_l1_table.ensures in
    let anew = c.load_anew.ensures in
    let last = c.load_anew.new.file in
    let is : last ≡ record c.load_l1_table.new.file { storage = last.storage } = anew.step.rest in
    let has = l1_still view below c.load_l1_table.new.file last.storage (anew.step.same (l1.honest honest)) c.in_ok-table.table (c.in_ok-table.ensures.table honest) in (
      subst (λ (f : ImageFile _). HasL1Table view below f c.in_ok-table.table) (sym is) has,
      subst (λ (x : Allocator). HasReftable view last x.reftable) (sym c.spare_named.ensures.rest) (c.in_ok-load_anew.ensures.begins.reftable (l1.honest honest)),
    )

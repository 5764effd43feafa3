use Rattle.qcow2_image.proofs.Common.{subst, rules, IfSome, with_listed, IsAllocatorOf, notes_of_both}
use Rattle.qcow2_image.proofs.Lemmas.{freeing_step_kept, frees_listed, frees_fault, leaked_still, keeps_none, behind_freed, step_none}
use Rattle.qcow2_image.proofs.Call.KeptOffsets.{offsets_none, freed_offsets}
use Rattle.qcow2_image.proofs.image.Qcow2.process_free_list.Goals as goal

pub returns-then-is_empty-clause-frees : goal.returns-then-is_empty-clause-frees
returns-then-is_empty-clause-frees g c = λ p out sound.
    let view = g.S.Storage.view in
    let below = g.F.BackingDisk.backing in
    let old = c.args.self.now in
    freeing_step_kept view below old old out (with_listed p old.file.free_list) (with_listed p old.file.free_list) (keeps_none view below out (with_listed p old.file.free_list) old sound)

pub returns-clause-frees : goal.returns-clause-frees
returns-clause-frees g c = λ p out sound.
    let view = g.S.Storage.view in
    let own = subst (λ x. IfSome x (IsAllocatorOf view c.args.self.now.file)) c.in-Some.is sound.reftable in
    frees_listed view g.F.BackingDisk.backing out p c.args.self.now sound c.free.new.file c.free.new.self c.free.ensures.step.marks.pins.pins c.free.ensures.step.header
    (leaked_still c.args.self.now c.in-Some.allocator c.free.new.self c.in-Some.is ((c.free.ensures.sound p (record { sound = sound.file; reftable = own.reftable })).leaks)) c.free.result
    ((c.free.ensures.sound p (record { sound = sound.file; reftable = own.reftable })).gives)
    (((c.free.ensures.sound p (record { sound = sound.file; reftable = own.reftable })).hint own.hint))

pub returns-clause-faults : goal.returns-clause-faults
returns-clause-faults g c = λ p out sound.
    let view = g.S.Storage.view in
    let own = subst (λ x. IfSome x (IsAllocatorOf view c.args.self.now.file)) c.in-Some.is sound.reftable in
    frees_fault view g.F.BackingDisk.backing out (with_listed p c.args.self.now.file.free_list) (with_listed p c.free.new.file.free_list) c.args.self.now.file c.free.new.file c.free.new.self c.free.result
    ((c.free.ensures.sound p (record { sound = sound.file; reftable = own.reftable })).gives)

pub returns-then-is_empty-clause-step : goal.returns-then-is_empty-clause-step
returns-then-is_empty-clause-step g c = step_none

pub returns-in_default-clause-step : goal.returns-in_default-clause-step
returns-in_default-clause-step g c = step_none

pub returns-clause-step : goal.returns-clause-step
returns-clause-step g c = record { stays = search rules; notes = (notes_of_both c.free.ensures.step.marks.pins c.free.ensures.step.marks.notes); header_cluster = behind_freed c.in-Some.is c.free.ensures.step.header_cluster }

pub returns-then-is_empty-clause-offsets : goal.returns-then-is_empty-clause-offsets
returns-then-is_empty-clause-offsets g c = offsets_none c.args.self.now

pub returns-in_default-clause-offsets : goal.returns-in_default-clause-offsets
returns-in_default-clause-offsets g c = offsets_none c.args.self.now

pub returns-clause-offsets : goal.returns-clause-offsets
returns-clause-offsets g c = freed_offsets g.S.Storage.view c.args.self.now c.in-Some.allocator c.free.new.self c.free.new.file c.free.result c.in-Some.is c.free.ensures.step.header c.free.ensures.step.reftable c.free.ensures.each

use Rattle.qcow2_image.proofs.Lemmas.{limits_left, left_taken_at, cause_within, lists_grow, leaked_still, takes_data_at, behind_allocated, limit_alone, met_as}
use Rattle.std.proofs.Common.{◌/◌, ◌<◌, ◌^◌, ap, sym, subst, refl, rules, inr, Some}
use Rattle.qcow2_image.proofs.Common.{InternalFillingStep, pending_with_listed, counts_per_block, HeaderView, IfSome, IsAllocatorOf, notes_of_both, CantCount, IsFaultOr, IsUsed, IsFaultOrLimit}
use Rattle.qcow2_alloc.proofs.MadeClusters.{none_used}
use Rattle.qcow2_image.proofs.image.Qcow2.allocate_data_cluster_at.Goals as goal

pub returns-clause-step : goal.returns-clause-step
returns-clause-step g c = record { stays = search rules; notes = (notes_of_both c.allocate_data_at.ensures.step.marks.pins c.allocate_data_at.ensures.step.marks.notes); header_cluster = behind_allocated c.in-Some.is c.allocate_data_at.ensures.step.header_cluster; header = c.allocate_data_at.ensures.step.header; cached = c.allocate_data_at.ensures.step.marks.tables }

pub returns-clause-sound : goal.returns-clause-sound
returns-clause-sound g c = λ p out sound holds.
    let old = c.args.self.now in
    let below = g.F.BackingDisk.backing in
    let view = g.S.Storage.view in
    let own = subst (λ x. IfSome x (IsAllocatorOf view old.file)) c.in-Some.is sound.reftable in
    let did = c.allocate_data_at.ensures.sound p (record { sound = sound.file; reftable = own.reftable }) in
    let takes = takes_data_at view below out old p sound holds c.allocate_data_at.new.file c.allocate_data_at.new.self c.allocate_data_at.ensures.step.marks.pins c.allocate_data_at.ensures.step.list c.allocate_data_at.ensures.step.header
    (leaked_still old c.in-Some.allocator c.allocate_data_at.new.self c.in-Some.is (did.leaks)) c.args.cluster c.allocate_data_at.result
    (did.takes) (none_used view c.allocate_data_at.new.file old.file.header.fields c.args.cluster _ c.allocate_data_at.result (did.none own.hint)) ((did.hint own.hint)) in
    record {
      takes = takes;
      fault = let file = c.allocate_data_at.new.file in
          let none = CantCount (IsUsed view file) file.header.fields (λ k. 0) c.allocate_data_at.new.self c.args.cluster in
          met_as (IsFaultOr none) IsFaultOrLimit c.allocate_data_at.result (limit_alone none) ((did.limit own.hint));
      limit = let new = record old { file = c.allocate_data_at.new.file; allocator = Some c.allocate_data_at.new.self } in
          let h = ap (λ (v : HeaderView). counts_per_block v.fields) c.allocate_data_at.ensures.step.header in
          limits_left view (λ mid. InternalFillingStep view below p (pending_with_listed p old mid) old mid out) old new c.allocate_data_at.result
          (left_taken_at view below out p old new c.args.cluster c.allocate_data_at.result takes) (record { image = search rules; header_cluster = behind_allocated c.in-Some.is c.allocate_data_at.ensures.step.header_cluster })
          (λ cant. record { allocator = c.allocate_data_at.new.self; is = refl; lacks = inr (c.args.cluster, subst (λ n. c.args.cluster / n < 2 ^ 20) (sym h) cant.1, cant.0) })
          (cause_within _ _ c.allocate_data_at.result (did.limit own.hint) did.within);
    }

pub returns-clause-list : goal.returns-clause-list
returns-clause-list g c = lists_grow c.args.self.now (record c.args.self.now { file = c.allocate_data_at.new.file; allocator = Some c.allocate_data_at.new.self }) c.allocate_data_at.ensures.step.list

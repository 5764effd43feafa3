use Rattle.qcow2_image.proofs.Lemmas.{limits_left, left_taken, lists_grow, leaked_still, takes_data, behind_allocated, limit_alone, met_as}
use Rattle.std.proofs.Common.{◌≡◌, subst, refl, rules, arith, inl, Some, IfErr}
use Rattle.qcow2_image.proofs.Common.{InternalFillingStep, pending_with_listed, IfSome, Allocates, pending_then, IsAllocatorOf, notes_of_both, IsUsed, HasNoPlace, IsFaultOr, IsFaultOrLimit}
use Rattle.qcow2_alloc.specs.declared.clusters_to_free.ClusterKind.TheVariants as Kind
use Rattle.qcow2_image.proofs.image.Qcow2.allocate_data_cluster.Goals as goal

pub returns-clause-step : goal.returns-clause-step
returns-clause-step g c = record { stays = search rules; notes = (notes_of_both c.allocate_data.ensures.step.marks.pins c.allocate_data.ensures.step.marks.notes); header_cluster = behind_allocated c.in-Some.is c.allocate_data.ensures.step.header_cluster; header = c.allocate_data.ensures.step.header; cached = c.allocate_data.ensures.step.marks.tables }

pub returns-clause-sound : goal.returns-clause-sound
returns-clause-sound g c = λ p out sound holds.
    let old = c.args.self.now in
    let below = g.F.BackingDisk.backing in
    let view = g.S.Storage.view in
    let one : c.new.result ≡ 1 = c.new.ensures in
    let own = subst (λ x. IfSome x (IsAllocatorOf view old.file)) c.in-Some.is sound.reftable in
    let did = c.allocate_data.ensures.sound p (record { sound = sound.file; reftable = own.reftable }) in
    let file = c.allocate_data.new.file in
    let takes = takes_data view below out old p sound holds c.allocate_data.new.file c.allocate_data.new.self c.allocate_data.ensures.step.marks.pins c.allocate_data.ensures.step.list c.allocate_data.ensures.step.header
    (leaked_still old c.in-Some.allocator c.allocate_data.new.self c.in-Some.is (did.leaks)) c.allocate_data.result
    (subst (λ n. Allocates view p old.file c.allocate_data.new.self c.allocate_data.new.file (pending_then p old.file.free_list c.allocate_data.new.file.free_list) Kind.Data n c.allocate_data.result) one did.found.takes)
    ((did.found.hint own.hint)) in
    record {
      takes = takes;
      fault = let none = HasNoPlace (IsUsed view file) file.header.fields c.allocate_data.new.self c.new.result in
          met_as (IsFaultOr none) IsFaultOrLimit c.allocate_data.result (λ e why. limit_alone none e why)
          ((did.found.limit own.hint) (omega (arith, one)));
      limit = let new = record old { file = file; allocator = Some c.allocate_data.new.self } in
          limits_left view (λ mid. InternalFillingStep view below p (pending_with_listed p old mid) old mid out) old new c.allocate_data.result
          (left_taken view below out p old new c.allocate_data.result takes) (record { image = search rules; header_cluster = behind_allocated c.in-Some.is c.allocate_data.ensures.step.header_cluster })
          (λ full. record { allocator = c.allocate_data.new.self; is = refl; lacks = inl (1, inl refl, full) })
          (subst (λ n. IfErr c.allocate_data.result (IsFaultOr (HasNoPlace (IsUsed view file) file.header.fields c.allocate_data.new.self n))) one
          ((did.found.limit own.hint) (omega (arith, one))));
    }

pub returns-clause-list : goal.returns-clause-list
returns-clause-list g c = lists_grow c.args.self.now (record c.args.self.now { file = c.allocate_data.new.file; allocator = Some c.allocate_data.new.self }) c.allocate_data.ensures.step.list

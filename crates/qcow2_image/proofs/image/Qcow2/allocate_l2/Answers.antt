use Rattle.qcow2_image.proofs.Lemmas.{looking_unlimited, leaked_still, none_taken, table_entered, table_refused, keeps_taken, says_still, behind_allocated, behind_then, hands_limit, other_limit, goes_step, limited_left, counted_as, counted_still, same_told, untouched, hands_met, looking_taking}
use Rattle.std.proofs.Common.{◌<◌, refl, sym, ◌∙◌, subst, inl, inr, ap, arith, rules, Err, Some, false}
use Rattle.qcow2_image.proofs.Common.{told_of, IfSome, run_at, taken_as, InternalAllocatorGrowth, pending_then, IsAllocatorOf, handed_on, EntersTable, notes_then, notes_of_marks, HeaderView, IsHostCluster, HasNoPlace, IsFaultOr, IsUsed, one_at, with_new_tables, HasPinnedMapping, MayFailAllocating}
use Rattle.qcow2_image.proofs.image.Qcow2.allocate_l2.Goals as goal

pub returns-in-Ok-clause-sound : goal.returns-in-Ok-clause-sound
returns-in-Ok-clause-sound g c = λ p out sound may says.
    let view = g.S.Storage.view in
    let below = g.F.BackingDisk.backing in
    let old = c.args.self.now in
    let file = c.allocate_meta.new.file in
    let a = c.allocate_meta.new.self in
    let taken = record old { file = file; allocator = Some a } in
    let own = subst (λ o. IfSome o (IsAllocatorOf view old.file)) c.in-Some.is sound.reftable in
    let allocated = c.allocate_meta.ensures.sound p (record { sound = sound.file; reftable = own.reftable }) in
    let leaks = leaked_still old c.in-Some.allocator a c.in-Some.is allocated.leaks in
    let marks = c.allocate_meta.ensures.step.marks.pins in
    let list = c.allocate_meta.ensures.step.list in
    let found = (c.in_ok-pending.ensures.sound p (record { sound = sound.file; reftable = own.reftable })).found in
    let took = found.takes in
    let hint = found.hint own.hint in
    let since = pending_then p old.file.free_list file.free_list in
    let allocator_step = subst (λ n. InternalAllocatorGrowth view p old.file a file (taken_as false since (run_at n c.new.result))) (sym c.cluster-cluster.ensures) took.2 in
    record {
      may_fail = search rules;
      limit = search rules;
      does = table_entered view below out p old sound file a marks list leaks c.cluster-cluster.result c.new.result c.new.ensures allocator_step hint c.write_l2.new.self c.args.index c.args.table may says c.write_l2.ensures.list c.write_l2.result
          (λ sound may says. c.write_l2.ensures.writes since out sound may c.in_ok-pending.ensures.recorded says) c.in-Ok.field-0 c.in-Ok.is;
    }

pub returns-in-Err-clause-sound : goal.returns-in-Err-clause-sound
returns-in-Err-clause-sound g c = λ p out sound may says.
    let view = g.S.Storage.view in
    let below = g.F.BackingDisk.backing in
    let old = c.args.self.now in
    let file = c.allocate_meta.new.file in
    let a = c.allocate_meta.new.self in
    let taken = record old { file = file; allocator = Some a } in
    let own = subst (λ o. IfSome o (IsAllocatorOf view old.file)) c.in-Some.is sound.reftable in
    let allocated = c.allocate_meta.ensures.sound p (record { sound = sound.file; reftable = own.reftable }) in
    let leaks = leaked_still old c.in-Some.allocator a c.in-Some.is allocated.leaks in
    let marks = c.allocate_meta.ensures.step.marks.pins in
    let list = c.allocate_meta.ensures.step.list in
    let found = (c.in_ok-pending.ensures.sound p (record { sound = sound.file; reftable = own.reftable })).found in
    let took = found.takes in
    let hint = found.hint own.hint in
    let since = pending_then p old.file.free_list file.free_list in
    let allocator_step = subst (λ n. InternalAllocatorGrowth view p old.file a file (taken_as false since (run_at n c.new.result))) (sym c.cluster-cluster.ensures) took.2 in
    let keeps = keeps_taken view below out p old sound file a marks list leaks c.cluster-cluster.result c.new.result c.new.ensures allocator_step hint in
    let known = says_still view below out p (with_new_tables since (one_at c.cluster-cluster.result)) old taken c.args.index c.args.table keeps says in
    let host = subst (λ n. IsHostCluster n c.cluster-cluster.result) (sym (ap (λ (v : HeaderView). v.fields.cluster_bits) c.allocate_meta.ensures.step.header))
    (subst (λ n. IsHostCluster old.file.header.fields.cluster_bits n) (sym c.cluster-cluster.ensures) c.in_ok-pending.ensures.nameable) in
    record {
      does = table_refused view below out p old sound file a marks list leaks c.cluster-cluster.result c.new.result c.new.ensures allocator_step hint c.write_l2.new.self c.args.index c.args.table may says c.write_l2.ensures.list c.write_l2.result
          (λ sound may says. c.write_l2.ensures.writes since out sound may c.in_ok-pending.ensures.recorded says) c.in-Err.refusal c.in_ok-pending.pending c.hand_back.new.list c.in-Err.is (sym c.cluster-cluster.ensures) (took.0 ∙ c.new.ensures) took.1 c.hand_back.ensures;
      may_fail = λ near. looking_taking ⊥ ⊥ ⊥ c.in-Err.refusal (c.in-Err.ensures.may_fail since out keeps.sound known (record { within = near.within; room = near.room }) host);
      limit = λ near. other_limit _ c.in-Err.refusal (looking_unlimited c.in-Err.refusal (c.in-Err.ensures.may_fail since out keeps.sound known (record { within = near.within; room = near.room }) host));
    }

pub returns-in_err-pending-clause-step : goal.returns-in_err-pending-clause-step
returns-in_err-pending-clause-step g c = record { stays = search rules; notes = (notes_of_marks c.allocate_meta.ensures.step.marks); header_cluster = behind_allocated c.in-Some.is c.allocate_meta.ensures.step.header_cluster }

pub returns-in-Ok-clause-step : goal.returns-in-Ok-clause-step
returns-in-Ok-clause-step g c = record {
  stays = search rules;
  notes = notes_then (notes_of_marks c.allocate_meta.ensures.step.marks) c.write_l2.ensures.step.notes;
  header_cluster = behind_then (behind_allocated c.in-Some.is c.allocate_meta.ensures.step.header_cluster) (c.write_l2.ensures.step.header_cluster (subst (λ n. 0 < n) (sym c.cluster-cluster.ensures) c.in_ok-pending.ensures.elsewhere));
}

pub returns-in-Err-clause-step : goal.returns-in-Err-clause-step
returns-in-Err-clause-step g c = record {
  stays = search rules;
  notes = notes_then (notes_of_marks c.allocate_meta.ensures.step.marks) c.write_l2.ensures.step.notes;
  header_cluster = behind_then (behind_allocated c.in-Some.is c.allocate_meta.ensures.step.header_cluster) (c.write_l2.ensures.step.header_cluster (subst (λ n. 0 < n) (sym c.cluster-cluster.ensures) c.in_ok-pending.ensures.elsewhere));
}

pub returns-in-Err-clause-fails : goal.returns-in-Err-clause-fails
returns-in-Err-clause-fails g c = record {
  cause = search rules;
  faults = let view = g.S.Storage.view in
      let below = g.F.BackingDisk.backing in
      let old = c.args.self.now in
      let taken = record old { file = c.allocate_meta.new.file; allocator = Some c.allocate_meta.new.self } in
      let wrote = c.write_l2.new.self in
      let new = record wrote { file = record wrote.file { free_list = c.hand_back.new.list } } in
      let same = same_told view below old taken c.allocate_meta.result c.in_ok-pending.pending (told_of c.allocate_meta.result c.allocate_meta.ensures.fails) c.in_ok-pending.was refl refl in
      counted_still view below old wrote new (Err c.in-Err.refusal) (counted_as view below old taken wrote c.write_l2.result c.in-Err.refusal same c.write_l2.ensures.fails.faults c.in-Err.is) (untouched view below wrote new refl refl refl);
}

pub returns-in_err-pending-clause-sound : goal.returns-in_err-pending-clause-sound
returns-in_err-pending-clause-sound g c = λ p out sound may says.
    let view = g.S.Storage.view in
    let below = g.F.BackingDisk.backing in
    let old = c.args.self.now in
    let file = c.allocate_meta.new.file in
    let a = c.allocate_meta.new.self in
    let taken = record old { file = file; allocator = Some a } in
    let own = subst (λ o. IfSome o (IsAllocatorOf view old.file)) c.in-Some.is sound.reftable in
    let allocated = c.allocate_meta.ensures.sound p (record { sound = sound.file; reftable = own.reftable }) in
    let leaks = leaked_still old c.in-Some.allocator a c.in-Some.is allocated.leaks in
    let marks = c.allocate_meta.ensures.step.marks.pins in
    let list = c.allocate_meta.ensures.step.list in
    let e = c.in_err-pending.field-0.0 in
    let one = c.new.ensures in
    let found = (c.in_err-pending.ensures.sound p (record { sound = sound.file; reftable = own.reftable })).found in
    let why = subst (λ n. IsFaultOr (HasNoPlace (IsUsed view file) file.header.fields a n) e) one (found.limit own.hint (omega (arith, one))) in
    let left = none_taken view below out p old sound file a marks list leaks e found.takes (found.hint own.hint) in
    record {
      does = handed_on (EntersTable view below p old taken out c.args.index) c.from_residual.result e c.from_residual.ensures left;
      may_fail = λ near. hands_met (MayFailAllocating (HasPinnedMapping out) ⊥ ⊥ ⊥) c.from_residual.result e c.from_residual.ensures (elim why [ inl fault ↦ inl (inl (inl fault)) | inr cause ↦ inl (inl (inr cause.0)) ]);
      limit = λ near. hands_limit c.from_residual.result e c.from_residual.ensures
          (limited_left taken 0 e (elim left [ inl stays ↦ inl stays | inr broken ↦ inr broken.interrupted.fault ]) (goes_step (returns-in_err-pending-clause-step g c))
          (λ full. record { allocator = a; is = refl; lacks = inl (1, inl refl, full) }) why);
    }

pub returns-in-Ok-clause-own : goal.returns-in-Ok-clause-own
returns-in-Ok-clause-own g c = c.in-Ok.ensures.own (subst (λ n. 0 < n) (sym c.cluster-cluster.ensures) c.in_ok-pending.ensures.elsewhere)

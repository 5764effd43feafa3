use Rattle.qcow2_alloc.specs.declared.error.ImageError.TheVariants as I
use Rattle.qcow2_image.proofs.Lemmas.{step_none, step_then, finds, finds_after, left_refused, stays_kept, stays_then, all_listed, beside, freed_refused, tidy_stays, left_alone, own_after, counted_on, counted_since, faults_then, same_of, hands_limit, near_reached, other_limit, goes_step, limited_more, limited_since, limited_unseen, limited_upto, limits_as, fault_unlimited, hands_met, met_as, taking_as, finds_freed, finds_owns}
use Rattle.qcow2_image.proofs.Common.{ListsNoMore, Err, ◌∙◌, refl, ap, sym, subst, inl, inr, rules, arith, HeaderView, Pending, handed_on, FindsTable, ImageInvariant, pending_in, IfErr, IsTrue, OnOk, always_ok, l1_index_of, NamesOwn, pending_with_listed, IsFaultOrLacksTable, not_both, HeaderFields, NeedsOverflowingL1Entry, HasNearEntry, HasPinnedMapping, MayFailAllocating}
use Rattle.qcow2_image.proofs.image.Qcow2.writable_l2_table.Goals as goal

pub returns-then-l1_entry_overflows-clause-step : goal.returns-then-l1_entry_overflows-clause-step
returns-then-l1_entry_overflows-clause-step g c = step_none

pub returns-in_err-writable_l2_cluster-clause-step : goal.returns-in_err-writable_l2_cluster-clause-step
returns-in_err-writable_l2_cluster-clause-step g c = step_then c.ensure_l1_entry.ensures.step c.writable_l2_cluster.ensures.step

pub returns-in_err-writable_l2_cluster-clause-fails : goal.returns-in_err-writable_l2_cluster-clause-fails
returns-in_err-writable_l2_cluster-clause-fails g c = record {
  cause = search rules;
  faults = let view = g.S.Storage.view in
      let below = g.F.BackingDisk.backing in
      let old = c.args.self.now in
      let reached = same_of view below old c.ensure_l1_entry.new.self c.ensure_l1_entry.result c.in_ok-ensure_l1_entry.field-0 c.ensure_l1_entry.ensures.fails.faults c.in_ok-ensure_l1_entry.was in
      counted_on view below old c.ensure_l1_entry.new.self c.writable_l2_cluster.new.self c.writable_l2_cluster.result c.in_err-writable_l2_cluster.field-0.0 c.from_residual-in_err-writable_l2_cluster.result reached c.writable_l2_cluster.ensures.fails.faults c.in_err-writable_l2_cluster.was c.from_residual-in_err-writable_l2_cluster.ensures;
}

pub returns-in_err-process_free_list-clause-step : goal.returns-in_err-process_free_list-clause-step
returns-in_err-process_free_list-clause-step g c = step_then (step_then c.ensure_l1_entry.ensures.step c.writable_l2_cluster.ensures.step) c.process_free_list.ensures.step

pub returns-in_err-process_free_list-clause-fails : goal.returns-in_err-process_free_list-clause-fails
returns-in_err-process_free_list-clause-fails g c = record {
  cause = search rules;
  faults = let view = g.S.Storage.view in
      let below = g.F.BackingDisk.backing in
      let old = c.args.self.now in
      let reached = same_of view below old c.ensure_l1_entry.new.self c.ensure_l1_entry.result c.in_ok-ensure_l1_entry.field-0 c.ensure_l1_entry.ensures.fails.faults c.in_ok-ensure_l1_entry.was in
      let owned = same_of view below c.ensure_l1_entry.new.self c.writable_l2_cluster.new.self c.writable_l2_cluster.result c.in_ok-writable_l2_cluster.field-0 c.writable_l2_cluster.ensures.fails.faults c.in_ok-writable_l2_cluster.was in
      counted_on view below old c.writable_l2_cluster.new.self c.process_free_list.new.self c.process_free_list.result c.in_err-process_free_list.field-0.0 c.from_residual-in_err-process_free_list.result (faults_then view below old c.ensure_l1_entry.new.self c.writable_l2_cluster.new.self reached owned) c.process_free_list.ensures.counts c.in_err-process_free_list.was
      c.from_residual-in_err-process_free_list.ensures;
}

pub returns-clause-step : goal.returns-clause-step
returns-clause-step g c = step_then (step_then (step_then c.ensure_l1_entry.ensures.step c.writable_l2_cluster.ensures.step) c.process_free_list.ensures.step) c.ensure_cached_l2-2.ensures.step

pub returns-clause-fails : goal.returns-clause-fails
returns-clause-fails g c = record {
  cause = search rules;
  faults = let view = g.S.Storage.view in
      let below = g.F.BackingDisk.backing in
      let old = c.args.self.now in
      let reached = same_of view below old c.ensure_l1_entry.new.self c.ensure_l1_entry.result c.in_ok-ensure_l1_entry.field-0 c.ensure_l1_entry.ensures.fails.faults c.in_ok-ensure_l1_entry.was in
      let owned = same_of view below c.ensure_l1_entry.new.self c.writable_l2_cluster.new.self c.writable_l2_cluster.result c.in_ok-writable_l2_cluster.field-0 c.writable_l2_cluster.ensures.fails.faults c.in_ok-writable_l2_cluster.was in
      let freed = same_of view below c.writable_l2_cluster.new.self c.process_free_list.new.self c.process_free_list.result c.in_ok-process_free_list.field-0 c.process_free_list.ensures.counts c.in_ok-process_free_list.was in
      counted_since view below old c.ensure_l1_entry.new.self c.ensure_cached_l2-2.new.self c.ensure_cached_l2-2.result reached
      (counted_since view below c.ensure_l1_entry.new.self c.writable_l2_cluster.new.self c.ensure_cached_l2-2.new.self c.ensure_cached_l2-2.result owned
      (counted_since view below c.writable_l2_cluster.new.self c.process_free_list.new.self c.ensure_cached_l2-2.new.self c.ensure_cached_l2-2.result freed c.ensure_cached_l2-2.ensures.fails.faults));
}

pub returns-then-has_own_l2-clause-sound : goal.returns-then-has_own_l2-clause-sound
returns-then-has_own_l2-clause-sound g c = λ out sound.
    let view = g.S.Storage.view in
    let below = g.F.BackingDisk.backing in
    record {
      finds = finds view below out c.args.self.now c.ensure_cached_l2.new.self sound c.ensure_cached_l2.ensures.keeps_rest c.args.offset c.ensure_cached_l2.result ((c.ensure_cached_l2.ensures.sound (pending_in view below c.args.self.now out) out sound).ready);
      may_fail = met_as (MayFailAllocating (HasPinnedMapping out) ⊥ ⊥ ⊥) (MayFailAllocating (HasPinnedMapping out) ⊥ ⊥ (NeedsOverflowingL1Entry c.args.self.now c.args.offset)) c.ensure_cached_l2.result (taking_as (λ held. held) (λ no. no) (λ no. no) (λ no. absurd no))
          ((c.ensure_cached_l2.ensures.sound (pending_in g.S.Storage.view g.F.BackingDisk.backing c.args.self.now out) out sound).may_fail (inl (c.has_own_l2.ensures.0 c.if-has_own_l2.true)));
      limit = limits_as c.ensure_cached_l2.result (λ may_fail. limited_upto (omega arith) (limited_more (limited_unseen sound may_fail))) ((c.ensure_cached_l2.ensures.sound (pending_in view below c.args.self.now out) out sound).limit (inl (c.has_own_l2.ensures.0 c.if-has_own_l2.true)));
      lacks = λ none. (c.ensure_cached_l2.ensures.sound (pending_in g.S.Storage.view g.F.BackingDisk.backing c.args.self.now out) out sound).lacks none;
      freeing = always_ok c.ensure_cached_l2.result (inl (c.ensure_cached_l2.ensures.quiet (c.has_own_l2.ensures.0 c.if-has_own_l2.true)).list);
    }

pub returns-then-l1_entry_overflows-clause-sound : goal.returns-then-l1_entry_overflows-clause-sound
returns-then-l1_entry_overflows-clause-sound g c = λ out sound.
    let view = g.S.Storage.view in
    let old = c.args.self.now in
    let below = g.F.BackingDisk.backing in
    record {
      may_fail = search rules;
      limit = search rules;
      freeing = search rules;
      finds = left_refused view below out old old I.Overflow sound (record { header = refl; backing = refl }) (left_alone view below out (pending_in view below old out) old sound 0 I.Overflow);
      lacks = λ none. inr (λ own. absurd (let has = c.has_own_l2.ensures.1 (subst NamesOwn (sym (sound.l1_table.entries (l1_index_of old.file.header.fields c.args.offset))) own) in let is = sym c.if-has_own_l2.false ∙ has in cc));
    }

pub returns-in_err-ensure_l1_entry-clause-sound : goal.returns-in_err-ensure_l1_entry-clause-sound
returns-in_err-ensure_l1_entry-clause-sound g c = λ out sound.
    record {
      freeing = search rules;
      finds = handed_on (FindsTable g.S.Storage.view g.F.BackingDisk.backing c.args.self.now c.ensure_l1_entry.new.self out c.args.offset) c.from_residual.result c.in_err-ensure_l1_entry.field-0.0 c.from_residual.ensures
          ((c.in_err-ensure_l1_entry.ensures.sound out sound).makes);
      may_fail = hands_met (MayFailAllocating (HasPinnedMapping out) ⊥ ⊥ (NeedsOverflowingL1Entry c.args.self.now c.args.offset)) c.from_residual.result c.in_err-ensure_l1_entry.field-0.0 c.from_residual.ensures (inl (inl ((c.in_err-ensure_l1_entry.ensures.sound out sound).fault)));
      limit = hands_limit c.from_residual.result c.in_err-ensure_l1_entry.field-0.0 c.from_residual.ensures ((c.in_err-ensure_l1_entry.ensures.sound out sound).limit);
      lacks = λ none. handed_on (λ r. IfErr r (IsFaultOrLacksTable g.S.Storage.view c.ensure_l1_entry.new.self c.args.offset)) c.from_residual.result c.in_err-ensure_l1_entry.field-0.0 c.from_residual.ensures ((c.in_err-ensure_l1_entry.ensures.sound out sound).lacks);
    }

pub returns-in_err-writable_l2_cluster-clause-sound : goal.returns-in_err-writable_l2_cluster-clause-sound
returns-in_err-writable_l2_cluster-clause-sound g c = λ out sound.
    let view = g.S.Storage.view in
    let below = g.F.BackingDisk.backing in
    let old = c.args.self.now in
    let long = c.ensure_l1_entry.new.self in
    let e = c.in_err-writable_l2_cluster.field-0.0 in
    let reached = (c.in_ok-ensure_l1_entry.ensures.sound out sound).makes in
    record {
      freeing = search rules;
      finds = handed_on (FindsTable view below old c.writable_l2_cluster.new.self out c.args.offset) c.from_residual-in_err-writable_l2_cluster.result e c.from_residual-in_err-writable_l2_cluster.ensures
          (finds_after view below out old long c.writable_l2_cluster.new.self reached c.args.offset (Err e)
          (left_refused view below out long c.writable_l2_cluster.new.self e reached.sound c.writable_l2_cluster.ensures.keeps_rest ((c.in_err-writable_l2_cluster.ensures.sound (pending_in view below long out) out reached.sound).does)));
      may_fail = let near : HasNearEntry long (l1_index_of long.file.header.fields c.args.offset) =
          near_reached old long c.args.offset sound.l1_table.bits (λ far. not_both c.l1_entry_overflows.result (c.l1_entry_overflows.ensures.1 far) c.if-l1_entry_overflows.false) c.ensure_l1_entry.ensures.none c.in_ok-ensure_l1_entry.ensures.placed c.in_ok-ensure_l1_entry.ensures.length (ap (λ (h : HeaderFields). l1_index_of h c.args.offset) reached.header) in
          hands_met (MayFailAllocating (HasPinnedMapping out) ⊥ ⊥ (NeedsOverflowingL1Entry old c.args.offset)) c.from_residual-in_err-writable_l2_cluster.result c.in_err-writable_l2_cluster.field-0.0 c.from_residual-in_err-writable_l2_cluster.ensures
          (taking_as (λ held. held) (λ no. no) (λ no. no) (λ no. absurd no) c.in_err-writable_l2_cluster.field-0.0 ((c.in_err-writable_l2_cluster.ensures.sound (pending_in view below long out) out reached.sound).may_fail (inr near)));
      limit = let near : HasNearEntry long (l1_index_of long.file.header.fields c.args.offset) =
          near_reached old long c.args.offset sound.l1_table.bits (λ far. not_both c.l1_entry_overflows.result (c.l1_entry_overflows.ensures.1 far) c.if-l1_entry_overflows.false) c.ensure_l1_entry.ensures.none c.in_ok-ensure_l1_entry.ensures.placed c.in_ok-ensure_l1_entry.ensures.length (ap (λ (h : HeaderFields). l1_index_of h c.args.offset) reached.header) in
          hands_limit c.from_residual-in_err-writable_l2_cluster.result e c.from_residual-in_err-writable_l2_cluster.ensures
          (λ is. limited_since (omega arith) (goes_step c.ensure_l1_entry.ensures.step) reached (limited_more (limited_unseen reached.sound ((c.in_err-writable_l2_cluster.ensures.sound (pending_in view below long out) out reached.sound).limit (inr near) is))));
      lacks = λ none. handed_on (λ r. IfErr r (IsFaultOrLacksTable view c.writable_l2_cluster.new.self c.args.offset)) c.from_residual-in_err-writable_l2_cluster.result c.in_err-writable_l2_cluster.field-0.0 c.from_residual-in_err-writable_l2_cluster.ensures
          ((c.in_err-writable_l2_cluster.ensures.sound (pending_in view below long out) out ((c.in_ok-ensure_l1_entry.ensures.sound out sound).makes).sound).lacks);
    }

pub returns-in_err-process_free_list-clause-sound : goal.returns-in_err-process_free_list-clause-sound
returns-in_err-process_free_list-clause-sound g c = λ out sound.
    let view = g.S.Storage.view in
    let below = g.F.BackingDisk.backing in
    let old = c.args.self.now in
    let long = c.ensure_l1_entry.new.self in
    let mid = c.writable_l2_cluster.new.self in
    let e = c.in_err-process_free_list.field-0.0 in
    let reached = (c.in_ok-ensure_l1_entry.ensures.sound out sound).makes in
    let new = c.process_free_list.new.self in
    let first = stays_kept view below out long mid reached.sound ((c.in_ok-writable_l2_cluster.ensures.sound (pending_in view below long out) out reached.sound).does).0 in
    let listed = subst (λ (x : Pending). ImageInvariant view below x mid out) (all_listed view below mid out) first.sound in
    record {
      freeing = handed_on (λ r. OnOk r (ListsNoMore old new)) c.from_residual-in_err-process_free_list.result e c.from_residual-in_err-process_free_list.ensures tt;
      finds = handed_on (FindsTable view below old new out c.args.offset) c.from_residual-in_err-process_free_list.result e c.from_residual-in_err-process_free_list.ensures
          (finds_after view below out old long new reached c.args.offset (Err e)
          (finds_after view below out long mid new first c.args.offset (Err e) (freed_refused view below mid out new e first.sound (c.in_err-process_free_list.ensures.frees (beside view below mid out) out listed))));
      may_fail = let first = stays_kept view below out long mid reached.sound ((c.in_ok-writable_l2_cluster.ensures.sound (pending_in view below long out) out reached.sound).does).0 in
          hands_met (MayFailAllocating (HasPinnedMapping out) ⊥ ⊥ (NeedsOverflowingL1Entry old c.args.offset)) c.from_residual-in_err-process_free_list.result c.in_err-process_free_list.field-0.0 c.from_residual-in_err-process_free_list.ensures
          (inl (inl (inl (c.in_err-process_free_list.ensures.faults (beside view below mid out) out listed))));
      limit = hands_limit c.from_residual-in_err-process_free_list.result e c.from_residual-in_err-process_free_list.ensures
          (other_limit _ e (fault_unlimited e (c.in_err-process_free_list.ensures.faults (beside view below mid out) out listed)));
      lacks = λ none. handed_on (λ r. IfErr r (IsFaultOrLacksTable view c.process_free_list.new.self c.args.offset)) c.from_residual-in_err-process_free_list.result c.in_err-process_free_list.field-0.0 c.from_residual-in_err-process_free_list.ensures
          (inl (c.in_err-process_free_list.ensures.faults (beside view below mid out) out listed));
    }

pub returns-clause-sound : goal.returns-clause-sound
returns-clause-sound g c = λ out sound.
    let view = g.S.Storage.view in
    let below = g.F.BackingDisk.backing in
    let old = c.args.self.now in
    let long = c.ensure_l1_entry.new.self in
    let mid = c.writable_l2_cluster.new.self in
    let freed = c.process_free_list.new.self in
    let reached = (c.in_ok-ensure_l1_entry.ensures.sound out sound).makes in
    let new = c.ensure_cached_l2-2.new.self in
    let owned = (c.in_ok-writable_l2_cluster.ensures.sound (pending_in view below long out) out reached.sound).does in
    let first = stays_kept view below out long mid reached.sound ((c.in_ok-writable_l2_cluster.ensures.sound (pending_in view below long out) out reached.sound).does).0 in
    let listed = subst (λ (x : Pending). ImageInvariant view below x mid out) (all_listed view below mid out) first.sound in
    let second = tidy_stays view below mid out freed first.sound (c.in_ok-process_free_list.ensures.frees (beside view below mid out) out listed) in
    let at = ap (λ (v : HeaderView). l1_index_of v.fields c.args.offset) c.writable_l2_cluster.ensures.keeps_rest.header in
    let own = own_after view below out (pending_with_listed (pending_in view below long out) long mid) mid freed owned.0.sound c.args.offset (l1_index_of long.file.header.fields c.args.offset) at owned.1.own c.process_free_list.ensures.offsets.l1_table c.process_free_list.ensures.keeps_rest.header in
    let writable = subst IsTrue (sym (c.writable_l2_cluster.ensures.step.stays.image.writable ∙ c.ensure_l1_entry.ensures.step.stays.image.writable)) c.requires.writable in
    record {
      finds = finds_after view below out old long new reached c.args.offset c.ensure_cached_l2-2.result
          (finds_after view below out long mid new first c.args.offset c.ensure_cached_l2-2.result
          (finds_after view below out mid freed new second c.args.offset c.ensure_cached_l2-2.result
          (finds view below out freed new second.sound c.ensure_cached_l2-2.ensures.keeps_rest c.args.offset c.ensure_cached_l2-2.result ((c.ensure_cached_l2-2.ensures.sound (pending_in view below freed out) out second.sound).ready))));
      may_fail = let first = stays_kept view below out long mid reached.sound owned.0 in
          met_as (MayFailAllocating (HasPinnedMapping out) ⊥ ⊥ ⊥) (MayFailAllocating (HasPinnedMapping out) ⊥ ⊥ (NeedsOverflowingL1Entry old c.args.offset)) c.ensure_cached_l2-2.result (taking_as (λ held. held) (λ no. no) (λ no. no) (λ no. absurd no)) ((c.ensure_cached_l2-2.ensures.sound (pending_in view below freed out) out second.sound).may_fail (inl own));
      limit = limits_as c.ensure_cached_l2-2.result
          (λ may_fail. limited_since (omega arith) (goes_step (step_then (step_then c.ensure_l1_entry.ensures.step c.writable_l2_cluster.ensures.step) c.process_free_list.ensures.step)) (stays_then view below out old long freed reached (stays_then view below out long mid freed first second)) (limited_more (limited_unseen second.sound may_fail)))
          ((c.ensure_cached_l2-2.ensures.sound (pending_in view below freed out) out second.sound).limit (inl own));
      lacks = λ none. (c.ensure_cached_l2-2.ensures.sound (pending_in view below freed out) out second.sound).lacks none;
      freeing = always_ok c.ensure_cached_l2-2.result (inr ((c.ensure_cached_l2-2.ensures.quiet own).list ∙ c.in_ok-process_free_list.ensures.emptied writable));
    }

pub returns-then-has_own_l2-clause-owns : goal.returns-then-has_own_l2-clause-owns
returns-then-has_own_l2-clause-owns g c =
    let own = c.has_own_l2.ensures.0 c.if-has_own_l2.true in
    finds_owns c.args.self.now c.ensure_cached_l2.new.self c.args.offset c.ensure_cached_l2.result own (c.ensure_cached_l2.ensures.own own)

pub returns-clause-owns : goal.returns-clause-owns
returns-clause-owns g c =
    finds_freed c.writable_l2_cluster.new.self c.process_free_list.new.self c.ensure_cached_l2-2.new.self c.args.offset c.ensure_cached_l2-2.result c.process_free_list.ensures.offsets.l1_table c.process_free_list.ensures.keeps_rest.header
    c.in_ok-writable_l2_cluster.ensures.owns c.ensure_cached_l2-2.ensures.own

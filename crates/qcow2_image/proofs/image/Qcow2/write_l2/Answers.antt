use Rattle.qcow2_image.proofs.Common.{CanEnter, inl, ap, ◌∙◌, arith, subst, sym, rules, one_at, with_new_tables, handed_on, one_here, Qcow2, WritesNew, notes_none, notes_then, not_both, IsHostCluster, HasPinnedMapping, MayFailLooking, IsFault}
use Rattle.qcow2_image.proofs.image.Qcow2.write_l2.Goals as goal
use Rattle.qcow2_image.proofs.Lemmas.{keeps_then, may_still, says_still, written_so, behind_none, behind_then, near_placed, hands_met, met_as}

pub returns-in_err-store_first-clause-writes : goal.returns-in_err-store_first-clause-writes
returns-in_err-store_first-clause-writes g c = λ p out sound may recorded says.
    handed_on (WritesNew g.S.Storage.view g.F.BackingDisk.backing p c.args.self.now c.store_first.new.self out c.args.index c.args.cluster)
    c.from_residual.result c.in_err-store_first.field-0.0 c.from_residual.ensures
    (inl (c.in_err-store_first.ensures.stores (with_new_tables p (one_at c.args.cluster)) out sound))

pub returns-in_err-write_l2_bytes-clause-writes : goal.returns-in_err-write_l2_bytes-clause-writes
returns-in_err-write_l2_bytes-clause-writes g c = λ p out sound may recorded says.
    let view = g.S.Storage.view in
    let below = g.F.BackingDisk.backing in
    let old = c.args.self.now in
    let mid = c.store_first.new.self in
    let q = with_new_tables p (one_at c.args.cluster) in
    let own = one_here c.args.cluster in
    let stored = c.in_ok-store_first.ensures.stores q out sound in
    let format = (says_still view below out q q old mid c.args.index c.args.table stored.0 says).format in
    handed_on (WritesNew view below p old c.write_l2_bytes.new.self out c.args.index c.args.cluster)
    c.from_residual-in_err-write_l2_bytes.result c.in_err-write_l2_bytes.field-0.0 c.from_residual-in_err-write_l2_bytes.ensures
    (inl (keeps_then view below out old mid c.write_l2_bytes.new.self q q q (λ k h. h) stored.0 (c.in_err-write_l2_bytes.ensures.places q out stored.0.sound (omega (arith, own)) format stored.1)))

pub returns-clause-writes : goal.returns-clause-writes
returns-clause-writes g c = λ p out sound may recorded says.
    let view = g.S.Storage.view in
    let below = g.F.BackingDisk.backing in
    let old = c.args.self.now in
    let first = c.store_first.new.self in
    let mid = c.write_l2_bytes.new.self in
    let q = with_new_tables p (one_at c.args.cluster) in
    let own = one_here c.args.cluster in
    let same = ap (λ (x : Qcow2 _ _). x.l1_table) c.write_l2_bytes.ensures.rest ∙ ap (λ (x : Qcow2 _ _). x.l1_table) c.store_first.ensures.rest in
    let stored = c.in_ok-store_first.ensures.stores q out sound in
    let format = (says_still view below out q q old first c.args.index c.args.table stored.0 says).format in
    let placed = c.in_ok-write_l2_bytes.ensures.places q out stored.0.sound (omega (arith, own)) format stored.1 in
    let kept = keeps_then view below out old first mid q q q (λ k h. h) stored.0 placed.0 in
    written_so view below out p old mid c.link_l2.new.self c.args.index c.args.cluster c.link_l2.result sound same kept
    (c.link_l2.ensures.names p out c.args.table kept.sound (may_still view below out q q old mid sound kept.sound same c.args.index may) (c.in_ok-write_l2_bytes.ensures.recorded (c.in_ok-store_first.ensures.recorded recorded))
    (says_still view below out q q old mid c.args.index c.args.table kept says) c.in_ok-write_l2_bytes.ensures.long placed.1)

pub returns-in_err-store_first-clause-may_fail : goal.returns-in_err-store_first-clause-may_fail
returns-in_err-store_first-clause-may_fail g c = λ p out sound says near host.
    hands_met (MayFailLooking (HasPinnedMapping out)) c.from_residual.result c.in_err-store_first.field-0.0 c.from_residual.ensures (inl (c.in_err-store_first.ensures.fault (with_new_tables p (one_at c.args.cluster)) out sound))

pub returns-in_err-write_l2_bytes-clause-may_fail : goal.returns-in_err-write_l2_bytes-clause-may_fail
returns-in_err-write_l2_bytes-clause-may_fail g c = λ p out sound says near host.
    let q = with_new_tables p (one_at c.args.cluster) in
    let own = one_here c.args.cluster in
    let stored = c.in_ok-store_first.ensures.stores q out sound in
    let format = (says_still g.S.Storage.view g.F.BackingDisk.backing out q q c.args.self.now c.store_first.new.self c.args.index c.args.table stored.0 says).format in
    hands_met (MayFailLooking (HasPinnedMapping out)) c.from_residual-in_err-write_l2_bytes.result c.in_err-write_l2_bytes.field-0.0 c.from_residual-in_err-write_l2_bytes.ensures
    (c.in_err-write_l2_bytes.ensures.may_fail q out stored.0.sound (omega (arith, own)) format stored.1 (subst (λ n. IsHostCluster n c.args.cluster) (sym says.format.bits) host))

pub returns-then-not-can_enter-clause-may_fail : goal.returns-then-not-can_enter-clause-may_fail
returns-then-not-can_enter-clause-may_fail g c = λ p out sound says near host.
    not_both c.can_enter.result
    (c.can_enter.ensures.near near (near_placed g.S.Storage.view g.F.BackingDisk.backing out (with_new_tables p (one_at c.args.cluster)) c.args.self.now c.args.index sound near) (subst (λ n. IsHostCluster n c.args.cluster) (sym sound.l1_table.bits) host))
    c.if-not-can_enter.true

pub returns-clause-may_fail : goal.returns-clause-may_fail
returns-clause-may_fail g c = λ p out sound says near host. met_as IsFault (MayFailLooking (HasPinnedMapping out)) c.link_l2.result (λ e fault. inl fault) c.link_l2.ensures.fault

pub returns-then-not-can_enter-clause-step : goal.returns-then-not-can_enter-clause-step
returns-then-not-can_enter-clause-step g c = record { stays = search rules; notes = notes_none; header_cluster = λ some. behind_none }

pub returns-in_err-store_first-clause-step : goal.returns-in_err-store_first-clause-step
returns-in_err-store_first-clause-step g c = record { stays = search rules; notes = c.store_first.ensures.step.notes; header_cluster = λ some. c.store_first.ensures.step.header_cluster }

pub returns-in_err-write_l2_bytes-clause-step : goal.returns-in_err-write_l2_bytes-clause-step
returns-in_err-write_l2_bytes-clause-step g c = record {
  stays = search rules;
  notes = notes_then c.store_first.ensures.step.notes c.write_l2_bytes.ensures.step.notes;
  header_cluster = λ some. behind_then c.store_first.ensures.step.header_cluster (c.write_l2_bytes.ensures.step.header_cluster some);
}

pub returns-clause-step : goal.returns-clause-step
returns-clause-step g c = record {
  stays = search rules;
  notes = notes_then (notes_then c.store_first.ensures.step.notes c.write_l2_bytes.ensures.step.notes) c.link_l2.ensures.step.notes;
  header_cluster = λ some. behind_then (behind_then c.store_first.ensures.step.header_cluster (c.write_l2_bytes.ensures.step.header_cluster some)) c.link_l2.ensures.step.header_cluster;
}

pub link_l2-requires : goal.link_l2-requires
link_l2-requires g c = record {
  enter = subst (λ t. CanEnter t c.args.index c.args.cluster) (sym (ap (λ (x : Qcow2 _ _). x.l1_table) c.write_l2_bytes.ensures.rest ∙ ap (λ (x : Qcow2 _ _). x.l1_table) c.store_first.ensures.rest))
      (c.can_enter.ensures.answer c.if-not-can_enter.false);
}

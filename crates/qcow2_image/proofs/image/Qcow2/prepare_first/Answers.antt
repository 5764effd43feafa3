use Rattle.qcow2_image.proofs.Lemmas.{filling_pinned, taking_none, taking_of_filling, taking_where, no_pins, hands_limit, other_limit, taking_as, met_as}
use Rattle.std.proofs.Common.{◌/◌, ◌≡◌, ◌≤◌, rules, refl, sym, ap, ◌∙◌, subst, List, length, true, false, inr, arith}
use Rattle.qcow2_image.proofs.Common.{BeginsSoundly, MarkedIsBehind, cover, vec_capacity, ClusterMapping, cluster_size, L2Mapping, known_in, handed_on, Prepared, l1_index_of, IsReadied, Readies, pending_in, IsFirst, always_ok, l2_pins, IfOk-weaker, IfErr-weaker, inl, MayFailFilling, MayFailPreparing}
use Rattle.qcow2_image.proofs.Call.KeptOffsets.{filling_held}
use Rattle.qcow2_image.proofs.image.Qcow2.prepare_first.Goals as goal
use Rattle.qcow2_image.proofs.Prepare.KeptMappings.{data_keep_none}
use Rattle.qcow2_image.proofs.Prepare.RangeByParts.{room_as}
use Rattle.qcow2_image.proofs.Prepare.WritableL2Table.{refused as any_refusal}
use Rattle.qcow2_image.proofs.Prepare.NewCluster.{back_none, first_stands, not_pinned, readied_in_place, first_entry}
use Rattle.qcow2_image.proofs.Images.Places.{inside_of}

pub returns-then-l2_is_pinned-clause-sound : goal.returns-then-l2_is_pinned-clause-sound
returns-then-l2_is_pinned-clause-sound g c = λ out sound holds.
    let old = c.args.self.now in
    let below = g.F.BackingDisk.backing in
    let view = g.S.Storage.view in
    record {
      readies = back_none view below out old (pending_in view below old out) sound _;
      may_fail = inr (inr (refl, c.l2_is_pinned.ensures.0 c.if-l2_is_pinned.true));
      limit = search rules;
      kept = search rules;
    }

pub returns-in_err-room-clause-sound : goal.returns-in_err-room-clause-sound
returns-in_err-room-clause-sound g c = λ out sound holds.
    let old = c.args.self.now in
    let below = g.F.BackingDisk.backing in
    let view = g.S.Storage.view in
    record {
      readies = any_refusal (λ r. Readies view below old old out c.args.offset c.args.length c.args.overwrite r) c.from_residual.result (search rules) (back_none view below out old (pending_in view below old out) sound);
      may_fail = search rules;
      limit = search rules;
      kept = search rules;
    }

pub returns-in_err-old-clause-sound : goal.returns-in_err-old-clause-sound
returns-in_err-old-clause-sound g c = λ out sound holds.
    let old = c.args.self.now in
    let below = g.F.BackingDisk.backing in
    let view = g.S.Storage.view in
    record {
      readies = handed_on (λ r. Readies view below old old out c.args.offset c.args.length c.args.overwrite r) c.from_residual-in_err-old.result c.in_err-old.field-0.0 c.from_residual-in_err-old.ensures
          (back_none view below out old (pending_in view below old out) sound c.in_err-old.field-0.0);
      may_fail = let entry = first_entry view below old c.args.offset c.args.table c.new.result c.cluster_bits.result c.cluster-cluster.result c.cluster-cluster.ensures c.new.ensures c.cluster_bits.ensures.value holds in
          let read = c.in_err-old.ensures.reads (pending_in view below old out) (l1_index_of old.file.header.fields c.args.offset) sound.file (inside_of sound) entry.0 entry.1 holds.new_data in
          absurd (let e : false ≡ true = read in cc);
      limit = hands_limit c.from_residual-in_err-old.result c.in_err-old.field-0.0 c.from_residual-in_err-old.ensures (other_limit _ c.in_err-old.field-0.0 c.in_err-old.ensures.limited);
      kept = search rules;
    }

pub returns-in-Some-clause-sound : goal.returns-in-Some-clause-sound
returns-in-Some-clause-sound g c = λ out sound holds.
    let old = c.args.self.now in
    let below = g.F.BackingDisk.backing in
    let view = g.S.Storage.view in
    let p = pending_in view below old out in
    let covered = first_stands view below old p c.args.offset c.args.table c.new.result c.cluster_bits.result c.cluster-cluster.result c.in_ok-old.old c.cluster-cluster.ensures c.new.ensures c.cluster_bits.ensures.value holds (c.in_ok-old.ensures.says p (l1_index_of old.file.header.fields c.args.offset) sound.file) in
    record {
      readies = λ k free. subst (λ (x : Prepared). IsReadied view below old c.prepare_at.new.self out k c.args.offset c.args.length c.args.overwrite x) (sym c.prepare_at.ensures.value)
          (readied_in_place view below out old c.prepare_at.new.self c.prepare_at.result c.prepare_at.ensures.cluster_mapping k c.args.offset c.args.length c.args.table c.in-Some.host c.args.overwrite free sound holds (not_pinned _ c.l2_is_pinned.result c.l2_is_pinned.ensures c.if-l2_is_pinned.false)
          (covered ∙ c.in-Some.ensures.place.0) c.prepare_at.ensures.pins);
      may_fail = search rules;
      limit = search rules;
      kept = let h = old.file.header.fields in
          data_keep_none h c.args.offset (cover h (known_in view old.file) (c.args.offset / cluster_size h)) c.in-Some.host c.prepare_at.result (covered ∙ c.in-Some.ensures.place.0);
    }

pub returns-in-Some-clause-begins : goal.returns-in-Some-clause-begins
returns-in-Some-clause-begins g c = record {
  own = c.prepare_at.ensures.own;
  first = subst (λ (x : Prepared). IsFirst c.args.self.now.file.header.fields c.args.offset c.args.table x) (sym c.prepare_at.ensures.value)
      (record { guest = refl; under = refl; rest = refl; one = ap (λ (l : List ClusterMapping). length l) c.prepare_at.ensures.cluster_mapping });
  behind = λ none. let h = c.args.self.now.file.header.fields in
      let behind : cluster_size h ≤ c.in-Some.host = subst (MarkedIsBehind (cluster_size h)) c.in-Some.ensures.place.0 (c.in_ok-old.ensures.behind none) refl in
      subst (λ (x : Prepared). cluster_size h ≤ x.offset) (sym c.prepare_at.ensures.value) (omega (arith, behind));
  room = room_as c.args.self.now.file.header.fields c.args.length c.args.offset c.clusters_in.result (vec_capacity c.in_ok-room.room) c.clusters_in.ensures.enough c.in_ok-room.ensures.capacity c.prepare_at.result
      (ap (λ (x : Prepared). x.guest) c.prepare_at.ensures.value) c.prepare_at.ensures.room;
}

pub returns-in-None-clause-sound : goal.returns-in-None-clause-sound
returns-in-None-clause-sound g c = λ out sound holds.
    let old = c.args.self.now in
    let below = g.F.BackingDisk.backing in
    let view = g.S.Storage.view in
    let p = pending_in view below old out in
    let covered = first_stands view below old p c.args.offset c.args.table c.new.result c.cluster_bits.result c.cluster-cluster.result c.in_ok-old.old c.cluster-cluster.ensures c.new.ensures c.cluster_bits.ensures.value holds (c.in_ok-old.ensures.says p (l1_index_of old.file.header.fields c.args.offset) sound.file) in
    let unpinned = not_pinned _ c.l2_is_pinned.result c.l2_is_pinned.ensures c.if-l2_is_pinned.false in
    let begun = subst (λ (x : L2Mapping). BeginsSoundly view below old c.prepare_private.new.self x c.args.offset c.args.length c.args.overwrite out c.prepare_private.result) (sym covered) (c.prepare_private.ensures.sound out sound holds unpinned covered) in
    record {
      readies = begun.readies;
      limit = begun.limit;
      may_fail = IfErr-weaker c.prepare_private.result _ _ (taking_as (λ held. held) (λ no. absurd no) (λ is. is) (λ no. no)) begun.may_fail;
      kept = IfOk-weaker c.prepare_private.result _ _ (λ p begins host at. begins host (sym covered ∙ at)) c.prepare_private.ensures.kept;
    }

pub returns-in-None-clause-begins : goal.returns-in-None-clause-begins
returns-in-None-clause-begins g c =
    IfOk-weaker c.prepare_private.result _ _
    (λ p begun. record {
      own = begun.own;
      first = begun.first;
      behind = begun.behind;
      room = room_as c.args.self.now.file.header.fields c.args.length c.args.offset c.clusters_in.result (vec_capacity c.in_ok-room.room) c.clusters_in.ensures.enough c.in_ok-room.ensures.capacity p begun.first.guest begun.room;
    })
    c.prepare_private.ensures.begins

pub returns-in-Some-clause-unpinned : goal.returns-in-Some-clause-unpinned
returns-in-Some-clause-unpinned g c = no_pins c.l2_is_pinned.result (l2_pins c.args.self.now.file.caches c.args.table) c.l2_is_pinned.ensures c.if-l2_is_pinned.false

pub returns-in-None-clause-unpinned : goal.returns-in-None-clause-unpinned
returns-in-None-clause-unpinned g c = always_ok c.prepare_private.result (no_pins c.l2_is_pinned.result (l2_pins c.args.self.now.file.caches c.args.table) c.l2_is_pinned.ensures c.if-l2_is_pinned.false)

pub returns-then-l2_is_pinned-clause-step : goal.returns-then-l2_is_pinned-clause-step
returns-then-l2_is_pinned-clause-step g c = taking_where taking_none

pub returns-in_err-room-clause-step : goal.returns-in_err-room-clause-step
returns-in_err-room-clause-step g c = taking_where taking_none

pub returns-in_err-old-clause-step : goal.returns-in_err-old-clause-step
returns-in_err-old-clause-step g c = taking_where taking_none

pub returns-in-Some-clause-step : goal.returns-in-Some-clause-step
returns-in-Some-clause-step g c = taking_where (taking_of_filling (filling_pinned c.prepare_at.ensures.stays c.prepare_at.ensures.pins))

pub prepare_private-requires-clause-other : goal.prepare_private-requires-clause-other
prepare_private-requires-clause-other g c = record { reach = c.in_ok-old.ensures.reach; other = c.in-None.ensures.none refl; behind = c.in_ok-old.ensures.behind }

pub returns-then-l2_is_pinned-clause-fails : goal.returns-then-l2_is_pinned-clause-fails
returns-then-l2_is_pinned-clause-fails g c = record { faults = search rules; cause = inr (refl, record { cluster = c.args.table; pins = c.l2_is_pinned.ensures.0 c.if-l2_is_pinned.true }) }

pub returns-in-None-clause-fails : goal.returns-in-None-clause-fails
returns-in-None-clause-fails g c = record {
  faults = c.prepare_private.ensures.fails.faults;
  cause = met_as (MayFailFilling c.args.self.now c.prepare_private.new.self c.in_ok-old.old) (MayFailPreparing c.prepare_private.new.self) c.prepare_private.result
      (λ e met. inl (filling_held c.args.self.now c.prepare_private.new.self c.in_ok-old.old c.in_ok-old.ensures.held e met)) c.prepare_private.ensures.fails.cause;
}

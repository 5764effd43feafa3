use Rattle.qcow2_image.proofs.Call.DataFiles.{own_since}
use Rattle.qcow2_image.proofs.Lemmas.{filling_pinned, filling_then, filling_written, listed_after_same, hands_limit, hands_unlimited, other_limit, hands_met, kept_behind}
use Rattle.std.proofs.Common.{◌≤◌, ◌-◌, ◌%◌, ◌/◌, List, length, inl, refl, sym, ap, subst, arith, rules}
use Rattle.qcow2_image.proofs.Common.{HasPinnedMapping, IsCopiedCompressed, MayFailAllocating, keeping, cluster_size, handed_on, Qcow2, Prepared, ClusterMapping, IsReadied, Readies, pending_in, IsFirst, InternalFillingStep}
use Rattle.qcow2_image.proofs.Prepare.KeptMappings.{first_alone, readied_kept}
use Rattle.qcow2_image.proofs.image.Qcow2.prepare_kept.Goals as goal

pub returns-in_err-fill_kept-clause-sound : goal.returns-in_err-fill_kept-clause-sound
returns-in_err-fill_kept-clause-sound g c = λ out sound holds unpinned covered.
    let old = c.args.self.now in
    let below = g.F.BackingDisk.backing in
    let view = g.S.Storage.view in
    record {
      readies = let new = c.fill_kept.new.self in
          let p = pending_in view below old out in
          let image_step = c.fill_kept.ensures.image_step p out sound (λ x. omega arith) (first_alone view below out old sound c.args.offset c.args.table c.args.host holds unpinned covered) in
          let list = ap (λ (image : Qcow2 _ _). image.file.free_list) c.fill_kept.ensures.rest in
          handed_on (λ r. Readies view below old new out c.args.offset c.args.length c.args.overwrite r) c.from_residual.result c.in_err-fill_kept.field-0.0 c.from_residual.ensures
          (inl (subst (λ q. InternalFillingStep view below p q old new out) (sym (listed_after_same view below out p old new list)) image_step));
      may_fail = let behind = kept_behind view below out (pending_in view below old out) old sound (c.args.offset / cluster_size old.file.header.fields) c.args.host covered in
          hands_met (MayFailAllocating (HasPinnedMapping out) ⊥ (IsCopiedCompressed old.file.header.fields (keeping c.args.host) c.args.offset c.args.length c.args.overwrite) ⊥) c.from_residual.result c.in_err-fill_kept.field-0.0 c.from_residual.ensures (inl (inl (inl (c.in_err-fill_kept.ensures.fault behind))));
      limit = hands_limit c.from_residual.result c.in_err-fill_kept.field-0.0 c.from_residual.ensures (other_limit _ c.in_err-fill_kept.field-0.0 c.in_err-fill_kept.ensures.fails.limited);
    }

pub returns-clause-sound : goal.returns-clause-sound
returns-clause-sound g c = λ out sound holds unpinned covered.
    let old = c.args.self.now in
    let below = g.F.BackingDisk.backing in
    let view = g.S.Storage.view in
    record {
      readies = let p = pending_in view below old out in
          let rest = c.fill_kept.ensures.rest in
          let image_step = c.fill_kept.ensures.image_step p out sound (λ x. omega arith) (first_alone view below out old sound c.args.offset c.args.table c.args.host holds unpinned covered) in
          λ k free. subst (λ (x : Prepared). IsReadied view below old c.prepare_at.new.self out k c.args.offset c.args.length c.args.overwrite x) (sym c.prepare_at.ensures.value)
          (readied_kept view below out old sound c.args.offset c.args.table c.args.host holds unpinned covered c.fill_kept.new.self image_step (ap (λ (image : Qcow2 _ _). image.file.caches) rest) (ap (λ (image : Qcow2 _ _). image.file.free_list) rest)
          c.prepare_at.result c.prepare_at.ensures.cluster_mapping c.requires.reach k c.args.length c.args.overwrite free (c.in_ok-fill_kept.ensures.fills p out sound covered) c.prepare_at.new.self c.prepare_at.ensures.pins);
      may_fail = tt;
      limit = tt;
    }

pub returns-clause-begins : goal.returns-clause-begins
returns-clause-begins g c = record {
  own = own_since c.prepare_at.result c.fill_kept.ensures.step.stays.image c.prepare_at.ensures.own;
  first = subst (λ (x : Prepared). IsFirst c.args.self.now.file.header.fields c.args.offset c.args.table x) (sym c.prepare_at.ensures.value)
      (record { guest = refl; under = refl; rest = ap (λ (image : Qcow2 _ _). cluster_size image.file.header.fields - c.args.offset % cluster_size image.file.header.fields) c.fill_kept.ensures.rest; one = ap (λ (l : List ClusterMapping). length l) c.prepare_at.ensures.cluster_mapping });
  behind = λ none. let least = c.requires.behind none in
      subst (λ (x : Prepared). cluster_size c.args.self.now.file.header.fields ≤ x.offset) (sym c.prepare_at.ensures.value) (omega (arith, least));
  room = search rules;
}

pub returns-in_err-fill_kept-clause-step : goal.returns-in_err-fill_kept-clause-step
returns-in_err-fill_kept-clause-step g c = filling_written c.fill_kept.ensures.step c.fill_kept.ensures.rest

pub returns-in_err-fill_kept-clause-fails : goal.returns-in_err-fill_kept-clause-fails
returns-in_err-fill_kept-clause-fails g c = record { faults = search rules; cause = search rules; limited = hands_unlimited c.from_residual.result c.in_err-fill_kept.field-0.0 c.from_residual.ensures c.in_err-fill_kept.ensures.fails.limited }

pub returns-clause-step : goal.returns-clause-step
returns-clause-step g c = filling_then (filling_written c.fill_kept.ensures.step c.fill_kept.ensures.rest) (filling_pinned c.prepare_at.ensures.stays c.prepare_at.ensures.pins)

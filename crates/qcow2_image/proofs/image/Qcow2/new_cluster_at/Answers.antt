use Rattle.std.proofs.Common.{◌≡◌, ◌/◌, ◌<◌, inl, sym, ap, ◌∙◌, subst, rules, Ok}
use Rattle.qcow2_image.proofs.Common.{handed_on, cover, cluster_size, Guest, with_new_data, cover_format, size_format, known_in, Qcow2, AllocatesDataAt, GainsAt, InternalFillingStep, RefusedFillingStep, IsGained, pending_with_listed, run_of, new_data_by, over_all, IsCopiedCompressed, IsCompressedStill, MayFailFilling}
use Rattle.qcow2_image.proofs.Lemmas.{listed_after_on, image_step_left, taken_new_data, taken_unused, still_holds, filled_as, image_step_then, hands_limit, other_limit, copied_as, filling_met, new_behind, hands_alone, taking_listed, taking_of_filling, taking_then, hands_met}
use Rattle.qcow2_image.proofs.Call.FailingErrors.{uncopied_met}
use Rattle.qcow2_image.proofs.Call.KeptOffsets.{filling_since}
use Rattle.qcow2_image.proofs.image.Qcow2.new_cluster_at.Goals as goal

pub returns-in-Ok-clause-step : goal.returns-in-Ok-clause-step
returns-in-Ok-clause-step g c = taking_then c.allocate_data_cluster_at.ensures.step (taking_of_filling c.fill_cluster.ensures.step)

pub returns-in-Err-clause-step : goal.returns-in-Err-clause-step
returns-in-Err-clause-step g c = taking_then (taking_then c.allocate_data_cluster_at.ensures.step (taking_of_filling c.fill_cluster.ensures.step)) (taking_listed _ c.hand_back.ensures)

pub returns-in_default-clause-sound : goal.returns-in_default-clause-sound
returns-in_default-clause-sound g c = λ p out sound holds.
    record {
      may_fail = search rules;
      limit = search rules;
      does = subst (λ v. AllocatesDataAt g.S.Storage.view g.F.BackingDisk.backing p c.args.self.now c.allocate_data_cluster_at.new.self out c.args.cluster (Ok v)) c.in_default.is ((c.in_ok-pending.ensures.sound p out sound holds).takes);
    }

pub returns-in-Ok-clause-sound : goal.returns-in-Ok-clause-sound
returns-in-Ok-clause-sound g c = λ p out sound holds.
    let view = g.S.Storage.view in
    let below = g.F.BackingDisk.backing in
    let old = c.args.self.now in
    let mid = c.allocate_data_cluster_at.new.self in
    let new = c.fill_cluster.new.self in
    let n = c.in-Some.pending in
    let took = subst (λ v. AllocatesDataAt view below p old mid out c.args.cluster (Ok v)) c.in-Some.is ((c.in_ok-pending.ensures.sound p out sound holds).takes) in
    let unused = taken_unused view below out old mid p n took.1 holds took.3 in
    let new_data = with_new_data (pending_with_listed p old mid) (run_of n) in
    let some : 0 < new_data.new_data c.args.cluster = subst (λ k. 0 < new_data.new_data k) took.0 (taken_new_data view below out old mid p n took.1 holds took.3) in
    let free : over_all new_data_by out c.args.cluster ≡ 0 = ap (over_all new_data_by out) (sym took.0) ∙ unused in
    record {
      may_fail = search rules;
      limit = search rules;
      does = let gained : IsGained view below p old new out c.args.offset c.args.length c.args.overwrite c.args.old.now n = record {
        one = took.1;
        kind = took.2;
        unused = unused;
        image_step = subst (λ q. InternalFillingStep view below p (with_new_data q (run_of n)) old new out) (listed_after_on view below out p old mid new c.fill_cluster.ensures.step.list)
            (image_step_then view below out old mid new p new_data new_data took.3 ((c.fill_cluster.ensures.sound new_data out took.3.sound (still_holds view below out old mid p n took.1 holds took.3) some free).image_step));
        filled = λ covered.
            let h = old.file.header.fields in
            let hm = mid.file.header.fields in
            let still : cover hm (known_in view mid.file) (c.args.offset / cluster_size hm) ≡ c.args.old.now =
            ap (λ size. cover hm (known_in view mid.file) (c.args.offset / size)) (size_format h hm took.3.header) ∙ cover_format h hm took.3.header (known_in view mid.file) (c.args.offset / cluster_size h) ∙ sym (took.3.covers (c.args.offset / cluster_size h)) ∙ covered in
            filled_as view below out.place mid old new c.args.cluster n.first_cluster c.args.offset c.args.length c.args.overwrite took.3.header (ap (λ (x : Guest). x.disk) took.3.seen) (sym took.0)
            ((c.in-Ok.ensures.sound new_data out took.3.sound (still_holds view below out old mid p n took.1 holds took.3) some free).fills still);
      } in (took.0, gained);
    }

pub returns-in-Err-clause-sound : goal.returns-in-Err-clause-sound
returns-in-Err-clause-sound g c = λ p out sound holds.
    let view = g.S.Storage.view in
    let below = g.F.BackingDisk.backing in
    let old = c.args.self.now in
    let mid = c.allocate_data_cluster_at.new.self in
    let new = c.fill_cluster.new.self in
    let n = c.in-Some.pending in
    let took = subst (λ v. AllocatesDataAt view below p old mid out c.args.cluster (Ok v)) c.in-Some.is ((c.in_ok-pending.ensures.sound p out sound holds).takes) in
    let new_data = with_new_data (pending_with_listed p old mid) (run_of n) in
    let some : 0 < new_data.new_data c.args.cluster = subst (λ k. 0 < new_data.new_data k) took.0 (taken_new_data view below out old mid p n took.1 holds took.3) in
    let h = old.file.header.fields in
    let free : over_all new_data_by out c.args.cluster ≡ 0 = ap (over_all new_data_by out) (sym took.0) ∙ taken_unused view below out old mid p n took.1 holds took.3 in
    let hm = mid.file.header.fields in
    let filled = image_step_then view below out old mid new p new_data new_data took.3 ((c.fill_cluster.ensures.sound new_data out took.3.sound (still_holds view below out old mid p n took.1 holds took.3) some free).image_step) in
    let offset = c.args.offset in
    let gone = subst (λ q. InternalFillingStep view below p (with_new_data q (run_of n)) old new out) (listed_after_on view below out p old mid new c.fill_cluster.ensures.step.list) filled in
    record {
      does = subst (λ (image : Qcow2 _ _). RefusedFillingStep view below p old image out c.in-Err.refusal) (sym c.hand_back.ensures)
          (inl (image_step_left view below out old new p n took.1 took.2 gone));
      may_fail = let n = c.args.length in
          let overwrite = c.args.overwrite in
          filling_met (IsCopiedCompressed hm c.args.old.now offset n overwrite) (IsCopiedCompressed h c.args.old.now offset n overwrite) ⊥ c.in-Err.refusal (copied_as h hm c.args.old.now offset n overwrite (size_format h hm took.3.header))
          (c.in-Err.ensures.may_fail (new_behind view below out new_data mid took.3.sound c.args.cluster some));
      limit = other_limit _ c.in-Err.refusal c.in-Err.ensures.fails.limited;
    }

pub returns-in_err-pending-clause-sound : goal.returns-in_err-pending-clause-sound
returns-in_err-pending-clause-sound g c = λ p out sound holds.
    record {
      does = handed_on (GainsAt g.S.Storage.view g.F.BackingDisk.backing p c.args.self.now c.allocate_data_cluster_at.new.self out c.args.offset c.args.length c.args.overwrite c.args.old.now c.args.cluster) c.from_residual.result c.in_err-pending.field-0.0 c.from_residual.ensures ((c.in_err-pending.ensures.sound p out sound holds).takes);
      may_fail = hands_alone (IsCopiedCompressed c.args.self.now.file.header.fields c.args.old.now c.args.offset c.args.length c.args.overwrite) ⊥ c.from_residual.result c.in_err-pending.field-0.0 c.from_residual.ensures (inl ((c.in_err-pending.ensures.sound p out sound holds).fault));
      limit = hands_limit c.from_residual.result c.in_err-pending.field-0.0 c.from_residual.ensures ((c.in_err-pending.ensures.sound p out sound holds).limit);
    }

pub returns-in-Err-clause-fails : goal.returns-in-Err-clause-fails
returns-in-Err-clause-fails g c = record {
  cause = subst (λ (image : Qcow2 _ _). MayFailFilling c.args.self.now image c.args.old.now c.in-Err.refusal) (sym c.hand_back.ensures)
      (filling_since c.args.self.now c.allocate_data_cluster_at.new.self c.fill_cluster.new.self c.args.old.now c.allocate_data_cluster_at.ensures.step.cached c.in-Err.refusal c.in-Err.ensures.fails.cause);
  faults = search rules;
}

pub returns-in_err-pending-clause-fails : goal.returns-in_err-pending-clause-fails
returns-in_err-pending-clause-fails g c = record {
  faults = search rules;
  cause = hands_met (MayFailFilling c.args.self.now c.allocate_data_cluster_at.new.self c.args.old.now) c.from_residual.result c.in_err-pending.field-0.0 c.from_residual.ensures
      (uncopied_met c.allocate_data_cluster_at.new.self (IsCompressedStill c.args.self.now.file.caches c.allocate_data_cluster_at.new.self.file.caches c.args.old.now) c.in_err-pending.field-0.0 c.in_err-pending.ensures.fails.cause);
}

use Rattle.qcow2_image.proofs.Call.ImageSteps.{stays_then}
use Rattle.qcow2_image.proofs.Call.DataFiles.{own_since}
use Rattle.qcow2_image.proofs.Lemmas.{filling_pinned, taking_listed, taking_none, taking_of_filling, taking_where, where_then, where_with, looking_unlimited, fault_unlimited, listed_after_on, image_step_left, still_holds, image_step_kept, image_step_then, behind_zero, hands_limit, limited_more, limited_taking, other_limit, named_place, hands_met, looking_taking}
use Rattle.qcow2_image.proofs.Call.FailingErrors.{uncopied_met}
use Rattle.qcow2_image.proofs.Common.{IsCompressedStill, MayFailFilling, HeaderFields, cluster_size, HeaderView, KeepsFormat, header_format, with_new_data, handed_on, Qcow2, Prepared, Readies, IsReadied, ClusterMapping, IsFirst, RefusedFillingStep, InternalFillingStep, HoldsAll, pending_with_listed, run_of, pending_in, HasPlace, known_in, l1_index_of, IsCopiedCompressed, MayFailAllocating, HasPinnedMapping}
use Rattle.qcow2_image.proofs.image.Qcow2.prepare_new.Goals as goal
use Rattle.std.proofs.Common.{◌≡◌, ◌≤◌, ◌-◌, ◌*◌, ◌%◌, ◌^◌, ◌++◌, ◌∷◌, rules, [], inl, refl, sym, ap, ◌∙◌, subst, arith, List, length}
use Rattle.qcow2_image.proofs.Prepare.WritableL2Table.{refused as any_refusal}
use Rattle.qcow2_image.proofs.Prepare.NewCluster.{back_none, readied_new}

pub returns-in-Ok-clause-begins : goal.returns-in-Ok-clause-begins
returns-in-Ok-clause-begins g c =
    let old = c.args.self.now in
    let filled = c.new_cluster.new.self in
    let h = old.file.header.fields in
    let format : KeepsFormat h filled.file.header.fields = header_format old.file.header filled.file.header c.in_ok-pending.ensures.step.header in
    record {
      own = own_since c.prepare_at.result (stays_then c.new_cluster.ensures.step.stays c.load_l2.ensures.step.stays).image c.prepare_at.ensures.own;
      first = let size : cluster_size c.load_l2.new.self.file.header.fields ≡ cluster_size h = ap (λ (x : HeaderFields). cluster_size x) (ap (λ x. x.fields) (ap (λ (i : Qcow2 _ _). i.file.header) c.in-Ok.ensures.rest) ∙ format) in
          subst (λ (x : Prepared). IsFirst h c.args.offset c.args.table x) (sym c.prepare_at.ensures.value)
          (record { guest = refl; under = refl; rest = ap (λ s. s - c.args.offset % s) size; one = ap (λ (l : List ClusterMapping). length l) c.prepare_at.ensures.cluster_mapping });
      behind = λ none. let mid = c.load_l2.new.self in
          let n = c.in_ok-pending.pending.first_cluster in
          let same : mid.file.header.fields.cluster_bits ≡ h.cluster_bits = ap (λ (x : HeaderFields). x.cluster_bits) (ap (λ x. x.fields) (ap (λ (i : Qcow2 _ _). i.file.header) c.in-Ok.ensures.rest) ∙ format) in
          let host_is : c.value-host.result ≡ n * 2 ^ mid.file.header.fields.cluster_bits = c.value-host.ensures ∙ c.offset.ensures ∙ ap (λ x. x * 2 ^ c.cluster_bits-bits.result) c.cluster.ensures ∙ ap (λ b. n * 2 ^ b) c.cluster_bits-bits.ensures.value in
          let behind = behind_zero h.cluster_bits mid.file.header.fields.cluster_bits n same c.in_ok-pending.ensures.elsewhere in
          subst (λ (x : Prepared). cluster_size h ≤ x.offset) (sym c.prepare_at.ensures.value) (omega (arith, host_is, behind));
      room = search rules;
    }

pub returns-in_err-old_data-clause-step : goal.returns-in_err-old_data-clause-step
returns-in_err-old_data-clause-step g c = taking_where taking_none

pub returns-in_err-pending-clause-step : goal.returns-in_err-pending-clause-step
returns-in_err-pending-clause-step g c = taking_where c.new_cluster.ensures.step

pub returns-in-Ok-clause-step : goal.returns-in-Ok-clause-step
returns-in-Ok-clause-step g c =
    where_then (where_then (taking_where c.new_cluster.ensures.step) (where_with c.load_l2.ensures.step (ap (λ (i : Qcow2 _ _). i.file.header) c.load_l2.ensures.rest)))
    (taking_where (taking_of_filling (filling_pinned c.prepare_at.ensures.stays c.prepare_at.ensures.pins)))

pub returns-in-Err-clause-step : goal.returns-in-Err-clause-step
returns-in-Err-clause-step g c =
    where_then (where_then (taking_where c.new_cluster.ensures.step) (where_with c.load_l2.ensures.step (ap (λ (i : Qcow2 _ _). i.file.header) c.load_l2.ensures.rest)))
    (taking_where (taking_listed _ c.hand_back-in-Err.ensures))

pub returns-in_err-old_data-clause-sound : goal.returns-in_err-old_data-clause-sound
returns-in_err-old_data-clause-sound g c = λ out sound holds unpinned covered.
    let view = g.S.Storage.view in
    let below = g.F.BackingDisk.backing in
    let old = c.args.self.now in
    record {
      readies = any_refusal (λ r. Readies view below old old out c.args.offset c.args.length c.args.overwrite r) c.from_residual.result (search rules) (back_none view below out old (pending_in view below old out) sound);
      may_fail = hands_met (MayFailAllocating (HasPinnedMapping out) ⊥ (IsCopiedCompressed c.args.self.now.file.header.fields c.args.old.now c.args.offset c.args.length c.args.overwrite) ⊥) c.from_residual.result c.in_err-old_data.field-0.0 c.from_residual.ensures (inl (inl (inl c.in_err-old_data.ensures.fault)));
      limit = hands_limit c.from_residual.result c.in_err-old_data.field-0.0 c.from_residual.ensures (other_limit _ c.in_err-old_data.field-0.0 (fault_unlimited c.in_err-old_data.field-0.0 c.in_err-old_data.ensures.fault));
    }

pub returns-in_err-pending-clause-sound : goal.returns-in_err-pending-clause-sound
returns-in_err-pending-clause-sound g c = λ out sound holds unpinned covered.
    let view = g.S.Storage.view in
    let p = pending_in g.S.Storage.view g.F.BackingDisk.backing c.args.self.now out in
    let below = g.F.BackingDisk.backing in
    let old = c.args.self.now in
    record {
      readies = handed_on (λ r. Readies view below old c.new_cluster.new.self out c.args.offset c.args.length c.args.overwrite r) c.from_residual-in_err-pending.result c.in_err-pending.field-0.0 c.from_residual-in_err-pending.ensures
          ((c.in_err-pending.ensures.sound (pending_in view below old out) out sound (λ n. omega arith)).does);
      may_fail = hands_met (MayFailAllocating (HasPinnedMapping out) ⊥ (IsCopiedCompressed c.args.self.now.file.header.fields c.args.old.now c.args.offset c.args.length c.args.overwrite) ⊥) c.from_residual-in_err-pending.result c.in_err-pending.field-0.0 c.from_residual-in_err-pending.ensures (inl ((c.in_err-pending.ensures.sound p out sound (λ k. omega arith)).may_fail));
      limit = hands_limit c.from_residual-in_err-pending.result c.in_err-pending.field-0.0 c.from_residual-in_err-pending.ensures
          (λ is. limited_more (limited_taking sound ((c.in_err-pending.ensures.sound (pending_in view g.F.BackingDisk.backing old out) out sound (λ k. omega arith)).limit is)));
    }

pub returns-in-Ok-clause-sound : goal.returns-in-Ok-clause-sound
returns-in-Ok-clause-sound g c = λ out sound holds unpinned covered.
    let view = g.S.Storage.view in
    let below = g.F.BackingDisk.backing in
    let old = c.args.self.now in
    let p = pending_in view below old out in
    let filled = c.new_cluster.new.self in
    let n = c.in_ok-pending.pending in
    let taken_is = c.hand_back.ensures ∙ ap (λ l. l ++ n ∷ []) c.new-taken.ensures in
    let gained = (c.in_ok-pending.ensures.sound p out sound (λ x. omega arith)).does in
    let host_is = c.value-host.ensures ∙ c.offset.ensures ∙ ap (λ x. x * 2 ^ c.cluster_bits-bits.result) c.cluster.ensures ∙ ap (λ b. c.in_ok-pending.pending.first_cluster * 2 ^ b) c.cluster_bits-bits.ensures.value in
    record {
      may_fail = search rules;
      limit = search rules;
      readies = λ k free. subst (λ (x : Prepared). IsReadied view below old c.prepare_at.new.self out k c.args.offset c.args.length c.args.overwrite x) (sym c.prepare_at.ensures.value)
          (readied_new view below out old filled c.load_l2.new.self n c.args.old.now c.requires.other.reach c.requires.other.other c.hand_back.new.list c.in_ok-old_data.old_data taken_is c.in_ok-old_data.ensures.list c.prepare_at.result c.prepare_at.ensures.cluster_mapping k c.args.offset c.args.length c.args.table c.value-host.result c.args.overwrite free sound holds unpinned covered gained c.in_ok-pending.ensures.nameable
          ((c.in-Ok.ensures.sound (with_new_data (pending_with_listed p old filled) (run_of c.in_ok-pending.pending)) out gained.image_step.sound).keeps) (ap (λ (i : Qcow2 _ _). i.file.free_list) c.in-Ok.ensures.rest) c.in-Ok.ensures.cached host_is
          ((c.in-Ok.ensures.sound (with_new_data (pending_with_listed p old filled) (run_of c.in_ok-pending.pending)) out gained.image_step.sound).contents) c.prepare_at.new.self c.prepare_at.ensures.pins);
    }

pub returns-in-Err-clause-sound : goal.returns-in-Err-clause-sound
returns-in-Err-clause-sound g c = λ out sound holds unpinned covered.
    let view = g.S.Storage.view in
    let below = g.F.BackingDisk.backing in
    let old = c.args.self.now in
    let p = pending_in view below old out in
    let filled = c.new_cluster.new.self in
    let mid = c.load_l2.new.self in
    let new_data = with_new_data (pending_with_listed p old filled) (run_of c.in_ok-pending.pending) in
    let n = c.in_ok-pending.pending in
    let all_new_data : HoldsAll view below p out = λ x. omega arith in
    let gained = (c.in_ok-pending.ensures.sound p out sound all_new_data).does in
    record {
      readies = let new_data = with_new_data (pending_with_listed p old filled) (run_of n) in
          let still = still_holds view below out old filled p n gained.one all_new_data gained.image_step in
          let loaded = image_step_then view below out old filled mid p new_data new_data gained.image_step (image_step_kept view below out filled mid new_data new_data gained.image_step.sound still still ((c.in-Err.ensures.sound new_data out gained.image_step.sound).keeps)) in
          let gone = subst (λ q. InternalFillingStep view below p (with_new_data q (run_of n)) old mid out) (listed_after_on view below out p old filled mid (ap (λ (i : Qcow2 _ _). i.file.free_list) c.in-Err.ensures.rest)) loaded in
          subst (λ (image : Qcow2 _ _). RefusedFillingStep view below p old image out c.in-Err.refusal) (sym c.hand_back-in-Err.ensures)
          (inl (image_step_left view below out old mid p n gained.one gained.kind gone));
      may_fail = let place = subst (λ b. HasPlace b c.args.table) (sym (ap (λ (v : HeaderView). v.fields.cluster_bits) c.new_cluster.ensures.step.header))
          (named_place old.file.header.fields (known_in view old.file) (l1_index_of old.file.header.fields c.args.offset) c.args.table holds.entry.place) in
          looking_taking ⊥ (IsCopiedCompressed old.file.header.fields c.args.old.now c.args.offset c.args.length c.args.overwrite) ⊥ c.in-Err.refusal ((c.in-Err.ensures.sound new_data out gained.image_step.sound).may_fail place);
      limit = let new_data = with_new_data (pending_with_listed p old filled) (run_of n) in
          let place = subst (λ b. HasPlace b c.args.table) (sym (ap (λ (v : HeaderView). v.fields.cluster_bits) c.new_cluster.ensures.step.header))
          (named_place old.file.header.fields (known_in view old.file) (l1_index_of old.file.header.fields c.args.offset) c.args.table holds.entry.place) in
          other_limit _ c.in-Err.refusal (looking_unlimited c.in-Err.refusal ((c.in-Err.ensures.sound new_data out gained.image_step.sound).may_fail place));
    }

pub returns-in-Err-clause-fails : goal.returns-in-Err-clause-fails
returns-in-Err-clause-fails g c = record {
  cause = subst (λ (image : Qcow2 _ _). MayFailFilling c.args.self.now image c.args.old.now c.in-Err.refusal) (sym c.hand_back-in-Err.ensures)
      (uncopied_met c.load_l2.new.self (IsCompressedStill c.args.self.now.file.caches c.load_l2.new.self.file.caches c.args.old.now) c.in-Err.refusal c.in-Err.ensures.fails.cause);
  faults = search rules;
}

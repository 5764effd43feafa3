use Rattle.qcow2_image.proofs.Call.DataFiles.{none_by_guest}
use Rattle.qcow2_image.proofs.Lemmas.{filling_written, taking_none, taking_of_filling, back_refused, listed_after_same, behind_in_place, ends_elsewhere, finds_shared, next_cluster, next_says, hands_limit, limited_taking, limits_as, other_limit, kept_behind, hands_alone, alone_as, guest_fits, next_reads, place_aligned, place_fits, hands_met, met_as}
use Rattle.std.proofs.Common.{◌≡◌, ◌+◌, ◌-◌, ◌/◌, ◌^◌, ◌%◌, Some, true, false, arith, inl, refl, sym, ap, ◌∙◌, subst, rules}
use Rattle.qcow2_image.proofs.Common.{cluster_size, Data, Zero, pending_in, l1_index_of, cover, handed_on, known_in, Qcow2, FindsBehind, ClusterMappingsAt, IsFilled, IsKeptAlone, InternalFillingStep, IsCompressed, HasUnannounced, IsCopiedCompressed, IfErr-weaker, HasCompressedCached, MayFailFilling, MayFailOn}
use Rattle.qcow2_image.proofs.Prepare.KeptMappings.{behind_alone, behind_kept}
use Rattle.qcow2_image.proofs.Call.FailingErrors.{uncopied_met}
use Rattle.qcow2_image.proofs.Call.KeptOffsets.{filling_held}
use Rattle.qcow2_image.proofs.image.Qcow2.cluster_mapping_behind.Goals as goal
use Rattle.qcow2_image.proofs.Images.Places.{alone_of, inside_of}

pub returns-in-Some-copied_offset-clause-step : goal.returns-in-Some-copied_offset-clause-step
returns-in-Some-copied_offset-clause-step g c = taking_none

pub returns-in-Some-2-clause-step : goal.returns-in-Some-2-clause-step
returns-in-Some-2-clause-step g c = taking_none

pub returns-in_err-fill_kept-in-None-clause-step : goal.returns-in_err-fill_kept-in-None-clause-step
returns-in_err-fill_kept-in-None-clause-step g c = taking_of_filling (filling_written c.fill_kept.ensures.step c.fill_kept.ensures.rest)

pub returns-in_ok-fill_kept-in-None-clause-step : goal.returns-in_ok-fill_kept-in-None-clause-step
returns-in_ok-fill_kept-in-None-clause-step g c = taking_of_filling (filling_written c.fill_kept.ensures.step c.fill_kept.ensures.rest)

pub returns-in-Some-copied_offset-clause-sound : goal.returns-in-Some-copied_offset-clause-sound
returns-in-Some-copied_offset-clause-sound g c = λ out k at may sound.
    let view = g.S.Storage.view in
    let below = g.F.BackingDisk.backing in
    let old = c.args.self.now in
    let p = c.args.prepared.now in
    let h = old.file.header.fields in
    let cluster : c.cluster-cluster.result ≡ (p.guest + p.length) / cluster_size h = c.cluster-cluster.ensures ∙ ap (λ o. o / 2 ^ c.cluster_bits.result) (c.new.ensures ∙ c.in-Some.ensures.1) ∙ ap (λ b. (p.guest + p.length) / 2 ^ b) c.cluster_bits.ensures.value in
    let covered = next_says view below old out k p at c.args.length c.args.table c.args.overwrite may sound c.cluster-cluster.result c.in_ok-old.old cluster (c.in_ok-old.ensures.says (pending_in view below old out) (l1_index_of h p.guest) sound.file) in
    record {
      may_fail = search rules;
      limit = search rules;
      does = behind_in_place view below old out k p at c.args.length c.args.table c.args.overwrite may sound
          (covered ∙ c.in-Some-copied_offset.ensures.place.0 ∙ ap (λ b. Data b true) (c.if-place-host.true ∙ c.in-Some-checked_add.ensures.1));
    }

pub returns-in-Some-2-clause-sound : goal.returns-in-Some-2-clause-sound
returns-in-Some-2-clause-sound g c = λ out k at may sound.
    let view = g.S.Storage.view in
    let below = g.F.BackingDisk.backing in
    let old = c.args.self.now in
    let p = c.args.prepared.now in
    let h = old.file.header.fields in
    let cluster : c.cluster-cluster.result ≡ (p.guest + p.length) / cluster_size h = c.cluster-cluster.ensures ∙ ap (λ o. o / 2 ^ c.cluster_bits.result) (c.new.ensures ∙ c.in-Some.ensures.1) ∙ ap (λ b. (p.guest + p.length) / 2 ^ b) c.cluster_bits.ensures.value in
    let covered = next_says view below old out k p at c.args.length c.args.table c.args.overwrite may sound c.cluster-cluster.result c.in_ok-old.old cluster (c.in_ok-old.ensures.says (pending_in view below old out) (l1_index_of h p.guest) sound.file) in
    record {
      may_fail = search rules;
      limit = search rules;
      does = ends_elsewhere view below old out k p at c.args.length c.args.table c.args.overwrite may sound c.in-Some-copied_offset.place (covered ∙ c.in-Some-copied_offset.ensures.place.0) (λ is. c.if-place-host.false (is ∙ sym c.in-Some-checked_add.ensures.1));
    }

pub returns-in_err-fill_kept-in-None-clause-sound : goal.returns-in_err-fill_kept-in-None-clause-sound
returns-in_err-fill_kept-in-None-clause-sound g c = λ out k at may sound.
    let view = g.S.Storage.view in
    let below = g.F.BackingDisk.backing in
    let old = c.args.self.now in
    let new = c.fill_kept.new.self in
    let p = c.args.prepared.now in
    let h = old.file.header.fields in
    let before = pending_in view below old out in
    let cluster : c.cluster-cluster.result ≡ (p.guest + p.length) / cluster_size h = c.cluster-cluster.ensures ∙ ap (λ o. o / 2 ^ c.cluster_bits.result) (c.new.ensures ∙ c.in-Some.ensures.1) ∙ ap (λ b. (p.guest + p.length) / 2 ^ b) c.cluster_bits.ensures.value in
    let covered = next_says view below old out k p at c.args.length c.args.table c.args.overwrite may sound c.cluster-cluster.result c.in_ok-old.old cluster (c.in_ok-old.ensures.says (pending_in view below old out) (l1_index_of h p.guest) sound.file) in
    let host = c.in-Some-checked_add.host in
    record {
      does = let kept : cover h (known_in view old.file) ((p.guest + p.length) / cluster_size h) ≡ Zero (Some (c.in-Some-checked_add.host, true)) =
          ap (cover h (known_in view old.file)) (next_cluster view below old out k p at c.args.length c.args.table c.args.overwrite may sound) ∙ covered ∙ c.keeps.ensures.answer.0 c.if-keeps.true in
          let alone = behind_alone view below old out k p at c.args.length c.args.table c.args.overwrite may sound c.in-Some-checked_add.host c.in-Some-checked_add.ensures.1 kept (c.keeps.ensures.reach c.if-keeps.true) in
          let image_step = c.fill_kept.ensures.image_step before out sound (λ m. omega arith) (subst (λ x. IsKeptAlone view below old out x host) (sym c.in-Some.ensures.1) alone) in
          let list = ap (λ (image : Qcow2 _ _). image.file.free_list) c.fill_kept.ensures.rest in
          handed_on (λ r. FindsBehind view below old new out c.args.length c.args.overwrite c.args.prepared.now r) c.from_residual-in_err-fill_kept-in-None.result c.in_err-fill_kept-in-None.field-0.0 c.from_residual-in_err-fill_kept-in-None.ensures
          (back_refused view below out old new c.in_err-fill_kept-in-None.field-0.0 sound (inl (subst (λ q. InternalFillingStep view below before q old new out) (sym (listed_after_same view below out before old new list)) image_step)));
      may_fail = let kept : cover h (known_in view old.file) ((p.guest + p.length) / cluster_size h) ≡ Zero (Some (c.in-Some-checked_add.host, true)) =
          ap (cover h (known_in view old.file)) (next_cluster view below old out k p at c.args.length c.args.table c.args.overwrite may sound) ∙ covered ∙ c.keeps.ensures.answer.0 c.if-keeps.true in
          hands_alone (IsCopiedCompressed h (cover h (known_in view old.file) ((p.guest + p.length) / cluster_size h)) (p.guest + p.length) (c.args.length - p.length) c.args.overwrite) ⊥ c.from_residual-in_err-fill_kept-in-None.result c.in_err-fill_kept-in-None.field-0.0 c.from_residual-in_err-fill_kept-in-None.ensures
          (inl (inl (c.in_err-fill_kept-in-None.ensures.fault (kept_behind view below out (pending_in view below old out) old sound _ c.in-Some-checked_add.host kept))));
      limit = hands_limit c.from_residual-in_err-fill_kept-in-None.result c.in_err-fill_kept-in-None.field-0.0 c.from_residual-in_err-fill_kept-in-None.ensures
          (other_limit _ c.in_err-fill_kept-in-None.field-0.0 c.in_err-fill_kept-in-None.ensures.fails.limited);
    }

pub returns-in_ok-fill_kept-in-None-clause-sound : goal.returns-in_ok-fill_kept-in-None-clause-sound
returns-in_ok-fill_kept-in-None-clause-sound g c = λ out k at may sound.
    let view = g.S.Storage.view in
    let below = g.F.BackingDisk.backing in
    let old = c.args.self.now in
    let new = c.fill_kept.new.self in
    let p = c.args.prepared.now in
    let before = pending_in view below old out in
    let h = old.file.header.fields in
    let host = c.in-Some-checked_add.host in
    let cluster : c.cluster-cluster.result ≡ (p.guest + p.length) / cluster_size h = c.cluster-cluster.ensures ∙ ap (λ o. o / 2 ^ c.cluster_bits.result) (c.new.ensures ∙ c.in-Some.ensures.1) ∙ ap (λ b. (p.guest + p.length) / 2 ^ b) c.cluster_bits.ensures.value in
    let covered = next_says view below old out k p at c.args.length c.args.table c.args.overwrite may sound c.cluster-cluster.result c.in_ok-old.old cluster (c.in_ok-old.ensures.says (pending_in view below old out) (l1_index_of h p.guest) sound.file) in
    record {
      may_fail = search rules;
      limit = search rules;
      does = let kept : cover h (known_in view old.file) ((p.guest + p.length) / cluster_size h) ≡ Zero (Some (c.in-Some-checked_add.host, true)) =
          ap (cover h (known_in view old.file)) (next_cluster view below old out k p at c.args.length c.args.table c.args.overwrite may sound) ∙ covered ∙ c.keeps.ensures.answer.0 c.if-keeps.true in
          let alone = behind_alone view below old out k p at c.args.length c.args.table c.args.overwrite may sound c.in-Some-checked_add.host c.in-Some-checked_add.ensures.1 kept (c.keeps.ensures.reach c.if-keeps.true) in
          let image_step = c.fill_kept.ensures.image_step before out sound (λ m. omega arith) (subst (λ x. IsKeptAlone view below old out x host) (sym c.in-Some.ensures.1) alone) in
          let list = ap (λ (image : Qcow2 _ _). image.file.free_list) c.fill_kept.ensures.rest in
          let covers = subst (λ x. cover h (known_in view old.file) (x / cluster_size h) ≡ Zero (Some (c.in-Some-checked_add.host, true))) (sym c.in-Some.ensures.1) kept in
          let filled = subst (λ x. IsFilled view below out.place old new (host / cluster_size h) x (c.args.length - p.length) c.args.overwrite) c.in-Some.ensures.1
          (subst (λ x. IsFilled view below out.place old new (host / cluster_size h) c.in-Some.next x c.args.overwrite) c.saturating_sub-left.ensures (c.in_ok-fill_kept-in-None.ensures.fills before out sound covers)) in
          behind_kept view below old out k p at c.args.length c.args.table c.args.overwrite may sound c.in-Some-checked_add.host c.in-Some-checked_add.ensures.1 kept (c.keeps.ensures.reach c.if-keeps.true) new image_step list filled;
    }

pub returns-in-None-3-clause-sound : goal.returns-in-None-3-clause-sound
returns-in-None-3-clause-sound g c = λ out k at may sound.
    let view = g.S.Storage.view in
    let below = g.F.BackingDisk.backing in
    let old = c.args.self.now in
    let new = c.cluster_mapping_at.new.self in
    let p = c.args.prepared.now in
    let h = old.file.header.fields in
    let cluster : c.cluster-cluster.result ≡ (p.guest + p.length) / cluster_size h = c.cluster-cluster.ensures ∙ ap (λ o. o / 2 ^ c.cluster_bits.result) (c.new.ensures ∙ c.in-Some.ensures.1) ∙ ap (λ b. (p.guest + p.length) / 2 ^ b) c.cluster_bits.ensures.value in
    let o = c.args.overwrite in
    let covered = next_says view below old out k p at c.args.length c.args.table c.args.overwrite may sound c.cluster-cluster.result c.in_ok-old.old cluster (c.in_ok-old.ensures.says (pending_in view below old out) (l1_index_of h p.guest) sound.file) in
    let before = pending_in view below old out in
    let here : cover h (known_in view old.file) ((p.guest + p.length) / cluster_size h) ≡ c.in_ok-old.old = ap (cover h (known_in view old.file)) (next_cluster view below old out k p at c.args.length c.args.table c.args.overwrite may sound) ∙ covered in
    let aligned : c.in-Some-checked_add.host % cluster_size h ≡ 0 = ap (λ b. b % cluster_size h) c.in-Some-checked_add.ensures.1 ∙ place_aligned view below old out k p at c.args.length c.args.table c.args.overwrite may sound in
    let mapping = c.in_ok-old.old in
    let r = c.cluster_mapping_at.result in
    record {
      does = finds_shared view below old out k p at c.args.length c.args.table c.args.overwrite may sound new mapping c.in_ok-old.ensures.reach (c.in-None-3.ensures.none refl) (λ own. let yes = c.keeps.ensures.answer.1 (own ∙ ap (λ b. Zero (Some (b, true))) (sym c.in-Some-checked_add.ensures.1)) in let e : true ≡ false = sym yes ∙ c.if-keeps.false in cc) covered r
          (subst (λ x. ClusterMappingsAt view below before old new out x (c.args.length - p.length) o mapping (p.offset + p.length) r) c.in-Some.ensures.1
          (subst (λ x. ClusterMappingsAt view below before old new out c.in-Some.next x o mapping (p.offset + p.length) r) c.saturating_sub-left.ensures
          (subst (λ x. ClusterMappingsAt view below before old new out c.in-Some.next c.saturating_sub-left.result o mapping x r) c.in-Some-checked_add.ensures.1 ((c.cluster_mapping_at.ensures.sound before out sound (λ m. omega arith)).clusters aligned))));
      may_fail = IfErr-weaker c.cluster_mapping_at.result _ _
          (alone_as (λ copied. (
            subst IsCompressed (sym here) copied.0,
            subst (λ x. HasUnannounced (cluster_size h) x (c.args.length - p.length) c.args.overwrite) c.in-Some.ensures.1 (subst (λ x. HasUnannounced (cluster_size h) c.in-Some.next x c.args.overwrite) c.saturating_sub-left.ensures copied.1),
          )) (λ no. no))
          ((c.cluster_mapping_at.ensures.sound (pending_in view below old out) out sound (λ m. omega arith)).may_fail aligned);
      limit = limits_as c.cluster_mapping_at.result (limited_taking sound) ((c.cluster_mapping_at.ensures.sound (pending_in view below old out) out sound (λ m. omega arith)).limit);
    }

pub returns-in_err-old-clause-sound : goal.returns-in_err-old-clause-sound
returns-in_err-old-clause-sound g c = λ out k at may sound.
    let view = g.S.Storage.view in
    let below = g.F.BackingDisk.backing in
    let old = c.args.self.now in
    let p = c.args.prepared.now in
    let h = old.file.header.fields in
    let cluster : c.cluster-cluster.result ≡ (p.guest + p.length) / cluster_size h = c.cluster-cluster.ensures ∙ ap (λ o. o / 2 ^ c.cluster_bits.result) (c.new.ensures ∙ c.in-Some.ensures.1) ∙ ap (λ b. (p.guest + p.length) / 2 ^ b) c.cluster_bits.ensures.value in
    record {
      does = absurd (let no : false ≡ true = next_reads view below old out k p at c.args.length c.args.table c.args.overwrite may sound c.cluster-cluster.result cluster (c.in_err-old.ensures.reads (pending_in view below old out) (l1_index_of h p.guest) sound.file (inside_of sound)) in cc);
      may_fail = absurd (let no : false ≡ true = next_reads view below old out k p at c.args.length c.args.table c.args.overwrite may sound c.cluster-cluster.result cluster (c.in_err-old.ensures.reads (pending_in view below old out) (l1_index_of h p.guest) sound.file (inside_of sound)) in cc);
      limit = hands_limit c.from_residual.result c.in_err-old.field-0.0 c.from_residual.ensures (other_limit _ c.in_err-old.field-0.0 c.in_err-old.ensures.limited);
    }

pub returns-in_default-clause-sound : goal.returns-in_default-clause-sound
returns-in_default-clause-sound g c = λ out k at may sound.
    let never = c.in_default.ensures (guest_fits g.S.Storage.view g.F.BackingDisk.backing c.args.self.now out k c.args.prepared.now at c.args.length c.args.table c.args.overwrite may sound) in
    record { does = absurd never; may_fail = absurd never; limit = absurd never }

pub returns-in_default-checked_add-clause-sound : goal.returns-in_default-checked_add-clause-sound
returns-in_default-checked_add-clause-sound g c = λ out k at may sound.
    record {
      does = search rules;
      limit = search rules;
      may_fail = absurd (c.in_default-checked_add.ensures (place_fits g.S.Storage.view g.F.BackingDisk.backing c.args.self.now out k c.args.prepared.now at c.args.length c.args.table c.args.overwrite may sound));
    }

pub returns-in-None-2-clause-sound : goal.returns-in-None-2-clause-sound
returns-in-None-2-clause-sound g c = λ out k at may sound. absurd (none_by_guest c.args.self.now (alone_of sound) (sym c.is_placed_by_guest.ensures ∙ c.if-is_placed_by_guest.true))

pub returns-in_err-fill_kept-in-None-clause-fails : goal.returns-in_err-fill_kept-in-None-clause-fails
returns-in_err-fill_kept-in-None-clause-fails g c = record {
  faults = search rules;
  cause = hands_met (MayFailOn c.fill_kept.new.self) c.from_residual-in_err-fill_kept-in-None.result c.in_err-fill_kept-in-None.field-0.0 c.from_residual-in_err-fill_kept-in-None.ensures
      (uncopied_met c.fill_kept.new.self (HasCompressedCached c.fill_kept.new.self.file.caches) c.in_err-fill_kept-in-None.field-0.0 c.in_err-fill_kept-in-None.ensures.fails.cause);
}

pub returns-in-None-2-clause-fails : goal.returns-in-None-2-clause-fails
returns-in-None-2-clause-fails g c = record {
  faults = c.cluster_mapping_at_guest.ensures.fails.faults;
  cause = met_as (MayFailFilling c.args.self.now c.cluster_mapping_at_guest.new.self c.in_ok-old.old) (MayFailOn c.cluster_mapping_at_guest.new.self) c.cluster_mapping_at_guest.result
      (filling_held c.args.self.now c.cluster_mapping_at_guest.new.self c.in_ok-old.old c.in_ok-old.ensures.held) c.cluster_mapping_at_guest.ensures.fails.cause;
}

pub returns-in-None-3-clause-fails : goal.returns-in-None-3-clause-fails
returns-in-None-3-clause-fails g c = record {
  faults = c.cluster_mapping_at.ensures.fails.faults;
  cause = met_as (MayFailFilling c.args.self.now c.cluster_mapping_at.new.self c.in_ok-old.old) (MayFailOn c.cluster_mapping_at.new.self) c.cluster_mapping_at.result
      (filling_held c.args.self.now c.cluster_mapping_at.new.self c.in_ok-old.old c.in_ok-old.ensures.held) c.cluster_mapping_at.ensures.fails.cause;
}

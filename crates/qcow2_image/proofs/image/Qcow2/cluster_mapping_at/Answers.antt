use Rattle.qcow2_image.proofs.Lemmas.{taking_none, fault_unlimited, hands_limit, other_limit, hands_alone}
use Rattle.std.proofs.Common.{◌≡◌, ◌⊎◌, ◌≢◌, ◌*◌, ◌/◌, ◌^◌, ◌++◌, ◌∷◌, ◌%◌, rules, [], sym, ap, ◌∙◌, subst, is_some, inl, Ok}
use Rattle.qcow2_image.proofs.Common.{count, cluster_size, IsHostCluster, IsPastLimits, known_in, handed_on, own_cluster, New, GainsAt, ClusterMappingsAt, IsCopiedCompressed}
use Rattle.qcow2_image.proofs.Prepare.WritableL2Table.{refused as any_refusal}
use Rattle.qcow2_image.proofs.Prepare.NewCluster.{back_none}
use Rattle.qcow2_image.proofs.image.Qcow2.cluster_mapping_at.Goals as goal

pub returns-in_default-clause-sound : goal.returns-in_default-clause-sound
returns-in_default-clause-sound g c = λ p out sound holds.
    let size = cluster_size c.args.self.now.file.header.fields in
    record {
      clusters = λ whole.
          let there : c.new.result % 2 ^ c.cluster_bits-bits.result ≡ 0 = ap (λ b. c.new.result % 2 ^ b) c.cluster_bits-bits.ensures.value ∙ ap (λ o. o % size) c.new.ensures ∙ whole in
          absurd (c.in_default.ensures.none there);
      may_fail = λ whole. tt;
      limit = tt;
    }

pub returns-in_err-old_data-clause-sound : goal.returns-in_err-old_data-clause-sound
returns-in_err-old_data-clause-sound g c = λ p out sound holds.
    let old = c.args.self.now in
    let below = g.F.BackingDisk.backing in
    let view = g.S.Storage.view in
    record {
      clusters = λ whole. any_refusal (λ r. ClusterMappingsAt view below p old old out c.args.offset c.args.length c.args.overwrite c.args.old.now c.args.host r) c.from_residual.result (search rules) (back_none view below out old p sound);
      may_fail = λ whole. hands_alone (IsCopiedCompressed old.file.header.fields c.args.old.now c.args.offset c.args.length c.args.overwrite) ⊥ c.from_residual.result c.in_err-old_data.field-0.0 c.from_residual.ensures (inl (inl c.in_err-old_data.ensures.fault));
      limit = hands_limit c.from_residual.result c.in_err-old_data.field-0.0 c.from_residual.ensures (other_limit _ c.in_err-old_data.field-0.0 (fault_unlimited c.in_err-old_data.field-0.0 c.in_err-old_data.ensures.fault));
    }

pub returns-in_err-pending-clause-sound : goal.returns-in_err-pending-clause-sound
returns-in_err-pending-clause-sound g c = λ p out sound holds.
    let old = c.args.self.now in
    record {
      clusters = λ whole. handed_on (ClusterMappingsAt g.S.Storage.view g.F.BackingDisk.backing p old c.new_cluster_at.new.self out c.args.offset c.args.length c.args.overwrite c.args.old.now c.args.host) c.from_residual-in_err-pending.result c.in_err-pending.field-0.0 c.from_residual-in_err-pending.ensures
          ((c.in_err-pending.ensures.sound p out sound holds).does);
      may_fail = λ whole. hands_alone (IsCopiedCompressed old.file.header.fields c.args.old.now c.args.offset c.args.length c.args.overwrite) ⊥ c.from_residual-in_err-pending.result c.in_err-pending.field-0.0 c.from_residual-in_err-pending.ensures ((c.in_err-pending.ensures.sound p out sound holds).may_fail);
      limit = hands_limit c.from_residual-in_err-pending.result c.in_err-pending.field-0.0 c.from_residual-in_err-pending.ensures ((c.in_err-pending.ensures.sound p out sound holds).limit);
    }

pub returns-in_default-2-clause-sound : goal.returns-in_default-2-clause-sound
returns-in_default-2-clause-sound g c = λ p out sound holds.
    let old = c.args.self.now in
    let view = g.S.Storage.view in
    record {
      clusters = λ whole. let new = c.new_cluster_at.new.self in
          let h = old.file.header.fields in
          let took = subst (λ v. GainsAt view g.F.BackingDisk.backing p old new out c.args.offset c.args.length c.args.overwrite c.args.old.now c.in-Some.cluster (Ok v)) c.in_default-2.is ((c.in_ok-pending.ensures.sound p out sound holds).does) in
          let host_is : c.in-Some.cluster * cluster_size h ≡ c.args.host = ap (λ b. c.in-Some.cluster * 2 ^ b) (sym c.cluster_bits-bits.ensures.value) ∙ c.in-Some.ensures.cluster ∙ c.new.ensures in
          let same : c.args.host / cluster_size h ≡ c.in-Some.cluster = ap (λ o. o / cluster_size h) (sym host_is) ∙ own_cluster h.cluster_bits c.in-Some.cluster in
          (took.0, subst (λ x. IsPastLimits old.file.header.fields x ⊎ (count new.file.header.fields (known_in view new.file) x ≢ 0)) (sym same) took.1);
      may_fail = search rules;
      limit = search rules;
    }

pub returns-clause-sound : goal.returns-clause-sound
returns-clause-sound g c = λ p out sound holds.
    record {
      clusters = λ whole. let old = c.args.self.now in
          let h = old.file.header.fields in
          let n = c.in-Some-2.pending in
          let took = subst (λ v. GainsAt g.S.Storage.view g.F.BackingDisk.backing p old c.new_cluster_at.new.self out c.args.offset c.args.length c.args.overwrite c.args.old.now c.in-Some.cluster (Ok v)) c.in-Some-2.is ((c.in_ok-pending.ensures.sound p out sound holds).does) in
          let host_is : c.in-Some.cluster * cluster_size h ≡ c.args.host = ap (λ b. c.in-Some.cluster * 2 ^ b) (sym c.cluster_bits-bits.ensures.value) ∙ c.in-Some.ensures.cluster ∙ c.new.ensures in
          let taken_is = c.hand_back.ensures ∙ ap (λ l. l ++ n ∷ []) c.new-taken.ensures in
          record {
            run = n;
            is = ap (λ t. New t c.in_ok-old_data.old_data) taken_is ∙ ap (λ d. New (n ∷ []) d) c.in_ok-old_data.ensures.list;
            place = ap (λ x. x * cluster_size h) took.0 ∙ host_is;
            nameable = subst (IsHostCluster h.cluster_bits) (sym took.0) (c.in_ok-pending.ensures.nameable (ap is_some c.in-Some-2.is));
            gained = took.1;
          };
      may_fail = search rules;
      limit = search rules;
    }

pub returns-in_default-clause-step : goal.returns-in_default-clause-step
returns-in_default-clause-step g c = taking_none

pub returns-in_err-old_data-clause-step : goal.returns-in_err-old_data-clause-step
returns-in_err-old_data-clause-step g c = taking_none

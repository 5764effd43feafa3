use Rattle.std.proofs.Common.{◌≡◌, ◌≤◌, ◌%◌, ◌∙◌, ap, arith, refl, subst, sym, IfErr}
use Rattle.qcow2_image.proofs.Common.{pow_pos, cluster_size, rounded_up, Overflow, FillsOrRefuses, known_in, pending_in, HasCompressedIn, HasNearEntries, MayFailAllocating, HasPinnedMapping}
use Rattle.qcow2_image.proofs.Lemmas.{refused_here, up_to_end, up_whole, never_past, step_none}
use Rattle.qcow2_image.proofs.image.Qcow2.fill_new_clusters.Goals as goal

pub returns-in_default-clause-step : goal.returns-in_default-clause-step
returns-in_default-clause-step g c = step_none

pub returns-in_default-clause-sound : goal.returns-in_default-clause-sound
returns-in_default-clause-sound g c = λ out sound le.
    record {
      fills =
          let cs = cluster_size c.args.self.now.file.header.fields in
          refused_here g.S.Storage.view g.F.BackingDisk.backing out c.args.self.now c.args.old (rounded_up cs c.args.size) Overflow (λ is. cc) (λ is. cc) sound;
      may_fail = λ near.
          let old = c.args.self.now in
          absurd (never_past g.S.Storage.view g.F.BackingDisk.backing out (pending_in g.S.Storage.view g.F.BackingDisk.backing old out) old sound c.args.size c.args.size c.cluster_size.result (omega arith) c.cluster_size.ensures.value near (c.in_default.ensures.none refl));
    }

pub returns-clause-sound : goal.returns-clause-sound
returns-clause-sound g c = λ out sound le.
    let old = c.args.self.now in
    record {
      fills =
          let cs = cluster_size old.file.header.fields in
          let some = pow_pos old.file.header.fields.cluster_bits in
          let end : c.in-Some.end ≡ rounded_up (cluster_size c.args.self.now.file.header.fields) c.args.size = c.in-Some.ensures.some ∙ ap (λ s. rounded_up s c.args.size) c.cluster_size.ensures.value in
          subst (λ n. FillsOrRefuses g.S.Storage.view g.F.BackingDisk.backing n c.args.old n old c.fill_range.new.self out c.fill_range.result) end
          ((c.fill_range.ensures.sound out sound (subst (λ n. c.args.old ≤ n) (sym end) (up_to_end cs c.args.old c.args.size some le)) (subst (λ n. n % cs ≡ 0) (sym end) (up_whole cs c.args.size some))).fills);
      may_fail = λ near.
          let h = old.file.header.fields in
          let cs = cluster_size h in
          let some = pow_pos h.cluster_bits in
          let end : c.in-Some.end ≡ rounded_up (cluster_size c.args.self.now.file.header.fields) c.args.size = c.in-Some.ensures.some ∙ ap (λ s. rounded_up s c.args.size) c.cluster_size.ensures.value in
          subst (λ n. IfErr c.fill_range.result (MayFailAllocating (HasPinnedMapping out) (HasPinnedMapping out) (HasCompressedIn c.args.old n h (known_in g.S.Storage.view old.file)) ⊥)) end
          ((c.fill_range.ensures.sound out sound (subst (λ n. c.args.old ≤ n) (sym end) (up_to_end cs c.args.old c.args.size some le)) (subst (λ n. n % cs ≡ 0) (sym end) (up_whole cs c.args.size some))).may_fail (subst (λ n. HasNearEntries n h) (sym end) near));
    }

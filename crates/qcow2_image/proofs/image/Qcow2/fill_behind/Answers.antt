use Rattle.qcow2_image.proofs.Call.FailingErrors.{fault_met}
use Rattle.qcow2_image.proofs.Lemmas.{fault_unlimited, early_refused, grown_none, grown_or_refused, step_none, hands_met}
use Rattle.std.proofs.Common.{◌<◌, inl, inr, ap, refl, subst, sym, arith, IfErr, Result}
use Rattle.qcow2_image.proofs.Common.{shows_old, handed_on, cluster_size, rounded_up, FillsGrownOrRefuses, cases_lt, known_in, MayFailGrowing, PreallocateMode, IfErr-weaker}
use Rattle.qcow2_image.specs.Preallocation.{first_zeros}
use Rattle.qcow2_image.proofs.image.Qcow2.fill_behind.Goals as goal

pub returns-in-None-clause-step : goal.returns-in-None-clause-step
returns-in-None-clause-step g c = step_none

pub returns-in_err-writes-in-WriteData-clause-step : goal.returns-in_err-writes-in-WriteData-clause-step
returns-in_err-writes-in-WriteData-clause-step g c = step_none

pub returns-in-None-clause-sound : goal.returns-in-None-clause-sound
returns-in-None-clause-sound g c = λ out sound.
    record {
      fills = grown_none g.S.Storage.view g.F.BackingDisk.backing out c.args.self.now sound c.args.size c.args.mode (subst (λ n. n < c.args.size) c.requires.end c.requires.larger) c.in-None.is;
      may_fail = λ near. tt;
    }

pub returns-in-Zero-clause-sound : goal.returns-in-Zero-clause-sound
returns-in-Zero-clause-sound g c = λ out sound.
    let larger = c.requires.larger in
    record {
      fills =
          grown_or_refused g.S.Storage.view g.F.BackingDisk.backing out c.args.self.now sound c.args.size c.args.mode (subst (λ n. n < c.args.size) c.requires.end c.requires.larger) (ap shows_old c.in-Zero.is) c.zero_grown.new.self (rounded_up (cluster_size c.args.self.now.file.header.fields) c.args.old) c.args.old (sym (ap (first_zeros (cluster_size c.args.self.now.file.header.fields) c.args.old c.args.size) c.in-Zero.is)) c.requires.end c.zero_grown.result
          ((c.zero_grown.ensures.sound out sound (omega (arith, larger))).fills);
      may_fail = λ near.
          let old = c.args.self.now in
          let h = old.file.header.fields in
          elim (cases_lt h.version 3) [
            | inl low ↦ subst (λ (r : Result _ _). IfErr r (MayFailGrowing out c.args.mode c.args.old (rounded_up (cluster_size h) c.args.size) h (known_in g.S.Storage.view old.file))) (sym (c.zero_grown.ensures.version low).0) (inr (refl, (c.in-Zero.is, low)))
            | inr high ↦ subst (λ (m : PreallocateMode). IfErr c.zero_grown.result (MayFailGrowing out m c.args.old (rounded_up (cluster_size h) c.args.size) h (known_in g.S.Storage.view old.file))) (sym c.in-Zero.is) (IfErr-weaker c.zero_grown.result _ _ (λ e why. inl why) ((c.zero_grown.ensures.sound out sound (omega (arith, larger))).may_fail high near))
          ];
    }

pub returns-in-FormatAllocate-clause-sound : goal.returns-in-FormatAllocate-clause-sound
returns-in-FormatAllocate-clause-sound g c = λ out sound.
    let larger = c.requires.larger in
    record {
      fills =
          grown_or_refused g.S.Storage.view g.F.BackingDisk.backing out c.args.self.now sound c.args.size c.args.mode (subst (λ n. n < c.args.size) c.requires.end c.requires.larger) (ap shows_old c.in-FormatAllocate.is) c.allocate_grown.new.self (rounded_up (cluster_size c.args.self.now.file.header.fields) c.args.size) c.args.old (sym (ap (first_zeros (cluster_size c.args.self.now.file.header.fields) c.args.old c.args.size) c.in-FormatAllocate.is)) c.requires.end c.allocate_grown.result
          ((c.allocate_grown.ensures.sound out sound (omega (arith, larger))).fills);
      may_fail = λ near.
          let old = c.args.self.now in
          let h = old.file.header.fields in
          subst (λ (m : PreallocateMode). IfErr c.allocate_grown.result (MayFailGrowing out m c.args.old (rounded_up (cluster_size h) c.args.size) h (known_in g.S.Storage.view old.file))) (sym c.in-FormatAllocate.is) (IfErr-weaker c.allocate_grown.result _ _ (λ e why. inl why) ((c.allocate_grown.ensures.sound out sound (omega (arith, larger))).may_fail near));
    }

pub returns-in-FullAllocate-clause-sound : goal.returns-in-FullAllocate-clause-sound
returns-in-FullAllocate-clause-sound g c = λ out sound.
    let larger = c.requires.larger in
    record {
      fills =
          grown_or_refused g.S.Storage.view g.F.BackingDisk.backing out c.args.self.now sound c.args.size c.args.mode (subst (λ n. n < c.args.size) c.requires.end c.requires.larger) (ap shows_old c.in-FullAllocate.is) c.allocate_grown-in-FullAllocate.new.self (rounded_up (cluster_size c.args.self.now.file.header.fields) c.args.size) c.args.old (sym (ap (first_zeros (cluster_size c.args.self.now.file.header.fields) c.args.old c.args.size) c.in-FullAllocate.is)) c.requires.end c.allocate_grown-in-FullAllocate.result
          ((c.allocate_grown-in-FullAllocate.ensures.sound out sound (omega (arith, larger))).fills);
      may_fail = λ near.
          let old = c.args.self.now in
          let h = old.file.header.fields in
          subst (λ (m : PreallocateMode). IfErr c.allocate_grown-in-FullAllocate.result (MayFailGrowing out m c.args.old (rounded_up (cluster_size h) c.args.size) h (known_in g.S.Storage.view old.file))) (sym c.in-FullAllocate.is) (IfErr-weaker c.allocate_grown-in-FullAllocate.result _ _ (λ e why. inl why) ((c.allocate_grown-in-FullAllocate.ensures.sound out sound (omega (arith, larger))).may_fail near));
    }

pub returns-in_ok-writes-in-WriteData-clause-sound : goal.returns-in_ok-writes-in-WriteData-clause-sound
returns-in_ok-writes-in-WriteData-clause-sound g c = λ out sound.
    let larger = c.requires.larger in
    record {
      fills =
          grown_or_refused g.S.Storage.view g.F.BackingDisk.backing out c.args.self.now sound c.args.size c.args.mode (subst (λ n. n < c.args.size) c.requires.end c.requires.larger) (ap shows_old c.in-WriteData.is) c.allocate_grown-in-WriteData.new.self (rounded_up (cluster_size c.args.self.now.file.header.fields) c.args.size) c.args.old (sym (ap (first_zeros (cluster_size c.args.self.now.file.header.fields) c.args.old c.args.size) c.in-WriteData.is)) c.requires.end c.allocate_grown-in-WriteData.result
          ((c.allocate_grown-in-WriteData.ensures.sound out sound (omega (arith, larger))).fills);
      may_fail = λ near.
          let old = c.args.self.now in
          let h = old.file.header.fields in
          subst (λ (m : PreallocateMode). IfErr c.allocate_grown-in-WriteData.result (MayFailGrowing out m c.args.old (rounded_up (cluster_size h) c.args.size) h (known_in g.S.Storage.view old.file))) (sym c.in-WriteData.is) (IfErr-weaker c.allocate_grown-in-WriteData.result _ _ (λ e why. inl why) ((c.allocate_grown-in-WriteData.ensures.sound out sound (omega (arith, larger))).may_fail near));
    }

pub returns-in_err-writes-in-WriteData-clause-sound : goal.returns-in_err-writes-in-WriteData-clause-sound
returns-in_err-writes-in-WriteData-clause-sound g c = λ out sound.
    record {
      fills =
          let view = g.S.Storage.view in
          let below = g.F.BackingDisk.backing in
          let old = c.args.self.now in
          let e = c.in_err-writes-in-WriteData.field-0.0 in
          handed_on (λ r. FillsGrownOrRefuses view below c.args.size c.args.mode old old out r) c.from_residual.result e c.from_residual.ensures
          (early_refused view below out old sound c.args.size c.args.mode (subst (λ n. n < c.args.size) c.requires.end c.requires.larger) (ap shows_old c.in-WriteData.is) e (fault_met _ e c.in_err-writes-in-WriteData.ensures.fault) (fault_unlimited e c.in_err-writes-in-WriteData.ensures.fault));
      may_fail = λ near.
          let h = c.args.self.now.file.header.fields in
          hands_met (MayFailGrowing out c.args.mode c.args.old (rounded_up (cluster_size h) c.args.size) h (known_in g.S.Storage.view c.args.self.now.file)) c.from_residual.result c.in_err-writes-in-WriteData.field-0.0 c.from_residual.ensures
          (inl (inl (inl (inl c.in_err-writes-in-WriteData.ensures.fault))));
    }

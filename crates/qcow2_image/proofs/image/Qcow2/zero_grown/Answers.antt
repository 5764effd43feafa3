use Rattle.std.proofs.Common.{◌≡◌, ◌≤◌, ◌%◌, ◌∙◌, ap, refl, subst, sym, arith, IfErr}
use Rattle.qcow2_image.proofs.Common.{pow_pos, cluster_size, rounded_up, Overflow, Version, FillsOrRefuses, known_in, pending_in, HasCompressedIn, HasNearEntries, MayFailAllocating, HasPinnedMapping}
use Rattle.qcow2_image.proofs.Lemmas.{refused_here, up_least, up_rising, up_whole, never_past, step_none}
use Rattle.qcow2_image.proofs.image.Qcow2.zero_grown.Goals as goal

pub returns-then-version-lt3-clause-step : goal.returns-then-version-lt3-clause-step
returns-then-version-lt3-clause-step g c = step_none

pub returns-in_default-clause-step : goal.returns-in_default-clause-step
returns-in_default-clause-step g c = step_none

pub returns-in_default-rounded_up-clause-step : goal.returns-in_default-rounded_up-clause-step
returns-in_default-rounded_up-clause-step g c = step_none

pub returns-then-version-lt3-clause-sound : goal.returns-then-version-lt3-clause-sound
returns-then-version-lt3-clause-sound g c = λ out sound le.
    record {
      fills =
          let cs = cluster_size c.args.self.now.file.header.fields in
          refused_here g.S.Storage.view g.F.BackingDisk.backing out c.args.self.now c.args.old (rounded_up cs c.args.size) Version (λ is. cc) (λ is. cc) sound;
      may_fail = λ version near. absurd (let low = c.if-version-lt3.true in let is = c.version.ensures.value in omega (arith, low, is, version));
    }

pub returns-in_default-clause-sound : goal.returns-in_default-clause-sound
returns-in_default-clause-sound g c = λ out sound le.
    record {
      fills =
          let cs = cluster_size c.args.self.now.file.header.fields in
          refused_here g.S.Storage.view g.F.BackingDisk.backing out c.args.self.now c.args.old (rounded_up cs c.args.size) Overflow (λ is. cc) (λ is. cc) sound;
      may_fail = λ version near.
          let old = c.args.self.now in
          absurd (never_past g.S.Storage.view g.F.BackingDisk.backing out (pending_in g.S.Storage.view g.F.BackingDisk.backing old out) old sound c.args.size c.args.old c.cluster_size-cluster_size.result le c.cluster_size-cluster_size.ensures.value near (c.in_default.ensures.none refl));
    }

pub returns-in_default-rounded_up-clause-sound : goal.returns-in_default-rounded_up-clause-sound
returns-in_default-rounded_up-clause-sound g c = λ out sound le.
    record {
      fills =
          let cs = cluster_size c.args.self.now.file.header.fields in
          refused_here g.S.Storage.view g.F.BackingDisk.backing out c.args.self.now c.args.old (rounded_up cs c.args.size) Overflow (λ is. cc) (λ is. cc) sound;
      may_fail = λ version near.
          let old = c.args.self.now in
          absurd (never_past g.S.Storage.view g.F.BackingDisk.backing out (pending_in g.S.Storage.view g.F.BackingDisk.backing old out) old sound c.args.size c.args.size c.cluster_size-cluster_size.result (omega arith) c.cluster_size-cluster_size.ensures.value near (c.in_default-rounded_up.ensures.none refl));
    }

pub returns-clause-sound : goal.returns-clause-sound
returns-clause-sound g c = λ out sound le.
    let old = c.args.self.now in
    let size = c.cluster_size-cluster_size.ensures.value in
    record {
      fills =
          let view = g.S.Storage.view in
          let below = g.F.BackingDisk.backing in
          let cs = cluster_size old.file.header.fields in
          let some = pow_pos old.file.header.fields.cluster_bits in
          let from : c.in-Some.from ≡ rounded_up (cluster_size c.args.self.now.file.header.fields) c.args.old = c.in-Some.ensures.some ∙ ap (λ s. rounded_up s c.args.old) size in
          let end : c.in-Some-rounded_up.end ≡ rounded_up (cluster_size c.args.self.now.file.header.fields) c.args.size = c.in-Some-rounded_up.ensures.some ∙ ap (λ s. rounded_up s c.args.size) size in
          let version : 3 ≤ c.args.self.now.file.header.fields.version = subst (λ v. 3 ≤ v) c.version.ensures.value c.if-version-lt3.false in
          let least = up_least cs c.args.old some in
          let rising = up_rising cs c.args.old c.args.size some le in
          subst (λ n. FillsOrRefuses view below (rounded_up cs c.args.old) c.args.old n old c.zero_between.new.self out c.zero_between.result) end
          (subst (λ n. FillsOrRefuses view below n c.args.old c.in-Some-rounded_up.end old c.zero_between.new.self out c.zero_between.result) from
          ((c.zero_between.ensures.sound out sound (omega (arith, from, least)) (omega (arith, from, end, rising)) (subst (λ n. n % cs ≡ 0) (sym from) (up_whole cs c.args.old some), subst (λ n. n % cs ≡ 0) (sym end) (up_whole cs c.args.size some)) version).fills));
      may_fail = λ version near.
          let h = old.file.header.fields in
          let cs = cluster_size h in
          let some = pow_pos h.cluster_bits in
          let from : c.in-Some.from ≡ rounded_up (cluster_size c.args.self.now.file.header.fields) c.args.old = c.in-Some.ensures.some ∙ ap (λ s. rounded_up s c.args.old) size in
          let end : c.in-Some-rounded_up.end ≡ rounded_up (cluster_size c.args.self.now.file.header.fields) c.args.size = c.in-Some-rounded_up.ensures.some ∙ ap (λ s. rounded_up s c.args.size) size in
          let least = up_least cs c.args.old some in
          let rising = up_rising cs c.args.old c.args.size some le in
          subst (λ n. IfErr c.zero_between.result (MayFailAllocating (HasPinnedMapping out) (HasPinnedMapping out) (HasCompressedIn c.args.old n h (known_in g.S.Storage.view old.file)) ⊥)) from
          ((c.zero_between.ensures.sound out sound (omega (arith, from, least)) (omega (arith, from, end, rising)) (subst (λ n. n % cs ≡ 0) (sym from) (up_whole cs c.args.old some), subst (λ n. n % cs ≡ 0) (sym end) (up_whole cs c.args.size some)) version).may_fail
          (subst (λ n. HasNearEntries n h) (sym end) near));
    }

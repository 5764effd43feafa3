use Rattle.std.proofs.Common.{◌≡◌, ◌⊎◌, ◌/◌, inl, sym, ◌∙◌, subst, is_some, rules, inr, refl, false, true}
use Rattle.qcow2_image.proofs.Common.{IsCompressedAt, cluster_size, cover, kind_at, known_header, known_in, state_in, found_kind, IsCacheHeld, MayFailLooking, MayFailTelling}
use Rattle.qcow2_image.proofs.Map.Special.{found_special, found_plain, special_kind, special_told}
use Rattle.qcow2_alloc.specs.declared.error.ImageError.TheVariants.{Compressed}
use Rattle.qcow2_image.proofs.Prepare.FailingCopies.{hands_met}
use Rattle.qcow2_image.proofs.image.Qcow2.check_not_compressed.Goals as goal

pub returns-then-is_special-clause-sound : goal.returns-then-is_special-clause-sound
returns-then-is_special-clause-sound g c = λ p out sound.
    let view = g.S.Storage.view in
    record {
      keeps = (c.run_from.ensures.sound p out sound).keeps;
      may_fail = search rules;
      reports = let new = c.run_from.new.self in
          let known = known_in view new.file in
          let crash_invariant = ((c.in_ok-kind.ensures.sound p out sound).keeps).sound.file.caches.kept.kept.crash_invariant in
          λ is. let found = subst (λ h. found_kind c.in_ok-kind.kind ≡ kind_at h (is_some new.backing) c.args.offset (cover h known (c.args.offset / cluster_size h))) (sym (known_header (state_in view new.file p) crash_invariant)) ((c.in_ok-kind.ensures.sound p out sound).run).kind_is in
          subst (λ k. IsCompressedAt k c.args.offset) ((c.in_ok-kind.ensures.sound p out sound).known)
          (found_special known (is_some new.backing) c.args.offset (found_kind c.in_ok-kind.kind) found (sym c.is_special.ensures ∙ c.if-is_special.true));
    }

pub returns-clause-sound : goal.returns-clause-sound
returns-clause-sound g c = λ p out sound.
    let view = g.S.Storage.view in
    record {
      keeps = (c.run_from.ensures.sound p out sound).keeps;
      may_fail = search rules;
      reports = let new = c.run_from.new.self in
          let known = known_in view new.file in
          let crash_invariant = ((c.in_ok-kind.ensures.sound p out sound).keeps).sound.file.caches.kept.kept.crash_invariant in
          λ is. let found = subst (λ h. found_kind c.in_ok-kind.kind ≡ kind_at h (is_some new.backing) c.args.offset (cover h known (c.args.offset / cluster_size h))) (sym (known_header (state_in view new.file p) crash_invariant)) ((c.in_ok-kind.ensures.sound p out sound).run).kind_is in
          found_plain known (is_some new.backing) c.args.offset (found_kind c.in_ok-kind.kind) found (sym c.is_special.ensures ∙ c.if-is_special.false)
          (subst (λ k. IsCompressedAt k c.args.offset) (sym ((c.in_ok-kind.ensures.sound p out sound).known)) is);
    }

pub returns-in_err-kind-clause-sound : goal.returns-in_err-kind-clause-sound
returns-in_err-kind-clause-sound g c = λ p out sound.
    record {
      keeps = (c.run_from.ensures.sound p out sound).keeps;
      may_fail = hands_met (λ e. MayFailLooking (IsCacheHeld c.args.self.now out) e ⊎ (e ≡ Compressed)) c.from_residual.result c.in_err-kind.field-0.0 c.from_residual.ensures (inl ((c.in_err-kind.ensures.sound p out sound).may_fail));
      reports = search rules;
    }

pub returns-in_err-kind-clause-fails : goal.returns-in_err-kind-clause-fails
returns-in_err-kind-clause-fails g c = record {
  faults = search rules;
  cause = hands_met (MayFailTelling c.args.self.now c.run_from.new.self c.args.offset 1) c.from_residual.result c.in_err-kind.field-0.0 c.from_residual.ensures (inl c.in_err-kind.ensures.fails.cause);
}

pub returns-then-is_special-clause-fails : goal.returns-then-is_special-clause-fails
returns-then-is_special-clause-fails g c = record { faults = search rules; cause = inr (refl, c.in_ok-kind.ensures.kind.special (special_kind c.in_ok-kind.kind (sym c.is_special.ensures ∙ c.if-is_special.true))) }

pub returns-clause-plain : goal.returns-clause-plain
returns-clause-plain g c = λ compressed.
    let no : false ≡ true = sym (sym c.is_special.ensures ∙ c.if-is_special.false) ∙ special_told c.in_ok-kind.kind (c.in_ok-kind.ensures.plain compressed) in
    cc

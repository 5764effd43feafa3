use Rattle.qcow2_session.proofs.Common.{refl, rules, ◌∙◌, is_failed, in_image}
use Rattle.qcow2_session.specs.declared.session.Command.TheVariants as C
use Rattle.qcow2_session.specs.declared.session.Reply.TheVariants as R
use Rattle.qcow2_session.proofs.Lemmas.{is_answered, is_refused, not_failed, same_error, where_failed, answered_at_once, refused_at_once, quiet_silent}
use Rattle.qcow2_session.proofs.session.invalidate.Goals as goal

pub returns-in-Err : goal.returns-in-Err
returns-in-Err g c = λ slots.
    let step = c.in-Err.ensures.step in
    record {
      keeps = search rules;
      size = search rules;
      counts = search rules;
      marks = refused_at_once g.S.Storage.view c.args.image.now c.invalidate_cache.new.self c.in-Err.refusal step.once_written step.marks;
      header_cluster = λ kept. absurd kept;
      slots = refl;
      steps = λ kept. absurd kept;
      finds = search rules;
      after = refl;
      reports = tt;
      causes = let before = (in_image slots.prepared.items) in
          let sound = c.in-Err.ensures.sound in
          is_refused g.S.Storage.view g.F.BackingDisk.backing c.args.image.now c.invalidate_cache.new.self before C.InvalidateCache c.in-Err.refusal (R.Refused c.in-Err.refusal) (λ is. absurd cc) (λ is. absurd cc, λ is. absurd is) refl
          (where_failed _ (is_failed c.args.image.now) (λ f. (same_error (c.in-Err.ensures.fails.failed f).0, (c.in-Err.ensures.fails.failed f).1))) (λ none. c.in-Err.ensures.fails.cause (not_failed (is_failed c.args.image.now) none)) (λ _ _. tt) (λ _ is. is)
          (λ _ is. record { some = λ has. sound.prepared before is has; none = λ no. sound.fault before is no; told = sound.in_use before is });
      quiet = λ reading existing. record { reading = step.image.writable ∙ reading; quiet = quiet_silent g.S.Storage.view c.args.image.now c.invalidate_cache.new.self step.unmodified step.silent; existing = existing };
    }

pub returns : goal.returns
returns g c = λ slots.
    let step = c.in_default.ensures.step in
    record {
      keeps = search rules;
      size = search rules;
      counts = search rules;
      marks = answered_at_once g.S.Storage.view c.args.image.now c.invalidate_cache.new.self step.once_written step.marks;
      header_cluster = λ kept. absurd kept;
      slots = refl;
      steps = λ kept. absurd kept;
      finds = search rules;
      after = refl;
      reports = tt;
      causes = let before = (in_image slots.prepared.items) in
          is_answered g.S.Storage.view g.F.BackingDisk.backing c.args.image.now c.invalidate_cache.new.self before C.InvalidateCache _ tt R.Done (λ is. absurd cc) (λ is. absurd cc, λ is. absurd is) refl (where_failed _ (is_failed c.args.image.now) (λ f. c.in_default.ensures.fails.failed f))
          (λ _ is. record { some = λ has. c.in_default.ensures.sound.prepared before is has; none = λ _. tt; told = tt });
      quiet = λ reading existing. record { reading = step.image.writable ∙ reading; quiet = quiet_silent g.S.Storage.view c.args.image.now c.invalidate_cache.new.self step.unmodified step.silent; existing = existing };
    }

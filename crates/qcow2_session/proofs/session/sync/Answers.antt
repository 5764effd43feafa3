use Rattle.qcow2_session.proofs.Lemmas.{answered_at_once, refused_at_once, error_is, not_both, is_answered, is_refused, not_failed, same_error, where_failed}
use Rattle.qcow2_session.proofs.Common.{refl, rules, ◌∙◌, done_as, refused_as, is_failed, in_image}
use Rattle.qcow2_session.specs.declared.session.Command.TheVariants as C
use Rattle.qcow2_session.specs.declared.session.Reply.TheVariants as R
use Rattle.qcow2_session.proofs.session.sync.Goals as goal

pub returns-in-Err : goal.returns-in-Err
returns-in-Err g c = λ slots. record {
  keeps = search rules;
  size = search rules;
  counts = search rules;
  marks = refused_at_once g.S.Storage.view c.args.image.now c.sync.new.self c.in-Err.refusal c.in-Err.ensures.step.once_written c.in-Err.ensures.step.marks;
  header_cluster = λ _. search rules;
  slots = refl;
  steps = λ _ x s stands founds. refused_as x _ _ s _ _ _ _ refl stands (record { sized = λ _. tt; failed = λ f. error_is (c.in-Err.ensures.early f); may = λ _. tt }) (c.in-Err.ensures.sees (in_image slots.prepared.items)) (λ f. f) (λ f. f) (λ _ _. refl) tt;
  finds = search rules;
  after = refl;
  reports = tt;
  causes = let before = (in_image slots.prepared.items) in
      is_refused g.S.Storage.view g.F.BackingDisk.backing c.args.image.now c.sync.new.self before C.Sync c.in-Err.refusal (R.Refused c.in-Err.refusal) (λ is. absurd cc) (λ is. absurd cc, λ is. absurd is) refl
      (where_failed _ (is_failed c.args.image.now) (λ f. (same_error (c.in-Err.ensures.early f).0, (c.in-Err.ensures.early f).1))) (λ none. c.in-Err.ensures.late (not_failed (is_failed c.args.image.now) none)) (λ _ _. tt) (λ _ is. is) (λ _ _. tt);
  quiet = λ reading existing. record { reading = c.sync.ensures.step.image.writable ∙ reading; quiet = c.sync.ensures.step.quiet; existing = existing };
}

pub returns : goal.returns
returns g c = λ slots. record {
  keeps = search rules;
  size = search rules;
  counts = search rules;
  marks = answered_at_once g.S.Storage.view c.args.image.now c.sync.new.self c.in_default.ensures.step.once_written c.in_default.ensures.step.marks;
  header_cluster = λ _. search rules;
  slots = refl;
  steps = λ _ x s stands founds. done_as x _ _ s _ _ _ refl stands (record { sized = λ _. tt; failed = λ f. absurd (not_both (c.in_default.ensures.early f)); may = λ _. tt }) (c.in_default.ensures.sees (in_image slots.prepared.items)) (λ f. f) (λ _ _. refl) (λ _. tt);
  finds = search rules;
  after = refl;
  reports = tt;
  causes = let before = (in_image slots.prepared.items) in
      is_answered g.S.Storage.view g.F.BackingDisk.backing c.args.image.now c.sync.new.self before C.Sync _ tt R.Done (λ is. absurd cc) (λ is. absurd cc, λ is. absurd is) refl (where_failed _ (is_failed c.args.image.now) (λ f. c.in_default.ensures.early f)) (λ _ _. tt);
  quiet = λ reading existing. record { reading = c.sync.ensures.step.image.writable ∙ reading; quiet = c.sync.ensures.step.quiet; existing = existing };
}

use Rattle.qcow2_session.proofs.Common.{refl, arith, rules, ◌∙◌, done_as, refused_told, unusable, in_image}
use Rattle.qcow2_session.proofs.Lemmas.{unusable_first, error_is, not_both, does_if, begun_with, is_answered, is_refused}
use Rattle.qcow2_session.specs.declared.session.Command.TheVariants as C
use Rattle.qcow2_session.specs.declared.session.Reply.TheVariants as R
use Rattle.qcow2_session.proofs.special.readv_special.Goals as goal

pub returns-in-Ok : goal.returns-in-Ok
returns-in-Ok g c = λ slots. record {
  keeps = search rules;
  size = search rules;
  counts = search rules;
  marks = c.in-Ok.ensures.step.marks;
  header_cluster = λ _. search rules;
  slots = refl;
  steps = λ _ x s stands founds. done_as x _ _ s _ _ _ refl stands (record { sized = λ _. tt; failed = λ f. absurd (not_both (unusable_first c.args.image.now _ c.in-Ok.ensures.early f)); may = λ _. tt })
      (does_if (λ h. (c.in-Ok.ensures.empty, h)) (c.in-Ok.ensures.sees (in_image slots.prepared.items))) (λ f. f) (λ _ _. refl) (λ _. tt);
  finds = search rules;
  after = refl;
  reports = tt;
  causes = let before = (in_image slots.prepared.items) in
      is_answered g.S.Storage.view g.F.BackingDisk.backing c.args.image.now c.read_range.new.image before (C.ReadvSpecial c.args.offset c.args.length) _ _ R.Done (λ is. absurd cc) (λ is. absurd cc, λ is. absurd is) refl c.in-Ok.ensures.early (λ _ _. tt);
  quiet = λ reading existing. record { reading = c.read_range.ensures.step.image.writable ∙ reading; quiet = c.read_range.ensures.step.quiet; existing = existing };
}

pub returns-in-Err : goal.returns-in-Err
returns-in-Err g c = λ slots. record {
  keeps = search rules;
  size = search rules;
  counts = search rules;
  marks = c.in-Err.ensures.step.marks;
  header_cluster = λ _. search rules;
  slots = refl;
  steps = λ _ x s stands founds. refused_told x _ _ s _ _ _ _ refl stands (record { sized = λ _. tt; failed = λ f. error_is (unusable_first c.args.image.now _ c.in-Err.ensures.early f); may = λ _. tt }) (c.in-Err.ensures.sees (in_image slots.prepared.items)) (λ f. f) (λ f. f) (λ _ _. refl) (c.in-Err.ensures.reports (in_image slots.prepared.items));
  finds = search rules;
  after = refl;
  reports = tt;
  causes = let before = (in_image slots.prepared.items) in
      is_refused g.S.Storage.view g.F.BackingDisk.backing c.args.image.now c.read_range.new.image before (C.ReadvSpecial c.args.offset c.args.length) c.in-Err.refusal (R.Refused c.in-Err.refusal)
      (λ is. absurd cc) (λ is. absurd cc, λ is. absurd is) refl (begun_with _ _ _ (unusable c.args.image.now) c.in-Err.ensures.early)
      (λ none. (c.in-Err.ensures.late none).0) (λ _ _. tt) (λ none empty. let some = (c.in-Err.ensures.late none).1 in omega (arith, some, empty)) (λ _ sound. c.in-Err.ensures.may_fail before sound);
  quiet = λ reading existing. record { reading = c.read_range.ensures.step.image.writable ∙ reading; quiet = c.read_range.ensures.step.quiet; existing = existing };
}

use Rattle.qcow2_session.proofs.Lemmas.{cleared_at_once, clear_same, quiet_left, clears_rightly}
use Rattle.qcow2_session.proofs.Common.{to_kept_zero, refl, rules, IfErr-weaker, in_image}
use Rattle.qcow2_session.proofs.Cleared.{clears_command_step, clearing_counted, range_told}
use Rattle.qcow2_session.specs.declared.session.Command.TheVariants as C
use Rattle.qcow2_session.proofs.clearing.ensure_zero.Goals as goal

pub returns : goal.returns
returns g c = λ slots. record {
  keeps = search rules;
  size = search rules;
  counts = clearing_counted g.S.Storage.view g.F.BackingDisk.backing c.args.image.now c.ensure_zero_mapping.new.self c.ensure_zero_mapping.result c.range_reply.result c.range_reply.ensures c.ensure_zero_mapping.ensures.step.faults;
  marks = cleared_at_once g.S.Storage.view c.args.image.now c.ensure_zero_mapping.new.self c.ensure_zero_mapping.result c.range_reply.result c.range_reply.ensures c.ensure_zero_mapping.ensures.step.once_written c.ensure_zero_mapping.ensures.step.marks;
  header_cluster = λ _. search rules;
  slots = refl;
  steps = λ _ x s stands founds.
      clears_command_step g.S.Storage.view g.F.BackingDisk.backing c.args.image.now c.ensure_zero_mapping.new.self to_kept_zero c.args.offset c.args.length (in_image slots.prepared.items) x s c.ensure_zero_mapping.result c.range_reply.result c.range_reply.ensures stands
      c.ensure_zero_mapping.ensures.fails.early c.ensure_zero_mapping.ensures.sound.covers c.ensure_zero_mapping.ensures.sound.sees;
  finds = search rules;
  after = refl;
  reports = range_told g.S.Storage.view g.F.BackingDisk.backing c.args.image.now c.ensure_zero_mapping.new.self c.args.offset c.args.length c.ensure_zero_mapping.result c.range_reply.result c.range_reply.ensures c.ensure_zero_mapping.ensures.sound.range;
  causes = let before = (in_image slots.prepared.items) in
      clears_rightly g.S.Storage.view g.F.BackingDisk.backing c.args.image.now c.ensure_zero_mapping.new.self before c.args.offset c.args.length to_kept_zero (C.EnsureZeroMapping c.args.offset c.args.length) refl (λ le. le) (λ e may_fail. may_fail) (λ e may_fail. may_fail) (λ _ respects. respects) (λ _ never. (λ is. absurd (never is), λ is. absurd is))
      c.ensure_zero_mapping.result c.range_reply.result c.range_reply.ensures c.ensure_zero_mapping.ensures.fails.early c.ensure_zero_mapping.ensures.fails.late (λ none sound. IfErr-weaker c.ensure_zero_mapping.result _ _ (λ e refused. refused.may_fail none before sound) c.ensure_zero_mapping.ensures.fails.refused) c.ensure_zero_mapping.ensures.sound.nothing (λ none some sound. c.ensure_zero_mapping.ensures.fails.under none some before sound);
  quiet = λ reading existing. quiet_left g.S.Storage.view c.args.image.now c.ensure_zero_mapping.new.self slots.prepared.items (clear_same c.args.image.now reading _ _ c.ensure_zero_mapping.ensures.fails.early) reading existing;
}

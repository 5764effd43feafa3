use Rattle.qcow2_session.proofs.Lemmas.{cleared_at_once, clear_same, quiet_left, clears_rightly}
use Rattle.qcow2_session.proofs.Common.{to_backing, refl, rules, IfErr-weaker, in_image}
use Rattle.qcow2_session.proofs.Cleared.{clears_command_step, clearing_counted, range_told}
use Rattle.qcow2_session.specs.declared.session.Command.TheVariants as C
use Rattle.qcow2_session.proofs.clearing.discard_to_backing.Goals as goal

pub returns : goal.returns
returns g c = λ slots. record {
  keeps = search rules;
  size = search rules;
  counts = clearing_counted g.S.Storage.view g.F.BackingDisk.backing c.args.image.now c.discard_to_backing_unsafe.new.self c.discard_to_backing_unsafe.result c.range_reply.result c.range_reply.ensures c.discard_to_backing_unsafe.ensures.step.faults;
  marks = cleared_at_once g.S.Storage.view c.args.image.now c.discard_to_backing_unsafe.new.self c.discard_to_backing_unsafe.result c.range_reply.result c.range_reply.ensures c.discard_to_backing_unsafe.ensures.step.once_written c.discard_to_backing_unsafe.ensures.step.marks;
  header_cluster = λ _. search rules;
  slots = refl;
  steps = λ _ x s stands founds.
      clears_command_step g.S.Storage.view g.F.BackingDisk.backing c.args.image.now c.discard_to_backing_unsafe.new.self to_backing c.args.offset c.args.length (in_image slots.prepared.items) x s c.discard_to_backing_unsafe.result c.range_reply.result c.range_reply.ensures stands
      c.discard_to_backing_unsafe.ensures.fails.early c.discard_to_backing_unsafe.ensures.sound.covers c.discard_to_backing_unsafe.ensures.sound.sees;
  finds = search rules;
  after = refl;
  reports = range_told g.S.Storage.view g.F.BackingDisk.backing c.args.image.now c.discard_to_backing_unsafe.new.self c.args.offset c.args.length c.discard_to_backing_unsafe.result c.range_reply.result c.range_reply.ensures c.discard_to_backing_unsafe.ensures.sound.range;
  causes = let before = (in_image slots.prepared.items) in
      clears_rightly g.S.Storage.view g.F.BackingDisk.backing c.args.image.now c.discard_to_backing_unsafe.new.self before c.args.offset c.args.length to_backing (C.DiscardToBacking c.args.offset c.args.length) refl (λ le. le) (λ e may_fail. may_fail) (λ e may_fail. may_fail) (λ _ respects. respects) (λ _ never. (λ is. absurd (never is), λ is. absurd is))
      c.discard_to_backing_unsafe.result c.range_reply.result c.range_reply.ensures c.discard_to_backing_unsafe.ensures.fails.early c.discard_to_backing_unsafe.ensures.fails.late (λ none sound. IfErr-weaker c.discard_to_backing_unsafe.result _ _ (λ e refused. refused.may_fail none before sound) c.discard_to_backing_unsafe.ensures.fails.refused) c.discard_to_backing_unsafe.ensures.sound.nothing (λ none some sound. c.discard_to_backing_unsafe.ensures.fails.under none some before sound);
  quiet = λ reading existing. quiet_left g.S.Storage.view c.args.image.now c.discard_to_backing_unsafe.new.self slots.prepared.items (clear_same c.args.image.now reading _ _ c.discard_to_backing_unsafe.ensures.fails.early) reading existing;
}

use Rattle.qcow2_session.proofs.Lemmas.{at_rest, reading_first, error_is, not_both, reads_answer, read_answered, leaks_answered, read_refused, size_answered, fill_fails, given_byte, given_bytes, writes_answered}
use Rattle.qcow2_session.proofs.Common.{MarksBy, rules, refl, ap, sym, subst, ◌∙◌, None, Some, done_as, refused_as, none_as, command_of, mappings_in, SlotsAfter, ReplyMatchesImage, RefusalJustified, behind_none, reads_none, in_image}
use Rattle.qcow2_session.specs.CallSteps.{AnswersCommand}
use Rattle.qcow2_session.specs.declared.session.Reply.TheVariants.{Bytes, Leaked, Refused, Size}
use Rattle.qcow2_session.proofs.session.step.Goals as goal

pub returns-in-Ok : goal.returns-in-Ok
returns-in-Ok g c = record {
  keeps = search rules;
  size = search rules;
  counts = search rules;
  marks = subst (λ q. MarksBy g.S.Storage.view c.args.image.now c.read.new.image q (None)) (sym c.in-Read.is) c.in-Ok.ensures.step.marks;
  header_cluster = λ _. c.read.ensures.step.header_cluster;
  slots = search rules;
  steps = λ _ x s stands founds. done_as x _ _ s _ _ _ (ap command_of c.in-Read.is) stands (reads_answer g.S.Storage.view g.F.BackingDisk.backing c.args.image.now (in_image c.args.slots.now.prepared.items) _ (λ e h. not_both h) _ _ _ c.in-Ok.ensures.fails.early) (c.in-Ok.ensures.sees (in_image c.args.slots.now.prepared.items)) (λ f. f) (λ _ _. refl) (λ _. tt);
  finds = search rules;
  after = subst (λ q. SlotsAfter c.args.slots.now.prepared.items q (Bytes c.in-Ok.bytes) c.args.slots.now.prepared.items) (sym c.in-Read.is) refl;
  reports = subst (λ q. ReplyMatchesImage g.S.Storage.view g.F.BackingDisk.backing c.args.image.now c.read.new.image c.args.slots.now.prepared.items c.args.slots.now.prepared.items q (Bytes c.in-Ok.bytes)) (sym c.in-Read.is) tt;
  causes = subst (λ q. RefusalJustified g.S.Storage.view g.F.BackingDisk.backing c.args.image.now c.read.new.image (in_image c.args.slots.now.prepared.items) (mappings_in c.args.slots.now.mappings.items) q (Bytes c.in-Ok.bytes)) (sym c.in-Read.is) (read_answered g.S.Storage.view g.F.BackingDisk.backing c.args.image.now c.read.new.image (in_image c.args.slots.now.prepared.items) _ _ _ _ c.in-Ok.ensures.fails.early);
  quiet = λ reading existing. record { reading = c.read.ensures.step.image.writable ∙ reading; quiet = c.read.ensures.step.quiet; existing = existing };
}

pub returns-in-Err : goal.returns-in-Err
returns-in-Err g c = record {
  keeps = search rules;
  size = search rules;
  counts = search rules;
  marks = subst (λ q. MarksBy g.S.Storage.view c.args.image.now c.read.new.image q (Some c.in-Err.refusal)) (sym c.in-Read.is) c.in-Err.ensures.step.marks;
  header_cluster = λ _. c.read.ensures.step.header_cluster;
  slots = search rules;
  steps = λ _ x s stands founds. refused_as x _ _ s _ _ _ _ (ap command_of c.in-Read.is) stands (record { sized = λ _. tt; failed = λ f. error_is (reading_first c.args.image.now _ _ _ c.in-Err.ensures.fails.early f); may = λ _. tt }) (c.in-Err.ensures.sees (in_image c.args.slots.now.prepared.items)) (λ f. f) (λ f. f) (λ _ _. refl) tt;
  finds = search rules;
  after = subst (λ q. SlotsAfter c.args.slots.now.prepared.items q (Refused c.in-Err.refusal) c.args.slots.now.prepared.items) (sym c.in-Read.is) refl;
  reports = subst (λ q. ReplyMatchesImage g.S.Storage.view g.F.BackingDisk.backing c.args.image.now c.read.new.image c.args.slots.now.prepared.items c.args.slots.now.prepared.items q (Refused c.in-Err.refusal)) (sym c.in-Read.is) tt;
  causes = subst (λ q. RefusalJustified g.S.Storage.view g.F.BackingDisk.backing c.args.image.now c.read.new.image (in_image c.args.slots.now.prepared.items) (mappings_in c.args.slots.now.mappings.items) q (Refused c.in-Err.refusal))
      (sym c.in-Read.is) (read_refused g.S.Storage.view g.F.BackingDisk.backing c.args.image.now c.read.new.image (in_image c.args.slots.now.prepared.items) _ _ _ c.in-Err.ensures.fails.early c.in-Err.ensures.fails.late c.in-Err.ensures.fails.may_fail);
  quiet = λ reading existing. record { reading = c.read.ensures.step.image.writable ∙ reading; quiet = c.read.ensures.step.quiet; existing = existing };
}

pub returns-in-Write : goal.returns-in-Write
returns-in-Write g c = subst (λ q. AnswersCommand g.S.Storage.view g.F.BackingDisk.backing c.args.image.now c.write.new.image c.args.slots.now c.args.slots.now q c.write_reply.result) (sym c.in-Write.is)
    (writes_answered g.S.Storage.view g.F.BackingDisk.backing _ _ _ (given_bytes g.S.Storage.view g.F.BackingDisk.backing _ _ _ _ _) c.write.result c.write_reply.result c.write_reply.ensures c.write.ensures.step (rw c.deref.ensures.value at c.write.ensures.fails) (rw c.deref.ensures.value at c.write.ensures.sound) (rw c.deref.ensures.value at c.write.ensures.sees))

pub returns-in-Fill : goal.returns-in-Fill
returns-in-Fill g c = subst (λ q. AnswersCommand g.S.Storage.view g.F.BackingDisk.backing c.args.image.now c.fill.new.image c.args.slots.now c.args.slots.now q c.write_reply-in-Fill.result) (sym c.in-Fill.is)
    (writes_answered g.S.Storage.view g.F.BackingDisk.backing _ _ _ (given_byte g.S.Storage.view g.F.BackingDisk.backing _ _ _ _ _ _) c.fill.result c.write_reply-in-Fill.result c.write_reply-in-Fill.ensures c.fill.ensures.step (fill_fails g.S.Storage.view g.F.BackingDisk.backing _ _ _ _ _ _ c.fill.ensures.fails) c.fill.ensures.sound c.fill.ensures.sees)

pub returns-in-Flush : goal.returns-in-Flush
returns-in-Flush g c = subst (λ q. AnswersCommand g.S.Storage.view g.F.BackingDisk.backing c.args.image.now c.flush.new.image c.args.slots.now c.args.slots.now q c.flush.result) (sym c.in-Flush.is) (c.flush.ensures c.args.slots.now)

pub returns-in-Sync : goal.returns-in-Sync
returns-in-Sync g c = subst (λ q. AnswersCommand g.S.Storage.view g.F.BackingDisk.backing c.args.image.now c.sync.new.image c.args.slots.now c.args.slots.now q c.sync.result) (sym c.in-Sync.is) (c.sync.ensures c.args.slots.now)

pub returns-in-Size : goal.returns-in-Size
returns-in-Size g c = record {
  keeps = search rules;
  size = search rules;
  counts = search rules;
  marks = subst (λ q. MarksBy g.S.Storage.view c.args.image.now c.args.image.now q (None)) (sym c.in-Size.is) (at_rest g.S.Storage.view None c.args.image.now refl);
  header_cluster = λ _. behind_none;
  slots = search rules;
  steps = λ _ x s stands founds. none_as x _ s _ _ _ (ap command_of c.in-Size.is) stands (record { sized = λ _. tt; failed = λ _. tt; may = λ _. tt }) (λ sound. (c.size.ensures.sees (in_image c.args.slots.now.prepared.items) sound, refl)) (λ f. f) (λ _ _. refl) tt;
  finds = search rules;
  after = subst (λ q. SlotsAfter c.args.slots.now.prepared.items q (Size c.size.result) c.args.slots.now.prepared.items) (sym c.in-Size.is) refl;
  reports = subst (λ q. ReplyMatchesImage g.S.Storage.view g.F.BackingDisk.backing c.args.image.now c.args.image.now c.args.slots.now.prepared.items c.args.slots.now.prepared.items q (Size c.size.result)) (sym c.in-Size.is) c.size.ensures.value;
  causes = subst (λ q. RefusalJustified g.S.Storage.view g.F.BackingDisk.backing c.args.image.now c.args.image.now (in_image c.args.slots.now.prepared.items) (mappings_in c.args.slots.now.mappings.items) q (Size c.size.result)) (sym c.in-Size.is) (size_answered g.S.Storage.view g.F.BackingDisk.backing c.args.image.now c.args.image.now (in_image c.args.slots.now.prepared.items) c.size.result);
  quiet = λ reading existing. record { reading = reading; quiet = reads_none g.S.Storage.view c.args.image.now; existing = existing };
}

pub returns-in-Leaked : goal.returns-in-Leaked
returns-in-Leaked g c = record {
  keeps = search rules;
  size = search rules;
  counts = search rules;
  marks = subst (λ q. MarksBy g.S.Storage.view c.args.image.now c.args.image.now q (None)) (sym c.in-Leaked.is) (at_rest g.S.Storage.view None c.args.image.now refl);
  header_cluster = λ _. behind_none;
  slots = search rules;
  steps = λ _ x s stands founds. none_as x _ s _ _ _ (ap command_of c.in-Leaked.is) stands (record { sized = λ _. tt; failed = λ _. tt; may = λ _. tt }) (λ sound. refl) (λ f. f) (λ _ _. refl) tt;
  finds = search rules;
  after = subst (λ q. SlotsAfter c.args.slots.now.prepared.items q (Leaked c.leaked_clusters.result) c.args.slots.now.prepared.items) (sym c.in-Leaked.is) refl;
  reports = subst (λ q. ReplyMatchesImage g.S.Storage.view g.F.BackingDisk.backing c.args.image.now c.args.image.now c.args.slots.now.prepared.items c.args.slots.now.prepared.items q (Leaked c.leaked_clusters.result)) (sym c.in-Leaked.is) c.leaked_clusters.ensures;
  causes = subst (λ q. RefusalJustified g.S.Storage.view g.F.BackingDisk.backing c.args.image.now c.args.image.now (in_image c.args.slots.now.prepared.items) (mappings_in c.args.slots.now.mappings.items) q (Leaked c.leaked_clusters.result)) (sym c.in-Leaked.is) (leaks_answered g.S.Storage.view g.F.BackingDisk.backing c.args.image.now c.args.image.now (in_image c.args.slots.now.prepared.items) c.leaked_clusters.result);
  quiet = λ reading existing. record { reading = reading; quiet = reads_none g.S.Storage.view c.args.image.now; existing = existing };
}

pub returns-in-GetMapping : goal.returns-in-GetMapping
returns-in-GetMapping g c = subst (λ q. AnswersCommand g.S.Storage.view g.F.BackingDisk.backing c.args.image.now c.get_mapping.new.image c.args.slots.now c.get_mapping.new.slots q c.get_mapping.result) (sym c.in-GetMapping.is) c.get_mapping.ensures

pub returns-in-ReadMapped : goal.returns-in-ReadMapped
returns-in-ReadMapped g c = subst (λ q. AnswersCommand g.S.Storage.view g.F.BackingDisk.backing c.args.image.now c.read_mapped.new.image c.args.slots.now c.args.slots.now q c.read_mapped.result) (sym c.in-ReadMapped.is) c.read_mapped.ensures

pub returns-in-PrepareDataMapping : goal.returns-in-PrepareDataMapping
returns-in-PrepareDataMapping g c = subst (λ q. AnswersCommand g.S.Storage.view g.F.BackingDisk.backing c.args.image.now c.prepare.new.image c.args.slots.now c.prepare.new.slots q c.prepare.result) (sym c.in-PrepareDataMapping.is) c.prepare.ensures

pub returns-in-WriteMapped : goal.returns-in-WriteMapped
returns-in-WriteMapped g c = subst (λ q. AnswersCommand g.S.Storage.view g.F.BackingDisk.backing c.args.image.now c.write_mapped.new.image c.args.slots.now c.args.slots.now q c.write_mapped.result) (sym c.in-WriteMapped.is) c.write_mapped.ensures

pub returns-in-CommitDataMapping : goal.returns-in-CommitDataMapping
returns-in-CommitDataMapping g c = subst (λ q. AnswersCommand g.S.Storage.view g.F.BackingDisk.backing c.args.image.now c.commit.new.image c.args.slots.now c.commit.new.slots q c.commit.result) (sym c.in-CommitDataMapping.is) c.commit.ensures

pub returns-in-DiscardDataMapping : goal.returns-in-DiscardDataMapping
returns-in-DiscardDataMapping g c = subst (λ q. AnswersCommand g.S.Storage.view g.F.BackingDisk.backing c.args.image.now c.discard.new.image c.args.slots.now c.discard.new.slots q c.discard.result) (sym c.in-DiscardDataMapping.is) c.discard.ensures

pub returns-in-EnsureZeroMapping : goal.returns-in-EnsureZeroMapping
returns-in-EnsureZeroMapping g c = subst (λ q. AnswersCommand g.S.Storage.view g.F.BackingDisk.backing c.args.image.now c.ensure_zero.new.image c.args.slots.now c.args.slots.now q c.ensure_zero.result) (sym c.in-EnsureZeroMapping.is) (c.ensure_zero.ensures c.args.slots.now)

pub returns-in-DiscardToZero : goal.returns-in-DiscardToZero
returns-in-DiscardToZero g c = subst (λ q. AnswersCommand g.S.Storage.view g.F.BackingDisk.backing c.args.image.now c.discard_to_zero.new.image c.args.slots.now c.args.slots.now q c.discard_to_zero.result) (sym c.in-DiscardToZero.is) (c.discard_to_zero.ensures c.args.slots.now)

pub returns-in-DiscardToAny : goal.returns-in-DiscardToAny
returns-in-DiscardToAny g c = subst (λ q. AnswersCommand g.S.Storage.view g.F.BackingDisk.backing c.args.image.now c.discard_to_any.new.image c.args.slots.now c.args.slots.now q c.discard_to_any.result) (sym c.in-DiscardToAny.is) (c.discard_to_any.ensures c.args.slots.now)

pub returns-in-DiscardToBacking : goal.returns-in-DiscardToBacking
returns-in-DiscardToBacking g c = subst (λ q. AnswersCommand g.S.Storage.view g.F.BackingDisk.backing c.args.image.now c.discard_to_backing.new.image c.args.slots.now c.args.slots.now q c.discard_to_backing.result) (sym c.in-DiscardToBacking.is) (c.discard_to_backing.ensures c.args.slots.now)

pub returns-in-ReadvSpecial : goal.returns-in-ReadvSpecial
returns-in-ReadvSpecial g c = subst (λ q. AnswersCommand g.S.Storage.view g.F.BackingDisk.backing c.args.image.now c.readv_special.new.image c.args.slots.now c.args.slots.now q c.readv_special.result) (sym c.in-ReadvSpecial.is) (c.readv_special.ensures c.args.slots.now)

pub returns-in-TryReadvSpecial : goal.returns-in-TryReadvSpecial
returns-in-TryReadvSpecial g c = subst (λ q. AnswersCommand g.S.Storage.view g.F.BackingDisk.backing c.args.image.now c.try_readv_special.new.image c.args.slots.now c.args.slots.now q c.try_readv_special.result) (sym c.in-TryReadvSpecial.is) (c.try_readv_special.ensures c.args.slots.now)

pub returns-in-ResizeGrow : goal.returns-in-ResizeGrow
returns-in-ResizeGrow g c = subst (λ q. AnswersCommand g.S.Storage.view g.F.BackingDisk.backing c.args.image.now c.grow.new.image c.args.slots.now c.args.slots.now q c.grow.result) (sym c.in-ResizeGrow.is) (c.grow.ensures c.args.slots.now)

pub returns-in-ResizeShrink : goal.returns-in-ResizeShrink
returns-in-ResizeShrink g c = subst (λ q. AnswersCommand g.S.Storage.view g.F.BackingDisk.backing c.args.image.now c.shrink.new.image c.args.slots.now c.args.slots.now q c.shrink.result) (sym c.in-ResizeShrink.is) (c.shrink.ensures c.args.slots.now)

pub returns-in-InvalidateCache : goal.returns-in-InvalidateCache
returns-in-InvalidateCache g c = subst (λ q. AnswersCommand g.S.Storage.view g.F.BackingDisk.backing c.args.image.now c.invalidate.new.image c.args.slots.now c.args.slots.now q c.invalidate.result) (sym c.in-InvalidateCache.is) (c.invalidate.ensures c.args.slots.now)

use Rattle.qcow2_session.proofs.Lemmas.{at_rest, does_if, does_why, found_fits, isnt_beyond, is_beyond, live, mapped_here, passes_mapped, unusable_first, error_is, not_both, begun_with, is_answered, is_misused, is_refused, own_mapping, some_error}
use Rattle.std.proofs.Common.{◌≡◌, ◌+◌, ◌<◌, ◌≤◌, refl, ap, ◌∙◌, Some, None, Err, arith, rules, subst, get_or, length}
use Rattle.qcow2_session.proofs.Common.{reads_none, done_as, refused_as, none_as, mapping_at, range_of, guest_of, Found, misuse, abstract_of, slice_get_read, disk_size, unusable, behind_none, MayFailReadingFound, RefusesHeld, further_by, in_image}
use Rattle.qcow2_session.proofs.session.read_mapped.Goals.{then-at-mapping-via-then-at-mapping, then-at-mapping-via-else-at-mapping+then-length-mapping}
use Rattle.qcow2_session.specs.declared.session.Command.TheVariants as C
use Rattle.qcow2_session.specs.declared.session.Reply.TheVariants as R
use Rattle.qcow2_session.proofs.session.read_mapped.Goals as goal

pub returns-in_default : goal.returns-in_default
returns-in_default g c = record {
  keeps = search rules;
  size = search rules;
  counts = search rules;
  marks = at_rest g.S.Storage.view None c.args.image.now refl;
  header_cluster = λ _. behind_none;
  slots = search rules;
  steps = λ _ x s stands founds.
      let here = mapped_here c.args.slots.now.mappings.items c.args.slot c.from.result c.index.result.now c.from.ensures (omega (arith, c.args.slots.now.all_mappings, c.ranges.slot)) c.index.ensures in
      none_as x _ s _ _ misuse refl stands (record { sized = λ _. tt; failed = λ _. tt; may = λ _. tt }) (λ sound. (is_beyond c.args.at c.args.length (founds (live stands sound.works) c.args.slot ∙ ap range_of (here ∙ c.in_default.is)) tt, refl)) (λ f. f) (λ _ _. refl) tt;
  finds = search rules;
  after = refl;
  reports = tt;
  causes = let here = mapped_here c.args.slots.now.mappings.items c.args.slot c.from.result c.index.result.now c.from.ensures (omega (arith, c.args.slots.now.all_mappings, c.ranges.slot)) c.index.ensures in
      is_misused g.S.Storage.view g.F.BackingDisk.backing c.args.image.now c.args.image.now (in_image c.args.slots.now.prepared.items) (C.ReadMapped c.args.slot c.args.at c.args.length)
      (λ _. passes_mapped c.args.at c.args.length (here ∙ c.in_default.is) tt, λ _. refl) refl (λ is. absurd cc, tt);
  quiet = λ reading existing. record { reading = reading; quiet = reads_none g.S.Storage.view c.args.image.now; existing = existing };
}

pub returns-then-at-mapping : goal.returns-then-at-mapping
returns-then-at-mapping g c = record {
  keeps = search rules;
  size = search rules;
  counts = search rules;
  marks = at_rest g.S.Storage.view None c.args.image.now refl;
  header_cluster = λ _. behind_none;
  slots = search rules;
  steps = λ _ x s stands founds.
      let here = mapped_here c.args.slots.now.mappings.items c.args.slot c.from.result c.index.result.now c.from.ensures (omega (arith, c.args.slots.now.all_mappings, c.ranges.slot)) c.index.ensures in
      none_as x _ s _ _ misuse refl stands (record { sized = λ _. tt; failed = λ _. tt; may = λ _. tt }) (λ sound. (
        is_beyond c.args.at c.args.length (founds (live stands sound.works) c.args.slot ∙ ap range_of (here ∙ c.in-Some.is))
            (elim c.then-at-mapping.branch [
              | then-at-mapping-via-then-at-mapping w ↦ omega (arith, w.if-at-mapping.true)
              | then-at-mapping-via-else-at-mapping+then-length-mapping w ↦ omega (arith, w.if-at-mapping.false, w.if-length-mapping.true)
            ]),
        refl,
      )) (λ f. f) (λ _ _. refl) tt;
  finds = search rules;
  after = refl;
  reports = tt;
  causes = let here = mapped_here c.args.slots.now.mappings.items c.args.slot c.from.result c.index.result.now c.from.ensures (omega (arith, c.args.slots.now.all_mappings, c.ranges.slot)) c.index.ensures in
      let past : c.in-Some.mapping.length < c.args.at + c.args.length = elim c.then-at-mapping.branch [
        | then-at-mapping-via-then-at-mapping w ↦ omega (arith, w.if-at-mapping.true)
        | then-at-mapping-via-else-at-mapping+then-length-mapping w ↦ omega (arith, w.if-at-mapping.false, w.if-length-mapping.true)
      ] in
      is_misused g.S.Storage.view g.F.BackingDisk.backing c.args.image.now c.args.image.now (in_image c.args.slots.now.prepared.items) (C.ReadMapped c.args.slot c.args.at c.args.length)
      (λ _. passes_mapped c.args.at c.args.length (here ∙ c.in-Some.is) past, λ _. refl) refl (λ is. absurd cc, tt);
  quiet = λ reading existing. record { reading = reading; quiet = reads_none g.S.Storage.view c.args.image.now; existing = existing };
}

pub returns-in-Ok : goal.returns-in-Ok
returns-in-Ok g c = record {
  keeps = search rules;
  size = search rules;
  counts = search rules;
  marks = c.in-Ok.ensures.step.marks;
  header_cluster = λ _. search rules;
  slots = search rules;
  steps = λ _ x s stands founds.
      let view = g.S.Storage.view in
      let below = g.F.BackingDisk.backing in
      let old = c.args.image.now in
      let out = (in_image c.args.slots.now.prepared.items) in
      let m = c.in-Some.mapping in
      let here = mapped_here c.args.slots.now.mappings.items c.args.slot c.from.result c.index.result.now c.from.ensures (omega (arith, c.args.slots.now.all_mappings, c.ranges.slot)) c.index.ensures in
      let found : Found = record { from = m.offset; length = m.length } in
      let there : (abstract_of view below old out).is_sound → s.found c.args.slot ≡ Some found = λ sound. founds (live stands sound.works) c.args.slot ∙ ap range_of (here ∙ c.in-Some.is) in
      let fits : (abstract_of view below old out).is_sound → 0 < c.args.length → m.offset + c.args.at + c.args.length ≤ (guest_of (abstract_of view below old out)).disk.size =
      λ sound some. subst (λ size. m.offset + c.args.at + c.args.length ≤ size) (disk_size view below old out sound) (found_fits (m.offset + c.args.at) c.args.length (c.in-Ok.ensures.mapped some out sound) some) in
      done_as x _ _ s _ _ _ refl stands (record { sized = λ _. tt; failed = λ f. absurd (not_both (unusable_first old _ c.in-Ok.ensures.early f)); may = λ _. tt })
      (does_if (λ h. (found, h.0.1, h.0.0.0, h.1, h.0.0.1, h.0.0.2)) (does_why fits (does_why there (c.in-Ok.ensures.sees out)))) (λ f. f) (λ _ _. refl) (λ _. tt);
  finds = search rules;
  after = refl;
  reports = tt;
  causes = let here = mapped_here c.args.slots.now.mappings.items c.args.slot c.from.result c.index.result.now c.from.ensures (omega (arith, c.args.slots.now.all_mappings, c.ranges.slot)) c.index.ensures in
      let within : c.args.at + c.args.length ≤ c.in-Some.mapping.length = omega (arith, c.if-at-mapping.false, c.if-length-mapping.false) in
      is_answered g.S.Storage.view g.F.BackingDisk.backing c.args.image.now c.read_range.new.image (in_image c.args.slots.now.prepared.items) (C.ReadMapped c.args.slot c.args.at c.args.length) _ _ (R.Bytes c.in-Ok.bytes) (λ is. absurd cc)
      (λ is. absurd cc, λ is. absurd (isnt_beyond c.in-Some.mapping c.args.at c.args.length (here ∙ c.in-Some.is) within is)) refl c.in-Ok.ensures.early
      (λ _ sound. (λ some. (c.in-Some.mapping, here ∙ c.in-Some.is, c.in-Ok.ensures.mapped some (in_image c.args.slots.now.prepared.items) sound), tt));
  quiet = λ reading existing. record { reading = c.read_range.ensures.step.image.writable ∙ reading; quiet = c.read_range.ensures.step.quiet; existing = existing };
}

pub returns-in-Err : goal.returns-in-Err
returns-in-Err g c = record {
  keeps = search rules;
  size = search rules;
  counts = search rules;
  marks = c.in-Err.ensures.step.marks;
  header_cluster = λ _. search rules;
  slots = search rules;
  steps = λ _ x s stands founds. refused_as x _ _ s _ _ _ _ refl stands (record { sized = λ _. tt; failed = λ f. error_is (unusable_first c.args.image.now _ c.in-Err.ensures.early f); may = λ _. tt }) (c.in-Err.ensures.sees (in_image c.args.slots.now.prepared.items)) (λ f. f) (λ f. f) (λ _ _. refl) tt;
  finds = search rules;
  after = refl;
  reports = tt;
  causes = let mappings = c.args.slots.now.mappings.items in
      let there = slice_get_read mappings (length mappings) c.args.slot c.index.result.now refl (omega (arith, c.args.slots.now.all_mappings, c.ranges.slot)) (subst (λ k. c.index.result.now ≡ get_or mappings k c.index.result.now) c.from.ensures c.index.ensures) in
      let own = c.args.slots.now.looked_up c.args.slot c.in-Some.mapping (there ∙ ap Some c.in-Some.is) ∙ c.requires in
      let within : c.args.at + c.args.length ≤ c.in-Some.mapping.length = omega (arith, c.if-at-mapping.false, c.if-length-mapping.false) in
      let late : unusable c.args.image.now ≡ None → MayFailReadingFound c.args.image.now c.read_range.new.image (c.in-Some.mapping.offset + c.args.at) c.args.length c.in-Err.refusal × (0 < c.args.length) × RefusesHeld c.args.image.now c.read_range.new.image (c.in-Some.mapping.offset + c.args.at) (further_by c.args.at c.in-Some.mapping.kind) c.args.length c.in-Err.refusal = λ none. c.in-Err.ensures.late (own_mapping c.args.image.now c.in-Some.mapping.image own ∙ none) in
      is_refused g.S.Storage.view g.F.BackingDisk.backing c.args.image.now c.read_range.new.image (in_image c.args.slots.now.prepared.items) (C.ReadMapped c.args.slot c.args.at c.args.length) c.in-Err.refusal (R.Refused c.in-Err.refusal) (λ is. absurd cc)
      (λ is. absurd cc, λ is. absurd (isnt_beyond c.in-Some.mapping c.args.at c.args.length (ap mapping_at (there ∙ ap Some c.in-Some.is)) within is)) refl
      (begun_with _ _ _ (unusable c.args.image.now) c.in-Err.ensures.early) (λ none. (c.in-Some.mapping, ap mapping_at (there ∙ ap Some c.in-Some.is), ((late none).0, (late none).2))) (λ _ _. tt) (λ none empty. let some = (late none).1 in omega (arith, some, empty))
      (λ none sound. (λ is. (c.in-Some.mapping, ap mapping_at (there ∙ ap Some c.in-Some.is), c.in-Err.ensures.outdated (in_image c.args.slots.now.prepared.items) sound (ap Err (some_error is))), (c.in-Some.mapping, ap mapping_at (there ∙ ap Some c.in-Some.is), c.in-Err.ensures.may_fail (own_mapping c.args.image.now c.in-Some.mapping.image own ∙ none) (in_image c.args.slots.now.prepared.items) sound)));
  quiet = λ reading existing. record { reading = c.read_range.ensures.step.image.writable ∙ reading; quiet = c.read_range.ensures.step.quiet; existing = existing };
}

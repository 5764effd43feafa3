use Rattle.qcow2_session.proofs.Common.{counts_released, refl, sym, subst, ◌∙◌, List, Option, None, rules, RefinesCommand, discard, done, misuse, done_as, none_as, abstract_of, image_abstraction, abstract_image, AreExisting, behind_none, reads_none, set_same, in_image}
use Rattle.qcow2_session.proofs.Lemmas.{at_rest, found_at, none_at, does_discard, existing_set, is_done, is_misused, not_free, quiet_release}
use Rattle.qcow2_session.specs.declared.session.Command.TheVariants as C
use Rattle.qcow2_session.specs.declared.session.Reply.TheVariants as R
use Rattle.qcow2_session.proofs.session.discard.Goals as goal

pub returns-in-None : goal.returns-in-None
returns-in-None g c = record {
  keeps = search rules;
  size = search rules;
  counts = search rules;
  marks = at_rest g.S.Storage.view None c.args.image.now refl;
  header_cluster = λ _. behind_none;
  slots = search rules;
  steps = λ _ x s stands founds.
      let view = abstract_of g.S.Storage.view g.F.BackingDisk.backing c.args.image.now in
      let out = (in_image c.args.slots.now.prepared.items) in
      subst (λ (o : List (Option _)). RefinesCommand x (view out) (view (in_image o)) s (discard c.args.slot) misuse) (sym (c.put.ensures.is ∙ set_same out.slots c.args.slot None c.in-None.ensures.was))
      (none_as x (view out) s _ _ misuse refl stands (record { sized = λ _. tt; failed = λ _. tt; may = λ _. tt }) (λ _. (none_at (image_abstraction g.S.Storage.view g.F.BackingDisk.backing) c.args.image.now out.slots c.args.slot c.in-None.ensures.was, refl)) (λ f. f) (λ _ _. refl) tt);
  finds = search rules;
  after = c.put.ensures.is ∙ set_same c.args.slots.now.prepared.items c.args.slot None c.in-None.ensures.was;
  reports = tt;
  causes = is_misused g.S.Storage.view g.F.BackingDisk.backing c.args.image.now c.args.image.now (in_image c.args.slots.now.prepared.items) (C.DiscardDataMapping c.args.slot) (λ _. c.in-None.ensures.was, λ _. refl) refl tt;
  quiet = λ reading existing. record { reading = reading; quiet = reads_none g.S.Storage.view c.args.image.now; existing = subst AreExisting (sym c.put.ensures.is) (existing_set c.args.slots.now.prepared.items c.args.slot None existing tt) };
}

pub returns-in-Some : goal.returns-in-Some
returns-in-Some g c = record {
  keeps = search rules;
  size = search rules;
  counts = search rules;
  marks = let released = counts_released g.S.Storage.view c.args.image.now c.release.new.image c.release.ensures.rest in
      record { fails = c.release.ensures.marks; counts = released; memory = λ bad. absurd (cc) };
  header_cluster = λ _. search rules;
  slots = search rules;
  steps = λ _ x s stands founds.
      let spec = image_abstraction g.S.Storage.view g.F.BackingDisk.backing in
      let out = (in_image c.args.slots.now.prepared.items) in
      subst (λ (o : List (Option _)). RefinesCommand x (abstract_image spec c.args.image.now out.slots) (abstract_image spec c.release.new.image o) s (discard c.args.slot) done) (sym c.put.ensures.is)
      (done_as x _ _ s _ _ _ refl stands (record { sized = λ _. tt; failed = λ _. tt; may = λ _. tt }) (does_discard s.found c.args.slot _ (found_at spec c.args.image.now out.slots c.args.slot c.in-Some.prepared c.in-Some.ensures.was) (c.release.ensures.sees out c.args.slot c.in-Some.ensures.was)) (λ f. f) (λ _ _. refl) (λ _. tt));
  finds = search rules;
  after = (c.in-Some.prepared, c.in-Some.ensures.was, c.put.ensures.is);
  reports = tt;
  causes = is_done g.S.Storage.view g.F.BackingDisk.backing c.args.image.now c.release.new.image (in_image c.args.slots.now.prepared.items) (C.DiscardDataMapping c.args.slot) R.Done (λ is. absurd cc) (λ is. absurd cc, λ free. absurd (not_free c.args.slots.now.prepared.items c.args.slot c.in-Some.ensures.was free)) refl tt (λ _ _. tt);
  quiet = λ reading existing. record { reading = c.release.ensures.image.writable ∙ reading; quiet = quiet_release g.S.Storage.view c.args.image.now c.release.new.image c.release.ensures.rest; existing = subst AreExisting (sym c.put.ensures.is) (existing_set c.args.slots.now.prepared.items c.args.slot None existing tt) };
}

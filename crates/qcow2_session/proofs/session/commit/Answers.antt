use Rattle.std.proofs.Common.{◌≡◌, inl, inr, refl, sym, ap, subst, ◌∙◌, List, Option, Some, None, Err, rules}
use Rattle.qcow2_session.proofs.Common.{MarksAtOnce, slice_get, slice_set, IsNone, RefinesCommand, commit, done, misuse, refused, done_as, refused_as, none_as, image_abstraction, abstract_image, refusal_of, Commits, reason_of, fault_of, AreExisting, is_failed, table_of, IsFaultOrLimit, behind_none, reads_none, get_set_same, set_set, set_same, in_image}
use Rattle.qcow2_session.proofs.Lemmas.{at_rest, commit_at_once, set_again, found_at, none_at, does_commit, refuses_commit, not_both, not_old_tables, kept_is, existing_set, is_done, is_misused, is_refused, kept_error, kept_same, not_failed, not_free, same_mapping, where_failed, where_works, quiet_commit}
use Rattle.qcow2_session.specs.declared.session.Command.TheVariants as C
use Rattle.qcow2_session.specs.declared.session.Reply.TheVariants as R
use Rattle.qcow2_session.proofs.session.commit.Goals as goal

pub fill-requires-clause-free : goal.fill-requires-clause-free
fill-requires-clause-free g c =
    subst (λ (o : List (Option _)). slice_get o c.args.slot ≡ Some None) (sym c.put.ensures.is) (get_set_same c.args.slots.now.prepared.items c.args.slot None (Some c.in-Some.prepared) c.in-Some.ensures.was)

pub returns-in_default : goal.returns-in_default
returns-in_default g c = record {
  keeps = search rules;
  size = search rules;
  counts = search rules;
  marks = at_rest g.S.Storage.view None c.args.image.now refl;
  header_cluster = λ _. behind_none;
  slots = search rules;
  steps = λ _ x s stands founds.
      let spec = image_abstraction g.S.Storage.view g.F.BackingDisk.backing in
      let out = (in_image c.args.slots.now.prepared.items) in
      subst (λ (o : List (Option _)). RefinesCommand x (abstract_image spec c.args.image.now out.slots) (abstract_image spec c.args.image.now o) s (commit c.args.slot) misuse) (sym (c.put.ensures.is ∙ set_same out.slots c.args.slot None c.in_default.ensures.was))
      (none_as x (abstract_image spec c.args.image.now out.slots) s _ _ misuse refl stands (record { sized = λ _. tt; failed = λ _. tt; may = λ _. tt }) (λ _. (none_at spec c.args.image.now out.slots c.args.slot c.in_default.ensures.was, refl)) (λ f. f) (λ _ _. refl) tt);
  finds = search rules;
  after = c.put.ensures.is ∙ set_same c.args.slots.now.prepared.items c.args.slot None c.in_default.ensures.was;
  reports = tt;
  causes = is_misused g.S.Storage.view g.F.BackingDisk.backing c.args.image.now c.args.image.now (in_image c.args.slots.now.prepared.items) (C.CommitDataMapping c.args.slot) (λ _. c.in_default.ensures.was, λ _. refl) refl tt;
  quiet = λ reading existing. record { reading = reading; quiet = reads_none g.S.Storage.view c.args.image.now; existing = subst AreExisting (sym c.put.ensures.is) (existing_set c.args.slots.now.prepared.items c.args.slot None existing tt) };
}

pub returns-in-Ok : goal.returns-in-Ok
returns-in-Ok g c = record {
  keeps = search rules;
  size = search rules;
  counts = search rules;
  marks = record { fails = c.in-Ok.ensures.step.marks; counts = c.in-Ok.ensures.step.once_written.counts; memory = λ bad. absurd (cc) };
  header_cluster = λ _. search rules;
  slots = search rules;
  steps = λ _ x s stands founds.
      let spec = image_abstraction g.S.Storage.view g.F.BackingDisk.backing in
      let out = (in_image c.args.slots.now.prepared.items) in
      subst (λ (o : List (Option _)). RefinesCommand x (abstract_image spec c.args.image.now out.slots) (abstract_image spec c.commit_data_mapping.new.self o) s (commit c.args.slot) done) (sym c.put.ensures.is)
      (done_as x _ _ s _ _ _ refl stands (record { sized = λ _. tt; failed = λ f. absurd (not_both (c.in-Ok.ensures.refusals.failed (c.in-Some.ensures.own ∙ c.put.ensures.image ∙ c.requires) f)); may = λ _. tt }) (does_commit s.found c.args.slot _ (found_at spec c.args.image.now out.slots c.args.slot c.in-Some.prepared c.in-Some.ensures.was)
      (c.in-Ok.ensures.sees out c.args.slot c.in-Some.ensures.was)) (λ f. f) (λ _ _. refl) (λ _. tt));
  finds = search rules;
  after = (c.in-Some.prepared, c.in-Some.ensures.was, c.put.ensures.is);
  reports = tt;
  causes = let own = c.in-Some.ensures.own ∙ c.put.ensures.image ∙ c.requires in
      is_done g.S.Storage.view g.F.BackingDisk.backing c.args.image.now c.commit_data_mapping.new.self (in_image c.args.slots.now.prepared.items) (C.CommitDataMapping c.args.slot) R.Done (λ is. absurd cc) (λ is. absurd cc, λ free. absurd (not_free c.args.slots.now.prepared.items c.args.slot c.in-Some.ensures.was free)) refl
      (where_failed _ (is_failed c.args.image.now) (λ f. absurd (not_both (c.in-Ok.ensures.refusals.failed own f)))) (λ _ _. tt);
  quiet = λ reading existing. record { reading = c.commit_data_mapping.ensures.step.image.writable ∙ reading; quiet = quiet_commit g.S.Storage.view c.args.image.now c.commit_data_mapping.new.self (c.commit_data_mapping.ensures.refusals.failed (c.in-Some.ensures.own ∙ c.put.ensures.image ∙ c.requires)) (λ works. c.commit_data_mapping.ensures.existing (c.in-Some.ensures.own ∙ c.put.ensures.image ∙ c.requires) works (existing c.args.slot c.in-Some.prepared c.in-Some.ensures.was)); existing = subst AreExisting (sym c.put.ensures.is) (existing_set c.args.slots.now.prepared.items c.args.slot None existing tt) };
}

pub returns-in-Err-Spent : goal.returns-in-Err-Spent
returns-in-Err-Spent g c = record {
  keeps = search rules;
  size = search rules;
  counts = search rules;
  marks = subst (λ r. MarksAtOnce g.S.Storage.view (Some (reason_of r)) c.args.image.now c.commit_data_mapping.new.self) c.in-Err-Spent.field-0-is (commit_at_once g.S.Storage.view c.args.image.now c.commit_data_mapping.new.self _ c.in-Err-Spent.ensures.step.once_written c.in-Err-Spent.ensures.step.marks);
  header_cluster = λ _. search rules;
  slots = search rules;
  steps = λ _ x s stands founds.
      let spec = image_abstraction g.S.Storage.view g.F.BackingDisk.backing in
      let out = (in_image c.args.slots.now.prepared.items) in
      subst (λ (o : List (Option _)). RefinesCommand x (abstract_image spec c.args.image.now out.slots) (abstract_image spec c.commit_data_mapping.new.self o) s (commit c.args.slot) (refused (refusal_of c.in-Err-Spent.refusal))) (sym c.put.ensures.is)
      (refused_as x _ _ s _ _ _ _ refl stands (record { sized = λ _. tt; failed = λ f. absurd (not_old_tables c.in-Err-Spent.field-0-is (c.in-Err-Spent.ensures.refusals.failed (c.in-Some.ensures.own ∙ c.put.ensures.image ∙ c.requires) f)); may = λ _. tt })
      (refuses_commit s.found c.args.slot _ (found_at spec c.args.image.now out.slots c.args.slot c.in-Some.prepared c.in-Some.ensures.was)
      (subst (λ r. Commits g.S.Storage.view g.F.BackingDisk.backing c.args.image.now c.commit_data_mapping.new.self c.in-Some.prepared (Err r)) c.in-Err-Spent.field-0-is c.in-Err-Spent.ensures.sees out c.args.slot c.in-Some.ensures.was).1) (λ f. f) (λ f. f) (λ _ _. refl) tt);
  finds = search rules;
  after = let own = c.in-Some.ensures.own ∙ c.put.ensures.image ∙ c.requires in
      inr (
        where_works (IsFaultOrLimit c.in-Err-Spent.refusal) (is_failed c.args.image.now) (λ f. not_old_tables c.in-Err-Spent.field-0-is (c.in-Err-Spent.ensures.refusals.failed own f))
            (λ works. subst (λ r. IsFaultOrLimit (reason_of r)) c.in-Err-Spent.field-0-is (c.in-Err-Spent.ensures.refusals.late own works)),
        (c.in-Some.prepared, c.in-Some.ensures.was, c.put.ensures.is),
      );
  reports = tt;
  causes = let own = c.in-Some.ensures.own ∙ c.put.ensures.image ∙ c.requires in
      is_refused g.S.Storage.view g.F.BackingDisk.backing c.args.image.now c.commit_data_mapping.new.self (in_image c.args.slots.now.prepared.items) (C.CommitDataMapping c.args.slot) c.in-Err-Spent.refusal (R.Refused c.in-Err-Spent.refusal) (λ is. absurd cc) (λ is. absurd cc, λ free. absurd (not_free c.args.slots.now.prepared.items c.args.slot c.in-Some.ensures.was free)) refl
      (where_failed _ (is_failed c.args.image.now) (λ f. absurd (not_old_tables c.in-Err-Spent.field-0-is (c.in-Err-Spent.ensures.refusals.failed own f))))
      (λ none. subst (λ r. IsFaultOrLimit (reason_of r)) c.in-Err-Spent.field-0-is (c.in-Err-Spent.ensures.refusals.late own (not_failed (is_failed c.args.image.now) none)))
      (λ _ _. tt) (λ none idle. let no = (c.in-Err-Spent.ensures.existing own (not_failed (is_failed c.args.image.now) none) (subst (λ p. IsNone (table_of p)) (same_mapping c.args.slots.now.prepared.items c.args.slot c.in-Some.ensures.was idle.1) idle.2)).0 in absurd cc) (λ _ sound. fault_of c.in-Err-Spent.refusal ((subst (λ r. Commits g.S.Storage.view g.F.BackingDisk.backing c.args.image.now c.commit_data_mapping.new.self c.in-Some.prepared (Err r)) c.in-Err-Spent.field-0-is c.in-Err-Spent.ensures.sees (in_image c.args.slots.now.prepared.items) c.args.slot c.in-Some.ensures.was).0 sound));
  quiet = λ reading existing. record { reading = c.commit_data_mapping.ensures.step.image.writable ∙ reading; quiet = quiet_commit g.S.Storage.view c.args.image.now c.commit_data_mapping.new.self (c.commit_data_mapping.ensures.refusals.failed (c.in-Some.ensures.own ∙ c.put.ensures.image ∙ c.requires)) (λ works. c.commit_data_mapping.ensures.existing (c.in-Some.ensures.own ∙ c.put.ensures.image ∙ c.requires) works (existing c.args.slot c.in-Some.prepared c.in-Some.ensures.was)); existing = subst AreExisting (sym c.put.ensures.is) (existing_set c.args.slots.now.prepared.items c.args.slot None existing tt) };
}

pub returns-in-Err-Kept : goal.returns-in-Err-Kept
returns-in-Err-Kept g c = record {
  keeps = search rules;
  size = search rules;
  counts = search rules;
  marks = subst (λ r. MarksAtOnce g.S.Storage.view (Some (reason_of r)) c.args.image.now c.commit_data_mapping.new.self) c.in-Err-Kept.field-0-is (commit_at_once g.S.Storage.view c.args.image.now c.commit_data_mapping.new.self _ c.in-Err-Kept.ensures.step.once_written c.in-Err-Kept.ensures.step.marks);
  header_cluster = λ _. search rules;
  slots = search rules;
  steps = λ _ x s stands founds.
      let spec = image_abstraction g.S.Storage.view g.F.BackingDisk.backing in
      let out = (in_image c.args.slots.now.prepared.items) in
      subst (λ (o : List (Option _)). RefinesCommand x (abstract_image spec c.args.image.now out.slots) (abstract_image spec c.commit_data_mapping.new.self o) s (commit c.args.slot) (refused (refusal_of c.in-Err-Kept.refusal)))
      (sym (c.fill.ensures.is ∙ ap (λ (o : List (Option _)). slice_set o c.args.slot (Some c.in-Err-Kept.prepared)) c.put.ensures.is ∙ set_set out.slots c.args.slot None (Some c.in-Err-Kept.prepared)))
      (refused_as x _ _ s _ _ _ _ refl stands (record { sized = λ _. tt; failed = λ f. kept_is c.in-Err-Kept.field-0-is (c.in-Err-Kept.ensures.refusals.failed (c.in-Some.ensures.own ∙ c.put.ensures.image ∙ c.requires) f); may = λ _. tt })
      (refuses_commit s.found c.args.slot _ (found_at spec c.args.image.now out.slots c.args.slot c.in-Some.prepared c.in-Some.ensures.was)
      (subst (λ r. Commits g.S.Storage.view g.F.BackingDisk.backing c.args.image.now c.commit_data_mapping.new.self c.in-Some.prepared (Err r)) c.in-Err-Kept.field-0-is c.in-Err-Kept.ensures.sees out c.args.slot c.in-Some.ensures.was).1) (λ f. f) (λ f. f) (λ _ _. refl) tt);
  finds = search rules;
  after = let q = c.in-Err-Kept.prepared in
      inl (c.fill.ensures.is ∙ ap (λ (o : List (Option _)). slice_set o c.args.slot (Some q)) c.put.ensures.is
      ∙ set_again c.args.slots.now.prepared.items c.args.slot None (Some q) (Some c.in-Some.prepared) c.in-Some.ensures.was (ap Some (kept_same c.in-Some.prepared c.in-Err-Kept.field-0-is c.in-Err-Kept.ensures.refusals.kept)));
  reports = tt;
  causes = let own = c.in-Some.ensures.own ∙ c.put.ensures.image ∙ c.requires in
      is_refused g.S.Storage.view g.F.BackingDisk.backing c.args.image.now c.commit_data_mapping.new.self (in_image c.args.slots.now.prepared.items) (C.CommitDataMapping c.args.slot) c.in-Err-Kept.refusal (R.Refused c.in-Err-Kept.refusal) (λ is. absurd cc) (λ is. absurd cc, λ free. absurd (not_free c.args.slots.now.prepared.items c.args.slot c.in-Some.ensures.was free)) refl
      (where_failed _ (is_failed c.args.image.now) (λ f. (kept_error c.in-Err-Kept.field-0-is (c.in-Err-Kept.ensures.refusals.failed own f).0, (c.in-Err-Kept.ensures.refusals.failed own f).1)))
      (λ none. subst (λ r. IsFaultOrLimit (reason_of r)) c.in-Err-Kept.field-0-is (c.in-Err-Kept.ensures.refusals.late own (not_failed (is_failed c.args.image.now) none)))
      (λ _ _. tt) (λ none idle. let no = (c.in-Err-Kept.ensures.existing own (not_failed (is_failed c.args.image.now) none) (subst (λ p. IsNone (table_of p)) (same_mapping c.args.slots.now.prepared.items c.args.slot c.in-Some.ensures.was idle.1) idle.2)).0 in absurd cc) (λ _ sound. fault_of c.in-Err-Kept.refusal ((subst (λ r. Commits g.S.Storage.view g.F.BackingDisk.backing c.args.image.now c.commit_data_mapping.new.self c.in-Some.prepared (Err r)) c.in-Err-Kept.field-0-is c.in-Err-Kept.ensures.sees (in_image c.args.slots.now.prepared.items) c.args.slot c.in-Some.ensures.was).0 sound));
  quiet = λ reading existing. record {
    reading = c.commit_data_mapping.ensures.step.image.writable ∙ reading;
    quiet = quiet_commit g.S.Storage.view c.args.image.now c.commit_data_mapping.new.self (c.commit_data_mapping.ensures.refusals.failed (c.in-Some.ensures.own ∙ c.put.ensures.image ∙ c.requires)) (λ works. c.commit_data_mapping.ensures.existing (c.in-Some.ensures.own ∙ c.put.ensures.image ∙ c.requires) works (existing c.args.slot c.in-Some.prepared c.in-Some.ensures.was));
    existing = subst AreExisting (sym (c.fill.ensures.is ∙ ap (λ (o : List (Option _)). slice_set o c.args.slot (Some c.in-Err-Kept.prepared)) c.put.ensures.is
        ∙ set_again c.args.slots.now.prepared.items c.args.slot None (Some c.in-Err-Kept.prepared) (Some c.in-Some.prepared) c.in-Some.ensures.was (ap Some (kept_same c.in-Some.prepared c.in-Err-Kept.field-0-is c.in-Err-Kept.ensures.refusals.kept)))) existing;
  };
}

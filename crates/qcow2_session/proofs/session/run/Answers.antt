use Rattle.std.proofs.Common.{◌≡◌, ◌+◌, ◌∷◌, ◌++◌, rules, ◌∙◌, refl, sym, ap, inl, inr, ⊎_elim, subst, arith, [], None, take, map, is_some, replicate}
use Rattle.qcow2_session.proofs.Common.{common_steps, take_more, take_all, map-append, abstract_of, image_abstraction, HasNoInvalidation, RefinesWholeRun, begun, started, begins, completes, refines_the_disk, command_of, reply_of, free_places, nothing_since, whole, contents_in, IsReportedRun, RunPoint, first_point, mappings_in, range_of, IsUntouched, RunCounts, behind_none, behind_then, written_then, in_image}
use Rattle.qcow2_session.proofs.LookingUp.{looked_up, none_said}
use Rattle.qcow2_session.proofs.Lemmas.{ranges_after, surplus_none, GoesOn, command_step_on, map_more, IsToldSoFar, first_told, image_itself, itself_then, none_before, same_itself, told_more, existing_none, none_counted, run_counts_more, run_counts_still, along_quietly}
use Rattle.qcow2_session.proofs.Runs.{first_of_all}
use Rattle.qcow2_session.proofs.session.run.Goals as goal
use Rattle.qcow2_image.specs.declared.mapping.Place.TheVariants.{Image}

pub loop-command-init : goal.loop-command-init
loop-command-init g c = record {
  behind = λ _. behind_none;
  faults = subst (λ l. RunCounts g.S.Storage.view g.F.BackingDisk.backing c.args.image.now c.args.image.now l) (sym c.in-Ok.ensures.items) (none_counted g.S.Storage.view g.F.BackingDisk.backing c.args.image.now);
  own = grind (arith, common_steps);
  keeps = same_itself refl;
  answered = c.in-Ok.ensures.len;
  ran = λ _ x s stands.
      let view = g.S.Storage.view in
      let below = g.F.BackingDisk.backing in
      first_of_all (image_abstraction view below) (free_places view below Image) c.args.image.now 256 x s _ _ _ c.in-Some.ensures.prepared c.in-Some.ensures.mappings (ap (λ l. map reply_of l) c.in-Ok.ensures.items) stands;
  told = first_told g.S.Storage.view g.F.BackingDisk.backing c.args.image.now _ _ _ c.in-Some.ensures.prepared c.in-Some.ensures.mappings c.in-Ok.ensures.items;
}

pub loop-command-preserved : goal.loop-command-preserved
loop-command-preserved g c = record {
  behind = λ none.
      let split = take_more c.args.commands.now c.loop-command.command-index c.command-item.result c.loop-command-test.true ∙ ap (λ q. take c.loop-command.command-index c.args.commands.now ++ q ∷ []) (sym c.command-item.is) in
      let parts = none_before (take c.loop-command.command-index c.args.commands.now) c.command-item.result (subst (λ l. HasNoInvalidation (map command_of l)) split none) in
      behind_then (c.loop-command.invariant.behind parts.0) (c.step-reply.ensures.header_cluster parts.1);
  faults = subst (λ l. RunCounts g.S.Storage.view g.F.BackingDisk.backing c.args.image.now c.step-reply.new.image l) (sym c.push_reserved.ensures.items)
      (run_counts_more g.S.Storage.view g.F.BackingDisk.backing c.args.image.now c.loop-command.image c.step-reply.new.image c.loop-command.replies.items c.step-reply.result c.loop-command.invariant.faults c.step-reply.ensures.counts);
  own = c.step-reply.ensures.slots ∙ c.loop-command.invariant.own ∙ sym c.step-reply.ensures.keeps.number;
  keeps = itself_then c.loop-command.invariant.keeps c.step-reply.ensures.keeps;
  answered = c.push_reserved.ensures.len ∙ ap (λ n. n + 1) c.loop-command.invariant.answered;
  ran = λ none x s stands.
      let spec = image_abstraction g.S.Storage.view g.F.BackingDisk.backing in
      let done = c.loop-command.command-index in
      let commands = c.args.commands.now in
      let replies = c.loop-command.replies.items in
      let first = c.args.image.now in
      let free = replicate 256 None in
      let next = c.step-reply.new.image in
      let out = c.step-reply.new.slots.prepared.items in
      let found = c.step-reply.new.slots.mappings.items in
      let split = take_more commands done c.command-item.result c.loop-command-test.true ∙ ap (λ q. take done commands ++ q ∷ []) (sym c.command-item.is) in
      let parts = none_before (take done commands) c.command-item.result (subst (λ l. HasNoInvalidation (map command_of l)) split none) in
      subst (λ l. GoesOn spec x first free next out (begun s) (map command_of (take (done + 1) commands)) l found) (sym (ap (λ l. map reply_of l) c.push_reserved.ensures.items ∙ map-append reply_of replies (c.step-reply.result ∷ [])))
      (subst (λ k. GoesOn spec x first free next out (begun s) k (map reply_of replies ++ reply_of c.step-reply.result ∷ []) found) (sym (map_more command_of commands done c.command-item.result split))
      (command_step_on spec x first c.loop-command.image next free c.loop-command.slots.prepared.items out (begun s) (map command_of (take done commands)) (map reply_of replies)
      c.loop-command.slots.mappings.items found (command_of c.command-item.result) (reply_of c.step-reply.result) (c.loop-command.invariant.ran parts.0 x s stands) (c.step-reply.ensures.steps parts.1 x) (λ k. ap range_of (c.step-reply.ensures.finds k) ∙ ranges_after (mappings_in c.loop-command.slots.mappings.items) c.command-item.result c.step-reply.result k)));
  told =
      let view = g.S.Storage.view in
      let below = g.F.BackingDisk.backing in
      let done = c.loop-command.command-index in
      let commands = c.args.commands.now in
      let before : RunPoint _ _ = record { image = c.loop-command.image; prepared = c.loop-command.slots.prepared.items; found = mappings_in c.loop-command.slots.mappings.items } in
      let now : RunPoint _ _ = record { image = c.step-reply.new.image; prepared = c.step-reply.new.slots.prepared.items; found = mappings_in c.step-reply.new.slots.mappings.items } in
      let split = take_more commands done c.command-item.result c.loop-command-test.true ∙ ap (λ q. take done commands ++ q ∷ []) (sym c.command-item.is) in
      subst (λ l. IsToldSoFar view below c.args.image.now now (take (done + 1) commands) l) (sym c.push_reserved.ensures.items)
      (subst (λ l. IsToldSoFar view below c.args.image.now now l (c.loop-command.replies.items ++ c.step-reply.result ∷ [])) (sym split)
      (told_more view below c.args.image.now before now (take done commands) c.loop-command.replies.items c.command-item.result c.step-reply.result c.loop-command.invariant.told
      (record { keeps = c.step-reply.ensures.keeps; reports = c.step-reply.ensures.reports; slots = c.step-reply.ensures.after; causes = c.step-reply.ensures.causes; finds = c.step-reply.ensures.finds; counts = c.step-reply.ensures.counts; failed = c.step-reply.ensures.marks; size = c.step-reply.ensures.size; quiet = c.step-reply.ensures.quiet })
      c.step-reply.ensures.steps));
}

pub returns-clause-runs : goal.returns-clause-runs
returns-clause-runs g c = λ none x s stands.
    let view = g.S.Storage.view in
    let below = g.F.BackingDisk.backing in
    let spec = image_abstraction view below in
    let old = c.args.image.now in
    let new = c.discard_all.new.image in
    let replies = map reply_of c.loop-command.replies.items in
    let all : take c.loop-command.command-index c.args.commands.now ≡ c.args.commands.now = take_all c.loop-command.command-index c.args.commands.now c.loop-command-test.false in
    let so_far = subst (λ k. HasNoInvalidation (map command_of k)) (sym all) none in
    inr (subst (λ k. RefinesWholeRun spec x old new (begun s) (map command_of k) replies) all
    (completes spec x old c.loop-command.image new (replicate 256 None) c.loop-command.slots.prepared.items (begun s) (map command_of (take c.loop-command.command-index c.args.commands.now)) replies
    (c.loop-command.invariant.ran so_far x s stands).ran c.discard_all.ensures.sees (λ k. refl) (surplus_none spec (free_places view below Image) old 256)))

pub returns-clause-means : goal.returns-clause-means
returns-clause-means g c = λ none opened.
    let view = g.S.Storage.view in
    let below = g.F.BackingDisk.backing in
    let old = c.args.image.now in
    let before = abstract_of view below old (in_image []) in
    let stands = begins before opened.sound (whole view below old (in_image []) opened.sound) opened.clean in
    ⊎_elim (λ h. inl h)
    (λ all. inr (refines_the_disk (image_abstraction view below) old c.discard_all.new.image (map command_of c.args.commands.now) (map reply_of c.loop-command.replies.items) (nothing_since view below g.S.Storage.only_now old) stands all))
    (returns-clause-runs g c none before.setting (started before) stands)

pub returns-in_default-clause-maps : goal.returns-in_default-clause-maps
returns-in_default-clause-maps g c = λ none opened.
    none_said (contents_in g.S.Storage.view c.args.image.now.file) (is_some c.args.image.now.backing) (map command_of c.args.commands.now) c.new.result.items c.new.ensures.items

pub returns-in_default-new-clause-maps : goal.returns-in_default-new-clause-maps
returns-in_default-new-clause-maps g c = λ none opened.
    none_said (contents_in g.S.Storage.view c.args.image.now.file) (is_some c.args.image.now.backing) (map command_of c.args.commands.now) c.new-in_default-new.result.items c.new-in_default-new.ensures.items

pub returns-clause-reports : goal.returns-clause-reports
returns-clause-reports g c =
    let all : take c.loop-command.command-index c.args.commands.now ≡ c.args.commands.now = take_all c.loop-command.command-index c.args.commands.now c.loop-command-test.false in
    let told = c.loop-command.invariant.told in
    inr (subst (λ k. IsReportedRun g.S.Storage.view g.F.BackingDisk.backing c.args.image.now c.discard_all.new.image k c.loop-command.replies.items) all (record {
      points = told.points;
      last = record { image = c.loop-command.image; prepared = c.loop-command.slots.prepared.items; found = mappings_in c.loop-command.slots.mappings.items };
      along = told.along;
      steps = λ none x s stands. let so_far = told.so_far none x s stands in (so_far.end, so_far.steps);
      leaves = c.discard_all.ensures.sees;
      keeps = image_itself c.discard_all.ensures.step.image;
      failed = c.discard_all.ensures.step.marks;
    }))

pub returns-clause-step : goal.returns-clause-step
returns-clause-step g c = record {
  number = c.discard_all.ensures.step.image.number ∙ c.loop-command.invariant.keeps.number;
  faults = run_counts_still g.S.Storage.view g.F.BackingDisk.backing c.args.image.now c.loop-command.image c.discard_all.new.image c.loop-command.replies.items c.loop-command.invariant.faults c.discard_all.ensures.step.faults;
  header_cluster = λ none.
      let all : take c.loop-command.command-index c.args.commands.now ≡ c.args.commands.now = take_all c.loop-command.command-index c.args.commands.now c.loop-command-test.false in
      behind_then (c.loop-command.invariant.behind (subst (λ k. HasNoInvalidation (map command_of k)) (sym all) none)) c.discard_all.ensures.step.header_cluster;
  count = search rules;
}

pub returns-in_default-clause-step : goal.returns-in_default-clause-step
returns-in_default-clause-step g c = record {
  number = search rules;
  faults = subst (λ l. RunCounts g.S.Storage.view g.F.BackingDisk.backing c.args.image.now c.args.image.now l) (sym c.new.ensures.items) (none_counted g.S.Storage.view g.F.BackingDisk.backing c.args.image.now);
  header_cluster = λ _. behind_none;
  count = search rules;
}

pub returns-in_default-new-clause-step : goal.returns-in_default-new-clause-step
returns-in_default-new-clause-step g c = record {
  number = search rules;
  faults = subst (λ l. RunCounts g.S.Storage.view g.F.BackingDisk.backing c.args.image.now c.args.image.now l) (sym c.new-in_default-new.ensures.items) (none_counted g.S.Storage.view g.F.BackingDisk.backing c.args.image.now);
  header_cluster = λ _. behind_none;
  count = search rules;
}

pub returns-clause-quiet : goal.returns-clause-quiet
returns-clause-quiet g c = λ reading.
    let told = c.loop-command.invariant.told in
    written_then g.S.Storage.view (along_quietly g.S.Storage.view g.F.BackingDisk.backing (first_point c.args.image.now) (take c.loop-command.command-index c.args.commands.now) c.loop-command.replies.items told.points _ told.along reading existing_none) c.discard_all.ensures.step.quiet

pub returns-clause-maps : goal.returns-clause-maps
returns-clause-maps g c = λ none opened.
    let view = g.S.Storage.view in
    let below = g.F.BackingDisk.backing in
    let old = c.args.image.now in
    let new = c.discard_all.new.image in
    let b = contents_in view old.file in
    let commands = c.args.commands.now in
    let replies = c.loop-command.replies.items in
    let before = abstract_of view below old (in_image []) in
    ⊎_elim
    (λ (untouched : IsUntouched view below old new replies). none_said b (is_some old.backing) (map command_of commands) replies untouched.0)
    (λ (told : IsReportedRun view below old new commands replies).
    let steps = told.steps none before.setting (started before) (begins before opened.sound (whole view below old (in_image []) opened.sound) opened.clean) in
    looked_up view below before.setting b (first_point old) (begun (started before)) steps.0 commands replies told.points steps.1 refl opened.clean)
    (returns-clause-reports g c)

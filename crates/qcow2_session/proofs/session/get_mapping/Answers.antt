use Rattle.qcow2_session.proofs.Lemmas.{answered_at_once, refused_at_once, does_if, found_set, unusable_first, error_is, not_both, lookup_answer, begun_with, is_answered, is_refused, some_error, none_refused}
use Rattle.std.proofs.Common.{◌≡◌, refl, sym, ap, subst, ◌∙◌, Some, is_some, arith, rules, ⊎_elim}
use Rattle.qcow2_session.proofs.Common.{slice_set, IsFoundIn, done_as, refused_as, known_in, found_kind, mappings_in, unusable, Mapping, get_set, in_image}
use Rattle.qcow2_session.specs.declared.session.Command.TheVariants as C
use Rattle.qcow2_session.specs.declared.session.Reply.TheVariants as R
use Rattle.qcow2_image.proofs.Call.Slots.{length_set}
use Rattle.qcow2_session.proofs.session.get_mapping.Goals as goal

pub invariant_of-slots-clause-looked_up : goal.invariant_of-slots-clause-looked_up
invariant_of-slots-clause-looked_up g c = λ k m at.
    ⊎_elim (λ (new : Some m ≡ Some c.in-Ok.mapping). ap (λ (x : Mapping). x.image) (some_error new) ∙ c.in-Ok.ensures.found.own.0 ∙ sym c.requires) (λ was. c.args.slots.now.looked_up k m was)
    (get_set c.args.slots.now.mappings.items c.from.result k (Some c.in-Ok.mapping) (Some m) at)

pub invariant_of-slots-clause-all_mappings : goal.invariant_of-slots-clause-all_mappings
invariant_of-slots-clause-all_mappings g c = length_set c.args.slots.now.mappings.items c.from.result (Some c.in-Ok.mapping) ∙ c.args.slots.now.all_mappings

pub returns-in-Ok : goal.returns-in-Ok
returns-in-Ok g c = record {
  keeps = search rules;
  size = search rules;
  counts = search rules;
  marks = answered_at_once g.S.Storage.view c.args.image.now c.get_mapping.new.self c.in-Ok.ensures.step.once_written c.in-Ok.ensures.step.marks;
  header_cluster = λ _. search rules;
  slots = search rules;
  steps = λ _ x s stands founds.
      done_as x _ _ s _ _ _ refl stands (record { sized = λ _. tt; failed = λ f. absurd (not_both (unusable_first c.args.image.now _ c.in-Ok.ensures.refusals.early f)); may = λ _. tt })
      (does_if (λ same. (c.in-Ok.ensures.found.own.1, omega (arith, c.in-Ok.ensures.found.own, c.in-Ok.ensures.found.within), same)) (c.in-Ok.ensures.sees (in_image c.args.slots.now.prepared.items))) (λ f. f) (λ _ _. refl)
      (λ sound. (
        subst (λ n. IsFoundIn (known_in g.S.Storage.view c.get_mapping.new.self.file) (is_some c.get_mapping.new.self.backing) c.args.offset c.args.max (found_kind c.in-Ok.mapping.kind) n) (sym c.in-Ok.ensures.found.own.2) ((c.in-Ok.ensures.sound (in_image c.args.slots.now.prepared.items) sound).run),
        (c.get_mapping.ensures.sound (in_image c.args.slots.now.prepared.items) sound).known,
      ));
  finds = λ k.
      let mappings = c.args.slots.now.mappings.items in
      let found = found_set mappings c.args.slot c.in-Ok.mapping k (omega (arith, c.args.slots.now.all_mappings, c.ranges.slot)) in
      ap (λ n. mappings_in (slice_set mappings n (Some c.in-Ok.mapping)) k) c.from.ensures ∙ found;
  after = refl;
  reports = record {
    own = c.in-Ok.ensures.found.own.0 ∙ sym c.get_mapping.ensures.step.image.number;
    from = c.in-Ok.ensures.found.own.1;
    within = omega (arith, c.in-Ok.ensures.found.own.2, c.in-Ok.ensures.found.within);
    past = λ past. let none = (c.in-Ok.ensures.refusals.past (none_refused _ (unusable c.args.image.now) _ c.in-Ok.ensures.refusals.early) past).1 in (none.0, c.in-Ok.ensures.found.own.2 ∙ none.1);
  };
  causes = is_answered g.S.Storage.view g.F.BackingDisk.backing c.args.image.now c.get_mapping.new.self (in_image c.args.slots.now.prepared.items) (C.GetMapping c.args.slot c.args.offset c.args.max) _ _ (R.Mapping c.in-Ok.mapping) (λ is. absurd cc) (λ is. absurd cc, λ is. absurd is) refl c.in-Ok.ensures.refusals.early (λ _ _. tt);
  quiet = λ reading existing. record { reading = c.get_mapping.ensures.step.image.writable ∙ reading; quiet = c.get_mapping.ensures.step.quiet; existing = existing };
}

pub returns-in-Err : goal.returns-in-Err
returns-in-Err g c = record {
  keeps = search rules;
  size = search rules;
  counts = search rules;
  marks = refused_at_once g.S.Storage.view c.args.image.now c.get_mapping.new.self c.in-Err.refusal c.in-Err.ensures.step.once_written c.in-Err.ensures.step.marks;
  header_cluster = λ _. search rules;
  slots = search rules;
  steps = λ _ x s stands founds. refused_as x _ _ s _ _ _ _ refl stands
      (lookup_answer g.S.Storage.view g.F.BackingDisk.backing c.args.image.now (in_image c.args.slots.now.prepared.items) c.args.slot c.args.offset c.args.max _ (λ f. error_is (unusable_first c.args.image.now _ c.in-Err.ensures.refusals.early f))
      (λ usable past. let no = (c.in-Err.ensures.refusals.past usable past).0 in absurd cc)) (c.in-Err.ensures.sees (in_image c.args.slots.now.prepared.items)) (λ f. f) (λ f. f) (λ _ _. refl) tt;
  finds = search rules;
  after = refl;
  reports = tt;
  causes = is_refused g.S.Storage.view g.F.BackingDisk.backing c.args.image.now c.get_mapping.new.self (in_image c.args.slots.now.prepared.items) (C.GetMapping c.args.slot c.args.offset c.args.max) c.in-Err.refusal (R.Refused c.in-Err.refusal) (λ is. absurd cc) (λ is. absurd cc, λ is. absurd is) refl
      (begun_with _ _ _ (unusable c.args.image.now) c.in-Err.ensures.refusals.early) c.in-Err.ensures.refusals.late (λ _ _. tt) (λ none past. let no = (c.in-Err.ensures.refusals.past none past).0 in absurd cc) (λ _ sound. (c.in-Err.ensures.sound (in_image c.args.slots.now.prepared.items) sound).may_fail);
  quiet = λ reading existing. record { reading = c.get_mapping.ensures.step.image.writable ∙ reading; quiet = c.get_mapping.ensures.step.quiet; existing = existing };
}

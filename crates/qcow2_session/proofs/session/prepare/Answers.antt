use Rattle.qcow2_session.proofs.Lemmas.{answered_at_once, at_rest, refused_at_once, taken, untaken, none_at, found_at, so_in_slot, host_at, prepared_at, does_prepare, preparing_first, prepares_answer, error_is, not_both, none_refused, existing_set, nothing_prepared, prepare_same, prepared_untaken, begun_with, holds, is_answered, is_misused, is_refused, not_free, some_error, quiet_image, quiet_left}
use Rattle.std.proofs.Common.{◌≡◌, inl, inr, refl, sym, ap, subst, ◌∙◌, List, Option, arith, rules, Some, None}
use Rattle.qcow2_session.proofs.Common.{cases_lt, RefinesCommand, prepare, prepared_is, misuse, done_as, refused_as, none_as, image_abstraction, meaning, abstract_image, Setting, slice_get, slice_set, header, HeaderFields, IsPrivateIn, IsHiddenIn, known_in, header_is, hidden_in, refuses_to_prepare, is_writable, AreExisting, behind_none, reads_none, get_set_same, set_slot, in_image}
use Rattle.qcow2_session.specs.declared.session.Command.TheVariants as C
use Rattle.qcow2_session.specs.declared.session.Reply.TheVariants as R
use Rattle.qcow2_session.proofs.session.prepare.Goals as goal

pub returns-then-is_some : goal.returns-then-is_some
returns-then-is_some g c = record {
  keeps = search rules;
  size = search rules;
  counts = search rules;
  marks = at_rest g.S.Storage.view None c.args.image.now refl;
  header_cluster = λ _. behind_none;
  slots = search rules;
  steps = λ _ x s stands founds. none_as x _ s _ _ misuse refl stands (record { sized = λ _. tt; failed = λ _. tt; may = λ _. tt }) (λ _. (taken (image_abstraction g.S.Storage.view g.F.BackingDisk.backing) c.args.image.now c.args.slots.now.prepared.items c.args.slot c.get.result c.get.ensures (sym c.is_some.ensures ∙ c.if-is_some.true), refl)) (λ f. f) (λ _ _. refl) tt;
  finds = search rules;
  after = refl;
  reports = tt;
  causes = is_misused g.S.Storage.view g.F.BackingDisk.backing c.args.image.now c.args.image.now (in_image c.args.slots.now.prepared.items) (C.PrepareDataMapping c.args.slot c.args.offset c.args.length c.args.overwrite) (λ _. holds c.args.slots.now.prepared.items c.args.slot c.get.result c.get.ensures (sym c.is_some.ensures ∙ c.if-is_some.true), λ _. refl) refl (λ is. absurd cc);
  quiet = λ reading existing. record { reading = reading; quiet = reads_none g.S.Storage.view c.args.image.now; existing = existing };
}

pub returns-in-Err : goal.returns-in-Err
returns-in-Err g c = record {
  keeps = search rules;
  size = search rules;
  counts = search rules;
  marks = refused_at_once g.S.Storage.view c.args.image.now c.prepare_data_mapping.new.self c.in-Err.refusal c.in-Err.ensures.step.once_written c.in-Err.ensures.step.marks;
  header_cluster = λ _. search rules;
  slots = search rules;
  steps = λ _ x s stands founds. refused_as x _ _ s _ _ _ _ refl stands (record { sized = λ _. tt; failed = λ f. error_is (preparing_first c.args.image.now _ c.args.offset c.args.length c.in-Err.ensures.refusals.early f); may = λ _. tt }) (c.in-Err.ensures.sees (in_image c.args.slots.now.prepared.items)) (λ f. f) (λ f. f) (λ _ _. refl) tt;
  finds = search rules;
  after = refl;
  reports = tt;
  causes = let free = untaken (image_abstraction g.S.Storage.view g.F.BackingDisk.backing) c.args.image.now c.args.slots.now.prepared.items c.args.slot c.get.result c.get.ensures (sym c.is_some.ensures ∙ c.if-is_some.false) in
      let e = c.in-Err.refusal in
      is_refused g.S.Storage.view g.F.BackingDisk.backing c.args.image.now c.prepare_data_mapping.new.self (in_image c.args.slots.now.prepared.items) (C.PrepareDataMapping c.args.slot c.args.offset c.args.length c.args.overwrite) e (R.Refused e) (λ is. absurd cc) (λ is. absurd cc, λ is. absurd (not_free c.args.slots.now.prepared.items c.args.slot is.1 free)) refl
      (begun_with _ _ _ (refuses_to_prepare c.args.image.now c.args.offset c.args.length) c.in-Err.ensures.refusals.early) c.in-Err.ensures.refusals.late
      (λ none sound. elim (cases_lt 0 c.args.length) [
        | inl some ↦ (c.in-Err.ensures.sound (in_image c.args.slots.now.prepared.items) sound).may_fail none some
        | inr least ↦ absurd (let empty : c.args.length ≡ 0 = omega (arith, least) in let no = (c.in-Err.ensures.refusals.nothing (ap (λ n. refuses_to_prepare c.args.image.now c.args.offset n) (sym empty) ∙ none) empty).0 in cc)
      ])
      (λ none empty. let no = (c.in-Err.ensures.refusals.nothing (ap (λ n. refuses_to_prepare c.args.image.now c.args.offset n) (sym empty) ∙ none) empty).0 in absurd cc)
      (λ none sound is. (c.in-Err.ensures.sound (in_image c.args.slots.now.prepared.items) sound).taken none (some_error is));
  quiet = λ reading existing.
      let old = c.args.image.now in
      let same = prepare_same old reading _ c.args.offset c.args.length c.prepare_data_mapping.ensures.refusals.early c.prepare_data_mapping.ensures.refusals.nothing in
      quiet_left g.S.Storage.view old c.prepare_data_mapping.new.self c.args.slots.now.prepared.items same reading existing;
}

pub returns-in-Ok : goal.returns-in-Ok
returns-in-Ok g c = record {
  keeps = search rules;
  size = search rules;
  counts = search rules;
  marks = answered_at_once g.S.Storage.view c.args.image.now c.prepare_data_mapping.new.self c.in-Ok.ensures.step.once_written c.in-Ok.ensures.step.marks;
  header_cluster = λ _. search rules;
  slots = search rules;
  steps = λ _ x s stands founds.
      let spec = image_abstraction g.S.Storage.view g.F.BackingDisk.backing in
      let out = (in_image c.args.slots.now.prepared.items) in
      let free = untaken spec c.args.image.now out.slots c.args.slot c.get.result c.get.ensures (sym c.is_some.ensures ∙ c.if-is_some.false) in
      subst (λ (o : List (Option _)). RefinesCommand x (abstract_image spec c.args.image.now out.slots) (abstract_image spec c.prepare_data_mapping.new.self o) s (prepare c.args.slot c.args.offset c.args.length c.args.overwrite) (prepared_is c.offset.result c.length.result c.is_nonblocking.result)) (sym c.fill.ensures.is)
      (done_as x _ _ s _ _ _ refl stands (prepares_answer g.S.Storage.view g.F.BackingDisk.backing c.args.image.now out _ (λ e h. not_both h) c.args.slot c.args.offset c.args.length c.args.overwrite c.offset.result c.length.result c.is_nonblocking.result c.in-Ok.ensures.refusals.early)
      (does_prepare s.found c.args.slot c.args.offset c.args.length c.args.overwrite (spec.means c.prepare_data_mapping.new.self c.in-Ok.prepared) c.offset.result c.length.result c.is_nonblocking.result (none_at spec c.args.image.now out.slots c.args.slot free) (sym c.length.ensures)
      (c.in-Ok.ensures.sees out c.args.slot free)) (λ f. f) (λ _ _. refl)
      (λ sound.
      let new = c.prepare_data_mapping.new.self in
      let out' = set_slot out c.args.slot (Some c.in-Ok.prepared) in
      let there = get_set_same out.slots c.args.slot (Some c.in-Ok.prepared) None free in
      let is-at = found_at spec new out'.slots c.args.slot c.in-Ok.prepared there in
      let known = known_in g.S.Storage.view c.args.image.now.file in
      record {
        written = host_at spec new out'.slots c.args.slot c.in-Ok.prepared there ∙ prepared_at c.offset.ensures c.length.ensures c.is_nonblocking.ensures;
        private = λ some. so_in_slot (abstract_image spec new out'.slots) c.args.slot (spec.means new c.in-Ok.prepared) (λ m. IsPrivateIn (header known) known m) is-at
            (subst (λ (h : HeaderFields). IsPrivateIn h known (spec.means new c.in-Ok.prepared)) (sym (header_is g.S.Storage.view g.F.BackingDisk.backing c.args.image.now out sound)) ((c.in-Ok.ensures.sound out sound).maps some).private);
        hidden = so_in_slot (abstract_image spec new out'.slots) c.args.slot (spec.means new c.in-Ok.prepared) (λ m. IsHiddenIn (header (known_in g.S.Storage.view new.file)) (known_in g.S.Storage.view new.file) m) is-at
            (hidden_in g.S.Storage.view g.F.BackingDisk.backing new out' ((c.in-Ok.ensures.sees out c.args.slot free).answer sound).0 c.args.slot c.in-Ok.prepared there);
      }));
  finds = search rules;
  after = let free = untaken (image_abstraction g.S.Storage.view g.F.BackingDisk.backing) c.args.image.now c.args.slots.now.prepared.items c.args.slot c.get.result c.get.ensures (sym c.is_some.ensures ∙ c.if-is_some.false) in
      (c.in-Ok.prepared, (free, c.fill.ensures.is), c.offset.ensures, c.length.ensures, c.is_nonblocking.ensures);
  reports = λ sound.
      let old = c.args.image.now in
      let out = (in_image c.args.slots.now.prepared.items) in
      let p = c.in-Ok.prepared in
      let free = untaken (image_abstraction g.S.Storage.view g.F.BackingDisk.backing) old out.slots c.args.slot c.get.result c.get.ensures (sym c.is_some.ensures ∙ c.if-is_some.false) in (
        p,
        subst (λ (o : List (Option _)). slice_get o c.args.slot ≡ Some (Some p)) (sym c.fill.ensures.is) (get_set_same out.slots c.args.slot (Some p) None free),
        record {
          nothing = λ none. (c.in-Ok.ensures.refusals.nothing (ap (λ n. refuses_to_prepare old c.args.offset n) (sym none) ∙ none_refused _ (refuses_to_prepare old c.args.offset c.args.length) p c.in-Ok.ensures.refusals.early) none).1;
          answered = λ some. (c.in-Ok.ensures.sound out sound).maps some;
        },
      );
  causes = let free = untaken (image_abstraction g.S.Storage.view g.F.BackingDisk.backing) c.args.image.now c.args.slots.now.prepared.items c.args.slot c.get.result c.get.ensures (sym c.is_some.ensures ∙ c.if-is_some.false) in
      is_answered g.S.Storage.view g.F.BackingDisk.backing c.args.image.now c.prepare_data_mapping.new.self (in_image c.args.slots.now.prepared.items) (C.PrepareDataMapping c.args.slot c.args.offset c.args.length c.args.overwrite) _ c.in-Ok.prepared (R.Prepared c.offset.result c.length.result c.is_nonblocking.result) (λ is. absurd cc) (λ is. absurd cc, λ is. absurd (not_free c.args.slots.now.prepared.items c.args.slot is.1 free)) refl
      c.in-Ok.ensures.refusals.early
      (λ none sound.
      let view = g.S.Storage.view in
      let below = g.F.BackingDisk.backing in
      let old = c.args.image.now in
      let new = c.prepare_data_mapping.new.self in
      let p = c.in-Ok.prepared in
      let out = (in_image c.args.slots.now.prepared.items) in
      let sees = c.in-Ok.ensures.sees out c.args.slot free in
      prepared_untaken view below old.file.header.fields (known_in view old.file) new out c.args.slot p (meaning view below out.place new p) c.args.offset c.args.length free (sees.answer sound).0
      (ap (λ (x : Setting). x.cluster_size) (sees.acts.works sound).setting) (sees.answer sound).1.0.from (λ some. (c.in-Ok.ensures.sound out sound).maps some));
  quiet = λ reading existing.
      let old = c.args.image.now in
      let same = prepare_same old reading _ c.args.offset c.args.length c.prepare_data_mapping.ensures.refusals.early c.prepare_data_mapping.ensures.refusals.nothing in
      let p = nothing_prepared old reading _ c.in-Ok.prepared c.args.offset c.args.length c.in-Ok.ensures.refusals.early c.in-Ok.ensures.refusals.nothing in
      record {
        reading = ap is_writable same ∙ reading;
        quiet = quiet_image g.S.Storage.view old c.prepare_data_mapping.new.self same;
        existing = subst AreExisting (sym c.fill.ensures.is) (existing_set c.args.slots.now.prepared.items c.args.slot (Some c.in-Ok.prepared) existing p.0);
      };
}

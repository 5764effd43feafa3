use Rattle.std.proofs.Common.{◌≡◌, ◌∷◌, ◌++◌, ◌∙◌, refl, rules, sym, subst, [], Some}
use Rattle.qcow2_session.proofs.Common.{slice_get, abstract_of, ReleasesMappings, faults_then, behind_none, behind_then, written_none, written_then, same_image_then, in_image}
use Rattle.qcow2_session.proofs.Lemmas.{get_front, none_within, does_if, does_then, none_counted, does_nothing}
use Rattle.qcow2_session.proofs.session.discard_all.Goals as goal

pub loop-slot-preserved : goal.loop-slot-preserved
loop-slot-preserved g c =
    let view = g.S.Storage.view in
    let below = g.F.BackingDisk.backing in
    let rest = c.pop.new.self.items in
    record {
      behind = behind_then c.loop-slot.invariant.behind c.release_slot.ensures.step.header_cluster;
      faults = faults_then g.S.Storage.view g.F.BackingDisk.backing c.args.image.now c.loop-slot.image c.release_slot.new.image c.loop-slot.invariant.faults c.release_slot.ensures.step.faults;
      own = λ k p e. c.loop-slot.invariant.own k p (subst (λ o. slice_get o k ≡ Some (Some p)) (sym c.in-Some.ensures.items) (get_front rest (c.in-Some.slot ∷ []) k (Some p) e)) ∙ sym c.release_slot.ensures.step.image.number;
      image = same_image_then c.loop-slot.invariant.image c.release_slot.ensures.step.image;
      works = c.release_slot.ensures.step.marks ∙ c.loop-slot.invariant.works;
      quiet = written_then view c.loop-slot.invariant.quiet c.release_slot.ensures.step.quiet;
      gone = does_if (λ h. h.1 ∙ h.0)
          (does_then (λ _ _. none_within (abstract_of view below c.loop-slot.image (in_image (rest ++ c.in-Some.slot ∷ []))) [])
          (subst (λ o. ReleasesMappings view below c.args.image.now c.loop-slot.image c.args.slots.prepared.items o) c.in-Some.ensures.items c.loop-slot.invariant.gone) (c.release_slot.ensures.sees rest));
    }

pub loop-slot-init : goal.loop-slot-init
loop-slot-init g c = record {
  faults = none_counted g.S.Storage.view g.F.BackingDisk.backing c.args.image.now;
  behind = behind_none;
  own = search rules;
  image = record { number = refl; size = refl; writable = refl; lacks = refl; beside = refl };
  works = refl;
  quiet = written_none g.S.Storage.view c.args.image.now.file.storage c.args.image.now.file.caches;
  gone = does_if (λ same. refl) (does_nothing (abstract_of g.S.Storage.view g.F.BackingDisk.backing c.args.image.now (in_image c.args.slots.prepared.items)));
}

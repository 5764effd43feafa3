use Rattle.qcow2_image.proofs.Lemmas.{taking_of_filling, taking_where, if_ok_any, met_as}
use Rattle.qcow2_image.proofs.Common.{L2Mapping, BeginsSoundly, refl, ◌∙◌, subst, sym, IfOk-weaker, IsCompressedStill, MayFailFilling, MayFailUncopied}
use Rattle.qcow2_image.proofs.Call.FailingErrors.{uncopied_met}
use Rattle.qcow2_image.proofs.image.Qcow2.prepare_private.Goals as goal
use Rattle.qcow2_image.proofs.Prepare.KeptMappings.{begins_kept}

pub returns-in-Some-clause-sound : goal.returns-in-Some-clause-sound
returns-in-Some-clause-sound g c = λ out sound holds unpinned covered.
    subst (λ (m : L2Mapping). BeginsSoundly g.S.Storage.view g.F.BackingDisk.backing c.args.self.now c.prepare_kept.new.self m c.args.offset c.args.length c.args.overwrite out c.prepare_kept.result) (sym c.in-Some.ensures.place.0)
    (c.prepare_kept.ensures.sound out sound holds unpinned (covered ∙ c.in-Some.ensures.place.0))

pub returns-in-Some-clause-kept : goal.returns-in-Some-clause-kept
returns-in-Some-clause-kept g c = IfOk-weaker c.prepare_kept.result _ _ (λ p place. begins_kept c.args.self.now.file.header.fields c.args.offset c.args.old.now c.in-Some.host p c.in-Some.ensures.place.0 place) c.prepare_kept.ensures.place

pub returns-in-None-clause-kept : goal.returns-in-None-clause-kept
returns-in-None-clause-kept g c = if_ok_any c.prepare_at_guest.result (λ p host at. absurd (c.in-None.ensures.none refl host at))

pub returns-in-None-2-clause-kept : goal.returns-in-None-2-clause-kept
returns-in-None-2-clause-kept g c = if_ok_any c.prepare_new.result (λ p host at. absurd (c.in-None-2.ensures.none refl host at))

pub returns-in-Some-clause-step : goal.returns-in-Some-clause-step
returns-in-Some-clause-step g c = taking_where (taking_of_filling c.prepare_kept.ensures.step)

pub returns-in-Some-clause-fails : goal.returns-in-Some-clause-fails
returns-in-Some-clause-fails g c = record {
  faults = c.prepare_kept.ensures.fails.faults;
  cause = met_as (MayFailUncopied c.prepare_kept.new.self) (MayFailFilling c.args.self.now c.prepare_kept.new.self c.args.old.now) c.prepare_kept.result
      (uncopied_met c.prepare_kept.new.self (IsCompressedStill c.args.self.now.file.caches c.prepare_kept.new.self.file.caches c.args.old.now)) c.prepare_kept.ensures.fails.cause;
}

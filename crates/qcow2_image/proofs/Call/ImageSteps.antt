-- Parts of a call one after another leave an image as each of them does.
use Rattle.qcow2_image.proofs.Common.{refl, ◌∙◌, StorageView, notes_none, notes_then, ImageStays, ImageStep, ImageStepWhere, Qcow2}
use Rattle.qcow2_image.proofs.Call.BehindHeader.{behind_none, behind_then}

pub stays_then : {S F : Type 0} {a b c : Qcow2 S F} → ImageStays a b → ImageStays b c → ImageStays a c
stays_then first then = record {
  image = record {
    number = then.image.number ∙ first.image.number;
    size = then.image.size ∙ first.image.size;
    writable = then.image.writable ∙ first.image.writable;
    lacks = then.image.lacks ∙ first.image.lacks;
    beside = then.image.beside ∙ first.image.beside;
  };
  failed = then.failed ∙ first.failed;
}

module _ {S F : Type 0} {view : S → StorageView} where
  pub step_none : {a : Qcow2 S F} → ImageStep view a a
  step_none = record { stays = record { image = record { number = refl; size = refl; writable = refl; lacks = refl; beside = refl }; failed = refl }; notes = notes_none; header_cluster = behind_none }

  pub step_then : {a b c : Qcow2 S F} → ImageStep view a b → ImageStep view b c → ImageStep view a c
  step_then first then = record {
    stays = stays_then first.stays then.stays;
    notes = notes_then first.notes then.notes;
    header_cluster = behind_then first.header_cluster then.header_cluster;
  }

  -- one without a condition
  pub step_where : {premise : Type 0} {a b : Qcow2 S F} → ImageStep view a b → ImageStepWhere view premise a b
  step_where step = record { stays = step.stays; notes = step.notes; header_cluster = λ _. step.header_cluster }

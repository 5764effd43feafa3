use Rattle.std.proofs.Common.{◌-◌, rules, subst, sym}
use Rattle.qcow2_image.proofs.Common.{ImageInvariant, LastsPart, Qcow2, pending_in}
use Rattle.qcow2_image.specs.SizeSteps.{ReachesSoundly}
use Rattle.qcow2_image.proofs.Lemmas.{step_then}
use Rattle.qcow2_image.proofs.image.Qcow2.lengthen_files.Goals as goal
use Rattle.qcow2_image.proofs.Images.Places.{alone_of}

pub returns-clause-step : goal.returns-clause-step
returns-clause-step g c = step_then c.lengthen_data_file.ensures.step.part c.lengthen_l1_table.ensures.step

pub returns-clause-longer : goal.returns-clause-longer
returns-clause-longer g c = record {
  recorded = search rules;
  placed = search rules;
  length = search rules;
  emptied = search rules;
  sound = λ out sound.
      let view = g.S.Storage.view in
      let below = g.F.BackingDisk.backing in
      let same = (c.lengthen_data_file.ensures.none (alone_of sound)).1 in
      subst (λ (start : Qcow2 _ _). ReachesSoundly view below (c.args.size - 1) start c.lengthen_l1_table.new.self out c.lengthen_l1_table.result) same
      (c.lengthen_l1_table.ensures.longer.sound out (subst (λ (start : Qcow2 _ _). ImageInvariant view below (pending_in view below start out) start out) (sym same) sound));
  lasts = λ out sound.
      let view = g.S.Storage.view in
      let below = g.F.BackingDisk.backing in
      let same = (c.lengthen_data_file.ensures.none (alone_of sound)).1 in
      subst (λ (start : Qcow2 _ _). LastsPart view start c.lengthen_l1_table.new.self c.lengthen_l1_table.result) same
      (c.lengthen_l1_table.ensures.longer.lasts out (subst (λ (start : Qcow2 _ _). ImageInvariant view below (pending_in view below start out) start out) (sym same) sound));
}

use Rattle.std.proofs.Common.{◌-◌, arith}
use Rattle.qcow2_image.proofs.Prepare.CopiedBytes.{none_has, some_has}
use Rattle.qcow2_image.proofs.Lemmas.{image_step_none, step_none}
use Rattle.qcow2_image.proofs.Prepare.KeptClusters.{filled_by_none, filled_with_zeros, image_step_filled}
use Rattle.qcow2_image.proofs.image.Qcow2.fill_kept.Goals as goal
use Rattle.qcow2_image.proofs.Images.Places.{alone_of}

pub returns-in-None-clause-image_step : goal.returns-in-None-clause-image_step
returns-in-None-clause-image_step g c = λ p out sound holds is_kept. image_step_none g.S.Storage.view g.F.BackingDisk.backing out c.args.self.now p sound

pub returns-in-None-clause-fills : goal.returns-in-None-clause-fills
returns-in-None-clause-fills g c = λ p out sound kept.
    filled_by_none g.S.Storage.view g.F.BackingDisk.backing out c.args.self.now c.args.self.now p sound c.args.offset c.args.host c.args.length c.args.overwrite kept
    (λ i lt none. none_has c.part_to_fill.result i c.in-None.is (c.part_to_fill.ensures.all i lt none)) c.args.self.now

pub returns-in-Some-clause-image_step : goal.returns-in-Some-clause-image_step
returns-in-Some-clause-image_step g c = λ p out sound holds is_kept.
    let within = c.in-Some.ensures.within in
    image_step_filled g.S.Storage.view g.F.BackingDisk.backing out c.args.self.now c.write_zeros.new.self p sound holds c.args.offset c.args.host c.in-Some.range.start (c.in-Some.range.end - c.in-Some.range.start) is_kept
    (omega (arith, within.0, within.1)) c.write_zeros.result (c.write_zeros.ensures.puts.written (alone_of sound))

pub returns-in-Some-clause-fills : goal.returns-in-Some-clause-fills
returns-in-Some-clause-fills g c = λ p out sound kept.
    filled_with_zeros g.S.Storage.view g.F.BackingDisk.backing out c.args.self.now c.write_zeros.new.self p sound c.args.offset c.args.host c.args.length c.args.overwrite kept c.in-Some.range
    (λ i lt none. some_has c.part_to_fill.result c.in-Some.range i c.in-Some.is (c.part_to_fill.ensures.all i lt none)) c.write_zeros.result (c.write_zeros.ensures.puts.written (alone_of sound))

pub returns-in-None-clause-step : goal.returns-in-None-clause-step
returns-in-None-clause-step g c = step_none

use Rattle.qcow2_image.proofs.Resize.LaterTails.{tail_later}
use Rattle.qcow2_image.proofs.image.Qcow2.discard_tail_beside.Goals as goal

pub returns : goal.returns
returns g c =
    let step = c.in_default.ensures.step in
    record { step = tail_later g.S.Storage.view g.F.BackingDisk.backing c.args.self.now c.shrink_data_file.new.self c.unmap_tail.new.self c.unmap_tail.result.1 step.image step.marks c.shrink_data_file.ensures.since step.header_cluster step.faults.told c.unmap_tail.ensures.step }

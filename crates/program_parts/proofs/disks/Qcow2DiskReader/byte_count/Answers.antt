use Rattle.program_parts.proofs.Common.{seen_image}
use Rattle.program_parts.proofs.OnlyRead.{reads_none}
use Rattle.program_parts.proofs.disks.Qcow2DiskReader.byte_count.Goals as goal

pub returns-clause-step : goal.returns-clause-step
returns-clause-step g c = reads_none (seen_image g.S.Storage.view g.F.BackingDisk.backing c.args.self.now)

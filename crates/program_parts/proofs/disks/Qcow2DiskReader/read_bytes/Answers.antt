use Rattle.program_parts.proofs.Compared.{shown_if, seen_still}
use Rattle.program_parts.proofs.disks.Qcow2DiskReader.read_bytes.Goals as goal

pub returns-clause-read : goal.returns-clause-read
returns-clause-read g c = λ honest within. shown_if g.S.Storage.view g.F.BackingDisk.backing c.args.self.now c.read_into.new.image c.args.at c.read_into.new.bytes c.read_into.result c.read_into.ensures.sees honest

pub returns-clause-same : goal.returns-clause-same
returns-clause-same g c = λ honest. seen_still g.S.Storage.view g.F.BackingDisk.backing c.args.self.now c.read_into.new.image c.args.at c.read_into.new.bytes c.read_into.result c.read_into.ensures.sees honest

pub returns-clause-step : goal.returns-clause-step
returns-clause-step g c = record { written = c.read_into.ensures.step.quiet.tables; quiet = c.read_into.ensures.step.quiet.quiet }

use Rattle.program_parts.proofs.Common.{◌∙◌, ap, arith, length, sym, byte_at-bytes_at, length-bytes_at, byte_at, known_byte}
use Rattle.program_parts.proofs.disks.RawDiskDiskReader.read_bytes.Goals as goal

pub returns-clause-read : goal.returns-clause-read
returns-clause-read g c = λ honest within i lt.
    let contents = (g.R.Storage.view c.args.self.now.storage).contents in
    let n = length c.args.bytes.now in
    let read = c.in_ok-read.ensures.read honest in
    ap known_byte (sym (ap (λ b. byte_at b i) read ∙ byte_at-bytes_at contents c.args.at n i (omega (arith, lt, ap length read, length-bytes_at contents c.args.at n))))

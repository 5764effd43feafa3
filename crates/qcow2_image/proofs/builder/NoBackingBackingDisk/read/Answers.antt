use Rattle.std.proofs.Common.{◌≡◌, [], length, replicate, sym, ◌∙◌, arith}
use Rattle.qcow2_image.proofs.Common.{bytes_at_past}
use Rattle.qcow2_image.proofs.builder.NoBackingBackingDisk.read.Goals as goal

pub returns-clause-read : goal.returns-clause-read
returns-clause-read c = λ honest.
    let filled : c.fill.new.self ≡ replicate (length c.args.buf.now) 0 = c.fill.ensures.after (λ _ is. is) in
    filled ∙ sym (bytes_at_past [] c.args._at (length c.args.buf.now) (omega arith))

use Rattle.std.proofs.Common.{◌*◌, ◌≡◌, length, ap, arith}
use Rattle.qcow2_check.proofs.KeptBlocks.{count_past_end}
use Rattle.qcow2_check.proofs.kept.Counts.end.Goals as goal

pub returns-clause-zeros : goal.returns-clause-zeros
returns-clause-zeros c q past =
    let counts = c.args.self.now in
    let long : c.len.result ≡ length counts.numbers.items = omega (arith, counts.numbers.ok.0) in
    let same : c.len.result * counts.per_block ≡ length counts.numbers.items * counts.per_block = ap (λ n. n * counts.per_block) long in
    count_past_end counts q (omega (arith, same))

use Rattle.std.proofs.Common.{◌≡◌, ◌+◌, ◌<◌, ℕ, List, length, sym, ap, ◌∙◌, subst}
use Rattle.qcow2_image.proofs.Common.{bytes_at, byte_at-bytes_at, length-bytes_at, byte_at, IsHonestBacking, backing_bytes}
use Rattle.qcow2_image.proofs.image.Qcow2.read_backing.Goals as goal

pub returns-clause-reads : goal.returns-clause-reads
returns-clause-reads g c = λ honest.
    let contents = (g.F.BackingDisk.backing c.in-Some.backing).bytes in
    let n = length c.args.bytes.now in
    let there : (g.F.BackingDisk.backing c.in-Some.backing).is_honest = subst (IsHonestBacking g.S.Storage.view g.F.BackingDisk.backing) c.in-Some.is honest in
    let read : c.read.new.buf ≡ bytes_at contents c.args.offset n = c.in_ok-read.ensures.read there in
    let long : length c.read.new.buf ≡ n = ap length read ∙ length-bytes_at contents c.args.offset n in (
      long,
      λ i lt. ap (λ (b : List ℕ). byte_at b i) read ∙ byte_at-bytes_at contents c.args.offset n i (subst (λ m. i < m) long lt)
          ∙ ap (λ f. f (c.args.offset + i)) (ap (backing_bytes g.S.Storage.view g.F.BackingDisk.backing) (sym c.in-Some.is)),
    )

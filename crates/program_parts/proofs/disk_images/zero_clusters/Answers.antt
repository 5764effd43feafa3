use Rattle.program_parts.proofs.Common.{Disk, Shows}
use Rattle.std.proofs.Common.{◌-◌, arith, subst, ◌%◌, replicate}
use Rattle.program_parts.proofs.DiskImages.{shows_fewer}
use Rattle.program_parts.proofs.disk_images.zero_clusters.Goals as goal

pub returns-then-first-eq0-clause-zeros : goal.returns-then-first-eq0-clause-zeros
returns-then-first-eq0-clause-zeros g c = λ honest i lt. absurd (omega (arith, lt))

pub returns-then-found-max-clause-zeros : goal.returns-then-found-max-clause-zeros
returns-then-found-max-clause-zeros g c = λ honest.
    let one = c.in_ok-first.ensures.same honest in
    let n = c.in_ok-found.found in
    subst (λ (d : Disk). Shows d c.args.at (replicate (n - n % c.args.cluster) 0)) one.disk
    (shows_fewer (g.D.DiskReader.seen c.known_zeros.new.self).disk c.args.at n (n - n % c.args.cluster) (omega arith) (c.in_ok-found.ensures.zeros one.honest))

pub returns-clause-zeros : goal.returns-clause-zeros
returns-clause-zeros g c = λ honest.
    let one = c.in_ok-first.ensures.same honest in
    subst (λ (d : Disk). Shows d c.args.at (replicate c.in_ok-found.found 0)) one.disk (c.in_ok-found.ensures.zeros one.honest)

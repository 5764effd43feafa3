use Rattle.std.proofs.Common.{◌≡◌, ◌+◌, arith, length, subst, None, Some}
use Rattle.program_parts.proofs.Common.{common_steps, Shows, IsFoundBetween, IsSeenAs}
use Rattle.program_parts.proofs.Compared.{found_none, found_some, on_ok}
use Rattle.program_parts.proofs.comparing.compare_at.Goals as goal

pub returns-in-Some-clause-compared : goal.returns-in-Some-clause-compared
returns-in-Some-clause-compared g c = λ one other.
    let a = g.A.DiskReader.seen in
    let b = g.B.DiskReader.seen in
    let d = (a c.args.one.now).disk in
    let e = (b c.args.other.now).disk in
    let bytes = c.read_bytes.new.bytes in
    let others = c.read_bytes-2.new.bytes in
    let long : length bytes ≡ length c.args.bytes.now = grind (arith, common_steps) in
    let both : length others ≡ length bytes = grind (arith, common_steps) in
    let first = c.in_ok-of_disk.ensures in
    let second = c.in_ok-of_disk-2.ensures in
    record {
      one = on_ok (IsSeenAs d (a c.read_bytes.new.self)) c.read_bytes.result _ first (c.read_bytes.ensures.same one);
      other = on_ok (IsSeenAs e (b c.read_bytes-2.new.self)) c.read_bytes-2.result _ second (c.read_bytes-2.ensures.same other);
      found_is = λ le le_other.
          subst (λ n. IsFoundBetween d e c.args.at (c.args.at + n) (Some (c.args.at + c.in-Some.place))) long
          (found_some d e c.args.at bytes others both (on_ok (Shows d c.args.at bytes) c.read_bytes.result _ first (c.read_bytes.ensures.read one le))
          (on_ok (Shows e c.args.at others) c.read_bytes-2.result _ second (c.read_bytes-2.ensures.read other (omega (arith, le_other, c.requires.both)))) c.in-Some.place c.in-Some.ensures);
    }

pub returns-in-None-clause-compared : goal.returns-in-None-clause-compared
returns-in-None-clause-compared g c = λ one other.
    let a = g.A.DiskReader.seen in
    let b = g.B.DiskReader.seen in
    let d = (a c.args.one.now).disk in
    let e = (b c.args.other.now).disk in
    let bytes = c.read_bytes.new.bytes in
    let others = c.read_bytes-2.new.bytes in
    let long : length bytes ≡ length c.args.bytes.now = grind (arith, common_steps) in
    let both : length others ≡ length bytes = grind (arith, common_steps) in
    let first = c.in_ok-of_disk.ensures in
    let second = c.in_ok-of_disk-2.ensures in
    record {
      one = on_ok (IsSeenAs d (a c.read_bytes.new.self)) c.read_bytes.result _ first (c.read_bytes.ensures.same one);
      other = on_ok (IsSeenAs e (b c.read_bytes-2.new.self)) c.read_bytes-2.result _ second (c.read_bytes-2.ensures.same other);
      found_is = λ le le_other.
          subst (λ n. IsFoundBetween d e c.args.at (c.args.at + n) None) long
          (found_none d e c.args.at bytes others both (on_ok (Shows d c.args.at bytes) c.read_bytes.result _ first (c.read_bytes.ensures.read one le))
          (on_ok (Shows e c.args.at others) c.read_bytes-2.result _ second (c.read_bytes-2.ensures.read other (omega (arith, le_other, c.requires.both)))) c.in-None.ensures);
    }

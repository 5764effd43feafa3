use Rattle.std.proofs.Common.{◌≡◌, ◌+◌, ◌≤◌, arith, length, subst, take}
use Rattle.program_parts.proofs.Common.{common_steps, AreSameBelow}
use Rattle.program_parts.proofs.Compared.{then_none, then_one, then_other, then_some}
use Rattle.program_parts.proofs.OnlyRead.{reads_more}
use Rattle.program_parts.proofs.comparing.compare_all.Goals as goal

pub returns-in-Some-clause-compared : goal.returns-in-Some-clause-compared
returns-in-Some-clause-compared g c = λ one other size size_other.
    let a = g.A.DiskReader.seen in
    let b = g.B.DiskReader.seen in
    let so_far = c.loop-at.invariant.same one other size size_other in
    let count = length (take c.min-count.result c.loop-at.bytes) in
    let long : count ≡ c.min-count.result = grind (arith, common_steps) in
    let upto : c.loop-at.at + count ≤ c.args.size = omega (arith, c.min-count.ensures, c.loop-at-test.true, long) in
    then_some (a c.args.one.now).disk (b c.args.other.now).disk (a c.loop-at.one) (a c.compare_at.new.one) (b c.loop-at.other) (b c.compare_at.new.other) c.loop-at.at (c.loop-at.at + count) c.args.size
    _ so_far.one so_far.other (c.in_ok-place.ensures.compared so_far.one.honest so_far.other.honest) so_far.below upto size size_other c.in-Some.place c.in-Some.is

pub loop-at-preserved : goal.loop-at-preserved
loop-at-preserved g c = record {
  within = grind (arith, common_steps);
  read = reads_more (g.A.DiskReader.seen c.args.one.now) (g.A.DiskReader.seen c.loop-at.one) (g.A.DiskReader.seen c.compare_at.new.one) (g.B.DiskReader.seen c.args.other.now) (g.B.DiskReader.seen c.loop-at.other) (g.B.DiskReader.seen c.compare_at.new.other) c.loop-at.invariant.read c.in_ok-place.ensures.step;
  same = λ one other size size_other.
      let a = g.A.DiskReader.seen in
      let b = g.B.DiskReader.seen in
      let d = (a c.args.one.now).disk in
      let e = (b c.args.other.now).disk in
      let so_far = c.loop-at.invariant.same one other size size_other in
      let count = length (take c.min-count.result c.loop-at.bytes) in
      let long : count ≡ c.min-count.result = grind (arith, common_steps) in
      let end = c.loop-at.at + count in
      let upto : c.loop-at.at + count ≤ c.args.size = omega (arith, c.min-count.ensures, c.loop-at-test.true, long) in
      let more = c.in_ok-place.ensures.compared so_far.one.honest so_far.other.honest in
      record {
        one = then_one d e (a c.loop-at.one) (a c.compare_at.new.one) (b c.loop-at.other) (b c.compare_at.new.other) c.loop-at.at end c.args.size _ so_far.one so_far.other more so_far.below upto size size_other;
        other = then_other d e (a c.loop-at.one) (a c.compare_at.new.one) (b c.loop-at.other) (b c.compare_at.new.other) c.loop-at.at end c.args.size _ so_far.one so_far.other more so_far.below upto size size_other;
        below = subst (λ n. AreSameBelow d e (c.loop-at.at + n)) long
            (then_none d e (a c.loop-at.one) (a c.compare_at.new.one) (b c.loop-at.other) (b c.compare_at.new.other) c.loop-at.at end c.args.size _ so_far.one so_far.other more so_far.below upto size size_other c.in-None.is);
      };
}

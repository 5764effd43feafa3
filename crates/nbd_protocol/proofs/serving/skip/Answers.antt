use Rattle.std.proofs.Common.{◌≡◌, ◌++◌, [], length, length-append, rules, arith}
use Rattle.nbd_protocol.proofs.Common.{Consumes-nil, Consumes-trans}
use Rattle.std.proofs.lemmas.Grind.{common_steps}
use Rattle.nbd_protocol.proofs.serving.skip.Goals as goal

pub loop-rest-init : goal.loop-rest-init
loop-rest-init g c = ([], omega arith, Consumes-nil _)

pub loop-rest-preserved : goal.loop-rest-preserved
loop-rest-preserved g c = let more = c.read_exact.new.buf in let before = c.loop-rest.invariant in
    let count : length more ≡ c.min-some.result = first_of (search rules, grind (arith, common_steps)) in
    (before.0 ++ more, omega (arith, length-append before.0 more, count, before.1), Consumes-trans _ _ _ before.0 more before.2 c.in_ok-read_exact.ensures.bytes)

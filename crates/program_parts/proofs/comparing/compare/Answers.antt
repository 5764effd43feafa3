use Rattle.std.proofs.Common.{◌≡◌, ◌∙◌, ap, sym}
use Rattle.program_parts.proofs.Common.{IsSeenAs}
use Rattle.program_parts.proofs.Compared.{all_compared_as, if_ok, on_ok}
use Rattle.program_parts.proofs.comparing.compare.Goals as goal

pub returns-clause-compared : goal.returns-clause-compared
returns-clause-compared g c = λ one other.
    let a = g.A.DiskReader.seen in
    let b = g.B.DiskReader.seen in
    let d = (a c.args.one.now).disk in
    let e = (b c.args.other.now).disk in
    let first = on_ok (IsSeenAs d (a c.byte_count.new.self)) c.byte_count.result c.in_ok-size.size c.in_ok-size.ensures (c.byte_count.ensures.same one) in
    let second = on_ok (IsSeenAs e (b c.byte_count-2.new.self)) c.byte_count-2.result c.in_ok-other_size.other_size c.in_ok-other_size.ensures (c.byte_count-2.ensures.same other) in
    let size = if_ok (λ n. n ≡ d.size) c.byte_count.result c.in_ok-size.size c.in_ok-size.ensures (c.byte_count.ensures.size one) in
    let other_size = if_ok (λ n. n ≡ e.size) c.byte_count-2.result c.in_ok-other_size.other_size c.in_ok-other_size.ensures (c.byte_count-2.ensures.size other) in
    let same : c.in_ok-size.size ≡ c.in_ok-other_size.other_size = cc in
    all_compared_as d e (a c.byte_count.new.self).disk (b c.byte_count-2.new.self).disk c.compare_all.result first.disk second.disk
    (c.compare_all.ensures.compared first.honest second.honest (size ∙ ap (λ x. x.size) (sym first.disk)) (same ∙ other_size ∙ ap (λ x. x.size) (sym second.disk)))

use Rattle.qcow2_alloc.proofs.Common.{number_at}
use Rattle.qcow2_alloc.proofs.Uses.{numbering_begins, numbering_goes}
use Rattle.qcow2_alloc.proofs.table_cache.uses.Uses.renumbered.Goals as goal

pub numbering-preserved : goal.numbering-preserved
numbering-preserved g c =
    let i = c.self.inside in
    let goes = numbering_goes (number_at i.marked.entries) i.numbers.entries g.met.K.Eq.laws c.len-count.ensures.valid.0 c.numbering.left c.next_back.new.self c.numbering.anew c.in-Some.key.now c.in-Some.number.now c.in-Some.ensures.steps c.numbering.invariant in
    rw (c.in_ok-place.ensures.ok, c.contains-is_marked.ensures) goes

pub numbering-init : goal.numbering-init
numbering-init g c =
    let i = c.self.inside in
    rw (c.in_ok-anew.ensures, c.iter-left.ensures.rest) (numbering_begins (number_at i.marked.entries) i.numbers.entries)

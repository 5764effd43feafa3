use Rattle.qcow2_alloc.proofs.Common.{sym, ap, ◌∙◌, remove_entry, Cache, with_entries, pinned}
use Rattle.qcow2_alloc.proofs.Lemmas.{all_pinned, next_out, none_out, removed_next, fewer_without, pinned_without}
use Rattle.qcow2_alloc.proofs.table_cache.TableCache.take_free.Goals as goal

pub taking-preserved : goal.taking-preserved
taking-preserved g c =
    let i = c.taking.invariant in
    let next = next_out g.met.B.Key.Eq.laws c.taking.self.entries c.in-Some.ensures.distinct c.in-Some.key c.in-Some.ensures.oldest in
    let gone = removed_next g.B.Key.PartialEq.eq c.taking.self c.remove.new.self c.in-Some.key next c.remove.result c.remove.ensures.value c.remove.ensures.entries in
    record {
      pins = ap (λ (x : Cache g.row.B.Denot g.row.B-Key.Denot g.row.B-Value.Denot). pinned x.entries) gone ∙ pinned_without (g.B.Key.PartialEq.eq c.in-Some.key) c.taking.self.entries next.slot next.found next.free ∙ i.pins;
      others = gone ∙ rw gone (ap (λ (x : Cache g.row.B.Denot g.row.B-Key.Denot g.row.B-Value.Denot). with_entries x (remove_entry (g.B.Key.PartialEq.eq c.in-Some.key) c.taking.self.entries)) i.others);
    }

pub taking-smaller : goal.taking-smaller
taking-smaller g c =
    let next = next_out g.met.B.Key.Eq.laws c.taking.self.entries c.in-Some.ensures.distinct c.in-Some.key c.in-Some.ensures.oldest in
    let gone = removed_next g.B.Key.PartialEq.eq c.taking.self c.remove.new.self c.in-Some.key next c.remove.result c.remove.ensures.value c.remove.ensures.entries in
    rw gone (fewer_without (g.B.Key.PartialEq.eq c.in-Some.key) c.taking.self.entries next.slot next.found)

pub returns : goal.returns
returns g c =
    let i = c.taking.invariant in
    i.others ∙ ap (with_entries c.args.self.now) (sym (all_pinned c.taking.self.entries (none_out c.taking.self.entries c.in_default.ensures.oldest)) ∙ i.pins)

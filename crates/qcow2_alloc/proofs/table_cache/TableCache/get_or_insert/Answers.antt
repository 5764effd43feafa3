use Rattle.qcow2_alloc.proofs.Common.{sym, ap, ◌∙◌, marks_in}
use Rattle.qcow2_alloc.proofs.Lemmas.{none_is_none, kept_same, is_there, is_missing, touched, touched_none}
use Rattle.qcow2_alloc.proofs.table_cache.TableCache.get_or_insert.Goals as goal

pub invariant_of-self : goal.invariant_of-self
invariant_of-self g c =
    let modified = g.B.Value.CachedValue.is_modified in
    let test = g.B.Key.PartialEq.eq c.args.key in
    let i = c.self.inside in
    let there = is_there modified test i.cache.entries i.uses c.self.invariant c.in-Ok-true.field-0 c.in-Ok-true.ensures.there c.in-Ok-true.field-0-test in
    touched modified test i.cache.entries i.uses c.self.invariant c.in-Ok-true.field-0 c.in-Ok-true.ensures.there c.touch.new.self c.in-Ok-true.ensures.ok ∙ ap (marks_in modified) (sym (c.get_or_insert.ensures.hit there).1)

pub invariant_of-self-in-Ok-false : goal.invariant_of-self-in-Ok-false
invariant_of-self-in-Ok-false g c =
    let i = c.self.inside in
    touched_none g.B.Value.CachedValue.is_modified (g.B.Key.PartialEq.eq c.args.key) i.cache.entries i.uses c.self.invariant c.in-Ok-false.field-0 c.in-Ok-false.ensures.there c.touch.new.self c.in-Ok-false.ensures.ok c.in-Ok-false.field-0-test

pub get_new-requires : goal.get_new-requires
get_new-requires g c =
    let i = c.self.inside in
    record { missing = is_missing g.B.Value.CachedValue.is_modified (g.B.Key.PartialEq.eq c.args.key) i.cache.entries i.uses c.self.invariant c.in-Ok-false.field-0 c.in-Ok-false.ensures.there c.in-Ok-false.field-0-test }

pub returns-in-Ok-false-clause-hit : goal.returns-in-Ok-false-clause-hit
returns-in-Ok-false-clause-hit g c =
    let i = c.self.inside in
    rw (← c.self.view_is) (λ there. absurd (none_is_none (is_missing g.B.Value.CachedValue.is_modified (g.B.Key.PartialEq.eq c.args.key) i.cache.entries i.uses c.self.invariant c.in-Ok-false.field-0 c.in-Ok-false.ensures.there c.in-Ok-false.field-0-test) there))

pub returns-in-Err-clause-kept : goal.returns-in-Err-clause-kept
returns-in-Err-clause-kept g c = rw (← c.self.view_is) (kept_same g.B.Key.PartialEq.eq c.args.key c.self.inside.cache c.len-count.ensures.distinct)

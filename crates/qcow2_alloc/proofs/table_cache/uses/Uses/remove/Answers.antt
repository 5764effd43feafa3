use Rattle.std.proofs.Common.{◌≡◌, ◌≢◌, ◌+◌, ℕ, Some, None, is_some, length, sym, ◌∙◌, subst, IfSome}
use Rattle.qcow2_alloc.proofs.Common.{lookup, option_map_or, number_at}
use Rattle.qcow2_alloc.proofs.Lemmas.{bit, removed_numbered, removed_is, room_removed}
use Rattle.qcow2_alloc.proofs.table_cache.uses.Uses.remove.Goals as goal

pub invariant_of-self : goal.invariant_of-self
invariant_of-self g c =
    let i = c.self.inside in
    let popped = c.pop-former.ensures in
    let taken = c.take_mark.ensures in
    let gone = subst (λ o. IfSome o (λ n. number_at c.take_mark.new.marked.entries n ≡ None)) popped.value taken.number in
    let others : (m : ℕ) → lookup (g.K.PartialEq.eq c.args.key) i.numbers.entries ≢ Some m → number_at c.take_mark.new.marked.entries m ≡ number_at i.marked.entries m = λ m other. taken.others m (λ e. other (sym popped.value ∙ e)) in
    let seen = removed_is g.met.K.Eq.laws i.next i.numbers.cap (number_at i.marked.entries) i.numbers.entries c.self.invariant.0 c.args.key (number_at c.take_mark.new.marked.entries) gone others in
    let count = subst (λ o. length c.take_mark.new.marked.entries + option_map_or (λ n. bit (is_some (number_at i.marked.entries n))) o 0 ≡ length i.marked.entries) popped.value taken.count in
    rw popped.entries (
      removed_numbered g.met.K.Eq.laws i.next i.numbers.cap (number_at i.marked.entries) i.numbers.entries c.self.invariant.0 c.args.key (number_at c.take_mark.new.marked.entries) gone others,
      room_removed (g.K.PartialEq.eq c.args.key) i.numbers.entries i.marked c.self.invariant.1 c.take_mark.new.marked seen count taken.room,
    )

pub returns : goal.returns
returns g c =
    let i = c.self.inside in
    let popped = c.pop-former.ensures in
    let taken = c.take_mark.ensures in
    let gone = subst (λ o. IfSome o (λ n. number_at c.take_mark.new.marked.entries n ≡ None)) popped.value taken.number in
    rw (popped.entries, ← c.self.view_is) (removed_is g.met.K.Eq.laws i.next i.numbers.cap (number_at i.marked.entries) i.numbers.entries c.self.invariant.0 c.args.key (number_at c.take_mark.new.marked.entries) gone (λ m other. taken.others m (λ e. other (sym popped.value ∙ e))))

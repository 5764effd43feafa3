use Rattle.qcow2_alloc.proofs.Common.{ℕ, ltb, rules, sym, ◌∙◌, subst}
use Rattle.std.proofs.lemmas.List.Sorted.{IsPartitionPoint-from_clause, IsPartitionedBy-ltb}
use Rattle.std.specs.List.Sorted.{IsPartitionedBy}
use Rattle.qcow2_alloc.proofs.Marks.{rise_sorted, point_is, none_below}
use Rattle.qcow2_alloc.proofs.table_cache.marks.Marks.count_below.Goals as goal

pub returns-clause-count : goal.returns-clause-count
returns-clause-count g c =
    let i = c.self.inside in
    let parted = subst (IsPartitionedBy (λ (m : ℕ × _). ltb m.0 c.args.number)) (sym c.deref.ensures.value) (IsPartitionedBy-ltb (λ (m : ℕ × _). m.0) i.marks.items c.args.number (rise_sorted 0 i.marks.items c.self.invariant)) in
    let point = IsPartitionPoint-from_clause (λ (m : ℕ × _). ltb m.0 c.args.number) c.deref.result.now c.partition_point.result c.partition_point.ensures.partitioned parted (λ a r q k. search rules) in
    rw (← c.self.view_is, ← c.deref.ensures.value) (point_is c.args.number c.deref.result.now c.partition_point.result c.partition_point.ensures.bound point)

pub returns-clause-none : goal.returns-clause-none
returns-clause-none g c = λ zero.
    let i = c.self.inside in
    let parted = subst (IsPartitionedBy (λ (m : ℕ × _). ltb m.0 c.args.number)) (sym c.deref.ensures.value) (IsPartitionedBy-ltb (λ (m : ℕ × _). m.0) i.marks.items c.args.number (rise_sorted 0 i.marks.items c.self.invariant)) in
    let point = IsPartitionPoint-from_clause (λ (m : ℕ × _). ltb m.0 c.args.number) c.deref.result.now c.partition_point.result c.partition_point.ensures.partitioned parted (λ a r q k. search rules) in
    let is = rw c.deref.ensures.value at (point_is c.args.number c.deref.result.now c.partition_point.result c.partition_point.ensures.bound point) in
    rw (← c.self.view_is) (none_below c.args.number 0 i.marks.items (sym is ∙ zero) c.self.invariant)

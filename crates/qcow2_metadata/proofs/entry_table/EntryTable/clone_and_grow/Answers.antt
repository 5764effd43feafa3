use Rattle.std.proofs.Common.{◌≡◌, ◌-◌, ◌*◌, ◌++◌, List, ℕ, length, take, drop, replicate, ap, sym, ◌∙◌, arith}
use Rattle.qcow2_metadata.proofs.Common.{overwritten, whole, EntryTableView}
use Rattle.qcow2_metadata.proofs.EntryTables.{overwritten-zeros, same_table}
use Rattle.qcow2_metadata.proofs.entry_table.EntryTable.clone_and_grow.Goals as goal

pub returns-clause-table : goal.returns-clause-table
returns-clause-table c =
    let cleared = c.table.view_is ∙ c.in_ok-table.ensures.table in
    let old = c.table.inside.bytes in
    let front = c.self.inside.bytes.items in
    let value = c.deref_mut.ensures.value in
    let longer : length front ≡ length c.args.self.now.bytes = ap (λ (t : EntryTableView). length t.bytes) c.self.view_is in
    let same : length c.put.new.within ≡ length old.items = c.put.auto.within ∙ ap length value in
    let bytes : take old.len (c.put.new.within ++ drop (length c.put.new.within) old.items) ≡ front ++ replicate (8 * c.args.entries - length front) 0 =
    whole old.len old.items c.put.new.within same (ap length (sym value) ∙ c.deref_mut.ensures.len)
    ∙ c.put.ensures
    ∙ ap (λ (l : List ℕ). overwritten l 0 c.deref.result.now) (value ∙ ap (λ (t : EntryTableView). t.bytes) cleared)
    ∙ ap (overwritten (replicate (8 * c.args.entries) 0) 0) c.deref.ensures.value
    ∙ overwritten-zeros front (8 * c.args.entries) (omega (arith, longer, c.requires.longer, c.self.invariant.whole)) in
    rw (← c.self.view_is)
    (same_table _ _ _ _ _ _ (ap (λ (t : EntryTableView). t.cluster) cleared) bytes (ap (λ (t : EntryTableView). t.cluster_bits) cleared))

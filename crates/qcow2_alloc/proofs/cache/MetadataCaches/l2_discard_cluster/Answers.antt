use Rattle.std.proofs.Common.{◌≤◌, ℕ, Option, eqb, refl, subst, arith, IfSome}
use Rattle.qcow2_alloc.proofs.Common.{L2TableView, entries_of, value_at, SetsTableEntry}
use Rattle.qcow2_alloc.proofs.Lemmas.{held_none, changed_by, entry_apart, entry_made_so, entry_set, entry_step, entry_there, if_some_then, stays, table_stays_apart, if_some}
use Rattle.qcow2_alloc.proofs.cache.MetadataCaches.l2_discard_cluster.Goals as goal

abbrev Past : ℕ → L2TableView → Type 0
Past index t = entries_of t ≤ index

abbrev Sets : ℕ → L2TableView → Option (ℕ × ℕ) → L2TableView → Type 0
Sets index t = SetsTableEntry t index 0

pub returns : goal.returns
returns g c =
    let ch = changed_by (Past c.args.index) (Sets c.args.index) c.args.cluster c.args.self.now.l2 c.change.new.self c.change.result c.change.ensures.changes c.in_ok-old_data.old_data c.in_ok-old_data.was in
    record {
      step = rw ch.is (entry_step c.args.self.now c.args.cluster ch.after c.one_more-self.result c.one_more-self.ensures);
      discarded = λ h p on_storage i sound at own there. rw ch.is (entry_made_so c.args.self.now c.args.cluster ch.after c.one_more-self.result c.one_more-self.ensures ch.found ch.by h p on_storage i sound at own 0 refl);
      recorded = λ h p on_storage i sound at there. refl;
      entry = rw ch.is (if_some _ (value_at (eqb c.args.cluster) c.args.self.now.l2.entries) ch.before ch.found (λ inside. entry_set c.args.self.now c.args.cluster ch.after c.one_more-self.result c.one_more-self.ensures ch.found ch.by));
      apart = rw ch.is (entry_apart c.args.self.now c.args.cluster ch.after c.one_more-self.result c.one_more-self.ensures c.change.ensures.distinct);
      refused = λ refused. let past = subst (λ (o : Option L2TableView). IfSome o (Past c.args.index)) ch.found refused in let inside = ch.by.inside in absurd (omega arith);
    }

pub returns-in_err-old_data : goal.returns-in_err-old_data
returns-in_err-old_data g c =
    let left = stays (Past c.args.index) (Sets c.args.index) c.args.cluster c.args.self.now.l2 c.change.new.self c.change.result c.change.ensures.changes c.in_err-old_data.was in
    record {
      step = rw left.0 held_none;
      discarded = λ h p on_storage i sound at own there. absurd (entry_there c.args.self.now c.args.cluster (Past c.args.index) c.args.index h p on_storage i sound at there left.1 (λ t inside bits past. omega arith));
      recorded = λ h p on_storage i sound at there. absurd (entry_there c.args.self.now c.args.cluster (Past c.args.index) c.args.index h p on_storage i sound at there left.1 (λ t inside bits past. omega arith));
      entry = if_some_then (Past c.args.index) _ (value_at (eqb c.args.cluster) c.args.self.now.l2.entries) left.1 (λ t past inside. absurd (omega arith));
      apart = rw left.0 (table_stays_apart c.args.self.now c.args.cluster c.change.ensures.distinct);
      refused = λ refused. (c.from_residual.ensures, rw left.0 refl);
    }

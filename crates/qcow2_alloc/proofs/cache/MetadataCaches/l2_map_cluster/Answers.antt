use Rattle.std.proofs.Common.{◌*◌, ◌^◌, ℕ, Option, eqb, refl, sym, ap, subst, IfSome}
use Rattle.qcow2_alloc.proofs.Common.{IsHostCluster, L2TableView, copied_entry, value_at, CantMap, SetsTableEntry}
use Rattle.qcow2_alloc.proofs.Lemmas.{held_none, changed_by, entry_apart, entry_made_so, entry_set, entry_step, entry_there, if_some_then, stays, table_stays_apart, if_some, bits_is}
use Rattle.qcow2_alloc.proofs.cache.MetadataCaches.l2_map_cluster.Goals as goal

abbrev Sets : ℕ → ℕ → L2TableView → Option (ℕ × ℕ) → L2TableView → Type 0
Sets index host t a w = IsHostCluster t.cluster_bits host × SetsTableEntry t index (copied_entry (host * 2 ^ t.cluster_bits)) a w

pub returns : goal.returns
returns g c =
    let ch = changed_by (CantMap c.args.index c.args.host) (Sets c.args.index c.args.host) c.args.cluster c.args.self.now.l2 c.change.new.self c.change.result c.change.ensures.changes c.in_ok-old_data.old_data c.in_ok-old_data.was in
    record {
      step = rw ch.is (entry_step c.args.self.now c.args.cluster ch.after c.one_more-self.result c.one_more-self.ensures);
      mapped = λ h p on_storage i sound at own there host.
          let bits = bits_is h p on_storage c.args.self.now sound c.args.cluster c.args.index ch.before ch.found i at in
          rw ch.is (entry_made_so c.args.self.now c.args.cluster ch.after c.one_more-self.result c.one_more-self.ensures ch.found ch.by.1 h p on_storage i sound at own _ (ap (λ n. copied_entry (c.args.host * 2 ^ n)) bits));
      recorded = λ h p on_storage i sound at there host. refl;
      entry = rw ch.is (if_some _ (value_at (eqb c.args.cluster) c.args.self.now.l2.entries) ch.before ch.found (λ inside host. entry_set c.args.self.now c.args.cluster ch.after c.one_more-self.result c.one_more-self.ensures ch.found ch.by.1));
      apart = rw ch.is (entry_apart c.args.self.now c.args.cluster ch.after c.one_more-self.result c.one_more-self.ensures c.change.ensures.distinct);
      refused = λ refused. absurd (subst (λ (o : Option L2TableView). IfSome o (CantMap c.args.index c.args.host)) ch.found refused ch.by.1.inside ch.by.0);
    }

pub returns-in_err-old_data : goal.returns-in_err-old_data
returns-in_err-old_data g c =
    let left = stays (CantMap c.args.index c.args.host) (Sets c.args.index c.args.host) c.args.cluster c.args.self.now.l2 c.change.new.self c.change.result c.change.ensures.changes c.in_err-old_data.was in
    record {
      step = rw left.0 held_none;
      mapped = λ h p on_storage i sound at own there host. absurd (entry_there c.args.self.now c.args.cluster (CantMap c.args.index c.args.host) c.args.index h p on_storage i sound at there left.1 (λ t inside bits cant. cant inside (subst (λ n. IsHostCluster n c.args.host) (sym bits) host)));
      recorded = λ h p on_storage i sound at there host. absurd (entry_there c.args.self.now c.args.cluster (CantMap c.args.index c.args.host) c.args.index h p on_storage i sound at there left.1 (λ t inside bits cant. cant inside (subst (λ n. IsHostCluster n c.args.host) (sym bits) host)));
      entry = if_some_then (CantMap c.args.index c.args.host) _ (value_at (eqb c.args.cluster) c.args.self.now.l2.entries) left.1 (λ t past inside host. absurd (past inside host));
      apart = rw left.0 (table_stays_apart c.args.self.now c.args.cluster c.change.ensures.distinct);
      refused = λ refused. (c.from_residual.ensures, rw left.0 refl);
    }

use Rattle.std.proofs.Common.{◌≡◌, ◌+◌, ◌-◌, ◌/◌, ◌%◌, ◌^◌, Some, get_or, length, min, refl, sym, ap, ◌∙◌, subst, rules}
use Rattle.qcow2_image.proofs.Common.{slice_get, slice_get_read, cluster_size, l2_index_of, is_entered, EntersCluster}
use Rattle.qcow2_image.proofs.image.Qcow2.enter_mapping.Goals as goal

pub returns-clause-enters : goal.returns-clause-enters
returns-clause-enters g c = λ _.
    let old = c.args.self.now in
    let h = old.file.header.fields in
    let p = c.args.prepared.now in
    let items = p.clusters.items in
    let i = c.args.i in
    let cluster_mapping = c.replace-cluster_mapping.result in
    let b = c.replace-cluster_mapping.ensures.value in
    let there : slice_get items i ≡ Some cluster_mapping = slice_get_read items (length items) i cluster_mapping refl c.requires (b ∙ c.index_mut.ensures.value ∙ ap (get_or items i) (sym b)) in
    let seen : slice_get items i ≡ Some c.index.result.now = slice_get_read items (length items) i c.index.result.now refl c.requires c.index.ensures in
    let both : Some cluster_mapping ≡ Some c.index.result.now = sym there ∙ seen in
    let same : cluster_mapping ≡ c.index.result.now = cc in
    let bits = c.cluster_bits-bits.ensures.value in
    let index : c.saturating_add-2.result ≡ min (l2_index_of h p.guest + i) (2 ^ 64 - 1) = c.saturating_add-2.ensures
    ∙ ap (λ n. min (n + i) (2 ^ 64 - 1)) (c.l2_index-index.ensures.value ∙ ap (λ o. o / 2 ^ c.cluster_bits-bits.result % (2 ^ c.cluster_bits-bits.result / 8)) c.new.ensures ∙ ap (λ n. p.guest / 2 ^ n % (2 ^ n / 8)) bits) in
    let host : c.new-cluster.result ≡ min (p.offset / cluster_size h + i) (2 ^ 64 - 1) = c.new-cluster.ensures ∙ c.saturating_add.ensures
    ∙ ap (λ n. min (n + i) (2 ^ 64 - 1)) (c.value-first.ensures ∙ c.cluster.ensures ∙ ap (λ o. o / 2 ^ c.cluster_bits-bits.result) c.new-2.ensures ∙ ap (λ n. p.offset / 2 ^ n) bits) in
    record {
      cluster_mapping = cluster_mapping;
      was = there;
      entered = ap is_entered same ∙ sym c.is_entered.ensures ∙ c.if-not-is_entered.false;
      mapping = refl;
      clusters = search rules;
      mid = c.enter_cluster.new.self;
      enters = subst (λ j. EntersCluster p.table j (min (p.offset / cluster_size h + i) (2 ^ 64 - 1)) old c.enter_cluster.new.self) index
          (subst (λ k. EntersCluster p.table c.saturating_add-2.result k old c.enter_cluster.new.self) host c.enter_cluster.ensures);
      lists = c.drop_former.ensures;
    }

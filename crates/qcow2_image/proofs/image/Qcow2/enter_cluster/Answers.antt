use Rattle.std.proofs.Common.{◌≡◌, refl, subst}
use Rattle.qcow2_image.proofs.Common.{MapsCachedEntry, RecordsEntry}
use Rattle.qcow2_image.proofs.image.Qcow2.enter_cluster.Goals as goal

pub returns-in-Some : goal.returns-in-Some
returns-in-Some g c = record {
  rest = refl;
  order = c.l2_map_cluster-nothing.ensures.step.order;
  marks = c.l2_map_cluster-nothing.ensures.step.marks;
  entered = λ t is.
      let same : c.in-Some.table ≡ t = cc in
      (c.l2_map_cluster-nothing.result, subst (λ n. MapsCachedEntry c.args.self.now.file.caches c.l2_map_cluster-nothing.new.self n c.args.index c.args.cluster c.l2_map_cluster-nothing.result) same c.l2_map_cluster-nothing.ensures.mapped);
  recorded = λ t is.
      let same : c.in-Some.table ≡ t = cc in
      subst (λ n. RecordsEntry c.args.self.now.file.caches c.l2_map_cluster-nothing.new.self n c.args.index c.args.cluster) same c.l2_map_cluster-nothing.ensures.recorded;
  behind = c.l2_map_cluster-nothing.ensures.step.header_cluster;
}

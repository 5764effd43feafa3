use Rattle.std.proofs.Common.{◌^◌}
use Rattle.qcow2_alloc.proofs.Lengths.{clusters_least, length_least, length_none}
use Rattle.qcow2_alloc.proofs.reftable_length.grown_length.Goals as goal

pub returns-then-most-per_cluster-2-clause-none : goal.returns-then-most-per_cluster-2-clause-none
returns-then-most-per_cluster-2-clause-none c =
    length_none c.args.old c.args.index c.args.per_cluster c.args.per_block c.max-clusters.result (2 ^ 20) c.requires.some
    (clusters_least c.args.old c.args.index c.args.per_cluster c.args.per_block c.min.result c.div_ceil-longer.result c.max.result c.div_ceil-counted.result c.max-2.result c.max-clusters.result
    c.requires.some c.if-counts-eq0.false c.min.ensures c.if-more-min.false c.div_ceil-longer.ensures c.max.ensures c.div_ceil-counted.ensures c.max-2.ensures c.max-clusters.ensures)
    c.if-most-per_cluster-2.true

pub returns-clause-least : goal.returns-clause-least
returns-clause-least c =
    length_least c.args.old c.args.index c.args.per_cluster c.args.per_block c.max-clusters.result c.requires.some
    (clusters_least c.args.old c.args.index c.args.per_cluster c.args.per_block c.min.result c.div_ceil-longer.result c.max.result c.div_ceil-counted.result c.max-2.result c.max-clusters.result
    c.requires.some c.if-counts-eq0.false c.min.ensures c.if-more-min.false c.div_ceil-longer.ensures c.max.ensures c.div_ceil-counted.ensures c.max-2.ensures c.max-clusters.ensures)

use Rattle.std.proofs.Common.{◌+◌, ◌-◌, ◌*◌, ◌/◌, ◌^◌, ◌≤◌, true, false, ◌∙◌, arith}
use Rattle.qcow2_alloc.proofs.Common.{div-le_self, pow_mono, cluster_size, IsWithin}
use Rattle.qcow2_alloc.proofs.SparedClusters.{first_near, l1_within, reftable_within, spares_both, spares_first}
use Rattle.qcow2_alloc.proofs.allocation.Allocator.spare_tables.Goals as goal

pub spare_run-requires : goal.spare_run-requires
spare_run-requires c =
    let near = first_near c.value-l1_offset.result c.cluster_bits-bits.result c.value-l1_offset.type_inv c.cluster_bits-bits.ensures.low in
    let few = c.l1_table_entries.ensures.limit in
    let wide : 2 ^ c.cluster_bits-bits.result ≤ 2 ^ 21 = pow_mono c.cluster_bits-bits.ensures.high in
    let less = div-le_self (8 * c.from-entries.result + 2 ^ c.cluster_bits-bits.result - 1) (2 ^ c.cluster_bits-bits.result) in
    let clusters = c.value-clusters.ensures ∙ c.from_byte_size.ensures in
    let entries = c.from-entries.ensures in
    omega (arith, near, few, wide, less, clusters, entries)

pub spare_run-requires-2 : goal.spare_run-requires-2
spare_run-requires-2 c =
    let near = first_near c.value-reftable_offset.result c.cluster_bits-bits.result c.value-reftable_offset.type_inv c.cluster_bits-bits.ensures.low in
    let few = c.reftable_clusters.type_inv in
    let clusters = c.from-clusters.ensures in
    omega (arith, near, few, clusters)

pub returns-then-not-spare_run-clause-spares : goal.returns-then-not-spare_run-clause-spares
returns-then-not-spare_run-clause-spares c =
    let h = c.args.header.now.fields in
    spares_first (IsWithin (h.l1_offset / cluster_size h) (h.l1_offset / cluster_size h + (8 * h.l1_entries + cluster_size h - 1) / cluster_size h)) (IsWithin (h.reftable_offset / cluster_size h) (h.reftable_offset / cluster_size h + h.reftable_clusters)) c.args.self.now.named
    c.spare_run.new.self.named
    (l1_within h c.cluster_bits-bits.result c.value-l1_offset.result c.from-entries.result c.value-clusters.result c.args.self.now.named c.spare_run.new.self.named false c.cluster_bits-bits.ensures.value (c.value-l1_offset.ensures ∙ c.l1_table_offset.ensures)
    (c.from-entries.ensures ∙ c.l1_table_entries.ensures.value) (c.value-clusters.ensures ∙ c.from_byte_size.ensures) (rw c.if-not-spare_run.true at c.spare_run.ensures.spares))

pub returns-clause-spares : goal.returns-clause-spares
returns-clause-spares c =
    let h = c.args.header.now.fields in
    spares_both (IsWithin (h.l1_offset / cluster_size h) (h.l1_offset / cluster_size h + (8 * h.l1_entries + cluster_size h - 1) / cluster_size h)) (IsWithin (h.reftable_offset / cluster_size h) (h.reftable_offset / cluster_size h + h.reftable_clusters)) c.args.self.now.named
    c.spare_run.new.self.named c.spare_run-2.new.self.named c.spare_run-2.result
    (l1_within h c.cluster_bits-bits.result c.value-l1_offset.result c.from-entries.result c.value-clusters.result c.args.self.now.named c.spare_run.new.self.named true c.cluster_bits-bits.ensures.value (c.value-l1_offset.ensures ∙ c.l1_table_offset.ensures)
    (c.from-entries.ensures ∙ c.l1_table_entries.ensures.value) (c.value-clusters.ensures ∙ c.from_byte_size.ensures) (rw c.if-not-spare_run.false at c.spare_run.ensures.spares))
    (reftable_within h c.cluster_bits-bits.result c.value-reftable_offset.result c.from-clusters.result c.spare_run.new.self.named c.spare_run-2.new.self.named c.spare_run-2.result c.cluster_bits-bits.ensures.value
    (c.value-reftable_offset.ensures ∙ c.reftable_offset.ensures) (c.from-clusters.ensures ∙ c.reftable_clusters.ensures) c.spare_run-2.ensures.spares)

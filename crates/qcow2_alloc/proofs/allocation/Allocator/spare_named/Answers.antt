use Rattle.std.proofs.Common.{◌⊎◌, ◌^◌, true, false, ap}
use Rattle.qcow2_alloc.proofs.Common.{entry_count, cluster_size, NamesBlockIn, NamesTableIn, Allocator}
use Rattle.qcow2_alloc.specs.SparedClusters.{IsOfTables}
use Rattle.qcow2_alloc.proofs.SparedClusters.{blocks_as, named_rest, spared_used, spares_both, spares_first, tables_as}
use Rattle.qcow2_alloc.proofs.allocation.Allocator.spare_named.Goals as goal

pub returns-then-not-spare_tables-clause-spares : goal.returns-then-not-spare_tables-clause-spares
returns-then-not-spare_tables-clause-spares g c =
    let h = c.args.file.now.header.fields in
    spares_first (λ k. IsOfTables h k ⊎ NamesBlockIn (cluster_size h) (entry_count c.args.self.now.reftable) c.args.self.now.reftable k) (NamesTableIn (cluster_size h) (entry_count c.args.l1_table.now) c.args.l1_table.now) c.args.self.now.named c.spare_tables.new.self.named (spares_first (IsOfTables h) (NamesBlockIn (cluster_size h) (entry_count c.args.self.now.reftable) c.args.self.now.reftable) c.args.self.now.named c.spare_tables.new.self.named (rw c.if-not-spare_tables.true at c.spare_tables.ensures.spares))

pub returns-then-not-spare_tables-clause-sound : goal.returns-then-not-spare_tables-clause-sound
returns-then-not-spare_tables-clause-sound g c = λ p sound is_l1 hint.
    spared_used g.S.Storage.view p c.args.file.now c.args.self.now c.spare_tables.new.self c.args.l1_table.now false c.spare_tables.ensures.rest (returns-then-not-spare_tables-clause-spares g c) sound is_l1 hint

pub returns-then-not-spare_refblocks-clause-rest : goal.returns-then-not-spare_refblocks-clause-rest
returns-then-not-spare_refblocks-clause-rest g c = named_rest c.args.self.now c.spare_tables.new.self c.spare_refblocks.new.self c.spare_tables.ensures.rest c.spare_refblocks.ensures.rest

pub returns-then-not-spare_refblocks-clause-spares : goal.returns-then-not-spare_refblocks-clause-spares
returns-then-not-spare_refblocks-clause-spares g c =
    let h = c.args.file.now.header.fields in
    spares_first (λ k. IsOfTables h k ⊎ NamesBlockIn (cluster_size h) (entry_count c.args.self.now.reftable) c.args.self.now.reftable k) (NamesTableIn (cluster_size h) (entry_count c.args.l1_table.now) c.args.l1_table.now) c.args.self.now.named c.spare_refblocks.new.self.named
    (spares_both (IsOfTables h) (NamesBlockIn (cluster_size h) (entry_count c.args.self.now.reftable) c.args.self.now.reftable) c.args.self.now.named c.spare_tables.new.self.named c.spare_refblocks.new.self.named false (rw c.if-not-spare_tables.false at c.spare_tables.ensures.spares)
    (blocks_as (2 ^ c.cluster_bits-bits.result) (cluster_size h) c.spare_tables.new.self.reftable c.args.self.now.reftable c.spare_tables.new.self.named c.spare_refblocks.new.self.named false (ap (λ n. 2 ^ n) c.cluster_bits-bits.ensures.value) (ap (λ (x : Allocator). x.reftable) c.spare_tables.ensures.rest) (rw c.if-not-spare_refblocks.true at c.spare_refblocks.ensures.spares)))

pub returns-then-not-spare_refblocks-clause-sound : goal.returns-then-not-spare_refblocks-clause-sound
returns-then-not-spare_refblocks-clause-sound g c = λ p sound is_l1 hint.
    spared_used g.S.Storage.view p c.args.file.now c.args.self.now c.spare_refblocks.new.self c.args.l1_table.now false (returns-then-not-spare_refblocks-clause-rest g c) (returns-then-not-spare_refblocks-clause-spares g c) sound is_l1 hint

pub returns-clause-rest : goal.returns-clause-rest
returns-clause-rest g c = named_rest c.args.self.now c.spare_refblocks.new.self c.spare_l2_tables.new.self (named_rest c.args.self.now c.spare_tables.new.self c.spare_refblocks.new.self c.spare_tables.ensures.rest c.spare_refblocks.ensures.rest) c.spare_l2_tables.ensures.rest

pub returns-clause-spares : goal.returns-clause-spares
returns-clause-spares g c =
    let h = c.args.file.now.header.fields in
    spares_both (λ k. IsOfTables h k ⊎ NamesBlockIn (cluster_size h) (entry_count c.args.self.now.reftable) c.args.self.now.reftable k) (NamesTableIn (cluster_size h) (entry_count c.args.l1_table.now) c.args.l1_table.now) c.args.self.now.named c.spare_refblocks.new.self.named c.spare_l2_tables.new.self.named c.spare_l2_tables.result
    (spares_both (IsOfTables h) (NamesBlockIn (cluster_size h) (entry_count c.args.self.now.reftable) c.args.self.now.reftable) c.args.self.now.named c.spare_tables.new.self.named c.spare_refblocks.new.self.named true (rw c.if-not-spare_tables.false at c.spare_tables.ensures.spares)
    (blocks_as (2 ^ c.cluster_bits-bits.result) (cluster_size h) c.spare_tables.new.self.reftable c.args.self.now.reftable c.spare_tables.new.self.named c.spare_refblocks.new.self.named true (ap (λ n. 2 ^ n) c.cluster_bits-bits.ensures.value) (ap (λ (x : Allocator). x.reftable) c.spare_tables.ensures.rest) (rw c.if-not-spare_refblocks.false at c.spare_refblocks.ensures.spares)))
    (tables_as (2 ^ c.cluster_bits-bits.result) (cluster_size h) c.args.l1_table.now c.spare_refblocks.new.self.named c.spare_l2_tables.new.self.named c.spare_l2_tables.result (ap (λ n. 2 ^ n) c.cluster_bits-bits.ensures.value) c.spare_l2_tables.ensures.spares)

pub returns-clause-sound : goal.returns-clause-sound
returns-clause-sound g c = λ p sound is_l1 hint.
    spared_used g.S.Storage.view p c.args.file.now c.args.self.now c.spare_l2_tables.new.self c.args.l1_table.now c.spare_l2_tables.result (returns-clause-rest g c) (returns-clause-spares g c) sound is_l1 hint

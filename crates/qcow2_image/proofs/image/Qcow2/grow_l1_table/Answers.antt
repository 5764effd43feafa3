use Rattle.qcow2_image.proofs.Lemmas.{step_none, is_longer, lengthened, refused_none, as_listed_after, keeps_none, refused, hands_either, hands_limit, other_limit, goes_step, fault_unlimited, short_fault, short_unlimited}
use Rattle.qcow2_image.proofs.image.Qcow2.grow_l1_table.Goals as goal
use Rattle.std.proofs.Common.{◌≤◌, ◌≡◌, ◌<◌, ◌+◌, arith, refl, ap, max, inl, ◌∙◌, subst, rules}
use Rattle.qcow2_image.proofs.Common.{entry_count, EntryTableView, handed_on, Lengthens, nat_tests, of_metadata}

pub returns-then-index-ge-MAX_L1_ENTRIES-clause-lengthens : goal.returns-then-index-ge-MAX_L1_ENTRIES-clause-lengthens
returns-then-index-ge-MAX_L1_ENTRIES-clause-lengthens g c = λ p out sound. refused_none g.S.Storage.view g.F.BackingDisk.backing out p c.args.self.now _ sound

pub returns-in_err-table-clause-lengthens : goal.returns-in_err-table-clause-lengthens
returns-in_err-table-clause-lengthens g c = λ p out sound.
    refused (Lengthens g.S.Storage.view g.F.BackingDisk.backing p c.args.self.now c.args.self.now out) c.from_residual.result c.from_residual.ensures.0 (λ e. refused_none g.S.Storage.view g.F.BackingDisk.backing out p c.args.self.now e sound)

pub returns-in_err-old-clause-lengthens : goal.returns-in_err-old-clause-lengthens
returns-in_err-old-clause-lengthens g c = λ p out sound.
    handed_on (Lengthens g.S.Storage.view g.F.BackingDisk.backing p c.args.self.now c.args.self.now out) c.from_residual-in_err-old.result c.in_err-old.field-0.0 c.from_residual-in_err-old.ensures
    (refused_none g.S.Storage.view g.F.BackingDisk.backing out p c.args.self.now _ sound)

pub returns-in-Ok-clause-lengthens : goal.returns-in-Ok-clause-lengthens
returns-in-Ok-clause-lengthens g c = λ p out sound.
    let old = c.args.self.now in
    let enough : entry_count old.l1_table ≤ c.max-entries.result = omega (arith, c.max-entries.ensures, c.len.ensures.value) in
    let longer = is_longer g.S.Storage.view g.F.BackingDisk.backing out p old sound c.in_ok-table.table _ c.max-entries.result c.in_ok-table.ensures.table c.in_ok-table.ensures.length enough c.in_ok-table.ensures.entries in
    lengthened g.S.Storage.view g.F.BackingDisk.backing out p old sound c.len.ensures.is_table.table.whole c.enter_l1_table.new.self ((c.in-Ok.ensures.sound p out sound longer).takes) c.hand_back.new.list c.in_ok-old.old c.in-Ok.ensures.list
    c.in_ok-old.ensures.run c.hand_back.ensures

pub returns-in-Err-clause-lengthens : goal.returns-in-Err-clause-lengthens
returns-in-Err-clause-lengthens g c = λ p out sound.
    let old = c.args.self.now in
    let enough : entry_count old.l1_table ≤ c.max-entries.result = omega (arith, c.max-entries.ensures, c.len.ensures.value) in
    let longer = is_longer g.S.Storage.view g.F.BackingDisk.backing out p old sound c.in_ok-table.table _ c.max-entries.result c.in_ok-table.ensures.table c.in_ok-table.ensures.length enough c.in_ok-table.ensures.entries in
    (c.in-Err.ensures.sound p out sound longer).takes

pub returns-then-index-ge-MAX_L1_ENTRIES-clause-limit : goal.returns-then-index-ge-MAX_L1_ENTRIES-clause-limit
returns-then-index-ge-MAX_L1_ENTRIES-clause-limit g c = λ p out sound offset at is.
    let past : 4194304 ≤ c.args.index = let past = c.if-index-ge-MAX_L1_ENTRIES.true in grind (arith, nat_tests) in
    record { mid = c.args.self.now; before = goes_step step_none; kept = as_listed_after g.S.Storage.view g.F.BackingDisk.backing out p c.args.self.now c.args.self.now refl (keeps_none g.S.Storage.view g.F.BackingDisk.backing out p c.args.self.now sound); offset = offset; below = omega arith; limit = inl (subst (λ i. 4194304 ≤ i) at past) }

pub returns-in_err-table-clause-limit : goal.returns-in_err-table-clause-limit
returns-in_err-table-clause-limit g c = λ p out sound offset at.
    let few : c.max-entries.result ≤ 4194304 = let low = c.if-index-ge-MAX_L1_ENTRIES.false in let index : c.args.index < 4194304 = grind (arith, nat_tests) in omega (arith, index, c.max-entries.ensures, c.len.ensures.value, c.len.ensures.limit) in
    hands_limit c.from_residual.result (of_metadata c.in_err-table.field-0.0) c.from_residual.ensures
    (other_limit _ (of_metadata c.in_err-table.field-0.0) (short_unlimited (4194304 < c.max-entries.result) (λ past. omega (arith, few, past)) c.in_err-table.field-0.0 c.in_err-table.ensures.err))

pub returns-in_err-old-clause-limit : goal.returns-in_err-old-clause-limit
returns-in_err-old-clause-limit g c = λ p out sound offset at.
    hands_limit c.from_residual-in_err-old.result c.in_err-old.field-0.0 c.from_residual-in_err-old.ensures
    (other_limit _ c.in_err-old.field-0.0 (fault_unlimited c.in_err-old.field-0.0 c.in_err-old.ensures.fault))

pub returns-in-Err-clause-limit : goal.returns-in-Err-clause-limit
returns-in-Err-clause-limit g c = λ p out sound offset at.
    let old = c.args.self.now in
    let enough : entry_count old.l1_table ≤ c.max-entries.result = omega (arith, c.max-entries.ensures, c.len.ensures.value) in
    let longer = is_longer g.S.Storage.view g.F.BackingDisk.backing out p old sound c.in_ok-table.table _ c.max-entries.result c.in_ok-table.ensures.table c.in_ok-table.ensures.length enough c.in_ok-table.ensures.entries in
    (c.in-Err.ensures.sound p out sound longer).limit offset (omega (arith, c.in_ok-table.ensures.length, c.max-entries.ensures, c.len.ensures.value, at))

pub returns-in-Ok-clause-placed : goal.returns-in-Ok-clause-placed
returns-in-Ok-clause-placed g c = λ bits.
    let few : c.max-entries.result ≤ 4194304 = let low = c.if-index-ge-MAX_L1_ENTRIES.false in let index : c.args.index < 4194304 = grind (arith, nat_tests) in omega (arith, index, c.max-entries.ensures, c.len.ensures.value, c.len.ensures.limit) in
    c.in-Ok.ensures.placed (omega (arith, few, c.in_ok-table.ensures.length)) (ap (λ (t : EntryTableView). t.cluster_bits) c.in_ok-table.ensures.table ∙ bits)

pub returns-in_err-table-clause-fault : goal.returns-in_err-table-clause-fault
returns-in_err-table-clause-fault g c = λ writable p out sound.
    let few : c.max-entries.result ≤ 4194304 = let low = c.if-index-ge-MAX_L1_ENTRIES.false in let index : c.args.index < 4194304 = grind (arith, nat_tests) in omega (arith, index, c.max-entries.ensures, c.len.ensures.value, c.len.ensures.limit) in
    hands_either c.from_residual.result (of_metadata c.in_err-table.field-0.0) c.from_residual.ensures
    (inl (short_fault (4194304 < c.max-entries.result) (λ past. omega (arith, few, past)) c.in_err-table.field-0.0 c.in_err-table.ensures.err))

pub returns-in_err-old-clause-fault : goal.returns-in_err-old-clause-fault
returns-in_err-old-clause-fault g c = λ writable p out sound. hands_either c.from_residual-in_err-old.result c.in_err-old.field-0.0 c.from_residual-in_err-old.ensures (inl c.in_err-old.ensures.fault)

pub returns-in-Err-clause-fault : goal.returns-in-Err-clause-fault
returns-in-Err-clause-fault g c = λ writable p out sound.
    let old = c.args.self.now in
    let t = c.in_ok-table.table in
    let enough : entry_count old.l1_table ≤ c.max-entries.result = omega (arith, c.max-entries.ensures, c.len.ensures.value) in
    let longer = is_longer g.S.Storage.view g.F.BackingDisk.backing out p old sound t _ c.max-entries.result c.in_ok-table.ensures.table c.in_ok-table.ensures.length enough c.in_ok-table.ensures.entries in
    let many : entry_count t ≡ max (entry_count old.l1_table) (c.args.index + 1) = omega (arith, c.in_ok-table.ensures.length, c.max-entries.ensures, c.len.ensures.value) in
    (c.in-Err.ensures.sound p out sound longer).fault writable (omega (arith, many))

pub returns-then-index-ge-MAX_L1_ENTRIES-clause-step : goal.returns-then-index-ge-MAX_L1_ENTRIES-clause-step
returns-then-index-ge-MAX_L1_ENTRIES-clause-step g c = step_none

pub returns-in_err-table-clause-step : goal.returns-in_err-table-clause-step
returns-in_err-table-clause-step g c = step_none

pub returns-in_err-old-clause-step : goal.returns-in_err-old-clause-step
returns-in_err-old-clause-step g c = step_none

pub returns-in-Ok-clause-step : goal.returns-in-Ok-clause-step
returns-in-Ok-clause-step g c = record { stays = search rules; notes = c.enter_l1_table.ensures.step.notes; header_cluster = c.enter_l1_table.ensures.step.header_cluster (ap (λ (t : EntryTableView). t.cluster_bits) c.in_ok-table.ensures.table) }

pub returns-in-Err-clause-step : goal.returns-in-Err-clause-step
returns-in-Err-clause-step g c = record { stays = search rules; notes = c.enter_l1_table.ensures.step.notes; header_cluster = c.enter_l1_table.ensures.step.header_cluster (ap (λ (t : EntryTableView). t.cluster_bits) c.in_ok-table.ensures.table) }

use Rattle.std.proofs.Common.{◌≡◌, ◌==◌, ◌*◌, ◌^◌, ◌≤◌, ap, ◌∙◌, arith}
use Rattle.qcow2_check.proofs.Common.{pow_mono, byte_at, l2_entry, cover_of, entry_cover}
use Rattle.qcow2_check.proofs.Grow.{l2_table_none, l2_table_more}
use Rattle.qcow2_check.proofs.Ranges.{times_le}
use Rattle.qcow2_check.proofs.entries.names_of_l2_table.Goals as goal

pub loop-j-init : goal.loop-j-init
loop-j-init c = record { grows = l2_table_none c.args.header.now (byte_at c.args.table.now) c.args.times _; total = omega arith }

pub loop-j-preserved : goal.loop-j-preserved
loop-j-preserved c =
    let is : c.of_entry-cover.result ≡ entry_cover c.args.header.now (l2_entry (byte_at c.args.table.now) 0 c.loop-j.j) =
    c.of_entry-cover.ensures.value
    ∙ ap (λ e. cover_of c.args.header.now.cluster_bits (c.args.header.now.version == 3) e c.entry_at-entry.result) c.has_external_data-external.ensures
    ∙ ap (entry_cover c.args.header.now) c.entry_at-entry.ensures in
    record {
      grows = l2_table_more c.args.header.now (byte_at c.args.table.now) c.args.times c.loop-j.j _ _ _ _ is c.loop-j.invariant.grows c.in_ok-names_of_cover.ensures.grows;
      total = omega (arith, c.in_ok-names_of_cover.ensures.total);
    }

pub names_of_cover-requires-clause-room : goal.names_of_cover-requires-clause-room
names_of_cover-requires-clause-room c =
    let few : 2 ^ c.args.header.now.cluster_bits ≤ 2 ^ 21 = pow_mono c.requires.bits in
    let most = times_le c.args.times (c.loop-j.j * 2 ^ 15) (2 ^ 33) (omega arith) in
    omega arith

pub returns-clause-total : goal.returns-clause-total
returns-clause-total c =
    let few : 2 ^ c.args.header.now.cluster_bits ≤ 2 ^ 21 = pow_mono c.requires.bits in
    let most = times_le c.args.times (c.loop-j.j * 2 ^ 15) (2 ^ 33) (omega arith) in
    omega arith

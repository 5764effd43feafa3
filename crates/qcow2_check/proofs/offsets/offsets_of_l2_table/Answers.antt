use Rattle.std.proofs.Common.{◌≡◌, ◌==◌, ◌^◌, ◌≤◌, arith, ap, ◌∙◌}
use Rattle.qcow2_check.proofs.Common.{pow_mono, byte_at, l2_entry, cover_of, entry_cover, host_of, off_cluster_if}
use Rattle.qcow2_check.proofs.OffsetSteps.{times_terms_none, times_terms_more}
use Rattle.qcow2_check.proofs.Ranges.{times_le}
use Rattle.qcow2_check.proofs.offsets.offsets_of_l2_table.Goals as goal

pub loop-j-init : goal.loop-j-init
loop-j-init c = record { grows = times_terms_none c.args.times (λ o j. off_cluster_if c.args.header.now o (host_of (entry_cover c.args.header.now (l2_entry (byte_at c.args.table.now) 0 j)))) _; total = omega arith }

pub loop-j-preserved : goal.loop-j-preserved
loop-j-preserved c =
    let is : c.of_entry-cover.result ≡ entry_cover c.args.header.now (l2_entry (byte_at c.args.table.now) 0 c.loop-j.j) =
    c.of_entry-cover.ensures.value
    ∙ ap (λ e. cover_of c.args.header.now.cluster_bits (c.args.header.now.version == 3) e c.entry_at-entry.result) c.has_external_data-external.ensures
    ∙ ap (entry_cover c.args.header.now) c.entry_at-entry.ensures in
    record {
      grows = times_terms_more c.args.times (λ o j. off_cluster_if c.args.header.now o (host_of (entry_cover c.args.header.now (l2_entry (byte_at c.args.table.now) 0 j)))) c.loop-j.j _ _ _ _
          (λ o. ap (λ v. off_cluster_if c.args.header.now o (host_of v)) is) c.loop-j.invariant.grows c.in_ok-offset_of_cover.ensures.grows;
      total = omega (arith, c.in_ok-offset_of_cover.ensures.total);
    }

pub offset_of_cover-requires-clause-room : goal.offset_of_cover-requires-clause-room
offset_of_cover-requires-clause-room c =
    let few : 2 ^ c.args.header.now.cluster_bits ≤ 2 ^ 21 = pow_mono c.requires.bits in
    let most = times_le c.args.times c.loop-j.j (2 ^ 33) (omega arith) in
    omega arith

pub returns-clause-total : goal.returns-clause-total
returns-clause-total c =
    let few : 2 ^ c.args.header.now.cluster_bits ≤ 2 ^ 21 = pow_mono c.requires.bits in
    let most = times_le c.args.times c.loop-j.j (2 ^ 33) (omega arith) in
    omega arith

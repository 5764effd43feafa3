use Rattle.std.proofs.Common.{◌≡◌, ◌^◌, ◌%◌, ◌≤◌, length, ap, sym, ◌∙◌, arith, refl}
use Rattle.qcow2_check.proofs.Common.{pow_mono, option_copied, byte_at, cluster_size, stand_at-loaded}
use Rattle.qcow2_check.proofs.CountSteps.{whole_cluster, read_counts}
use Rattle.qcow2_check.proofs.KeptBlocks.{keeps_placeless, keeps_known, keeps_read}
use Rattle.qcow2_check.proofs.Reading.{reads_another}
use Rattle.qcow2_check.proofs.counts.number_of_block.Goals as goal

pub of-requires-clause-whole : goal.of-requires-clause-whole
of-requires-clause-whole g c =
    let long : length c.read_at.new.buf ≡ cluster_size c.args.header.now = omega arith in
    ap (λ n. n % 8) long ∙ whole_cluster _ c.requires.bits.0

pub of-requires-clause-short : goal.of-requires-clause-short
of-requires-clause-short g c =
    let long : length c.read_at.new.buf ≡ cluster_size c.args.header.now = omega arith in
    let few : cluster_size c.args.header.now ≤ 2 ^ 21 = pow_mono c.requires.bits.1 in
    omega arith

pub returns-then-place-eq0-clause-keeps : goal.returns-then-place-eq0-clause-keeps
returns-then-place-eq0-clause-keeps g c honest keeps =
    keeps_placeless c.args.header.now (byte_at (g.S.Storage.view c.args.storage.now).contents) c.args.blocks.now.items c.args.numbers.now c.args.place c.if-place-eq0.true keeps

pub returns-in-Some-clause-keeps : goal.returns-in-Some-clause-keeps
returns-in-Some-clause-keeps g c honest keeps =
    keeps_known c.args.header.now (byte_at (g.S.Storage.view c.args.storage.now).contents) c.args.blocks.now.items c.args.numbers.now c.args.place c.in-Some.number.now
    (sym c.get.ensures.value ∙ ap option_copied c.in-Some.is) keeps

pub returns-clause-keeps : goal.returns-clause-keeps
returns-clause-keeps g c honest keeps =
    let h = c.args.header.now in
    let contents = (g.S.Storage.view c.args.storage.now).contents in
    let long : length c.read_at.new.buf ≡ cluster_size h = omega arith in
    keeps_read h (byte_at contents) c.args.blocks.now.items c.args.numbers.now c.args.place c.push.new.self.items c.insert.new.self c.in_ok-block.block c.len-number.result c.if-place-eq0.false
    c.in_ok-push.ensures.items (omega arith)
    c.in_ok-insert.ensures.updates.1 c.in_ok-insert.ensures.updates.2
    (λ j inside. c.in_ok-block.ensures j (rw long inside)
    ∙ read_counts h (byte_at contents) c.read_at.new.buf c.args.place c.requires.order (whole_cluster _ c.requires.bits.0) c.if-place-eq0.false
    (stand_at-loaded contents _ _ _ c.read_at.new.buf (c.in_ok-read_at.ensures.read honest) refl) long j inside) keeps

pub returns-clause-reading : goal.returns-clause-reading
returns-clause-reading g c = reads_another _ _ c.in_ok-read_at.ensures.reading

use Rattle.std.proofs.Common.{◌≡◌, ◌<◌, ◌/◌, ℕ, List, length, get_or, ap, sym, subst, ◌∙◌, arith, inl, inr, length-append}
use Rattle.qcow2_check.proofs.Common.{cases_lt, byte_at, block_offset, entry_at, HasBlock, KeepsBlocks, KeepsMore}
use Rattle.qcow2_check.proofs.KeptBlocks.{placed_before, placed_last, all_kept}
use Rattle.qcow2_check.proofs.Reading.{reads_another, reads_then, reads_refused, reads_short, refused_as}
use Rattle.qcow2_check.proofs.kept.Counts.load.Goals as goal

pub loop-k-preserved : goal.loop-k-preserved
loop-k-preserved g c =
    let h = c.args.header.now in
    let contents = (g.S.Storage.view c.args.storage.now).contents in
    let k = c.loop-k.k in
    let xs = c.loop-k.numbers.items in
    let items = c.push.new.self.items in
    let place = c.block_offset-place.result in
    let number = c.in_ok-number.number in
    let pushed = c.in_ok-push.ensures.items in
    let blocks = c.number_of_block.new.blocks.items in
    let at : ℕ → ℕ = λ i. block_offset (entry_at c.args.reftable.now i) in
    let here : place ≡ at k = c.block_offset-place.ensures ∙ ap block_offset c.entry_at.ensures in
    let before : (i : ℕ) → i < k → get_or items i 0 ≡ get_or xs i 0 = λ i lt. placed_before xs items number i pushed (omega (arith, c.loop-k.invariant.long)) in
    let last : (i : ℕ) → i ≡ k → get_or items i 0 ≡ number = λ i same. placed_last xs items number i pushed (c.loop-k.invariant.long ∙ sym same) in
    let K : List ℕ → Type 0 = λ b. KeepsBlocks h (byte_at b) c.loop-k.blocks.items c.loop-k.known in
    let M : List ℕ → Type 0 = λ b. KeepsMore h (byte_at b) c.loop-k.blocks.items blocks c.number_of_block.new.numbers place number in
    let more : (g.S.Storage.view c.args.storage.now).is_honest → M contents = λ honest.
    let same = c.loop-k.invariant.reading.same honest in
    subst M same (c.in_ok-number.ensures.keeps (c.loop-k.invariant.reading.honest honest) (subst K (sym same) (c.loop-k.invariant.keeps honest))) in
    let H : ℕ → ℕ → Type 0 = λ i n. HasBlock h (byte_at contents) blocks n (at i) in
    let P : ℕ → Type 0 = HasBlock h (byte_at contents) blocks number in
    record {
      long = omega (arith, ap length pushed, simp length-append at (ap length pushed), c.loop-k.invariant.long);
      keeps = λ honest. (more honest).keeps;
      each = λ honest i lt. elim (cases_lt i k) [
        | inl less ↦ subst (H i) (sym (before i less)) ((more honest).others _ _ (c.loop-k.invariant.each honest i less))
        | inr from ↦ let same : i ≡ k = omega arith in subst (H i) (sym (last i same)) (subst P (here ∙ ap at (sym same)) (more honest).here)
      ];
      reading = reads_then c.loop-k.invariant.reading (reads_another _ _ c.in_ok-number.ensures.reading);
    }

pub returns-clause-counts : goal.returns-clause-counts
returns-clause-counts g c honest are q =
    let h = c.args.header.now in
    let b = byte_at (g.S.Storage.view c.args.storage.now).contents in
    let all : c.loop-k.k ≡ length c.args.reftable.now / 8 = omega arith in
    let H : ℕ → ℕ → Type 0 = λ i e. HasBlock h b c.loop-k.blocks.items (get_or c.loop-k.numbers.items i 0) (block_offset e) in
    all_kept h b _ c.loop-k.k c.counts_per_block_of-per_block.ensures.value c.loop-k.invariant.long (omega (arith, all, c.requires.long))
    (λ i lt. subst (H i) (are i) (c.loop-k.invariant.each honest i lt)) q

pub returns-in_err-push-clause-reading : goal.returns-in_err-push-clause-reading
returns-in_err-push-clause-reading g c =
    rw (refused_as _ c.from_residual-in_err-push.ensures.1) (reads_short (reads_then c.loop-k.invariant.reading c.in_ok-number.ensures.reading))

pub returns-in_err-number-clause-reading : goal.returns-in_err-number-clause-reading
returns-in_err-number-clause-reading g c =
    rw (refused_as _ c.from_residual.ensures.1) (reads_then c.loop-k.invariant.reading (reads_refused c.in_err-number.ensures.reading))

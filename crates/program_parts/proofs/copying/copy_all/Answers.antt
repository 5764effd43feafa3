use Rattle.std.proofs.Common.{◌≡◌, ◌<◌, arith, length, take}
use Rattle.program_parts.proofs.Common.{common_steps}
use Rattle.program_parts.proofs.Copied.{copied_piece, keeps_more}
use Rattle.program_parts.proofs.copying.copy_all.Goals as goal

pub pieces-preserved : goal.pieces-preserved
pieces-preserved g c =
    let raw = g.R.Storage.view in
    let copy = g.S.Storage.view in
    let so_far = c.pieces.invariant in
    let count = length (take c.min-count.result c.pieces.bytes) in
    let long : count ≡ c.min-count.result = grind (arith, common_steps) in
    let some : 0 < c.min-count.result = grind (arith, common_steps) in
    record {
      within = grind (arith, common_steps);
      step = keeps_more _ (raw c.pieces.raw) _ _ (copy c.pieces.copy) _ so_far.step c.copy_piece.ensures.step;
      copied = λ raw_honest copy_honest none.
          copied_piece (raw c.args.raw.now) (raw c.pieces.raw) (copy c.pieces.copy).contents (copy c.copy_piece.new.copy).contents c.pieces.at count c.min-count.result long some
          (so_far.step.raw_left raw_honest).1 (so_far.copied raw_honest copy_honest none)
          (c.in_ok-copy_piece.ensures.sound (so_far.step.raw_left raw_honest).0 (so_far.step.honest copy_honest));
    }

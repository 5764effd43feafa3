use Rattle.std.proofs.Common.{◌+◌, ◌-◌, ◌*◌, ◌/◌, refl, sym, ap, ◌∙◌, arith}
use Rattle.qcow2_check.proofs.Common.{option_copied, div-add-mod', mod_below}
use Rattle.qcow2_check.proofs.KeptBlocks.{count_under_block, zeros_in_block, zeros_to_end, zeros_without_block}
use Rattle.qcow2_check.proofs.kept.Counts.next_counted.Goals as goal
use Rattle.qcow2_check.proofs.kept.Counts.next_counted.Goals.{in-Some+else-j-min, in_default}

pub returns-then-j-min-clause-zeros : goal.returns-then-j-min-clause-zeros
returns-then-j-min-clause-zeros c =
    let counts = c.args.self.now in
    let k = c.args.cluster / counts.per_block in
    let down = div-add-mod' c.args.cluster counts.per_block in
    zeros_in_block counts c.args.cluster (k * counts.per_block) k c.next_counted-j.result c.in-Some.block.now refl (omega (arith, down))
    (sym c.block.ensures ∙ ap option_copied c.in-Some.is) (omega arith) c.next_counted-j.ensures.zeros

pub returns-then-j-min-clause-count : goal.returns-then-j-min-clause-count
returns-then-j-min-clause-count c =
    let counts = c.args.self.now in
    let k = c.args.cluster / counts.per_block in
    let j = c.next_counted-j.result in
    c.count.ensures ∙ sym (count_under_block counts k j (k * counts.per_block + j) c.in-Some.block.now refl (omega arith) (sym c.block.ensures ∙ ap option_copied c.in-Some.is))

-- without a count from the cluster on, none is there up to the last under the entry
pub returns-clause-zeros : goal.returns-clause-zeros
returns-clause-zeros c =
    let counts = c.args.self.now in
    let k = c.args.cluster / counts.per_block in
    let down = div-add-mod' c.args.cluster counts.per_block in
    elim c.match-block.branch [
      | in-Some+else-j-min w ↦ λ q ge lt.
          zeros_in_block counts c.args.cluster (k * counts.per_block) k counts.per_block w.in-Some.block.now refl (omega (arith, down))
          (sym c.block.ensures ∙ ap option_copied w.in-Some.is) (omega arith)
          (zeros_to_end w.in-Some.block.now _ w.next_counted-j.result counts.per_block (λ kept. omega arith) w.next_counted-j.ensures.zeros) q ge (omega arith)
      | in_default w ↦ λ q ge lt.
          zeros_without_block counts c.args.cluster (k * counts.per_block) k refl (omega (arith, down)) (sym c.block.ensures ∙ ap option_copied w.in_default.is) q ge (omega arith)
    ]

pub returns-clause-count : goal.returns-clause-count
returns-clause-count c =
    let counts = c.args.self.now in
    let k = c.args.cluster / counts.per_block in
    let last = k * counts.per_block + counts.per_block - 1 in
    let down = div-add-mod' c.args.cluster counts.per_block in
    let less = mod_below c.args.cluster counts.per_block counts.some in
    let some = counts.some in
    sym (elim c.match-block.branch [
      | in-Some+else-j-min w ↦
          zeros_in_block counts c.args.cluster (k * counts.per_block) k counts.per_block w.in-Some.block.now refl (omega (arith, down))
          (sym c.block.ensures ∙ ap option_copied w.in-Some.is) (omega arith)
          (zeros_to_end w.in-Some.block.now _ w.next_counted-j.result counts.per_block (λ kept. omega arith) w.next_counted-j.ensures.zeros)
          last (omega (arith, down, less)) (omega (arith, some))
      | in_default w ↦
          zeros_without_block counts c.args.cluster (k * counts.per_block) k refl (omega (arith, down)) (sym c.block.ensures ∙ ap option_copied w.in_default.is)
          last (omega (arith, down, less)) (omega (arith, some))
    ])

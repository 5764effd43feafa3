use Rattle.std.proofs.Common.{◌-◌, ◌<◌, ap, sym, ◌∙◌, arith}
use Rattle.qcow2_check.proofs.Common.{slice_get, block_numbered}
use Rattle.qcow2_check.proofs.KeptBlocks.{lent_at, numbered_some}
use Rattle.qcow2_check.proofs.kept.Counts.block.Goals as goal

pub returns-in-0 : goal.returns-in-0
returns-in-0 c = sym (ap (block_numbered c.args.self.now.blocks.items) (sym c.number.ensures ∙ c.in-0.is))

pub returns-in_default : goal.returns-in_default
returns-in_default c =
    let blocks = c.args.self.now.blocks.items in
    let n = c.number.result in
    let some : 0 < n = omega arith in
    lent_at c.deref.result.now (n - 1) c.get.result c.get.ensures.lookup.0 c.get.ensures.lookup.1
    ∙ ap (λ bs. slice_get bs (n - 1)) c.deref.ensures.value ∙ numbered_some blocks n some ∙ ap (block_numbered blocks) c.number.ensures

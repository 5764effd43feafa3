use Rattle.std.proofs.Common.{◌≡◌}
use Rattle.qimg_tools.proofs.touched.Touched.add_l2_tables.Given as goal

abbrev pub invariant-loop-index : goal.invariant-loop-index
invariant-loop-index g l = (g.S.Storage.view l.fn.storage).is_honest → (g.S.Storage.view l.storage).is_honest × ((g.S.Storage.view l.storage).contents ≡ (g.S.Storage.view l.fn.storage).contents)

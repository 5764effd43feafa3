use Rattle.std.proofs.Common.{◌≡◌, ◌-◌, ◌≤◌, length}
use Rattle.program_parts.proofs.Common.{IsCopiedUpTo, KeepsBoth}
use Rattle.program_parts.proofs.copying.copy_all.Given as goal

abbrev pub invariant-pieces : goal.invariant-pieces
invariant-pieces g l = record {
  within : l.at ≤ l.size;
  step : KeepsBoth (g.R.Storage.view l.fn.raw) (g.R.Storage.view l.raw) (g.S.Storage.view l.fn.copy) (g.S.Storage.view l.copy);
  copied : (g.R.Storage.view l.fn.raw).is_honest → (g.S.Storage.view l.fn.copy).is_honest → length (g.S.Storage.view l.fn.copy).contents ≡ 0
      → IsCopiedUpTo l.at (g.R.Storage.view l.fn.raw).contents (g.S.Storage.view l.copy).contents;
}

abbrev pub decreases-pieces : goal.decreases-pieces
decreases-pieces g l = l.size - l.at

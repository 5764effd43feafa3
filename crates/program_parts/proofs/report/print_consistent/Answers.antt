use Rattle.std.proofs.Common.{◌∷◌, ◌++◌, ℕ, List, [], OnOk, codes, sym, subst, append_assoc}
use Rattle.program_parts.proofs.Common.{Appends}
use Rattle.std.specs.Fmt.{decimal}
use Rattle.program_parts.proofs.report.print_consistent.Goals as goal

pub returns : goal.returns
returns g c =
    let P : List ℕ → Type 0 = λ rest. OnOk c.writeln.result (Appends (g.W.Write.contents c.args.output.now) (g.W.Write.contents c.writeln.new.self) (codes "consistent, " ++ rest)) in
    subst P (sym (append_assoc (decimal c.args.leaks) (codes " leaked") (10 ∷ []))) c.writeln.ensures.bytes

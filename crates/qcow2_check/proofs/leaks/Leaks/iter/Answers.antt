use Rattle.std.proofs.Common.{◌≤◌, ◌^◌, List, length, subst, ◌∙◌}
use Rattle.qcow2_check.proofs.Common.{Leak}
use Rattle.qcow2_check.proofs.LeakLists.{leaks_all, few_leaks}
use Rattle.qcow2_check.proofs.leaks.Leaks.iter.Goals as goal

pub returns : goal.returns
returns c = record {
  all = leaks_all c.self.inside.names c.self.inside.counts ∙ c.self.view_is;
  few = let P : List Leak → Type 0 = λ leaks. length leaks ≤ 2 ^ 44 in subst P c.self.view_is (few_leaks c.self.inside.names c.self.inside.counts);
}

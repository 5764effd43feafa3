use Rattle.std.proofs.Common.{◌≡◌, None, ap, rules, IsSome}
use Rattle.qcow2_image.proofs.Common.{Qcow2}
use Rattle.qcow2_image.proofs.Preallocate.Piece.{commits_entered, commits_existing}
use Rattle.qcow2_image.proofs.Call.ImageSteps.{step_then}
use Rattle.qcow2_image.proofs.image.Qcow2.commit_filled.Goals as goal

pub returns-then-is_none-clause-commits : goal.returns-then-is_none-clause-commits
returns-then-is_none-clause-commits g c = λ out k placed sound.
    let none : c.args.prepared.table ≡ None = search rules in
    commits_existing g.S.Storage.view g.F.BackingDisk.backing c.args.self.now c.args.prepared c.release_prepared.new.self out k placed sound none c.release_prepared.ensures.sees c.release_prepared.ensures.rest

pub returns-clause-commits : goal.returns-clause-commits
returns-clause-commits g c = λ out k placed sound.
    let some : IsSome c.args.prepared.table = search rules in
    commits_entered g.S.Storage.view g.F.BackingDisk.backing c.args.self.now c.args.prepared c.release_prepared-2.new.self out k placed sound c.enter_mappings-entered.new.self c.enter_mappings-entered.new.prepared c.enter_mappings-entered.result some
    (ap (λ (image : Qcow2 _ _). image.allocator) c.enter_mappings-entered.ensures.rest) c.enter_mappings-entered.ensures.enters c.enter_mappings-entered.ensures.in_place c.release_prepared-2.ensures.sees c.release_prepared-2.ensures.rest

pub returns-clause-step : goal.returns-clause-step
returns-clause-step g c = step_then c.enter_mappings-entered.ensures.step c.release_prepared-2.ensures.step

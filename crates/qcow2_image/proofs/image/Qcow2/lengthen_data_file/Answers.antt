use Rattle.std.proofs.Common.{◌∙◌, sym}
use Rattle.qcow2_image.proofs.Call.DataFiles.{data_file_none, none_by_guest}
use Rattle.qcow2_image.proofs.image.Qcow2.lengthen_data_file.Goals as goal

pub returns-then-allocates-clause-step : goal.returns-then-allocates-clause-step
returns-then-allocates-clause-step g c = data_file_none c.args.self.now

pub returns-clause-step : goal.returns-clause-step
returns-clause-step g c = data_file_none c.args.self.now

pub returns-then-is_placed_by_guest-clause-none : goal.returns-then-is_placed_by_guest-clause-none
returns-then-is_placed_by_guest-clause-none g c = λ none. absurd (none_by_guest c.args.self.now none (sym c.is_placed_by_guest.ensures ∙ c.if-is_placed_by_guest.true))

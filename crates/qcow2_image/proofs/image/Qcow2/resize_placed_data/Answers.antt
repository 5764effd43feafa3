use Rattle.qcow2_image.proofs.Call.DataFiles.{data_file_none}
use Rattle.qcow2_image.proofs.image.Qcow2.resize_placed_data.Goals as goal

pub returns-clause-step : goal.returns-clause-step
returns-clause-step g c = data_file_none c.args.self.now

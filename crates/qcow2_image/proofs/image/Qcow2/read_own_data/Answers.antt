use Rattle.std.proofs.Common.{rules}
use Rattle.qcow2_image.proofs.Common.{notes_of_storage, read_kept}
use Rattle.qcow2_image.proofs.Lemmas.{read_moved, behind_read, reads_bytes}
use Rattle.qcow2_image.proofs.image.Qcow2.read_own_data.Goals as goal

pub returns-in_err-read-clause-data : goal.returns-in_err-read-clause-data
returns-in_err-read-clause-data g c = record {
  rest = search rules;
  same = search rules;
  quiet = search rules;
  keeps = λ p out sound. read_moved g.S.Storage.view g.F.BackingDisk.backing c.args.self.now out p sound c.read.new.self c.read.ensures.calls c.read.ensures.same;
}

pub returns-clause-data : goal.returns-clause-data
returns-clause-data g c = record {
  rest = search rules;
  same = search rules;
  quiet = search rules;
  keeps = λ p out sound. read_moved g.S.Storage.view g.F.BackingDisk.backing c.args.self.now out p sound c.read.new.self c.read.ensures.calls c.read.ensures.same;
}

pub returns-in_err-read-clause-step : goal.returns-in_err-read-clause-step
returns-in_err-read-clause-step g c = record {
  header = search rules;
  list = search rules;
  part = record { stays = search rules; notes = notes_of_storage (read_kept _ _ c.read.result c.read.ensures.calls c.read.ensures.same c.read.ensures.unrecorded); header_cluster = behind_read c.read.result c.read.ensures.calls c.read.ensures.same };
  quiet = reads_bytes g.S.Storage.view c.args.self.now c.read.new.self c.read.result c.read.ensures.calls c.read.ensures.same;
}

pub returns-clause-step : goal.returns-clause-step
returns-clause-step g c = record {
  header = search rules;
  list = search rules;
  part = record { stays = search rules; notes = notes_of_storage (read_kept _ _ c.read.result c.read.ensures.calls c.read.ensures.same c.read.ensures.unrecorded); header_cluster = behind_read c.read.result c.read.ensures.calls c.read.ensures.same };
  quiet = reads_bytes g.S.Storage.view c.args.self.now c.read.new.self c.read.result c.read.ensures.calls c.read.ensures.same;
}

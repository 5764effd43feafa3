use Rattle.qcow2_metadata.proofs.NewHeader.{format_short, data_file_short}
use Rattle.qcow2_metadata.proofs.header.create.new_fields.Goals as goal

pub name_place-place-requires-clause-format : goal.name_place-place-requires-clause-format
name_place-place-requires-clause-format c = format_short _ _ _ _ _ c.requires

pub name_place-place-requires-clause-data_file : goal.name_place-place-requires-clause-data_file
name_place-place-requires-clause-data_file c = data_file_short _ _ _ _ _ c.requires

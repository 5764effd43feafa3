use Rattle.image_access.proofs.Bytes.{byte_at-resized_past}
use Rattle.image_access.proofs.laws.resizes_are_read.Goals as goal

pub returns-clause-past : goal.returns-clause-past
returns-clause-past c = byte_at-resized_past

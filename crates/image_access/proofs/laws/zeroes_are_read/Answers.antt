use Rattle.image_access.proofs.Bytes.{byte_at-zeroed}
use Rattle.image_access.proofs.laws.zeroes_are_read.Goals as goal

pub returns : goal.returns
returns c = byte_at-zeroed

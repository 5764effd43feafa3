use Rattle.image_access.proofs.Bytes.{length-overwritten, overwritten_none}
use Rattle.image_access.proofs.laws.writes_are_read.Goals as goal

pub returns-clause-size : goal.returns-clause-size
returns-clause-size c = λ contents bytes at. length-overwritten contents at bytes

pub returns-clause-empty : goal.returns-clause-empty
returns-clause-empty c = λ contents bytes at. overwritten_none contents at bytes
